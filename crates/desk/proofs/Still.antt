-- What one request does to the jobs ever listed: nothing that has started moves, nothing is lost. Assumes nothing.
use Prim.Native.Nat.{ℕ, zero, suc, ◌+◌, ◌-◌, ◌<◌, ◌≤◌, max}
use mathlib.Core.Path.{◌≡◌, refl, sym, ap, subst, ◌∙◌}
use mathlib.Core.Bool.{Bool, true, false}
use mathlib.Core.List.{List, [], ◌∷◌, ◌++◌}
use native.Mathlib.Omega.{arith}
use lib.Dec.{ltb}
use lib.ListN.{length, take, get_or, length-append, get_or-append}
use lib.Seq.{take-append-add, get_or-append-add}
use borrow.Author.Tests.{ltb-true, ltb-false}
use Rattle.rules.specs.declared.Refusal.{Refusal}
use Rattle.desk.specs.declared.Job.{Job}
use Rattle.desk.specs.declared.Asked.{Asked}
use Rattle.std.specs.Prelude.{Result, Ok, Err}
use Rattle.desk.specs.declared.Done.{Done}
use Rattle.desk.specs.declared.Done.TheVariants.{Taken}
use Rattle.desk.specs.Table.{job, filled, table_ok, open_of, Outcome}
use Rattle.desk.specs.Places.{shift}
use Rattle.desk.specs.Request.{kept, insert_at}
use Rattle.desk.specs.Story.{Entry, entry, no_entry, ended, unended, standing, entries, Story, live, ever, begin, after, next, many, Later, Joined, count_taken, takens, Fixed}
use Rattle.desk.proofs.Spot.{spot_start, spot_inside, length_shift, length_insert}
use Rattle.desk.proofs.Rules.{Ending, same, dropped, taken, ending, open_is}
use Rattle.desk.proofs.Entries.{starting, with_entry, Follow, Line, line-entries, follow_kept, follow_shift, entries-kept, line-held}
use Rattle.desk.proofs.Promise.{take-filled, table, Kept, kept-good, drop-same, kept_next, kept-begin}

-- the jobs after a new one, each not earlier
later-shift : (e : ℕ) (gs : List Entry) (js : List Job) → Follow gs js → (m : ℕ) → m < length (entries gs js)
    → Later (get_or (entries gs js) m no_entry) (get_or (entries gs (shift e js)) m no_entry)
later-shift e [] js f m h = absurd (omega arith)
later-shift e (g ∷ gs) [] f m h = absurd f
later-shift e (g ∷ gs) (j ∷ js) f zero h = (refl, refl, refl, omega arith)
later-shift e (g ∷ gs) (j ∷ js) f (suc m) h = later-shift (max e j.start + j.budget) gs js f.1 m (omega arith)

pub length-entries : (gs : List Entry) (js : List Job) → Follow gs js → length (entries gs js) ≡ length js
length-entries [] [] f = refl
length-entries [] (j ∷ js) f = absurd f
length-entries (g ∷ gs) [] f = absurd f
length-entries (g ∷ gs) (j ∷ js) f = ap suc (length-entries gs js f.1)

pub join_here : (i : ℕ) (g : Entry) (gs : List Entry) (js : List Job) (s : ℕ) → g.since ≤ s → Follow gs js → i ≤ length js
    → Joined (entries gs js) (entries (with_entry i g gs) (insert_at i (job s g.budget g.deadline 0) js)) i (starting g s)
join_here zero g gs js s b f h =
    record {
      one_more = ap suc (length-entries gs (shift (s + g.budget) js) (follow_shift (s + g.budget) gs js f) ∙ length_shift (s + g.budget) js ∙ sym (length-entries gs js f));
      inside = omega arith;
      there = refl;
      before = refl;
      later = λ m low short. later-shift (s + g.budget) gs js f m short;
    }
join_here (suc i) g [] [] s b f h = absurd (omega arith)
join_here (suc i) g [] (j ∷ js) s b f h = absurd f
join_here (suc i) g (k ∷ gs) [] s b f h = absurd f
join_here (suc i) g (k ∷ gs) (j ∷ js) s b f h =
    let w = join_here i g gs js s b f.1 (omega arith) in
    record {
      one_more = ap suc w.one_more;
      inside = omega (arith, w.inside);
      there = w.there;
      before = ap (λ (l : List Entry). starting k j.start ∷ l) w.before;
      later = later w.later;
    } where
      later : ((m : ℕ) → i ≤ m → m < length (entries gs js)
          → Later (get_or (entries gs js) m no_entry) (get_or (entries (with_entry i g gs) (insert_at i (job s g.budget g.deadline 0) js)) (suc m) no_entry))
          → (m : ℕ) → suc i ≤ m → m < suc (length (entries gs js))
          → Later (get_or (starting k j.start ∷ entries gs js) m no_entry) (get_or (entries (with_entry i g gs) (insert_at i (job s g.budget g.deadline 0) js)) m no_entry)
      later r zero low short = absurd (omega arith)
      later r (suc m) low short = r m (omega arith) (omega arith)

join_after : (xs us vs : List Entry) (i : ℕ) (new : Entry) → Joined us vs i new → Joined (xs ++ us) (xs ++ vs) (length xs + i) new
join_after xs us vs i new w =
    record {
      one_more = omega (arith, w.one_more, length-append xs us, length-append xs vs);
      inside = omega (arith, w.inside, length-append xs us);
      there = get_or-append-add xs vs i no_entry ∙ w.there;
      before = rw (take-append-add xs vs i, take-append-add xs us i, w.before);
      later = later;
    } where
      later : (m : ℕ) → length xs + i ≤ m → m < length (xs ++ us) → Later (get_or (xs ++ us) m no_entry) (get_or (xs ++ vs) (suc m) no_entry)
      later m low short =
          let n = m - length xs in
          let one : m ≡ length xs + n = omega arith in
          let two : suc m ≡ length xs + suc n = omega arith in
          let a : get_or (xs ++ us) m no_entry ≡ get_or us n no_entry = ap (λ (k : ℕ). get_or (xs ++ us) k no_entry) one ∙ get_or-append-add xs us n no_entry in
          let b : get_or (xs ++ vs) (suc m) no_entry ≡ get_or vs (suc n) no_entry = ap (λ (k : ℕ). get_or (xs ++ vs) k no_entry) two ∙ get_or-append-add xs vs (suc n) no_entry in
          rw (a, b) (w.later n (omega arith) (omega (arith, length-append xs us)))

fixed_after : (t : ℕ) (xs us vs : List Entry) → Line t us → Fixed t (xs ++ us) (xs ++ vs)
fixed_after t xs us vs g k h low = cases (ltb k (length xs)) refl where
  cases : (b : Bool) → ltb k (length xs) ≡ b → get_or (xs ++ vs) k no_entry ≡ get_or (xs ++ us) k no_entry
  cases true e =
      let low-k : k < length xs = ltb-true k (length xs) e in
      get_or-append xs vs no_entry k low-k ∙ sym (get_or-append xs us no_entry k low-k)
  cases false e =
      let out : length xs ≤ k = ltb-false k (length xs) e in
      let z : k ≡ length xs + (k - length xs) = omega arith in
      let m = k - length xs in
      let small : m < length us = omega (arith, length-append xs us) in
      let is : get_or (xs ++ us) k no_entry ≡ get_or us m no_entry = ap (λ (n : ℕ). get_or (xs ++ us) n no_entry) z ∙ get_or-append-add xs us m no_entry in
      let from : t ≤ (get_or us m no_entry).start = (line-held t us m small g).low in
      let eq : (get_or (xs ++ us) k no_entry).start ≡ (get_or us m no_entry).start = ap (λ (r : Entry). r.start) is in
      absurd (omega arith)

-- all that is said of one request
pub data Step (h : Story) (q : Asked) : Story → Result Done Refusal → Type 0 where
  refused : (n : Story) (r : Refusal) → h.desk.clock ≤ n.desk.clock → ever n ≡ ever h → Step h q n (Err r)
  joined : (n : Story) (i s : ℕ) → h.desk.clock ≤ q.time → n.desk.clock ≡ q.time
      → Joined (ever h) (ever n) (length n.gone + i) (entry q.time q.budget q.deadline s)
      → Fixed q.time (ever h) (ever n) → Step h q n (Ok (Taken i s))

module _ (h : Story) (q : Asked) (k : Kept h) where
  step_ending : (o : Outcome) → Ending h.desk.clock h.desk.count h.desk.jobs q.time q.budget q.deadline o
      → Step h q (after h q o) o.answer
  step_ending o (same r a) =
      let t = h.desk.clock in
      let z : t ≤ t = omega arith in
      let left : entries (unended t (live h)) (table h) ≡ unended t (live h) =
      subst (λ (js : List Job). entries (unended t (live h)) js ≡ unended t (live h)) k.here (entries-kept t h.listed (table h) k.follow) in
      let w : (h.gone ++ ended t (live h)) ++ entries (unended t (live h)) (table h) ≡ ever h =
      rw left (drop-same t h.gone h.listed (table h) (kept-good h k).order k.follow) in
      refused _ r z w
  step_ending o (dropped r a late small) =
      let t = q.time in
      let js = kept t (table h) in
      let left : take (length js) (filled js) ≡ js = take-filled js (length js) refl in
      let w : (h.gone ++ ended t (live h)) ++ entries (unended t (live h)) (take (length js) (filled js)) ≡ ever h =
      rw (left, entries-kept t h.listed (table h) k.follow) (drop-same t h.gone h.listed (table h) (kept-good h k).order k.follow) in
      refused _ r late w
  step_ending o (taken i s late small some due few g spot) =
      let t = q.time in
      let js = kept t (table h) in
      let new = job s q.budget q.deadline 0 in
      let mark = entry t q.budget q.deadline s in
      let left : take (length js + 1) (filled (insert_at i new js)) ≡ insert_at i new js = take-filled (insert_at i new js) (length js + 1) (length_insert i new js) in
      let gone = h.gone ++ ended t (live h) in
      let gs = unended t (live h) in
      let f = follow_kept t h.listed (table h) k.follow in
      let was : gone ++ entries gs js ≡ ever h =
      rw (entries-kept t h.listed (table h) k.follow) (drop-same t h.gone h.listed (table h) (kept-good h k).order k.follow) in
      let now : gone ++ entries (with_entry i mark gs) (take (length js + 1) (filled (insert_at i new js))) ≡ gone ++ entries (with_entry i mark gs) (insert_at i new js) = rw left in
      let join : Joined (ever h) (gone ++ entries (with_entry i mark gs) (take (length js + 1) (filled (insert_at i new js)))) (length gone + i) mark =
      rw (now, ← was) (join_after gone (entries gs js) (entries (with_entry i mark gs) (insert_at i new js)) i mark (join_here i mark gs js s (spot_start q.budget q.deadline t i js s g spot) f (spot_inside q.budget q.deadline t i js s spot))) in
      let fixed : Fixed t (ever h) (gone ++ entries (with_entry i mark gs) (take (length js + 1) (filled (insert_at i new js)))) =
      rw (now, ← was) (fixed_after t gone (entries gs js) (entries (with_entry i mark gs) (insert_at i new js)) (line-entries t gs js g f)) in
      joined _ i s late refl join fixed

  pub step : Step h q (next h q) (next h q).desk.answer
  step = step_ending (next h q).desk (ending h.desk.clock h.desk.count h.desk.jobs q.time q.budget q.deadline k.sound)

module _ (h : Story) (q : Asked) where
  by_refusal : (n : Story) (a : Result Done Refusal) (r : Refusal) → a ≡ Err r → Step h q n a → ever n ≡ ever h
  by_refusal n a r e (refused m p late w) = w
  by_refusal n a r e (joined m i s late z w f) = absurd (let z : ◌≡◌ {A = ℕ} 0 1 = cc in omega arith)

  by_taken : (n : Story) (a : Result Done Refusal) (i s : ℕ) → a ≡ Ok (Taken i s) → Step h q n a
      → Joined (ever h) (ever n) (length n.gone + i) (entry q.time q.budget q.deadline s)
  by_taken n a i s e (refused m p late w) = absurd (let z : ◌≡◌ {A = ℕ} 0 1 = cc in omega arith)
  by_taken n a i s e (joined m k u late z w f) =
      let ei : k ≡ i = cc in
      let es : u ≡ s = cc in
      rw (← ei, ← es) w

  by_time : (n : Story) (a : Result Done Refusal) → Step h q n a → Fixed q.time (ever h) (ever n)
  by_time n a (refused m p late w) = λ k g low. ap (λ (l : List Entry). get_or l k no_entry) w
  by_time n a (joined m i s late z w f) = f

  by_clock : (n : Story) (a : Result Done Refusal) → Step h q n a → (h.desk.clock ≤ n.desk.clock) × Fixed h.desk.clock (ever h) (ever n)
  by_clock n a (refused m p late w) = (late, λ k g low. ap (λ (l : List Entry). get_or l k no_entry) w)
  by_clock n a (joined m i s late z w f) = (omega arith, λ k g low. f k g (omega arith))

  by_count : (n : Story) (a : Result Done Refusal) (m : ℕ) → Step h q n a → length (ever n) + m ≡ length (ever h) + count_taken a m
  by_count n a m (refused u p late w) = ap (λ (l : List Entry). length l + m) w
  by_count n a m (joined u i s late z w f) = omega (arith, w.one_more)

  module _ (k : Kept h) where
    -- a refusal changes no entry
    pub refused-same : (r : Refusal) → (next h q).desk.answer ≡ Err r → ever (next h q) ≡ ever h
    refused-same r e = by_refusal (next h q) (next h q).desk.answer r e (step h q k)

    -- a job taken in stands among the others with the start that was answered
    pub taken-joined : (i s : ℕ) → (next h q).desk.answer ≡ Ok (Taken i s)
        → Joined (ever h) (ever (next h q)) (length (next h q).gone + i) (entry q.time q.budget q.deadline s)
    taken-joined i s e = by_taken (next h q) (next h q).desk.answer i s e (step h q k)

    -- what has started by the time of a request is not moved by it
    pub still : Fixed q.time (ever h) (ever (next h q))
    still = by_time (next h q) (next h q).desk.answer (step h q k)

-- and no job is lost: there are as many as at first, and one for each request taken
pub all_there : (qs : List Asked) (h : Story) → Kept h → length (ever (many qs h)) ≡ length (ever h) + takens qs h
all_there [] h k = omega arith
all_there (q ∷ qs) h k =
    all_there qs (next h q) (kept_next h q k) ∙ by_count h q (next h q) (next h q).desk.answer (takens qs (next h q)) (step h q k)

pub all-since_opening : (clock n : ℕ) (l : List Job) → table_ok n l ≡ true → (qs : List Asked)
    → length (ever (many qs (begin clock n l))) ≡ n + takens qs (begin clock n l)
all-since_opening clock n l h qs =
    let k = kept-begin clock n l h in
    let count : (open_of clock n l).count ≡ n = ap (λ (o : Outcome). o.count) (open_is clock n l h) in
    omega (arith, all_there qs (begin clock n l) k, length-entries (standing (take n l)) (table (begin clock n l)) k.follow, (kept-good (begin clock n l) k).count)

-- nor is a job moved by any later request, once the clock has passed its start
pub still_ever : (qs : List Asked) (h : Story) → Kept h → Fixed h.desk.clock (ever h) (ever (many qs h))
still_ever [] h k i g low = refl
still_ever (q ∷ qs) h k i g low =
    let one = by_clock h q (next h q) (next h q).desk.answer (step h q k) in
    let here : get_or (ever (next h q)) i no_entry ≡ get_or (ever h) i no_entry = one.1 i g low in
    let long = by_count h q (next h q) (next h q).desk.answer 0 (step h q k) in
    let more : i < length (ever (next h q)) = omega arith in
    let eq : (get_or (ever (next h q)) i no_entry).start ≡ (get_or (ever h) i no_entry).start = ap (λ (r : Entry). r.start) here in
    let low2 : (get_or (ever (next h q)) i no_entry).start < (next h q).desk.clock = omega (arith, one.0) in
    still_ever qs (next h q) (kept_next h q k) i more low2 ∙ here
