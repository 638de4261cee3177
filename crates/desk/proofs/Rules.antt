-- The table rules survive each call, and each x is the rule's own. Assumes nothing.
use Prim.Native.Nat.{ℕ, zero, suc, ◌+◌, ◌-◌, ◌<◌, ◌≤◌}
use mathlib.Core.Path.{◌≡◌, refl, sym, ap, ◌∙◌}
use mathlib.Core.Bool.{Bool, true, false, true≢false}
use mathlib.Core.List.{List, [], ◌∷◌}
use native.Mathlib.Omega.{arith}
use lib.Dec.{leb}
use lib.ListN.{length, take, drop, replicate, length-append, length-replicate}
use lib.Seq.{take-append_seam, drop-append_seam, length-take-le}
use borrow.Author.Tests.{le-leb, ltb-false, eqb-true, eq-eqb}
use Rattle.rules.specs.Refusals.{told}
use Rattle.rules.specs.declared.Refusal.{Refusal}
use Rattle.rules.specs.declared.Explanation.{Explanation}
use Rattle.rules.specs.declared.Refusal.TheVariants.{Rules, Numbers, Past, Busy, Full, NoPlace}
use Rattle.rules.specs.Limits.{places, latest}
use Rattle.desk.specs.declared.Job.{Job}
use Rattle.std.specs.Prelude.{Result, Ok, Err}
use Rattle.desk.specs.declared.Done.{Done}
use Rattle.desk.specs.declared.Done.TheVariants.{Opened, Taken}
use Rattle.rules.specs.Walk.{pick}
use Rattle.desk.specs.Table.{job, none, filled, x_of, refit, flexes, all_zeros, right_x, table_ok, desk_ok, outcome, open_of, ends, Outcome}
use Rattle.desk.specs.Call.{said}
use Rattle.desk.specs.Reason.{explanation_of}
use Rattle.desk.specs.Request.{kept, busy, find, insert_at, dropping, taking, request_of, Place, At, Nowhere}
use Rattle.desk.specs.Theorems.{Ready}
use Rattle.rules.proofs.Tests.{and_parts}
use Rattle.desk.proofs.Ready.{Comes, at_13, at_14, at_15, at_16, at_17, through, comes}
use Rattle.desk.proofs.Check.{numbers-small, listed_of, desk_table, desk_right}
use Rattle.desk.proofs.Check.{length-refit}
use Rattle.desk.proofs.Afresh.{insert_right, refit_right}
use Rattle.desk.proofs.Chain.{Chain, chain_low, chain_of, chain_ok, chain_kept, right_kept}
use Rattle.desk.proofs.Spot.{Spot, found_spot, spot_near, chain_insert, length_insert, right_tail}
use Rattle.rules.specs.declared.Refusal.TheVariants as refusal

-- a table, count and clock that pass 13
pub record Sound (clock n : ℕ) (l : List Job) : Type 0 where
  pub test : desk_ok clock n l ≡ true

abbrev pub SoundAfter : Outcome → Type 0
SoundAfter o = Sound o.clock o.count o.jobs

-- what that says of the listed jobs
pub record Good (n : ℕ) (js : List Job) : Type 0 where
  pub count : length js ≡ n
  pub few : n ≤ places
  pub order : Chain 0 js
  pub right : right_x js ≡ true

pub good_of : (clock n : ℕ) (l : List Job) → Sound clock n l → Good n (take n l)
good_of clock n l s =
    let t = listed_of n l (desk_table clock n l s.test) in
    record {
      count = length-take-le n l (omega (arith, t.whole, t.few));
      few = t.few;
      order = chain_of 0 (take n l) t.order;
      right = desk_right clock n l s.test;
    }

none-all : (n : ℕ) → all_zeros (replicate n none) ≡ true
none-all zero = refl
none-all (suc n) = none-all n

pub sound-filled : (clock n : ℕ) (js : List Job) → clock ≤ latest → Good n js → Sound clock n (filled js)
sound-filled clock n js h g =
    let front : take n (filled js) ≡ js = rw (← g.count) (take-append_seam js (replicate (places - length js) none)) in
    let back : drop n (filled js) ≡ replicate (places - length js) none = rw (← g.count) (drop-append_seam js (replicate (places - length js) none)) in
    let whole : length (filled js) ≡ places =
    omega (arith, length-append js (replicate (places - length js) none), length-replicate (places - length js) none, g.count, g.few) in
    record {
      test = rw (le-leb clock latest h, eq-eqb (length (filled js)) places whole, le-leb n places g.few, front, back, chain_ok 0 js g.order, none-all (places - length js)) g.right;
    }

length-kept : (t : ℕ) (js : List Job) → length (kept t js) ≤ length js
length-kept t [] = omega arith
length-kept t (j ∷ js) = cases (leb (ends j) t) (length-kept t js) where
  cases : (b : Bool) → length (kept t js) ≤ length js → length (pick b (kept t js) (j ∷ kept t js)) ≤ suc (length js)
  cases true h = omega arith
  cases false h = omega arith

pub good-kept : (t n : ℕ) (js : List Job) → Good n js → Good (length (kept t js)) (kept t js)
good-kept t n js g =
    record {
      count = refl;
      few = omega (arith, length-kept t js, g.count, g.few);
      order = chain_kept t 0 js g.order;
      right = right_kept t 0 js g.order g.right;
    }

pub not_busy : (t : ℕ) (js : List Job) → busy t js ≡ false → Chain 0 js → Chain t js
not_busy t [] h g = tt
not_busy t (j ∷ js) h g = (ltb-false _ _ h, g.1, g.2)

-- why the finished jobs are dropped and no job is taken in
pub data Why (t c d : ℕ) (js : List Job) : Refusal → Type 0 where
  running : busy t js ≡ true → Why t c d js Busy
  full : Why t c d js Full
  nowhere : (why : Explanation) → why ≡ explanation_of t d js → Chain t js → find t c d js ≡ Nowhere → Why t c d js (NoPlace why)

-- how a request on a sound table ends
pub data Ending (clock n : ℕ) (l : List Job) (t c d : ℕ) : Outcome → Type 0 where
  same : (r : Refusal) → (13 < (told r).number) × ((told r).number < 16) → Ending clock n l t c d (outcome l n clock (Err r))
  dropped : (r : Refusal) → Why t c d (kept t (take n l)) r → clock ≤ t → t ≤ latest
      → Ending clock n l t c d (dropping t (kept t (take n l)) r)
  taken : (i s : ℕ) → clock ≤ t → t ≤ latest → 1 ≤ c → d ≤ latest → length (kept t (take n l)) < places → Chain t (kept t (take n l))
      → Spot c d t i (kept t (take n l)) s
      → Ending clock n l t c d (outcome (filled (insert_at i (job s c d 0) (kept t (take n l)))) (length (kept t (take n l)) + 1) t (Ok (Taken i s)))

module _ (clock n : ℕ) (l : List Job) (t c d : ℕ) (sound : Sound clock n l) where
  good : Good (length (kept t (take n l))) (kept t (take n l))
  good = good-kept t n (take n l) (good_of clock n l sound)

  ending_placed : Ready clock n l t c d → (p : Place) → find t c d (kept t (take n l)) ≡ p
      → Ending clock n l t c d (taking t c d (kept t (take n l)) p)
  ending_placed w Nowhere e =
      dropped (NoPlace _) (nowhere _ refl (not_busy t (kept t (take n l)) w.not_busy good.order) e) w.not_past (numbers-small t c d w.numbers).2
  ending_placed w (At i s) e =
      let order = not_busy t (kept t (take n l)) w.not_busy good.order in
      let spot = found_spot t c d (kept t (take n l)) order i s e in
      let small = numbers-small t c d w.numbers in
      taken i s w.not_past small.2 small.0 small.1 w.not_full order spot

  ending_by : (o : Outcome) → Comes clock n l t c d o → Ending clock n l t c d o
  ending_by o (at_13 e) = absurd (true≢false (sym sound.test ∙ e))
  ending_by o (at_14 e) = same Numbers (omega arith, omega arith)
  ending_by o (at_15 e) = same Past (omega arith, omega arith)
  ending_by o (at_16 late small e) = dropped Busy (running e) late small
  ending_by o (at_17 late small e) = dropped Full full late small
  ending_by o (through w) = ending_placed w (find t c d (kept t (take n l))) refl

  pub ending : Ending clock n l t c d (request_of clock n l t c d)
  ending = ending_by (request_of clock n l t c d) (comes clock n l t c d)

  pub sound_ending : (o : Outcome) → Ending clock n l t c d o → SoundAfter o
  sound_ending o (same r h) = sound
  sound_ending o (dropped r h late small) = sound-filled t _ (kept t (take n l)) small (good-kept t n (take n l) (good_of clock n l sound))
  sound_ending o (taken i s late small some due few g spot) =
      let js = kept t (take n l) in
      let good = good-kept t n (take n l) (good_of clock n l sound) in
      sound-filled t (length js + 1) (insert_at i (job s c d 0) js) small
      (record {
        count = length_insert i (job s c d 0) js;
        few = omega arith;
        order = chain_low t 0 (insert_at i (job s c d 0) js) (omega arith) (chain_insert c d t i js s some due g good.right spot);
        right = insert_right i (job s c d 0) js good.right (spot_near c d t i js s g good.right spot);
      })

  -- 1. what a request leaves passes rule 13 again, whatever the answer
  pub request_sound : SoundAfter (request_of clock n l t c d)
  request_sound = sound_ending (request_of clock n l t c d) ending

  -- 2. and it does not answer 13
  not_13 : (o : Outcome) → Ending clock n l t c d o → (said o.answer).number ≡ 13 → ⊥
  not_13 o (same q h) e = omega arith
  not_13 o (dropped Busy (running b) late small) e = omega arith
  not_13 o (dropped Full full late small) e = omega arith
  not_13 o (dropped (NoPlace _) (nowhere why is g f) late small) e = omega arith
  not_13 o (taken i s late small some due few g spot) e = omega arith
  not_13 _ (dropped refusal.Short x4 late small) e = elim x4 [ ]
  not_13 _ (dropped refusal.Edition x5 late small) e = elim x5 [ ]
  not_13 _ (dropped refusal.Limits x6 late small) e = elim x6 [ ]
  not_13 _ (dropped refusal.Offset x7 late small) e = elim x7 [ ]
  not_13 _ (dropped refusal.Length x8 late small) e = elim x8 [ ]
  not_13 _ (dropped (refusal.Partition _) x10 late small) e = elim x10 [ ]
  not_13 _ (dropped (refusal.Task _) x11 late small) e = elim x11 [ ]
  not_13 _ (dropped (refusal.Tick _) x12 late small) e = elim x12 [ ]
  not_13 _ (dropped (refusal.Asked _) x13 late small) e = elim x13 [ ]
  not_13 _ (dropped (refusal.Shortfall _ _ _ _) x17 late small) e = elim x17 [ ]
  not_13 _ (dropped refusal.Unharmonic x14 late small) e = elim x14 [ ]
  not_13 _ (dropped refusal.Want x15 late small) e = elim x15 [ ]
  not_13 _ (dropped refusal.Output x16 late small) e = elim x16 [ ]
  not_13 _ (dropped Rules x17 late small) e = elim x17 [ ]
  not_13 _ (dropped Numbers x18 late small) e = elim x18 [ ]
  not_13 _ (dropped Past x19 late small) e = elim x19 [ ]
  not_13 _ (dropped refusal.Counts x20 late small) e = elim x20 [ ]
  not_13 _ (dropped refusal.Granule x21 late small) e = elim x21 [ ]
  not_13 _ (dropped (refusal.Beyond _) x23 late small) e = elim x23 [ ]

  pub request_not_13 : (said (request_of clock n l t c d).answer).number ≡ 13 → ⊥
  request_not_13 = not_13 (request_of clock n l t c d) ending

order_refit : (e : ℕ) (js : List Job) → Chain e js → Chain e (refit js [])
order_refit e [] g = tt
order_refit e (j ∷ js) g =
    (g.0, record { some = g.1.some; in_time = g.1.in_time; low = g.1.low }, order_refit (ends j) js g.2)

module _ (clock n : ℕ) (l : List Job) (table : table_ok n l ≡ true) where
  pub open_good : Good n (flexes (take n l))
  open_good =
      let w = listed_of n l table in
      record {
        count = omega (arith, length-refit (take n l) [], length-take-le n l (omega (arith, w.whole, w.few)));
        few = w.few;
        order = order_refit 0 (take n l) (chain_of 0 (take n l) w.order);
        right = refit_right (take n l) [] refl;
      }

  pub open_is : open_of clock n l ≡ outcome (filled (flexes (take n l))) n 0 (Ok Opened)
  unfolding open_of
  open_is = rw table

  -- 1. what opening leaves passes 13
  pub open_sound : SoundAfter (open_of clock n l)
  open_sound = rw open_is (sound-filled 0 n (flexes (take n l)) (omega arith) open_good)

pub open_refused : (clock n : ℕ) (l : List Job) → table_ok n l ≡ false → open_of clock n l ≡ outcome l n clock (Err Rules)
unfolding open_of
open_refused clock n l z = rw z

pub opened_table : (clock n : ℕ) (l : List Job) → (open_of clock n l).answer ≡ Ok Opened → table_ok n l ≡ true
unfolding open_of
opened_table clock n l e = cases (table_ok n l) refl e where
  cases : (b : Bool) → table_ok n l ≡ b → (pick b (outcome (filled (flexes (take n l))) n 0 (Ok Opened)) (outcome l n clock (Err Rules))).answer ≡ Ok Opened → table_ok n l ≡ true
  cases true z w = z
  cases false z w = absurd (let y : ◌≡◌ {A = ℕ} 0 1 = cc in omega arith)

-- 3. right flexibilities are those worked out from nothing
with_same : (j : Job) (v : ℕ) → j.flex ≡ v → job j.start j.budget j.deadline v ≡ j
with_same j v e = λ i. record { start = j.start; budget = j.budget; deadline = j.deadline; flex = sym e i }

pub fresh : (js : List Job) → right_x js ≡ true → flexes js ≡ js
fresh [] r = refl
fresh (j ∷ js) r =
    let x : j.flex ≡ x_of j js = eqb-true _ _ (and_parts _ (right_x js) r).0 in
    rw (fresh js (right_tail j js r)) (ap (λ (k : Job). k ∷ js) (with_same j (x_of j js) x))

pub afresh : (o : Outcome) → SoundAfter o → flexes (take o.count o.jobs) ≡ take o.count o.jobs
afresh o s = fresh (take o.count o.jobs) (good_of o.clock o.count o.jobs s).right

refuse_rules : (clock n : ℕ) (l : List Job) (t c d : ℕ) → desk_ok clock n l ≡ false → (request_of clock n l t c d).answer ≡ Err Rules
unfolding request_of
refuse_rules clock n l t c d z = rw z

-- a request that is not refused with 13 found the table sound
pub sound-unless : (clock n : ℕ) (l : List Job) (t c d : ℕ) → ((said (request_of clock n l t c d).answer).number ≡ 13 → ⊥) → Sound clock n l
sound-unless clock n l t c d h = cases (desk_ok clock n l) refl where
  cases : (b : Bool) → desk_ok clock n l ≡ b → Sound clock n l
  cases true z = record { test = z }
  cases false z = absurd (h (ap (λ (a : Result Done Refusal). (said a).number) (refuse_rules clock n l t c d z)))

-- nor is one that is taken
pub sound-taken : (clock n : ℕ) (l : List Job) (t c d i s : ℕ) → (request_of clock n l t c d).answer ≡ Ok (Taken i s) → Sound clock n l
sound-taken clock n l t c d i s e =
    sound-unless clock n l t c d (λ f. let z : 0 ≡ 13 = sym (ap (λ (a : Result Done Refusal). (said a).number) e) ∙ f in absurd (omega arith))

pub open_sound_unless : (clock n : ℕ) (l : List Job) → ((said (open_of clock n l).answer).number ≡ 13 → ⊥) → SoundAfter (open_of clock n l)
open_sound_unless clock n l h = cases (table_ok n l) refl where
  cases : (b : Bool) → table_ok n l ≡ b → SoundAfter (open_of clock n l)
  cases true z = open_sound clock n l z
  cases false z = absurd (h (ap (λ (o : Outcome). (said o.answer).number) (open_refused clock n l z)))
