-- The promise over many requests. Assumes nothing.
use Prim.Native.Nat.{ℕ, ◌+◌, ◌-◌}
use mathlib.Core.Path.{◌≡◌, refl, ap, subst}
use mathlib.Core.Bool.{true}
use mathlib.Core.List.{List, [], ◌∷◌, ◌++◌, append_assoc}
use native.Mathlib.Omega.{arith}
use lib.ListN.{length, take, replicate}
use lib.Seq.{take-append_seam}
use Rattle.rules.specs.Limits.{places}
use Rattle.desk.specs.declared.Job.{Job}
use Rattle.desk.specs.declared.Asked.{Asked}
use Rattle.desk.specs.Table.{job, none, filled, flexes, table_ok, open_of, Outcome}
use Rattle.desk.specs.Request.{kept, insert_at}
use Rattle.desk.proofs.Rules.{SoundAfter}
use Rattle.desk.specs.Story.{Entry, entry, ended, unended, standing, entries, Story, live, ever, begin, after, next, many, Promise}
use Rattle.desk.proofs.Chain.{Chain, kept_from, kept_twice}
use Rattle.desk.proofs.Spot.{spot_start, chain_insert, length_insert}
use Rattle.desk.proofs.Rules.{Good, good_of, good-kept, Ending, same, dropped, taken, ending, sound_ending, open_is, open_sound, open_good}
use Rattle.desk.proofs.Entries.{with_entry, Follow, Line, AllBy, line-entries, follow_kept, entries-kept, ended-first, ended_by, by_later, by_join, line_join, follow_insert, follow_open, line_promise}

pub take-filled : (js : List Job) (n : ℕ) → length js ≡ n → take n (filled js) ≡ js
take-filled js n e = rw (← e) (take-append_seam js (replicate (places - length js) none))

abbrev pub table : Story → List Job
table h = take h.desk.count h.desk.jobs

-- what holds of a story after each call
pub record Kept (h : Story) : Type 0 where
  pub sound : SoundAfter h.desk
  pub follow : Follow h.listed (table h)
  pub line : Line 0 (ever h)
  pub past : AllBy h.desk.clock h.gone
  pub here : kept h.desk.clock (table h) ≡ table h

pub kept-good : (h : Story) → Kept h → Good h.desk.count (table h)
kept-good h k = good_of h.desk.clock h.desk.count h.desk.jobs k.sound

-- dropping changes no entry
pub drop-same : (t : ℕ) (gone : List Entry) (gs : List Entry) (js : List Job) → Chain 0 js → Follow gs js
    → (gone ++ ended t (entries gs js)) ++ unended t (entries gs js) ≡ gone ++ entries gs js
drop-same t gone gs js g f =
    rw (append_assoc gone (ended t (entries gs js)) (unended t (entries gs js)), ended-first t 0 (entries gs js) (line-entries 0 gs js g f))

module _ (h : Story) (q : Asked) (k : Kept h) where
  -- a call that ends in any of these keeps the story's promise
  pub story_ending : (o : Outcome) → Ending h.desk.clock h.desk.count h.desk.jobs q.time q.budget q.deadline o → Kept (after h q o)
  story_ending o (same r a) =
      let t = h.desk.clock in
      let follows : Follow (unended t (live h)) (table h) =
      subst (λ (js : List Job). Follow (unended t (live h)) js) k.here (follow_kept t h.listed (table h) k.follow) in
      let left : entries (unended t (live h)) (table h) ≡ unended t (live h) =
      subst (λ (js : List Job). entries (unended t (live h)) js ≡ unended t (live h)) k.here (entries-kept t h.listed (table h) k.follow) in
      record {
        sound = k.sound;
        follow = follows;
        line = rw (left, drop-same t h.gone h.listed (table h) (kept-good h k).order k.follow) k.line;
        past = by_join t h.gone _ k.past (ended_by t (live h));
        here = k.here;
      }
  story_ending o (dropped r a late small) =
      let t = q.time in
      let js = kept t (table h) in
      let good = kept-good h k in
      let left : take (length js) (filled js) ≡ js = take-filled js (length js) refl in
      record {
        sound = sound_ending h.desk.clock h.desk.count h.desk.jobs t q.budget q.deadline k.sound o (dropped r a late small);
        follow = rw left (follow_kept t h.listed (table h) k.follow);
        line = rw (left, entries-kept t h.listed (table h) k.follow, drop-same t h.gone h.listed (table h) good.order k.follow) k.line;
        past = by_join t h.gone _ (by_later h.desk.clock t h.gone late k.past) (ended_by t (live h));
        here = rw left (kept_twice t (table h));
      }
  story_ending o (taken i s late small some due few g spot) =
      let t = q.time in
      let js = kept t (table h) in
      let new = job s q.budget q.deadline 0 in
      let mark = entry t q.budget q.deadline s in
      let good = kept-good h k in
      let right = (good-kept t h.desk.count (table h) good).right in
      let left : take (length js + 1) (filled (insert_at i new js)) ≡ insert_at i new js = take-filled (insert_at i new js) (length js + 1) (length_insert i new js) in
      let chain = chain_insert q.budget q.deadline t i js s some due g right spot in
      let follows : Follow (with_entry i mark (unended t (live h))) (insert_at i new js) =
      follow_insert i mark (unended t (live h)) js s (spot_start q.budget q.deadline t i js s g spot) (follow_kept t h.listed (table h) k.follow) in
      let past : AllBy t (h.gone ++ ended t (live h)) =
      by_join t h.gone (ended t (live h)) (by_later h.desk.clock t h.gone late k.past) (ended_by t (live h)) in
      let before : Line 0 ((h.gone ++ ended t (live h)) ++ unended t (live h)) =
      rw (drop-same t h.gone h.listed (table h) good.order k.follow) k.line in
      record {
        sound = sound_ending h.desk.clock h.desk.count h.desk.jobs t q.budget q.deadline k.sound o (taken i s late small some due few g spot);
        follow = rw left follows;
        line = rw left (line_join 0 t (h.gone ++ ended t (live h)) (unended t (live h)) _ (omega arith) before past
            (line-entries t (with_entry i mark (unended t (live h))) (insert_at i new js) chain follows));
        past = past;
        here = rw left (kept_from t (insert_at i new js) chain);
      }

  pub kept_next : Kept (next h q)
  kept_next = story_ending _ (ending h.desk.clock h.desk.count h.desk.jobs q.time q.budget q.deadline k.sound)

pub kept-many : (qs : List Asked) (h : Story) → Kept h → Kept (many qs h)
kept-many [] h k = k
kept-many (q ∷ qs) h k = kept-many qs (next h q) (kept_next h q k)

pub kept-begin : (clock n : ℕ) (l : List Job) → table_ok n l ≡ true → Kept (begin clock n l)
kept-begin clock n l h =
    let good = open_good clock n l h in
    let is = open_is clock n l h in
    let left : take n (filled (flexes (take n l))) ≡ flexes (take n l) = take-filled (flexes (take n l)) n good.count in
    let listed : take (open_of clock n l).count (open_of clock n l).jobs ≡ flexes (take n l) = rw is left in
    let clock₀ : (open_of clock n l).clock ≡ 0 = ap (λ (o : Outcome). o.clock) is in
    record {
      sound = open_sound clock n l h;
      follow = rw listed (follow_open (take n l));
      line = rw listed (line-entries 0 (standing (take n l)) (flexes (take n l)) good.order (follow_open (take n l)));
      past = tt;
      here = rw (listed, clock₀) (kept_from 0 (flexes (take n l)) good.order);
    }

-- 4. over any requests after one opening, no job starts before its opening start or its request time, each ends by its
-- deadline, and no two overlap
pub promise : (clock n : ℕ) (l : List Job) → table_ok n l ≡ true → (qs : List Asked)
    → Promise (ever (many qs (begin clock n l)))
promise clock n l h qs = line_promise 0 _ (kept-many qs (begin clock n l) (kept-begin clock n l h)).line
