-- A place with enough room never leads to a move beyond a job's x. Assumes nothing.
use Prim.Native.Nat.{ℕ, zero, suc, ◌+◌, ◌-◌, ◌<◌, ◌≤◌, max}
use mathlib.Core.Path.{◌≡◌, refl, sym, ap, ◌∙◌}
use mathlib.Core.Bool.{Bool, true, false}
use mathlib.Core.List.{List, [], ◌∷◌}
use native.Mathlib.Omega.{arith}
use lib.Dec.{leb}
use lib.ListN.{length, take, drop, get_or}
use lib.Seq.{get_or-take}
use borrow.Author.Tests.{leb-true, leb-false}
use Rattle.desk.specs.declared.Job.{Job}
use Rattle.std.specs.Prelude.{Ok}
use Rattle.desk.specs.declared.Done.TheVariants.{Taken}
use Rattle.desk.specs.Table.{job, start, flex, ends, none, filled, right_x, Outcome}
use Rattle.desk.specs.Places.{early, start_at, shift}
use Rattle.desk.specs.Reason.{room_at, places_of}
use Rattle.desk.specs.Request.{kept, insert_at, request_of}
use Rattle.desk.specs.Theorems.{MovesWithin, RoomNeverTooFar, NeverTooFar}
use Rattle.desk.proofs.Afresh.{Near, AllNear}
use Rattle.desk.proofs.Chain.{Chain}
use Rattle.desk.proofs.Spot.{Spot, near_low, room_spot, spot_near, length_insert}
use Rattle.desk.proofs.Rooms.{start-next, room-first, room_next, places-next, room-only, only-first, early-none}
use Rattle.desk.proofs.Rules.{good_of, good-kept, not_busy, Ending, same, dropped, taken, ending, sound-taken}
use Rattle.desk.proofs.Promise.{take-filled}

shift-within : (e : ℕ) (js : List Job) → AllNear e js → (k : ℕ) → k < length js
    → start (get_or (shift e js) k none) ≤ start (get_or js k none) + flex (get_or js k none)
shift-within e [] n k h = absurd (omega arith)
shift-within e (j ∷ js) n zero h = omega (arith, n.0)
shift-within e (j ∷ js) n (suc k) h = shift-within (max e j.start + j.budget) js n.1 k (omega arith)

insert_within : (i : ℕ) (new : Job) (js : List Job) → AllNear (ends new) (drop i js) → MovesWithin js i (insert_at i new js)
insert_within zero new js n k g h = shift-within (ends new) js n k h
insert_within (suc i) new [] n k g h = absurd (omega arith)
insert_within (suc i) new (j ∷ js) n zero g h = absurd (omega arith)
insert_within (suc i) new (j ∷ js) n (suc k) g h = insert_within i new js n k (omega arith) (omega arith)

-- ---- whichever place has enough room

last_is_spot : (c d e : ℕ) (ks : List Job) → early d ks ≡ 0 → Near d ks → (i : ℕ) → i < places_of e d ks → c ≤ room_at e d ks i
    → Spot c d e i ks (start_at e ks i)
last_is_spot c d e ks z near zero h r =
    let fits : c ≤ d - e = rw (room-only e d ks z) at r in
    let due : e + c ≤ d = omega (arith, (only-first e d ks z 0 h).1) in
    (refl, due, near_low d (e + c) ks due near)
last_is_spot c d e ks z near (suc i) h r = absurd (omega (arith, (only-first e d ks z (suc i) h).0))

room_is_spot : (c d e : ℕ) (js : List Job) → Chain e js → (i : ℕ) → i < places_of e d js → c ≤ room_at e d js i → Spot c d e i js (start_at e js i)
room_is_spot c d e [] g i h r = last_is_spot c d e [] refl tt i h r
room_is_spot c d e (j ∷ js) g i h r = by_early (leb (start j) d) refl i h r (room_is_spot c d (ends j) js g.2) where
  by_early : (b : Bool) → leb (start j) d ≡ b → (i : ℕ) → i < places_of e d (j ∷ js) → c ≤ room_at e d (j ∷ js) i
      → ((m : ℕ) → m < places_of (ends j) d js → c ≤ room_at (ends j) d js m → Spot c d (ends j) m js (start_at (ends j) js m))
      → Spot c d e i (j ∷ js) (start_at e (j ∷ js) i)
  by_early true low zero h r more =
      let two = room_spot c d e j g.0 (leb-true (start j) d low) (rw (room-first e d j js low) at r) in
      (refl, two.0, two.1)
  by_early true low (suc m) h r more =
      rw (start-next e j js m) (more m (omega (arith, places-next e d j js low)) (rw (room_next e d j js low m) at r))
  by_early false high m h r more = last_is_spot c d e (j ∷ js) (early-none d e j js g high) (omega (arith, leb-false (start j) d high)) m h r

pub room_never_too_far : RoomNeverTooFar
room_never_too_far clock n l t c d i ok idle h r =
    let js = kept t (take n l) in
    let good = good-kept t n (take n l) (good_of clock n l (record { test = ok })) in
    let order = not_busy t js idle good.order in
    insert_within i (job (start_at t js i) c d 0) js (spot_near c d t i js (start_at t js i) order good.right (room_is_spot c d t js order i h r))

-- ---- the place that the search takes

at_filled : (ks : List Job) (k : ℕ) → k < length ks → get_or (filled ks) k none ≡ get_or ks k none
at_filled ks k h = sym (get_or-take (length ks) (filled ks) k none h) ∙ ap (λ (js : List Job). get_or js k none) (take-filled ks (length ks) refl)

module _ (clock n : ℕ) (l : List Job) (t c d : ℕ) (right : right_x (kept t (take n l)) ≡ true) where
  abbrev js : List Job
  js = kept t (take n l)

  ending_within : (o : Outcome) (i s : ℕ) → o.answer ≡ Ok (Taken i s) → Ending clock n l t c d o → MovesWithin js i o.jobs
  ending_within o i s e (same r h) = absurd (let z : ◌≡◌ {A = ℕ} 0 1 = cc in omega arith)
  ending_within o i s e (dropped r h late small) = absurd (let z : ◌≡◌ {A = ℕ} 0 1 = cc in omega arith)
  ending_within o i s e (taken i₂ s₂ late small some due few g spot) =
      let z : i₂ ≡ i = cc in
      let new = job s₂ c d 0 in
      λ k from inside.
      rw (at_filled (insert_at i₂ new js) (suc k) (omega (arith, length_insert i₂ new js)))
      (insert_within i₂ new js (spot_near c d t i₂ js s₂ g right spot) k (omega arith) inside)

pub never_too_far : NeverTooFar
never_too_far clock n l t c d i s e =
    let sound = sound-taken clock n l t c d i s e in
    ending_within clock n l t c d (good-kept t n (take n l) (good_of clock n l sound)).right (request_of clock n l t c d) i s e (ending clock n l t c d sound)
