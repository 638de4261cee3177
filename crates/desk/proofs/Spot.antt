-- What the search for a place gives, and what taking a job in there leaves. Assumes nothing.
use Prim.Native.Nat.{ℕ, zero, suc, ◌+◌, ◌<◌, ◌≤◌, max}
use mathlib.Core.Path.{◌≡◌, refl, ap, subst}
use mathlib.Core.Bool.{Bool, true, false}
use mathlib.Core.List.{List, [], ◌∷◌, ◌++◌}
use native.Mathlib.Omega.{arith}
use lib.Dec.{leb, eqb}
use lib.ListN.{length, take, drop, length-append, length-take, length-drop}
use borrow.Author.Tests.{leb-true, leb-false, lt-leb}
use Rattle.rules.specs.Limits.{latest}
use Rattle.desk.specs.declared.Job.{Job}
use Rattle.rules.specs.Walk.{pick}
use Rattle.desk.specs.Table.{job, x_of, right_x, ends}
use Rattle.desk.specs.Places.{shift, early, room}
use Rattle.desk.specs.Request.{insert_at, find, find_from, At, Nowhere}
use Rattle.rules.proofs.Tests.{and_parts}
use Rattle.desk.proofs.Check.{length-refit}
use Rattle.desk.proofs.Afresh.{Near, AllNear}
use Rattle.desk.proofs.Chain.{Chain, chain_low, chain_shift, all_near}

-- p is a place for c and d among js, with start s: the end of the job before it, or e in front of all
abbrev pub Spot : ℕ → ℕ → ℕ → ℕ → List Job → ℕ → Type 0
Spot c d e zero js s = (s ≡ e) × (s + c ≤ d) × Near (s + c) js
Spot c d e (suc p) [] s = ⊥
Spot c d e (suc p) (j ∷ js) s = Spot c d (ends j) p js s

record Found (k c d e : ℕ) (js : List Job) (i s : ℕ) : Type 0 where
  at : ℕ
  is : i ≡ k + at
  spot : Spot c d e at js s

pub early-late : (d e : ℕ) (js : List Job) → d < e → Chain e js → early d js ≡ 0
early-late d e [] h g = refl
early-late d e (j ∷ js) h g =
    let late : d < j.start = omega (arith, g.0) in
    rw (lt-leb j.start d late) (early-late d (ends j) js (omega arith) g.2)

pub near_low : (e f : ℕ) (js : List Job) → f ≤ e → Near e js → Near f js
near_low e f [] h n = tt
near_low e f (j ∷ js) h n = omega (arith, n)

-- a place with room is a spot: the step from room ≥ C to a first move within x
pub room_spot : (c d e : ℕ) (j : Job) → e ≤ j.start → j.start ≤ d → c ≤ room e d j → (e + c ≤ d) × (e + c ≤ j.start + j.flex)
room_spot c d e j h g r = (omega arith, omega arith)

-- place l is a spot: the job behind it, if any, starts after d
last_spot : (k c d e : ℕ) (js : List Job) (i s : ℕ) → pick (leb (e + c) d) (At k e) Nowhere ≡ At i s → Near d js → Found k c d e js i s
last_spot k c d e js i s h near = by_due (leb (e + c) d) refl h where
  by_due : (b : Bool) → leb (e + c) d ≡ b → pick b (At k e) Nowhere ≡ At i s → Found k c d e js i s
  by_due true r q =
      let z : s ≡ e = cc in
      let zi : i ≡ k = cc in
      let due : s + c ≤ d = omega (arith, leb-true (e + c) d r) in
      record { at = 0; is = omega arith; spot = (z, due, near_low d (s + c) js due near) }
  by_due false r q = absurd (let z : ◌≡◌ {A = ℕ} 0 1 = cc in omega arith)

find_spot : (k c d e : ℕ) (js : List Job) → Chain e js → (i s : ℕ) → find_from k e c d (take (early d js) js) ≡ At i s
    → Found k c d e js i s
find_spot k c d e [] g i s h = last_spot k c d e [] i s h tt
find_spot k c d e (j ∷ js) g i s h = by_early (leb j.start d) refl h (find_spot (k + 1) c d (ends j) js g.2 i s) where
  by_room : (b : Bool) → j.start ≤ d → leb c (room e d j) ≡ b
      → pick b (At k e) (find_from (k + 1) (ends j) c d (take (early d js) js)) ≡ At i s
      → (find_from (k + 1) (ends j) c d (take (early d js) js) ≡ At i s → Found (k + 1) c d (ends j) js i s)
      → Found k c d e (j ∷ js) i s
  by_room true low r q more =
      let z : s ≡ e = cc in
      let zi : i ≡ k = cc in
      let two = room_spot c d e j g.0 low (leb-true c _ r) in
      record { at = 0; is = omega arith; spot = (z, omega (arith, two.0), omega (arith, two.1)) }
  by_room false low r q more =
      let f = more q in record { at = suc f.at; is = omega (arith, f.is); spot = f.spot }

  by_early : (b : Bool) → leb j.start d ≡ b → find_from k e c d (take (pick b (suc (early d js)) (early d js)) (j ∷ js)) ≡ At i s
      → (find_from (k + 1) (ends j) c d (take (early d js) js) ≡ At i s → Found (k + 1) c d (ends j) js i s)
      → Found k c d e (j ∷ js) i s
  by_early true low q more = by_room (leb c (room e d j)) (leb-true _ _ low) refl q more
  by_early false low q more =
      let out : d < j.start = leb-false j.start d low in
      let none = early-late d (ends j) js (omega arith) g.2 in
      last_spot k c d e (j ∷ js) i s (rw none at q) (omega arith)

-- and so is the place of the whole search
pub found_spot : (t c d : ℕ) (js : List Job) → Chain t js → (i s : ℕ) → find t c d js ≡ At i s → Spot c d t i js s
found_spot t c d js g i s e =
    let f = find_spot 0 c d t js g i s e in
    let at : f.at ≡ i = omega (arith, f.is) in
    subst (λ (p : ℕ). Spot c d t p js s) at f.spot

pub right_tail : (j : Job) (js : List Job) → right_x (j ∷ js) ≡ true → right_x js ≡ true
right_tail j js r = (and_parts (eqb j.flex (x_of j js)) _ r).1

-- at a spot no move exceeds its job's x
pub spot_near : (c d e p : ℕ) (js : List Job) (s : ℕ) → Chain e js → right_x js ≡ true → Spot c d e p js s → AllNear (s + c) (drop p js)
spot_near c d e zero js s g r h = all_near (s + c) e js g r h.2
spot_near c d e (suc p) [] s g r h = absurd h
spot_near c d e (suc p) (j ∷ js) s g r h = spot_near c d (ends j) p js s g.2 (right_tail j js r) h

pub spot_start : (c d e p : ℕ) (js : List Job) (s : ℕ) → Chain e js → Spot c d e p js s → e ≤ s
spot_start c d e zero js s g h = omega (arith, h.0)
spot_start c d e (suc p) [] s g h = absurd h
spot_start c d e (suc p) (j ∷ js) s g h = omega (arith, spot_start c d (ends j) p js s g.2 h, g.0)

pub spot_inside : (c d e p : ℕ) (js : List Job) (s : ℕ) → Spot c d e p js s → p ≤ length js
spot_inside c d e zero js s h = omega arith
spot_inside c d e (suc p) [] s h = absurd h
spot_inside c d e (suc p) (j ∷ js) s h = omega (arith, spot_inside c d (ends j) p js s h)

pub spot_due : (c d e p : ℕ) (js : List Job) (s : ℕ) → Spot c d e p js s → s + c ≤ d
spot_due c d e zero js s h = h.1
spot_due c d e (suc p) [] s h = absurd h
spot_due c d e (suc p) (j ∷ js) s h = spot_due c d (ends j) p js s h

pub chain_insert : (c d e p : ℕ) (js : List Job) (s : ℕ) → 1 ≤ c → d ≤ latest → Chain e js → right_x js ≡ true → Spot c d e p js s
    → Chain e (insert_at p (job s c d 0) js)
chain_insert c d e zero js s hc hd g r h = (
  omega (arith, h.0),
  record { some = hc; in_time = h.1; low = hd },
  chain_shift (s + c) js (chain_low e 0 js (omega arith) g) r h.2,
)
chain_insert c d e (suc p) [] s hc hd g r h = absurd h
chain_insert c d e (suc p) (j ∷ js) s hc hd g r h = (
  g.0,
  record { some = g.1.some; in_time = g.1.in_time; low = g.1.low },
  chain_insert c d (ends j) p js s hc hd g.2 (right_tail j js r) h,
)

pub length_shift : (e : ℕ) (js : List Job) → length (shift e js) ≡ length js
length_shift e [] = refl
length_shift e (j ∷ js) = ap suc (length_shift (max e j.start + j.budget) js)

pub length_insert : (p : ℕ) (new : Job) (js : List Job) → length (insert_at p new js) ≡ length js + 1
length_insert p new js =
    omega (
      arith,
      length-refit (take p js ++ (new ∷ [])) (shift (ends new) (drop p js)),
      length-append (take p js) (new ∷ []),
      length_shift (ends new) (drop p js),
      length-take p js,
      length-drop p js,
    )
