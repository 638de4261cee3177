-- The rooms of the places, of the jobs behind the first one and of the search; the roomiest place and what binds it. Assumes nothing.
use Prim.Native.Nat.{ℕ, zero, suc, ◌+◌, ◌-◌, ◌<◌, ◌≤◌, min}
use mathlib.Core.Path.{◌≡◌, refl, ap}
use mathlib.Core.Bool.{Bool, true, false}
use mathlib.Core.List.{List, [], ◌∷◌}
use native.Mathlib.Nat.{le_antisymm}
use native.Mathlib.Omega.{arith}
use lib.Dec.{leb, ltb}
use lib.ListN.{length, take, drop, get_or}
use borrow.Author.Tests.{lt-ltb, le-ltb, le-leb, lt-leb, ltb-true, ltb-false, leb-true, leb-false}
use Rattle.rules.specs.Walk.{pick}
use Rattle.rules.proofs.First.{first-none, first_found, first_at, first-before, first-upto}
use Rattle.rules.proofs.Least.{largest-le, largest_is}
use Rattle.desk.specs.declared.Job.{Job}
use Rattle.desk.specs.Table.{start, flex, ends, none, right_x}
use Rattle.desk.specs.Places.{early, start_at, room}
use Rattle.desk.specs.Reason.{room_at, places_of, largest_room, as_roomy, roomiest, longer_end}
use Rattle.desk.specs.Request.{find_from, find, At, Nowhere}
use Rattle.desk.specs.Theorems.{Roomy}
use Rattle.desk.proofs.Afresh.{drop_right}
use Rattle.desk.proofs.Chain.{Chain}
use Rattle.desk.proofs.Spot.{early-late}
use Rattle.desk.proofs.Late.{before_tight, FirstLate, beyond}

-- ---- the places behind the first job are those of the jobs behind it

pub start-next : (s : ℕ) (j : Job) (js : List Job) (i : ℕ) → start_at s (j ∷ js) (suc i) ≡ start_at (ends j) js i
start-next s j js zero = refl
start-next s j js (suc i) = refl

ltb_suc : (i n : ℕ) → ltb (suc i) (suc n) ≡ ltb i n
ltb_suc i n = cases (ltb i n) refl where
  cases : (b : Bool) → ltb i n ≡ b → ltb (suc i) (suc n) ≡ b
  cases true h = lt-ltb (suc i) (suc n) (omega (arith, ltb-true i n h))
  cases false h = le-ltb (suc i) (suc n) (omega (arith, ltb-false i n h))

-- the job in front starts by d
module _ (s d : ℕ) (j : Job) (js : List Job) (low : leb (start j) d ≡ true) where
  pub room-first : room_at s d (j ∷ js) 0 ≡ room s d j
  unfolding room_at
  room-first = rw (low, lt-ltb 0 (suc (early d js)) (omega arith))

  pub room_next : (i : ℕ) → room_at s d (j ∷ js) (suc i) ≡ room_at (ends j) d js i
  unfolding room_at
  room_next i = rw (low, ltb_suc i (early d js), start-next s j js i)

  pub places-next : places_of s d (j ∷ js) ≡ suc (places_of (ends j) d js)
  unfolding places_of
  places-next = rw (low, start-next s j js (early d js)) (cases (leb (start_at (ends j) js (early d js)) d)) where
    cases : (b : Bool) → pick b (suc (suc (early d js))) (suc (early d js)) ≡ suc (pick b (suc (early d js)) (early d js))
    cases true = refl
    cases false = refl

-- none does: place l is the first
module _ (s d : ℕ) (ks : List Job) (e : early d ks ≡ 0) where
  pub room-only : room_at s d ks 0 ≡ d - s
  unfolding room_at
  room-only = rw e

  pub places-only : places_of s d ks ≡ pick (leb s d) 1 0
  unfolding places_of
  places-only = rw e

  pub only-first : (i : ℕ) → i < places_of s d ks → (i ≡ 0) × (s ≤ d)
  only-first i h = cases (leb s d) refl (rw places-only at h) where
    cases : (b : Bool) → leb s d ≡ b → i < pick b 1 0 → (i ≡ 0) × (s ≤ d)
    cases true f g = (omega arith, leb-true s d f)
    cases false f g = absurd (omega arith)

pub early-none : (d e : ℕ) (j : Job) (js : List Job) → Chain e (j ∷ js) → leb (start j) d ≡ false → early d (j ∷ js) ≡ 0
early-none d e j js g h =
    early-late d (start j) (j ∷ js) (leb-false (start j) d h) (omega arith, g.1, g.2)

-- ---- the search finds the lowest place with room

module _ (k c d s : ℕ) (ks : List Job) (e : early d ks ≡ 0) where
  last_none : pick (leb (s + c) d) (At k s) Nowhere ≡ Nowhere → (i : ℕ) → i < places_of s d ks → room_at s d ks i < c
  last_none q i h = cases (leb (s + c) d) refl q where
    cases : (b : Bool) → leb (s + c) d ≡ b → pick b (At k s) Nowhere ≡ Nowhere → room_at s d ks i < c
    cases true f z = absurd (let y : ◌≡◌ {A = ℕ} 0 1 = cc in omega arith)
    cases false f z =
        let two = only-first s d ks e i h in
        rw (two.0, room-only s d ks e) (omega (arith, leb-false (s + c) d f, two.1))

  last_found : (i : ℕ) → i < places_of s d ks → c ≤ room_at s d ks i → pick (leb (s + c) d) (At k s) Nowhere ≡ At (k + i) (start_at s ks i)
  last_found i h r =
      let two = only-first s d ks e i h in
      let z : i ≡ 0 = two.0 in
      let fits : c ≤ d - s = rw (z, room-only s d ks e) at r in
      rw (z, le-leb (s + c) d (omega (arith, two.1))) (ap (λ (m : ℕ). At m s) (let y : k ≡ k + 0 = omega arith in y))

find_none : (k c d s : ℕ) (ks : List Job) → Chain s ks → find_from k s c d (take (early d ks) ks) ≡ Nowhere
    → (i : ℕ) → i < places_of s d ks → room_at s d ks i < c
find_none k c d s [] g q = last_none k c d s [] refl q
find_none k c d s (j ∷ js) g q = by_early (leb (start j) d) refl q (find_none (k + 1) c d (ends j) js g.2) where
  Rest : Type 0
  Rest = find_from (k + 1) (ends j) c d (take (early d js) js) ≡ Nowhere → (i : ℕ) → i < places_of (ends j) d js → room_at (ends j) d js i < c

  by_place : leb (start j) d ≡ true → room s d j < c → ((i : ℕ) → i < places_of (ends j) d js → room_at (ends j) d js i < c)
      → (i : ℕ) → i < places_of s d (j ∷ js) → room_at s d (j ∷ js) i < c
  by_place low small more zero h = rw (room-first s d j js low) small
  by_place low small more (suc i) h = rw (room_next s d j js low i) (more i (omega (arith, places-next s d j js low)))

  by_room : (b : Bool) → leb c (room s d j) ≡ b → leb (start j) d ≡ true
      → pick b (At k s) (find_from (k + 1) (ends j) c d (take (early d js) js)) ≡ Nowhere → Rest
      → (i : ℕ) → i < places_of s d (j ∷ js) → room_at s d (j ∷ js) i < c
  by_room true f low z more = absurd (let y : ◌≡◌ {A = ℕ} 0 1 = cc in omega arith)
  by_room false f low z more = by_place low (leb-false c (room s d j) f) (more z)

  by_early : (b : Bool) → leb (start j) d ≡ b → find_from k s c d (take (pick b (suc (early d js)) (early d js)) (j ∷ js)) ≡ Nowhere → Rest
      → (i : ℕ) → i < places_of s d (j ∷ js) → room_at s d (j ∷ js) i < c
  by_early true low z more = by_room (leb c (room s d j)) refl low z more
  by_early false high z more =
      let none = early-late d (ends j) js (omega (arith, leb-false (start j) d high)) g.2 in
      last_none k c d s (j ∷ js) (early-none d s j js g high) (rw none at z)

find-lowest : (k c d s : ℕ) (ks : List Job) → Chain s ks → (i : ℕ) → i < places_of s d ks → c ≤ room_at s d ks i
    → ((m : ℕ) → m < i → room_at s d ks m < c) → find_from k s c d (take (early d ks) ks) ≡ At (k + i) (start_at s ks i)
find-lowest k c d s [] g i h r w = last_found k c d s [] refl i h r
find-lowest k c d s (j ∷ js) g i h r w = by_early (leb (start j) d) refl i h r w (find-lowest (k + 1) c d (ends j) js g.2) where
  Rest : Type 0
  Rest = (i : ℕ) → i < places_of (ends j) d js → c ≤ room_at (ends j) d js i → ((m : ℕ) → m < i → room_at (ends j) d js m < c)
      → find_from (k + 1) (ends j) c d (take (early d js) js) ≡ At (k + 1 + i) (start_at (ends j) js i)

  by_place : leb (start j) d ≡ true → (i : ℕ) → i < places_of s d (j ∷ js) → c ≤ room_at s d (j ∷ js) i → ((m : ℕ) → m < i → room_at s d (j ∷ js) m < c) → Rest
      → find_from k s c d (j ∷ take (early d js) js) ≡ At (k + i) (start_at s (j ∷ js) i)
  by_place low zero h r w more =
      let fits : c ≤ room s d j = rw (room-first s d j js low) at r in
      rw (le-leb c (room s d j) fits) (ap (λ (m : ℕ). At m s) (let y : k ≡ k + 0 = omega arith in y))
  by_place low (suc i) h r w more =
      let small : room s d j < c = rw (room-first s d j js low) at (w 0 (omega arith)) in
      let there = more i (omega (arith, places-next s d j js low)) (rw (room_next s d j js low i) at r) (λ m f. rw (room_next s d j js low m) at (w (suc m) (omega arith))) in
      let at : k + 1 + i ≡ k + suc i = omega arith in
      rw (lt-leb c (room s d j) small, start-next s j js i) (rw at at there)

  by_early : (b : Bool) → leb (start j) d ≡ b → (i : ℕ) → i < places_of s d (j ∷ js) → c ≤ room_at s d (j ∷ js) i → ((m : ℕ) → m < i → room_at s d (j ∷ js) m < c) → Rest
      → find_from k s c d (take (pick b (suc (early d js)) (early d js)) (j ∷ js)) ≡ At (k + i) (start_at s (j ∷ js) i)
  by_early true low i h r w more = by_place low i h r w more
  by_early false high i h r w more =
      let none = early-late d (ends j) js (omega (arith, leb-false (start j) d high)) g.2 in
      rw none (last_found k c d s (j ∷ js) (early-none d s j js g high) i h r)

pub none_roomy : (t c d : ℕ) (js : List Job) → Chain t js → find t c d js ≡ Nowhere → (i : ℕ) → i < places_of t d js → room_at t d js i < c
none_roomy t c d js g q = find_none 0 c d t js g q

pub lowest_roomy : (t c d : ℕ) (js : List Job) → Chain t js → (i : ℕ) → i < places_of t d js → c ≤ room_at t d js i
    → ((m : ℕ) → m < i → room_at t d js m < c) → find t c d js ≡ At i (start_at t js i)
lowest_roomy t c d js g i h r w =
    let at : 0 + i ≡ i = omega arith in
    rw at at (find-lowest 0 c d t js g i h r w)

-- ---- the roomiest place

module _ (t d : ℕ) (js : List Job) where
  pub roomy_of : 1 ≤ places_of t d js → Roomy t d js (roomiest t d js) (largest_room t d js)
  unfolding largest_room as_roomy roomiest
  roomy_of h =
      let one = largest_is (room_at t d js) (places_of t d js) h in
      let low : roomiest t d js ≤ one.0 = first-upto (as_roomy t d js) (places_of t d js) one.0 (le-leb (largest_room t d js) (room_at t d js one.0) (omega (arith, one.2))) in
      let inside : roomiest t d js < places_of t d js = omega (arith, one.1) in
      let enough : largest_room t d js ≤ room_at t d js (roomiest t d js) = leb-true _ _ (first_at (as_roomy t d js) (places_of t d js) inside) in
      record {
        inside = inside;
        room_is = le_antisymm (largest-le (room_at t d js) (places_of t d js) (roomiest t d js) inside) enough;
        largest = λ i l. largest-le (room_at t d js) (places_of t d js) i l;
        lowest = λ i l. leb-false _ _ (first-before (as_roomy t d js) (places_of t d js) i l);
      }

  module _ (place r : ℕ) (w : Roomy t d js place r) where
    pub room_one : largest_room t d js ≡ r
    unfolding largest_room
    room_one =
        let one = largest_is (room_at t d js) (places_of t d js) (omega (arith, w.inside)) in
        let over = w.largest one.0 one.1 in
        let under = largest-le (room_at t d js) (places_of t d js) place w.inside in
        le_antisymm (omega (arith, one.2, over)) (omega (arith, under, w.room_is))

    pub place_one : roomiest t d js ≡ place
    unfolding as_roomy roomiest
    place_one =
        let below = first-none (as_roomy t d js) place (λ i l. lt-leb (largest_room t d js) (room_at t d js i) (omega (arith, room_one, w.lowest i l))) in
        first_found (as_roomy t d js) (places_of t d js) place w.inside below (le-leb (largest_room t d js) (room_at t d js place) (omega (arith, room_one, w.room_is)))

-- ---- the jobs from a place on

pub at_drop : (i : ℕ) (js : List Job) → i < length js → drop i js ≡ get_or js i none ∷ drop (suc i) js
at_drop i [] h = absurd (omega arith)
at_drop zero (j ∷ js) h = refl
at_drop (suc i) (j ∷ js) h = at_drop i js (omega arith)

chain_drop : (s i : ℕ) (js : List Job) → Chain s js → i ≤ length js → Chain (start_at s js i) (drop i js)
chain_drop s zero js g h = g
chain_drop s (suc i) [] g h = absurd (omega arith)
chain_drop s (suc i) (j ∷ js) g h = rw (start-next s j js i) (chain_drop (ends j) i js g.2 (omega arith))

pub early_at : (s d i : ℕ) (js : List Job) → Chain s js → i < early d js → (i < length js) × (start (get_or js i none) ≤ d)
early_at s d i [] g h = absurd (omega arith)
early_at s d i (j ∷ js) g h = by_early (leb (start j) d) refl i h (λ m. early_at (ends j) d m js g.2) where
  by_early : (b : Bool) → leb (start j) d ≡ b → (i : ℕ) → i < pick b (suc (early d js)) (early d js)
      → ((m : ℕ) → m < early d js → (m < length js) × (start (get_or js m none) ≤ d))
      → (i < suc (length js)) × (start (get_or (j ∷ js) i none) ≤ d)
  by_early true low zero h more = (omega arith, leb-true _ _ low)
  by_early true low (suc i) h more = let two = more i (omega arith) in (omega (arith, two.0), two.1)
  by_early false high i h more =
      let none = early-late d (ends j) js (omega (arith, leb-false (start j) d high)) g.2 in
      absurd (omega (arith, none))

-- ---- one tick more than the room

own_end : (s d a x : ℕ) → s ≤ a → a ≤ d → s + (a - s + min (d - a) x + 1) ≤ d → s + (a - s + min (d - a) x + 1) ≡ a + x + 1
own_end s d a x h g f = omega arith

-- at a place before a job, where the request's own deadline is kept
module _ (t d : ℕ) (js : List Job) (g : Chain t js) (r : right_x js ≡ true) (i : ℕ) (h : i < early d js) where
  pub room-early : room_at t d js i ≡ room (start_at t js i) d (get_or js i none)
  unfolding room_at
  room-early = rw (lt-ltb i (early d js) h)

  pub tick_breaks : longer_end t d js i ≤ d → FirstLate (longer_end t d js i) (drop i js) (before_tight (drop i js))
  tick_breaks due =
      let two = early_at t d i js g h in
      let order : Chain (start_at t js i) (get_or js i none ∷ drop (suc i) js) = rw (at_drop i js two.0) at (chain_drop t i js g (omega (arith, two.0))) in
      let right : right_x (get_or js i none ∷ drop (suc i) js) ≡ true = rw (at_drop i js two.0) at (drop_right i js r) in
      let end : longer_end t d js i ≡ start (get_or js i none) + flex (get_or js i none) + 1 =
      rw room-early (own_end (start_at t js i) d (start (get_or js i none)) (flex (get_or js i none)) order.0 two.1 (rw room-early at due)) in
      rw (at_drop i js two.0) (beyond (longer_end t d js i) (start_at t js i) (get_or js i none) (drop (suc i) js) end order right)
