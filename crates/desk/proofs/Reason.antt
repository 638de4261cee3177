-- What 18 tells is so: the roomiest place, its room, and the deadline that one tick more there breaks. Assumes nothing.
use Prim.Native.Nat.{ℕ, suc, ◌+◌, ◌-◌, ◌<◌, ◌≤◌}
use mathlib.Core.Path.{◌≡◌, refl, sym, subst, ◌∙◌}
use mathlib.Core.Logic.{◌⊎◌, inl, inr}
use mathlib.Core.Bool.{Bool, true, false}
use mathlib.Core.List.{List}
use native.Mathlib.Omega.{arith}
use lib.Dec.{leb}
use lib.ListN.{length, take, drop, length-drop}
use borrow.Author.Tests.{le-leb, lt-leb, le-ltb, lt-ltb, leb-true, leb-false, ltb-true, ltb-false}
use Rattle.rules.specs.Walk.{pick}
use Rattle.rules.specs.Limits.{places, latest}
use Rattle.rules.specs.declared.Refusal.TheVariants.{NoPlace}
use Rattle.rules.specs.declared.Binding.{Binding}
use Rattle.rules.specs.declared.Binding.TheVariants.{Own, Listed}
use Rattle.rules.specs.declared.Explanation.{Explanation}
use Rattle.rules.specs.declared.Explanation.TheVariants as why
use Rattle.rules.proofs.Tests.{and_parts}
use Rattle.rules.proofs.Sum.{le-or-lt}
use Rattle.desk.specs.declared.Job.{Job}
use Rattle.std.specs.Prelude.{Ok, Err}
use Rattle.desk.specs.declared.Done.TheVariants.{Taken}
use Rattle.desk.specs.Table.{right_x, Outcome}
use Rattle.desk.specs.Places.{early, start_at}
use Rattle.desk.specs.Reason.{room_at, places_of, largest_room, roomiest, longer_end, late, binding_at, explanation_of}
use Rattle.desk.specs.Request.{kept, find, numbers_ok, taking, request_of, Place, At, Nowhere}
use Rattle.desk.specs.Theorems.{Ready, Roomy, NoPlaceRoomiest, NoPlaceNowhere, Breaks, TickBreaks, NoPlaceBreaks, NoPlaceRoomTaken}
use Rattle.desk.proofs.Chain.{Chain}
use Rattle.desk.proofs.Late.{before_tight, FirstLate, breaks_first}
use Rattle.desk.proofs.Rooms.{places-only, none_roomy, lowest_roomy, roomy_of, room_one, place_one, early_at, tick_breaks}
use Rattle.desk.proofs.Ready.{Comes, at_13, at_14, at_15, at_16, at_17, through, comes}
use Rattle.desk.proofs.Rules.{good_of, good-kept, not_busy}

-- ---- what is told is the definition's

record Because (clock n : ℕ) (l : List Job) (t c d : ℕ) (reason : Explanation) : Type 0 where
  ready : Ready clock n l t c d
  is : explanation_of t d (kept t (take n l)) ≡ reason
  nowhere : find t c d (kept t (take n l)) ≡ Nowhere

module _ (clock n : ℕ) (l : List Job) (t c d : ℕ) where
  abbrev js : List Job
  js = kept t (take n l)

  searched : (reason : Explanation) → Ready clock n l t c d → (p : Place) → find t c d js ≡ p → (taking t c d js p).answer ≡ Err (NoPlace reason)
      → Because clock n l t c d reason
  searched reason w Nowhere e q = record { ready = w; is = cc; nowhere = e }
  searched reason w (At i s) e q = absurd (let y : ◌≡◌ {A = ℕ} 0 1 = cc in omega arith)

  because_by : (reason : Explanation) (o : Outcome) → Comes clock n l t c d o → o.answer ≡ Err (NoPlace reason) → Because clock n l t c d reason
  because_by reason o (at_13 e) q = absurd (let y : ◌≡◌ {A = ℕ} 0 1 = cc in omega arith)
  because_by reason o (at_14 e) q = absurd (let y : ◌≡◌ {A = ℕ} 0 1 = cc in omega arith)
  because_by reason o (at_15 e) q = absurd (let y : ◌≡◌ {A = ℕ} 0 1 = cc in omega arith)
  because_by reason o (at_16 a b e) q = absurd (let y : ◌≡◌ {A = ℕ} 0 1 = cc in omega arith)
  because_by reason o (at_17 a b e) q = absurd (let y : ◌≡◌ {A = ℕ} 0 1 = cc in omega arith)
  because_by reason o (through w) q = searched reason w (find t c d js) refl q

  because : (reason : Explanation) → (request_of clock n l t c d).answer ≡ Err (NoPlace reason) → Because clock n l t c d reason
  because reason q = because_by reason (request_of clock n l t c d) (comes clock n l t c d) q

  ordered : Ready clock n l t c d → Chain t js
  ordered w = not_busy t js w.not_busy (good-kept t n (take n l) (good_of clock n l (record { test = w.rules }))).order

  right : Ready clock n l t c d → right_x js ≡ true
  right w = (good-kept t n (take n l) (good_of clock n l (record { test = w.rules }))).right

  -- a request that comes to the search
  request_ready : Ready clock n l t c d → request_of clock n l t c d ≡ taking t c d js (find t c d js)
  unfolding request_of
  request_ready w = rw (w.rules, w.numbers, le-ltb t clock w.not_past, w.not_busy, lt-leb places (length js) w.not_full)

  -- and finds a place there
  request_taken : Ready clock n l t c d → (i s : ℕ) → find t c d js ≡ At i s → (request_of clock n l t c d).answer ≡ Ok (Taken i s)
  request_taken w i s e = rw (request_ready w, e)

-- ---- the definition says what it is to

module _ (t d : ℕ) (js : List Job) where
  record Told (place room : ℕ) (binding : Binding) : Type 0 where
    some : 1 ≤ places_of t d js
    place_is : roomiest t d js ≡ place
    room_is : largest_room t d js ≡ room
    binding_is : binding_at t d js (roomiest t d js) ≡ binding

  told_of : (place room : ℕ) (binding : Binding) → explanation_of t d js ≡ why.Roomiest place room binding → Told place room binding
  unfolding explanation_of
  told_of place room binding e = cases (leb 1 (places_of t d js)) refl e where
    cases : (b : Bool) → leb 1 (places_of t d js) ≡ b
        → pick b (why.Roomiest (roomiest t d js) (largest_room t d js) (binding_at t d js (roomiest t d js))) why.Nowhere ≡ why.Roomiest place room binding
        → Told place room binding
    cases true h q = record { some = leb-true 1 (places_of t d js) h; place_is = cc; room_is = cc; binding_is = cc }
    cases false h q = absurd (let y : ◌≡◌ {A = ℕ} 0 1 = cc in omega arith)

  roomy : (place room : ℕ) (binding : Binding) → Told place room binding → Roomy t d js place room
  roomy place room binding w =
      subst (λ (p : ℕ). Roomy t d js p room) w.place_is (subst (λ (r : ℕ). Roomy t d js (roomiest t d js) r) w.room_is (roomy_of t d js w.some))

  -- ---- none at all

  no_places : explanation_of t d js ≡ why.Nowhere → places_of t d js ≡ 0
  unfolding explanation_of
  no_places e = cases (leb 1 (places_of t d js)) refl e where
    cases : (b : Bool) → leb 1 (places_of t d js) ≡ b
        → pick b (why.Roomiest (roomiest t d js) (largest_room t d js) (binding_at t d js (roomiest t d js))) why.Nowhere ≡ why.Nowhere → places_of t d js ≡ 0
    cases true h q = absurd (let y : ◌≡◌ {A = ℕ} 0 1 = cc in omega arith)
    cases false h q = omega (arith, leb-false 1 (places_of t d js) h)

  no_early : places_of t d js ≡ 0 → (early d js ≡ 0) × (d < t)
  unfolding places_of
  no_early e = cases (leb (start_at t js (early d js)) d) refl e where
    cases : (b : Bool) → leb (start_at t js (early d js)) d ≡ b → pick b (suc (early d js)) (early d js) ≡ 0 → (early d js ≡ 0) × (d < t)
    cases true h q = absurd (omega arith)
    cases false h q = (q, leb-false t d (rw q at h))

  told_nowhere : early d js ≡ 0 → d < t → explanation_of t d js ≡ why.Nowhere
  unfolding explanation_of
  told_nowhere e h = rw (places-only t d js e, lt-leb t d h)

  -- ---- what binds

  -- place l is bound by the request's deadline
  last_own : (i : ℕ) → i < places_of t d js → early d js ≤ i → d < longer_end t d js i
  unfolding room_at places_of
  last_own i h g = cases (leb (start_at t js (early d js)) d) refl h where
    cases : (b : Bool) → leb (start_at t js (early d js)) d ≡ b → i < pick b (suc (early d js)) (early d js) → d < longer_end t d js i
    cases true f l =
        let z : i ≡ early d js = omega arith in
        let from : start_at t js i ≤ d = rw z (leb-true (start_at t js (early d js)) d f) in
        rw (le-ltb i (early d js) g) (omega arith)
    cases false f l = absurd (omega arith)

  -- the first job that ends late, counted from place i on and among all
  breaks_at : (e i k m : ℕ) → i ≤ length js → e ≤ d → FirstLate e (drop i js) k → m ≡ i + k → Breaks e d js i m
  unfolding late
  breaks_at e i k m h due w z =
      let at : m - i ≡ k = omega arith in
      record {
        own_kept = due;
        from = omega arith;
        inside = omega (arith, w.inside, length-drop i js);
        late = rw at (ltb-true _ _ w.broken);
        first = λ p f g. ltb-false _ _ (w.unbroken (p - i) (omega arith));
      }

  pub binds_own : (i : ℕ) → d < longer_end t d js i → binding_at t d js i ≡ Own
  unfolding binding_at
  binds_own i h = rw (lt-ltb d (longer_end t d js i) h)

  module _ (g : Chain t js) (r : right_x js ≡ true) where
    pub binds_listed : (i : ℕ) → i < early d js → longer_end t d js i ≤ d → binding_at t d js i ≡ Listed (i + before_tight (drop i js))
    unfolding binding_at
    binds_listed i h due =
        let w = tick_breaks t d js g r i h due in
        rw (le-ltb d (longer_end t d js i) due, ← length-drop i js, breaks_first (longer_end t d js i) (drop i js) (before_tight (drop i js)) w)

    binds : (i : ℕ) → i < places_of t d js → TickBreaks t d js i (room_at t d js i) (binding_at t d js i)
    binds i h = cases (le-or-lt (longer_end t d js i) d) where
      listed : longer_end t d js i ≤ d → (early d js ≤ i) ⊎ (i < early d js) → TickBreaks t d js i (room_at t d js i) (binding_at t d js i)
      listed due (inl f) = absurd (omega (arith, last_own i h f))
      listed due (inr f) =
          rw (binds_listed i f due)
          (breaks_at (longer_end t d js i) i (before_tight (drop i js)) (i + before_tight (drop i js)) (omega (arith, (early_at t d i js g f).0)) due (tick_breaks t d js g r i f due) refl)

      cases : (longer_end t d js i ≤ d) ⊎ (d < longer_end t d js i) → TickBreaks t d js i (room_at t d js i) (binding_at t d js i)
      cases (inl due) = listed due (le-or-lt (early d js) i)
      cases (inr over) = rw (binds_own i over) over

    breaks : (place room : ℕ) (binding : Binding) → Told place room binding → TickBreaks t d js place room binding
    breaks place room binding w =
        let all = roomy place room binding w in
        let same : binding_at t d js place ≡ binding = subst (λ (p : ℕ). binding_at t d js p ≡ binding) w.place_is w.binding_is in
        subst (λ (b : Binding). TickBreaks t d js place room b) same
        (subst (λ (k : ℕ). TickBreaks t d js place k (binding_at t d js place)) all.room_is (binds place all.inside))

  -- ---- and nothing else does

  pub told_one : (place room : ℕ) (binding : Binding) → Roomy t d js place room → binding_at t d js place ≡ binding
      → why.Roomiest place room binding ≡ explanation_of t d js
  unfolding explanation_of
  told_one place room binding w e =
      rw (le-leb 1 (places_of t d js) (omega (arith, w.inside)), place_one t d js place room w, room_one t d js place room w, e)

  pub told_none : places_of t d js ≡ 0 → why.Nowhere ≡ explanation_of t d js
  unfolding explanation_of
  told_none e = rw e

-- ---- the promises

pub no_place_roomiest : NoPlaceRoomiest
no_place_roomiest clock n l t c d place room binding q =
    let b = because clock n l t c d (why.Roomiest place room binding) q in
    let all = roomy t d (kept t (take n l)) place room binding (told_of t d (kept t (take n l)) place room binding b.is) in
    let small = none_roomy t c d (kept t (take n l)) (ordered clock n l t c d b.ready) b.nowhere place all.inside in
    (all, omega (arith, small, all.room_is))

pub no_place_nowhere : NoPlaceNowhere
no_place_nowhere clock n l t c d reason q =
    let is = (because clock n l t c d reason q).is in (
      λ e. no_early t d (kept t (take n l)) (no_places t d (kept t (take n l)) (is ∙ e)),
      λ w. sym is ∙ told_nowhere t d (kept t (take n l)) w.0 w.1,
    )

pub no_place_breaks : NoPlaceBreaks
no_place_breaks clock n l t c d place room binding q =
    let b = because clock n l t c d (why.Roomiest place room binding) q in
    breaks t d (kept t (take n l)) (ordered clock n l t c d b.ready) (right clock n l t c d b.ready) place room binding
    (told_of t d (kept t (take n l)) place room binding b.is)

numbers_fewer : (t c d r : ℕ) → numbers_ok t c d ≡ true → 1 ≤ r → r ≤ c → numbers_ok t r d ≡ true
numbers_fewer t c d r h some few =
    let one = and_parts (leb 1 c) _ h in
    let two = and_parts (leb c latest) _ one.1 in
    rw (le-leb 1 r some, le-leb r latest (omega (arith, leb-true c latest two.0))) two.1

pub no_place_room_taken : NoPlaceRoomTaken
no_place_room_taken clock n l t c d place room binding q some =
    let js = kept t (take n l) in
    let b = because clock n l t c d (why.Roomiest place room binding) q in
    let w = b.ready in
    let two = no_place_roomiest clock n l t c d place room binding q in
    let again : Ready clock n l t room d = record {
      rules = w.rules;
      numbers = numbers_fewer t c d room w.numbers some (omega (arith, two.1));
      not_past = w.not_past;
      not_busy = w.not_busy;
      not_full = w.not_full;
    } in
    request_taken clock n l t room d again place (start_at t js place)
    (lowest_roomy t room d js (ordered clock n l t c d w) place two.0.inside (omega (arith, two.0.room_is)) two.0.lowest)
