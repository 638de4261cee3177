-- The roomiest place that the search keeps against what 18 tells. Assumes nothing.
use Prim.Native.Nat.{ℕ, suc, ◌+◌, ◌-◌, ◌<◌, ◌≤◌, min}
use mathlib.Core.Path.{◌≡◌, refl, sym, ap, subst, ◌∙◌}
use mathlib.Core.Logic.{⊎_elim}
use mathlib.Core.Bool.{Bool, true, false, true≢false}
use mathlib.Core.List.{List, [], ◌∷◌}
use native.Mathlib.Nat.{eq-or-lt_of_le}
use native.Mathlib.Numerals.{add-one}
use native.Mathlib.Omega.{arith}
use lib.Dec.{leb, ltb, eqb}
use lib.ListN.{length, drop, get_or, length-drop}
use borrow.Author.Tests.{le-ltb, ltb-true, ltb-false, leb-true, eqb-true, eqb-false}
use Rattle.rules.specs.Walk.{pick}
use Rattle.rules.specs.declared.Binding.TheVariants.{Listed}
use Rattle.rules.specs.declared.Explanation.TheVariants.{Nowhere}
use Rattle.desk.specs.declared.Job.{Job}
use Rattle.desk.specs.Table.{start, flex, ends, none, right_x}
use Rattle.desk.specs.Places.{early, start_at, room}
use Rattle.desk.specs.Reason.{room_at, places_of, binding_at, explanation_of}
use Rattle.desk.proofs.Chain.{Chain}
use Rattle.desk.proofs.Late.{before_tight}
use Rattle.desk.proofs.Rooms.{early-none, early_at, at_drop, room-early}
use Rattle.desk.proofs.Reason.{binds_own, binds_listed, told_one, told_none}
use Rattle.desk_records.specs.Folds.{fold}
use Rattle.desk_records.specs.Sums.{most32, sum_to}
use Rattle.desk_reading.specs.declared.best.Best.{Best}
use Rattle.desk_reading.specs.declared.best.Bound.{Bound}
use Rattle.desk_reading.specs.declared.best.Bound.TheVariants.{ByRequest, Seeking, ByJob}
use Rattle.desk_reading.specs.Best.{no_best, outdone, bound_at, best_with, tight, sought_on, sought_at, binding_of, explained}
use Rattle.desk_engine.proofs.Counts.{sum_is}

-- what the search keeps of the jobs ks, from place p and time s on, where none of them has room
abbrev pub best_from : ℕ → Best → ℕ → ℕ → List Job → Best
best_from d b p s [] = b
best_from d b p s (j ∷ ks) =
    pick (leb (start j) d)
    (best_from d (sought_at (best_with b p (room s d j) (ltb (flex j) (d - start j))) j) (p + 1) (ends j) ks)
    (fold sought_at (sought_at b j) ks)

tight-few : (js : List Job) → before_tight js ≤ length js
tight-few [] = omega arith
tight-few (j ∷ js) = cases (tight j) (tight-few js) where
  cases : (b : Bool) → before_tight js ≤ length js → pick b 0 (suc (before_tight js)) ≤ suc (length js)
  cases true h = omega arith
  cases false h = omega arith

-- a listed job's deadline binds, and the job that is told, with the jobs ks still to be looked at
abbrev listed_in : Bound → Bool
listed_in ByRequest = false
listed_in (Seeking k) = true
listed_in (ByJob k) = true

abbrev job_in : Bound → List Job → ℕ
job_in ByRequest ks = 0
job_in (Seeking k) ks = k + before_tight ks
job_in (ByJob k) ks = k

listed_is : (p : ℕ) (v : Bool) → listed_in (bound_at p v) ≡ v
listed_is p true = refl
listed_is p false = refl

some : (p : ℕ) → (p ≡ 0 → ⊥) → 0 < p
some p h = omega arith

own_tick : (s d a x : ℕ) → s ≤ a → a ≤ d → d - a ≤ x → d < s + (a - s + min (d - a) x + 1)
own_tick s d a x h g f = omega arith

listed_tick : (s d a x : ℕ) → s ≤ a → a ≤ d → x < d - a → s + (a - s + min (d - a) x + 1) ≤ d
listed_tick s d a x h g f = omega arith

module _ (t d : ℕ) (js : List Job) (order : Chain t js) (right : right_x js ≡ true) (few : length js ≤ most32) where
  -- what is known of the deadline that binds, with the jobs ks still to be looked at
  record Binds (ks : List Job) (b : Best) : Type 0 where
    own : listed_in b.bound ≡ false → d < start_at t js b.place + (b.room + 1)
    before : listed_in b.bound ≡ true → b.place < early d js
    due : listed_in b.bound ≡ true → start_at t js b.place + (b.room + 1) ≤ d
    job : listed_in b.bound ≡ true → job_in b.bound ks ≡ b.place + before_tight (drop b.place js)

  -- b is the roomiest of the first p places, where there are any
  record Known (p : ℕ) (ks : List Job) (b : Best) : Type 0 where
    inside : 0 < p → b.place < p
    room_is : 0 < p → room_at t d js b.place ≡ b.room
    largest : 0 < p → (i : ℕ) → i < p → room_at t d js i ≤ b.room
    lowest : 0 < p → (i : ℕ) → i < b.place → room_at t d js i < b.room
    binds : 0 < p → Binds ks b

  known_none : (ks : List Job) → Known 0 ks no_best
  known_none ks = record {
    inside = λ e. absurd (omega arith);
    room_is = λ e. absurd (omega arith);
    largest = λ e. absurd (omega arith);
    lowest = λ e. absurd (omega arith);
    binds = λ e. absurd (omega arith);
  }

  -- ---- one more place

  -- the places before p, where p outdoes b
  under : (p : ℕ) (ks : List Job) (b : Best) (r : ℕ) → Known p ks b → outdone b p r ≡ true → (i : ℕ) → i < p → room_at t d js i < r
  under p ks b r w h i l = cases (eqb p 0) refl h where
    cases : (v : Bool) → eqb p 0 ≡ v → pick v true (ltb b.room r) ≡ true → room_at t d js i < r
    cases true e f = absurd (omega (arith, eqb-true p 0 e))
    cases false e f = omega (arith, w.largest (omega arith) i l, ltb-true b.room r f)

  -- and where it does not
  stays_under : (p : ℕ) (b : Best) (r : ℕ) → outdone b p r ≡ false → (0 < p) × (r ≤ b.room)
  stays_under p b r h = cases (eqb p 0) refl h where
    cases : (v : Bool) → eqb p 0 ≡ v → pick v true (ltb b.room r) ≡ false → (0 < p) × (r ≤ b.room)
    cases true e f = absurd (true≢false f)
    cases false e f = (some p (eqb-false p 0 e), ltb-false b.room r f)

  -- a place p, its room r and what binds it
  record Tried (p : ℕ) (ks : List Job) (r : ℕ) (listed : Bool) : Type 0 where
    room_is : room_at t d js p ≡ r
    own : listed ≡ false → d < start_at t js p + (r + 1)
    before : listed ≡ true → p < early d js
    due : listed ≡ true → start_at t js p + (r + 1) ≤ d
    rest : listed ≡ true → drop p js ≡ ks

  known_with : (p : ℕ) (ks : List Job) (b : Best) (r : ℕ) (listed : Bool) → Known p ks b → Tried p ks r listed → Known (p + 1) ks (best_with b p r listed)
  known_with p ks b r listed w v = cases (outdone b p r) refl where
    upto : (m : ℕ) → ((i : ℕ) → i < p → room_at t d js i ≤ m) → r ≤ m → (i : ℕ) → i < p + 1 → room_at t d js i ≤ m
    upto m below here i l =
        let small : i ≤ p = omega arith in
        ⊎_elim (λ e. rw e (omega (arith, v.room_is))) (λ (f : i < p). below i f) (eq-or-lt_of_le small)

    is : listed_in (bound_at p listed) ≡ listed
    is = listed_is p listed

    job_is : listed ≡ true → job_in (bound_at p listed) ks ≡ p + before_tight (drop p js)
    job_is e = rw (e, v.rest e)

    cases : (o : Bool) → outdone b p r ≡ o → Known (p + 1) ks (pick o (record { place = p; room = r; bound = bound_at p listed }) b)
    cases true h = record {
      inside = λ e. omega arith;
      room_is = λ e. v.room_is;
      largest = λ e. upto r (λ i l. let z = under p ks b r w h i l in omega arith) (omega arith);
      lowest = λ e. under p ks b r w h;
      binds = λ e. record { own = λ z. v.own (sym is ∙ z); before = λ z. v.before (sym is ∙ z); due = λ z. v.due (sym is ∙ z); job = λ z. job_is (sym is ∙ z) };
    }
    cases false h =
        let two = stays_under p b r h in
        record {
          inside = λ e. omega (arith, w.inside two.0);
          room_is = λ e. w.room_is two.0;
          largest = λ e. upto b.room (w.largest two.0) two.1;
          lowest = λ e. w.lowest two.0;
          binds = λ e. w.binds two.0;
        }

  -- ---- one more job

  -- the same place, with what is known of the job that binds
  known_as : (p : ℕ) (ks js₂ : List Job) (b : Best) (u : Bound) → Known p ks b → listed_in u ≡ listed_in b.bound
      → (0 < p → listed_in u ≡ true → job_in u js₂ ≡ b.place + before_tight (drop b.place js))
      → Known p js₂ (record { place = b.place; room = b.room; bound = u })
  known_as p ks js₂ b u w is f = record {
    inside = w.inside;
    room_is = w.room_is;
    largest = w.largest;
    lowest = w.lowest;
    binds = λ e. let v = w.binds e in record { own = λ z. v.own (sym is ∙ z); before = λ z. v.before (sym is ∙ z); due = λ z. v.due (sym is ∙ z); job = f e };
  }

  sought_known : (p : ℕ) (j : Job) (ks : List Job) (b : Best) → Known p (j ∷ ks) b → Known p ks (sought_at b j)
  sought_known p j ks b w = by_bound b.bound refl where
    -- what is known of it before
    told : (u : Bound) → b.bound ≡ u → 0 < p → listed_in u ≡ true → job_in u (j ∷ ks) ≡ b.place + before_tight (drop b.place js)
    told u e h g = rw e at ((w.binds h).job (ap listed_in e ∙ g))

    small : (k : ℕ) → b.bound ≡ Seeking k → 0 < p → b.place + before_tight (drop b.place js) ≤ length js
    small k e h =
        let short = (early_at t d b.place js order ((w.binds h).before (ap listed_in e))).0 in
        omega (arith, tight-few (drop b.place js), length-drop b.place js)

    by_tight : (k : ℕ) → b.bound ≡ Seeking k → (v : Bool) → tight j ≡ v → Known p ks (record { place = b.place; room = b.room; bound = pick v (ByJob k) (Seeking (sum_to k 1)) })
    by_tight k e true f = known_as p (j ∷ ks) ks b (ByJob k) w (ap listed_in (sym e)) (λ h g. let z : k + 0 ≡ b.place + before_tight (drop b.place js) = rw f at (told (Seeking k) e h refl) in omega arith)
    by_tight k e false f =
        known_as p (j ∷ ks) ks b (Seeking (sum_to k 1)) w (ap listed_in (sym e))
        (λ h g.
        let z : k + suc (before_tight ks) ≡ b.place + before_tight (drop b.place js) = rw f at (told (Seeking k) e h refl) in
        let one = sum_is k 1 (omega (arith, small k e h)) in
        rw one (omega arith))

    by_bound : (u : Bound) → b.bound ≡ u → Known p ks (record { place = b.place; room = b.room; bound = sought_on u j })
    by_bound ByRequest e = known_as p (j ∷ ks) ks b ByRequest w (ap listed_in (sym e)) (λ h g. absurd (true≢false (sym g)))
    by_bound (Seeking k) e = by_tight k e (tight j) refl
    by_bound (ByJob k) e = known_as p (j ∷ ks) ks b (ByJob k) w (ap listed_in (sym e)) (λ h g. told (ByJob k) e h refl)

  all_sought : (p : ℕ) (ks : List Job) (b : Best) → Known p ks b → Known p [] (fold sought_at b ks)
  unfolding fold
  all_sought p [] b w = w
  all_sought p (j ∷ ks) b w = all_sought p ks (sought_at b j) (sought_known p j ks b w)

  -- ---- the whole search

  known_from : (ks : List Job) (p s : ℕ) (b : Best) → drop p js ≡ ks → start_at t js p ≡ s → early d js ≡ p + early d ks → Chain s ks → Known p ks b
      → Known (early d js) [] (best_from d b p s ks)
  known_from [] p s b e f h g w =
      let z : p ≡ early d js = omega arith in
      subst (λ (q : ℕ). Known q [] b) z w
  known_from (j ∷ ks) p s b e f h g w = by_early (leb (start j) d) refl (known_from ks (p + 1) (ends j)) where
    listed : Bool
    listed = ltb (flex j) (d - start j)

    Rest : Type 0
    Rest = (b₂ : Best) → drop (p + 1) js ≡ ks → start_at t js (p + 1) ≡ ends j → early d js ≡ p + 1 + early d ks → Chain (ends j) ks → Known (p + 1) ks b₂
        → Known (early d js) [] (best_from d b₂ (p + 1) (ends j) ks)

    on : leb (start j) d ≡ true → p < early d js → Rest → Known (early d js) [] (best_from d (sought_at (best_with b p (room s d j) listed) j) (p + 1) (ends j) ks)
    on low inside more =
        let here : get_or js p none ∷ drop (suc p) js ≡ j ∷ ks = sym (at_drop p js (early_at t d p js order inside).0) ∙ e in
        let is : get_or js p none ≡ j = cc in
        let rest : drop (suc p) js ≡ ks = cc in
        let by : start j ≤ d = leb-true (start j) d low in
        let room_is : room_at t d js p ≡ room s d j = rw (← f, ← is) (room-early t d js order right p inside) in
        let tried : Tried p (j ∷ ks) (room s d j) listed = record {
          room_is = room_is;
          own = λ z. rw f (own_tick s d (start j) (flex j) g.0 by (ltb-false (flex j) (d - start j) z));
          before = λ z. inside;
          due = λ z. rw f (listed_tick s d (start j) (flex j) g.0 by (ltb-true (flex j) (d - start j) z));
          rest = λ z. e;
        } in
        let first : early d js ≡ p + suc (early d ks) = rw low at h in
        let later : early d js ≡ p + 1 + early d ks = omega arith in
        more _ (rw add-one rest) (rw add-one (ap ends is)) later g.2
        (sought_known (p + 1) j ks (best_with b p (room s d j) listed) (known_with p (j ∷ ks) b (room s d j) listed w tried))

    by_early : (v : Bool) → leb (start j) d ≡ v → Rest
        → Known (early d js) [] (pick v (best_from d (sought_at (best_with b p (room s d j) listed) j) (p + 1) (ends j) ks) (fold sought_at (sought_at b j) ks))
    by_early true low more = on low (let z : early d js ≡ p + suc (early d ks) = rw low at h in omega arith) more
    by_early false high more =
        let z : p ≡ early d js = omega (arith, h, early-none d s j ks g high) in
        subst (λ (q : ℕ). Known q [] (fold sought_at (sought_at b j) ks)) z (all_sought p ks (sought_at b j) (sought_known p j ks b w))

  -- ---- what is told of it

  abbrev l : ℕ
  l = early d js

  abbrev s : ℕ
  s = start_at t js l

  places_with : leb s d ≡ true → places_of t d js ≡ l + 1
  unfolding places_of
  places_with h = rw (h, add-one)

  places_without : leb s d ≡ false → places_of t d js ≡ l
  unfolding places_of
  places_without h = rw h

  last_tried : s ≤ d → Tried l [] (d - s) false
  unfolding room_at
  last_tried by = record {
    room_is = rw (le-ltb l l (omega arith));
    own = λ z. omega arith;
    before = λ z. absurd (true≢false (sym z));
    due = λ z. absurd (true≢false (sym z));
    rest = λ z. absurd (true≢false (sym z));
  }

  told_known : (b : Best) → 0 < places_of t d js → Known (places_of t d js) [] b → explained b ≡ explanation_of t d js
  told_known b h w =
      told_one t d js b.place b.room (binding_of b.bound)
      (record { inside = w.inside h; room_is = w.room_is h; largest = w.largest h; lowest = w.lowest h })
      (by_bound b.bound refl) where
        by_listed : (k : ℕ) → listed_in b.bound ≡ true → k ≡ job_in b.bound [] → binding_at t d js b.place ≡ Listed k
        by_listed k e f =
            let v = w.binds h in
            let due = rw (← w.room_is h) at (v.due e) in
            binds_listed t d js order right b.place (v.before e) due ∙ ap (λ (m : ℕ). Listed m) (sym (f ∙ v.job e))

        by_bound : (u : Bound) → b.bound ≡ u → binding_at t d js b.place ≡ binding_of u
        by_bound ByRequest e =
            let over = rw (← w.room_is h) at ((w.binds h).own (ap listed_in e)) in
            binds_own t d js b.place over
        by_bound (Seeking k) e = by_listed k (ap listed_in e) (rw e (omega arith))
        by_bound (ByJob k) e = by_listed k (ap listed_in e) (rw e refl)

  -- with place l, where it starts by d
  told_last : (b : Best) → Known l [] b
      → pick (leb s d) (explained (best_with b l (d - s) false)) (pick (eqb l 0) Nowhere (explained b)) ≡ explanation_of t d js
  told_last b w = cases (leb s d) refl where
    by_first : (v : Bool) → eqb l 0 ≡ v → places_of t d js ≡ l → pick v Nowhere (explained b) ≡ explanation_of t d js
    by_first true e z = told_none t d js (omega (arith, z, eqb-true l 0 e))
    by_first false e z = told_known b (omega (arith, z, some l (eqb-false l 0 e))) (rw z w)

    cases : (v : Bool) → leb s d ≡ v → pick v (explained (best_with b l (d - s) false)) (pick (eqb l 0) Nowhere (explained b)) ≡ explanation_of t d js
    cases true h =
        let z = places_with h in
        told_known (best_with b l (d - s) false) (omega (arith, z)) (rw z (known_with l [] b (d - s) false w (last_tried (leb-true s d h))))
    cases false h = by_first (eqb l 0) refl (places_without h)

  -- after the last job
  pub explained_is : pick (leb s d) (explained (best_with (best_from d no_best 0 t js) l (d - s) false)) (pick (eqb l 0) Nowhere (explained (best_from d no_best 0 t js))) ≡ explanation_of t d js
  explained_is =
      let first : early d js ≡ 0 + early d js = omega arith in
      told_last (best_from d no_best 0 t js) (known_from js 0 t no_best refl refl first order (known_none js))
