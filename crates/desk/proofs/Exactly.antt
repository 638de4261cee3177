-- A request that no lower number refuses is taken exactly when some place keeps every deadline, and else is 18. Assumes nothing.
use Prim.Native.Nat.{ℕ, zero, suc, ◌+◌, ◌-◌, ◌<◌, ◌≤◌}
use mathlib.Core.Path.{◌≡◌, refl, subst}
use mathlib.Core.Logic.{◌↔◌, ◌⊎◌, inl, inr}
use mathlib.Core.Bool.{Bool, true, false}
use mathlib.Core.List.{List, [], ◌∷◌}
use native.Mathlib.Omega.{arith}
use lib.Dec.{leb}
use lib.ListN.{length, take, get_or}
use borrow.Author.Tests.{leb-true, leb-false, le-leb, eqb-true}
use Rattle.rules.specs.Walk.{pick}
use Rattle.rules.specs.Limits.{latest}
use Rattle.rules.specs.Refusals.{told}
use Rattle.rules.specs.declared.Refusal.TheVariants.{Busy, Full, NoPlace}
use Rattle.rules.proofs.Tests.{and_parts}
use Rattle.desk.specs.declared.Job.{Job}
use Rattle.std.specs.Prelude.{Ok}
use Rattle.desk.specs.declared.Done.TheVariants.{Taken}
use Rattle.desk.specs.Table.{job, x_of, right_x, ends, Outcome}
use Rattle.desk.specs.Places.{early, start_at, room}
use Rattle.desk.specs.Request.{kept, find_from, insert_at, request_of, At, Nowhere}
use Rattle.desk.specs.Call.{said}
use Rattle.desk.specs.Story.{Entry, entry, no_entry, finish, standing, entries, Promise, Later, Joined}
use Rattle.desk.specs.Theorems.{Refuses, Fits, NoLower, TakenExactly, NoPlaceExactly, TakenStart}
use Rattle.desk.proofs.Chain.{Chain}
use Rattle.desk.proofs.Spot.{Spot, early-late, right_tail, spot_start, spot_inside, chain_insert}
use Rattle.desk.proofs.Rules.{good_of, good-kept, fresh, running, full, nowhere, Ending, same, dropped, taken, ending, sound-unless, sound-taken}
use Rattle.desk.proofs.Entries.{with_entry, Follow, line-entries, follow_insert, follow_open, entries_open, line_promise}
use Rattle.desk.proofs.Still.{join_here}
use Rattle.rules.specs.declared.Refusal.TheVariants as refusal

-- A PLACE THAT IS FOUND KEEPS EVERY DEADLINE

spot_fits : (t c d i : ℕ) (js : List Job) (s : ℕ) → 1 ≤ c → d ≤ latest → Chain t js → right_x js ≡ true → Spot c d t i js s → Fits t c d js
spot_fits t c d i js s some low g r spot =
    let mark = entry t c d s in
    let gs = standing js in
    let us = entries (with_entry i mark gs) (insert_at i (job s c d 0) js) in
    let from = spot_start c d t i js s g spot in
    let f : Follow gs js = subst (λ (ks : List Job). Follow gs ks) (fresh js r) (follow_open js) in
    let is : entries gs js ≡ gs = subst (λ (ks : List Job). entries gs ks ≡ gs) (fresh js r) (entries_open js) in
    record {
      place = i;
      start = s;
      arranged = us;
      joins = subst (λ (rs : List Entry). Joined rs us i mark) is (join_here i mark gs js s from f (spot_inside c d t i js s spot));
      keeps = line_promise t us (line-entries t (with_entry i mark gs) (insert_at i (job s c d 0) js) (chain_insert c d t i js s some low g r spot) (follow_insert i mark gs js s from f));
    }

-- NO START THAT KEEPS THE DEADLINES IS BEYOND A JOB'S X

tail_promise : (u : Entry) (us : List Entry) → Promise (u ∷ us) → Promise us
tail_promise u us p =
    record {
      not_before = λ k h. p.not_before (suc k) (omega arith);
      in_time = λ k h. p.in_time (suc k) (omega arith);
      apart = λ i k h l. p.apart (suc i) (suc k) (omega arith) (omega arith);
    }

-- us are the jobs js, one for one, none earlier
record Delayed (js : List Job) (us : List Entry) : Type 0 where
  same : length us ≡ length (standing js)
  later : (m : ℕ) → m < length (standing js) → Later (get_or (standing js) m no_entry) (get_or us m no_entry)

tail_delayed : (j : Job) (js : List Job) (u : Entry) (us : List Entry) → Delayed (j ∷ js) (u ∷ us) → Delayed js us
tail_delayed j js u us w = record { same = omega (arith, w.same); later = λ m h. w.later (suc m) (omega arith) }

limit : (j : Job) (js : List Job) (u : Entry) (us : List Entry) → right_x (j ∷ js) ≡ true → Delayed (j ∷ js) (u ∷ us) → Promise (u ∷ us)
    → u.start ≤ j.start + j.flex
limit j [] u us r w p =
    let x : j.flex ≡ j.deadline - j.start - j.budget = eqb-true _ _ (and_parts _ (right_x []) r).0 in
    let one = w.later 0 (omega arith) in
    let due : u.start + j.budget ≤ j.deadline = rw (one.1, one.2) (p.in_time 0 (omega arith)) in
    omega (arith, one.3)
limit j (k ∷ ks) u [] r w p = absurd (omega (arith, w.same))
limit j (k ∷ ks) u (v ∷ vs) r w p =
    let x : j.flex ≡ x_of j (k ∷ ks) = eqb-true _ _ (and_parts _ (right_x (k ∷ ks)) r).0 in
    let one = w.later 0 (omega arith) in
    let due : u.start + j.budget ≤ j.deadline = rw (one.1, one.2) (p.in_time 0 (omega arith)) in
    let next : v.start ≤ k.start + k.flex = limit k ks v vs (right_tail j (k ∷ ks) r) (tail_delayed j (k ∷ ks) u (v ∷ vs) w) (tail_promise u (v ∷ vs) p) in
    let after : u.start + j.budget ≤ v.start = rw one.1 (p.apart 0 1 (omega arith) (omega arith)) in
    omega (arith, one.3)

-- WHERE SOME PLACE KEEPS EVERY DEADLINE, ONE IS FOUND

module _ (b c d s : ℕ) where
  abbrev mark : Entry
  mark = entry b c d s

  not_before : (rs us : List Entry) (p : ℕ) → Joined rs us p mark → Promise us → b ≤ s
  not_before rs us p w h =
      let small : p < length us = omega (arith, w.inside, w.one_more) in
      subst (λ (r : Entry). r.since ≤ r.start) w.there (h.not_before p small)

  in_time : (rs us : List Entry) (p : ℕ) → Joined rs us p mark → Promise us → s + c ≤ d
  in_time rs us p w h =
      let small : p < length us = omega (arith, w.inside, w.one_more) in
      subst (λ (r : Entry). finish r ≤ r.deadline) w.there (h.in_time p small)

  -- at the first place the next job need not go beyond its x
  first_near : (j : Job) (js : List Job) (us : List Entry) → right_x (j ∷ js) ≡ true → Joined (standing (j ∷ js)) us 0 mark → Promise us
      → s + c ≤ j.start + j.flex
  first_near j js [] r w h = absurd (omega (arith, w.one_more))
  first_near j js (x ∷ []) r w h = absurd (omega (arith, w.one_more))
  first_near j js (x ∷ u ∷ us) r w h =
      let z : x ≡ mark = w.there in
      let after : s + c ≤ u.start = subst (λ (y : Entry). finish y ≤ u.start) z (h.apart 0 1 (omega arith) (omega arith)) in
      let later : Delayed (j ∷ js) (u ∷ us) = record { same = omega (arith, w.one_more); later = λ m g. w.later m (omega arith) g } in
      omega (arith, limit j js u us r later (tail_promise x (u ∷ us) h))

  -- behind the first job it is the same of the others
  record Behind (j : Job) (js : List Job) (p : ℕ) : Type 0 where
    rest : List Entry
    from : ends j ≤ s
    joins : Joined (standing js) rest p mark
    keeps : Promise rest

  behind : (j : Job) (js : List Job) (p : ℕ) (us : List Entry) → Joined (standing (j ∷ js)) us (suc p) mark → Promise us → Behind j js p
  behind j js p [] w h = absurd (omega (arith, w.one_more))
  behind j js p (u ∷ us) w h =
      let same : u ∷ take p us ≡ entry j.start j.budget j.deadline j.start ∷ take p (standing js) = w.before in
      let is : u ≡ entry j.start j.budget j.deadline j.start = cc in
      let small : suc p < length (u ∷ us) = omega (arith, w.inside, w.one_more) in
      let after : finish u ≤ (get_or us p no_entry).start = h.apart 0 (suc p) (omega arith) small in
      record {
        rest = us;
        from = subst (λ (r : Entry). ends j ≤ r.start) w.there (subst (λ (r : Entry). finish r ≤ (get_or us p no_entry).start) is after);
        joins = record {
          one_more = omega (arith, w.one_more);
          inside = omega (arith, w.inside);
          there = w.there;
          before = cc;
          later = λ m low short. w.later (suc m) (omega arith) (omega arith);
        };
        keeps = tail_promise u us h;
      }

  has_room : (e : ℕ) (j : Job) → e ≤ j.start → j.start ≤ d → e + c ≤ d → e + c ≤ j.start + j.flex → c ≤ room e d j
  has_room e j h g u v = omega arith

  -- place l is taken where it ends by d
  not_last : (k e : ℕ) → e + c ≤ d → pick (leb (e + c) d) (At k e) Nowhere ≡ Nowhere → ⊥
  not_last k e h q =
      let z : At k e ≡ Nowhere = rw (le-leb (e + c) d h) at q in
      let y : ◌≡◌ {A = ℕ} 0 1 = cc in
      omega arith

  complete : (k e : ℕ) (js : List Job) (p : ℕ) (us : List Entry) → Chain e js → right_x js ≡ true → e ≤ s → Joined (standing js) us p mark → Promise us
      → find_from k e c d (take (early d js) js) ≡ Nowhere → ⊥
  complete k e [] p us g r low w h q = not_last k e (omega (arith, in_time [] us p w h)) q
  complete k e (j ∷ js) p us g r low w h q = by_early (leb j.start d) refl q (λ n v b. complete (k + 1) (ends j) js n b.rest g.2 (right_tail j js r) b.from b.joins b.keeps v) where
    due : e + c ≤ d
    due = omega (arith, in_time (standing (j ∷ js)) us p w h)

    Rest : Type 0
    Rest = find_from (k + 1) (ends j) c d (take (early d js) js) ≡ Nowhere

    by_place : (n : ℕ) → Joined (standing (j ∷ js)) us n mark → j.start ≤ d → room e d j < c → Rest → ((n : ℕ) → Rest → Behind j js n → ⊥) → ⊥
    by_place zero v early less z more =
        let enough : c ≤ room e d j = has_room e j g.0 early due (omega (arith, first_near j js us r v h)) in
        omega arith
    by_place (suc n) v early less z more = more n z (behind j js n us v h)

    by_room : (b : Bool) → leb c (room e d j) ≡ b → j.start ≤ d → pick b (At k e) (find_from (k + 1) (ends j) c d (take (early d js) js)) ≡ Nowhere
        → ((n : ℕ) → Rest → Behind j js n → ⊥) → ⊥
    by_room true u early z more = let y : ◌≡◌ {A = ℕ} 0 1 = cc in omega arith
    by_room false u early z more = by_place p w early (leb-false c (room e d j) u) z more

    by_early : (b : Bool) → leb j.start d ≡ b → find_from k e c d (take (pick b (suc (early d js)) (early d js)) (j ∷ js)) ≡ Nowhere
        → ((n : ℕ) → Rest → Behind j js n → ⊥) → ⊥
    by_early true u z more = by_room (leb c (room e d j)) refl (leb-true _ _ u) z more
    by_early false u z more =
        let none = early-late d (ends j) js (omega (arith, leb-false j.start d u)) g.2 in
        not_last k e due (rw none at z)

-- A REQUEST THAT NO LOWER NUMBER REFUSES

spot_at : (c d e p : ℕ) (js : List Job) (s : ℕ) → Spot c d e p js s → s ≡ start_at e js p
spot_at c d e zero js s h = h.0
spot_at c d e (suc p) [] s h = absurd h
spot_at c d e (suc zero) (j ∷ js) s h = h.0
spot_at c d e (suc (suc p)) (j ∷ js) s h = spot_at c d (ends j) (suc p) js s h

module _ (clock n : ℕ) (l : List Job) (t c d : ℕ) where
  abbrev js : List Job
  js = kept t (take n l)

  -- it is taken and fits, or it is 18 and no place does
  abbrev Sought : Outcome → Type 0
  Sought o = (((said o.answer).number ≡ 0) × Fits t c d js) ⊎ (((said o.answer).number ≡ 18) × (Fits t c d js → ⊥))

  sought : right_x js ≡ true → (o : Outcome) → NoLower o → Ending clock n l t c d o → Sought o
  sought right o nl (same r h) = absurd (nl (told r).number (omega arith) (omega arith) refl)
  sought right o nl (dropped Busy (running b) late small) = absurd (nl 16 (omega arith) (omega arith) refl)
  sought right o nl (dropped Full full late small) = absurd (nl 17 (omega arith) (omega arith) refl)
  sought right o nl (dropped (NoPlace _) (nowhere why is g e) late small) =
      inr (
        refl,
        λ f.
            let from = not_before _ c d f.start _ f.arranged f.place f.joins f.keeps in
            complete _ c d f.start 0 t js f.place f.arranged g right from f.joins f.keeps e,
      )
  sought right o nl (taken i s late small some due few g spot) = inl (refl, spot_fits t c d i js s some due g right spot)
  sought right _ nl (dropped refusal.Short x4 late small) = elim x4 [ ]
  sought right _ nl (dropped refusal.Edition x5 late small) = elim x5 [ ]
  sought right _ nl (dropped refusal.Limits x6 late small) = elim x6 [ ]
  sought right _ nl (dropped refusal.Offset x7 late small) = elim x7 [ ]
  sought right _ nl (dropped refusal.Length x8 late small) = elim x8 [ ]
  sought right _ nl (dropped (refusal.Partition _) x10 late small) = elim x10 [ ]
  sought right _ nl (dropped (refusal.Task _) x11 late small) = elim x11 [ ]
  sought right _ nl (dropped (refusal.Tick _) x12 late small) = elim x12 [ ]
  sought right _ nl (dropped (refusal.Asked _) x13 late small) = elim x13 [ ]
  sought right _ nl (dropped (refusal.Shortfall _ _ _ _) x17 late small) = elim x17 [ ]
  sought right _ nl (dropped refusal.Unharmonic x14 late small) = elim x14 [ ]
  sought right _ nl (dropped refusal.Want x15 late small) = elim x15 [ ]
  sought right _ nl (dropped refusal.Output x16 late small) = elim x16 [ ]
  sought right _ nl (dropped refusal.Rules x17 late small) = elim x17 [ ]
  sought right _ nl (dropped refusal.Numbers x18 late small) = elim x18 [ ]
  sought right _ nl (dropped refusal.Past x19 late small) = elim x19 [ ]
  sought right _ nl (dropped refusal.Counts x20 late small) = elim x20 [ ]
  sought right _ nl (dropped refusal.Granule x21 late small) = elim x21 [ ]
  sought right _ nl (dropped (refusal.Beyond _) x23 late small) = elim x23 [ ]

  sought_of : NoLower (request_of clock n l t c d) → Sought (request_of clock n l t c d)
  sought_of nl =
      let sound = sound-unless clock n l t c d (nl 13 (omega arith) (omega arith)) in
      sought (good-kept t n (take n l) (good_of clock n l sound)).right (request_of clock n l t c d) nl (ending clock n l t c d sound)

  taken_fits : (o : Outcome) → Sought o → ((said o.answer).number ≡ 0) ↔ Fits t c d js
  taken_fits o (inl w) = (λ e. w.1, λ f. w.0)
  taken_fits o (inr w) = (λ e. absurd (omega (arith, w.0)), λ f. absurd (w.1 f))

  refused_fits : (o : Outcome) → Sought o → (Refuses o 18 → Fits t c d js → ⊥) × ((Fits t c d js → ⊥) → Refuses o 18)
  refused_fits o (inl w) = (λ e. absurd (omega (arith, w.0)), λ f. absurd (f w.1))
  refused_fits o (inr w) = (λ e. w.1, λ f. w.0)

  started : (o : Outcome) (i s : ℕ) → o.answer ≡ Ok (Taken i s) → Ending clock n l t c d o → s ≡ start_at t js i
  started o i s e (same r h) = absurd (let z : ◌≡◌ {A = ℕ} 0 1 = cc in omega arith)
  started o i s e (dropped r h late small) = absurd (let z : ◌≡◌ {A = ℕ} 0 1 = cc in omega arith)
  started o i s e (taken i₂ s₂ late small some due few g spot) =
      let zi : i₂ ≡ i = cc in
      let zs : s₂ ≡ s = cc in
      rw (← zi, ← zs) (spot_at c d t i₂ js s₂ spot)

pub taken_start : TakenStart
taken_start clock n l t c d i s e =
    started clock n l t c d (request_of clock n l t c d) i s e (ending clock n l t c d (sound-taken clock n l t c d i s e))

pub taken_exactly : TakenExactly
taken_exactly clock n l t c d nl = taken_fits clock n l t c d (request_of clock n l t c d) (sought_of clock n l t c d nl)

pub no_place_exactly : NoPlaceExactly
no_place_exactly clock n l t c d = (
  λ e. (none e, (refused_fits clock n l t c d (request_of clock n l t c d) (sought_of clock n l t c d (none e))).0 e),
  λ w. (refused_fits clock n l t c d (request_of clock n l t c d) (sought_of clock n l t c d w.0)).1 w.1,
) where
  none : Refuses (request_of clock n l t c d) 18 → NoLower (request_of clock n l t c d)
  none e m h g f = omega arith
