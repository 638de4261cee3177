-- The demands of the running counts, from what C is told. Assumes nothing.
use Prim.Native.Nat.{ℕ, ◌%◌, ◌≤◌, ◌<◌}
use mathlib.Core.Path.{◌≡◌, refl, sym, ap, subst, ◌∙◌}
use mathlib.Core.Bool.{Bool, true, false}
use mathlib.Core.List.{List, [], ◌∷◌, ◌++◌}
use native.Mathlib.Omega.{arith}
use lib.Dec.{ltb, leb, eqb}
use lib.ListN.{length, set, drop}
use Rattle.rules.specs.Walk.{pick, first, fails}
use Rattle.rules.specs.Limits.{question_width}
use Rattle.rules.specs.Table.{partitions}
use Rattle.rules.specs.Terms.{good_edition}
use Rattle.rules.specs.Refusals.{told, placed, told_done, told_count}
use Rattle.rules.specs.declared.Told.{Told}
use Rattle.rules.specs.declared.Refusal.{Refusal}
use Rattle.rules.specs.declared.Refusal.TheVariants.{Limits, Output, Asked, Counts, Beyond}
use Rattle.std.specs.Prelude.{Result, Ok, Err}
use Rattle.rules.proofs.Known.{not_0, filling_fills, tells_one}
use Rattle.tables.specs.Tables.{lowest, unless}
use Rattle.rules.specs.declared.Rule.TheVariants.{Own}
use Rattle.theory.specs.Plan.{held}
use Rattle.counts.specs.Counts.{needed, long_enough, running_counts, counts_judged, good_name, good_stretch, fill_of, FillsCounts, held_of, HoldsOne, questions, names_one, within_frame, many_of, HoldsMany, change_of, changed_by, Changes}
use Rattle.counts.specs.Theorems.{Named, Within, HeldBy, held_plan, held_name, held-length, held-counts, held_stretch, held-done}
use Rattle.counts.proofs.Orders.{plan_holds, call_holds}
use Rattle.counts.proofs.Changes.{proved}
use Rattle.api.specs.Answers.{TellsHeld, TellsFill, TellsCounted, TellsMany, TellsChange}
use Rattle.demands.specs.Demands.{Numbered, Refused}

-- ---- from what is told to the rule's answer

pub fill_is : (plan ps list o : List ℕ) (t : Told) → TellsFill plan ps list o t → t ≡ told_count (fill_of plan ps (length list))
fill_is plan ps list o t p = tells_one told_count (FillsCounts plan ps list o) (fill_of plan ps (length list)) (λ r e. e.0) t p

pub held_is : (plan ps list : List ℕ) (p s n : ℕ) (t : Told) → TellsCounted plan ps list p s n t → t ≡ told_count (held_of plan ps list p s n)
held_is plan ps list p s n t q = tells_one told_count (HoldsOne plan ps list p s n) (held_of plan ps list p s n) (λ r e. e) t q

pub many_is : (plan ps list qs out o : List ℕ) (t : Told) → TellsMany plan ps list qs out o t → t ≡ told_count (many_of plan ps list qs (length out))
many_is plan ps list qs out o t p = tells_one told_count (HoldsMany plan ps list qs out o) (many_of plan ps list qs (length out)) (λ r e. e.0) t p

pub change_is : (plan ps list plan' o : List ℕ) (tick owner : ℕ) (t : Told) → TellsChange plan ps list tick owner plan' o t → t ≡ told_done (change_of plan ps list tick owner)
change_is plan ps list plan' o tick owner t p = tells_one told_done (Changes plan ps list tick owner plan' o) (change_of plan ps list tick owner) (λ r e. e.0) t p

-- ---- the numbers

abbrev numbers : List ℕ
numbers = 3 ∷ 6 ∷ 8 ∷ 12 ∷ 20 ∷ 26 ∷ []

-- the one refusal of a test, told with one of them
by_test : (b : Bool) (q r : Refusal) → Numbered numbers (told q) → pick b (Ok (tt {0})) (Err q) ≡ Err r → Numbered numbers (told r)
by_test true q r h e = let z : ◌≡◌ {A = ℕ} 0 1 = cc e in absurd (omega arith)
by_test false q r h e = let z : q ≡ r = cc e in rw (← z) h

by_lowest : (b : Bool) (q r : Refusal) → Numbered numbers (told q) → pick b (Err q) (Ok (tt {0})) ≡ Err r → Numbered numbers (told r)
by_lowest true q r h e = let z : q ≡ r = cc e in rw (← z) h
by_lowest false q r h e = let z : ◌≡◌ {A = ℕ} 0 1 = cc e in absurd (omega arith)

pub fill_numbers : (plan ps list o : List ℕ) (t : Told) → TellsFill plan ps list o t → Numbered (3 ∷ 6 ∷ 8 ∷ 12 ∷ []) t
unfolding fill_of
fill_numbers plan ps list o t p =
    rw (fill_is plan ps list o t p)
    (plan_holds plan ps (λ (r : Result ℕ Refusal). Numbered (3 ∷ 6 ∷ 8 ∷ 12 ∷ []) (told_count r)) Err _ refl (λ k. refl) (λ k. refl) (room (long_enough plan ps (length list))))
  where
    room : (b : Bool) → Numbered (3 ∷ 6 ∷ 8 ∷ 12 ∷ []) (told_count (pick b (Ok (needed plan ps)) (Err Output)))
    room true = refl
    room false = refl

pub held_numbers : (plan ps list : List ℕ) (p s n : ℕ) (t : Told) → TellsCounted plan ps list p s n t → Numbered numbers t
unfolding held_of
held_numbers plan ps list p s n t q =
    rw (held_is plan ps list p s n t q)
    (call_holds plan ps list _ true _ (λ (r : Result ℕ Refusal). Numbered numbers (told_count r)) Err _ refl (λ k. refl) (λ k. refl)
    (λ r e. by_test (good_name (partitions ps) p) (Asked 0) r refl e) refl refl (λ r e. by_test (good_stretch (length plan) s n) (Beyond 0) r refl e) refl)

pub many_numbers : (plan ps list qs out o : List ℕ) (t : Told) → TellsMany plan ps list qs out o t → Numbered numbers t
unfolding many_of
many_numbers plan ps list qs out o t p = rw (many_is plan ps list qs out o t p) (whole (eqb (length qs % question_width) 0))
  where
    called : Numbered numbers (told_count (unless Err (counts_judged plan ps list (lowest Asked (names_one (partitions ps) qs) (questions qs)) (leb (questions qs) (length out)) (lowest Beyond (within_frame (length plan) qs) (questions qs))) (Ok (questions qs))))
    called =
        call_holds plan ps list _ _ _ (λ (r : Result ℕ Refusal). Numbered numbers (told_count r)) Err _ refl (λ k. refl) (λ k. refl)
        (λ r e. by_lowest (ltb (first (fails (names_one (partitions ps) qs)) (questions qs)) (questions qs)) (Asked _) r refl e) refl refl
        (λ r e. by_lowest (ltb (first (fails (within_frame (length plan) qs)) (questions qs)) (questions qs)) (Beyond _) r refl e) refl

    whole : (b : Bool) → Numbered numbers (told_count (pick b (unless Err (counts_judged plan ps list (lowest Asked (names_one (partitions ps) qs) (questions qs)) (leb (questions qs) (length out)) (lowest Beyond (within_frame (length plan) qs) (questions qs))) (Ok (questions qs))) (Err Limits)))
    whole true = called
    whole false = refl

pub change_numbers : (plan ps list plan' o : List ℕ) (tick owner : ℕ) (t : Told) → TellsChange plan ps list tick owner plan' o t → Numbered numbers t
unfolding change_of
change_numbers plan ps list plan' o tick owner t p =
    rw (change_is plan ps list plan' o tick owner t p) (as_found (change_of plan ps list tick owner)
    (call_holds plan ps list _ true _ (λ (r : Result (Unit {0}) Refusal). Numbered numbers (told_done r)) Err (Ok tt) refl (λ k. refl) (λ k. refl)
    (λ r e. by_test (leb owner (partitions ps)) (Asked 0) r refl e) refl refl (λ r e. by_test (ltb tick (length plan)) (Beyond 0) r refl e) refl))
  where
    as_found : (f : Result (Unit {0}) Refusal) → Numbered numbers (told_done (unless Err f (Ok tt))) → Numbered numbers (told_done f)
    as_found (Ok _) h = h
    as_found (Err r) h = h

-- ---- what a refusal leaves

pub change_refused : (plan ps list plan' o : List ℕ) (tick owner : ℕ) (t : Told) → TellsChange plan ps list tick owner plan' o t → Refused t → (plan' ≡ plan) × (o ≡ list)
change_refused plan ps list plan' o tick owner t (r, (e, f, g), h) n = go r f g (λ z. n (rw h z))
  where
    go : (r : Result (Unit {0}) Refusal) → plan' ≡ changed_by r (set plan tick owner) plan → o ≡ changed_by r (running_counts (set plan tick owner) ps ++ drop (needed plan ps) list) list
        → ¬ ((told_done r).number ≡ 0) → (plan' ≡ plan) × (o ≡ list)
    go (Ok _) f g n = absurd (n refl)
    go (Err x) f g n = (f, g)

-- ---- one outcome

pub change_one : (plan ps list plan₁ plan₂ o₁ o₂ : List ℕ) (tick owner : ℕ) (t t' : Told) → TellsChange plan ps list tick owner plan₁ o₁ t
    → TellsChange plan ps list tick owner plan₂ o₂ t' → (t ≡ t') × (plan₁ ≡ plan₂) × (o₁ ≡ o₂)
change_one plan ps list plan₁ plan₂ o₁ o₂ tick owner t t' (r, p, e) (r', p', e') =
    let q = proved.change_one plan ps list plan₁ plan₂ o₁ o₂ tick owner r r' p p' in (e ∙ ap told_done q.0 ∙ sym e', q.1, q.2)

-- ---- what is answered

pub walked : (plan ps list : List ℕ) (p s n : ℕ) (t : Told) → TellsCounted plan ps list p s n t → t.number ≡ 0 → TellsHeld 1 plan p s n t
unfolding good_edition
walked plan ps list p s n t q z = (Ok (held Own plan p n s), refl, e ∙ go (held_of plan ps list p s n) (proved.held_answers plan ps list p s n) (rw e at z))
  where
    e : t ≡ told_count (held_of plan ps list p s n)
    e = held_is plan ps list p s n t q

    go : (r : Result ℕ Refusal) → HeldBy plan ps list p s n r → (told_count r).number ≡ 0 → told_count r ≡ placed 0 (held Own plan p n s)
    go r (held_plan x f) z = absurd (not_0 x z)
    go r (held_name g m) z = absurd (not_0 (Asked 0) z)
    go r (held-length g m l) z = absurd (not_0 Output z)
    go r (held-counts g m l c) z = absurd (not_0 Counts z)
    go r (held_stretch g m c w) z = absurd (not_0 (Beyond 0) z)
    go r (held-done g m c w) z = refl

pub follow : (plan ps list o plan' o' : List ℕ) (tick owner p s n : ℕ) (t u v : Told) → TellsFill plan ps list o t → t.number ≡ 0
    → TellsChange plan ps o tick owner plan' o' u → owner ≤ partitions ps → tick < length plan → TellsCounted plan' ps o' p s n v → Named ps p → Within plan s n
    → (u ≡ placed 0 0) × (v ≡ placed 0 (held Own (set plan tick owner) p n s))
follow plan ps list o plan' o' tick owner p s n t u v (f, pf, ef) z (c, pc, ec) l m (h, ph, eh) a b =
    let g : f ≡ Ok (told_count f).first = filling_fills f (rw ef at z) in
    let w = proved.fill_change_held plan ps list o plan' o' (told_count f).first tick owner c (subst (FillsCounts plan ps list o) g pf) pc l m in
    (ec ∙ ap told_done w.0, eh ∙ ap told_count (w.1 p s n h a b ph))
