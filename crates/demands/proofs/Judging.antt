-- The demands of the checker's and both engines' entries, from what is told to the rule's answer. Assumes nothing.
use Prim.Native.Nat.{ℕ, ◌-◌, ◌≤◌}
use mathlib.Core.Path.{◌≡◌, refl, sym, ap, ◌∙◌}
use mathlib.Core.Logic.{◌↔◌}
use mathlib.Core.Bool.{Bool, true, false, ◌&&◌, ◌||◌}
use mathlib.Core.List.{List, [], ◌∷◌}
use native.Mathlib.Omega.{arith}
use borrow.Author.Tests.{leb-true}
use lib.Dec.{leb, ltb, eqb}
use lib.ListN.{length}
use Rattle.rules.specs.Walk.{pick, some}
use Rattle.rules.specs.Table.{partitions, tasks, deadline}
use Rattle.rules.specs.Terms.{given, rule_in, rule_of, wanted}
use Rattle.rules.specs.declared.Rule.{Rule}
use Rattle.rules.specs.declared.Terms.{Terms}
use Rattle.rules.specs.declared.Told.{Told}
use Rattle.rules.specs.declared.Refusal.TheVariants.{Task, Tick, Shortfall}
use Rattle.std.specs.Prelude.{Option, None, Some, Result, Ok, Err}
use Rattle.rules.specs.declared.Refusal.{Refusal}
use Rattle.rules.specs.Refusals.{told, told_done, Tells}
use Rattle.rules.proofs.Tests.{and_parts}
use Rattle.rules.proofs.Known.{not_0, found-good, tells_one}
use Rattle.tables.specs.Tables.{unless, tables_of}
use Rattle.tables.specs.Inner.{first_bad_tick}
use Rattle.tables.proofs.Chain.{in_turn, unless_holds}
use Rattle.theory.specs.Load.{last_point, multiple, point}
use Rattle.theory.specs.Task.{task_load, task_point, task_tick}
use Rattle.plan_check.specs.Check.{scan_of, plan_check_of, check_of, Checks}
use Rattle.plan_check.proofs.Orders.{short_part}
use Rattle.task_verdict.specs.Verdict.{place_of, answerable_of, pass_at, verdict_by, verdict_of, plain_of, told_judged}
use Rattle.task_verdict.specs.Theorems as verdict
use Rattle.task_verdict.proofs.Engines.{proved}
use Rattle.api.specs.Answers.{TellsCheck, TellsVerdict, TellsPlain}
use Rattle.demands.specs.Demands.{Known, Numbered, BadGranule, ToldAlike, PassedBefore, EndsInTime, EndsInTimeForEver}
use Rattle.demands.proofs.Granules.{edition_exactly, granule_exactly}

-- ---- the numbers, whatever the tests give: one case for each answer

abbrev numbers : List ℕ
numbers = 2 ∷ 3 ∷ 21 ∷ 6 ∷ 7 ∷ 8 ∷ 9 ∷ []

-- what holds of each finding about a place and a plan
place-holds : (P : Result (Unit {0}) Refusal → Type 0) (d e f : Bool) (t p s h w : ℕ) → P (Ok tt) → P (Err (Task 0)) → P (Err (Tick t)) → P (Err (Shortfall p s h w))
    → P (pick d (unless Err (pick e (Err (Tick t)) (Ok tt)) (pick f (Err (Shortfall p s h w)) (Ok tt))) (Err (Task 0)))
place-holds P false e f t p s h w good seven eight nine = seven
place-holds P true true f t p s h w good seven eight nine = eight
place-holds P true false true t p s h w good seven eight nine = nine
place-holds P true false false t p s h w good seven eight nine = good

of_place : (P : Result (Unit {0}) Refusal → Type 0) (rule : Rule) (q : ℕ → ℕ) (plan ps ts : List ℕ) (place : ℕ)
    → P (Ok tt) → P (Err (Task 0)) → ((t : ℕ) → P (Err (Tick t))) → ((p s h w : ℕ) → P (Err (Shortfall p s h w)))
    → P (place_of rule q plan ps ts place)
unfolding place_of plan_check_of scan_of
of_place P rule q plan ps ts place good seven eight nine =
    place-holds P (leb 1 place && leb place (tasks ts)) (ltb (first_bad_tick (partitions ps) plan) (length plan)) (ltb (short_part rule q plan ps) (partitions ps)) _ _ _ _ _ good seven (eight _) (nine _ _ _ _)

answerable_told : (terms : Terms) (plan ps ts : List ℕ) (place : ℕ) → Numbered numbers (told_done (answerable_of terms plan ps ts place))
unfolding answerable_of
answerable_told terms plan ps ts place =
    unless_holds terms (length plan) ps ts (λ (r : Result (Unit {0}) Refusal). Numbered numbers (told_done r)) Err (place_of (rule_in terms) (wanted terms ps) plan ps ts place) (λ i. refl) refl (λ e. refl) (λ k. refl) (λ j. refl)
    (of_place (λ (r : Result (Unit {0}) Refusal). Numbered numbers (told_done r)) (rule_in terms) (wanted terms ps) plan ps ts place refl refl (λ t. refl) (λ p s h w. refl))

judged-told : (c : Result (Unit {0}) Refusal) (b : Bool) (u : ℕ) → Numbered numbers (told_done c) → Numbered numbers (told_judged (unless Err c (pick b (Ok (Some u)) (Ok None))))
judged-told (Ok _) true u h = refl
judged-told (Ok _) false u h = refl
judged-told (Err r) b u h = h

-- ---- the checker

module _ (i g : ℕ) (plan ps : List ℕ) (t : Told) (p : TellsCheck i g plan ps t) where
  pub check_is : t ≡ told_done (check_of (given i g) plan ps)
  check_is = tells_one told_done (Checks (given i g) plan ps) (check_of (given i g) plan ps) (λ r e. e) t p

  pub accepted_is : t.number ≡ 0 → check_of (given i g) plan ps ≡ (Ok tt)
  accepted_is e = found-good (check_of (given i g) plan ps) (rw (← check_is) e)

-- ---- of either engine

-- a verdict that is given is told as 0
passed_0 : (d t : ℕ) → (told_judged (pass_at d t)).number ≡ 0
unfolding pass_at
passed_0 d t = at (leb t d)
  where
    at : (b : Bool) → (told_judged (pick b (Ok (Some t)) (Ok None))).number ≡ 0
    at true = refl
    at false = refl

pass-told : (j : Result (Option ℕ) Refusal) → (told_judged j).number ≡ 0 → 1 ≤ (told_judged j).first → j ≡ Ok (Some (told_judged j).first)
pass-told (Ok (Some u)) e h = refl
pass-told (Ok None) e h = absurd (omega arith)
pass-told (Err r) e h = absurd (not_0 r e)

module _ (engine : Rule → List ℕ → List ℕ → ℕ → ℕ) where
  -- what the engine's entry tells
  abbrev pub TellsBy : ℕ → ℕ → List ℕ → List ℕ → List ℕ → ℕ → Told → Type 0
  TellsBy i g plan ps ts place = Tells told_judged (λ (r : Result (Option ℕ) Refusal). r ≡ verdict_by engine (given i g) plan ps ts place)

  module _ (i g : ℕ) (plan ps ts : List ℕ) (place : ℕ) (t : Told) (p : TellsBy i g plan ps ts place t) where
    judged_is : t ≡ told_judged (verdict_by engine (given i g) plan ps ts place)
    judged_is = tells_one told_judged (λ (r : Result (Option ℕ) Refusal). r ≡ verdict_by engine (given i g) plan ps ts place) (verdict_by engine (given i g) plan ps ts place) (λ r e. e) t p

    passed_is : t.number ≡ 0 → 1 ≤ t.first → verdict_by engine (given i g) plan ps ts place ≡ Ok (Some t.first)
    passed_is e h = rw judged_is (pass-told (verdict_by engine (given i g) plan ps ts place) (rw (← judged_is) e) (rw (← judged_is) h))

    pub judged-numbers : Numbered numbers t
    unfolding verdict_by pass_at
    judged-numbers =
        rw judged_is
        (judged-told (answerable_of (given i g) plan ps ts place) (leb (engine (rule_of i) plan ts (place - 1)) (deadline ts (place - 1))) (engine (rule_of i) plan ts (place - 1)) (answerable_told (given i g) plan ps ts place))

    -- behind the chain no verdict tells a number n that is none of 0, 7, 8 and 9
    behind : (n : ℕ) → ¬ (n ≡ 0) → ¬ (n ≡ 7) → ¬ (n ≡ 8) → ¬ (n ≡ 9)
        → ¬ ((told_judged (unless Err (place_of (rule_of i) (wanted (given i g) ps) plan ps ts place) (pass_at (deadline ts (place - 1)) (engine (rule_of i) plan ts (place - 1))))).number ≡ n)
    behind n zero seven eight nine =
        of_place (λ (f : Result (Unit {0}) Refusal). ¬ ((told_judged (unless Err f (pass_at (deadline ts (place - 1)) (engine (rule_of i) plan ts (place - 1))))).number ≡ n)) (rule_of i) (wanted (given i g) ps) plan ps ts place
        (λ z. zero (sym z ∙ passed_0 (deadline ts (place - 1)) (engine (rule_of i) plan ts (place - 1)))) (λ z. seven (sym z)) (λ t z. eight (sym z)) (λ p s h w z. nine (sym z))

    -- the answer as the chain's, or what follows it
    in_chain : t.number ≡ (told_judged (unless Err (tables_of (given i g) (length plan) ps ts) (unless Err (place_of (rule_of i) (wanted (given i g) ps) plan ps ts place) (pass_at (deadline ts (place - 1)) (engine (rule_of i) plan ts (place - 1)))))).number
    unfolding verdict_by answerable_of
    in_chain =
        rw (judged_is, in_turn Err (tables_of (given i g) (length plan) ps ts) (place_of (rule_of i) (wanted (given i g) ps) plan ps ts place) (pass_at (deadline ts (place - 1)) (engine (rule_of i) plan ts (place - 1))))

    pub judged-edition : (t.number ≡ 2) ↔ (¬ Known i)
    judged-edition =
        rw in_chain
        (edition_exactly i g (length plan) ps ts (λ (j : Result (Option ℕ) Refusal). (told_judged j).number) Err _ (λ r. refl) (behind 2 (λ z. absurd (omega arith)) (λ z. absurd (omega arith)) (λ z. absurd (omega arith)) (λ z. absurd (omega arith))))

    pub judged-granule : (t.number ≡ 21) ↔ BadGranule i g (length plan) ps ts
    judged-granule =
        rw in_chain
        (granule_exactly i g (length plan) ps ts (λ (j : Result (Option ℕ) Refusal). (told_judged j).number) Err _ (λ r. refl) (behind 21 (λ z. absurd (omega arith)) (λ z. absurd (omega arith)) (λ z. absurd (omega arith)) (λ z. absurd (omega arith))))

  module _ (well : verdict.Engine (verdict_by engine)) where
    pub ends_in_time : EndsInTime TellsBy
    ends_in_time i g plan ps ts place t u p e q f h = well.ends_in_time (given i g) plan ps ts place u.first (accepted_is i g plan ps t p e) (passed_is i g plan ps ts place u q f h)

    pub ends_in_time_for_ever : EndsInTimeForEver TellsBy
    ends_in_time_for_ever i g plan ps ts place t u p e q f h =
        well.ends_in_time_for_ever (given i g) plan ps ts place u.first (accepted_is i g plan ps t p e) (passed_is i g plan ps ts place u q f h)

    -- where a pass is told with 1 or more
    pub passed_before : ((terms : Terms) (plan ps ts : List ℕ) (place u : ℕ) → verdict_by engine terms plan ps ts place ≡ Ok (Some u) → 1 ≤ u) → PassedBefore TellsBy
    passed_before from_1 i g plan ps ts place t u p e h q =
        let w = well.passed_before (given i g) plan ps ts place t.first (passed_is i g plan ps ts place t p e h) in
        let z : u ≡ told_judged (Ok (Some w.0)) = judged_is 1 g plan ps ts place u q ∙ ap told_judged w.1 in
        (rw z, rw z (from_1 (given 1 g) plan ps ts place w.0 w.1))

-- ---- of each

-- a point is 1 or more
pub point-from_1 : (terms : Terms) (plan ps ts : List ℕ) (place u : ℕ) → verdict_of terms plan ps ts place ≡ Ok (Some u) → 1 ≤ u
unfolding point
point-from_1 terms plan ps ts place u e =
    let a = (proved.pass_point terms plan ps ts place u e).0 in
    let b = and_parts (leb 1 u && leb u (last_point (task_load ts) (place - 1))) (eqb u (last_point (task_load ts) (place - 1)) || some (multiple (task_load ts) (place - 1) u) (place - 1)) a in
    leb-true 1 u (and_parts (leb 1 u) (leb u (last_point (task_load ts) (place - 1))) b.0).0

pub tick_from_1 : (terms : Terms) (plan ps ts : List ℕ) (place u : ℕ) → plain_of terms plan ps ts place ≡ Ok (Some u) → 1 ≤ u
tick_from_1 terms plan ps ts place u e = ((proved.pass_tick terms plan ps ts place u).0 e).1.from_1

-- ---- of both

told_same : (t : Told) → ToldAlike t t
told_same t = (refl, λ n. refl, (λ h. h, λ h. h), omega arith)

told_alike : (j k : Result (Option ℕ) Refusal) → verdict.without_tick k ≡ verdict.without_tick j → ((t u : ℕ) → j ≡ Ok (Some t) → k ≡ Ok (Some u) → (1 ≤ u) × (u ≤ t))
    → ToldAlike (told_judged j) (told_judged k)
told_alike (Ok (Some t)) (Ok (Some u)) e below = let h = below t u refl refl in (refl, λ n. absurd (n refl), (λ g. omega arith, λ g. h.0), h.1)
told_alike (Ok None) (Ok None) e below = told_same (told_judged (Ok None))
told_alike (Err r) (Err q) e below = let f : q ≡ r = cc e in rw f (told_same (told r))
told_alike (Ok (Some t)) (Ok None) e below = let z : ◌≡◌ {A = ℕ} 0 1 = cc in absurd (omega arith)
told_alike (Ok (Some t)) (Err q) e below = let z : ◌≡◌ {A = ℕ} 0 1 = cc in absurd (omega arith)
told_alike (Ok None) (Ok (Some u)) e below = let z : ◌≡◌ {A = ℕ} 0 1 = cc in absurd (omega arith)
told_alike (Ok None) (Err q) e below = let z : ◌≡◌ {A = ℕ} 0 1 = cc in absurd (omega arith)
told_alike (Err r) (Ok (Some u)) e below = let z : ◌≡◌ {A = ℕ} 0 1 = cc in absurd (omega arith)
told_alike (Err r) (Ok None) e below = let z : ◌≡◌ {A = ℕ} 0 1 = cc in absurd (omega arith)

pub engines_alike : (i g : ℕ) (plan ps ts : List ℕ) (place : ℕ) (t u : Told) → TellsVerdict i g plan ps ts place t → TellsPlain i g plan ps ts place u → ToldAlike t u
engines_alike i g plan ps ts place t u p q =
    rw (judged_is task_point i g plan ps ts place t p, judged_is task_tick i g plan ps ts place u q)
    (told_alike (verdict_of (given i g) plan ps ts place) (plain_of (given i g) plan ps ts place) (proved.engines_alike (given i g) plan ps ts place) (λ v w e f.
    (tick_from_1 (given i g) plan ps ts place w f, proved.tick_at_most_point (given i g) plan ps ts place v w e f)))
