-- What is proved of the curve beyond its contract. Assumes nothing.
use Rattle.std.specs.Prelude.{ℕ, suc, ◌+◌, ◌≤◌, ◌<◌, ◌≡◌, true, false, List, length, get_or, Result, Ok, Err}
use Rattle.rules.specs.Terms.{good_edition, rule_of}
use Rattle.rules.specs.declared.Rule.{Rule}
use Rattle.rules.specs.declared.Refusal.TheVariants.{Edition, Output}
use Rattle.rules.specs.declared.Refusal.{Refusal}
use Rattle.theory.specs.Plan.{service, held, least}
use Rattle.plan_curve.specs.Curve.{least_curve, curve_of, DrawsCurve, start_tried}

-- "a worst stretch can be taken to start right behind one of the partition's runs": of a partition that some tick serves, and not every tick, any stretch
-- holds at least as much as one that starts behind a tick that serves it, at one that doesn't
abbrev pub WorstBehindRun : Type 0
WorstBehindRun =
    (rule : Rule) (plan : List ℕ) (p t s a b : ℕ) → 0 < length plan → service rule plan a ≡ p → ¬ (service rule plan b ≡ p)
    → (c : ℕ) × (service rule plan c ≡ p) × ¬ (service rule plan (suc c) ≡ p) × (held rule plan p t (suc c) ≤ held rule plan p t s)

-- the same of any partition, of starts in the frame: one of those that are tried holds no more. The frame's first tick is one of them, for every tick may
-- serve a partition, or none
abbrev pub WorstStart : Type 0
WorstStart =
    (rule : Rule) (plan : List ℕ) (p t s : ℕ) → s < length plan
    → (c : ℕ) × (c < length plan) × (start_tried rule plan p c ≡ true) × (held rule plan p t c ≤ held rule plan p t s)

-- "each number is `least`": n + 1 numbers
abbrev pub CurveIs : Type 0
CurveIs =
    (rule : Rule) (plan : List ℕ) (p n : ℕ)
    → (length (least_curve rule plan p n) ≡ n + 1) × ((t : ℕ) → t ≤ n → get_or (least_curve rule plan p n) t 0 ≡ least rule plan p t)

-- 2 exactly for another edition, else 12 exactly for a list with fewer numbers; nothing else is refused
pub data CurveBy (e n room : ℕ) : Result ℕ Refusal → Type 0 where
  curve_edition : good_edition e ≡ false → CurveBy e n room (Err Edition)
  curve-length : good_edition e ≡ true → room < n + 1 → CurveBy e n room (Err Output)
  curve-done : good_edition e ≡ true → n + 1 ≤ room → CurveBy e n room (Ok (n + 1))

abbrev pub CurveAnswers : Type 0
CurveAnswers = (e n room : ℕ) → CurveBy e n room (curve_of e n room)

-- each number that the call leaves is least service, and the list's tail stays as it was
abbrev pub CurveLeaves : Type 0
CurveLeaves =
    (e : ℕ) (plan : List ℕ) (p n m : ℕ) (list o : List ℕ) → DrawsCurve e plan p n list o (Ok m)
    → (m ≡ n + 1) × (length o ≡ length list)
    × ((t : ℕ) → t ≤ n → get_or o t 0 ≡ least (rule_of e) plan p t)
    × ((t : ℕ) → n < t → get_or o t 0 ≡ get_or list t 0)

-- "any two outcomes it permits are equal"
abbrev pub CurveOne : Type 0
CurveOne =
    (e : ℕ) (plan : List ℕ) (p n : ℕ) (list o o' : List ℕ) (r r' : Result ℕ Refusal) → DrawsCurve e plan p n list o r → DrawsCurve e plan p n list o' r'
    → (r ≡ r') × (o ≡ o')

pub record Proved : Type 0 where
  pub worst_behind_run : WorstBehindRun
  pub worst_start_lem : WorstStart
  pub curve_is : CurveIs
  pub curve_answers : CurveAnswers
  pub curve_leaves : CurveLeaves
  pub curve_one : CurveOne
