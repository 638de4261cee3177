-- The curve of least service, what the call answers, and where a worst stretch may start. Assumes nothing.
use Rattle.std.specs.Prelude.{ℕ, ◌+◌, ◌-◌, ◌≡◌, Bool, ◌&&◌, ◌||◌, not, List, length, ltb, eqb, Result, Ok, Err}
use Rattle.rules.specs.Walk.{pick, listed}
use Rattle.rules.specs.Filling.{left_by}
use Rattle.rules.specs.Terms.{good_edition, rule_of}
use Rattle.rules.specs.declared.Rule.{Rule}
use Rattle.rules.specs.declared.Refusal.TheVariants.{Edition, Output}
use Rattle.rules.specs.declared.Refusal.{Refusal}
use Rattle.theory.specs.Plan.{service, least}

-- least(0) .. least(n) of one partition
abbrev pub least_curve : Rule → List ℕ → ℕ → ℕ → List ℕ
least_curve rule plan p n = listed (least rule plan p) (n + 1)

-- "2 now means neither 1 nor 2, in a call too"; "output shorter than needed", for a list of room numbers; or how many are written
unfoldable pub curve_of : ℕ → ℕ → ℕ → Result ℕ Refusal
curve_of e n room = pick (good_edition e) (pick (ltb room (n + 1)) (Err Output) (Ok (n + 1))) (Err Edition)

-- the answer r of the call in edition e, and o what the list then holds: a longer one keeps its tail
abbrev pub DrawsCurve : ℕ → List ℕ → ℕ → ℕ → List ℕ → List ℕ → Result ℕ Refusal → Type 0
DrawsCurve e plan p n list o r = (r ≡ curve_of e n (length list)) × (o ≡ left_by r (least_curve (rule_of e) plan p n) list)

-- the starts that are tried: tick s stands right behind ticks that serve p, or is the frame's first
unfoldable pub start_tried : Rule → List ℕ → ℕ → ℕ → Bool
start_tried rule plan p s = eqb s 0 || (not (eqb (service rule plan s) p) && eqb (service rule plan (s - 1)) p)
