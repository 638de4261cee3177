-- Words that only inner contracts use: no statement and no entry's contract cites them. Assumes nothing.
use Rattle.std.specs.Prelude.{ℕ, ◌+◌, ◌%◌, ◌≡◌, List, length}
use Rattle.rules.specs.declared.Rule.{Rule}
use Rattle.theory.specs.Plan.{held}
use Rattle.plan_service.specs.declared.Stretch.{Stretch}

-- a stretch from tick s on, on the walk over starts
pub record Counted (rule : Rule) (plan : List ℕ) (p s : ℕ) (x : Stretch) : Type 0 where
  pub holds : x.held ≡ held rule plan p x.length s
  pub behind : x.enters ≡ (s + x.length) % length plan
