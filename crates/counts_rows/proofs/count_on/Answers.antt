use mathlib.Core.Path.{◌≡◌, refl, ◌∙◌}
use mathlib.Core.Bool.{Bool, true, false}
use mir.Val.{bool_byte}
use Rattle.rules.specs.Walk.{only}
use Rattle.counts.proofs.Passes.{count_turn}
use borrow.Author.Rules.{rules}
use Rattle.counts_rows.proofs.count_on.Goals as goal

-- a test as a number
as_number : (b : Bool) → bool_byte b ≡ only b 1
unfolding only
as_number true = refl
as_number false = refl

pub returns : goal.returns
returns c = (search rules, count_turn _ _ _ _ _ (search rules) c.requires.2 (rw c.from.ensures at c.from-2.ensures ∙ as_number _))
