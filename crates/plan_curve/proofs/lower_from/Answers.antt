use mathlib.Core.Path.{sym}
use native.Mathlib.Nat.{add-zero, mod-eq_of_lt}
use Rattle.plan_service.proofs.Turns.{held_none}
use borrow.Author.Rules.{rules}
use Rattle.plan_curve.proofs.lower_from.Goals as goal

pub lower_row-h-requires : goal.lower_row-h-requires
lower_row-h-requires c = (rw add-zero (sym (mod-eq_of_lt c.requires.0)), search rules, search rules, search rules, search rules, held_none _ _ _ _)
