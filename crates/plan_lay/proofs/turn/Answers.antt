use mathlib.Core.Path.{◌∙◌}
use native.Mathlib.Omega.{arith}
use Rattle.theory.proofs.Order.{taken_below}
use Rattle.plan_lay.proofs.Passes.{turn_is}
use borrow.Author.Rules.{rules}
use Rattle.plan_lay.proofs.turn.Goals as goal

pub overflow_add-k : goal.overflow_add-k
overflow_add-k c = let f = c.requires in let t = taken_below c.args.parts.now c.args.r f.1 in omega (arith, c.taken-k.ensures, f.0.few, t)

pub overflow_cast-k : goal.overflow_cast-k
overflow_cast-k c = let f = c.requires in let t = taken_below c.args.parts.now c.args.r f.1 in omega (arith, c.taken-k.ensures, f.0.few, t)

pub give-requires : goal.give-requires
give-requires c = let f = c.requires in let t = taken_below c.args.parts.now c.args.r f.1 in (search rules, rw (c.from-m.ensures, c.cycle.ensures, c.taken-k.ensures) (f.0.cycles _ t))

pub returns : goal.returns
returns c = turn_is _ _ _ _ _ _ _ _ _ _ c.taken-k.ensures c.wanted-q.ensures (c.from-m.ensures ∙ c.cycle.ensures) c.give.ensures
