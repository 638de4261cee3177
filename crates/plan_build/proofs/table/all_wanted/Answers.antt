use Prim.Native.Nat.{◌+◌}
use mathlib.Core.Path.{sym, ap₂, ◌∙◌}
use Rattle.rules.proofs.Sum.{sum-zero, sum_more}
use borrow.Author.Rules.{rules}
use Rattle.plan_build.proofs.table.all_wanted.Goals as goal

pub loop-k-init : goal.loop-k-init
loop-k-init c = (search rules, sym (sum-zero _))

pub loop-k-preserved : goal.loop-k-preserved
loop-k-preserved c = (search rules, ap₂ ◌+◌ c.loop-k.invariant.1 c.wanted_in-all.ensures.1 ∙ sym (sum_more _ _))
