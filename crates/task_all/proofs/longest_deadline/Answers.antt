use Prim.Native.Nat.{max}
use mathlib.Core.Path.{sym, ap₂, ◌∙◌}
use native.Mathlib.Nat.{max_comm}
use Rattle.rules.proofs.Least.{largest-zero, largest_more}
use borrow.Author.Rules.{rules}
use Rattle.task_all.proofs.longest_deadline.Goals as goal

pub loop-j-init : goal.loop-j-init
loop-j-init c = sym (largest-zero _)

pub loop-j-preserved : goal.loop-j-preserved
loop-j-preserved c = c.max-d.ensures ∙ max_comm _ _ ∙ ap₂ max c.loop-j.invariant c.deadline_in.ensures ∙ sym (largest_more _ _)

pub returns : goal.returns
returns c = search rules
