use Rattle.std.proofs.Common.{rules}
use Rattle.theory.specs.Task.{task_point}
use Rattle.task_verdict.specs.Inner.{Asked}
use Rattle.task_verdict.proofs.Orders.{judged_by}
use Rattle.task_verdict.proofs.verdict.Goals as goal

pub judge-requires : goal.judge-requires
unfolding Asked
judge-requires c = λ i g. search rules

pub returns : goal.returns
returns c = judged_by _ _ _ _ _ task_point _ _ c.judge.ensures (λ t f. search rules)
