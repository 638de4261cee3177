use mathlib.Core.Path.{refl, ◌∙◌}
use native.Mathlib.Omega.{arith}
use Rattle.task_all.proofs.Marks.{upto_turn, upto-none, upto_all, all-judgeable, no_tick_of}
use borrow.Author.Rules.{rules}
use Rattle.task_all.proofs.judge_all.Goals as goal

pub loop-p-init : goal.loop-p-init
loop-p-init c = (refl, upto-none _ _ _ c.requires.1 _)

pub judge_partition-requires : goal.judge_partition-requires
judge_partition-requires c = (all-judgeable _ _ c.requires.0 c.requires.1, omega (arith, c.requires.2, c.loop-p.invariant.0))

pub loop-p-preserved : goal.loop-p-preserved
loop-p-preserved c = let l = c.loop-p in
    let e = c.judge_partition.ensures in
    (e.as_long ∙ l.invariant.0, upto_turn _ _ _ _ _ _ _ l.invariant.1 e)

pub returns : goal.returns
returns c =
    let found = upto_all _ _ _ c.requires.1 _ _ _ (search rules) (search rules) c.loop-p.invariant.1 in
    record { found = found; no_tick = no_tick_of _ _ _ _ c.requires.1 _ _ found }
