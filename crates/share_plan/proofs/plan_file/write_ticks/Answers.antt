use Rattle.share_plan.proofs.Laws.{runs_put_lem}
use lib.Seq.{length-take-le}
use mathlib.Core.Path.{refl, sym}
use Rattle.share_plan.proofs.plan_file.write_ticks.Goals as goal

pub slice_bounds-runs-end : goal.slice_bounds-runs-end
slice_bounds-runs-end c = (runs_put_lem _ _ _ _ c.requires refl c.runs_of-n.ensures).0

pub slice_bounds-write-end : goal.slice_bounds-write-end
slice_bounds-write-end c = sym (length-take-le _ _ (runs_put_lem _ _ _ _ c.requires refl c.runs_of-n.ensures).0)

pub returns : goal.returns
returns c = let f = runs_put_lem _ _ _ _ c.requires refl c.runs_of-n.ensures in let w = c.write.ensures in rw (← f.1) (w.0, rw w.0 w.1)
