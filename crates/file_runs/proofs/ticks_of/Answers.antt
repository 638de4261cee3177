use mathlib.Core.Path.{◌≡◌, refl, ◌∙◌}
use Prim.Native.Nat.{◌<◌, ◌+◌, ◌*◌, ◌/◌}
use native.Mathlib.Omega.{arith}
use lib.ListN.{length}
use Rattle.file_runs.specs.Ticks.{ticks_of}
use Rattle.output.proofs.Put.{put_none, and_then}
use Rattle.file_runs.proofs.Ticks.{run_more, ticks-all, ticks-none, ticks-some}
use borrow.Author.Rules.{rules}
use Rattle.file_runs.proofs.ticks_of.Goals as goal

pub returns-then-runs-gt-RUN_NUMBERS : goal.returns-then-runs-gt-RUN_NUMBERS
returns-then-runs-gt-RUN_NUMBERS c = rw (ticks-none c.args.runs.now c.if-runs-gt-RUN_NUMBERS.true) (put_none _ _)

pub loop-k-init : goal.loop-k-init
unfolding ticks_of
loop-k-init c = (refl, rw (c.new-ticks.ensures.empty.0, c.new-ticks.ensures.empty.1) (put_none _ _), search rules)

pub loop-k-preserved : goal.loop-k-preserved
loop-k-preserved c =
    let h : 2 * c.loop-k.k + 1 < length c.args.runs.now = omega (arith, c.runs-k-end.ensures) in
    (c.put_ticks.ensures.same_reference ∙ c.loop-k.invariant.0, rw (← run_more c.args.runs.now c.loop-k.k h, ← c.run_owner.ensures, ← c.run_length.ensures, ← c.from-long.ensures) (and_then c.loop-k.invariant.1 c.put_ticks.ensures.put), search rules)

pub returns : goal.returns
returns c =
    let e : c.loop-k.k ≡ length c.args.runs.now / 2 = search rules in
    let w = rw (ticks-all c.args.runs.now c.loop-k.k e, ← ticks-some c.args.runs.now c.if-runs-gt-RUN_NUMBERS.false) at c.loop-k.invariant.1 in
    search rules
