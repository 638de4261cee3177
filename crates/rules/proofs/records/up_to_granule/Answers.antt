use mathlib.Core.Path.{sym}
use native.Mathlib.Omega.{arith}
use Rattle.rules.proofs.Round.{round_multiple, round_over}
use Rattle.rules.proofs.records.up_to_granule.Goals as goal

pub returns-then-over-eq0 : goal.returns-then-over-eq0
returns-then-over-eq0 c = sym (round_multiple _ _ (omega (arith, c.if-granule-eq0.false)) c.if-over-eq0.true)

pub returns : goal.returns
returns c = sym (round_over _ _ (omega (arith, c.if-granule-eq0.false)) c.if-over-eq0.false)
