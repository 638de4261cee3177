use Rattle.theory.specs.Harmonic.{planned}
use Rattle.rules.specs.Terms.{wanted}
use Rattle.rules.specs.Inner.{AsNamed}
use Rattle.plan_lay.proofs.lay.Given as goal

abbrev pub invariant-loop-r : goal.invariant-loop-r
invariant-loop-r l = AsNamed (planned (wanted l.terms l.parts) l.parts l.r) l.h l.initial.out l.out
