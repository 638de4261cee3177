use Rattle.plan_lay.proofs.Passes.{Giving}
use Rattle.plan_lay.proofs.give.Given as goal

abbrev pub invariant-loop-t : goal.invariant-loop-t
invariant-loop-t l = Giving l.p l.q l.m l.initial.out l.t l.at l.seen l.out
