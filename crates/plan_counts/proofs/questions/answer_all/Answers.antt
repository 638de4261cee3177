use Rattle.rules.specs.declared.Rule.TheVariants.{Own}
use mathlib.Core.Path.{refl}
use native.Mathlib.Omega.{arith}
use lib.ListN.{length-set}
use Rattle.rules.proofs.Named.{named-turn}
use Rattle.theory.specs.Plan.{service}
use Rattle.theory.proofs.Plan.{held-le}
use Rattle.counts.proofs.Asking.{answer_as}
use borrow.Author.Rules.{rules}
use Rattle.plan_counts.proofs.questions.answer_all.Goals as goal

pub overflow_cast-answers : goal.overflow_cast-answers
overflow_cast-answers c =
    let a = c.requires.0 in
    let q = c.question_at-q in
    omega (arith, c.look_up.ensures, held-le (service Own c.args.plan.now) q.result.asked q.result.span q.result.start, q.ensures.2, a.spans c.loop-k.k (search rules), a.small)

pub loop-k-preserved : goal.loop-k-preserved
loop-k-preserved c =
    let q = c.question_at-q in
    (simp length-set c.loop-k.invariant.0, named-turn _ _ _ _ _ _ c.loop-k.invariant.1 (search rules) refl (answer_as _ _ _ _ _ _ _ q.ensures.0 q.ensures.1 q.ensures.2 c.look_up.ensures))
