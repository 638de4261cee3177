use mathlib.Core.Path.{sym, ◌∙◌}
use lib.ListN.{length}
use Rattle.rules.proofs.Named.{named-list}
use Rattle.counts.proofs.Asking.{many_fills, many_looks}
use Rattle.plan_counts.proofs.held_many.Goals as goal

pub answer_all-requires : goal.answer_all-requires
answer_all-requires c =
    let e = many_fills _ c.args.parts.now _ c.args.asked.now _ c.if-asked-ne0.false _ c.questions-n.ensures (sym (rw (c.judge_stretches-within.ensures, c.judge_names-named.ensures, c.partitions.ensures) at c.judge_call.ensures) ∙ c.in_ok-judge_call.was) in
    let a = many_looks c.args.plan.now c.args.parts.now c.args.list.now c.args.asked.now (length c.args.answers.now) _ (sym e) in
    (a.2, a.1)

pub returns : goal.returns
returns c =
    let e = many_fills _ c.args.parts.now _ c.args.asked.now _ c.if-asked-ne0.false _ c.questions-n.ensures (sym (rw (c.judge_stretches-within.ensures, c.judge_names-named.ensures, c.partitions.ensures) at c.judge_call.ensures) ∙ c.in_ok-judge_call.was) in
    let a = many_looks c.args.plan.now c.args.parts.now c.args.list.now c.args.asked.now (length c.args.answers.now) _ (sym e) in
    (e, rw (← c.questions-n.ensures) (named-list _ _ _ _ a.1 c.answer_all.ensures))
