use Prim.Native.Nat.{◌+◌}
use mathlib.Core.Path.{refl, sym, ◌∙◌}
use native.Mathlib.Nat.{mul-zero}
use native.Mathlib.Omega.{arith}
use Rattle.task_demand.proofs.Asking.{next_job, with_none, with_row, more_asked, few-jobs}
use borrow.Author.Rules.{rules}
use Rattle.task_demand.proofs.add_task.Goals as goal

pub loop-t-init : goal.loop-t-init
loop-t-init c = (search rules, refl, with_none _ _ _ c.requires.0, (0, λ l. omega arith, sym (mul-zero c.args.c)))

pub overflow_add-all : goal.overflow_add-all
overflow_add-all c =
    let k = c.loop-t.invariant.3 in
    let few = few-jobs _ _ _ _ _ c.requires.1 (k.1 c.loop-t-test.true) k.2 in
    search (rules, few)

pub add_row-requires : goal.add_row-requires
add_row-requires c =
    let l = c.loop-t in
    let k = l.invariant.3 in
    let few = few-jobs _ _ _ _ _ c.requires.1 (k.1 c.loop-t-test.true) k.2 in
    (search rules, search rules, search (rules, few), record { small = λ u h. rw (l.invariant.2.rest u (search rules)) (c.requires.6.small u (search rules)) })

pub loop-t-preserved : goal.loop-t-preserved
loop-t-preserved c =
    let l = c.loop-t in
    let k = l.invariant.3 in
    let at = k.1 c.loop-t-test.true in
    let e = rw c.from-step.ensures at c.min-e.ensures in
    let all = more_asked _ _ _ _ k.2 c.from-all.ensures in
    let w = c.add_row.ensures in
    let next = next_job _ _ _ at in
    (omega (arith, e), w.as_long ∙ l.invariant.1, with_row _ _ _ _ _ _ _ _ _ _ c.requires.0 at (search rules) e all l.invariant.2 w, (k.0 + 1, λ g. omega (arith, e, next, g), all))
