use Prim.Native.Nat.{◌+◌}
use Rattle.rules.specs.Limits.{longest}
use mathlib.Core.Path.{refl, ◌∙◌}
use native.Mathlib.Omega.{arith}
use Rattle.rules.proofs.Named.{named_self}
use Rattle.task_demand.proofs.Asking.{zeros-all, asked-none, asked-small, asked_more}
use Rattle.task_all.proofs.Marks.{found-none, found-end, times_are, mark-turn, mark-long, judgeable_in, longest-short, none_of, drawn_in}
use borrow.Author.Rules.{rules}
use Rattle.task_all.proofs.judge_partition.Goals as goal

pub returns-then-d-eq0 : goal.returns-then-d-eq0
returns-then-d-eq0 c = none_of _ c.requires.0 _ _ _ _ _ c.longest_deadline-d.ensures c.if-d-eq0.true

pub overflow_add-d : goal.overflow_add-d
overflow_add-d c = omega (arith, longest-short _ c.requires.0 _ _ c.longest_deadline-d.ensures)

pub draw-requires : goal.draw-requires
draw-requires c = let l = longest-short _ c.requires.0 _ _ c.longest_deadline-d.ensures in (omega (arith, l), search (rules, l))

pub loop-j-init : goal.loop-j-init
loop-j-init c = (refl, refl, asked-none _ _ _ _ (zeros-all (longest + 1)), λ rule w. found-none _ _)

pub overflow_add-d-in-loop-j : goal.overflow_add-d-in-loop-j
overflow_add-d-in-loop-j c = omega (arith, longest-short _ c.requires.0 _ _ c.longest_deadline-d.ensures)

pub ask_task-requires : goal.ask_task-requires
ask_task-requires c = let l = c.loop-j in
    let pre = c.requires in
    let d = longest-short _ pre.0 _ _ c.longest_deadline-d.ensures in (
      pre.0.in_order _ (search rules),
      omega arith,
      omega (arith, d),
      search (rules, d, l.invariant.0),
      asked-small _ _ _ _ _ _ (search (rules, pre.0.few)) (omega (arith, d)) (λ k h. pre.0.in_order k (search rules)) (zeros-all (longest + 1)) l.invariant.2,
    )

pub loop-j-preserved : goal.loop-j-preserved
loop-j-preserved c = let l = c.loop-j in
    let pre = c.requires in
    let e = c.longest_deadline-d.ensures in
    let d = longest-short _ pre.0 _ _ e in (
      c.ask_task.ensures.as_long ∙ l.invariant.0,
      mark-long _ _ _ _ _ _ c.judge_task.ensures ∙ l.invariant.1,
      asked_more _ _ _ _ _ _ _ l.invariant.2 c.ask_task.ensures,
      λ rule w.
          let drawn = drawn_in _ pre.0 rule _ _ _ _ _ _ _ (search rules) e (search (rules, d, c.draw.ensures.as_long)) (search (rules, d)) w l.invariant.2 in
          mark-turn _ _ _ _ _ _ _ _ (l.invariant.3 rule w) (search rules) c.judge_task.ensures (λ z. times_are rule _ _ _ _ _ (judgeable_in _ pre.0 _ (search rules)) (drawn z)),
    )

pub returns : goal.returns
returns c = let l = c.loop-j in
    let w = named_self _ _ _ _ (rw c.from.ensures at c.draw.ensures) in
    found-end _ _ _ _ _ (search rules) (search rules) (l.invariant.3 _ w)
