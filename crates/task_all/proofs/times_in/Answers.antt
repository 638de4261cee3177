use mathlib.Core.Path.{◌≡◌, sym, ◌∙◌}
use Rattle.std.proofs.Common.{rules, None}
use Rattle.task_all.proofs.Marks.{point_none, tick_none, both_found, in-time_small}
use Rattle.task_all.proofs.times_in.Goals as goal

pub overflow_cast-result : goal.overflow_cast-result
overflow_cast-result c = let l = in-time_small _ _ c.in_ok-point.point (search rules) (sym c.point_in.ensures ∙ c.in_ok-point.was) in search (rules, l)

pub overflow_cast-result-2 : goal.overflow_cast-result-2
overflow_cast-result-2 c = let l = in-time_small _ _ c.in_ok-tick.tick (search rules) (sym c.tick_in.ensures ∙ c.in_ok-tick.was) in search (rules, l)

pub returns-in_err-point : goal.returns-in_err-point
returns-in_err-point c =
    let e : c.from_residual.result ≡ None = search rules in
    e ∙ point_none _ _ _ _ _ _ c.budget-c.ensures c.deadline-d.ensures _ c.point_in.ensures c.in_err-point.was

pub returns-in_err-tick : goal.returns-in_err-tick
returns-in_err-tick c =
    let e : c.from_residual-in_err-tick.result ≡ None = search rules in
    e ∙ tick_none _ _ _ _ _ _ c.budget-c.ensures c.deadline-d.ensures _ c.point_in.ensures _ c.in_ok-point.was _ c.tick_in.ensures c.in_err-tick.was

pub returns : goal.returns
returns c = both_found _ _ _ _ _ _ c.budget-c.ensures c.deadline-d.ensures _ c.point_in.ensures _ c.in_ok-point.was _ c.tick_in.ensures _ c.in_ok-tick.was
