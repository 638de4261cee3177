use mathlib.Core.Path.{◌≡◌}
use Rattle.rules.specs.Walk.{gathered}
use Rattle.output.specs.Put.{Put}
use Rattle.task_page.specs.Page.{row_at}
use Rattle.task_page.proofs.put_rows.Given as goal

abbrev pub invariant-loop-t : goal.invariant-loop-t
invariant-loop-t l =
    (l.rows.lent.ghost_name ≡ l.initial.rows.lent.ghost_name)
    × Put l.initial.rows.lent.now l.initial.rows.at (gathered (row_at l.rule l.plan l.tasks l.i) l.t) l.rows.at l.rows.lent.now
