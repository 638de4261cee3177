use mathlib.Core.Path.{◌≡◌}
use Prim.Native.Nat.{◌≤◌, ◌+◌, ◌*◌}
use Rattle.output.specs.Put.{Put}
use Rattle.rules.specs.Limits.{longest_line}
use Rattle.rules.specs.Walk.{gathered}
use Rattle.file_page.specs.Inner.{line_by}
use Rattle.file_page.proofs.put_lines.Given as goal

abbrev pub invariant-loop-j : goal.invariant-loop-j
invariant-loop-j l =
    (l.out.lent.ghost_name ≡ l.initial.out.lent.ghost_name)
    × Put l.initial.out.lent.now l.initial.out.at (gathered (line_by l.table l.found) l.j) l.out.at l.out.lent.now
    × (l.out.at ≤ l.initial.out.at + longest_line * l.j)
