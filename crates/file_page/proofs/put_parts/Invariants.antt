use mathlib.Core.Path.{◌≡◌}
use Prim.Native.Nat.{◌≤◌, ◌+◌, ◌*◌}
use Rattle.output.specs.Put.{Put}
use Rattle.rules.specs.Limits.{longest_line}
use Rattle.rules.specs.Walk.{gathered}
use Rattle.file_page.specs.Page.{part_line}
use Rattle.file_page.proofs.put_parts.Given as goal

abbrev pub invariant-loop-k : goal.invariant-loop-k
invariant-loop-k l =
    (l.out.lent.ghost_name ≡ l.initial.out.lent.ghost_name)
    × Put l.initial.out.lent.now l.initial.out.at (gathered (part_line l.rule l.plan l.parts) l.k) l.out.at l.out.lent.now
    × (l.out.at ≤ l.initial.out.at + longest_line * l.k)
