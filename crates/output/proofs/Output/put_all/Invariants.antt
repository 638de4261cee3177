use mathlib.Core.Path.{◌≡◌}
use lib.ListN.{take}
use Rattle.output.specs.Put.{Put}
use Rattle.output.proofs.Output.put_all.Given as goal

abbrev pub invariant-loop-x : goal.invariant-loop-x
invariant-loop-x g l =
    (l.self.lent.ghost_name ≡ l.initial.self.lent.ghost_name)
    × Put l.initial.self.lent.now l.initial.self.at (take l.x-index l.xs) l.self.at l.self.lent.now
