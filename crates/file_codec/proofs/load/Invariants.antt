use mathlib.Core.Path.{◌≡◌}
use lib.ListN.{length}
use Rattle.file_codec.specs.Bytes.{nums_of}
use Rattle.file_codec.specs.Inner.{over}
use Rattle.file_codec.proofs.load.Given as goal

abbrev pub invariant-loop-k : goal.invariant-loop-k
invariant-loop-k l = (l.table ≡ over (nums_of l.body) l.k l.initial.table) × (length l.table ≡ length l.initial.table)
