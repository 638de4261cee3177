use mathlib.Core.Path.{◌≡◌}
use Prim.Native.Nat.{◌*◌}
use lib.ListN.{length}
use Rattle.file_codec.specs.Bytes.{bytes_of}
use Rattle.file_codec.specs.Inner.{over}
use Rattle.file_codec.proofs.put_all.Given as goal

abbrev pub invariant-loop-k : goal.invariant-loop-k
invariant-loop-k l = (l.out ≡ over (bytes_of l.table) (2 * l.k) l.initial.out) × (length l.out ≡ length l.initial.out)
