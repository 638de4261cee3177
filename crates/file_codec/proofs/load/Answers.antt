use native.Mathlib.Omega.{arith}
use lib.ListN.{length-set}
use Rattle.file_codec.specs.Bytes.{nums_of}
use Rattle.file_codec.proofs.Bytes.{over_more, nums_of_length}
use borrow.Author.Rules.{rules}
use Rattle.file_codec.proofs.load.Goals as goal

pub loop-k-preserved : goal.loop-k-preserved
loop-k-preserved c = (rw (c.loop-k.invariant.0, c.number.ensures) (over_more (nums_of c.args.body.now) c.loop-k.k c.args.table.now (omega (arith, nums_of_length c.args.body.now)) (search rules)), simp length-set c.loop-k.invariant.1)
