use Prim.Native.Nat.{◌/◌}
use native.Mathlib.Omega.{arith}
use Rattle.output.proofs.Put.{and_then}
use Rattle.output.proofs.Decimal.{decimal-one, decimal_more, decimal-length}
use Rattle.output.proofs.Output+u8.+put_decimal.Goals as goal

pub returns-then-n-lt10-clause-put : goal.returns-then-n-lt10-clause-put
returns-then-n-lt10-clause-put t c = rw (decimal-one c.args.n c.if-n-lt10.true, ← c.digit.ensures) c.put.ensures.put

pub put-requires-2 : goal.put-requires-2
put-requires-2 t c = omega (arith, decimal-length (c.args.n / 10) (omega arith), c.put_decimal.ensures.put.place)

pub returns-clause-put : goal.returns-clause-put
returns-clause-put t c = rw (decimal_more c.args.n c.if-n-lt10.false, ← c.digit-2.ensures) (and_then c.put_decimal.ensures.put c.put-2.ensures.put)
