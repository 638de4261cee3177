use native.Mathlib.Omega.{arith}
use Rattle.output.proofs.Put.{and_then}
use Rattle.output.proofs.Decimal.{decimal-length}
use borrow.Author.Rules.{rules}
use Rattle.output.proofs.Output+u8.put_field.Goals as goal

pub returns-clause-put : goal.returns-clause-put
returns-clause-put c = and_then c.put_all.ensures.put c.put_decimal.ensures.put

pub returns-clause-short : goal.returns-clause-short
returns-clause-short c = omega (arith, decimal-length c.args.n (search rules), c.put_all.ensures.put.place, c.put_decimal.ensures.put.place)
