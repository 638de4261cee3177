use lib.Seq.{length-take-le}
use lib.ListN.{replicate}
use Prim.Native.Nat.{ℕ}
use Rattle.why_lines.proofs.Lines.{padded_is}
use borrow.Author.Rules.{rules}
use Rattle.why_lines.proofs.put_column.Goals as goal

pub returns-clause-put : goal.returns-clause-put
returns-clause-put c = rw (padded_is c.args.n c.digits.result c.saturating_sub-gap.result c.digits.ensures c.saturating_sub-gap.ensures) at c.put_field.ensures.put

pub returns-clause-short : goal.returns-clause-short
returns-clause-short c = let l = length-take-le {A = ℕ} c.saturating_sub-gap.result (replicate 8 32) (search rules) in search rules
