use Rattle.share_line.specs.Expected.{expected_line}
use Rattle.output.proofs.Put.{and_then}
use borrow.Author.Rules.{rules}
use Rattle.share_line.proofs.expected.put_expected.Goals as goal

pub returns : goal.returns
unfolding expected_line
returns c = let p = and_then (and_then c.put_field.ensures.put c.put_all.ensures.put) c.put_what.ensures.put in (search rules, search rules)
