use Rattle.file_listing.proofs.Tables.{listed-short, listed_text}
use borrow.Author.Rules.{rules}
use Rattle.file_listing.proofs.listing.Goals as goal

pub returns-then-out-n-clause-lists : goal.returns-then-out-n-clause-lists
returns-then-out-n-clause-lists c = listed-short _ _ _ c.args.out.now _ c.compose-n.ensures.0 (search rules)

pub returns-clause-lists : goal.returns-clause-lists
returns-clause-lists c =
    let w = listed_text _ _ _ c.args.out.now _ c.compose-n.ensures.0 (search rules) (search rules) _ _ (rw (c.new.ensures.empty.0, c.new.ensures.empty.1) at c.put_all.ensures.put) in
    search rules
