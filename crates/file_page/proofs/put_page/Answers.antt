use Rattle.output.proofs.Put.{and_then}
use Rattle.file_page.specs.Page.{page_of}
use borrow.Author.Rules.{rules}
use Rattle.file_page.proofs.put_page.Goals as goal

pub returns : goal.returns
unfolding page_of
returns c = let p = and_then (and_then c.put_frame.ensures.put c.put_parts.ensures.put) c.put_tasks.ensures.put in (search rules, search rules)
