use Rattle.share_text.proofs.Order.{after-some, after_none}
use borrow.Author.Rules.{rules}
use Rattle.share_text.proofs.lines.next_line.Goals as goal

pub returns-then-e-rest : goal.returns-then-e-rest
returns-then-e-rest c = (search rules, search rules, after-some c.args.text.now c.args.at c.find_stop-e.result c.find_stop-e.ensures.1)

pub returns : goal.returns
returns c = (search rules, search rules, after_none c.args.text.now c.args.at c.find_stop-e.result c.find_stop-e.ensures.1 c.if-e-rest.false)
