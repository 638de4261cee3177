use Rattle.share_text.proofs.Order.{line_is}
use Rattle.share_text.proofs.lines.row_at.Goals as goal

pub returns : goal.returns
returns c = rw (← line_is c.args.text.now c.args.at c.find_stop-e.result c.find_stop-e.ensures.1) c.row_of.ensures
