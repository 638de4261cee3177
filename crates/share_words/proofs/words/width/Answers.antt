use Rattle.std.proofs.Common.{rules, sym}
use Rattle.share_words.proofs.WordLaws.{width-none, width_slash, width_more}
use Rattle.share_words.proofs.words.width.Goals as goal

pub returns-then-is_empty : goal.returns-then-is_empty
returns-then-is_empty c = (search rules, width-none _ (search rules))

pub returns-then-l-eq47 : goal.returns-then-l-eq47
returns-then-l-eq47 c = (search rules, sym (width_slash _ c.if-l-eq47.true))

pub returns : goal.returns
returns c = (c.find_stop.ensures.0, width_more _ _ c.if-l-eq47.false c.find_stop.ensures.1)
