use Rattle.share_words.proofs.WordLaws.{tail}
use Rattle.share_words.proofs.words.trimmed.Goals as goal

pub returns : goal.returns
returns c = rw (← c.find_stop.ensures.1) (tail c.find_stop.result c.args.l.now)
