use Rattle.share_words.specs.Words.{rest_of}
use Rattle.share_words.proofs.WordLaws.{tail}
use Rattle.share_words.proofs.words.after_word.Goals as goal

pub returns : goal.returns
unfolding rest_of
returns c = rw (tail c.width.result c.trimmed-t.result.now, c.width.ensures.1, c.trimmed-t.ensures)
