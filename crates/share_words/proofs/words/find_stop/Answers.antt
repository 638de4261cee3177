use Rattle.share_words.specs.Words.{stops_at}
use Rattle.rules.proofs.First.{first-zero, first_more, first_found}
use mathlib.Core.Path.{sym, ◌∙◌}
use borrow.Author.Rules.{rules}
use Rattle.share_words.proofs.words.find_stop.Goals as goal

pub loop-k-init : goal.loop-k-init
loop-k-init g c = first-zero _

pub returns-then-stops : goal.returns-then-stops
unfolding stops_at
returns-then-stops g c = (search rules, sym (first_found _ _ _ (search rules) c.loop-k.invariant (sym c.stops.ensures ∙ c.if-stops.true)))

pub loop-k-preserved : goal.loop-k-preserved
unfolding stops_at
loop-k-preserved g c = first_more _ _ c.loop-k.invariant (sym c.stops.ensures ∙ c.if-stops.false)
