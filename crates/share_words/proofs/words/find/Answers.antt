use Rattle.share_words.specs.Words.{stops_at}
use Rattle.rules.proofs.First.{first-zero, first_more, first_found}
use mathlib.Core.Path.{sym, ◌∙◌}
use borrow.Author.Rules.{rules}
use Rattle.share_words.proofs.words.find.Goals as goal

pub loop-k-init : goal.loop-k-init
loop-k-init g c = λ test h. first-zero _

pub returns-then-stops-clause-place : goal.returns-then-stops-clause-place
unfolding stops_at
returns-then-stops-clause-place g c = λ test h. sym (first_found _ _ _ (search rules) (c.loop-k.invariant test h) (sym (h _ _ c.stops.ensures) ∙ c.if-stops.true))

pub loop-k-preserved : goal.loop-k-preserved
unfolding stops_at
loop-k-preserved g c = λ test h. first_more _ _ (c.loop-k.invariant test h) (sym (h _ _ c.stops.ensures) ∙ c.if-stops.false)
