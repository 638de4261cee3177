use mathlib.Core.Path.{sym, ◌∙◌}
use Rattle.tables.proofs.Chain.{tables_2, tables_on}
use Rattle.tables.proofs.judge_tables.Goals as goal

pub returns-then-not-good_edition : goal.returns-then-not-good_edition
returns-then-not-good_edition c = tables_2 _ _ _ _ (sym c.good_edition.ensures ∙ c.if-not-good_edition.true)

pub returns : goal.returns
returns c = c.judge_in_edition.ensures ∙ tables_on _ _ _ _ (sym c.good_edition.ensures ∙ c.if-not-good_edition.false)
