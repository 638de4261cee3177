use Rattle.share_plan.proofs.Laws.{parts-front, tasks-front, answer-edition, answer-tables, answer-unread}
use lib.Seq.{length-take-le}
use mathlib.Core.Path.{refl, sym, ◌∙◌}
use borrow.Author.Rules.{rules}
use Rattle.share_plan.proofs.plan.Goals as goal

pub returns-then-not-good_edition : goal.returns-then-not-good_edition
returns-then-not-good_edition c = record { plans = answer-edition _ _ _ (sym c.good_edition.ensures ∙ c.if-not-good_edition.true) c.put_unread.ensures.0; fits = search rules }

pub slice_bounds-parts-end : goal.slice_bounds-parts-end
slice_bounds-parts-end c = (parts-front _ _ _ _ _ _ _ refl c.read-read.ensures.0 c.read-read.ensures.1 c.in-Ok.is).0

pub slice_bounds-tasks-end : goal.slice_bounds-tasks-end
slice_bounds-tasks-end c = (tasks-front _ _ _ _ _ _ _ refl c.read-read.ensures.0 c.read-read.ensures.2 c.in-Ok.is).0

pub returns-in-Ok : goal.returns-in-Ok
returns-in-Ok c = let f = parts-front _ _ _ _ _ _ _ refl c.read-read.ensures.0 c.read-read.ensures.1 c.in-Ok.is in let g = tasks-front _ _ _ _ _ _ _ refl c.read-read.ensures.0 c.read-read.ensures.2 c.in-Ok.is in record { plans = answer-tables _ (sym c.good_edition.ensures ∙ c.if-not-good_edition.false) _ _ _ _ _ _ c.read-read.ensures.0 c.in-Ok.is f.1 g.1 c.put_file_or_line.ensures.0; fits = c.put_file_or_line.ensures.1 }

pub slice_bounds-put_file_or_line-end : goal.slice_bounds-put_file_or_line-end
slice_bounds-put_file_or_line-end c = sym (length-take-le _ _ (parts-front _ _ _ _ _ _ _ refl c.read-read.ensures.0 c.read-read.ensures.1 c.in-Ok.is).0)

pub slice_bounds-put_file_or_line-end-in-Ok : goal.slice_bounds-put_file_or_line-end-in-Ok
slice_bounds-put_file_or_line-end-in-Ok c = sym (length-take-le _ _ (tasks-front _ _ _ _ _ _ _ refl c.read-read.ensures.0 c.read-read.ensures.2 c.in-Ok.is).0)

pub returns-in-Err-clause-plans : goal.returns-in-Err-clause-plans
returns-in-Err-clause-plans c = answer-unread _ (sym c.good_edition.ensures ∙ c.if-not-good_edition.false) _ _ _ c.in-Err.unread c.read-read.ensures.0 c.in-Err.is c.put_unread-in-Err.ensures.0
