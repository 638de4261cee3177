use mathlib.Core.Path.{sym, ap, ◌∙◌}
use Rattle.std.specs.Prelude.{Ok}
use Rattle.why_page.proofs.Paged.{pass_answered, pass_reach, fail_answered, rowed}
use borrow.Author.Rules.{rules}
use Rattle.why_page.proofs.put_paged.Goals as goal

pub put_passing-requires : goal.put_passing-requires
put_passing-requires c = let e = sym c.requires.0.answer ∙ ap Ok c.in-Pass.is in ((pass_answered _ _ _ _ _ _ _ e).from_1, pass_reach _ _ _ _ _ _ _ e, search rules)

pub put_failing-requires : goal.put_failing-requires
put_failing-requires c = let e = sym c.requires.0.answer ∙ ap Ok c.in-Fail.is in ((fail_answered _ _ _ _ _ _ _ _ _ e).from_1, rowed _ _ _ _ _ _ _ _ _ (rw c.in-Fail.is at c.requires.0), search rules)
