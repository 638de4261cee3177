use Rattle.share_plan.proofs.Laws.{built_front, laid_out, not_laid}
use lib.Seq.{length-take-le}
use Rattle.std.proofs.Common.{◌≡◌, Err, rules, refl, sym, ◌∙◌}
use Rattle.share_plan.proofs.plan_file.write_built.Goals as goal

pub slice_bounds-plan-end : goal.slice_bounds-plan-end
slice_bounds-plan-end c = (built_front _ _ _ _ _ _ refl c.build.ensures.0 c.build.ensures.1 c.in_ok-h.was).inside

pub slice_bounds-write_checked-end : goal.slice_bounds-write_checked-end
slice_bounds-write_checked-end c = sym (length-take-le _ _ (built_front _ _ _ _ _ _ refl c.build.ensures.0 c.build.ensures.1 c.in_ok-h.was).inside)

pub returns : goal.returns
returns c = laid_out _ _ _ _ (built_front _ _ _ _ _ _ refl c.build.ensures.0 c.build.ensures.1 c.in_ok-h.was) c.write_checked.ensures.0 c.write_checked.ensures.1

pub returns-in_err-h : goal.returns-in_err-h
returns-in_err-h c = let e : c.from_residual.result ≡ Err c.in_err-h.field-0.0 = search rules in rw e (not_laid _ _ _ _ _ (sym c.build.ensures.0 ∙ c.in_err-h.was), refl)
