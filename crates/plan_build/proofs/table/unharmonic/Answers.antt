use Rattle.std.proofs.Common.{rules, ◌≡◌, false, IfSome, Some}
use Rattle.std.specs.Option.{option_map}
use Rattle.std.proofs.iter.runs.Sources.{ranges}
use Rattle.theory.proofs.Ranges.{at_place, any_some}
use Rattle.plan_build.specs.Build.{unharmonic}
use Rattle.plan_build.specs.Inner.{clashes}
use Rattle.plan_build.proofs.table.unharmonic.Goals as goal

pub returns : goal.returns
unfolding unharmonic
returns c = any_some (clashes c.args.parts.now) _ _ (λ e. search (rules, ranges)) (λ e k l.
    let item = c.any.ensures.runs.0.at k in
    let none : IfSome item (λ x. clashes c.args.parts.now x ≡ false) = search (rules, ranges) in
    let is : option_map (λ y. y) item ≡ Some k = search (rules, ranges) in
    at_place _ _ _ none is)
