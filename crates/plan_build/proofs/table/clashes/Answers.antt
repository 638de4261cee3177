use Rattle.std.proofs.Common.{rules, ◌≡◌, false, IfSome, Some}
use Rattle.std.specs.Option.{option_map}
use Rattle.std.proofs.iter.runs.Sources.{ranges}
use Rattle.rules.specs.Walk.{fails}
use Rattle.theory.specs.Harmonic.{pairs}
use Rattle.theory.proofs.Ranges.{at_place, any_some}
use Rattle.plan_build.proofs.table.clashes.Goals as goal

pub returns : goal.returns
returns c = any_some _ _ _ (λ e. search (rules, ranges)) (λ e j l.
    let item = c.any.ensures.runs.0.at j in
    let none : IfSome item (λ x. fails (pairs c.args.parts.now c.args.k) x ≡ false) = search (rules, ranges) in
    let is : option_map (λ y. y) item ≡ Some j = search (rules, ranges) in
    at_place _ _ _ none is)
