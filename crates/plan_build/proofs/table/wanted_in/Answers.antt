use Prim.Native.Nat.{◌+◌, ◌*◌}
use native.Mathlib.Omega.{arith}
use Rattle.rules.specs.Limits.{part_width}
use Rattle.rules.specs.Terms.{wanted}
use Rattle.plan_build.proofs.Sizes.{wanted_in-small, wanted_in_is}
use borrow.Author.Rules.{rules}
use Rattle.plan_build.proofs.table.wanted_in.Goals as goal

pub overflow_mul-result : goal.overflow_mul-result
overflow_mul-result c = let k = c.args.k in
    let small = c.type_inv.parts in
    let s = wanted_in-small _ _ _ _ _ c.args.h c.from.result (search rules) (omega (arith, small (part_width * k + 0))) (omega (arith, small (part_width * k + 1))) (omega (arith, small (part_width * k + 2))) (search rules) c.wanted.ensures in
    omega (arith, s)

pub returns : goal.returns
returns c = let a = c.args in
    let k = a.k in
    let small = c.type_inv.parts in
    let s = wanted_in-small _ _ _ _ _ c.args.h c.from.result (search rules) (omega (arith, small (part_width * k + 0))) (omega (arith, small (part_width * k + 1))) (omega (arith, small (part_width * k + 2))) (search rules) c.wanted.ensures in
    (s, wanted_in_is (wanted a.terms a.parts.now) a.parts.now a.h k _ c.cycle-m.ensures _ _ c.from.ensures c.wanted.ensures)
