use Prim.Native.Nat.{ℕ, max}
use mathlib.Core.Path.{◌≡◌, sym, ap, ◌∙◌}
use Rattle.rules.specs.Table.{cycle}
use Rattle.rules.proofs.Least.{largest-zero, largest_more}
use borrow.Author.Rules.{rules}
use Rattle.plan_build.proofs.table.frame.Goals as goal

pub loop-k-init : goal.loop-k-init
loop-k-init c = (search rules, sym (largest-zero _))

pub loop-k-preserved : goal.loop-k-preserved
loop-k-preserved c =
    let e : c.max-h.result ≡ max c.loop-k.h (cycle c.args.parts.now c.loop-k.k) = search rules in
    (search rules, e ∙ ap (λ (x : ℕ). max x (cycle c.args.parts.now c.loop-k.k)) c.loop-k.invariant.1 ∙ sym (largest_more _ _))
