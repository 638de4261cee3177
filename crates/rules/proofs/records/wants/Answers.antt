use mathlib.Core.Path.{◌≡◌, sym, ◌∙◌}
use mathlib.Core.Logic.{◌⊎◌, inl, inr}
use native.Mathlib.Nat.{div-zero, mul-zero, zero-mul}
use native.Mathlib.Omega.{arith}
use Prim.Native.Nat.{ℕ, ◌*◌, ◌≤◌, ◌<◌}
use Rattle.rules.specs.Walk.{round_up}
use Rattle.rules.specs.Table.{wants}
use Rattle.rules.proofs.Sum.{le-or-lt}
use Rattle.rules.proofs.Round.{round_round}
use borrow.Author.Rules.{rules}
use Rattle.rules.proofs.records.wants.Goals as goal

-- rounded up to a whole number first
in_two : (g m n d : ℕ) → 0 < d → round_up (round_up (n * m) d) g * g ≡ wants g m n d
unfolding wants
in_two g m n d h = go (le-or-lt g 0)
  where
    go : (g ≤ 0) ⊎ (0 < g) → round_up (round_up (n * m) d) g * g ≡ round_up (n * m) (d * g) * g
    go (inl l) = let z : g ≡ 0 = omega arith in rw z (mul-zero _ ∙ sym (mul-zero _))
    go (inr l) = rw (round_round (n * m) d g h l)

pub returns-then-den-eq0 : goal.returns-then-den-eq0
unfolding wants round_up
returns-then-den-eq0 c = rw (c.if-den-eq0.true, zero-mul, div-zero) (sym (zero-mul _))

pub returns : goal.returns
unfolding round_up
returns c = c.up_to_granule.ensures
    ∙ rw (c.from.ensures, c.from-2.ensures, c.from-3.ensures, c.from-4.ensures) (in_two _ _ _ _ (search rules))
