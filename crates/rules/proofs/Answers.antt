-- Answers of two kinds are never the same. Assumes nothing.
use mathlib.Core.Path.{◌≡◌}
use Prim.Native.Nat.{ℕ}
use native.Mathlib.Omega.{arith}
use Rattle.rules.specs.declared.Refusal.{Refusal}
use Rattle.std.specs.Prelude.{Ok, Err}

-- a refusal is no filling
pub no_filling : (n : ℕ) (x : Refusal) → ¬ (Err x ≡ Ok n)
no_filling n x e = let z : ◌≡◌ {A = ℕ} 0 1 = cc in absurd (omega arith)
