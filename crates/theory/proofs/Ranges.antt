-- What a chain over the numbers below n says of the walks of `rules`. Assumes nothing.
use Prim.Native.Nat.{ℕ, ◌<◌}
use mathlib.Core.Path.{◌≡◌, refl, sym, subst}
use mathlib.Core.Bool.{Bool, true, false}
use native.Mathlib.Omega.{arith}
use borrow.Author.Tests.{le-ltb}
use Rattle.std.specs.Prelude.{Option, Some, None, IfSome}
use Rattle.std.specs.Option.{option_map}
use Rattle.rules.specs.Walk.{some}
use Rattle.rules.proofs.First.{first-none, some_at}

-- what holds of the item at a place, where that item is known
pub at_place : (o : Option ℕ) (x : ℕ) (P : ℕ → Type 0) → IfSome o P → option_map (λ y. y) o ≡ Some x → P x
at_place (Some y) x P h e = let z : y ≡ x = cc in subst P z h
at_place None x P h e = let z : ◌≡◌ {A = ℕ} 0 1 = cc in absurd (omega arith)

-- `any`: it answers that one passes, or that none does
pub any_some : (p : ℕ → Bool) (n : ℕ) (b : Bool) → (b ≡ true → (k : ℕ) × (k < n) × (p k ≡ true)) → (b ≡ false → (k : ℕ) → k < n → p k ≡ false) → b ≡ some p n
any_some p n true hit none = let w = hit refl in sym (some_at p n w.0 w.1 w.2)
any_some p n false hit none = rw (first-none p n (none refl)) (sym (le-ltb n n (omega arith)))
