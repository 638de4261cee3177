-- Words that only proofs use, and a test as a number. Assumes nothing.
use mathlib.Core.Bool.{Bool, true, false}
use mathlib.Core.Path.{◌≡◌}
use mathlib.Core.List.{List}
use Prim.Native.Nat.{ℕ, ◌+◌, ◌≤◌}
use native.Mathlib.Omega.{arith}
use lib.Dec.{eqb}
use mir.Val.{bool_byte}
use Rattle.rules.specs.Walk.{only}
use Rattle.theory.specs.Harmonic.{rank}

-- whether tick s + k is p's
abbrev pub owns_from : (ℕ → ℕ) → ℕ → ℕ → ℕ → Bool
owns_from o p s k = eqb (o (s + k)) p

-- place k is taken after r others
abbrev pub ranked : List ℕ → ℕ → ℕ → Bool
ranked ps r k = eqb (rank ps k) r

-- a test as a number, as the code converts it
pub from_only : {r : ℕ} {b t : Bool} → r ≡ bool_byte b → b ≡ t → r ≡ only t 1
unfolding only
from_only {b = true} e f = rw (← f) e
from_only {b = false} e f = rw (← f) e

pub from_small : {r : ℕ} (b : Bool) → r ≡ bool_byte b → r ≤ 1
from_small true e = omega arith
from_small false e = omega arith
