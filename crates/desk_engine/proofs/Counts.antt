-- Counts that go down, and sums within 32 bits. Assumes nothing.
use Prim.Native.Nat.{ℕ, suc, ◌+◌, ◌-◌, ◌≤◌}
use mathlib.Core.Path.{◌≡◌}
use mathlib.Core.Bool.{true}
use native.Mathlib.Omega.{arith}
use lib.Dec.{ltb}
use borrow.Author.Tests.{lt-ltb}
use Rattle.desk_records.specs.Sums.{most32, sum_to}

pub some_more : (n : ℕ) → ltb 0 (suc n) ≡ true
some_more n = lt-ltb 0 (suc n) (omega arith)

pub one_less : (n : ℕ) → suc n - 1 ≡ n
one_less n = omega arith

pub sum_is : (x y : ℕ) → x + y ≤ most32 → sum_to x y ≡ x + y
sum_is x y h = omega (arith, h)
