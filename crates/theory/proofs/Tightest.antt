-- The supplier's page: the lowest worst start, and the tightest point. Assumes nothing.
use Prim.Native.Nat.{ℕ, suc, ◌≤◌, ◌<◌}
use mathlib.Core.Path.{◌≡◌, refl}
use mathlib.Core.Bool.{true, ◌&&◌, ◌||◌}
use native.Mathlib.Omega.{arith}
use lib.Dec.{eqb, leb}
use lib.ListN.{length}
use borrow.Author.Tests.{le-leb, leb-true, eq-eqb, eqb-true, eqb-false}
use Rattle.rules.specs.Walk.{some}
use Rattle.rules.proofs.First.{first-upto, first_at, first-before}
use Rattle.rules.proofs.FirstLeast.{first-least_has}
use Rattle.rules.proofs.Tests.{and_parts}
use Rattle.theory.specs.Plan.{held, least, worst, worst_start}
use Rattle.theory.specs.Load.{Load, last_point, multiple, point, shortage, tightest}
use Rattle.theory.specs.Theorems.{WorstStartLowest, TightestSo}
use Rattle.theory.proofs.Plan.{least_is_least, least_attained}

pub worst_start_lowest : WorstStartLowest
unfolding worst_start worst
worst_start_lowest rule plan p t h =
    let a = least_attained rule plan p t h in
    let inside : worst_start rule plan p t < length plan = omega (arith, first-upto (worst rule plan p t) (length plan) a.0 (eq-eqb _ _ a.2), a.1) in (
      inside,
      eqb-true _ _ (first_at (worst rule plan p t) (length plan) inside),
      λ s l.
          let more : ¬ (held rule plan p t s ≡ least rule plan p t) = eqb-false _ _ (first-before (worst rule plan p t) (length plan) s l) in
          let low = least_is_least rule plan p t s h in
          omega arith,
    )

pub last_is_point : (L : Load) (i : ℕ) → 1 ≤ last_point L i → point L i (last_point L i) ≡ true
unfolding point
last_is_point L i h = rw (le-leb 1 (last_point L i) h, le-leb (last_point L i) (last_point L i) (omega arith), eq-eqb (last_point L i) (last_point L i) refl)

pub point-within : (L : Load) (i t : ℕ) → point L i t ≡ true → (1 ≤ t) × (t ≤ last_point L i)
unfolding point
point-within L i t e =
    let a = and_parts (leb 1 t) (leb t (last_point L i)) (and_parts (leb 1 t && leb t (last_point L i)) (eqb t (last_point L i) || some (multiple L i t) i) e).0 in
    (leb-true 1 t a.0, leb-true t (last_point L i) a.1)

pub tightest_so : TightestSo
unfolding tightest
tightest_so L low i h =
    let w = first-least_has (point L i) (shortage L low i) (suc (last_point L i)) (last_point L i) (omega arith) (last_is_point L i h) in
    record {
      a_point = w.passes;
      smallest = λ u e. w.smallest u (omega arith) (omega (arith, (point-within L i u e).1)) e;
      lowest = λ u l e. w.lower u (omega arith) l e;
    }
