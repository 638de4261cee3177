-- What the table's tests give. Assumes nothing.
use Prim.Native.Nat.{ℕ, ◌+◌, ◌-◌, ◌≤◌}
use mathlib.Core.Path.{◌≡◌, refl}
use mathlib.Core.Bool.{true}
use mathlib.Core.List.{List, [], ◌∷◌, ◌++◌}
use native.Mathlib.Omega.{arith}
use lib.Dec.{leb, eqb}
use lib.ListN.{length, take, drop, replicate, length-drop}
use lib.Seq.{length-take-le}
use borrow.Author.Tests.{leb-true, eqb-true}
use Rattle.rules.specs.Limits.{places, latest}
use Rattle.rules.proofs.Tests.{and_parts}
use Rattle.desk.specs.declared.Job.{Job}
use Rattle.desk.specs.Table.{none, ordered, zeros, all_zeros, right_x, x_of, table_ok, desk_ok, refit, flexes, filled}
use Rattle.desk.specs.Request.{numbers_ok}

pub x_of-le : (j : Job) (ks : List Job) → x_of j ks ≤ j.deadline - j.start - j.budget
x_of-le j [] = omega arith
x_of-le j (k ∷ ks) = omega arith

-- what the table rules give, one by one
pub record Listed (n : ℕ) (l : List Job) : Type 0 where
  pub whole : length l ≡ places
  pub few : n ≤ places
  pub order : ordered 0 (take n l) ≡ true
  pub past : all_zeros (drop n l) ≡ true

pub listed_of : (n : ℕ) (l : List Job) → table_ok n l ≡ true → Listed n l
listed_of n l h =
    let two = (and_parts (eqb (length l) places) _ h).1 in
    let three = (and_parts (leb n places) _ two).1 in
    record {
      whole = eqb-true _ _ (and_parts _ _ h).0;
      few = leb-true n places (and_parts _ _ two).0;
      order = (and_parts _ _ three).0;
      past = (and_parts (ordered 0 (take n l)) _ three).1;
    }

pub desk_table : (clock n : ℕ) (l : List Job) → desk_ok clock n l ≡ true → table_ok n l ≡ true
desk_table clock n l h = (and_parts _ (right_x (take n l)) (and_parts (leb clock latest) _ h).1).0

pub desk_right : (clock n : ℕ) (l : List Job) → desk_ok clock n l ≡ true → right_x (take n l) ≡ true
desk_right clock n l h = (and_parts (table_ok n l) _ (and_parts (leb clock latest) _ h).1).1

pub numbers-small : (t c d : ℕ) → numbers_ok t c d ≡ true → (1 ≤ c) × (d ≤ latest) × (t ≤ latest)
numbers-small t c d h =
    let one = and_parts (leb 1 c) _ h in
    let two = and_parts (leb d latest) _ (and_parts (leb c latest) _ one.1).1 in
    (leb-true 1 c one.0, leb-true d latest two.0, leb-true t latest two.1)

zeros_is : (j : Job) → zeros j ≡ true → j ≡ none
zeros_is j h =
    let h1 = (and_parts (eqb j.start 0) _ h).1 in
    let h2 = (and_parts (eqb j.budget 0) _ h1).1 in
    let a : j.start ≡ 0 = eqb-true _ _ (and_parts _ _ h).0 in
    let c : j.budget ≡ 0 = eqb-true _ _ (and_parts _ _ h1).0 in
    let d : j.deadline ≡ 0 = eqb-true _ _ (and_parts _ _ h2).0 in
    let x : j.flex ≡ 0 = eqb-true _ _ (and_parts (eqb j.deadline 0) _ h2).1 in
    λ i. record { start = a i; budget = c i; deadline = d i; flex = x i }

all_none : (js : List Job) → all_zeros js ≡ true → js ≡ replicate (length js) none
all_none [] h = refl
all_none (j ∷ js) h =
    let e = zeros_is j (and_parts _ _ h).0 in
    let r = all_none js (and_parts (zeros j) _ h).1 in
    λ i. e i ∷ r i

pub length-refit : (js ks : List Job) → length (refit js ks) ≡ length js + length ks
length-refit [] ks = omega arith
length-refit (j ∷ js) ks = omega (arith, length-refit js ks)

-- the listed jobs with their own x, in front of what a sound table has past them
pub opened_is : (n : ℕ) (l : List Job) → table_ok n l ≡ true → flexes (take n l) ++ drop n l ≡ filled (flexes (take n l))
opened_is n l h =
    let t = listed_of n l h in
    let fits : n ≤ length l = omega (arith, t.whole, t.few) in
    let past : drop n l ≡ replicate (length (drop n l)) none = all_none (drop n l) t.past in
    let left : length (drop n l) ≡ places - length (flexes (take n l)) =
    omega (arith, length-drop n l, length-refit (take n l) [], length-take-le n l fits, t.whole) in
    rw (past, left)
