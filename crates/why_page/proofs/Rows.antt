-- The rows of a page one by one, as lines. Assumes nothing.
use Prim.Native.Nat.{ℕ, zero, suc, ◌+◌, ◌*◌, ◌≤◌, ◌<◌}
use mathlib.Core.Path.{◌≡◌, refl, sym}
use mathlib.Core.Bool.{Bool, true, false}
use mathlib.Core.List.{List, ◌++◌}
use native.Mathlib.Nat.{add-zero}
use native.Mathlib.Numerals.{add-one}
use native.Mathlib.Omega.{arith}
use lib.ListN.{length, get_or-append}
use Rattle.rules.specs.Limits.{row_width}
use Rattle.rules.specs.Walk.{count, gathered}
use Rattle.rules.specs.Table.{field_at, deadline}
use Rattle.rules.specs.declared.Rule.{Rule}
use Rattle.rules.proofs.First.{gathered_ext}
use Rattle.rules.proofs.Sum.{count-zero, count_more, only_false, only_self}
use Rattle.theory.specs.Load.{point}
use Rattle.theory.specs.Task.{task_load}
use Rattle.theory.proofs.Tightest.{point-within}
use Rattle.task_page.specs.Page.{rows_of, points_of}
use Rattle.task_page.proofs.Rows.{rows-length}
use Rattle.task_page.proofs.Listed.{At, listed}
use Rattle.why_page.specs.Why.{line_of}
use Rattle.why_page.specs.Theorems.{point_line, LineForEach}
use Rattle.why_page.proofs.Lines.{line_is}

pub point_in_time : (ts : List ℕ) (i t : ℕ) → point (task_load ts) i t ≡ true → t ≤ deadline ts i
unfolding task_load
point_in_time ts i t e = omega (arith, (point-within (task_load ts) i t e).1)

module _ (rule : Rule) (plan ts : List ℕ) (i : ℕ) where
  pub rows_long : length (rows_of rule plan ts i) ≡ row_width * points_of ts i
  unfolding rows_of points_of
  rows_long = rows-length rule plan ts i (suc (deadline ts i))

  -- the line of a row that is the point t's
  at_line : (u k t : ℕ) → At rule plan ts i t k (rows_of rule plan ts i) → line_of u (rows_of rule plan ts i) k ≡ point_line rule plan ts i u t
  at_line u k t a = sym (line_is u k (rows_of rule plan ts i) _ _ _ _ (sym a.first) (sym a.second) (sym a.third) (sym a.fourth))

  pub line_for_each : (u : ℕ) → LineForEach rule plan ts i u
  unfolding points_of rows_of
  line_for_each u =
      let w = listed rule plan ts i (suc (deadline ts i)) in
      record {
        line = λ k l.
            let r = w.row k l in
            let z : field_at row_width (rows_of rule plan ts i) k 0 ≡ r.0 = rw (add-zero (row_width * k)) r.3.first in
            rw z (r.2, at_line u k r.0 r.3);
        rising = λ j k l h. rw (add-zero (row_width * j), add-zero (row_width * k)) (w.rising j k l h);
        each_point = λ t e.
            let r = w.each t (omega (arith, point_in_time ts i t e)) e in
            (r.0, r.1, rw (add-zero (row_width * r.0)) r.2);
      }

-- ---- rows in front of other numbers

number_front : (rows rest : List ℕ) (k n f : ℕ) → length rows ≡ row_width * n → k < n → f < row_width → field_at row_width (rows ++ rest) k f ≡ field_at row_width rows k f
number_front rows rest k n f e l h = get_or-append rows rest 0 (row_width * k + f) (omega arith)

pub lines-front : (u : ℕ) (rows rest : List ℕ) (n : ℕ) → length rows ≡ row_width * n → gathered (line_of u (rows ++ rest)) n ≡ gathered (line_of u rows) n
unfolding line_of
lines-front u rows rest n e =
    gathered_ext n _ _ (λ k l. rw (number_front rows rest k n 0 e l (omega arith), number_front rows rest k n 1 e l (omega arith), number_front rows rest k n 2 e l (omega arith), number_front rows rest k n 3 e l (omega arith)))

-- ---- how many

-- of the numbers up to n, where 0 does not pass
count-few : (p : ℕ → Bool) → p 0 ≡ false → (n : ℕ) → count p (suc n) ≤ n
count-few p e zero = rw (count_more p 0) (omega (arith, count-zero p, only_false (p 0) 1 e))
count-few p e (suc n) = rw (← add-one (suc n), count_more p (suc n)) (omega (arith, count-few p e n, only_self (p (suc n)) 1))

no_point_0 : (ts : List ℕ) (i : ℕ) → point (task_load ts) i 0 ≡ false
unfolding point
no_point_0 ts i = refl

pub points_few : (ts : List ℕ) (i : ℕ) → points_of ts i ≤ deadline ts i
unfolding points_of
points_few ts i = count-few (point (task_load ts) i) (no_point_0 ts i) (deadline ts i)
