-- By the lists: how many points, and the tightest of them. Assumes nothing.
use Prim.Native.Nat.{ℕ, ◌+◌, ◌≤◌}
use mathlib.Core.Path.{◌≡◌, refl, sym, ◌∙◌}
use mathlib.Core.Bool.{Bool, true, false, ◌&&◌}
use Rattle.std.specs.Int.{from_bool}
use mathlib.Core.List.{List}
use native.Mathlib.Omega.{arith}
use lib.Dec.{leb}
use borrow.Author.Tests.{le-leb, lt-leb}
use Rattle.rules.specs.Walk.{pick, only, count, first_least}
use Rattle.rules.proofs.Sum.{count-zero, count_more}
use Rattle.rules.proofs.FirstLeast.{FirstFrom, from_end, from_more, from_all, first-least_is}
use Rattle.task_points.specs.Inner.{point_at}
use Rattle.task_points.proofs.Points.{at_deadline}
use Rattle.task_page.specs.Inner.{point_in, short_in}

-- a test as a number
as_only : (b : Bool) → from_bool b ≡ only b 1
unfolding only
as_only true = refl
as_only false = refl

module _ (asks : List ℕ) (d : ℕ) where
  none_at_0 : point_in asks d 0 ≡ false
  unfolding point_in
  none_at_0 = rw (lt-leb 1 0 (omega arith))

  from_1 : (t : ℕ) → 1 ≤ t → point_in asks d t ≡ point_at asks d t
  unfolding point_in
  from_1 t l = rw (le-leb 1 t l)

  pub count_1 : 0 ≡ count (point_in asks d) 1
  unfolding only
  count_1 = sym (count_more (point_in asks d) 0 ∙ rw (count-zero (point_in asks d), none_at_0))

  pub count_turn : (n m t : ℕ) (b : Bool) → 1 ≤ t → n ≡ count (point_in asks d) t → b ≡ point_at asks d t → m ≡ from_bool b → n + m ≡ count (point_in asks d) (t + 1)
  count_turn n m t b l en eb em = rw (count_more (point_in asks d) t, from_1 t l, ← eb, ← en, em, as_only b)

  module _ (curve : List ℕ) (c : ℕ) where
    pub tight_end : 1 ≤ d → FirstFrom (point_in asks d) (short_in curve asks c) d (d + 1) d
    tight_end l = from_end (point_in asks d) (short_in curve asks c) d (from_1 d l ∙ sym (at_deadline asks d d refl))

    pub tight-turn : (t s n best r : ℕ) → 1 ≤ t → s ≡ t + 1 → FirstFrom (point_in asks d) (short_in curve asks c) s n best
        → r ≡ pick (point_at asks d t && leb (short_in curve asks c t) (short_in curve asks c best)) t best → FirstFrom (point_in asks d) (short_in curve asks c) t n r
    tight-turn t s n best r l e w er = from_more _ _ t s n best r e w (rw (from_1 t l) er)

    pub tight-all : (t n best : ℕ) → t ≡ 1 → FirstFrom (point_in asks d) (short_in curve asks c) t n best → best ≡ first_least (point_in asks d) (short_in curve asks c) n
    tight-all t n best e w = sym (first-least_is _ _ n best (from_all _ _ n best none_at_0 (rw e at w)))
