-- Words that only inner contracts use: no statement and no entry's contract cites them. Assumes nothing.
use Rattle.std.specs.Prelude.{ℕ, ◌+◌, ◌%◌, ◌≤◌, ◌<◌, min, ◌≡◌, ◌&&◌, not, List, eqb, length, get_or, take}
use Rattle.rules.specs.Walk.{pick}
use Rattle.rules.specs.Inner.{AsNamed}
use Rattle.rules.specs.declared.Rule.{Rule}
use Rattle.theory.specs.Plan.{service, held}
use Rattle.plan_curve.specs.Curve.{start_tried}

-- how many of t ticks of a plan with f can serve p at most; of an empty one every tick is idle
unfoldable pub most : ℕ → ℕ → ℕ → ℕ
most f p t = pick (eqb f 0 && not (eqb p 0)) 0 t

-- number t of a list, lowered to what t ticks from tick s on hold
unfoldable pub lower_from : Rule → List ℕ → ℕ → ℕ → List ℕ → ℕ → ℕ
lower_from rule plan p s list t = min (get_or list t 0) (held rule plan p t s)

-- what a row does: a list of which the first b numbers are so lowered has then e lowered
pub record LoweredOn (rule : Rule) (plan : List ℕ) (p s b e : ℕ) (from to : List ℕ) : Type 0 where
  pub goes_on : (before : List ℕ) → AsNamed (lower_from rule plan p s before) b before from → AsNamed (lower_from rule plan p s before) e before to

-- number t lowered, where s is a start that counts
unfoldable pub lower_at : Rule → List ℕ → ℕ → ℕ → List ℕ → ℕ → ℕ
lower_at rule plan p s list t = pick (start_tried rule plan p s) (lower_from rule plan p s list t) (get_or list t 0)

-- n numbers go no further than a frame of f and one tick, where there is a frame
abbrev pub Framed : ℕ → ℕ → Type 0
Framed f n = 0 < f → n ≤ f + 1

-- as far as p is concerned the frame is some rounds of m ticks (none but the empty frame is rounds of 0); and a round by itself, whose last tick then
-- stands before its first, serves p in its first tick just if the frame does
pub record Repeats (rule : Rule) (plan : List ℕ) (p m : ℕ) : Type 0 where
  pub whole : length plan % m ≡ 0
  pub some : 0 < length plan → 0 < m
  pub first : eqb (service rule (take m plan) 0) p ≡ eqb (service rule plan 0) p
  pub again : (k : ℕ) → k + m < length plan → eqb (service rule plan (k + m)) p ≡ eqb (service rule plan k) p
