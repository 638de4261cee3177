-- With no job dropped nothing moves. Assumes nothing.
use Prim.Native.Nat.{ℕ, ◌-◌}
use mathlib.Core.Path.{◌≡◌, ap, ◌∙◌}
use mathlib.Core.List.{List, ◌++◌, append-nil}
use native.Mathlib.Omega.{arith}
use lib.ListN.{length, drop}
use lib.Seq.{drop-length}
use Rattle.desk.specs.declared.Job.{Job}
use Rattle.desk_records.specs.Folds.{moved_up}

pub moved_none : (l : List Job) → moved_up 0 l ≡ l
unfolding moved_up
moved_none l =
    let e : length l - 0 ≡ length l = omega arith in
    ap (λ (m : ℕ). l ++ drop m l) e ∙ ap (λ (r : List Job). l ++ r) (drop-length l) ∙ append-nil l
