-- What a stretch holds, from two or three of the partition's numbers. Assumes nothing.
use Prim.Native.Nat.{ℕ, ◌+◌, ◌-◌, ◌≤◌}
use mathlib.Core.Path.{◌≡◌, sym, ap, ◌∙◌}
use mathlib.Core.List.{List}
use native.Mathlib.Nat.{mod_self}
use native.Mathlib.Omega.{arith}
use lib.ListN.{length, get_or}
use Rattle.rules.specs.declared.Rule.TheVariants.{Own}
use Rattle.theory.specs.Plan.{service, held}
use Rattle.theory.proofs.Plan.{held_around}
use Rattle.theory.proofs.Need.{owned_split}
use Rattle.counts.specs.Counts.{row_of}
use Rattle.counts.specs.Inner.{Kept}

-- a number of the row
pub look_at : (plan list : List ℕ) (p k row v : ℕ) → Kept plan list p → k ≤ length plan → row ≡ row_of plan p → v ≡ get_or list (row + k) 0 → v ≡ held Own plan p k 0
look_at plan list p k row v kept l er ev = ev ∙ rw er (kept.counts k l)

module _ (plan : List ℕ) (p s n : ℕ) where
  -- before the stretch and in it
  pub within : held Own plan p (s + n) 0 ≡ held Own plan p s 0 + held Own plan p n s
  within = let z : 0 + s ≡ s = omega arith in owned_split (service Own plan) p 0 s n ∙ rw z

  -- across the frame's end: the rest of the frame, and the ticks from the next one's start
  pub across : s ≤ length plan → length plan ≤ s + n → held Own plan p n s + held Own plan p s 0 ≡ held Own plan p (length plan) 0 + held Own plan p (s + n - length plan) 0
  across l m = omega (arith, behind (s + n - length plan) (omega arith), within)
    where
      behind : (r : ℕ) → s + n ≡ length plan + r → held Own plan p (s + n) 0 ≡ held Own plan p (length plan) 0 + held Own plan p r 0
      behind r e =
          let z : 0 + length plan ≡ length plan = omega arith in
          let w : held Own plan p r (length plan) ≡ held Own plan p r 0 = sym (held_around Own plan p r (length plan)) ∙ ap (λ (x : ℕ). held Own plan p r x) (mod_self (length plan)) in
          rw e (owned_split (service Own plan) p 0 (length plan) r ∙ rw (z, w))

-- counts grow towards the frame's end
pub upto : (plan : List ℕ) (p s : ℕ) → s ≤ length plan → held Own plan p s 0 ≤ held Own plan p (length plan) 0
upto plan p s l = let e : s + (length plan - s) ≡ length plan = omega arith in rw (← e) (omega (arith, within plan p s (length plan - s)))
