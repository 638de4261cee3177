-- The lowest tick that passes a test, and the first tick of the walk that the rules are stated by. Assumes nothing.
use Prim.Native.Nat.{ℕ, zero, suc, ◌+◌, ◌≤◌, ◌<◌}
use mathlib.Core.Path.{◌≡◌}
use mathlib.Core.Bool.{Bool, true, false}
use native.Mathlib.Omega.{arith}
use borrow.Author.Tests.{le-leb, lt-leb}
use Rattle.std.specs.Prelude.{Option, None, Some}
use Rattle.rules.specs.Walk.{first}
use Rattle.rules.proofs.First.{first_found, first-none}
use Rattle.task_demand.specs.Inner.{Earliest, in_time}

module _ (test : ℕ → Bool) (none_at_0 : test 0 ≡ false) where
  -- one at 0 is refused, so that the walk from 0 finds the same
  below : (n : ℕ) → ((u : ℕ) → 1 ≤ u → u < n → test u ≡ false) → (u : ℕ) → u < n → test u ≡ false
  below n h zero l = none_at_0
  below n h (suc u) l = h (suc u) (omega arith) l

  pub earliest_is : (Answers : ℕ → Bool → Type 0) (d : ℕ) (r : Option ℕ) → Earliest Answers d r → ((t : ℕ) (b : Bool) → 1 ≤ t → t ≤ d → Answers t b → test t ≡ b) → r ≡ in_time d (first test (d + 1))
  unfolding Earliest in_time
  earliest_is Answers d (Some t) (one, l, here, before) tells =
      let e : first test t ≡ t = first-none test t (below t (λ u k h. tells u false k (omega arith) (before u k h))) in
      let f : first test (d + 1) ≡ t = first_found test (d + 1) t (omega arith) e (tells t true one l here) in
      rw (f, le-leb t d l)
  earliest_is Answers d None none tells =
      let f : first test (d + 1) ≡ d + 1 = first-none test (d + 1) (below (d + 1) (λ u k h. tells u false k (omega arith) (none u k (omega arith)))) in
      rw (f, lt-leb (d + 1) d (omega arith))

pub in_time_of : (d e t u : ℕ) → d ≡ e → t ≡ u → in_time d t ≡ in_time e u
in_time_of d e t u f g = rw (f, g)
