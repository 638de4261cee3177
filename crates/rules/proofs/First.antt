-- Laws of `first`, `walk` and `gathered`: what a loop's turn, its find and its end say, and what is known of the answer. Assumes nothing.
use Prim.Native.Nat.{ℕ, zero, suc, ◌+◌, ◌≤◌, ◌<◌}
use mathlib.Core.Path.{◌≡◌, refl, sym, ◌∙◌}
use mathlib.Core.Bool.{Bool, true, false, true≢false}
use mathlib.Core.List.{List, [], ◌++◌}
use mathlib.Core.Logic.{⊎_elim}
use native.Mathlib.Nat.{not-suc-le-zero, le_of_suc-le-suc, eq-or-lt_of_le, le_antisymm}
use native.Mathlib.Numerals.{add-one}
use native.Mathlib.Decide.{le_ind}
use native.Mathlib.Omega.{arith}
use lib.Dec.{ltb}
use borrow.Author.Tests.{lt-ltb, le-ltb, ltb-true, ltb-false, not-false}
use Rattle.rules.specs.Walk.{pick, first, some, fails, Every, walk, gathered}

pub walk-zero : {A : Type 0} (f : ℕ → A → A) (x : A) → walk f x 0 ≡ x
unfolding walk
walk-zero f x = refl

pub walk_more : {A : Type 0} (f : ℕ → A → A) (x : A) (i : ℕ) → walk f x (i + 1) ≡ f i (walk f x i)
unfolding walk
walk_more f x i = rw add-one

pub gathered-zero : (f : ℕ → List ℕ) → gathered f 0 ≡ []
unfolding gathered
gathered-zero f = refl

pub gathered_more : (f : ℕ → List ℕ) (i : ℕ) → gathered f (i + 1) ≡ gathered f i ++ f i
unfolding gathered
gathered_more f i = rw add-one

pub gathered_ext : (n : ℕ) (f g : ℕ → List ℕ) → ((k : ℕ) → k < n → f k ≡ g k) → gathered f n ≡ gathered g n
unfolding gathered
gathered_ext zero f g h = refl
gathered_ext (suc n) f g h = rw (gathered_ext n f g (λ k l. h k (omega arith)), h n (omega arith))

module _ (p : ℕ → Bool) where
  pub first-zero : first p 0 ≡ 0
  unfolding first
  first-zero = refl

  -- a loop's turn at i, where nothing was found below i
  pub first_more : (i : ℕ) → first p i ≡ i → p i ≡ false → first p (i + 1) ≡ i + 1
  unfolding first
  first_more i e h = rw (add-one, e) (simp (le-ltb i i (omega arith), h))

  first-hit : (i : ℕ) → first p i ≡ i → p i ≡ true → first p (suc i) ≡ i
  unfolding first
  first-hit i e h = rw e (simp (le-ltb i i (omega arith), h))

  first-kept : (n i : ℕ) → i < n → first p n ≡ i → first p (suc n) ≡ i
  unfolding first
  first-kept n i l e = rw e (simp (lt-ltb i n l))

  -- the loop's find at i is the answer for every end past i
  pub first_found : (n i : ℕ) → i < n → first p i ≡ i → p i ≡ true → first p n ≡ i
  first_found n i l e h = le_ind {n = suc i} (λ m. first p m ≡ i) (first-hit i e h) (λ m k e. first-kept m i k e) n l

  -- the loop ran to its end
  pub first_done : (n i : ℕ) → i ≤ n → n ≤ i → first p i ≡ i → first p n ≡ n
  first_done n i h l e = let q : i ≡ n = omega arith in rw q at e

  pub first-le : (n : ℕ) → first p n ≤ n
  unfolding first
  first-le zero = omega arith
  first-le (suc n) = step (ltb (first p n) n) (p n) (first-le n)
    where
      step : (a b : Bool) → first p n ≤ n → pick a (first p n) (pick b n (suc n)) ≤ suc n
      step true b h = omega arith
      step false true h = omega arith
      step false false h = omega arith

  -- nothing below the answer passes
  pub first-before : (n k : ℕ) → k < first p n → p k ≡ false
  unfolding first
  first-before zero k l = absurd (not-suc-le-zero l)
  first-before (suc n) k l = step (λ h. first-before n k h) (ltb (first p n) n) (p n) refl refl l
    where
      step : (k < first p n → p k ≡ false) → (a b : Bool) → ltb (first p n) n ≡ a → p n ≡ b → k < pick a (first p n) (pick b n (suc n)) → p k ≡ false
      step ih true b ea eb l = ih l
      step ih false true ea eb l = ih (omega (arith, ltb-false (first p n) n ea))
      step ih false false ea eb l =
          ⊎_elim (λ e. rw e eb) (λ (h : k < n). ih (omega (arith, ltb-false (first p n) n ea))) (eq-or-lt_of_le (le_of_suc-le-suc l))

  -- an answer below n passes
  pub first_at : (n : ℕ) → first p n < n → p (first p n) ≡ true
  unfolding first
  first_at zero l = absurd (not-suc-le-zero l)
  first_at (suc n) l = step (λ h. first_at n h) (ltb (first p n) n) (p n) refl refl l
    where
      step : (first p n < n → p (first p n) ≡ true) → (a b : Bool) → ltb (first p n) n ≡ a → p n ≡ b → pick a (first p n) (pick b n (suc n)) < suc n → p (pick a (first p n) (pick b n (suc n))) ≡ true
      step ih true b ea eb l = ih (ltb-true (first p n) n ea)
      step ih false true ea eb l = eb
      step ih false false ea eb l = absurd (omega arith)

  -- what passes is not before the answer
  pub first-upto : (n k : ℕ) → p k ≡ true → first p n ≤ k
  first-upto n k e = step (ltb k (first p n)) refl
    where
      step : (b : Bool) → ltb k (first p n) ≡ b → first p n ≤ k
      step true f = absurd (true≢false (sym e ∙ first-before n k (ltb-true k (first p n) f)))
      step false f = ltb-false k (first p n) f

  -- nothing passes below n, said both ways
  pub first-none : (n : ℕ) → ((k : ℕ) → k < n → p k ≡ false) → first p n ≡ n
  first-none n h =
      ⊎_elim (λ e. e) (λ (l : first p n < n). absurd (true≢false (sym (first_at n l) ∙ h (first p n) l))) (eq-or-lt_of_le (first-le n))

  pub first-all : (n : ℕ) → first p n ≡ n → (k : ℕ) → k < n → p k ≡ false
  first-all n e k l = first-before n k (rw e l)

  -- an answer not below n: nothing passes
  pub first_past : (n : ℕ) → n ≤ first p n → (k : ℕ) → k < n → p k ≡ false
  first_past n h = first-all n (le_antisymm (first-le n) h)

  -- the same of `some`
  pub some-none : (n : ℕ) → some p n ≡ false → (k : ℕ) → k < n → p k ≡ false
  some-none n e = first_past n (ltb-false (first p n) n e)

  pub some_at : (n k : ℕ) → k < n → p k ≡ true → some p n ≡ true
  some_at n k l e = lt-ltb (first p n) n (omega (arith, first-upto n k e))

  -- a loop that looks for one ran to its end
  pub some-done : (n i : ℕ) → i ≤ n → n ≤ i → first p i ≡ i → some p n ≡ false
  some-done n i h l e = rw (first_done n i h l e) (le-ltb n n (omega arith))

-- every i < n passes exactly where the first that fails is past the end
pub every_first : (p : ℕ → Bool) (n : ℕ) → Every p n → first (fails p) n ≡ n
unfolding fails
every_first p n g = first-none (fails p) n (λ k l. rw (g k l))

pub first_every : (p : ℕ → Bool) (n : ℕ) → n ≤ first (fails p) n → Every p n
unfolding fails
first_every p n h k l = not-false _ (first_past (fails p) n h k l)

-- two tests that agree below n find the same
pub first_ext : (n : ℕ) (p q : ℕ → Bool) → ((k : ℕ) → k < n → p k ≡ q k) → first p n ≡ first q n
unfolding first
first_ext zero p q h = refl
first_ext (suc n) p q h = rw (first_ext n p q (λ k l. h k (omega arith)), h n (omega arith))
