-- Laws of `first_least`: what a loop from the end downwards says, and what is known of the answer. Assumes nothing.
use Prim.Native.Nat.{ℕ, zero, suc, ◌+◌, ◌≤◌, ◌<◌}
use mathlib.Core.Path.{◌≡◌, refl, sym, ap, ap₂, subst, ◌∙◌}
use mathlib.Core.Bool.{Bool, true, false, true≢false, not, ◌&&◌}
use mathlib.Core.Logic.{◌⊎◌, inl, inr}
use native.Mathlib.Decide.{ℕ_discrete}
use native.Mathlib.Omega.{arith}
use lib.Dec.{leb, ltb}
use borrow.Author.Tests.{lt-ltb, le-ltb, leb-true, leb-false}
use Rattle.rules.specs.Walk.{pick, some, undercuts, least_at, first_least}
use Rattle.rules.proofs.First.{first_found, first-none, first_ext, some_at}
use Rattle.rules.proofs.Sum.{le-or-lt}

-- of those from a to n - 1 that pass, i is the lowest of those with the smallest f
pub record FirstFrom (p : ℕ → Bool) (f : ℕ → ℕ) (a n i : ℕ) : Type 0 where
  pub from : a ≤ i
  pub below : i < n
  pub passes : p i ≡ true
  pub smallest : (k : ℕ) → a ≤ k → k < n → p k ≡ true → f i ≤ f k
  pub lower : (k : ℕ) → a ≤ k → k < i → p k ≡ true → f i < f k

-- two tests and two numbers that agree below n
pub first-least_ext : (n : ℕ) (p q : ℕ → Bool) (f g : ℕ → ℕ) → ((k : ℕ) → k < n → p k ≡ q k) → ((k : ℕ) → k < n → f k ≡ g k) → first_least p f n ≡ first_least q g n
unfolding first_least least_at undercuts
first-least_ext n p q f g e h =
    first_ext n _ _ (λ i l. ap₂ ◌&&◌ (e i l)
    (ap (λ (r : ℕ). not (ltb r n)) (first_ext n _ _ (λ k m. ap₂ ◌&&◌ (e k m) (ap₂ ltb (h k m) (h i l))))))

module _ (p : ℕ → Bool) (f : ℕ → ℕ) where
  none-undercuts : (n i k : ℕ) → FirstFrom p f 0 n i → k < n → undercuts p f (f i) k ≡ false
  unfolding undercuts
  none-undercuts n i k w l = go (p k) refl
    where
      go : (b : Bool) → p k ≡ b → (b && ltb (f k) (f i)) ≡ false
      go true e = le-ltb (f k) (f i) (w.smallest k (omega arith) l e)
      go false e = refl

  least_here : (n i : ℕ) → FirstFrom p f 0 n i → least_at p f n i ≡ true
  unfolding least_at
  least_here n i w = rw (w.passes, first-none (undercuts p f (f i)) n (λ k l. none-undercuts n i k w l), le-ltb n n (omega arith))

  not_lower : (n i k : ℕ) → FirstFrom p f 0 n i → k < i → least_at p f n k ≡ false
  unfolding least_at undercuts
  not_lower n i k w l = go (p k) refl
    where
      go : (b : Bool) → p k ≡ b → (b && not (some (undercuts p f (f k)) n)) ≡ false
      go true e =
          let less : ltb (f i) (f k) ≡ true = lt-ltb (f i) (f k) (w.lower k (omega arith) l e) in
          let found : some (undercuts p f (f k)) n ≡ true = some_at (undercuts p f (f k)) n i w.below (rw (w.passes, less)) in
          rw found
      go false e = refl

  pub first-least_is : (n i : ℕ) → FirstFrom p f 0 n i → first_least p f n ≡ i
  unfolding first_least
  first-least_is n i w = first_found _ n i w.below (first-none _ i (λ k l. not_lower n i k w l)) (least_here n i w)

  -- ---- from the end downwards

  pub from_end : (d : ℕ) → p d ≡ true → FirstFrom p f d (d + 1) d
  from_end d e = record {
    from = omega arith;
    below = omega arith;
    passes = e;
    smallest = λ k h l g. let z : k ≡ d = omega arith in rw z (omega arith);
    lower = λ k h l g. absurd (omega arith);
  }

  keep : (a n i : ℕ) → FirstFrom p f (suc a) n i → (p a ≡ true → f i < f a) → FirstFrom p f a n i
  keep a n i w more = record {
    from = omega (arith, w.from);
    below = w.below;
    passes = w.passes;
    smallest = λ k h l g. at k h l g (ℕ_discrete k a);
    lower = λ k h l g. under k h l g (ℕ_discrete k a);
  }
    where
      at : (k : ℕ) → a ≤ k → k < n → p k ≡ true → Dec (k ≡ a) → f i ≤ f k
      at k h l g (yes z) = let m : f i < f k = rw z (more (rw z at g)) in omega arith
      at k h l g (no z) = w.smallest k (omega arith) l g

      under : (k : ℕ) → a ≤ k → k < i → p k ≡ true → Dec (k ≡ a) → f i < f k
      under k h l g (yes z) = rw z (more (rw z at g))
      under k h l g (no z) = w.lower k (omega arith) l g

  turn : (a n i : ℕ) → FirstFrom p f (suc a) n i → p a ≡ true → f a ≤ f i → FirstFrom p f a n a
  turn a n i w e low = record {
    from = omega arith;
    below = omega (arith, w.from, w.below);
    passes = e;
    smallest = λ k h l g. at k h l g (ℕ_discrete k a);
    lower = λ k h l g. absurd (omega arith);
  }
    where
      at : (k : ℕ) → a ≤ k → k < n → p k ≡ true → Dec (k ≡ a) → f a ≤ f k
      at k h l g (yes z) = rw z (omega arith)
      at k h l g (no z) = omega (arith, w.smallest k (omega arith) l g)

  -- a loop's turn at a
  pub from_more : (a b n i r : ℕ) → b ≡ a + 1 → FirstFrom p f b n i → r ≡ pick (p a && leb (f a) (f i)) a i → FirstFrom p f a n r
  from_more a b n i r eb w er = go (p a) (leb (f a) (f i)) refl refl er
    where
      v : FirstFrom p f (suc a) n i
      v = let z : b ≡ suc a = omega arith in subst (λ (x : ℕ). FirstFrom p f x n i) z w

      go : (c d : Bool) → p a ≡ c → leb (f a) (f i) ≡ d → r ≡ pick (c && d) a i → FirstFrom p f a n r
      go true true e h z = subst (λ (x : ℕ). FirstFrom p f a n x) (sym z) (turn a n i v e (leb-true _ _ h))
      go true false e h z = subst (λ (x : ℕ). FirstFrom p f a n x) (sym z) (keep a n i v (λ g. leb-false _ _ h))
      go false d e h z = subst (λ (x : ℕ). FirstFrom p f a n x) (sym z) (keep a n i v (λ g. absurd (true≢false (sym g ∙ e))))

  -- the loop has come to 1, and 0 is none of them
  pub from_all : (n i : ℕ) → p 0 ≡ false → FirstFrom p f 1 n i → FirstFrom p f 0 n i
  from_all n i e w = keep 0 n i w (λ g. absurd (true≢false (sym g ∙ e)))

  -- ---- where one passes there is a lowest

  exists : (n : ℕ) → ((k : ℕ) → k < n → p k ≡ false) ⊎ ((i : ℕ) × FirstFrom p f 0 n i)
  exists zero = inl (λ k l. absurd (omega arith))
  exists (suc n) = go (p n) refl (exists n)
    where
      at : (P : ℕ → Type 0) (k : ℕ) → k < suc n → P n → (k < n → P k) → P k
      at P k l h g = by (ℕ_discrete k n)
        where
          by : Dec (k ≡ n) → P k
          by (yes z) = subst P (sym z) h
          by (no z) = g (omega arith)

      stays : (i : ℕ) → FirstFrom p f 0 n i → (p n ≡ true → f i ≤ f n) → FirstFrom p f 0 (suc n) i
      stays i w h = record {
        from = w.from;
        below = omega (arith, w.below);
        passes = w.passes;
        smallest = λ k a l g. at (λ x. p x ≡ true → f i ≤ f x) k l h (λ m. w.smallest k a m) g;
        lower = w.lower;
      }

      last : p n ≡ true → ((k : ℕ) → k < n → p k ≡ true → f n < f k) → FirstFrom p f 0 (suc n) n
      last e h = record {
        from = omega arith;
        below = omega arith;
        passes = e;
        smallest = λ k a l g. at (λ x. p x ≡ true → f n ≤ f x) k l (λ z. omega arith) (λ m z. let y = h k m z in omega arith) g;
        lower = λ k a l g. h k l g;
      }

      by_less : p n ≡ true → (i : ℕ) → FirstFrom p f 0 n i → (f i ≤ f n) ⊎ (f n < f i) → (j : ℕ) × FirstFrom p f 0 (suc n) j
      by_less e i w (inl h) = (i, stays i w (λ z. h))
      by_less e i w (inr h) = (n, last e (λ k l g. omega (arith, w.smallest k (omega arith) l g)))

      go : (b : Bool) → p n ≡ b → ((k : ℕ) → k < n → p k ≡ false) ⊎ ((i : ℕ) × FirstFrom p f 0 n i)
          → ((k : ℕ) → k < suc n → p k ≡ false) ⊎ ((i : ℕ) × FirstFrom p f 0 (suc n) i)
      go true e (inl h) = inr (n, last e (λ k l g. absurd (true≢false (sym g ∙ h k l))))
      go true e (inr w) = inr (by_less e w.0 w.1 (le-or-lt (f w.0) (f n)))
      go false e (inl h) = inl (λ k l. at (λ x. p x ≡ false) k l e (λ m. h k m))
      go false e (inr w) = inr (w.0, stays w.0 w.1 (λ g. absurd (true≢false (sym g ∙ e))))

  pub first-least_has : (n k : ℕ) → k < n → p k ≡ true → FirstFrom p f 0 n (first_least p f n)
  first-least_has n k l e = go (exists n)
    where
      go : ((k : ℕ) → k < n → p k ≡ false) ⊎ ((i : ℕ) × FirstFrom p f 0 n i) → FirstFrom p f 0 n (first_least p f n)
      go (inl h) = absurd (true≢false (sym e ∙ h k l))
      go (inr w) = subst (λ (x : ℕ). FirstFrom p f 0 n x) (sym (first-least_is n w.0 w.1)) w.1
