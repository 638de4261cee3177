-- The walks over i < n that every rule is made of. The number that a walk goes over stands last. Assumes nothing.
use Rattle.std.specs.Prelude.{ℕ, zero, suc, ◌+◌, ◌-◌, ◌/◌, ◌<◌, min, max, ◌≡◌, Bool, true, false, not, ◌&&◌, List, [], ◌∷◌, ◌++◌, ltb}

-- a where the test holds, else b
abbrev pub pick : {A : Type 0} → Bool → A → A → A
pick true a b = a
pick false a b = b

-- x where the test holds, else 0
unfoldable pub only : Bool → ℕ → ℕ
only true x = x
only false x = 0

-- the smallest i < n that passes the test, else n
unfoldable pub first : (ℕ → Bool) → ℕ → ℕ
first p zero = zero
first p (suc n) = let r = first p n in pick (ltb r n) r (pick (p n) n (suc n))

-- i fails the test
unfoldable pub fails : (ℕ → Bool) → ℕ → Bool
fails p i = not (p i)

-- whether any i < n passes
abbrev pub some : (ℕ → Bool) → ℕ → Bool
some p n = ltb (first p n) n

-- every i < n passes
abbrev pub Every : (ℕ → Bool) → ℕ → Type 0
Every p n = (i : ℕ) → i < n → p i ≡ true

-- f 0 + .. + f (n - 1)
unfoldable pub sum : (ℕ → ℕ) → ℕ → ℕ
sum f zero = 0
sum f (suc n) = sum f n + f n

-- how many i < n pass
unfoldable pub count : (ℕ → Bool) → ℕ → ℕ
count p n = sum (λ k. only (p k) 1) n

-- the smallest of f i over i < n (f 0 where n is 0)
unfoldable pub smallest : (ℕ → ℕ) → ℕ → ℕ
smallest f zero = f zero
smallest f (suc n) = min (smallest f n) (f n)

-- the largest of f i over i < n (0 where n is 0)
unfoldable pub largest : (ℕ → ℕ) → ℕ → ℕ
largest f zero = 0
largest f (suc n) = max (largest f n) (f n)

-- k passes the test, and its f is smaller than h
unfoldable pub undercuts : (ℕ → Bool) → (ℕ → ℕ) → ℕ → ℕ → Bool
undercuts p f h k = p k && ltb (f k) h

-- i passes the test, and no k < n that passes has a smaller f
unfoldable pub least_at : (ℕ → Bool) → (ℕ → ℕ) → ℕ → ℕ → Bool
least_at p f n i = p i && not (some (undercuts p f (f i)) n)

-- of the i < n that pass the test the one with the smallest f, the lowest on equals; n where none passes
unfoldable pub first_least : (ℕ → Bool) → (ℕ → ℕ) → ℕ → ℕ
first_least p f n = first (least_at p f n) n

-- n steps from x, at 0, 1, .., n - 1
unfoldable pub walk : {A : Type 0} → (ℕ → A → A) → A → ℕ → A
walk f x zero = x
walk f x (suc n) = f n (walk f x n)

-- the numbers f 0, .., f (n - 1), written out
unfoldable pub listed : (ℕ → ℕ) → ℕ → List ℕ
listed f zero = []
listed f (suc n) = f 0 ∷ listed (λ k. f (suc k)) n

-- the lists f 0, .., f (n - 1), one behind the other
unfoldable pub gathered : (ℕ → List ℕ) → ℕ → List ℕ
gathered f zero = []
gathered f (suc n) = gathered f n ++ f n

-- x / y, rounded up
unfoldable pub round_up : ℕ → ℕ → ℕ
round_up x y = (x + (y - 1)) / y
