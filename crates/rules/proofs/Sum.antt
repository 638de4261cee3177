-- Laws of sums and counts. Assumes nothing.
use mathlib.Core.Path.{◌≡◌, refl, sym, ap, ap₂, ◌∙◌, subst}
use mathlib.Core.Logic.{◌⊎◌, inl, inr}
use mathlib.Core.Bool.{Bool, true, false}
use Prim.Native.Nat.{ℕ, zero, suc, ◌+◌, ◌-◌, ◌≤◌, ◌<◌, zero-le}
use native.Mathlib.Nat.{add-suc, add-zero, le_refl}
use native.Mathlib.Numerals.{add-one}
use native.Mathlib.Decide.{dec_le, ℕ_discrete}
use native.Mathlib.Omega.{arith}
use lib.Dec.{T, eqb, eqb→eq, eqb_refl}
use Rattle.rules.specs.Walk.{only, sum, count}

unfoldable pub le-or-lt : (a b : ℕ) → (a ≤ b) ⊎ (b < a)
le-or-lt a b = go (dec_le a b)
  where
    go : Dec (a ≤ b) → (a ≤ b) ⊎ (b < a)
    go (yes h) = inl h
    go (no h) = inr (omega arith)

-- ---- x where a test holds

pub only_true : (b : Bool) (x : ℕ) → b ≡ true → only b x ≡ x
unfolding only
only_true b x e = rw e

pub only_false : (b : Bool) (x : ℕ) → b ≡ false → only b x ≡ 0
unfolding only
only_false b x e = rw e

pub only-T : (b : Bool) (x : ℕ) → T b → only b x ≡ x
unfolding only
only-T true x t = refl
only-T false x t = absurd t

pub only-F : (b : Bool) (x : ℕ) → ¬ T b → only b x ≡ 0
unfolding only
only-F true x h = absurd (h tt)
only-F false x h = refl

pub only_pos : (b : Bool) (x : ℕ) → 0 < only b x → T b
unfolding only
only_pos true x h = tt
only_pos false x h = absurd (omega arith)

pub only_self : (b : Bool) (x : ℕ) → only b x ≤ x
unfolding only
only_self true x = le_refl x
only_self false x = zero-le

pub only-add : (b : Bool) (x y : ℕ) → only b (x + y) ≡ only b x + only b y
unfolding only
only-add true x y = refl
only-add false x y = refl

-- larger where the test holds
pub only-le : (b : Bool) (x y : ℕ) → (T b → x ≤ y) → only b x ≤ only b y
unfolding only
only-le true x y h = h tt
only-le false x y h = zero-le

pub only-lt : (b : Bool) (x y : ℕ) → only b x < only b y → T b × (x < y)
unfolding only
only-lt true x y h = (tt, h)
only-lt false x y h = (omega arith, omega arith)

pub only-eq : (x y z : ℕ) → x ≡ y → only (eqb x y) z ≡ z
only-eq x y z e = only-T (eqb x y) z (subst (λ (k : ℕ). T (eqb x k)) e (eqb_refl x))

pub only_ne : (x y z : ℕ) → ¬ (x ≡ y) → only (eqb x y) z ≡ 0
unfolding only
only_ne x y z h = go (eqb x y) refl
  where
    go : (b : Bool) → eqb x y ≡ b → only b z ≡ 0
    go true e = absurd (h (eqb→eq x y (subst T (sym e) tt)))
    go false e = refl

-- ---- sums

pub sum-zero : (f : ℕ → ℕ) → sum f 0 ≡ 0
unfolding sum
sum-zero f = refl

pub sum_more : (f : ℕ → ℕ) (i : ℕ) → sum f (i + 1) ≡ sum f i + f i
unfolding sum
sum_more f i = rw add-one

pub sum_ext : (n : ℕ) (f g : ℕ → ℕ) → ((k : ℕ) → k < n → f k ≡ g k) → sum f n ≡ sum g n
unfolding sum
sum_ext zero f g h = refl
sum_ext (suc n) f g h = ap₂ ◌+◌ (sum_ext n f g (λ k l. h k (omega arith))) (h n (omega arith))

pub sum-eq : (n : ℕ) (f g : ℕ → ℕ) → ((k : ℕ) → f k ≡ g k) → sum f n ≡ sum g n
sum-eq n f g h = sum_ext n f g (λ k l. h k)

pub sum-le : (n : ℕ) (f g : ℕ → ℕ) → ((k : ℕ) → k < n → f k ≤ g k) → sum f n ≤ sum g n
unfolding sum
sum-le zero f g h = zero-le
sum-le (suc n) f g h = omega (arith, sum-le n f g (λ k l. h k (omega arith)), h n (omega arith))

-- where one term is smaller, the sum is
pub sum_lt : (n : ℕ) (f g : ℕ → ℕ) → ((k : ℕ) → k < n → f k ≤ g k) → (j : ℕ) → j < n → f j < g j → sum f n < sum g n
unfolding sum
sum_lt zero f g h j l s = absurd (omega arith)
sum_lt (suc n) f g h j l s = go (λ m. sum_lt n f g (λ k l. h k (omega arith)) j m s) (le-or-lt n j)
  where
    go : (j < n → sum f n < sum g n) → (n ≤ j) ⊎ (j < n) → sum f n + f n < sum g n + g n
    go ih (inl m) =
        let e : j ≡ n = omega arith in
        let s' : f n < g n = subst (λ (k : ℕ). f k < g k) e s in
        omega (arith, sum-le n f g (λ k l. h k (omega arith)))
    go ih (inr m) = omega (arith, ih m, h n (omega arith))

pub sum-add : (n : ℕ) (f g : ℕ → ℕ) → sum (λ k. f k + g k) n ≡ sum f n + sum g n
unfolding sum
sum-add zero f g = refl
sum-add (suc n) f g = omega (arith, sum-add n f g)

pub sum_split : (a b : ℕ) (f : ℕ → ℕ) → sum f (a + b) ≡ sum f a + sum (λ k. f (a + k)) b
unfolding sum
sum_split a zero f = rw (add-zero a, add-zero (sum f a))
sum_split a (suc b) f = rw add-suc (omega (arith, sum_split a b f))

pub sum_mono : (f : ℕ → ℕ) {a b : ℕ} → a ≤ b → sum f a ≤ sum f b
sum_mono f {a} {b} h =
    let e : a + (b - a) ≡ b = omega arith in
    rw (← e) (omega (arith, sum_split a (b - a) f))

pub sum_term : (n : ℕ) (f : ℕ → ℕ) (k : ℕ) → k < n → f k ≤ sum f n
unfolding sum
sum_term n f k h = omega (arith, sum_mono f {a = suc k} {b = n} h)

pub sum_first : (n : ℕ) (f : ℕ → ℕ) → sum f (suc n) ≡ f 0 + sum (λ k. f (suc k)) n
unfolding sum
sum_first zero f = omega arith
sum_first (suc n) f = omega (arith, sum_first n f)

-- where one sum is smaller, one of its terms is
pub sum-find : (n : ℕ) (f g : ℕ → ℕ) → sum f n < sum g n → (k : ℕ) × (k < n) × (f k < g k)
unfolding sum
sum-find zero f g h = absurd (omega arith)
sum-find (suc n) f g h = go (sum-find n f g) (le-or-lt (g n) (f n))
  where
    go : (sum f n < sum g n → (k : ℕ) × (k < n) × (f k < g k)) → (g n ≤ f n) ⊎ (f n < g n) → (k : ℕ) × (k < suc n) × (f k < g k)
    go ih (inl m) = let w = ih (omega arith) in (w.0, omega arith, w.2)
    go ih (inr m) = (n, omega arith, m)

pub sum-none : (n : ℕ) → sum (λ k. 0) n ≡ 0
unfolding sum
sum-none zero = refl
sum-none (suc n) = omega (arith, sum-none n)

-- sums of sums, in either order
pub sum_swap : (m n : ℕ) (f : ℕ → ℕ → ℕ) → sum (λ i. sum (f i) n) m ≡ sum (λ k. sum (λ i. f i k) m) n
unfolding sum
sum_swap zero n f = sym (sum-none n)
sum_swap (suc m) n f = ap (λ (x : ℕ). x + sum (f m) n) (sum_swap m n f) ∙ sym (sum-add n (λ k. sum (λ i. f i k) m) (f m))

-- x is at most one of the n numbers of an injective f
pub sum_one : (n x : ℕ) (f : ℕ → ℕ) → ((i j : ℕ) → i < n → j < n → f i ≡ f j → i ≡ j) → (z : ℕ) → sum (λ k. only (eqb x (f k)) z) n ≤ z
unfolding sum
sum_one zero x f inj z = zero-le
sum_one (suc n) x f inj z = go (sum_one n x f (λ i j l m e. inj i j (omega arith) (omega arith) e) z) (ℕ_discrete x (f n))
  where
    go : sum (λ k. only (eqb x (f k)) z) n ≤ z → Dec (x ≡ f n) → sum (λ k. only (eqb x (f k)) z) n + only (eqb x (f n)) z ≤ z
    go ih (yes e) =
        let none : sum (λ k. only (eqb x (f k)) z) n ≤ sum (λ k. 0) n =
        sum-le n _ _ (λ k h. omega (arith, only_ne x (f k) z (λ c. absurd (let q : k ≡ n = inj k n (omega arith) (omega arith) (sym c ∙ e) in omega arith)))) in
        omega (arith, sum-none n, only-eq x (f n) z e)
    go ih (no h) = omega (arith, only_ne x (f n) z h)

-- ---- counts

pub count-zero : (p : ℕ → Bool) → count p 0 ≡ 0
unfolding count sum
count-zero p = refl

pub count_more : (p : ℕ → Bool) (i : ℕ) → count p (i + 1) ≡ count p i + only (p i) 1
unfolding count
count_more p i = sum_more (λ k. only (p k) 1) i

pub count-le : (p : ℕ → Bool) (n : ℕ) → count p n ≤ n
unfolding count sum
count-le p zero = zero-le
count-le p (suc n) = omega (arith, count-le p n, only_self (p n) 1)

pub count_ext : (n : ℕ) (p q : ℕ → Bool) → ((k : ℕ) → k < n → p k ≡ q k) → count p n ≡ count q n
unfolding count
count_ext n p q h = sum_ext n (λ k. only (p k) 1) (λ k. only (q k) 1) (λ k l. ap (λ (b : Bool). only b 1) (h k l))
