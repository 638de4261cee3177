-- The order in which places are taken: by rising cycle, equal cycles by place; each place once. Assumes nothing.
use mathlib.Core.Path.{◌≡◌, refl, sym, ap, ◌∙◌}
use mathlib.Core.Logic.{◌⊎◌, inl, inr}
use mathlib.Core.Bool.{Bool, true, false, true≢false, ◌&&◌, ◌||◌, and-eq-true_iff, or-true}
use mathlib.Core.List.{List}
use Prim.Native.Nat.{ℕ, zero, suc, ◌*◌, ◌/◌, ◌%◌, ◌≤◌, ◌<◌, zero-le}
use native.Mathlib.Nat.{div-add-mod', mul-mod_left}
use native.Mathlib.Omega.{arith}
use lib.Dec.{eqb, ltb}
use borrow.Author.Tests.{ltb-true, eqb-true, lt-ltb, eq-eqb}
use Rattle.rules.specs.Walk.{only, sum, count}
use Rattle.rules.specs.Table.{cycle, partitions}
use Rattle.rules.proofs.First.{first-le, first_at, first-upto, first-all}
use Rattle.rules.proofs.Sum.{le-or-lt, only_true, only_false, only_self, only-eq, only_ne, sum-le, sum_lt, sum_term, sum-none, sum_swap, sum_one}
use Rattle.theory.specs.Harmonic.{pairs, sooner, rank, taken}
use Rattle.theory.specs.Theorems.{PairsDivide, TakenOnce, TakenRises}
use Rattle.theory.proofs.Words.{ranked}

-- ---- tests

either : (a b : Bool) → (a || b) ≡ true → (a ≡ true) ⊎ (b ≡ true)
either true b e = inl refl
either false b e = inr e

-- a stronger test counts no more
only_imp : (a b : Bool) → (a ≡ true → b ≡ true) → only a 1 ≤ only b 1
unfolding only
only_imp true b h = rw (h refl) (omega arith)
only_imp false b h = zero-le

-- ---- one cycle divides the other

divides : (x y : ℕ) → y % x ≡ 0 → (c : ℕ) × (y ≡ c * x)
divides x y e = (y / x, omega (arith, div-add-mod' y x))

multiple : (x y c : ℕ) → y ≡ c * x → eqb (y % x) 0 ≡ true
multiple x y c e = eq-eqb (y % x) 0 (ap (λ (z : ℕ). z % x) e ∙ mul-mod_left c x)

pub pairs_divide : PairsDivide
unfolding pairs
pairs_divide ps j k = (λ e. there (either (down j k) (down k j) e), back)
  where
    down : ℕ → ℕ → Bool
    down i l = eqb (cycle ps l % cycle ps i) 0

    there : (down j k ≡ true) ⊎ (down k j ≡ true) → ((c : ℕ) × (cycle ps k ≡ c * cycle ps j)) ⊎ ((c : ℕ) × (cycle ps j ≡ c * cycle ps k))
    there (inl h) = inl (divides (cycle ps j) (cycle ps k) (eqb-true _ 0 h))
    there (inr h) = inr (divides (cycle ps k) (cycle ps j) (eqb-true _ 0 h))

    back : ((c : ℕ) × (cycle ps k ≡ c * cycle ps j)) ⊎ ((c : ℕ) × (cycle ps j ≡ c * cycle ps k)) → (down j k || down k j) ≡ true
    back (inl (c, e)) = rw (multiple (cycle ps j) (cycle ps k) c e)
    back (inr (c, e)) = rw (multiple (cycle ps k) (cycle ps j) c e) (or-true (down j k))

-- ---- a map of the numbers below n to themselves that takes no two to one takes some number to each

ones : (n : ℕ) → sum (λ k. 1) n ≡ n
unfolding sum
ones zero = refl
ones (suc n) = omega (arith, ones n)

pub pigeons : (n : ℕ) (f : ℕ → ℕ) → ((k : ℕ) → k < n → f k < n) → ((i j : ℕ) → i < n → j < n → f i ≡ f j → i ≡ j)
    → (r : ℕ) → r < n → ((k : ℕ) → k < n → ¬ (r ≡ f k)) → ⊥
pigeons n f low inj r l none = omega (arith, ones n, each, sum_swap n n (λ k x. only (eqb x (f k)) 1), fewer)
  where
    each : sum (λ k. 1) n ≤ sum (λ k. sum (λ x. only (eqb x (f k)) 1) n) n
    each =
        sum-le n (λ k. 1) (λ k. sum (λ x. only (eqb x (f k)) 1) n)
        (λ k h. omega (arith, only-eq (f k) (f k) 1 refl, sum_term n (λ x. only (eqb x (f k)) 1) (f k) (low k h)))

    at : sum (λ k. only (eqb r (f k)) 1) n ≤ sum (λ k. 0) n
    at = sum-le n (λ k. only (eqb r (f k)) 1) (λ k. 0) (λ k h. omega (arith, only_ne r (f k) 1 (none k h)))

    fewer : sum (λ x. sum (λ k. only (eqb x (f k)) 1) n) n < sum (λ x. 1) n
    fewer =
        sum_lt n (λ x. sum (λ k. only (eqb x (f k)) 1) n) (λ x. 1) (λ x h. sum_one n x f inj 1) r l
        (omega (arith, at, sum-none n))

-- ---- the order

-- place j is taken before place k
abbrev pub Sooner : List ℕ → ℕ → ℕ → Type 0
Sooner ps j k = (cycle ps j < cycle ps k) ⊎ ((cycle ps j ≡ cycle ps k) × (j < k))

module _ (ps : List ℕ) where
  abbrev n : ℕ
  n = partitions ps

  pub sooner-told : (j k : ℕ) → sooner ps k j ≡ true → Sooner ps j k
  unfolding sooner
  sooner-told j k e = go (either (ltb (cycle ps j) (cycle ps k)) (eqb (cycle ps j) (cycle ps k) && ltb j k) e)
    where
      go : (ltb (cycle ps j) (cycle ps k) ≡ true) ⊎ ((eqb (cycle ps j) (cycle ps k) && ltb j k) ≡ true) → Sooner ps j k
      go (inl h) = inl (ltb-true (cycle ps j) (cycle ps k) h)
      go (inr h) =
          let w = (and-eq-true_iff (eqb (cycle ps j) (cycle ps k)) (ltb j k)).0 h in
          inr (eqb-true (cycle ps j) (cycle ps k) w.0, ltb-true j k w.1)

  pub sooner_tells : (j k : ℕ) → Sooner ps j k → sooner ps k j ≡ true
  unfolding sooner
  sooner_tells j k (inl h) = rw (lt-ltb (cycle ps j) (cycle ps k) h)
  sooner_tells j k (inr (e, h)) =
      rw (eq-eqb (cycle ps j) (cycle ps k) e, lt-ltb j k h) (or-true (ltb (cycle ps j) (cycle ps k)))

  sooner_irr : (k : ℕ) → Sooner ps k k → ⊥
  sooner_irr k (inl h) = omega arith
  sooner_irr k (inr (e, h)) = omega arith

  sooner_trans : (i j k : ℕ) → Sooner ps i j → Sooner ps j k → Sooner ps i k
  sooner_trans i j k (inl g) (inl h) = inl (omega arith)
  sooner_trans i j k (inl g) (inr (e, h)) = inl (omega arith)
  sooner_trans i j k (inr (d, g)) (inl h) = inl (omega arith)
  sooner_trans i j k (inr (d, g)) (inr (e, h)) = inr (omega arith, omega arith)

  data Order (j k : ℕ) : Type 0 where
    less : Sooner ps j k → Order j k
    same : j ≡ k → Order j k
    more : Sooner ps k j → Order j k

  compared : (j k : ℕ) → Order j k
  compared j k = go (le-or-lt (cycle ps j) (cycle ps k)) (le-or-lt (cycle ps k) (cycle ps j)) (le-or-lt j k) (le-or-lt k j)
    where
      go : (cycle ps j ≤ cycle ps k) ⊎ (cycle ps k < cycle ps j) → (cycle ps k ≤ cycle ps j) ⊎ (cycle ps j < cycle ps k) → (j ≤ k) ⊎ (k < j) → (k ≤ j) ⊎ (j < k) → Order j k
      go (inr h) b x y = more (inl h)
      go (inl a) (inr h) x y = less (inl h)
      go (inl a) (inl b) (inr h) y = more (inr (omega arith, h))
      go (inl a) (inl b) (inl x) (inr h) = less (inr (omega arith, h))
      go (inl a) (inl b) (inl x) (inl y) = same (omega arith)

  -- ---- the rank

  not_self : (k : ℕ) → only (sooner ps k k) 1 ≡ 0
  not_self k = go (sooner ps k k) refl
    where
      go : (b : Bool) → sooner ps k k ≡ b → only b 1 ≡ 0
      go true e = absurd (sooner_irr k (sooner-told k k e))
      go false e = only_false false 1 refl

  pub rank_lt : (j k : ℕ) → j < n → Sooner ps j k → rank ps j < rank ps k
  unfolding rank count
  rank_lt j k l h =
      sum_lt n (λ i. only (sooner ps j i) 1) (λ i. only (sooner ps k i) 1)
      (λ i m. only_imp (sooner ps j i) (sooner ps k i) (λ e. sooner_tells i k (sooner_trans i j k (sooner-told i j e) h)))
      j l (omega (arith, not_self j, only_true (sooner ps k j) 1 (sooner_tells j k h)))

  pub rank_below : (k : ℕ) → k < n → rank ps k < n
  unfolding rank count
  rank_below k l =
      omega (arith, ones n, sum_lt n (λ i. only (sooner ps k i) 1) (λ i. 1) (λ i m. only_self (sooner ps k i) 1) k l (omega (arith, not_self k)))

  pub rank-once : (j k : ℕ) → j < n → k < n → rank ps j ≡ rank ps k → j ≡ k
  rank-once j k lj lk e = go (compared j k)
    where
      go : Order j k → j ≡ k
      go (less h) = absurd (omega (arith, rank_lt j k lj h))
      go (same q) = q
      go (more h) = absurd (omega (arith, rank_lt k j lk h))

  -- ---- the place that is taken after r others

  ranked_at : (r k : ℕ) → ranked ps r k ≡ true → rank ps k ≡ r
  ranked_at r k e = eqb-true (rank ps k) r e

  ranked_is : (r k : ℕ) → rank ps k ≡ r → ranked ps r k ≡ true
  ranked_is r k e = eq-eqb (rank ps k) r e

  pub taken-rank : (k : ℕ) → k < n → taken ps (rank ps k) ≡ k
  taken-rank k l =
      let h : taken ps (rank ps k) ≤ k = first-upto (ranked ps (rank ps k)) n k (ranked_is (rank ps k) k refl) in
      let g : taken ps (rank ps k) < n = omega arith in
      rank-once (taken ps (rank ps k)) k g l (ranked_at (rank ps k) (taken ps (rank ps k)) (first_at (ranked ps (rank ps k)) n g))

  -- every number below n is the rank of a place
  pub taken_below : (r : ℕ) → r < n → taken ps r < n
  taken_below r l = go (le-or-lt n (taken ps r))
    where
      go : (n ≤ taken ps r) ⊎ (taken ps r < n) → taken ps r < n
      go (inr h) = h
      go (inl h) =
          absurd (pigeons n (rank ps) rank_below rank-once r l (λ k m e.
          true≢false (sym (ranked_is r k (sym e)) ∙ first-all (ranked ps r) n (omega (arith, first-le (ranked ps r) n)) k m)))

  pub rank-taken : (r : ℕ) → r < n → rank ps (taken ps r) ≡ r
  rank-taken r l = ranked_at r (taken ps r) (first_at (ranked ps r) n (taken_below r l))

  pub taken-sooner : (r s : ℕ) → r < s → s < n → Sooner ps (taken ps r) (taken ps s)
  taken-sooner r s h l = go (compared (taken ps r) (taken ps s))
    where
      er : rank ps (taken ps r) ≡ r
      er = rank-taken r (omega arith)

      es : rank ps (taken ps s) ≡ s
      es = rank-taken s l

      go : Order (taken ps r) (taken ps s) → Sooner ps (taken ps r) (taken ps s)
      go (less g) = g
      go (same q) = absurd (omega (arith, er, es, ap (rank ps) q))
      go (more g) = absurd (omega (arith, er, es, rank_lt (taken ps s) (taken ps r) (taken_below s l) g))

  -- what is summed over the turns is no more than over the places
  pub taken-sum : (f : ℕ → ℕ) → sum (λ r. f (taken ps r)) n ≤ sum f n
  taken-sum f = omega (arith, turns, sum_swap n n (λ r k. only (eqb (rank ps k) r) (f k)), places)
    where
      turns : sum (λ r. f (taken ps r)) n ≤ sum (λ r. sum (λ k. only (eqb (rank ps k) r) (f k)) n) n
      turns =
          sum-le n (λ r. f (taken ps r)) (λ r. sum (λ k. only (eqb (rank ps k) r) (f k)) n)
          (λ r l.
          omega (
            arith,
            only-eq (rank ps (taken ps r)) r (f (taken ps r)) (rank-taken r l),
            sum_term n (λ k. only (eqb (rank ps k) r) (f k)) (taken ps r) (taken_below r l),
          ))

      places : sum (λ k. sum (λ r. only (eqb (rank ps k) r) (f k)) n) n ≤ sum f n
      places = sum-le n (λ k. sum (λ r. only (eqb (rank ps k) r) (f k)) n) f (λ k l. sum_one n (rank ps k) (λ r. r) (λ i j a b e. e) (f k))

pub taken_once : TakenOnce
taken_once ps k l = (rank_below ps k l, taken-rank ps k l)

pub taken_rises : TakenRises
taken_rises ps r s h l = taken-sooner ps r s h l
