-- What Boolean tests say: a choice between two answers, conjunctions, a search, good records. Assumes nothing.
use mathlib.Core.Path.{◌≡◌, refl, sym, subst}
use mathlib.Core.Logic.{◌⊎◌, inl, inr}
use mathlib.Core.Bool.{Bool, true, false, ◌&&◌, ◌||◌, and-eq-true_iff}
use Prim.Native.Nat.{ℕ, ◌≤◌, ◌<◌}
use lib.Dec.{T, leb}
use borrow.Author.Tests.{leb-true}
use Rattle.rules.specs.Walk.{pick, first}
use Rattle.rules.specs.Limits.{longest, finest_share, most_granule, newest_edition}
use Rattle.rules.specs.Table.{good_share, good_times}
use Rattle.rules.specs.Terms.{good_edition, good_granule}
use Rattle.rules.proofs.First.{first_at, first_past}
use Rattle.rules.proofs.Sum.{le-or-lt}

-- the answer is not the second: the test held
pub pick_first : {A : Type 0} (b : Bool) (x y z : A) → ¬ (y ≡ z) → pick b x y ≡ z → (b ≡ true) × (x ≡ z)
pick_first true x y z h e = (refl, e)
pick_first false x y z h e = absurd (h e)

-- the answer is not the first: it did not
pub pick_second : {A : Type 0} (b : Bool) (x y z : A) → ¬ (x ≡ z) → pick b x y ≡ z → (b ≡ false) × (y ≡ z)
pick_second true x y z h e = absurd (h e)
pick_second false x y z h e = (refl, e)

pub to_T : (b : Bool) → b ≡ true → T b
to_T b e = subst T (sym e) tt

pub of_T : (b : Bool) → T b → b ≡ true
of_T true t = refl
of_T false t = absurd t

pub and_parts : (a b : Bool) → a && b ≡ true → (a ≡ true) × (b ≡ true)
and_parts a b = (and-eq-true_iff a b).0

pub and_intro : (a b : Bool) → a ≡ true → b ≡ true → a && b ≡ true
and_intro a b e f = (and-eq-true_iff a b).1 (e, f)

pub and_none : (a b : Bool) → b ≡ false → a && b ≡ false
and_none true b e = e
and_none false b e = refl

pub or_left : (a b : Bool) → a ≡ true → a || b ≡ true
or_left a b e = rw e

pub or_right : (a b : Bool) → b ≡ true → a || b ≡ true
or_right true b e = refl
or_right false b e = e

-- one that passes, or none does
pub any_or_none : (p : ℕ → Bool) (n : ℕ) → ((k : ℕ) × (k < n) × (p k ≡ true)) ⊎ ((k : ℕ) → k < n → p k ≡ false)
any_or_none p n = go (le-or-lt n (first p n))
  where
    go : (n ≤ first p n) ⊎ (first p n < n) → ((k : ℕ) × (k < n) × (p k ≡ true)) ⊎ ((k : ℕ) → k < n → p k ≡ false)
    go (inl h) = inr (first_past p n h)
    go (inr h) = inl (first p n, h, first_at p n h)

-- an edition is 1 or 2
pub good-edition : (e : ℕ) → good_edition e ≡ true → (1 ≤ e) × (e ≤ newest_edition)
unfolding good_edition
good-edition e h = let a = and_parts (leb 1 e) (leb e newest_edition) h in (leb-true 1 e a.0, leb-true e newest_edition a.1)

-- "g from 1 to 16"
pub good-granule : (g : ℕ) → good_granule g ≡ true → (1 ≤ g) × (g ≤ most_granule)
unfolding good_granule
good-granule g e = let a = and_parts (leb 1 g) (leb g most_granule) e in (leb-true 1 g a.0, leb-true g most_granule a.1)

-- "Share num/den with 1 ≤ num ≤ den ≤ 1,000"
pub good_share_lem : (limit m n d : ℕ) → good_share limit m n d ≡ true → (1 ≤ m) × (m ≤ limit) × (1 ≤ n) × (n ≤ d) × (d ≤ finest_share)
unfolding good_share
good_share_lem limit m n d e =
    let a = and_parts (leb 1 m && leb m limit && leb 1 n && leb n d) (leb d finest_share) e in
    let b = and_parts (leb 1 m && leb m limit && leb 1 n) (leb n d) a.0 in
    let c = and_parts (leb 1 m && leb m limit) (leb 1 n) b.0 in
    let f = and_parts (leb 1 m) (leb m limit) c.0 in
    (leb-true 1 m f.0, leb-true m limit f.1, leb-true 1 n c.1, leb-true n d b.1, leb-true d finest_share a.1)

-- "A task has 1 ≤ C ≤ D ≤ T ≤ 4,096 and names a partition of the table"
pub good-times : (parts p c d t : ℕ) → good_times parts p c d t ≡ true → (1 ≤ p) × (p ≤ parts) × (1 ≤ c) × (c ≤ d) × (d ≤ t) × (t ≤ longest)
unfolding good_times
good-times parts p c d t e =
    let a = and_parts (leb 1 p && leb p parts && leb 1 c && leb c d && leb d t) (leb t longest) e in
    let b = and_parts (leb 1 p && leb p parts && leb 1 c && leb c d) (leb d t) a.0 in
    let f = and_parts (leb 1 p && leb p parts && leb 1 c) (leb c d) b.0 in
    let g = and_parts (leb 1 p && leb p parts) (leb 1 c) f.0 in
    let h = and_parts (leb 1 p) (leb p parts) g.0 in
    (leb-true 1 p h.0, leb-true p parts h.1, leb-true 1 c g.1, leb-true c d f.1, leb-true d t b.1, leb-true t longest a.1)
