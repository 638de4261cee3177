-- What tasks ask, turn by turn: with one job more, and with one task more. Assumes nothing.
use Prim.Native.Nat.{ℕ, zero, suc, ◌+◌, ◌*◌, ◌^◌, ◌≤◌, ◌<◌, min}
use mathlib.Core.Path.{◌≡◌, refl, sym, ap, ◌∙◌}
use mathlib.Core.Logic.{◌⊎◌, inl, inr}
use mathlib.Core.List.{List}
use native.Mathlib.Nat.{mul-suc, mul_comm, mul-zero, one-mul, add-mul, add-zero, mul-le-mul_right}
use native.Mathlib.Numerals.{add-one}
use native.Mathlib.Decide.{ℕ_discrete}
use native.Mathlib.Omega.{arith}
use lib.Dec.{eqb}
use lib.ListN.{length, get_or, set, replicate, length-set}
use lib.Seq.{get_or-set_same, get_or-set_other}
use Rattle.rules.specs.Limits.{longest, most_tasks}
use Rattle.rules.specs.Walk.{sum, round_up}
use Rattle.rules.specs.Inner.{AsNamed}
use Rattle.rules.specs.Table.{partition, budget, period}
use Rattle.rules.proofs.Round.{round_enough, round_least}
use Rattle.rules.proofs.Sum.{le-or-lt, only-eq, only_ne, only_self, sum-zero, sum_more}
use Rattle.rules.proofs.Named.{named_as, named_then}
use Rattle.task_demand.specs.Inner.{asks_of, all_asked, with_task, with_asked, Small, Added, Zeros, InOrder}

-- ---- a row of numbers

pub added_none : (x b : ℕ) (l : List ℕ) → Added x b b l l
added_none x b l = record { as_long = refl; row = λ t h g. absurd (omega arith); before = λ t h. refl; behind = λ t h. refl }

pub added_turn : (x b t v : ℕ) (from cur after : List ℕ) → Added x b t from cur → b ≤ t → t < length cur → v ≡ get_or cur t 0 + x → after ≡ set cur t v → Added x b (t + 1) from after
added_turn x b t v from cur after w l g ev ea =
    rw ea (record {
      as_long = length-set cur t v ∙ w.as_long;
      row = λ u h k. at u h k (ℕ_discrete u t);
      before = λ u h. get_or-set_other cur t u v 0 (λ z. absurd (omega arith)) ∙ w.before u h;
      behind = λ u h. get_or-set_other cur t u v 0 (λ z. absurd (omega arith)) ∙ w.behind u (omega arith);
    })
  where
    at : (u : ℕ) → b ≤ u → u < t + 1 → Dec (u ≡ t) → get_or (set cur t v) u 0 ≡ get_or from u 0 + x
    at u h k (yes z) = rw z (get_or-set_same cur t v 0 g ∙ ev ∙ ap (λ (y : ℕ). y + x) (w.behind t (omega arith)))
    at u h k (no z) = get_or-set_other cur t u v 0 z ∙ w.row u h (omega arith)

pub added_all : (x b e t : ℕ) (from to : List ℕ) → t ≤ e → e ≤ t → Added x b t from to → Added x b e from to
added_all x b e t from to l g w = let z : t ≡ e = omega arith in rw z at w

-- ---- one job more

-- between two multiples of the period as many jobs are asked for
round_between : (y k u : ℕ) → 0 < y → k * y < u → u ≤ (k + 1) * y → round_up u y ≡ k + 1
round_between y k u h l m =
    let a : round_up u y ≤ k + 1 = round_least u y (k + 1) h m in
    omega (arith, a, go (le-or-lt (round_up u y) k))
  where
    go : (round_up u y ≤ k) ⊎ (k < round_up u y) → k < round_up u y
    go (inl n) =
        let q : round_up u y * y ≤ k * y = mul-le-mul_right y n in
        absurd (omega (arith, round_enough u y h))
    go (inr n) = n

-- the starts of a task's rows are a period apart
pub next_job : (y k t : ℕ) → t ≡ k * y + 1 → t + y ≡ (k + 1) * y + 1
next_job y k t e = omega (arith, add-mul k 1 y, one-mul y)

-- the row up to there
pub with_row : (c y n k t e all : ℕ) (before cur after : List ℕ) → 0 < y → t ≡ k * y + 1 → t < n → e ≡ min (t + y) n → all ≡ c * (k + 1)
    → AsNamed (with_task c y before) t before cur → Added all t e cur after → AsNamed (with_task c y before) e before after
unfolding with_task
with_row c y n k t e all before cur after pos z l d ea v u =
    record {
      as_long = u.as_long ∙ v.as_long;
      done = λ i g. at i g (le-or-lt t i);
      rest = λ i g. u.behind i g ∙ v.rest i (omega arith);
    }
  where
    at : (i : ℕ) → i < e → (t ≤ i) ⊎ (i < t) → get_or after i 0 ≡ get_or before i 0 + c * round_up i y
    at i g (inr h) = u.before i h ∙ v.done i h
    at i g (inl h) =
        let r : round_up i y ≡ k + 1 = round_between y k i pos (omega (arith, z)) (omega (arith, z, add-mul k 1 y, one-mul y)) in
        u.row i h g ∙ rw (ea, r, v.rest i h)

pub with_none : (c y : ℕ) (l : List ℕ) → 0 < y → AsNamed (with_task c y l) 1 l l
unfolding with_task
with_none c y l pos = record { as_long = refl; done = λ i g. at i (omega arith); rest = λ i g. refl }
  where
    at : (i : ℕ) → i ≡ 0 → get_or l i 0 ≡ get_or l i 0 + c * round_up i y
    at i z =
        let r : round_up 0 y ≡ 0 = omega (arith, round_least 0 y 0 pos (omega arith)) in
        rw (z, r, mul-zero c) (sym (add-zero (get_or l 0 0)))

pub more_asked : (c k all w : ℕ) → all ≡ c * k → w ≡ c → all + w ≡ c * (k + 1)
more_asked c k all w ea ew = rw (ea, ew, add-one k) (sym (mul-suc c k))

-- so many jobs of a good task take no more than the list's ticks and a period
pub few-jobs : (c y k t all : ℕ) → c ≤ y → t ≡ k * y + 1 → all ≡ c * k → all < t
few-jobs c y k t all l z e =
    let m : c * k ≤ y * k = mul-le-mul_right k l in
    omega (arith, m, z, mul_comm y k)

-- ---- one task more

module _ (ts : List ℕ) (p j : ℕ) where
  pub task_counts : (c y n : ℕ) (before after : List ℕ) → partition ts j ≡ p → c ≡ budget ts j → y ≡ period ts j → AsNamed (with_task c y before) n before after → AsNamed (with_asked ts p j before) n before after
  unfolding with_task with_asked asks_of
  task_counts c y n before after e ec ey = named_as _ _ n before after (λ t l. rw (ec, ey, only-eq (partition ts j) p (budget ts j * round_up t (period ts j)) e))

  pub task_left : (n : ℕ) (l : List ℕ) → ¬ (partition ts j ≡ p) → AsNamed (with_asked ts p j l) n l l
  unfolding with_asked asks_of
  task_left n l h =
      record {
        as_long = refl;
        done = λ t g. sym (rw (only_ne (partition ts j) p (budget ts j * round_up t (period ts j)) h) (add-zero (get_or l t 0)));
        rest = λ t g. refl;
      }

  pub asked_more : (n : ℕ) (before cur after : List ℕ) → AsNamed (all_asked ts p j) n before cur → AsNamed (with_asked ts p j cur) n cur after → AsNamed (all_asked ts p (j + 1)) n before after
  unfolding with_asked all_asked
  asked_more n before cur after w v = named_then _ _ n before cur after w (named_as _ _ n cur after (λ t l. rw (sum_more (asks_of ts p t) j, w.done t l)) v)

pub asked_of : (ts : List ℕ) (p q k n : ℕ) (before after : List ℕ) → p ≡ q → AsNamed (all_asked ts p k) n before after → AsNamed (all_asked ts q k) n before after
asked_of ts p q k n before after e w = rw e at w

pub asked-none : (ts : List ℕ) (p n : ℕ) (l : List ℕ) → Zeros l → AsNamed (all_asked ts p 0) n l l
unfolding all_asked
asked-none ts p n l z = record { as_long = refl; done = λ t g. z t ∙ sym (sum-zero (asks_of ts p t)); rest = λ t g. refl }

-- ---- bounds

-- a task's jobs in t ticks take less than t and a period
round_small : (c y t : ℕ) → 0 < y → c ≤ y → c * round_up t y ≤ t + y
round_small c y t h l = go (round_up t y) refl
  where
    go : (r : ℕ) → round_up t y ≡ r → c * r ≤ t + y
    go zero e = omega (arith, mul-zero c)
    go (suc r) e =
        let n : ¬ (t ≤ r * y) = λ g. absurd (omega (arith, round_least t y r h g, e)) in
        let m : c * suc r ≤ y * suc r = mul-le-mul_right (suc r) l in
        omega (arith, m, mul-suc y r, mul_comm r y, n)

asks_small : (ts : List ℕ) (p t j : ℕ) → InOrder ts j → t ≤ longest → asks_of ts p t j ≤ 2 * longest
unfolding asks_of
asks_small ts p t j o l =
    omega (
      arith,
      only_self (eqb (partition ts j) p) (budget ts j * round_up t (period ts j)),
      round_small (budget ts j) (period ts j) t (omega (arith, o.some, o.in_time, o.in_period)) (omega (arith, o.in_time, o.in_period)),
      o.short,
    )

pub all_small : (ts : List ℕ) (p t k : ℕ) → ((j : ℕ) → j < k → InOrder ts j) → t ≤ longest → all_asked ts p k t ≤ k * (2 * longest)
unfolding all_asked sum
all_small ts p t zero o l = omega arith
all_small ts p t (suc k) o l = omega (arith, all_small ts p t k (λ j h. o j (omega arith)) l, asks_small ts p t k (o k (omega arith)) l)

-- what so many tasks ask is small
pub asked-small : (ts : List ℕ) (p k n : ℕ) (before cur : List ℕ) → k ≤ most_tasks → n ≤ longest + 1 → ((j : ℕ) → j < k → InOrder ts j) → Zeros before → AsNamed (all_asked ts p k) n before cur → Small cur
asked-small ts p k n before cur few l o z w = record { small = λ t h. go t (le-or-lt n t) }
  where
    go : (t : ℕ) → (n ≤ t) ⊎ (t < n) → get_or cur t 0 < 2 ^ 31
    go t (inl g) = rw (w.rest t g, z t) (omega arith)
    go t (inr g) = let m : k * (2 * longest) ≤ most_tasks * (2 * longest) = mul-le-mul_right (2 * longest) few in rw (w.done t g) (omega (arith, all_small ts p t k o (omega arith)))

pub zeros-all : (n : ℕ) → Zeros (replicate n 0)
zeros-all zero t = refl
zeros-all (suc n) zero = refl
zeros-all (suc n) (suc t) = zeros-all n t
