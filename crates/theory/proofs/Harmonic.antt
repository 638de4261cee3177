-- Turns of the harmonic rule, over any sequence of owners, wants and cycles: where each cycle divides the next and the ticks suffice, every turn's owner
-- is served. And the ticks of a plan, written out. Assumes nothing.
use mathlib.Core.Path.{◌≡◌, refl, sym, ap, ap₂, ◌∙◌, subst}
use mathlib.Core.Logic.{◌⊎◌, inl, inr}
use mathlib.Core.Bool.{Bool, true, false, ◌&&◌}
use Prim.Native.Nat.{ℕ, zero, suc, ◌+◌, ◌-◌, ◌*◌, ◌/◌, ◌%◌, ◌≤◌, ◌<◌, min, zero-le}
use native.Mathlib.Nat.{add-zero, zero-add, suc-mul, add-mod_right, mod-le, mod-add-mod, mod-eq_of_lt, mod-lt, mod_self, le_of_mul-le-mul_right, mul-div_cancel, le_trans, div-add-mod'}
use native.Mathlib.Decide.{ℕ_discrete}
use native.Mathlib.Omega.{arith}
use lib.Dec.{eqb, ltb}
use borrow.Author.Tests.{lt-ltb, le-ltb, eq-eqb, ne_eqb}
use lib.ListN.{get_or}
use Rattle.rules.specs.Walk.{pick, only, sum, count, walk, listed}
use Rattle.rules.proofs.Sum.{le-or-lt, only-eq, only_ne, only_self, sum-le, sum-eq, sum_first, sum_mono, count-zero, count_more}
use Rattle.rules.proofs.Named.{listed-length, listed_at}
use Rattle.rules.specs.declared.Rule.TheVariants.{Own}
use Rattle.theory.specs.Plan.{owner, service, owned, held}
use Rattle.theory.specs.Harmonic.{give}
use Rattle.theory.proofs.Need.{owned_split}
use Rattle.theory.specs.Inner.{idle}
use Rattle.theory.proofs.Words.{owns_from}

-- ---- owners that repeat

abbrev pub Period : (ℕ → ℕ) → ℕ → Type 0
Period o m = (t : ℕ) → o (t + m) ≡ o t

abbrev pub Divides : ℕ → ℕ → Type 0
Divides m h = (c : ℕ) × (h ≡ c * m)

module _ (o : ℕ → ℕ) (m : ℕ) (per : Period o m) where
  period-mul : (c : ℕ) → Period o (c * m)
  period-mul zero t = let e : t + 0 * m ≡ t = omega arith in rw e
  period-mul (suc c) t = let e : t + suc c * m ≡ t + c * m + m = omega arith in ap o e ∙ per (t + c * m) ∙ period-mul c t

  pub period_longer : (h : ℕ) → Divides m h → Period o h
  period_longer h d = subst (Period o) (sym d.1) (period-mul d.0)

  shift : (p a t : ℕ) → owned o p t (a + m) ≡ owned o p t a
  unfolding owned count
  shift p a t =
      sum-eq t _ _ (λ k.
      let e : a + m + k ≡ a + k + m = omega arith in
      ap (λ (x : ℕ). only (eqb x p) 1) (ap o e ∙ per (a + k)))

  slide_one : (p a : ℕ) → owned o p m (suc a) ≡ owned o p m a
  unfolding owned count sum
  slide_one p a =
      let e : sum (λ k. only (eqb (o (suc a + k)) p) 1) m ≡ sum (λ k. only (eqb (o (a + suc k)) p) 1) m =
      sum-eq m _ _ (λ k. let g : suc a + k ≡ a + suc k = omega arith in ap (λ (x : ℕ). only (eqb (o x) p) 1) g) in
      let w : only (eqb (o (a + m)) p) 1 ≡ only (eqb (o (a + 0)) p) 1 = ap (λ (x : ℕ). only (eqb x p) 1) (per a ∙ ap o (sym (add-zero a))) in
      omega (arith, sum_first m (λ k. only (eqb (o (a + k)) p) 1))

  -- a whole period holds the same from every start
  pub slide : (p a : ℕ) → owned o p m a ≡ owned o p m 0
  slide p zero = refl
  slide p (suc a) = slide_one p a ∙ slide p a

  blocks : (p c : ℕ) → owned o p (c * m) 0 ≡ c * owned o p m 0
  unfolding owned count sum
  blocks p zero = let e : 0 * m ≡ 0 = omega arith in rw e (omega arith)
  blocks p (suc c) = rw (suc-mul c m) (omega (arith, owned_split o p 0 (c * m) m, blocks p c, slide p (0 + c * m)))

-- ---- one turn: in each cycle of m, counted from tick 0, the q earliest idle ticks

-- the idle ticks seen in a tick's cycle before it: none at a cycle's first tick, and one tick later one more where the tick is idle
pub seen_first : (o : ℕ → ℕ) (m t : ℕ) → t % m ≡ 0 → owned o 0 (t % m) (t - t % m) ≡ 0
unfolding owned
seen_first o m t e = rw e (count-zero (owns_from o 0 (t - 0)))

pub seen_next : (o : ℕ → ℕ) (m t : ℕ) → 0 < m → ¬ ((t + 1) % m ≡ 0) → owned o 0 ((t + 1) % m) (t + 1 - (t + 1) % m) ≡ owned o 0 (t % m) (t - t % m) + only (eqb (o t) 0) 1
unfolding owned
seen_next o m t pos h = go (le-or-lt m (t % m + 1))
  where
    more : (t + 1) % m ≡ (t % m + 1) % m
    more = sym (mod-add-mod t m 1)

    go : (m ≤ t % m + 1) ⊎ (t % m + 1 < m) → owned o 0 ((t + 1) % m) (t + 1 - (t + 1) % m) ≡ owned o 0 (t % m) (t - t % m) + only (eqb (o t) 0) 1
    go (inl l) = let e : t % m + 1 ≡ m = omega (arith, mod-lt t pos) in absurd (h (more ∙ ap (λ (x : ℕ). x % m) e ∙ mod_self m))
    go (inr l) =
        let r : (t + 1) % m ≡ t % m + 1 = more ∙ mod-eq_of_lt l in
        let s : t + 1 - (t % m + 1) ≡ t - t % m = omega arith in
        let u : t - t % m + t % m ≡ t = omega (arith, mod-le t m) in
        rw (r, s) (count_more (owns_from o 0 (t - t % m)) (t % m) ∙ ap (λ (x : ℕ). owned o 0 (t % m) (t - t % m) + only (eqb (o x) 0) 1) u)

module _ (p q m : ℕ) (o : ℕ → ℕ) where
  -- what a tick becomes, by the number of idle ticks seen before it in its cycle
  pub give_at : (t seen : ℕ) → seen ≡ owned o 0 (t % m) (t - t % m) → give p q m o t ≡ pick (eqb (o t) 0 && ltb seen q) p (o t)
  unfolding give
  give_at t seen e = ap (λ (x : ℕ). pick (eqb (o t) 0 && ltb x q) p (o t)) (sym e)

  pub give_keep : (t : ℕ) → ¬ (o t ≡ 0) → give p q m o t ≡ o t
  unfolding give
  give_keep t h = rw (ne_eqb (o t) 0 h)

  pub give-take : (t : ℕ) → o t ≡ 0 → owned o 0 (t % m) (t - t % m) < q → give p q m o t ≡ p
  unfolding give
  give-take t h l = rw (eq-eqb (o t) 0 h, lt-ltb (owned o 0 (t % m) (t - t % m)) q l)

  pub give_leave : (t : ℕ) → o t ≡ 0 → q ≤ owned o 0 (t % m) (t - t % m) → give p q m o t ≡ 0
  unfolding give
  give_leave t h l = rw (eq-eqb (o t) 0 h, le-ltb (owned o 0 (t % m) (t - t % m)) q l) h

  give-period : Period o m → Period (give p q m o) m
  unfolding give
  give-period per t =
      let l : t % m ≤ t = mod-le t m in
      let e : t + m - (t + m) % m ≡ t - t % m + m = omega (arith, add-mod_right t m) in
      let c : owned o 0 ((t + m) % m) (t + m - (t + m) % m) ≡ owned o 0 (t % m) (t - t % m) =
      ap₂ (λ (x y : ℕ). owned o 0 x y) (add-mod_right t m) e ∙ shift o m per 0 (t - t % m) (t % m) in
      ap₂ (λ (x y : ℕ). pick (eqb x 0 && ltb y q) p x) (per t) c

  give_bound : (b t : ℕ) → o t ≤ b → p ≤ b → give p q m o t ≤ b
  unfolding give
  give_bound b t h k = go (eqb (o t) 0 && ltb (owned o 0 (t % m) (t - t % m)) q)
    where
      go : (u : Bool) → pick u p (o t) ≤ b
      go true = k
      go false = h

  -- who has a tick keeps it
  owned_keep : (x a t : ℕ) → ¬ (x ≡ 0) → owned o x t a ≤ owned (give p q m o) x t a
  unfolding owned count
  owned_keep x a t pos = sum-le t _ _ (λ k l. go k (ℕ_discrete (o (a + k)) x))
    where
      go : (k : ℕ) → Dec (o (a + k) ≡ x) → only (eqb (o (a + k)) x) 1 ≤ only (eqb (give p q m o (a + k)) x) 1
      go k (yes e) = omega (arith, only_self (eqb (o (a + k)) x) 1, only-eq (give p q m o (a + k)) x 1 (give_keep (a + k) (λ z. pos (sym e ∙ z)) ∙ e))
      go k (no h) = omega (arith, only_ne (o (a + k)) x 1 h)

  -- in the first cycle: the earliest q idle ticks, or all where there are fewer, and no others
  abbrev Filled : ℕ → ℕ → ℕ → Type 0
  Filled before mine after = (min q before ≤ mine) × (after + min q before ≡ before)

  fill : ¬ (p ≡ 0) → (t : ℕ) → t ≤ m → Filled (owned o 0 t 0) (owned (give p q m o) p t 0) (owned (give p q m o) 0 t 0)
  unfolding owned count sum
  fill pos zero h = (omega arith, omega arith)
  fill pos (suc t) h = rw zero-add (go (fill pos t (omega arith)) (ℕ_discrete (o t) 0) (le-or-lt q (owned o 0 t 0)))
    where
      here : owned o 0 (t % m) (t - t % m) ≡ owned o 0 t 0
      here = let e : t % m ≡ t = mod-eq_of_lt h in let z : t - t ≡ 0 = omega arith in rw (e, z)

      go : Filled (owned o 0 t 0) (owned (give p q m o) p t 0) (owned (give p q m o) 0 t 0) → Dec (o t ≡ 0) → (q ≤ owned o 0 t 0) ⊎ (owned o 0 t 0 < q)
          → Filled (owned o 0 t 0 + only (eqb (o t) 0) 1) (owned (give p q m o) p t 0 + only (eqb (give p q m o t) p) 1) (owned (give p q m o) 0 t 0 + only (eqb (give p q m o t) 0) 1)
      go ih (no f) s = omega (arith, ih.0, ih.1, only_ne (o t) 0 1 f, only_ne (give p q m o t) 0 1 (λ c. f (sym (give_keep t f) ∙ c)))
      go ih (yes e) (inl s) = let g = give_leave t e (omega (arith, here)) in omega (arith, ih.0, ih.1, only-eq (o t) 0 1 e, only-eq (give p q m o t) 0 1 g)
      go ih (yes e) (inr s) =
          let g = give-take t e (omega (arith, here)) in
          omega (arith, ih.0, ih.1, only-eq (o t) 0 1 e, only-eq (give p q m o t) p 1 g, only_ne (give p q m o t) 0 1 (λ c. pos (sym g ∙ c)))

pos_factors : (h m : ℕ) → 0 < h * m → (0 < h) × (0 < m)
pos_factors zero m l = absurd (omega arith)
pos_factors (suc h) zero l = absurd (omega arith)
pos_factors (suc h) (suc m) l = (omega arith, omega arith)

-- one turn, where q times H/m of H's ticks are idle: its owner is served, and that many are spent
module _ (p q m : ℕ) (o : ℕ → ℕ) (H : ℕ) (pos : 0 < H) (d : Divides m H) (named : ¬ (p ≡ 0)) (per : Period o m) (w : q * (H / m) ≤ owned o 0 H 0) where
  abbrev times : ℕ
  times = d.0

  factors : (0 < times) × (0 < m)
  factors = pos_factors times m (omega (arith, d.1))

  quotient : H / m ≡ times
  quotient = ap (λ (x : ℕ). x / m) d.1 ∙ mul-div_cancel times factors.1

  all_of : (u : ℕ → ℕ) → Period u m → owned u 0 H 0 ≡ times * owned u 0 m 0
  all_of u e = ap (λ (x : ℕ). owned u 0 x 0) d.1 ∙ blocks u m e 0 times

  w' : q * times ≤ owned o 0 H 0
  w' = rw quotient at w

  enough : q ≤ owned o 0 m 0
  enough =
      let g : q * times ≤ owned o 0 m 0 * times = omega (arith, all_of o per, w') in
      le_of_mul-le-mul_right {m = q} {n = owned o 0 m 0} {k = times} g factors.0

  turn_served : (a : ℕ) → q ≤ owned (give p q m o) p m a
  turn_served a = omega (arith, slide (give p q m o) m (give-period p q m o per) p a, enough, (fill p q m o named m (omega arith)).0)

  turn_spent : owned (give p q m o) 0 H 0 + q * (H / m) ≡ owned o 0 H 0
  turn_spent =
      let f : owned (give p q m o) 0 m 0 + q ≡ owned o 0 m 0 = omega (arith, enough, (fill p q m o named m (omega arith)).1) in
      let g : times * (owned (give p q m o) 0 m 0 + q) ≡ times * owned o 0 m 0 = ap (λ (x : ℕ). times * x) f in
      rw quotient (omega (arith, all_of o per, all_of (give p q m o) (give-period p q m o per)))

-- ---- all turns

-- what the turns at 0, 1, .., r - 1 leave
abbrev pub built : (ℕ → ℕ) → (ℕ → ℕ) → (ℕ → ℕ) → ℕ → ℕ → ℕ
built who want cyc r = walk (λ s. give (who s) (want s) (cyc s)) idle r

idle-all : (t : ℕ) → owned idle 0 t 0 ≡ t
unfolding owned count sum
idle-all zero = refl
idle-all (suc t) = omega (arith, idle-all t, only-eq 0 0 1 refl)

pub built_bound : (who want cyc : ℕ → ℕ) (b r : ℕ) → ((s : ℕ) → s < r → who s ≤ b) → (t : ℕ) → built who want cyc r t ≤ b
unfolding walk
built_bound who want cyc b zero h t = zero-le
built_bound who want cyc b (suc r) h t =
    give_bound (who r) (want r) (cyc r) (built who want cyc r) b t (built_bound who want cyc b r (λ s l. h s (omega arith)) t) (h r (omega arith))

-- each cycle divides the later ones, and all of them H; the ticks suffice
pub record Chain (who want cyc : ℕ → ℕ) (n H : ℕ) : Type 0 where
  pub positive : 0 < H
  pub named : (r : ℕ) → ¬ (who r ≡ 0)
  pub later : (r s : ℕ) → r < s → s < n → Divides (cyc r) (cyc s)
  pub whole : (r : ℕ) → r < n → Divides (cyc r) H
  pub suffice : sum (λ r. want r * (H / cyc r)) n ≤ H

-- after r turns: it repeats with every later cycle and with H, what is not spent is idle, and those who had their turn are served
pub record After (who want cyc : ℕ → ℕ) (n H r : ℕ) (o : ℕ → ℕ) : Type 0 where
  pub repeats : (s : ℕ) → r ≤ s → s < n → Period o (cyc s)
  pub frames : Period o H
  pub unspent : sum (λ s. want s * (H / cyc s)) r + owned o 0 H 0 ≡ H
  pub served : (s a : ℕ) → s < r → want s ≤ owned o (who s) (cyc s) a

module _ (who want cyc : ℕ → ℕ) (n H : ℕ) (ch : Chain who want cyc n H) where
  after_turn : (r : ℕ) (o : ℕ → ℕ) → r < n → After who want cyc n H r o → After who want cyc n H (suc r) (give (who r) (want r) (cyc r) o)
  unfolding sum
  after_turn r o l v = record {
    repeats = λ s g m. period_longer o' (cyc r) per' (cyc s) (ch.later r s g m);
    frames = period_longer o' (cyc r) per' H (ch.whole r l);
    unspent = omega (arith, v.unspent, turn_spent (who r) (want r) (cyc r) o H ch.positive (ch.whole r l) (ch.named r) per room);
    served = λ s a g. kept s a (le-or-lt r s) g;
  }
    where
      o' : ℕ → ℕ
      o' = give (who r) (want r) (cyc r) o

      per : Period o (cyc r)
      per = v.repeats r (omega arith) l

      per' : Period o' (cyc r)
      per' = give-period (who r) (want r) (cyc r) o per

      room : want r * (H / cyc r) ≤ owned o 0 H 0
      room = omega (arith, v.unspent, ch.suffice, sum_mono (λ s. want s * (H / cyc s)) {a = suc r} {b = n} l)

      kept : (s a : ℕ) → (r ≤ s) ⊎ (s < r) → s < suc r → want s ≤ owned o' (who s) (cyc s) a
      kept s a (inl g) k =
          let e : r ≡ s = omega arith in
          subst (λ (x : ℕ). want x ≤ owned o' (who x) (cyc x) a) e (turn_served (who r) (want r) (cyc r) o H ch.positive (ch.whole r l) (ch.named r) per room a)
      kept s a (inr g) k = le_trans (v.served s a g) (owned_keep (who r) (want r) (cyc r) o (who s) a (cyc s) (ch.named s))

  pub after : (r : ℕ) → r ≤ n → After who want cyc n H r (built who want cyc r)
  unfolding walk sum
  after zero l = record { repeats = λ s g m t. refl; frames = λ t. refl; unspent = omega (arith, idle-all H); served = λ s a g. absurd (omega arith) }
  after (suc r) l = after_turn r (built who want cyc r) l (after r (omega arith))

-- ---- the ticks of a plan, written out

-- repeated, they are the owner of every tick
pub listed-owner : (o : ℕ → ℕ) (H : ℕ) → 0 < H → Period o H → (t : ℕ) → owner (listed o H) t ≡ o t
unfolding owner
listed-owner o H pos per t =
    let e : t % H + t / H * H ≡ t = omega (arith, div-add-mod' t H) in
    ap (λ (x : ℕ). get_or (listed o H) (t % x) 0) (listed-length o H) ∙ listed_at o H (t % H) (mod-lt t pos) ∙ sym (period-mul o H per (t / H) (t % H)) ∙ ap o e

pub listed-held : (o : ℕ → ℕ) (H : ℕ) → 0 < H → Period o H → (p t a : ℕ) → held Own (listed o H) p t a ≡ owned o p t a
unfolding service owned count
listed-held o H pos per p t a = sum-eq t _ _ (λ k. ap (λ (x : ℕ). only (eqb x p) 1) (listed-owner o H pos per (a + k)))
