-- Whatever is released, there is a legal run, and any two are the same in every tick. Assumes nothing.
use mathlib.Core.Path.{◌≡◌, refl, sym, ap, ap₂, ◌∙◌, subst}
use mathlib.Core.Logic.{◌⊎◌, inl, inr}
use mathlib.Core.Bool.{Bool, true, false, true≢false, ◌&&◌}
use mathlib.Core.List.{List}
use Prim.Native.Nat.{ℕ, zero, suc, ◌+◌, ◌≤◌, ◌<◌}
use native.Mathlib.Omega.{arith}
use lib.Dec.{eqb, ltb}
use borrow.Author.Tests.{ltb-true, ltb-false, lt-ltb, eqb-true, eq-eqb}
use Rattle.rules.specs.Walk.{pick, first, some, sum}
use Rattle.rules.specs.Table.{partition, tasks}
use Rattle.rules.proofs.First.{first_at, first-upto, first_past, some_at}
use Rattle.rules.proofs.Sum.{le-or-lt, sum_ext}
use Rattle.rules.specs.declared.Rule.{Rule}
use Rattle.theory.specs.Plan.{service}
use Rattle.theory.specs.Run.{Ran, nothing, job, hit, done, Waiting, at_arrival, Before, Runs, Releases}
use Rattle.theory.specs.Theorems.{LegalExists, LegalOne}
use Rattle.rules.proofs.Tests.{and_parts, and_intro}

-- ---- a run

module _ (rule : Rule) (plan : List ℕ) (start : ℕ) (ts : List ℕ) (work : ℕ → ℕ → ℕ) where
  -- with st j r done of each job: whether the job (j, r) has ticks left
  left : (ℕ → ℕ → ℕ) → ℕ → ℕ → Bool
  left st j r = ltb (st j r) (work j r)

  abbrev mine : ℕ → ℕ → Bool
  mine n j = eqb (partition ts j) (service rule plan (start + n))

  -- tick n is for task j, and one of its jobs released by then is left
  ready : ℕ → (ℕ → ℕ → ℕ) → ℕ → Bool
  ready n st j = mine n j && some (left st j) (suc n)

  -- the first such task, and its oldest such job
  abbrev task : ℕ → (ℕ → ℕ → ℕ) → ℕ
  task n st = first (ready n st) (tasks ts)

  abbrev oldest : ℕ → (ℕ → ℕ → ℕ) → ℕ → ℕ
  oldest n st j = first (left st j) (suc n)

  choose : ℕ → (ℕ → ℕ → ℕ) → Ran
  choose n st = pick (ltb (task n st) (tasks ts)) (job (task n st) (oldest n st (task n st))) nothing

  -- what has been done of each job before time n
  state : ℕ → ℕ → ℕ → ℕ
  state zero = λ j r. 0
  state (suc n) = λ j r. state n j r + hit (choose n (state n)) j r

  schedule : ℕ → Ran
  schedule n = choose n (state n)

  state_done : (j r n : ℕ) → done schedule j r n ≡ state n j r
  unfolding done sum state schedule
  state_done j r zero = refl
  state_done j r (suc n) = ap (λ (x : ℕ). x + hit (choose n (state n)) j r) (state_done j r n)

  abbrev Mine : ℕ → ℕ → Type 0
  Mine n j = partition ts j ≡ service rule plan (start + n)

  -- a waiting job is left, and makes its task ready
  is_left : (n a b : ℕ) → Waiting at_arrival work schedule n a b → left (state n) a b ≡ true
  unfolding left
  is_left n a b w = lt-ltb (state n a b) (work a b) (rw state_done at w.1)

  is_ready : (n a b : ℕ) → Mine n a → Waiting at_arrival work schedule n a b → ready n (state n) a ≡ true
  unfolding ready
  is_ready n a b m w =
      and_intro (mine n a) (some (left (state n) a) (suc n)) (eq-eqb (partition ts a) (service rule plan (start + n)) m)
      (some_at (left (state n) a) (suc n) b (omega (arith, w.0)) (is_left n a b w))

  -- a ready task is served in tick n, and its oldest job that is left waits
  ready_mine : (n j : ℕ) → ready n (state n) j ≡ true → Mine n j
  unfolding ready
  ready_mine n j e = eqb-true (partition ts j) (service rule plan (start + n)) (and_parts (mine n j) (some (left (state n) j) (suc n)) e).0

  ready_waits : (n j : ℕ) → ready n (state n) j ≡ true → Waiting at_arrival work schedule n j (oldest n (state n) j)
  unfolding ready left
  ready_waits n j e =
      let l : oldest n (state n) j < suc n = ltb-true (oldest n (state n) j) (suc n) (and_parts (mine n j) (some (left (state n) j) (suc n)) e).1 in
      (omega arith, rw state_done (ltb-true (state n j (oldest n (state n) j)) (work j (oldest n (state n) j)) (first_at (left (state n) j) (suc n) l)))

  module _ (R : Releases ts work) where
    before : (n a b : ℕ) → Mine n a → Waiting at_arrival work schedule n a b → Before (task n (state n)) (oldest n (state n) (task n (state n))) a b
    before n a b m w = go (le-or-lt a (task n (state n)))
      where
        lowest : task n (state n) ≤ a
        lowest = first-upto (ready n (state n)) (tasks ts) a (is_ready n a b m w)

        go : (a ≤ task n (state n)) ⊎ (task n (state n) < a) → Before (task n (state n)) (oldest n (state n) (task n (state n))) a b
        go (inr l) = inl l
        go (inl l) =
            let e : task n (state n) ≡ a = omega (arith, lowest) in
            inr (e, first-upto (left (state n) (task n (state n))) (suc n) b (rw e (is_left n a b w)))

    scheduled : (n : ℕ) → Runs (Mine n) (Waiting at_arrival work schedule n) (schedule n)
    unfolding schedule choose
    scheduled n = go (ltb (task n (state n)) (tasks ts)) refl
      where
        go : (b : Bool) → ltb (task n (state n)) (tasks ts) ≡ b → Runs (Mine n) (Waiting at_arrival work schedule n) (pick b (job (task n (state n)) (oldest n (state n) (task n (state n)))) nothing)
        go true e =
            let r = first_at (ready n (state n)) (tasks ts) (ltb-true (task n (state n)) (tasks ts) e) in
            (ready_mine n (task n (state n)) r, ready_waits n (task n (state n)) r, before n)
        go false e = λ a b m w.
            absurd (true≢false (sym (is_ready n a b m w) ∙ first_past (ready n (state n)) (tasks ts) (ltb-false (task n (state n)) (tasks ts) e) a (R.listed a b (omega (arith, w.1)))))

pub legal_exists : LegalExists
legal_exists rule plan start ts work R = (schedule rule plan start ts work, λ N. record { releases = R; runs = λ n u. scheduled rule plan start ts work R n })

-- ---- only one

done-same : (ran ran' : ℕ → Ran) (n : ℕ) → ((k : ℕ) → k < n → ran k ≡ ran' k) → (j r : ℕ) → done ran j r n ≡ done ran' j r n
unfolding done
done-same ran ran' n h j r = sum_ext n _ _ (λ k l. ap (λ (x : Ran). hit x j r) (h k l))

before_both : (j r a b : ℕ) → Before j r a b → Before a b j r → job j r ≡ job a b
before_both j r a b (inl h) (inl k) = absurd (omega arith)
before_both j r a b (inl h) (inr k) = absurd (omega (arith, k.0))
before_both j r a b (inr h) (inl k) = absurd (omega (arith, h.0))
before_both j r a b (inr h) (inr k) = ap₂ job h.0 (omega (arith, h.1, k.1))

module _ (N : ℕ) (Mine : ℕ → ℕ → Type 0) (work : ℕ → ℕ → ℕ) (ran ran' : ℕ → Ran)
    (runs : (n : ℕ) → n < N → Runs (Mine n) (Waiting at_arrival work ran n) (ran n))
    (runs' : (n : ℕ) → n < N → Runs (Mine n) (Waiting at_arrival work ran' n) (ran' n)) where
  -- the same so far, the same now
  now : (n : ℕ) → n < N → ((k : ℕ) → k < n → ran k ≡ ran' k) → ran n ≡ ran' n
  now n u h = go (ran n) (ran' n) (runs n u) (runs' n u)
    where
      to : (j r : ℕ) → Waiting at_arrival work ran n j r → Waiting at_arrival work ran' n j r
      to j r w = (w.0, subst (λ (x : ℕ). x < work j r) (done-same ran ran' n h j r) w.1)

      from : (j r : ℕ) → Waiting at_arrival work ran' n j r → Waiting at_arrival work ran n j r
      from j r w = (w.0, subst (λ (x : ℕ). x < work j r) (sym (done-same ran ran' n h j r)) w.1)

      go : (x y : Ran) → Runs (Mine n) (Waiting at_arrival work ran n) x → Runs (Mine n) (Waiting at_arrival work ran' n) y → x ≡ y
      go nothing nothing s t = refl
      go nothing (job a b) s t = absurd (s a b t.0 (from a b t.1))
      go (job j r) nothing s t = absurd (t j r s.0 (to j r s.1))
      go (job j r) (job a b) s t = before_both j r a b (s.2 a b t.0 (from a b t.1)) (t.2 j r s.0 (to j r s.1))

  upto : (n k : ℕ) → n ≤ N → k < n → ran k ≡ ran' k
  upto zero k u h = absurd (omega arith)
  upto (suc n) k u h = now k (omega arith) (λ j l. upto n j (omega arith) (omega arith))

pub legal_one : LegalOne
legal_one N rule plan start ts work ran ran' R R' n u =
    upto N (λ n j. partition ts j ≡ service rule plan (start + n)) work ran ran' R.runs R'.runs (suc n) n u (omega arith)
