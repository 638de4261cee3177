-- The run theorem of any competitors. Assumes nothing.
use mathlib.Core.Path.{◌≡◌, refl, sym, ap₂, ◌∙◌, subst}
use mathlib.Core.Logic.{◌⊎◌, inl, inr}
use mathlib.Core.Bool.{Bool, true, false}
use Prim.Native.Nat.{ℕ, zero, suc, ◌+◌, ◌-◌, ◌*◌, ◌≤◌, ◌<◌, zero-le}
use native.Mathlib.Nat.{add-zero, add-suc, le_antisymm}
use native.Mathlib.Omega.{arith}
use lib.Dec.{T}
use Rattle.rules.specs.Walk.{only, sum, count, round_up}
use Rattle.rules.proofs.Sum.{only-le, only-lt, only-T, only-add, sum-le, sum_lt, sum-add, sum_split, sum_mono, sum-find, le-or-lt}
use Rattle.theory.specs.Run.{Waiting, Ran, job, hit, done, Before}
use Rattle.theory.specs.Load.{Load, asked, demand, Passes}
use Rattle.theory.specs.Competition.{LowerBound, Brings, Queue}
use Rattle.theory.specs.Generality.{LoadTheorem}
use Rattle.theory.proofs.Arrivals.{window, hit_cases, done_mono, done-hit, due, due_le, due_in, due_pos, due_mono}

-- ---- a server's run

module _ (L : Load) (i : ℕ) (rel work : ℕ → ℕ → ℕ) (sv : ℕ → Bool) (ran : ℕ → Ran) (N : ℕ) (Q : Queue N (L.rival i) sv rel work ran) where
  -- what runs is waiting, so no job runs before its release or beyond its work
  done_due : (j b n : ℕ) → n ≤ N → done ran j b n ≤ due rel work j b n
  unfolding done sum
  done_due j b zero u = zero-le
  done_due j b (suc n) u = go (done_due j b n (omega arith)) (hit_cases (ran n) j b)
    where
      go : sum (λ k. hit (ran k) j b) n ≤ due rel work j b n → (hit (ran n) j b ≡ 0) ⊎ ((ran n ≡ job j b) × (hit (ran n) j b ≡ 1)) → sum (λ k. hit (ran k) j b) n + hit (ran n) j b ≤ due rel work j b (suc n)
      go ih (inl e) = omega (arith, due_mono rel work j b n (suc n) (omega arith))
      go ih (inr e) =
          let w = Q.only_waiting n j b u e.0 in
          omega (arith, w.1, e.1, due_in rel work j b (suc n) (omega (arith, w.0)))

  pub done-le : (j b n : ℕ) → n ≤ N → done ran j b n ≤ work j b
  done-le j b n u = omega (arith, done_due j b n u, due_le rel work j b n)

  -- what the rivals above i have done, and what work they were owed, before time n
  spent : ℕ → ℕ
  spent n = sum (λ j. only (L.rival i j) (sum (λ b. done ran j b n) n)) i

  owed : ℕ → ℕ
  owed n = sum (λ j. only (L.rival i j) (sum (λ b. due rel work j b n) n)) i

  spent_owed : (n : ℕ) → n ≤ N → spent n ≤ owed n
  unfolding spent owed
  spent_owed n u = sum-le i _ _ (λ j h. only-le (L.rival i j) _ _ (λ m. sum-le n _ _ (λ b l. done_due j b n u)))

  inner_mono : (j n : ℕ) → sum (λ b. done ran j b n) n ≤ sum (λ b. done ran j b (suc n)) (suc n)
  unfolding sum
  inner_mono j n = omega (arith, sum-le n (λ b. done ran j b n) (λ b. done ran j b (suc n)) (λ b l. done_mono ran j b (omega arith)))

  spent_mono : (n : ℕ) → spent n ≤ spent (suc n)
  unfolding spent
  spent_mono n = sum-le i _ _ (λ j h. only-le (L.rival i j) _ _ (λ m. inner_mono j n))

  inner_hit : (j b n : ℕ) → b ≤ n → ran n ≡ job j b → sum (λ b. done ran j b n) n < sum (λ b. done ran j b (suc n)) (suc n)
  inner_hit j b n l e =
      omega (
        arith,
        sum_mono (λ b. done ran j b n) {a = n} {b = suc n} (omega arith),
        sum_lt (suc n) (λ b. done ran j b n) (λ b. done ran j b (suc n)) (λ b l. done_mono ran j b (omega arith)) b (omega arith) (omega (arith, done-hit ran j b n e)),
      )

  -- a tick that runs a higher rival's job
  Higher : ℕ → Type 0
  Higher n = (j : ℕ) × (b : ℕ) × (ran n ≡ job j b) × (j < i) × (b ≤ n) × T (L.rival i j)

  spent_hit : (n : ℕ) → Higher n → spent n < spent (suc n)
  unfolding spent Higher
  spent_hit n (j, b, e, l, m, t) =
      sum_lt i _ _ (λ j h. only-le (L.rival i j) _ _ (λ m. inner_mono j n)) j l (rw (only-T _ _ t, only-T _ _ t) (inner_hit j b n m e))

  -- a job of a higher rival that is left at time a
  find : (a : ℕ) → spent a < owed a → (j : ℕ) × (b : ℕ) × (j < i) × (b < a) × T (L.rival i j) × (done ran j b a < due rel work j b a)
  unfolding spent owed
  find a c =
      let v = sum-find i (λ j. only (L.rival i j) (sum (λ b. done ran j b a) a)) (λ j. only (L.rival i j) (sum (λ b. due rel work j b a) a)) c in
      let o = only-lt (L.rival i v.0) _ _ v.2 in
      let w = sum-find a (λ b. done ran v.0 b a) (λ b. due rel work v.0 b a) o.1 in
      (v.0, w.0, v.1, w.1, o.0, w.2)

  module _ (B : Brings L i rel work) (periods : (j : ℕ) → j < i → T (L.rival i j) → 0 < L.period j) where
    owed_one : (j a t : ℕ) → j < i → T (L.rival i j)
        → sum (λ b. due rel work j b (a + t)) (a + t) ≤ sum (λ b. due rel work j b a) a + L.cost j * round_up (t + L.jitter j) (L.period j)
    owed_one j a t h m =
        let J = L.jitter j in
        let c = a - J in
        omega (
          arith,
          sum_mono (λ b. due rel work j b (a + t)) {a = a + t} {b = c + (t + J)} (omega arith),
          sum_split c (t + J) (λ b. due rel work j b (a + t)),
          sum-le c (λ b. due rel work j b (a + t)) (λ b. due rel work j b a) (λ b l. old b l (le-or-lt (work j b) 0)),
          sum_mono (λ b. due rel work j b a) {a = c} {b = a} (omega arith),
          sum-le (t + J) (λ k. due rel work j (c + k) (a + t)) (λ k. work j (c + k)) (λ k l. due_le rel work j (c + k) (a + t)),
          window (work j) (L.cost j) (L.period j) (λ b. B.within j b (omega arith) m) (λ x y p q l. B.apart j x y (omega arith) m p q l) c (t + J) (periods j h m),
        )
      where
        -- what arrived more than the jitter before a was released before a
        old : (b : ℕ) → b < a - L.jitter j → (work j b ≤ 0) ⊎ (0 < work j b) → due rel work j b (a + t) ≤ due rel work j b a
        old b l (inl z) = omega (arith, due_le rel work j b (a + t))
        old b l (inr z) = omega (arith, due_le rel work j b (a + t), due_in rel work j b a (omega (arith, (B.late j b (omega arith) m z).1)))

    owed_step : (a t : ℕ) → owed (a + t) + L.cost i ≤ owed a + demand L i t
    unfolding owed demand asked
    owed_step a t =
        let s : sum (λ j. only (L.rival i j) (sum (λ b. due rel work j b (a + t)) (a + t))) i ≤ sum (λ j. only (L.rival i j) (sum (λ b. due rel work j b a) a)) i + sum (asked L i t) i =
        rw (← sum-add) (sum-le i _ _ (λ j h. rw (← only-add) (only-le (L.rival i j) _ _ (λ m. owed_one j a t h m)))) in
        omega arith

    -- where a job of a higher rival waits in a service tick, the tick runs a higher rival's job
    higher_of : (n x y : ℕ) → n < N → ran n ≡ job x y → x < i → T (L.rival i x) → Higher n
    unfolding Higher
    higher_of n x y v e l m =
        let w = Q.only_waiting n x y v e in
        (x, y, e, l, omega (arith, w.0, (B.late x y (omega arith) m (omega (arith, w.1))).0), m)

    busy : (n j b : ℕ) → n < N → T (sv n) → j < i → T (L.rival i j) → Waiting rel work ran n j b → Higher n
    busy n j b v o l m w = go (Q.in_order n j b v o m w)
      where
        go : (x : ℕ) × (y : ℕ) × (ran n ≡ job x y) × T (L.rival i x) × Before x y j b → Higher n
        go (x, y, e, k, inl h) = higher_of n x y v e (omega arith) k
        go (x, y, e, k, inr h) = higher_of n x y v e (omega (arith, h.0)) k

    -- the job (i, a₀), where every earlier job of its task was in time
    module _ (self : T (L.rival i i)) (a₀ : ℕ) (real : 0 < work i a₀)
        (earlier : (b : ℕ) → b < a₀ → work i b ≤ done ran i b (b + L.deadline i))
        (apart : (b : ℕ) → b < a₀ → 0 < work i b → b + L.deadline i ≤ a₀) where
      step : (n : ℕ) → n < N → T (sv n) → done ran i a₀ n < work i a₀ → (n < rel i a₀ → Higher n) → Higher n ⊎ (ran n ≡ job i a₀)
      step n c o u above = sides (le-or-lt (rel i a₀) n)
        where
          at : rel i a₀ ≤ n → (x : ℕ) × (y : ℕ) × (ran n ≡ job x y) × T (L.rival i x) × Before x y i a₀ → Higher n ⊎ (ran n ≡ job i a₀)
          at l (x, y, e, k, inl h) = inl (higher_of n x y c e h k)
          at l (x, y, e, k, inr (h, m)) = same (le-or-lt a₀ y)
            where
              same : (a₀ ≤ y) ⊎ (y < a₀) → Higher n ⊎ (ran n ≡ job i a₀)
              same (inl g) = let f : y ≡ a₀ = omega arith in inr (e ∙ ap₂ job h f)
              same (inr g) =
                  let w : Waiting rel work ran n i y = subst (λ (z : ℕ). Waiting rel work ran n z y) h (Q.only_waiting n x y c e) in
                  absurd (omega (
                    arith,
                    w.1,
                    earlier y g,
                    (B.late i a₀ (omega arith) self real).0,
                    done_mono ran i y {m = y + L.deadline i} {n = n} (omega (arith, apart y g (omega (arith, w.1)), (B.late i a₀ (omega arith) self real).0)),
                  ))

          sides : (rel i a₀ ≤ n) ⊎ (n < rel i a₀) → Higher n ⊎ (ran n ≡ job i a₀)
          sides (inl l) = at l (Q.in_order n i a₀ c o self (l, u))
          sides (inr l) = inl (above l)

      -- from a on, if every service tick before the release runs a higher rival, each service tick goes to a higher rival or to this job, or it is finished
      module _ (a : ℕ) (above : (n : ℕ) → a ≤ n → n < rel i a₀ → T (sv n) → Higher n) where
        progress : (k : ℕ) → a + k ≤ N → (work i a₀ ≤ done ran i a₀ (a + k)) ⊎ (spent a + count (λ x. sv (a + x)) k ≤ spent (a + k) + done ran i a₀ (a + k))
        unfolding count sum only
        progress zero v = inr (rw (add-zero a) (omega arith))
        progress (suc k) v = rw (add-suc a k) (go (progress k (omega arith)) (le-or-lt (work i a₀) (done ran i a₀ (a + k))))
          where
            Goal : Type 0
            Goal = (work i a₀ ≤ done ran i a₀ (suc (a + k))) ⊎ (spent a + count (λ x. sv (a + x)) (suc k) ≤ spent (suc (a + k)) + done ran i a₀ (suc (a + k)))

            spend : spent a + count (λ x. sv (a + x)) k ≤ spent (a + k) + done ran i a₀ (a + k) → Higher (a + k) ⊎ (ran (a + k) ≡ job i a₀) → spent a + (count (λ x. sv (a + x)) k + 1) ≤ spent (suc (a + k)) + done ran i a₀ (suc (a + k))
            spend h (inl w) = omega (arith, spent_hit (a + k) w, done_mono ran i a₀ {m = a + k} {n = suc (a + k)} (omega arith))
            spend h (inr e) = omega (arith, spent_mono (a + k), done-hit ran i a₀ (a + k) e)

            tick : spent a + count (λ x. sv (a + x)) k ≤ spent (a + k) + done ran i a₀ (a + k) → done ran i a₀ (a + k) < work i a₀ → (b : Bool) → sv (a + k) ≡ b
                → spent a + (count (λ x. sv (a + x)) k + only b 1) ≤ spent (suc (a + k)) + done ran i a₀ (suc (a + k))
            tick h u true e =
                let o : T (sv (a + k)) = subst T (sym e) tt in
                spend h (step (a + k) (omega arith) o u (λ l. above (a + k) (omega arith) l o))
            tick h u false e = omega (arith, spent_mono (a + k), done_mono ran i a₀ {m = a + k} {n = suc (a + k)} (omega arith))

            go : (work i a₀ ≤ done ran i a₀ (a + k)) ⊎ (spent a + count (λ x. sv (a + x)) k ≤ spent (a + k) + done ran i a₀ (a + k)) → (work i a₀ ≤ done ran i a₀ (a + k)) ⊎ (done ran i a₀ (a + k) < work i a₀) → Goal
            go h (inl q) = inl (omega (arith, done_mono ran i a₀ {m = a + k} {n = suc (a + k)} (omega arith)))
            go (inl h) (inr q) = absurd (omega arith)
            go (inr h) (inr q) = inr (tick h q (sv (a + k)) refl)

        -- where nothing of the higher rivals is left at a, the job is finished t ticks later
        finish : (low : ℕ → ℕ) → LowerBound sv low → owed a ≤ spent a → (t : ℕ) → a + t ≤ N → demand L i t ≤ low t → work i a₀ ≤ done ran i a₀ (a + t)
        finish low lb c t v d = go (progress t v)
          where
            go : (work i a₀ ≤ done ran i a₀ (a + t)) ⊎ (spent a + count (λ x. sv (a + x)) t ≤ spent (a + t) + done ran i a₀ (a + t)) → work i a₀ ≤ done ran i a₀ (a + t)
            go (inl h) = h
            go (inr h) = omega (arith, lb a t, spent_owed (a + t) v, owed_step a t, B.within i a₀ (omega arith) self)

      -- back from the release to the last time at which nothing of the higher rivals was left
      module _ (low : ℕ → ℕ) (lb : LowerBound sv low) (pass : Passes L low i) (end : a₀ + L.deadline i ≤ N) where
        clear : (a : ℕ) → a ≤ rel i a₀ → ((n : ℕ) → a ≤ n → n < rel i a₀ → T (sv n) → Higher n) → owed a ≤ spent a → work i a₀ ≤ done ran i a₀ (a₀ + L.deadline i)
        clear a u above c =
            let t = pass.0 in
            let e : a + t ≤ a₀ + L.deadline i = omega (arith, pass.1, pass.2, (B.late i a₀ (omega arith) self real).1) in
            omega (arith, finish a above low lb c t (omega arith) pass.3, done_mono ran i a₀ {m = a + t} {n = a₀ + L.deadline i} e)

        back : (a : ℕ) → a ≤ rel i a₀ → ((n : ℕ) → a ≤ n → n < rel i a₀ → T (sv n) → Higher n) → work i a₀ ≤ done ran i a₀ (a₀ + L.deadline i)
        back zero u above = go (le-or-lt (owed 0) (spent 0))
          where
            go : (owed 0 ≤ spent 0) ⊎ (spent 0 < owed 0) → work i a₀ ≤ done ran i a₀ (a₀ + L.deadline i)
            go (inl c) = clear 0 u above c
            go (inr c) = let w = find 0 c in absurd (omega (arith, w.3))
        back (suc a) u above = go (λ ab. back a (omega arith) ab) (le-or-lt (owed (suc a)) (spent (suc a)))
          where
            in_run : a < N
            in_run = omega (arith, (B.late i a₀ (omega arith) self real).1, pass.1, pass.2)

            more : spent (suc a) < owed (suc a) → (n : ℕ) → a ≤ n → n < rel i a₀ → T (sv n) → (suc a ≤ n) ⊎ (n < suc a) → Higher n
            more c n g m o (inl h) = above n h m o
            more c n g m o (inr h) =
                let w = find (suc a) c in
                let e : a ≡ n = omega arith in
                subst Higher e (busy a w.0 w.1 in_run (subst (λ (x : ℕ). T (sv x)) (sym e) o) w.2 w.4 (
                  omega (arith, due_pos rel work w.0 w.1 (suc a) (omega (arith, w.5))),
                  omega (arith, w.5, due_le rel work w.0 w.1 (suc a), done_mono ran w.0 w.1 {m = a} {n = suc a} (omega arith)),
                ))

            go : (((n : ℕ) → a ≤ n → n < rel i a₀ → T (sv n) → Higher n) → work i a₀ ≤ done ran i a₀ (a₀ + L.deadline i))
                → (owed (suc a) ≤ spent (suc a)) ⊎ (spent (suc a) < owed (suc a)) → work i a₀ ≤ done ran i a₀ (a₀ + L.deadline i)
            go ih (inl c) = clear (suc a) u above c
            go ih (inr c) = ih (λ n g m o. more c n g m o (le-or-lt (suc a) n))

        in_time : work i a₀ ≤ done ran i a₀ (a₀ + L.deadline i)
        in_time = back (rel i a₀) (omega arith) (λ n g m o. absurd (omega arith))

    module _ (self : T (L.rival i i)) (D≤T : L.deadline i ≤ L.period i) (low : ℕ → ℕ) (lb : LowerBound sv low) (pass : Passes L low i) where
      -- every job that arrived before time n, by induction on n
      all : (n a : ℕ) → a < n → a + L.deadline i ≤ N → work i a ≤ done ran i a (a + L.deadline i)
      all zero a h u = absurd (omega arith)
      all (suc n) a h u = go (λ b l v. all n b l v) (le-or-lt (work i a) 0)
        where
          go : ((b : ℕ) → b < n → b + L.deadline i ≤ N → work i b ≤ done ran i b (b + L.deadline i)) → (work i a ≤ 0) ⊎ (0 < work i a) → work i a ≤ done ran i a (a + L.deadline i)
          go ih (inl z) = omega arith
          go ih (inr z) =
              in_time self a z (λ b l. ih b (omega arith) (omega arith)) (λ b l w. omega (arith, B.apart i b a (omega arith) self w z l)) low lb pass u

      pub all_in_time : (a : ℕ) → a + L.deadline i ≤ N → done ran i a (a + L.deadline i) ≡ work i a
      all_in_time a u = le_antisymm (done-le i a (a + L.deadline i) u) (all (suc a) a (omega arith) u)

pub load_theorem : LoadTheorem
load_theorem L i self dt periods sv low lb pass N rel work ran B Q a u = all_in_time L i rel work sv ran N Q B periods self dt low lb pass a u
