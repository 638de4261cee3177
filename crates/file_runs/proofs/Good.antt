-- Good runs as a list, their ticks, and back: runs that the reader accepts, and the runs of a good plan. Assumes nothing.
use Prim.Native.Nat.{ℕ, zero, suc, ◌+◌, ◌-◌, ◌*◌, ◌/◌, ◌%◌, ◌≤◌, ◌<◌}
use mathlib.Core.Path.{◌≡◌, refl, sym, ap, ◌∙◌}
use mathlib.Core.Bool.{Bool, true, false, ◌&&◌, ◌||◌, not}
use mathlib.Core.List.{List, [], ◌∷◌, ◌++◌, append-nil}
use native.Mathlib.Omega.{arith}
use lib.ListN.{length, get_or, take, replicate, length-append, length-replicate}
use lib.Dec.{leb, ltb, eqb}
use borrow.Author.Tests.{le-leb, leb-true, eq-eqb, eqb-false, ne_eqb, lt-ltb, le-ltb, ltb-false, not-true}
use Rattle.rules.specs.Limits.{longest}
use Rattle.rules.specs.Walk.{pick, sum, Every}
use Rattle.rules.specs.Table.{good_tick}
use Rattle.tables.specs.Tables.{counted_in}
use Rattle.rules.proofs.Tests.{and_parts}
use Rattle.rules.proofs.Sum.{sum_mono}
use Rattle.file_tables.specs.Runs.{run_owner, run_length, runs, repeats, reached, good_run}
use Rattle.file_tables.specs.Inner.{runs_counted}
use Rattle.file_codec.proofs.Bytes.{double_more}
use Rattle.file_runs.specs.Ticks.{ticks_of, joined, runs_of}
use Rattle.file_runs.proofs.Ticks.{ticks_more, ticks-all, begins, runs-ended, runs_last, ticks_back}

-- the run in front, if any, has another owner
abbrev Other : ℕ → List ℕ → Type 0
Other o [] = Unit {0}
Other o (p ∷ rs) = p ≡ o → ⊥

-- owners up to np, lengths from 1, neighbours that differ
unfoldable pub Chain : ℕ → List ℕ → Type 0
Chain np [] = Unit {0}
Chain np (o ∷ []) = ⊥
Chain np (o ∷ l ∷ rs) = (o ≤ np) × (1 ≤ l) × Other o rs × Chain np rs

-- ---- from a chain to its ticks

pub runs_back : (np : ℕ) (rs : List ℕ) → Chain np rs → runs_of (ticks_of rs) ≡ rs
unfolding Chain ticks_of runs_of
runs_back np [] g = refl
runs_back np (o ∷ []) g = absurd g
runs_back np (o ∷ zero ∷ rs) g = absurd (omega (arith, g.1))
runs_back np (o ∷ suc l ∷ []) g = rw (append-nil (replicate l o)) (runs_last o l)
runs_back np (o ∷ suc l ∷ p ∷ []) g = absurd g.3
runs_back np (o ∷ suc l ∷ p ∷ zero ∷ rs) g = absurd (omega (arith, g.3.1))
runs_back np (o ∷ suc l ∷ p ∷ suc m ∷ rs) g = runs-ended o l p (replicate m p ++ ticks_of rs) g.2 ∙ ap {B = List ℕ} (λ r. o ∷ suc l ∷ r) (runs_back np (p ∷ suc m ∷ rs) g.3)

small-append : (np o l : ℕ) (x : List ℕ) → o ≤ np → ((k : ℕ) → get_or x k 0 ≤ np) → (k : ℕ) → get_or (replicate l o ++ x) k 0 ≤ np
small-append np o zero x h g k = g k
small-append np o (suc l) x h g zero = h
small-append np o (suc l) x h g (suc k) = small-append np o l x h g k

ticks-small : (np : ℕ) (rs : List ℕ) → Chain np rs → (k : ℕ) → get_or (ticks_of rs) k 0 ≤ np
unfolding Chain ticks_of
ticks-small np [] g k = omega arith
ticks-small np (o ∷ []) g k = absurd g
ticks-small np (o ∷ l ∷ rs) g k = small-append np o l (ticks_of rs) g.0 (ticks-small np rs g.3) k

pub ticks-good : (np : ℕ) (rs : List ℕ) → Chain np rs → (n : ℕ) → Every (good_tick np (ticks_of rs)) n
ticks-good np rs g n k l = le-leb (get_or (ticks_of rs) k 0) np (ticks-small np rs g k)

-- the ticks of the first i runs are as many as their lengths add up to
ticks-sum : (rs : List ℕ) (i : ℕ) → 2 * i ≤ length rs → length (ticks_of (take (2 * i) rs)) ≡ sum (run_length rs) i
unfolding sum run_length ticks_of
ticks-sum rs zero h = refl
ticks-sum rs (suc i) h =
    let q : 2 * suc i ≡ 2 * (i + 1) = omega arith in
    rw (q, ← ticks_more rs i (omega arith), length-append (ticks_of (take (2 * i) rs)) (replicate (get_or rs (2 * i + 1) 0) (get_or rs (2 * i) 0)), length-replicate (get_or rs (2 * i + 1) 0) (get_or rs (2 * i) 0), ticks-sum rs i (omega arith))

pub ticks-length : (rs : List ℕ) → length (ticks_of rs) ≡ sum (run_length rs) (runs rs)
ticks-length rs = ap length (sym (ticks-all rs (runs rs) refl)) ∙ ticks-sum rs (runs rs) (omega arith)

-- ---- runs that are not refused

chain_from : (np : ℕ) (rs : List ℕ) (n : ℕ) → length rs ≡ 2 * n → ((i : ℕ) → i < n → get_or rs (2 * i + 0) 0 ≤ np) → ((i : ℕ) → i < n → 1 ≤ get_or rs (2 * i + 1) 0)
    → ((i : ℕ) → suc i < n → get_or rs (2 * suc i + 0) 0 ≡ get_or rs (2 * i + 0) 0 → ⊥) → Chain np rs
unfolding Chain
chain_from np [] n e ho hl hd = tt
chain_from np (o ∷ []) n e ho hl hd = absurd (omega arith)
chain_from np (o ∷ l ∷ rs) zero e ho hl hd = absurd (omega arith)
chain_from np (o ∷ l ∷ rs) (suc n) e ho hl hd = (
  ho 0 (omega arith),
  hl 0 (omega arith),
  other rs n (omega arith) (hd 0),
  chain_from np rs n (omega arith) (λ i h. rw (double_more i 0) at (ho (suc i) (omega arith))) (λ i h. rw (double_more i 1) at (hl (suc i) (omega arith)))
      (λ i h q. hd (suc i) (omega arith) (rw (double_more (suc i) 0, double_more i 0) (rw (double_more i 0) at q))),
)
  where
    other : (rs : List ℕ) (n : ℕ) → length rs ≡ 2 * n → (1 < suc n → get_or rs 0 0 ≡ o → ⊥) → Other o rs
    other [] n e h = tt
    other (p ∷ rs) n e h = h (omega arith)

-- what a run that is not refused is
pub record GoodRun (parts frame : ℕ) (rs : List ℕ) (k : ℕ) : Type 0 where
  pub owner_in : run_owner rs k ≤ parts
  pub long : 1 ≤ run_length rs k
  pub other : repeats rs k ≡ false
  pub inside : sum (run_length rs) (k + 1) ≤ frame
  pub full : k + 1 ≡ runs rs → frame ≤ sum (run_length rs) (k + 1)

good_run_lem : (parts frame : ℕ) (rs : List ℕ) (k : ℕ) → good_run parts frame rs k ≡ true → GoodRun parts frame rs k
unfolding good_run
good_run_lem parts frame rs k e =
    let o : ℕ = run_owner rs k in
    let l : ℕ = run_length rs k in
    let s : ℕ = reached rs k in
    let e4 = and_parts (leb o parts && leb 1 l && not (repeats rs k) && leb s frame) (ltb (k + 1) (runs rs) || leb frame s) e in
    let e3 = and_parts (leb o parts && leb 1 l && not (repeats rs k)) (leb s frame) e4.0 in
    let e2 = and_parts (leb o parts && leb 1 l) (not (repeats rs k)) e3.0 in
    let e1 = and_parts (leb o parts) (leb 1 l) e2.0 in
    record {
      owner_in = leb-true _ _ e1.0;
      long = leb-true _ _ e1.1;
      other = not-true _ e2.1;
      inside = leb-true _ _ e3.1;
      full = λ q. leb-true frame s (rw (le-ltb (k + 1) (runs rs) (omega arith)) at e4.1);
    }

-- neighbours with one owner repeat
again : (rs : List ℕ) (i : ℕ) → run_owner rs (suc i) ≡ run_owner rs i → repeats rs (suc i) ≡ true
unfolding repeats
again rs i e = let z : suc i - 1 ≡ i = omega arith in rw (lt-ltb 0 (suc i) (omega arith), z) (eq-eqb _ _ e)

pub record Accepted (np frame : ℕ) (rs : List ℕ) : Type 0 where
  pub chain : Chain np rs
  pub fills : length (ticks_of rs) ≡ frame

pub runs-accepted : (np frame nr : ℕ) (rs : List ℕ) → length rs ≡ 2 * nr → 1 ≤ nr → Every (good_run np frame rs) (runs rs) → Accepted np frame rs
unfolding run_owner run_length
runs-accepted np frame nr rs lr pos h =
    let n : runs rs ≡ nr = omega arith in
    let at : (k : ℕ) → k < nr → GoodRun np frame rs k = λ k l. good_run_lem np frame rs k (h k (omega arith)) in
    let last = at (nr - 1) (omega arith) in
    let q : nr - 1 + 1 ≡ runs rs = omega arith in
    let f : sum (run_length rs) (runs rs) ≡ frame = rw (← q) (omega (arith, last.inside, last.full q)) in
    record {
      chain = chain_from np rs nr lr (λ i l. (at i l).owner_in) (λ i l. (at i l).long) (λ i l e. clash rs i (at (suc i) l).other e);
      fills = ticks-length rs ∙ f;
    }
  where
    clash : (rs : List ℕ) (i : ℕ) → repeats rs (suc i) ≡ false → run_owner rs (suc i) ≡ run_owner rs i → ⊥
    clash rs i e q = let z : ◌≡◌ {A = Bool} true false = sym (again rs i q) ∙ e in let y : ◌≡◌ {A = ℕ} 0 1 = cc in omega arith

-- ---- the runs of a good plan

chain_joined : (np t : ℕ) (rs : List ℕ) → t ≤ np → Chain np rs → Chain np (joined t rs)
unfolding Chain joined
chain_joined np t [] h g = (h, omega arith, tt, tt)
chain_joined np t (o ∷ []) h g = absurd g
chain_joined np t (o ∷ l ∷ rs) h g = step (eqb t o) refl
  where
    step : (b : Bool) → eqb t o ≡ b → Chain np (pick b (o ∷ (l + 1) ∷ rs) (t ∷ 1 ∷ o ∷ l ∷ rs))
    step true e = (g.0, omega arith, g.2, g.3)
    step false e = (h, omega arith, (λ q. eqb-false t o e (sym q)), g)

chain_plan : (np : ℕ) (plan : List ℕ) → ((k : ℕ) → k < length plan → get_or plan k 0 ≤ np) → Chain np (runs_of plan)
unfolding Chain runs_of
chain_plan np [] h = tt
chain_plan np (t ∷ plan) h = chain_joined np t (runs_of plan) (h 0 (omega arith)) (chain_plan np plan (λ k l. h (suc k) (omega arith)))

chain_even : (np : ℕ) (rs : List ℕ) → Chain np rs → length rs % 2 ≡ 0
unfolding Chain
chain_even np [] g = refl
chain_even np (o ∷ []) g = absurd g
chain_even np (o ∷ l ∷ rs) g = omega (arith, chain_even np rs g.3)

chain_few : (np : ℕ) (rs : List ℕ) → Chain np rs → length rs / 2 ≤ length (ticks_of rs)
unfolding Chain ticks_of
chain_few np [] g = omega arith
chain_few np (o ∷ []) g = absurd g
chain_few np (o ∷ l ∷ rs) g = rw (length-append (replicate l o) (ticks_of rs), length-replicate l o) (omega (arith, g.1, chain_few np rs g.3))

chain_at : (np : ℕ) (rs : List ℕ) → Chain np rs → (i : ℕ) → i < length rs / 2 → (get_or rs (2 * i + 0) 0 ≤ np) × (1 ≤ get_or rs (2 * i + 1) 0)
unfolding Chain
chain_at np [] g i l = absurd (omega arith)
chain_at np (o ∷ []) g i l = absurd g
chain_at np (o ∷ m ∷ rs) g zero l = (g.0, g.1)
chain_at np (o ∷ m ∷ rs) g (suc i) l = rw (double_more i 0, double_more i 1) (chain_at np rs g.3 i (omega arith))

chain_other : (np : ℕ) (rs : List ℕ) → Chain np rs → (i : ℕ) → suc i < length rs / 2 → get_or rs (2 * suc i + 0) 0 ≡ get_or rs (2 * i + 0) 0 → ⊥
unfolding Chain
chain_other np [] g i l e = absurd (omega arith)
chain_other np (o ∷ []) g i l e = absurd g
chain_other np (o ∷ m ∷ []) g i l e = absurd (omega arith)
chain_other np (o ∷ m ∷ p ∷ rs) g zero l e = g.2 e
chain_other np (o ∷ m ∷ p ∷ rs) g (suc i) l e = chain_other np (p ∷ rs) g.3 i (omega arith) (rw (double_more i 0) (rw (double_more (suc i) 0, double_more i 0) at e))

repeats-not : (np : ℕ) (rs : List ℕ) → Chain np rs → (k : ℕ) → k < length rs / 2 → repeats rs k ≡ false
unfolding repeats run_owner
repeats-not np rs g zero l = refl
repeats-not np rs g (suc k) l =
    let z : suc k - 1 ≡ k = omega arith in
    rw (lt-ltb 0 (suc k) (omega arith), z) (ne_eqb _ _ (chain_other np rs g k l))

run_kept : (np frame : ℕ) (rs : List ℕ) (k : ℕ) → run_owner rs k ≤ np → 1 ≤ run_length rs k → repeats rs k ≡ false → reached rs k ≤ frame
    → (runs rs ≤ k + 1 → frame ≤ reached rs k) → good_run np frame rs k ≡ true
unfolding good_run
run_kept np frame rs k ho hl hr hi hf = rw (le-leb _ _ ho, le-leb _ _ hl, hr, le-leb _ _ hi) (last (ltb (k + 1) (runs rs)) refl)
  where
    last : (b : Bool) → ltb (k + 1) (runs rs) ≡ b → b || leb frame (reached rs k) ≡ true
    last true e = refl
    last false e = le-leb _ _ (hf (ltb-false _ _ e))

-- a chain that fills the frame is not refused
pub chain_good : (np frame : ℕ) (rs : List ℕ) → Chain np rs → length (ticks_of rs) ≡ frame → Every (good_run np frame rs) (runs rs)
unfolding run_owner run_length
chain_good np frame rs g f k l =
    let total : sum (run_length rs) (runs rs) ≡ frame = sym (ticks-length rs) ∙ f in
    let c = chain_at np rs g k l in
    run_kept np frame rs k c.0 c.1 (repeats-not np rs g k l) (omega (arith, total, sum_mono (run_length rs) {a = k + 1} {b = runs rs} (omega arith)))
    (λ h. let q : k + 1 ≡ runs rs = omega arith in rw q (omega (arith, total)))

pub runs_good : (np : ℕ) (plan : List ℕ) → 1 ≤ length plan → length plan ≤ longest → Every (good_tick np plan) (length plan)
    → (runs_counted (length (runs_of plan)) ≡ true) × Every (good_run np (length plan) (runs_of plan)) (runs (runs_of plan))
unfolding counted_in runs_of
runs_good np plan pos h e =
    let g = chain_plan np plan (λ k l. leb-true _ _ (e k l)) in
    let b = ticks_back plan in
    let n : length (runs_of plan) / 2 ≤ length plan = rw b at (chain_few np (runs_of plan) g) in (
      rw (eq-eqb (length (runs_of plan) % 2) 0 (chain_even np (runs_of plan) g), le-leb 1 (length (runs_of plan) / 2) (some plan pos), le-leb (length (runs_of plan) / 2) longest (omega arith)),
      chain_good np (length plan) (runs_of plan) g (ap length b),
    )
  where
    some : (plan : List ℕ) → 1 ≤ length plan → 1 ≤ length (runs_of plan) / 2
    some [] h = absurd (omega arith)
    some (t ∷ plan) h = rw (begins t (runs_of plan)).2 (omega arith)
