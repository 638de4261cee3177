-- Laws of runs and ticks: what the loops' turns say, and that each gives back the other. Assumes nothing.
use Prim.Native.Nat.{ℕ, zero, suc, ◌+◌, ◌*◌, ◌/◌, ◌≤◌, ◌<◌}
use mathlib.Core.Path.{◌≡◌, refl, sym}
use mathlib.Core.Bool.{Bool, true, false}
use mathlib.Core.List.{List, [], ◌∷◌, ◌++◌, append_assoc, append-nil}
use native.Mathlib.Numerals.{add-one}
use native.Mathlib.Omega.{arith}
use lib.ListN.{length, get_or, take, drop, replicate, replicate-append-replicate}
use lib.Seq.{drop-cons, drop-length}
use lib.Dec.{eqb}
use borrow.Author.Tests.{le-leb, lt-leb, eqb-true, eqb-false, eq-eqb, ne_eqb}
use Rattle.rules.specs.Limits.{longest}
use Rattle.rules.specs.Walk.{pick}
use Rattle.output.specs.Put.{Put}
use Rattle.file_codec.proofs.Bytes.{double, double_more}
use Rattle.file_tables.specs.Runs.{run_owner, run_length}
use Rattle.file_runs.specs.Ticks.{ticks_of, joined, runs_of, ticks_put, runs_put}
use Rattle.output.proofs.Put.{Rest, rest_more, rest-none}

-- ---- from runs to ticks

pub rep_more : (k x : ℕ) → replicate k x ++ (x ∷ []) ≡ replicate (k + 1) x
rep_more k x = replicate-append-replicate k 1 x

double_next : (i : ℕ) → 2 * (suc i + 1) ≡ suc (suc (2 * (i + 1)))
double_next i = omega arith

-- a turn at run i
pub ticks_more : (rs : List ℕ) (i : ℕ) → 2 * i + 1 < length rs
    → ticks_of (take (2 * i) rs) ++ replicate (get_or rs (2 * i + 1) 0) (get_or rs (2 * i) 0) ≡ ticks_of (take (2 * (i + 1)) rs)
unfolding ticks_of
ticks_more [] i h = absurd (omega arith)
ticks_more (o ∷ []) i h = absurd (omega arith)
ticks_more (o ∷ l ∷ rs) zero h = sym (append-nil (replicate l o))
ticks_more (o ∷ l ∷ rs) (suc i) h = rw (double_more i 1, double i, double_next i, ← ticks_more rs i (omega arith)) (append_assoc (replicate l o) (ticks_of (take (2 * i) rs)) (replicate (get_or rs (2 * i + 1) 0) (get_or rs (2 * i) 0)))

pub run_more : (rs : List ℕ) (i : ℕ) → 2 * i + 1 < length rs → ticks_of (take (2 * i) rs) ++ replicate (run_length rs i) (run_owner rs i) ≡ ticks_of (take (2 * (i + 1)) rs)
unfolding run_owner run_length
run_more rs i h = let z : 2 * i + 0 ≡ 2 * i = omega arith in rw z (ticks_more rs i h)

-- all the runs, an odd number at the end left out
pub ticks-all : (rs : List ℕ) (i : ℕ) → i ≡ length rs / 2 → ticks_of (take (2 * i) rs) ≡ ticks_of rs
unfolding ticks_of
ticks-all [] i e = let z : i ≡ 0 = omega arith in rw z
ticks-all (o ∷ []) i e = let z : i ≡ 0 = omega arith in rw z
ticks-all (o ∷ l ∷ rs) zero e = absurd (omega arith)
ticks-all (o ∷ l ∷ rs) (suc i) e = rw (double i, ticks-all rs i (omega arith))

pub ticks-none : (rs : List ℕ) → 8192 < length rs → ticks_put rs ≡ []
unfolding ticks_put
ticks-none rs h = rw (lt-leb (length rs) 8192 h)

pub ticks-some : (rs : List ℕ) → length rs ≤ 8192 → ticks_put rs ≡ ticks_of rs
unfolding ticks_put
ticks-some rs h = rw (le-leb (length rs) 8192 h)

-- ---- from ticks to runs

-- runs with t in front begin with a run of t
pub begins : (t : ℕ) (rs : List ℕ) → (l : ℕ) × (xs : List ℕ) × (joined t rs ≡ t ∷ l ∷ xs)
unfolding joined
begins t [] = (1, [], refl)
begins t (o ∷ []) = (1, o ∷ [], refl)
begins t (o ∷ l ∷ rs) = step (eqb t o) refl
  where
    step : (b : Bool) → eqb t o ≡ b → (m : ℕ) × (xs : List ℕ) × (pick b (o ∷ (l + 1) ∷ rs) (t ∷ 1 ∷ o ∷ l ∷ rs) ≡ t ∷ m ∷ xs)
    step true e = let q : t ≡ o = eqb-true t o e in (l + 1, rs, rw q)
    step false e = (1, o ∷ l ∷ rs, refl)

joined_same : (t l : ℕ) (rs : List ℕ) → joined t (t ∷ l ∷ rs) ≡ t ∷ (l + 1) ∷ rs
unfolding joined
joined_same t l rs = rw (eq-eqb t t refl)

joined_other : (o t : ℕ) (rs : List ℕ) → (t ≡ o → ⊥) → joined o (joined t rs) ≡ o ∷ 1 ∷ joined t rs
unfolding joined
joined_other o t rs h =
    let b = begins t rs in
    let n : (o ≡ t → ⊥) = λ e. h (sym e) in
    rw (b.2, ne_eqb o t n)

-- a run that the next tick ends
pub runs-ended : (o l t : ℕ) (plan : List ℕ) → (t ≡ o → ⊥) → runs_of (replicate (suc l) o ++ t ∷ plan) ≡ o ∷ suc l ∷ runs_of (t ∷ plan)
unfolding runs_of
runs-ended o zero t plan h = joined_other o t (runs_of plan) h
runs-ended o (suc l) t plan h = rw (runs-ended o l t plan h, joined_same o (suc l) (joined t (runs_of plan)), add-one (suc l))

-- the last run
pub runs_last : (o l : ℕ) → runs_of (replicate (suc l) o) ≡ o ∷ suc l ∷ []
unfolding runs_of joined
runs_last o zero = refl
runs_last o (suc l) = rw (runs_last o l, joined_same o (suc l) [], add-one (suc l))

-- a turn at tick k: the run of owner so far, long ticks of it, and the ticks from k on are still to be put
pub runs-turn : {l s o m : List ℕ} {at j : ℕ} (plan : List ℕ) (owner long k t : ℕ) → k < length plan → 1 ≤ long → t ≡ get_or plan k 0
    → Rest l s at o (runs_of (replicate long owner ++ drop k plan)) → Put o at (pick (eqb t owner) [] (owner ∷ long ∷ [])) j m
    → Rest l s j m (runs_of (replicate (pick (eqb t owner) (long + 1) 1) t ++ drop (k + 1) plan))
runs-turn {l} {s} {o} {m} {at} {j} plan owner long k t h pos et r p = step (eqb t owner) refl p
  where
    here : drop k plan ≡ t ∷ drop (k + 1) plan
    here = rw (add-one k, et) (drop-cons plan k 0 h)

    step : (b : Bool) → eqb t owner ≡ b → Put o at (pick b [] (owner ∷ long ∷ [])) j m → Rest l s j m (runs_of (replicate (pick b (long + 1) 1) t ++ drop (k + 1) plan))
    step true e p =
        let q : t ≡ owner = eqb-true t owner e in
        let z : replicate long owner ++ drop k plan ≡ replicate (long + 1) t ++ drop (k + 1) plan =
        rw (here, q, ← rep_more long owner) (sym (append_assoc (replicate long owner) (owner ∷ []) (drop (k + 1) plan))) in
        rest_more {a = []} (rw z at r) p
    step false e p = rest_more {a = owner ∷ long ∷ []} (ended long pos r) p
      where
        ended : (n : ℕ) → 1 ≤ n → Rest l s at o (runs_of (replicate n owner ++ drop k plan)) → Rest l s at o (owner ∷ n ∷ runs_of (t ∷ drop (k + 1) plan))
        ended zero pos r = absurd (omega arith)
        ended (suc n) pos r = rw (here, runs-ended owner n t (drop (k + 1) plan) (eqb-false t owner e)) at r

pub runs_end : {l s o m : List ℕ} {at j : ℕ} (plan : List ℕ) (owner long k : ℕ) → k ≡ length plan → 1 ≤ long
    → Rest l s at o (runs_of (replicate long owner ++ drop k plan)) → Put o at (owner ∷ long ∷ []) j m → Put l 0 s j m
runs_end {l} {s} {o} {m} {at} {j} plan owner long k e pos r p = rest-none (last long pos r) p
  where
    last : (n : ℕ) → 1 ≤ n → Rest l s at o (runs_of (replicate n owner ++ drop k plan)) → Rest l s at o (owner ∷ n ∷ [])
    last zero pos r = absurd (omega arith)
    last (suc n) pos r = rw (e, drop-length plan, append-nil (replicate (suc n) owner), runs_last owner n) at r

pub runs_none : (plan : List ℕ) → longest < length plan → runs_put plan ≡ []
unfolding runs_put
runs_none plan h = rw (lt-leb (length plan) longest h)

pub runs-some : (plan : List ℕ) → length plan ≤ longest → runs_put plan ≡ runs_of plan
unfolding runs_put
runs-some plan h = rw (le-leb (length plan) longest h)

-- a plan of no ticks has no runs
pub runs-empty : (plan : List ℕ) → length plan < 1 → runs_put plan ≡ []
unfolding runs_put runs_of
runs-empty [] h = refl
runs-empty (t ∷ plan) h = absurd (omega arith)

-- ---- there and back

ticks-joined : (t : ℕ) (rs : List ℕ) → ticks_of (joined t rs) ≡ t ∷ ticks_of rs
unfolding ticks_of joined
ticks-joined t [] = refl
ticks-joined t (o ∷ []) = refl
ticks-joined t (o ∷ l ∷ rs) = step (eqb t o) refl
  where
    step : (b : Bool) → eqb t o ≡ b → ticks_of (pick b (o ∷ (l + 1) ∷ rs) (t ∷ 1 ∷ o ∷ l ∷ rs)) ≡ t ∷ (replicate l o ++ ticks_of rs)
    step true e = let q : t ≡ o = eqb-true t o e in rw (add-one l, q)
    step false e = refl

pub ticks_back : (plan : List ℕ) → ticks_of (runs_of plan) ≡ plan
unfolding runs_of ticks_of
ticks_back [] = refl
ticks_back (t ∷ plan) = rw (ticks-joined t (runs_of plan), ticks_back plan)
