-- The order of a table as facts on numbers, kept by dropping, moving and taking in. Assumes nothing.
use Prim.Native.Nat.{ℕ, ◌+◌, ◌-◌, ◌<◌, ◌≤◌, max}
use mathlib.Core.Path.{◌≡◌, refl, sym, ap, subst}
use mathlib.Core.Bool.{Bool, true, false}
use mathlib.Core.List.{List, [], ◌∷◌}
use native.Mathlib.Nat.{min-le_right}
use native.Mathlib.Omega.{arith}
use lib.Dec.{leb, eqb}
use borrow.Author.Tests.{eqb-true, leb-true, le-leb, lt-leb, leb-false}
use Rattle.rules.specs.Limits.{latest}
use Rattle.desk.specs.declared.Job.{Job}
use Rattle.rules.specs.Walk.{pick}
use mathlib.Core.Bool.{◌&&◌}
use Rattle.desk.specs.Table.{x_of, right_x, ordered, job_ok, ends}
use Rattle.desk.specs.Places.{shift}
use Rattle.desk.specs.Request.{kept}
use Rattle.rules.proofs.Tests.{and_parts}
use Rattle.desk.proofs.Check.{x_of-le}
use Rattle.desk.proofs.Afresh.{Near, AllNear, sub_both}

pub record Fine (j : Job) : Type 0 where
  pub some : 1 ≤ j.budget
  pub in_time : ends j ≤ j.deadline
  pub low : j.deadline ≤ latest

-- each job is fine and starts when the one before has ended, the first not before e
abbrev pub Chain : ℕ → List Job → Type 0
Chain e [] = Unit {0}
Chain e (j ∷ js) = (e ≤ j.start) × Fine j × Chain (ends j) js

pub chain_low : (e f : ℕ) (js : List Job) → f ≤ e → Chain e js → Chain f js
chain_low e f [] h g = tt
chain_low e f (j ∷ js) h g = (omega (arith, g.0), g.1, g.2)

fine_of : (j : Job) → job_ok j ≡ true → Fine j
fine_of j h =
    let one = (and_parts (leb 1 j.budget) _ h).1 in
    record {
      some = leb-true _ _ (and_parts _ _ h).0;
      in_time = leb-true _ _ (and_parts _ _ one).0;
      low = leb-true _ _ (and_parts (leb (ends j) j.deadline) _ one).1;
    }

fine_ok : (j : Job) → Fine j → job_ok j ≡ true
fine_ok j h = rw (le-leb 1 j.budget h.some, le-leb (ends j) j.deadline h.in_time) (le-leb j.deadline latest h.low)

pub chain_of : (e : ℕ) (js : List Job) → ordered e js ≡ true → Chain e js
chain_of e [] h = tt
chain_of e (j ∷ js) h =
    let rest : (job_ok j && ordered (ends j) js) ≡ true = (and_parts (leb e j.start) _ h).1 in
    (leb-true _ _ (and_parts _ _ h).0, fine_of j (and_parts _ _ rest).0, chain_of (ends j) js (and_parts (job_ok j) _ rest).1)

pub chain_ok : (e : ℕ) (js : List Job) → Chain e js → ordered e js ≡ true
chain_ok e [] g = refl
chain_ok e (j ∷ js) g = rw (le-leb e j.start g.0, fine_ok j g.1) (chain_ok (ends j) js g.2)

kept-late : (t e : ℕ) (js : List Job) → t < e → Chain e js → kept t js ≡ js
kept-late t e [] h g = refl
kept-late t e (j ∷ js) h g =
    let late : t < ends j = omega (arith, g.0) in
    rw (lt-leb (ends j) t late) (ap (λ (l : List Job). j ∷ l) (kept-late t (ends j) js late g.2))

-- jobs from t on are all left at t
pub kept_from : (t : ℕ) (js : List Job) → Chain t js → kept t js ≡ js
kept_from t [] g = refl
kept_from t (j ∷ js) g =
    let late : t < ends j = omega (arith, g.0, g.1.some) in
    rw (lt-leb (ends j) t late) (ap (λ (l : List Job). j ∷ l) (kept-late t (ends j) js late g.2))

-- and those left once are left again
pub kept_twice : (t : ℕ) (js : List Job) → kept t (kept t js) ≡ kept t js
kept_twice t [] = refl
kept_twice t (j ∷ js) = cases (leb (ends j) t) refl (kept_twice t js) where
  cases : (b : Bool) → leb (ends j) t ≡ b → kept t (kept t js) ≡ kept t js
      → kept t (pick b (kept t js) (j ∷ kept t js)) ≡ pick b (kept t js) (j ∷ kept t js)
  cases true h w = w
  cases false h w = rw h (ap (λ (l : List Job). j ∷ l) w)

pub chain_kept : (t e : ℕ) (js : List Job) → Chain e js → Chain e (kept t js)
chain_kept t e [] g = tt
chain_kept t e (j ∷ js) g = cases (leb (ends j) t) refl (chain_kept t (ends j) js g.2) where
  cases : (b : Bool) → leb (ends j) t ≡ b → Chain (ends j) (kept t js) → Chain e (pick b (kept t js) (j ∷ kept t js))
  cases true h r = chain_low (ends j) e (kept t js) (omega (arith, g.0)) r
  cases false h r = (g.0, g.1, r)

pub right_kept : (t e : ℕ) (js : List Job) → Chain e js → right_x js ≡ true → right_x (kept t js) ≡ true
right_kept t e [] g r = refl
right_kept t e (j ∷ js) g r = cases (leb (ends j) t) refl (right_kept t (ends j) js g.2 (and_parts (eqb j.flex (x_of j js)) _ r).1) where
  cases : (b : Bool) → leb (ends j) t ≡ b → right_x (kept t js) ≡ true → right_x (pick b (kept t js) (j ∷ kept t js)) ≡ true
  cases true h w = w
  cases false h w = rw (kept-late t (ends j) js (leb-false _ _ h) g.2) r

near_next : (e : ℕ) (j : Job) (js : List Job) → e ≤ j.start + j.flex → j.flex ≡ x_of j js → Chain (ends j) js
    → Near (max e j.start + j.budget) js
near_next e j [] h x g = tt
near_next e j (k ∷ ks) h x g =
    let low : j.flex ≤ k.flex + k.start - j.start - j.budget =
    subst (λ (v : ℕ). v ≤ k.flex + k.start - j.start - j.budget) (sym x) (min-le_right _ _) in
    let sum : j.flex + (ends j) ≤ k.flex + k.start = omega (arith, sub_both (k.flex + k.start) j.start j.budget, g.0) in
    let top : max e j.start ≤ j.start + j.flex = omega arith in
    omega arith

-- on a sound table no later move exceeds its x once the first one fits
pub all_near : (e f : ℕ) (js : List Job) → Chain f js → right_x js ≡ true → Near e js → AllNear e js
all_near e f [] g r h = tt
all_near e f (j ∷ js) g r h =
    let x : j.flex ≡ x_of j js = eqb-true _ _ (and_parts _ (right_x js) r).0 in
    (h, all_near (max e j.start + j.budget) (ends j) js g.2 (and_parts (eqb j.flex (x_of j js)) _ r).1 (near_next e j js h x g.2))

-- with right flexibilities and the first move within its x, all stay fine
pub chain_shift : (e : ℕ) (js : List Job) → Chain 0 js → right_x js ≡ true → Near e js → Chain e (shift e js)
chain_shift e [] g r h = tt
chain_shift e (j ∷ js) g r h =
    let x : j.flex ≡ x_of j js = eqb-true _ _ (and_parts _ (right_x js) r).0 in
    let top : max e j.start ≤ j.start + j.flex = omega arith in
    let low = x_of-le j js in (
      omega arith,
      record { some = g.1.some; in_time = omega (arith, g.1.in_time); low = g.1.low },
      chain_shift (max e j.start + j.budget) js (chain_low _ 0 js (omega arith) g.2) (and_parts (eqb j.flex (x_of j js)) _ r).1
          (near_next e j js h x g.2),
    )
