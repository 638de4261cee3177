-- The flexibility pass against the desk's `refit`. Assumes nothing.
use Prim.Native.Nat.{ℕ, suc, ◌+◌, ◌-◌, ◌≤◌, min}
use mathlib.Core.Path.{◌≡◌, refl, sym, ap, ◌∙◌}
use mathlib.Core.List.{List, [], ◌∷◌, ◌++◌, append_assoc}
use native.Mathlib.Omega.{arith}
use native.Mathlib.Nat.{add-zero}
use lib.ListN.{length}
use Rattle.desk.specs.declared.Job.{Job}
use Rattle.desk.specs.Table.{job, x_of, refit}
use Rattle.desk_writing.specs.declared.fit.Fit.{Fit}
use Rattle.desk_records.specs.Folds.{fold_back, back}
use Rattle.desk_records.specs.Sums.{most32}
use Rattle.desk_writing.specs.Writing.{fit_from, fitted, fit_out, fit_step, fitted_all}
use Rattle.desk_engine.proofs.Counts.{some_more, one_less}

-- when the first of ks starts at the latest, far off if there is none
abbrev pub behind_of : List Job → ℕ
behind_of [] = most32
behind_of (k ∷ ks) = k.flex + k.start

-- no deadline is later than far off
abbrev pub Dues : List Job → Type 0
Dues [] = Unit {0}
Dues (j ∷ js) = (j.deadline ≤ most32) × Dues js

fit_wait : (k h : ℕ) (j : Job) → fit_step (fit_from (suc k) h) j ≡ fit_from k h
fit_wait k h j = rw (some_more k, one_less k)

fit_wait_out : (k h : ℕ) (j : Job) → fit_out (fit_from (suc k) h) j ≡ j
fit_wait_out k h j = rw (some_more k)

fold_back_wait : (z : List Job) (k h : ℕ) → fold_back fit_step (fit_from (length z + k) h) z ≡ fit_from k h
unfolding fold_back
fold_back_wait [] k h = let e : 0 + k ≡ k = omega arith in ap (λ (i : ℕ). fit_from i h) e
fold_back_wait (j ∷ z) k h =
    let e : suc (length z) + k ≡ length z + suc k = omega arith in
    ap (λ (i : ℕ). fit_step (fold_back fit_step (fit_from i h) z) j) e ∙ ap (λ (s : Fit). fit_step s j) (fold_back_wait z (suc k) h) ∙ fit_wait k h j

back_wait : (z : List Job) (k h : ℕ) → back fit_step fit_out (fit_from (length z + k) h) z ≡ z
unfolding back
back_wait [] k h = refl
back_wait (j ∷ z) k h =
    let e : suc (length z) + k ≡ length z + suc k = omega arith in
    ap (λ (i : ℕ). fit_out (fold_back fit_step (fit_from i h) z) j ∷ back fit_step fit_out (fit_from i h) z) e
    ∙ ap (λ (s : Fit). fit_out s j ∷ back fit_step fit_out (fit_from (length z + suc k) h) z) (fold_back_wait z (suc k) h)
    ∙ ap (λ (v : Job). v ∷ back fit_step fit_out (fit_from (length z + suc k) h) z) (fit_wait_out k h j)
    ∙ ap (λ (r : List Job). j ∷ r) (back_wait z (suc k) h)

own_least : (d m a c : ℕ) → d ≤ m → min (d - a - c) (m - a - c) ≡ d - a - c
own_least d m a c h = omega (arith, h)

fitted_is : (j : Job) (ks : List Job) → j.deadline ≤ most32 → fitted (fit_from 0 (behind_of ks)) j ≡ job j.start j.budget j.deadline (x_of j ks)
fitted_is j [] h = ap (job j.start j.budget j.deadline) (own_least j.deadline most32 j.start j.budget h)
fitted_is j (k ∷ ks) h = refl

fold_back-refit : (js ks : List Job) → Dues js → fold_back fit_step (fit_from 0 (behind_of ks)) js ≡ fit_from 0 (behind_of (refit js ks))
unfolding fold_back
fold_back-refit [] ks w = refl
fold_back-refit (j ∷ js) ks w =
    ap (λ (s : Fit). fit_step s j) (fold_back-refit js ks w.1)
    ∙ ap (λ (v : Job). fit_from 0 (v.flex + v.start)) (fitted_is j (refit js ks) w.0)

back-refit : (js ks : List Job) → Dues js → back fit_step fit_out (fit_from 0 (behind_of ks)) js ++ ks ≡ refit js ks
unfolding back
back-refit [] ks w = refl
back-refit (j ∷ js) ks w =
    ap (λ (s : Fit). fit_out s j ∷ (back fit_step fit_out (fit_from 0 (behind_of ks)) js ++ ks)) (fold_back-refit js ks w.1)
    ∙ ap (λ (v : Job). v ∷ (back fit_step fit_out (fit_from 0 (behind_of ks)) js ++ ks)) (fitted_is j (refit js ks) w.0)
    ∙ ap (λ (r : List Job). job j.start j.budget j.deadline (x_of j (refit js ks)) ∷ r) (back-refit js ks w.1)

fold_back-append : (s : Fit) (xs ys : List Job) → fold_back fit_step s (xs ++ ys) ≡ fold_back fit_step (fold_back fit_step s ys) xs
unfolding fold_back
fold_back-append s [] ys = refl
fold_back-append s (x ∷ xs) ys = ap (λ (r : Fit). fit_step r x) (fold_back-append s xs ys)

back-append : (s : Fit) (xs ys : List Job) → back fit_step fit_out s (xs ++ ys) ≡ back fit_step fit_out (fold_back fit_step s ys) xs ++ back fit_step fit_out s ys
unfolding back
back-append s [] ys = refl
back-append s (x ∷ xs) ys =
    ap (λ (r : Fit). fit_out r x ∷ back fit_step fit_out s (xs ++ ys)) (fold_back-append s xs ys)
    ∙ ap (λ (r : List Job). fit_out (fold_back fit_step (fold_back fit_step s ys) xs) x ∷ r) (back-append s xs ys)

-- ks and z stay as they are, and js get their x
pub fit_law : (js ks z : List Job) → Dues js → fitted_all (fit_from (length (ks ++ z)) (behind_of ks)) (js ++ (ks ++ z)) ≡ refit js ks ++ z
unfolding fitted_all
fit_law js ks z w =
    let m : ℕ = length (ks ++ z) in
    let h : ℕ = behind_of ks in
    let e : fold_back fit_step (fit_from m h) (ks ++ z) ≡ fit_from 0 h =
    ap (λ (i : ℕ). fold_back fit_step (fit_from i h) (ks ++ z)) (sym (add-zero m)) ∙ fold_back_wait (ks ++ z) 0 h in
    let b : back fit_step fit_out (fit_from m h) (ks ++ z) ≡ ks ++ z =
    ap (λ (i : ℕ). back fit_step fit_out (fit_from i h) (ks ++ z)) (sym (add-zero m)) ∙ back_wait (ks ++ z) 0 h in
    back-append (fit_from m h) js (ks ++ z)
    ∙ ap (λ (r : List Job). back fit_step fit_out (fold_back fit_step (fit_from m h) (ks ++ z)) js ++ r) b
    ∙ ap (λ (s : Fit). back fit_step fit_out s js ++ (ks ++ z)) e
    ∙ sym (append_assoc (back fit_step fit_out (fit_from 0 h) js) ks z)
    ∙ ap (λ (r : List Job). r ++ z) (back-refit js ks w)
