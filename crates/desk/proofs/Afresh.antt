-- The flexibilities after a job is taken in are those worked out afresh. Assumes nothing.
use Prim.Native.Nat.{ℕ, zero, suc, ◌+◌, ◌-◌, ◌≤◌, min, max}
use mathlib.Core.Path.{◌≡◌, refl, ◌∙◌}
use mathlib.Core.Bool.{true}
use mathlib.Core.List.{List, [], ◌∷◌, ◌++◌}
use native.Mathlib.Omega.{arith}
use lib.Dec.{eqb}
use lib.ListN.{take, drop}
use borrow.Author.Tests.{eqb-true, eq-eqb}
use Rattle.desk.specs.declared.Job.{Job}
use Rattle.desk.specs.Table.{job, x_of, refit, right_x, ends}
use Rattle.desk.specs.Places.{moved, shift}
use Rattle.desk.specs.Request.{insert_at}
use Rattle.rules.proofs.Tests.{and_parts}

-- the end e of the job before forces the first job no further than its x
abbrev pub Near : ℕ → List Job → Type 0
Near e [] = Unit {0}
Near e (j ∷ js) = e ≤ j.start + j.flex

-- nor each one that it moves the next
abbrev pub AllNear : ℕ → List Job → Type 0
AllNear e [] = Unit {0}
AllNear e (j ∷ js) = Near e (j ∷ js) × AllNear (max e j.start + j.budget) js

-- omega takes at most six case splits, and each `-`, `min` and `max` is one: so the numbers go in small steps
pub sub_both : (m p q : ℕ) → m - p - q ≡ m - (p + q)
sub_both m p q = omega arith

min-sub : (m n p : ℕ) → min (m - p) (n - p) ≡ min m n - p
min-sub m n p = omega arith

falls_last : (a c d x m k : ℕ) → m ≡ a + k → x ≡ d - a - c → x - k ≡ d - m - c
falls_last a c d x m k e h = omega arith

falls_more : (a c d x m k y b l n : ℕ) → m ≡ a + k → n ≡ b + l → l ≤ y → x ≡ min (d - a - c) (y + b - a - c)
    → x - k ≡ min (d - m - c) (y - l + n - m - c)
falls_more a c d x m k y b l n e f g h =
    let back : y - l + n ≡ y + b = omega arith in
    let far : m + c ≡ a + c + k = omega arith in
    let left : x ≡ min d (y + b) - (a + c) = h ∙ rw (sub_both d a c, sub_both (y + b) a c) (min-sub d (y + b) (a + c)) in
    let right : min (d - m - c) (y - l + n - m - c) ≡ min d (y + b) - (a + c + k) =
    rw (back, sub_both d m c, sub_both (y + b) m c, far) (min-sub d (y + b) (a + c + k)) in
    rw (left, right) (sub_both (min d (y + b)) (a + c) k)

past : (e a : ℕ) → max e a ≡ a + (max e a - a)
past e a = omega arith

move_within : (e a x : ℕ) → e ≤ a + x → max e a - a ≤ x
move_within e a x h = omega arith

-- a moved job has the flexibility that the rule gives before the moved jobs after it
x_of-moved : (e : ℕ) (j : Job) (js : List Job) → j.flex ≡ x_of j js → AllNear (max e j.start + j.budget) js
    → (moved e j).flex ≡ x_of (moved e j) (shift (max e j.start + j.budget) js)
x_of-moved e j [] h n = falls_last j.start j.budget j.deadline j.flex (max e j.start) _ (past e j.start) h
x_of-moved e j (k ∷ ks) h n =
    falls_more j.start j.budget j.deadline j.flex (max e j.start) _ k.flex k.start _ (max (max e j.start + j.budget) k.start)
    (past e j.start) (past (max e j.start + j.budget) k.start) (move_within (max e j.start + j.budget) k.start k.flex n.0) h

pub shift_right : (e : ℕ) (js : List Job) → right_x js ≡ true → AllNear e js → right_x (shift e js) ≡ true
shift_right e [] h n = refl
shift_right e (j ∷ js) h n =
    let x : j.flex ≡ x_of j js = eqb-true _ _ (and_parts _ (right_x js) h).0 in
    rw (eq-eqb _ _ (x_of-moved e j js x n.1)) (shift_right (max e j.start + j.budget) js (and_parts (eqb j.flex (x_of j js)) _ h).1 n.1)

x_of_with : (j : Job) (v : ℕ) (ks : List Job) → v ≡ x_of j ks → v ≡ x_of (job j.start j.budget j.deadline v) ks
x_of_with j v [] h = h
x_of_with j v (k ∷ ks) h = h

pub refit_right : (js ks : List Job) → right_x ks ≡ true → right_x (refit js ks) ≡ true
refit_right [] ks h = h
refit_right (j ∷ js) ks h = rw (eq-eqb _ _ (x_of_with j _ (refit js ks) refl)) (refit_right js ks h)

pub drop_right : (i : ℕ) (js : List Job) → right_x js ≡ true → right_x (drop i js) ≡ true
drop_right zero js h = h
drop_right (suc i) [] h = h
drop_right (suc i) (j ∷ js) h = drop_right i js (and_parts (eqb j.flex (x_of j js)) _ h).1

pub insert_right : (i : ℕ) (new : Job) (js : List Job) → right_x js ≡ true → AllNear (ends new) (drop i js)
    → right_x (insert_at i new js) ≡ true
insert_right i new js h n = refit_right (take i js ++ (new ∷ [])) _ (shift_right (ends new) (drop i js) (drop_right i js h) n)
