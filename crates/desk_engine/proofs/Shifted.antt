-- The shift pass against the desk's `shift`. Assumes nothing.
use Prim.Native.Nat.{ℕ, suc, ◌+◌, ◌-◌, ◌≤◌, max}
use mathlib.Core.Path.{◌≡◌, refl, ap, ◌∙◌}
use mathlib.Core.List.{List, [], ◌∷◌, ◌++◌}
use native.Mathlib.Omega.{arith}
use lib.ListN.{length, replicate}
use Rattle.desk.specs.declared.Job.{Job}
use Rattle.desk.specs.Table.{none, ends}
use Rattle.desk.specs.Places.{moved, shift}
use Rattle.desk.proofs.Afresh.{AllNear}
use Rattle.desk_writing.specs.declared.shift.Shift.{Shift}
use Rattle.desk_records.specs.Folds.{forth}
use Rattle.desk_records.specs.Sums.{most32, sum_to}
use Rattle.desk_writing.specs.Writing.{shift_from, shift_out, shift_step, shifted}
use Rattle.desk_engine.proofs.Counts.{some_more, one_less, sum_is}

abbrev shift_at : ℕ → ℕ → ℕ → Job → Shift
shift_at before put end carry = record { before = before; put = put; end = end; carry = carry }

shift-before : (n put end : ℕ) (carry j : Job) → shift_step (shift_at (suc n) put end carry) j ≡ shift_at n put end carry
shift-before n put end carry j = rw (some_more n, one_less n)

shift-before_out : (n put end : ℕ) (carry j : Job) → shift_out (shift_at (suc n) put end carry) j ≡ j
shift-before_out n put end carry j = rw (some_more n)

shift_put : (n e : ℕ) (k j : Job) → shift_step (shift_at 0 (suc n) e k) j ≡ shift_at 0 n (sum_to (max e k.start) k.budget) j
shift_put n e k j = rw (some_more n, one_less n)

shift_put_out : (n e : ℕ) (k j : Job) → shift_out (shift_at 0 (suc n) e k) j ≡ moved e k
shift_put_out n e k j = rw (some_more n)

forth-cons : (s s₂ : Shift) (j v : Job) (l : List Job) → shift_step s j ≡ s₂ → shift_out s j ≡ v → forth shift_step shift_out s (j ∷ l) ≡ v ∷ forth shift_step shift_out s₂ l
unfolding forth
forth-cons s s₂ j v l e f = ap (λ (r : Shift). shift_out s j ∷ forth shift_step shift_out r l) e ∙ ap (λ (u : Job). u ∷ forth shift_step shift_out s₂ l) f

forth-before : (xs ys : List Job) (put end : ℕ) (carry : Job)
    → forth shift_step shift_out (shift_at (length xs) put end carry) (xs ++ ys) ≡ xs ++ forth shift_step shift_out (shift_at 0 put end carry) ys
unfolding forth
forth-before [] ys put end carry = refl
forth-before (x ∷ xs) ys put end carry =
    forth-cons (shift_at (suc (length xs)) put end carry) (shift_at (length xs) put end carry) x x (xs ++ ys) (shift-before (length xs) put end carry x) (shift-before_out (length xs) put end carry x)
    ∙ ap (λ (r : List Job). x ∷ r) (forth-before xs ys put end carry)

forth-none : (z : List Job) (end : ℕ) (carry : Job) → forth shift_step shift_out (shift_at 0 0 end carry) z ≡ replicate (length z) none
unfolding forth
forth-none [] end carry = refl
forth-none (y ∷ z) end carry = ap (λ (r : List Job). none ∷ r) (forth-none z end carry)

-- the ends of the jobs of js, moved from e on, are within 32 bits
abbrev pub Within : ℕ → List Job → Type 0
Within e [] = Unit {0}
Within e (j ∷ js) = (max e j.start + j.budget ≤ most32) × Within (max e j.start + j.budget) js

forth_push : (e : ℕ) (k : Job) (ks : List Job) (y : Job) (z : List Job) → Within e (k ∷ ks)
    → forth shift_step shift_out (shift_at 0 (suc (length ks)) e k) (ks ++ (y ∷ z)) ≡ shift e (k ∷ ks) ++ replicate (length z) none
unfolding forth
forth_push e k [] y z w =
    forth-cons (shift_at 0 1 e k) (shift_at 0 0 (sum_to (max e k.start) k.budget) y) y (moved e k) z (shift_put 0 e k y) (shift_put_out 0 e k y)
    ∙ ap (λ (r : List Job). moved e k ∷ r) (forth-none z (sum_to (max e k.start) k.budget) y)
forth_push e k (k₂ ∷ ks) y z w =
    forth-cons (shift_at 0 (suc (suc (length ks))) e k) (shift_at 0 (suc (length ks)) (sum_to (max e k.start) k.budget) k₂) k₂ (moved e k) (ks ++ (y ∷ z)) (shift_put (suc (length ks)) e k k₂) (shift_put_out (suc (length ks)) e k k₂)
    ∙ ap (λ (i : ℕ). moved e k ∷ forth shift_step shift_out (shift_at 0 (suc (length ks)) i k₂) (ks ++ (y ∷ z))) (sum_is (max e k.start) k.budget w.0)
    ∙ ap (λ (r : List Job). moved e k ∷ r) (forth_push (max e k.start + k.budget) k₂ ks y z w.1)

-- from 0 on the first job is not moved
first_stays : (j : Job) → moved 0 j ≡ j
first_stays j =
    let e : max 0 j.start ≡ j.start = omega arith in
    let f : j.flex - (j.start - j.start) ≡ j.flex = omega arith in
    rw (e, f)

-- xs stay, the new job is put, ks are moved behind it, and zeros follow: one place fewer than there were
pub shift_law : (xs ks : List Job) (new y : Job) (z : List Job) → ends new ≤ most32 → Within (ends new) ks
    → shifted (shift_from (length xs) (suc (length ks)) new) (xs ++ (ks ++ (y ∷ z))) ≡ xs ++ (new ∷ (shift (ends new) ks ++ replicate (length z) none))
unfolding shifted
shift_law xs ks new y z h w =
    let e : max 0 new.start ≡ new.start = omega arith in
    let all : Within 0 (new ∷ ks) = rw e (h, w) in
    forth-before xs (ks ++ (y ∷ z)) (suc (length ks)) 0 new
    ∙ ap (λ (r : List Job). xs ++ r) (forth_push 0 new ks y z all)
    ∙ ap (λ (m : Job). xs ++ (m ∷ (shift (ends m) ks ++ replicate (length z) none))) (first_stays new)

-- no new job: the listed ones stay, and zeros follow
pub clear_law : (xs z : List Job) → shifted (shift_from (length xs) 0 none) (xs ++ z) ≡ xs ++ replicate (length z) none
unfolding shifted
clear_law xs z = forth-before xs z 0 0 none ∙ ap (λ (r : List Job). xs ++ r) (forth-none z 0 none)

-- no sum passes 32 bits where no move exceeds its job's x and the numbers are small
pub record Low (j : Job) : Type 0 where
  pub last : j.start + j.flex + j.budget ≤ most32

abbrev pub Lows : List Job → Type 0
Lows [] = Unit {0}
Lows (j ∷ js) = Low j × Lows js

pub near_within : (e : ℕ) (js : List Job) → Lows js → AllNear e js → Within e js
near_within e [] l n = tt
near_within e (j ∷ js) l n =
    (omega (arith, n.0, l.0.last), near_within (max e j.start + j.budget) js l.1 n.1)
