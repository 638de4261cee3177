-- The laws of the passes, one job at a time. Assumes nothing.
use Prim.Native.Nat.{ℕ, suc, ◌+◌, ◌-◌, ◌<◌, ◌≤◌, max}
use mathlib.Core.Path.{◌≡◌, refl, sym, ap, ◌∙◌}
use mathlib.Core.List.{List, [], ◌∷◌, ◌++◌, append_assoc, append-nil}
use native.Mathlib.Omega.{arith}
use native.Mathlib.Numerals.{add-one}
use lib.ListN.{length, take, drop, get_or, set, length-drop, take-append-drop}
use lib.Seq.{take-length, drop-length, take-suc, drop-cons, set_at, get_or_at, length-take-le, get_or-append-add, get_or-drop}
use Rattle.desk.specs.declared.Job.{Job}
use Rattle.desk.specs.Table.{none}
use Rattle.desk_records.specs.Folds.{fold, forth, fold_back, back, moved_up}

pub take_none : (l : List Job) → take 0 l ≡ []
take_none [] = refl
take_none (j ∷ l) = refl

module _ {S : Type 0} (step : S → Job → S) where
  pub fold_snoc : (s : S) (l : List Job) (j : Job) → fold step s (l ++ (j ∷ [])) ≡ step (fold step s l) j
  unfolding fold
  fold_snoc s [] j = refl
  fold_snoc s (k ∷ l) j = fold_snoc (step s k) l j

  pub fold_append : (s : S) (xs ys : List Job) → fold step s (xs ++ ys) ≡ fold step (fold step s xs) ys
  unfolding fold
  fold_append s [] ys = refl
  fold_append s (x ∷ xs) ys = fold_append (step s x) xs ys

  -- the jobs in front of place i, and then the others
  pub fold_on : (s : S) (l : List Job) (i : ℕ) → fold step (fold step s (take i l)) (drop i l) ≡ fold step s l
  fold_on s l i = sym (fold_append s (take i l) (drop i l)) ∙ ap (fold step s) (take-append-drop i l)

  pub fold-zero : (s : S) (l : List Job) → fold step s (take 0 l) ≡ s
  unfolding fold
  fold-zero s l = ap (fold step s) (take_none l)

  pub fold_end : (s : S) (l : List Job) → fold step s (take (length l) l) ≡ fold step s l
  fold_end s l = ap (fold step s) (take-length l)

  pub fold_more : (s : S) (l : List Job) (i : ℕ) → i < length l → step (fold step s (take i l)) (get_or l i none) ≡ fold step s (take (i + 1) l)
  fold_more s l i h = sym (fold_snoc s (take i l) (get_or l i none)) ∙ ap (fold step s) (sym (take-suc l i none h)) ∙ ap (λ (m : ℕ). fold step s (take m l)) (sym (add-one i))

  pub fold_back-start : (s : S) (l : List Job) → fold_back step s (drop (length l) l) ≡ s
  unfolding fold_back
  fold_back-start s l = ap (fold_back step s) (drop-length l)

  pub fold_back_more : (s : S) (l : List Job) (i : ℕ) → i < length l → step (fold_back step s (drop (i + 1) l)) (get_or l i none) ≡ fold_back step s (drop i l)
  unfolding fold_back
  fold_back_more s l i h = ap (λ (m : ℕ). step (fold_back step s (drop m l)) (get_or l i none)) (add-one i) ∙ sym (ap (fold_back step s) (drop-cons l i none h))

  module _ (out : S → Job → Job) where
    pub length-forth : (s : S) (l : List Job) → length (forth step out s l) ≡ length l
    unfolding forth
    length-forth s [] = refl
    length-forth s (j ∷ l) = ap suc (length-forth (step s j) l)

    pub forth_snoc : (s : S) (l : List Job) (j : Job) → forth step out s (l ++ (j ∷ [])) ≡ forth step out s l ++ (out (fold step s l) j ∷ [])
    unfolding forth fold
    forth_snoc s [] j = refl
    forth_snoc s (k ∷ l) j = ap (λ (m : List Job). out s k ∷ m) (forth_snoc (step s k) l j)

    -- the table after i jobs
    unfoldable pub forth_at : S → List Job → ℕ → List Job
    forth_at s l i = forth step out s (take i l) ++ drop i l

    pub forth_at_zero : (s : S) (l : List Job) → forth_at s l 0 ≡ l
    unfolding forth_at forth
    forth_at_zero s l = refl

    pub forth_at_end : (s : S) (l : List Job) → forth_at s l (length l) ≡ forth step out s l
    unfolding forth_at
    forth_at_end s l = rw (take-length l, drop-length l) (append-nil _)

    pub forth_at_read : (s : S) (l : List Job) (i : ℕ) → i < length l → get_or (forth_at s l i) i none ≡ get_or l i none
    unfolding forth_at
    forth_at_read s l i h =
        ap (λ (m : List Job). get_or (forth step out s (take i l) ++ m) i none) (drop-cons l i none h)
        ∙ get_or_at (forth step out s (take i l)) (get_or l i none) (drop (suc i) l) none i (length-forth s (take i l) ∙ length-take-le i l (omega arith))

    pub forth_at_more : (s : S) (l : List Job) (i : ℕ) → i < length l → set (forth_at s l i) i (out (fold step s (take i l)) (get_or l i none)) ≡ forth_at s l (i + 1)
    unfolding forth_at
    forth_at_more s l i h =
        rw (add-one i, take-suc l i none h, forth_snoc s (take i l) (get_or l i none), append_assoc, drop-cons l i none h)
        (set_at (forth step out s (take i l)) (get_or l i none) (drop (suc i) l) _ i (length-forth s (take i l) ∙ length-take-le i l (omega arith)))

    -- the table when i jobs are left
    unfoldable pub back_at : S → List Job → ℕ → List Job
    back_at s l i = take i l ++ back step out s (drop i l)

    pub back_at_start : (s : S) (l : List Job) → back_at s l (length l) ≡ l
    unfolding back_at back
    back_at_start s l = rw (take-length l, drop-length l) (append-nil _)

    pub back_at_end : (s : S) (l : List Job) → back_at s l 0 ≡ back step out s l
    unfolding back_at
    back_at_end s l = refl

    back_seam : (s : S) (l : List Job) (i : ℕ) → i < length l → take (i + 1) l ++ back step out s (drop (i + 1) l) ≡ take i l ++ (get_or l i none ∷ back step out s (drop (i + 1) l))
    back_seam s l i h =
        ap (λ (m : List Job). m ++ back step out s (drop (i + 1) l)) (ap (λ (m : ℕ). take m l) (add-one i) ∙ take-suc l i none h)
        ∙ append_assoc (take i l) (get_or l i none ∷ []) (back step out s (drop (i + 1) l))

    pub back_at_read : (s : S) (l : List Job) (i : ℕ) → i < length l → get_or (back_at s l (i + 1)) i none ≡ get_or l i none
    unfolding back_at
    back_at_read s l i h =
        ap (λ (m : List Job). get_or m i none) (back_seam s l i h)
        ∙ get_or_at (take i l) (get_or l i none) (back step out s (drop (i + 1) l)) none i (length-take-le i l (omega arith))

    pub back_at_more : (s : S) (l : List Job) (i : ℕ) → i < length l → set (back_at s l (i + 1)) i (out (fold_back step s (drop (i + 1) l)) (get_or l i none)) ≡ back_at s l i
    unfolding back_at back
    back_at_more s l i h =
        ap (λ (m : List Job). set m i (out (fold_back step s (drop (i + 1) l)) (get_or l i none))) (back_seam s l i h)
        ∙ set_at (take i l) (get_or l i none) (back step out s (drop (i + 1) l)) (out (fold_back step s (drop (i + 1) l)) (get_or l i none)) i (length-take-le i l (omega arith))
        ∙ ap (λ (m : ℕ). take i l ++ (out (fold_back step s (drop m l)) (get_or l i none) ∷ back step out s (drop m l))) (add-one i)
        ∙ ap (λ (m : List Job). take i l ++ back step out s m) (sym (drop-cons l i none h))

-- the table after i jobs are moved up by k
unfoldable pub move_at : ℕ → List Job → ℕ → List Job
move_at k l i = take i (drop k l) ++ drop i l

pub move_at_zero : (k : ℕ) (l : List Job) → move_at k l 0 ≡ l
unfolding move_at
move_at_zero k l = refl

length-take-drop : (k : ℕ) (l : List Job) (i : ℕ) → k + i ≤ length l → length (take i (drop k l)) ≡ i
length-take-drop k l i h = length-take-le i (drop k l) (omega (arith, length-drop k l))

pub move_at_more : (k : ℕ) (l : List Job) (i : ℕ) → k + i < length l → set (move_at k l i) i (get_or l (k + i) none) ≡ move_at k l (i + 1)
unfolding move_at
move_at_more k l i h =
    ap (λ (m : List Job). set (take i (drop k l) ++ m) i (get_or l (k + i) none)) (drop-cons l i none (omega arith))
    ∙ set_at (take i (drop k l)) (get_or l i none) (drop (suc i) l) (get_or l (k + i) none) i (length-take-drop k l i (omega arith))
    ∙ ap (λ (j : Job). take i (drop k l) ++ (j ∷ drop (suc i) l)) (sym (get_or-drop k l i none))
    ∙ sym (append_assoc (take i (drop k l)) (get_or (drop k l) i none ∷ []) (drop (suc i) l))
    ∙ ap (λ (m : List Job). m ++ drop (suc i) l) (sym (take-suc (drop k l) i none (omega (arith, length-drop k l))))
    ∙ ap (λ (m : ℕ). take m (drop k l) ++ drop m l) (sym (add-one i))

pub move_at_read : (k : ℕ) (l : List Job) (i : ℕ) → k + i < length l → get_or (move_at k l i) (k + i) none ≡ get_or l (k + i) none
unfolding move_at
move_at_read k l i h =
    let e : k + i ≡ length (take i (drop k l)) + k = omega (arith, length-take-drop k l i (omega arith)) in
    let f : i + k ≡ k + i = omega arith in
    ap (λ (m : ℕ). get_or (take i (drop k l) ++ drop i l) m none) e
    ∙ get_or-append-add (take i (drop k l)) (drop i l) k none ∙ get_or-drop i l k none ∙ ap (λ (m : ℕ). get_or l m none) f

pub move_at_end : (k : ℕ) (l : List Job) (i : ℕ) → k + i ≤ max (length l) k → length l ≤ k + i → move_at k l i ≡ moved_up k l
unfolding move_at moved_up
move_at_end k l i h g =
    let e : i ≡ length l - k = omega (arith, h, g) in
    let f : i ≡ length (drop k l) = omega (arith, h, g, length-drop k l) in
    ap (λ (m : ℕ). take i (drop k l) ++ drop m l) e ∙ ap (λ (m : ℕ). take m (drop k l) ++ drop (length l - k) l) f ∙ ap (λ (m : List Job). m ++ drop (length l - k) l) (take-length (drop k l))
