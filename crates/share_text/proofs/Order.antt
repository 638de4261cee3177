-- Laws of lines and of what is gathered from them. Assumes nothing.
use Prim.Native.Nat.{ℕ, ◌+◌, ◌-◌, ◌≤◌, ◌<◌}
use mathlib.Core.Path.{◌≡◌, refl, sym, ap, subst, ◌∙◌}
use mathlib.Core.Logic.{◌⊎◌, inl, inr}
use mathlib.Core.Bool.{Bool, true, false, ◌||◌}
use mathlib.Core.List.{List, [], ◌∷◌, ◌++◌, append-nil}
use native.Mathlib.Numerals.{add-one}
use native.Mathlib.Decide.{le_ind}
use native.Mathlib.Omega.{arith}
use lib.ListN.{length, get_or, take, drop, drop_of_length-le}
use lib.Seq.{sets, drop-length, drop-drop}
use Rattle.share_words.proofs.WordLaws.{tail}
use lib.Dec.{ltb}
use borrow.Author.Tests.{lt-ltb, le-ltb, ltb-true, ltb-false}
use Rattle.rules.specs.declared.Refusal.{Refusal}
use Rattle.rules.specs.declared.Refusal.TheVariants.{Limits}
use Rattle.rules.specs.Walk.{pick, first, some, gathered}
use Rattle.rules.proofs.Sum.{le-or-lt}
use Rattle.rules.proofs.Tests.{pick_second}
use Rattle.rules.proofs.First.{first-zero, first_more, first_at, first-none, some-none, some_at, gathered-zero, gathered_more}
use Rattle.output.specs.Put.{Put}
use Rattle.output.proofs.Put.{and_then, put_none}
use Rattle.std.specs.Prelude.{Option, Some, None, unwrap_or, Result, Ok, Err}
use Rattle.std.specs.Option.{option_or}
use Rattle.share_text.specs.declared.Expected.{Expected}
use Rattle.share_text.specs.declared.Numbers.{Numbers}
use Rattle.share_text.specs.declared.Unread.TheVariants as unread
use Rattle.share_line.specs.declared.What.{What}
use Rattle.share_line.specs.declared.Row.{Row}
use Rattle.share_line.specs.declared.Row.TheVariants.{Nothing}
use Rattle.share_words.specs.Words.{newline, found, width, word_of}
use Rattle.share_line.specs.Rows.{record_of, row_of, closes, is_wrong, what_of}
use Rattle.share_text.specs.Table.{line_of, after_line, from_line, row_at, closes_at, closed_at, wrong_at, first_wrong, granule_in, part_in, task_in, nums_at, records_of, granule_of, longest_text, numbers_of, seen_of, sized_of, read_by, read_text_of}

-- the line that begins at a place, and where the next one does
pub line_is : (t : List ℕ) (at e : ℕ) → e ≡ found newline (take (length t - at) (drop at t)) → take e (take (length t - at) (drop at t)) ≡ line_of (drop at t)
unfolding line_of
line_is t at e h = let f : e ≡ found newline (drop at t) = rw (tail at t) at h in rw (tail at t, ← f)

pub after-some : (t : List ℕ) (at e : ℕ) → e ≡ found newline (take (length t - at) (drop at t)) → drop (at + (e + 1)) t ≡ after_line (drop at t)
unfolding after_line
after-some t at e h = let f : e ≡ found newline (drop at t) = rw (tail at t) at h in rw (← f) (sym (drop-drop (e + 1) at t))

pub after_none : (t : List ℕ) (at e : ℕ) → e ≡ found newline (take (length t - at) (drop at t)) → length (take (length t - at) (drop at t)) ≤ e → drop (length t) t ≡ after_line (drop at t)
unfolding after_line
after_none t at e h l =
    let f : e ≡ found newline (drop at t) = rw (tail at t) at h in
    let m : length (drop at t) ≤ e = rw (tail at t) at l in
    drop-length t ∙ sym (rw (← f) (drop_of_length-le (drop at t) {i = e + 1} (omega arith)))

from_more : (t : List ℕ) (k : ℕ) → from_line t (k + 1) ≡ after_line (from_line t k)
unfolding from_line
from_more t k = rw add-one

-- a loop over the lines, at line k and its place in the text
pub record Reached (t : List ℕ) (at k : ℕ) : Type 0 where
  pub within : k ≤ at
  pub from : drop at t ≡ from_line t k

pub reached-start : (t : List ℕ) → Reached t 0 0
unfolding from_line
reached-start t = record { within = omega arith; from = refl }

pub reached-next : {t : List ℕ} {at k : ℕ} (r : ℕ) → Reached t at k → at < r → drop r t ≡ after_line (drop at t) → Reached t r (k + 1)
reached-next {t} {at} {k} r a l e = record { within = omega (arith, a.within); from = e ∙ rw (a.from, from_more t k) }

pub reached-row : {t : List ℕ} {at k : ℕ} {row : Result Row What} → Reached t at k → row ≡ row_of (line_of (drop at t)) → row ≡ row_at t k
unfolding row_at
reached-row a e = e ∙ rw a.from

-- nothing is left behind the end
empty-row : row_of (line_of []) ≡ Ok Nothing
unfolding row_of line_of record_of word_of width first
empty-row = refl

after-empty : after_line [] ≡ []
unfolding after_line first
after-empty = refl

left-empty : (t : List ℕ) (k j : ℕ) → k ≤ j → from_line t k ≡ [] → from_line t j ≡ []
unfolding from_line
left-empty t k j h e = le_ind {n = k} (λ m. from_line t m ≡ []) e (λ m l i. ap after_line i ∙ after-empty) j h

row-empty : (t : List ℕ) (k j : ℕ) → k ≤ j → from_line t k ≡ [] → row_at t j ≡ Ok Nothing
unfolding row_at
row-empty t k j h e = rw (left-empty t k j h e) empty-row

past : {t : List ℕ} {at k : ℕ} → Reached t at k → length t ≤ at → from_line t k ≡ []
past {t} {at} a l = sym a.from ∙ drop_of_length-le t l

-- ---- wrong lines

first_rest : (p : ℕ → Bool) (k n : ℕ) → k ≤ n → first p k ≡ k → ((j : ℕ) → k ≤ j → p j ≡ false) → first p n ≡ n
first_rest p k n h e f = le_ind {n = k} (λ m. first p m ≡ m) e (λ m l i. sym (ap (first p) (add-one m)) ∙ first_more p m i (f m l) ∙ add-one m) n h

pub none_wrong : {t : List ℕ} {at k : ℕ} → Reached t at k → at ≤ length t → length t ≤ at → first (wrong_at t) k ≡ k → Ok tt ≡ seen_of t
unfolding seen_of wrong_at
none_wrong {t} {at} {k} a h l e =
    rw (first_rest (wrong_at t) k (length t) (omega (arith, a.within)) e (λ j m. rw (row-empty t k j m (past a l))), le-ltb (length t) (length t) (omega arith))

pub some_wrong : (t : List ℕ) (k : ℕ) (row : Result Row What) → k < length t → first_wrong t ≡ k → row ≡ row_at t k → Err (record { line = k + 1; what = what_of row }) ≡ seen_of t
unfolding seen_of
some_wrong t k row l e r = rw (e, lt-ltb k (length t) l, r)

pub wrong_is : (t : List ℕ) (k : ℕ) {row : Result Row What} {closed r b : Bool} → row ≡ row_at t k → closed ≡ closed_at t k → r ≡ is_wrong closed row → r ≡ b → wrong_at t k ≡ b
unfolding wrong_at
wrong_is t k e c f g = rw (← e, ← c) (sym f ∙ g)

-- ---- lines that close the granule

some_more : (p : ℕ → Bool) (k : ℕ) → p k || some p k ≡ some p (k + 1)
some_more p k = at (p k) (some p k) refl refl
  where
    below : p k ≡ false → some p k ≡ false → (j : ℕ) → (k ≤ j) ⊎ (j < k) → j < k + 1 → p j ≡ false
    below e f j (inl l) m = let z : j ≡ k = omega arith in rw z e
    below e f j (inr l) m = some-none p k f j l

    at : (a b : Bool) → p k ≡ a → some p k ≡ b → a || b ≡ some p (k + 1)
    at true b e f = sym (some_at p (k + 1) k (omega arith) e)
    at false true e f = let l : first p k < k = ltb-true _ _ f in sym (some_at p (k + 1) (first p k) (omega arith) (first_at p k l))
    at false false e f = sym (rw (first-none p (k + 1) (λ j m. below e f j (le-or-lt k j) m)) (le-ltb (k + 1) (k + 1) (omega arith)))

pub closed_none : (t : List ℕ) → false ≡ closed_at t 0
closed_none t = rw (first-zero (closes_at t)) (sym (le-ltb 0 0 (omega arith)))

pub closed_more : (t : List ℕ) (k : ℕ) {row : Result Row What} {closed r : Bool} → row ≡ row_at t k → closed ≡ closed_at t k → r ≡ closes row || closed → r ≡ closed_at t (k + 1)
unfolding closes_at
closed_more t k e c f = f ∙ rw (e, c) (some_more (closes_at t) k)

-- ---- what is gathered

gathered-rest : (f : ℕ → List ℕ) (k n : ℕ) → k ≤ n → ((j : ℕ) → k ≤ j → f j ≡ []) → gathered f n ≡ gathered f k
unfolding gathered
gathered-rest f k n h g = le_ind {n = k} (λ m. gathered f m ≡ gathered f k) refl (λ m l i. ap (λ (x : List ℕ). gathered f m ++ x) (g m l) ∙ append-nil (gathered f m) ∙ i) n h

gathered-end : (nums : Result Row What → List ℕ) → nums (Ok Nothing) ≡ [] → {t : List ℕ} {at k : ℕ} → Reached t at k → length t ≤ at → k ≤ length t → gathered (nums_at nums t) k ≡ records_of nums t
unfolding records_of nums_at
gathered-end nums z {t} {at} {k} a l h = sym (gathered-rest (nums_at nums t) k (length t) h (λ j m. ap nums (row-empty t k j m (past a l)) ∙ z))

abbrev pub head : List ℕ → Option ℕ
head [] = None
head (x ∷ l) = Some x

head-append : (l m : List ℕ) → head (l ++ m) ≡ option_or (head l) (head m)
head-append [] m = refl
head-append (x ∷ l) m = refl

head_or : (l : List ℕ) (d : ℕ) → unwrap_or (head l) d ≡ get_or l 0 d
head_or [] d = refl
head_or (x ∷ l) d = refl

pub option_or_none : (o : Option ℕ) → o ≡ option_or o None
option_or_none None = refl
option_or_none (Some x) = refl

-- what is gathered from the rows in front of row k, put into the tables ps and ts
pub record Gathered (t ps ts : List ℕ) (k : ℕ) (granule : Option ℕ) (p q : ℕ) (ps' ts' : List ℕ) : Type 0 where
  pub granule_is : granule ≡ head (gathered (nums_at granule_in t) k)
  pub parts : Put ps 0 (gathered (nums_at part_in t) k) p ps'
  pub tasks : Put ts 0 (gathered (nums_at task_in t) k) q ts'

pub gathered-none : (t ps ts : List ℕ) → Gathered t ps ts 0 None 0 0 ps ts
gathered-none t ps ts =
    record {
      granule_is = ap head (sym (gathered-zero (nums_at granule_in t)));
      parts = rw (gathered-zero (nums_at part_in t)) (put_none ps 0);
      tasks = rw (gathered-zero (nums_at task_in t)) (put_none ts 0);
    }

pub gathered-turn :
    {t ps ts : List ℕ} {k : ℕ} {granule granule' : Option ℕ} {p q p' q' : ℕ} {ps' ts' ps'' ts'' : List ℕ} {row : Result Row What} → Gathered t ps ts k granule p q ps' ts' → row ≡ row_at t k
    → granule' ≡ option_or granule (head (granule_in row)) → Put ps' p (part_in row) p' ps'' → Put ts' q (task_in row) q' ts'' → Gathered t ps ts (k + 1) granule' p' q' ps'' ts''
unfolding nums_at
gathered-turn {t} {k = k} {row = row} a e g p q =
    record {
      granule_is = rw (gathered_more (nums_at granule_in t) k, ← e, head-append (gathered (nums_at granule_in t) k) (granule_in row), ← a.granule_is) g;
      parts = rw (gathered_more (nums_at part_in t) k, ← e) (and_then a.parts p);
      tasks = rw (gathered_more (nums_at task_in t) k, ← e) (and_then a.tasks q);
    }

pub gathered-all : {t ps ts : List ℕ} {at k : ℕ} {granule : Option ℕ} {p q : ℕ} {ps' ts' : List ℕ} {g : ℕ} → Gathered t ps ts k granule p q ps' ts' → g ≡ unwrap_or granule 1 → Reached t at k → at ≤ length t → length t ≤ at
    → ◌≡◌ {A = Numbers} (record { granule = g; partitions = p; tasks = q }) (numbers_of t) × (ps' ≡ sets ps 0 (records_of part_in t)) × (ts' ≡ sets ts 0 (records_of task_in t))
gathered-all {t} {ps} {ts} {at} {k} {granule} {p} {q} {g = g} a e r h l =
    let m : k ≤ length t = omega (arith, r.within) in
    let f = gathered-end granule_in refl r l m in
    let x : Put ps 0 (records_of part_in t) p _ = rw (gathered-end part_in refl r l m) at a.parts in
    let y : Put ts 0 (records_of task_in t) q _ = rw (gathered-end task_in refl r l m) at a.tasks in
    let eg : g ≡ granule_of t = e ∙ ap (λ (o : Option ℕ). unwrap_or o 1) (a.granule_is ∙ ap head f) ∙ head_or (records_of granule_in t) 1 in
    let ep : p ≡ length (records_of part_in t) = omega (arith, x.place) in
    let eq : q ≡ length (records_of task_in t) = omega (arith, y.place) in
    (rw (eg, ep, eq), x.bytes, y.bytes)

-- ---- what an answer of numbers says

-- the text is no longer than a text may be, its granule is told, and both tables fit
pub record Fits (t : List ℕ) (parts tasks : ℕ) (n : Numbers) : Type 0 where
  pub short : length t ≤ longest_text
  pub granule_is : n.granule ≡ granule_of t
  pub parts_are : n.partitions ≡ length (records_of part_in t)
  pub parts_fit : n.partitions ≤ parts
  pub tasks_are : n.tasks ≡ length (records_of task_in t)
  pub tasks_fit : n.tasks ≤ tasks

not_read : {E : Type 0} (e : E) (n : Numbers) → ¬ (Err e ≡ Ok n)
not_read e n h = let z : ◌≡◌ {A = ℕ} 0 1 = cc in omega arith

seen_good : (n : Numbers) (s : Result (Unit {0}) Expected) (x : Result Numbers Refusal) → read_by s x ≡ Ok n → x ≡ Ok n
seen_good n (Ok u) (Ok m) e = let z : m ≡ n = cc in ap Ok z
seen_good n (Ok u) (Err r) e = absurd (not_read (unread.Refused r) n e)
seen_good n (Err x) s e = absurd (not_read (unread.Expected x) n e)

pub fits : (t : List ℕ) (parts tasks : ℕ) (n : Numbers) → read_text_of t parts tasks ≡ Ok n → Fits t parts tasks n
unfolding read_text_of sized_of
fits t parts tasks n e =
    let p = length (records_of part_in t) in
    let q = length (records_of task_in t) in
    let all = numbers_of t in
    let y2 : Result Numbers Refusal = pick (ltb tasks q) (Err Limits) (Ok all) in
    let y1 : Result Numbers Refusal = pick (ltb parts p) (Err Limits) y2 in
    let e1 = pick_second (ltb longest_text (length t)) (Err (unread.Refused Limits)) (read_by (seen_of t) y1) (Ok n) (not_read (unread.Refused Limits) n) e in
    let e2 = pick_second (ltb parts p) (Err Limits) y2 (Ok n) (not_read Limits n) (seen_good n (seen_of t) y1 e1.1) in
    let e3 = pick_second (ltb tasks q) (Err Limits) (Ok all) (Ok n) (not_read Limits n) e2.1 in
    let f : Ok all ≡ Ok n = e3.1 in
    let g : all ≡ n = cc in
    let w : Fits t parts tasks all = record {
      short = ltb-false _ _ e1.0;
      granule_is = refl;
      parts_are = refl;
      parts_fit = ltb-false _ _ e2.0;
      tasks_are = refl;
      tasks_fit = ltb-false _ _ e3.0;
    } in
    subst (Fits t parts tasks) g w

-- a text that can be read is no longer than it may be
pub read_short : (t : List ℕ) (parts tasks : ℕ) (n : Numbers) → read_text_of t parts tasks ≡ Ok n → length t ≤ longest_text
read_short t parts tasks n e = (fits t parts tasks n e).short
