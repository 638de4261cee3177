-- Every promise of specs/Theorems.antt, proved. Assumes nothing.
use Prim.Native.Nat.{ℕ, zero, suc, ◌+◌, ◌-◌, ◌*◌, ◌/◌, ◌%◌, ◌≤◌, ◌<◌}
use mathlib.Core.Path.{◌≡◌, refl, sym, ap, ◌∙◌}
use mathlib.Core.Bool.{Bool, true, false}
use mathlib.Core.Logic.{◌⊎◌, inl, inr}
use mathlib.Core.List.{List, [], ◌∷◌, ◌++◌}
use native.Mathlib.Omega.{arith}
use lib.Dec.{eqb}
use lib.ListN.{length, take, replicate}
use lib.Seq.{take_all}
use borrow.Author.Tests.{le-ltb, ne_eqb}
use Rattle.rules.specs.Limits.{row_width}
use Rattle.rules.specs.Walk.{only, gathered}
use Rattle.rules.specs.Table.{partition}
use Rattle.rules.specs.Terms.{filed, rule_of}
use Rattle.rules.specs.declared.Rule.{Rule}
use Rattle.rules.proofs.Sum.{le-or-lt}
use Rattle.theory.specs.Plan.{least, worst_start}
use Rattle.theory.specs.Load.{demand, shortage}
use Rattle.theory.specs.Task.{task_load}
use Rattle.task_verdict.proofs.Engines as verdicts
use Rattle.task_page.specs.declared.Paged.{Paged}
use Rattle.std.specs.Prelude.{Result, Ok, Err}
use Rattle.rules.specs.declared.Refusal.{Refusal}
use Rattle.task_page.proofs.Proved as pages
use Rattle.task_page.specs.Page.{rows_of, points_of, tightest_of, fail_of, page_of}
use Rattle.output.specs.Text.{bytes}
use Rattle.output.specs.Decimal.{decimal}
use Rattle.output.proofs.Decimal.{decimal-one, decimal_more}
use Rattle.output.proofs.Proved as output
use Rattle.file_read.specs.declared.Contents.{Contents}
use Rattle.file_read.specs.Reader.{read_of}
use Rattle.file_read.proofs.Reader.{accepted, contents-short}
use Rattle.file_read.proofs.Proved as reader
use Rattle.why_lines.specs.Lines.{column_width, padded, task_words, fails_line, names_line, columns, window, mark, row_line, tick_words, short_line}
use Rattle.why_page.specs.Why.{line_of, short_of, spare_of, pass_text, fail_text, most_numbers, paged_text, tables_text, read_text, why_of}
use Rattle.why_page.specs.Theorems.{lines_in, FailLines, FailShort, OneMark, PassSpare, RoomEnough, WhyFirst, Proved}
use Rattle.why_page.proofs.Rows.{line_for_each, points_few}
use Rattle.why_page.proofs.Paged.{pass-judged, fail_judged, answered_reach}

-- ---- how many lines

lines-append : (a b : List ℕ) → lines_in (a ++ b) ≡ lines_in a + lines_in b
unfolding lines_in
lines-append [] b = omega arith
lines-append (x ∷ a) b = omega (arith, lines-append a b)

lines-nil : lines_in [] ≡ 0
unfolding lines_in
lines-nil = refl

both : (a b : List ℕ) (x y : ℕ) → lines_in a ≡ x → lines_in b ≡ y → lines_in (a ++ b) ≡ x + y
both a b x y ea eb = rw (lines-append a b, ea, eb)

blanks_none : (n : ℕ) → lines_in (replicate n 32) ≡ 0
unfolding lines_in only
blanks_none zero = refl
blanks_none (suc n) = omega (arith, blanks_none n)

digit_none : (d : ℕ) → lines_in ((48 + d) ∷ []) ≡ 0
unfolding lines_in only
digit_none d = rw (ne_eqb (48 + d) 10 (omega arith))

digits-none : (fuel n : ℕ) → n ≤ fuel → lines_in (decimal n) ≡ 0
digits-none zero n h = rw (decimal-one n (omega arith)) (digit_none n)
digits-none (suc fuel) n h = step (λ l. digits-none fuel (n / 10) (omega arith)) (le-or-lt 10 n)
  where
    step : (10 ≤ n → lines_in (decimal (n / 10)) ≡ 0) → (10 ≤ n) ⊎ (n < 10) → lines_in (decimal n) ≡ 0
    step ih (inl l) = rw (decimal_more n l) (both (decimal (n / 10)) ((48 + n % 10) ∷ []) 0 0 (ih l) (digit_none (n % 10)))
    step ih (inr l) = rw (decimal-one n l) (digit_none n)

field_none : (a : List ℕ) (n : ℕ) → lines_in a ≡ 0 → lines_in (a ++ decimal n) ≡ 0
field_none a n e = both a (decimal n) 0 0 e (digits-none n n (omega arith))

padded-none : (n : ℕ) → lines_in (padded n) ≡ 0
unfolding padded
padded-none n = field_none (replicate (column_width - length (decimal n)) 32) n (blanks_none (column_width - length (decimal n)))

window-none : (s t : ℕ) → lines_in (window s t) ≡ 0
unfolding window lines_in only
window-none s t = both (bytes "   " ++ decimal s) (bytes " to " ++ decimal (s + t - 1)) 0 0 (field_none (bytes "   ") s refl) (field_none (bytes " to ") (s + t - 1) refl)

columns-none : (t n h : ℕ) → lines_in (columns t n h) ≡ 0
unfolding columns
columns-none t n h =
    both (padded t ++ padded n ++ padded h) (padded (n - h)) 0 0
    (both (padded t ++ padded n) (padded h) 0 0 (both (padded t) (padded n) 0 0 (padded-none t) (padded-none n)) (padded-none h)) (padded-none (n - h))

mark-one : (b : Bool) → lines_in (mark b) ≡ 1
unfolding lines_in only
mark-one true = refl
mark-one false = refl

row_one : (u t n h s : ℕ) → lines_in (row_line u t n h s) ≡ 1
unfolding row_line
row_one u t n h s = both (columns t n h ++ window s t) (mark (eqb t u)) 0 1 (both (columns t n h) (window s t) 0 0 (columns-none t n h) (window-none s t)) (mark-one (eqb t u))

tick_none : (t n h : ℕ) → lines_in (tick_words t n h) ≡ 0
unfolding tick_words lines_in only
tick_none t n h =
    both (bytes "at tick " ++ decimal t ++ (bytes " it needs " ++ decimal n)) (bytes " and can be sure of " ++ decimal h) 0 0
    (both (bytes "at tick " ++ decimal t) (bytes " it needs " ++ decimal n) 0 0 (field_none (bytes "at tick ") t refl) (field_none (bytes " it needs ") n refl))
    (field_none (bytes " and can be sure of ") h refl)

short-one : (t n h s : ℕ) → lines_in (short_line t n h s) ≡ 1
unfolding short_line lines_in only
short-one t n h s =
    both (tick_words t n h ++ (bytes ": " ++ decimal (n - h)) ++ (bytes " short; the worst stretch starts at tick " ++ decimal s)) (bytes "\n") 0 1
    (both (tick_words t n h ++ (bytes ": " ++ decimal (n - h))) (bytes " short; the worst stretch starts at tick " ++ decimal s) 0 0
    (both (tick_words t n h) (bytes ": " ++ decimal (n - h)) 0 0 (tick_none t n h) (field_none (bytes ": ") (n - h) refl))
    (field_none (bytes " short; the worst stretch starts at tick ") s refl))
    refl

fails-one : (i p : ℕ) → lines_in (fails_line i p) ≡ 1
unfolding fails_line task_words lines_in only
fails-one i p =
    both (bytes "task " ++ decimal i ++ (bytes " partition " ++ decimal p)) (bytes " fails\n") 0 1
    (both (bytes "task " ++ decimal i) (bytes " partition " ++ decimal p) 0 0 (field_none (bytes "task ") i refl) (field_none (bytes " partition ") p refl))
    refl

names_one_lem : lines_in names_line ≡ 1
unfolding names_line lines_in only
names_one_lem = refl

line-one : (u : ℕ) (rows : List ℕ) (k : ℕ) → lines_in (line_of u rows k) ≡ 1
unfolding line_of
line-one u rows k = row_one u _ _ _ _

rows_each : (u : ℕ) (rows : List ℕ) (n : ℕ) → lines_in (gathered (line_of u rows) n) ≡ n
unfolding gathered
rows_each u rows zero = lines-nil
rows_each u rows (suc n) = lines-append (gathered (line_of u rows) n) (line_of u rows n) ∙ omega (arith, rows_each u rows n, line-one u rows n)

fail_text-lines : (rule : Rule) (plan ts : List ℕ) (place : ℕ) → lines_in (fail_text rule plan ts place) ≡ points_of ts (place - 1) + 3
unfolding fail_text short_of
fail_text-lines rule plan ts place =
    let i : ℕ = place - 1 in
    let u : ℕ = tightest_of rule plan ts i in
    let a : List ℕ = fails_line place (partition ts i) in
    let g : List ℕ = gathered (line_of u (rows_of rule plan ts i)) (points_of ts i) in
    let z : List ℕ = short_of rule plan ts i u in
    lines-append (a ++ names_line ++ g) z
    ∙ omega (
      arith,
      lines-append (a ++ names_line) g,
      lines-append a names_line,
      fails-one place (partition ts i),
      names_one_lem,
      rows_each u (rows_of rule plan ts i) (points_of ts i),
      short-one u (demand (task_load ts) i u) (least rule plan (partition ts i) u) (worst_start rule plan (partition ts i) u),
    )

fail_lines : FailLines
unfolding tables_text
fail_lines e plan ps ts place n u h p =
    let f = fail_judged (filed e) plan ps ts place most_numbers n u h p in
    (f.rows, ap (λ (x : Result Paged Refusal). lines_in (paged_text (rule_of e) plan ts place x)) p ∙ fail_text-lines (rule_of e) plan ts place ∙ ap (λ (k : ℕ). k + 3) (sym f.rows))

-- ---- the sentences

fail_short : FailShort
unfolding shortage
fail_short e plan ps ts place n u h p =
    let t = (pages.proved).page_tightest (filed e) plan ps ts place most_numbers n u h p in
    (t.0, omega (arith, t.1, t.2))

one_mark : OneMark
one_mark e plan ps ts place n u h p =
    let f = fail_judged (filed e) plan ps ts place most_numbers n u h p in
    let w = line_for_each (rule_of e) plan ts (place - 1) u in
    let m = w.each_point u ((pages.proved).page_tightest (filed e) plan ps ts place most_numbers n u h p).0.a_point in (
      m.0,
      omega (arith, f.rows, m.1),
      m.2,
      λ j l z.
          same j m.0
          (λ g. let r = w.rising j m.0 g m.1 in absurd (omega (arith, m.2)))
          (λ g. let r = w.rising m.0 j g (omega (arith, f.rows)) in absurd (omega (arith, m.2)))
          (le-or-lt j m.0) (le-or-lt m.0 j),
    )
  where
    same : (j k : ℕ) → (j < k → j ≡ k) → (k < j → j ≡ k) → (j ≤ k) ⊎ (k < j) → (k ≤ j) ⊎ (j < k) → j ≡ k
    same j k a b (inr l) y = b l
    same j k a b (inl l) (inr g) = a g
    same j k a b (inl l) (inl g) = omega arith

pass_spare : PassSpare
unfolding tables_text pass_text spare_of
pass_spare e plan ps ts place t p = (
  ap (λ (x : Result Paged Refusal). paged_text (rule_of e) plan ts place x) p,
  omega (arith, ((verdicts.proved).pass_point (filed e) plan ps ts place t (pass-judged (filed e) plan ps ts place most_numbers t p)).1),
)

-- ---- the room

room_enough : RoomEnough
unfolding page_of fail_of
room_enough e plan ps ts place v =
    let a = (((verdicts.proved).by_points.fail_exactly (filed e) plan ps ts place).0 v).0 in
    let o = (answered_reach (filed e) plan ps ts place most_numbers 0 a (omega arith)).judgeable.in_order (place - 1) (omega arith) in
    rw (v, le-ltb most_numbers (row_width * points_of ts (place - 1)) (omega (arith, points_few ts (place - 1), o.in_period, o.short)))

-- ---- the file's bytes

why_first : WhyFirst
unfolding why_of
why_first b place n h = step (read_of b) refl
  where
    step : (c : Result Contents Refusal) → read_of b ≡ c → read_text (read_of (take n b)) (take n b) place ≡ read_text (read_of b) b place
    step (Err x) e = rw ((reader.proved).read_first b n h, e)
    step (Ok c) e = rw (take_all n b (omega (arith, contents-short b c (accepted b c e).contents)))

pub proved : Proved
proved = record {
  fail_lines = fail_lines;
  fail_rows = line_for_each;
  fail_short = fail_short;
  one_mark = one_mark;
  pass_spare = pass_spare;
  room_enough = room_enough;
  why_first = why_first;
  why_one = λ b out o o' place r r' p q. (output.proved).one_put out (why_of b place) o o' 0 r r' p q;
}
