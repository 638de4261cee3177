-- Every promise of specs/Theorems.antt, proved. Assumes nothing.
use Prim.Native.Nat.{ℕ, ◌+◌, ◌-◌, ◌*◌, ◌≤◌, ◌<◌}
use mathlib.Core.Path.{◌≡◌, refl, sym, ap, ◌∙◌}
use mathlib.Core.Logic.{◌⊎◌, inl, inr}
use mathlib.Core.List.{List, ◌++◌}
use native.Mathlib.Omega.{arith}
use lib.ListN.{length, take}
use lib.Seq.{take_all, take-add}
use Rattle.rules.specs.Limits.{part_width, task_width, run_width, head_bytes}
use Rattle.rules.proofs.Sum.{le-or-lt}
use Rattle.file_codec.specs.Bytes.{part}
use Rattle.file_codec.specs.Contents.{tasks_at, runs_at, size_of}
use Rattle.file_tables.proofs.Chain.{sizes}
use Rattle.std.specs.Prelude.{Result, Ok, Err}
use Rattle.rules.specs.declared.Refusal.{Refusal}
use Rattle.file_read.specs.declared.Contents.{Contents}
use Rattle.file_read.specs.Reader.{contents_of, judged_by, read_of, section_of}
use Rattle.file_read.specs.Theorems.{ReadEdition, SectionExact, SectionNone, ReadFirst, Proved}
use Rattle.file_read.proofs.Reader.{contained, accepted, part_length, contents-short, contents-first}

-- a part behind what stands before it
part-add : (b : List ℕ) (n e : ℕ) → n ≤ e → take n b ++ part b n e ≡ take e b
part-add b n e h = let q : n + (e - n) ≡ e = omega arith in sym (take-add n (e - n) b) ∙ ap (λ (k : ℕ). take k b) q

-- the contents and the three bodies are the whole file
pub parts_all : (b : List ℕ) (p t r : ℕ) → length b ≡ size_of p t r
    → take head_bytes b ++ part b head_bytes (tasks_at p) ++ part b (tasks_at p) (runs_at p t) ++ part b (runs_at p t) (size_of p t r) ≡ b
parts_all b p t r l =
    rw (part-add b head_bytes (tasks_at p) (omega arith), part-add b (tasks_at p) (runs_at p t) (omega arith), part-add b (runs_at p t) (size_of p t r) (omega arith)) (take_all (size_of p t r) b (omega arith))

read_edition : ReadEdition
read_edition b c e =
    let a = accepted b c e in
    let s = sizes c.edition c.frame _ _ _ a.good in
    (sym (contained b c a.contents).edition, s.edition_low, s.edition_high)

section_exact : SectionExact
unfolding section_of
section_exact b c e =
    let l = (contained b c (accepted b c e).contents).long in
    let p : ℕ = part_width * c.partitions in
    let t : ℕ = task_width * c.tasks in
    let r : ℕ = run_width * c.runs in
    rw e (
      parts_all b p t r l,
      part_length b head_bytes (tasks_at p) (omega arith) (omega arith) ∙ omega arith,
      part_length b (tasks_at p) (runs_at p t) (omega arith) (omega arith) ∙ omega arith,
      part_length b (runs_at p t) (size_of p t r) (omega arith) (omega arith) ∙ omega arith,
    )

section_none : SectionNone
unfolding section_of
section_none b x which e = rw e

read_first : ReadFirst
unfolding read_of
read_first b n h = by_length (le-or-lt (length b) n)
  where
    long : n < length b → (k : Result Contents Refusal) → contents_of b ≡ k → judged_by k (take n b) ≡ judged_by k b
    long l (Err x) e = refl
    long l (Ok c) e = absurd (omega (arith, contents-short b c e))

    by_length : (length b ≤ n) ⊎ (n < length b) → judged_by (contents_of (take n b)) (take n b) ≡ judged_by (contents_of b) b
    by_length (inl l) = rw (take_all n b l)
    by_length (inr l) = rw (contents-first b n h (omega arith)) (long l (contents_of b) refl)

pub proved : Proved
proved = record {
  read_edition = read_edition;
  section_exact = section_exact;
  section_none = section_none;
  read_first = read_first;
  one_read = λ b r s e f. e ∙ sym f;
  one_section = λ b which r s e f. e ∙ sym f;
}
