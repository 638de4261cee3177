-- What it means to ask for many stretches in one call. Assumes nothing.
use Prim.Native.Nat.{ℕ, ◌%◌, ◌≤◌, ◌<◌}
use mathlib.Core.Path.{◌≡◌, refl, sym, ap, ◌∙◌}
use mathlib.Core.Logic.{inl, inr}
use mathlib.Core.Bool.{Bool, true, false, true≢false}
use mathlib.Core.List.{List}
use native.Mathlib.Omega.{arith}
use lib.Dec.{leb, eqb}
use lib.ListN.{length, get_or, drop, get_or-append}
use borrow.Author.Tests.{leb-true, leb-false, eqb-true, eqb-false}
use Rattle.rules.specs.Walk.{pick, listed}
use Rattle.rules.specs.Limits.{question_width}
use Rattle.rules.specs.Table.{partitions}
use Rattle.rules.specs.Filling.{left_by}
use Rattle.rules.specs.declared.Refusal.TheVariants.{Limits, Asked, Beyond}
use Rattle.std.specs.Prelude.{Result, Ok, Err}
use Rattle.rules.specs.declared.Refusal.{Refusal}
use Rattle.rules.proofs.Named.{listed-length, listed_at, new_tail}
use Rattle.tables.specs.Tables.{lowest, unless}
use Rattle.tables.proofs.Chain.{lowest-good, lowest_at}
use Rattle.rules.specs.declared.Rule.TheVariants.{Own}
use Rattle.theory.specs.Plan.{held}
use Rattle.counts.specs.Counts.{counts_judged, asked, start, span, questions, names_one, within_frame, answer_at, many_of}
use Rattle.counts.specs.Theorems.{NamedIn, WithinIn, All, ManyBy, many-questions, many_plan, many-name, many-length, many-counts, many-stretch, many-done, ManyAnswers, ManyEach, ManyKeeps, ManyOne}
use Rattle.counts.proofs.Orders.{name_is, is_name, stretch_is, is_stretch, Judging, at_plan, at_name, at_length, at-counts, at_stretch, at_none, judging}
use Rattle.counts.proofs.Asking.{many_called, many_asks, many_looks}
use Rattle.counts.proofs.Answers.{is_held}

module _ (plan ps list qs : List ℕ) (room : ℕ) where
  abbrev names : Result (Unit {0}) Refusal
  names = lowest Asked (names_one (partitions ps) qs) (questions qs)

  abbrev insides : Result (Unit {0}) Refusal
  insides = lowest Beyond (within_frame (length plan) qs) (questions qs)

  named : (k : ℕ) → names_one (partitions ps) qs k ≡ true → NamedIn ps qs k
  unfolding names_one
  named k e = name_is (partitions ps) (asked qs k) e

  unnamed : (k : ℕ) → names_one (partitions ps) qs k ≡ false → ¬ NamedIn ps qs k
  unfolding names_one
  unnamed k e h = true≢false (sym (is_name (partitions ps) (asked qs k) h.0 h.1) ∙ e)

  all_named : names ≡ (Ok tt) → All (NamedIn ps qs) (questions qs)
  all_named e k l = named k (lowest-good Asked (names_one (partitions ps) qs) (questions qs) e k l)

  within : (k : ℕ) → within_frame (length plan) qs k ≡ true → WithinIn plan qs k
  unfolding within_frame
  within k e = stretch_is (length plan) (start qs k) (span qs k) e

  outside : (k : ℕ) → within_frame (length plan) qs k ≡ false → ¬ WithinIn plan qs k
  unfolding within_frame
  outside k e h = true≢false (sym (is_stretch (length plan) (start qs k) (span qs k) h.0 h.1) ∙ e)

  many_by : ManyBy plan ps list qs room (many_of plan ps list qs room)
  unfolding many_of
  many_by = whole (eqb (length qs % question_width) 0) refl
    where
      go : length qs % question_width ≡ 0 → (f : Result (Unit {0}) Refusal) → Judging plan ps list names (leb (questions qs) room) insides f
          → ManyBy plan ps list qs room (unless Err f (Ok (questions qs)))
      go w f (at_plan r e) = many_plan w r e
      go w f (at_name g r e) =
          let a = lowest_at Asked (names_one (partitions ps) qs) (questions qs) r e in
          rw a.1 (many-name w g a.0 a.2 (unnamed a.0 a.3) (λ j l. named j (a.4 j l)))
      go w f (at_length g e (inl l)) = many-length w g (all_named e) (inl l)
      go w f (at_length g e (inr h)) = many-length w g (all_named e) (inr (leb-false _ _ h))
      go w f (at-counts g e l m c) = many-counts w g (all_named e) l (leb-true _ _ m) c
      go w f (at_stretch g e c m r h) =
          let a = lowest_at Beyond (within_frame (length plan) qs) (questions qs) r h in
          rw a.1 (many-stretch w g (all_named e) c (leb-true _ _ m) a.0 a.2 (outside a.0 a.3) (λ j l. within j (a.4 j l)))
      go w f (at_none g e c m h) = many-done w g (all_named e) c (leb-true _ _ m) (λ k l. within k (lowest-good Beyond (within_frame (length plan) qs) (questions qs) h k l))

      whole : (b : Bool) → eqb (length qs % question_width) 0 ≡ b
          → ManyBy plan ps list qs room (pick b (unless Err (counts_judged plan ps list names (leb (questions qs) room) insides) (Ok (questions qs))) (Err Limits))
      whole true e = go (eqb-true _ _ e) _ (judging plan ps list names (leb (questions qs) room) insides)
      whole false e = many-questions (eqb-false _ _ e)

pub many_answers : ManyAnswers
many_answers plan ps list qs room = many_by plan ps list qs room

pub many_each : ManyEach
unfolding answer_at
many_each plan ps list qs out o n h k l =
    let w = many_called plan ps list qs (length out) n (sym h.0) in
    let m : k < questions qs = rw w.1 at l in
    let a = many_asks plan ps list qs (length out) w.2 k m in
    let answers = listed (answer_at plan qs) (questions qs) in
    let e : get_or o k 0 ≡ held Own plan (asked qs k) (span qs k) (start qs k) =
    ap (λ (x : List ℕ). get_or x k 0) h.1 ∙ get_or-append answers (drop n out) 0 k (omega (arith, listed-length (answer_at plan qs) (questions qs))) ∙ listed_at (answer_at plan qs) (questions qs) k m in
    rw e (is_held plan ps list (asked qs k) (start qs k) (span qs k) w.2.plans w.2.list_is a.0 a.1)

pub many_keeps : ManyKeeps
many_keeps plan ps list qs out o r h = go r h.0 h.1
  where
    go : (r : Result ℕ Refusal) → r ≡ many_of plan ps list qs (length out) → o ≡ left_by r (listed (answer_at plan qs) (questions qs)) out
        → (length o ≡ length out) × ((i : ℕ) → questions qs ≤ i → get_or o i 0 ≡ get_or out i 0)
    go (Err x) e f = (ap length f, λ i l. ap (λ (q : List ℕ). get_or q i 0) f)
    go (Ok n) e f =
        let a = many_looks plan ps list qs (length out) n (sym e) in
        new_tail (listed (answer_at plan qs) (questions qs)) out o (questions qs) (rw a.0 at f) (listed-length (answer_at plan qs) (questions qs)) (rw (← a.0) a.1)

pub many_one : ManyOne
many_one plan ps list qs out o o' r r' a b =
    let e : r ≡ r' = a.0 ∙ sym b.0 in
    (e, a.1 ∙ ap (λ (x : Result ℕ Refusal). left_by x (listed (answer_at plan qs) (questions qs)) out) e ∙ sym b.1)
