-- Filling, and asking for one stretch or many: the answers at the numbers that the code holds. Assumes nothing.
use Prim.Native.Nat.{ℕ, ◌+◌, ◌*◌, ◌%◌, ◌≤◌, ◌<◌}
use mathlib.Core.Path.{◌≡◌, refl, ap, ◌∙◌}
use mathlib.Core.Bool.{true}
use mathlib.Core.List.{List}
use native.Mathlib.Nat.{le_refl, mul-le-mul_right}
use native.Mathlib.Omega.{arith}
use lib.Dec.{leb, eqb}
use lib.ListN.{length}
use borrow.Author.Tests.{eq-eqb, eqb-true, leb-true}
use Rattle.rules.specs.Walk.{pick}
use Rattle.rules.specs.Limits.{question_width}
use Rattle.rules.specs.Table.{partitions}
use Rattle.rules.specs.declared.Refusal.{Refusal}
use Rattle.rules.specs.declared.Refusal.TheVariants.{Limits, Output, Asked, Beyond}
use Rattle.std.specs.Prelude.{Result, Ok, Err}
use Rattle.rules.proofs.Answers.{no_filling}
use Rattle.rules.proofs.Tests.{pick_first}
use Rattle.tables.specs.Tables.{lowest, unless}
use Rattle.tables.proofs.Chain.{lowest-good}
use Rattle.rules.specs.declared.Rule.TheVariants.{Own}
use Rattle.theory.specs.Plan.{held}
use Rattle.counts.specs.Counts.{row_of, row_width, needed, long_enough, agrees_at, plan_judged, counts_judged, unless_good, good_name, good_stretch, fill_of, held_of, asked, start, span, questions, names_one, within_frame, answer_at, many_of}
use Rattle.counts.specs.Inner.{Kept, Answerable}
use Rattle.counts.specs.Theorems.{Planned, Counted, NamedIn, WithinIn}
use Rattle.counts.proofs.Passes.{count-row, row_end}
use Rattle.counts.proofs.Orders.{name_is, stretch_is, tested, planned, sized, Called, called}

-- ---- filling

module _ (plan ps : List ℕ) (room : ℕ) where
  -- what an answer says
  pub filled : (n : ℕ) → fill_of plan ps room ≡ Ok n → Planned plan ps × (n ≡ needed plan ps) × (needed plan ps ≤ room)
  unfolding fill_of
  filled n e = go (plan_judged plan ps) refl e
    where
      go : (f : Result (Unit {0}) Refusal) → plan_judged plan ps ≡ f → unless Err f (pick (long_enough plan ps room) (Ok (needed plan ps)) (Err Output)) ≡ Ok n
          → Planned plan ps × (n ≡ needed plan ps) × (needed plan ps ≤ room)
      go (Err r) h q = absurd (no_filling n r q)
      go (Ok _) h q =
          let a = pick_first (long_enough plan ps room) _ _ (Ok n) (no_filling n Output) q in
          let m : n ≡ needed plan ps = cc a.1 in
          (planned plan ps h, m, leb-true _ _ a.0)

-- ---- one stretch

-- every partition's numbers are the plan's
pub kept_row : (plan ps list : List ℕ) (p : ℕ) → Counted plan ps list → 1 ≤ p → p ≤ partitions ps → Kept plan list p
unfolding agrees_at
kept_row plan ps list p g l m =
    let fits : p * row_width plan ≤ needed plan ps = mul-le-mul_right (row_width plan) m in
    record {
      partition = l;
      long = omega (arith, g.long);
      counts = λ k h. eqb-true _ _ (g.counts (row_of plan p + k) (omega (arith, row_end (row_width plan) p l))) ∙ count-row plan p l k h;
    }

module _ (plan ps list : List ℕ) (p s n : ℕ) where
  -- what is found of the call
  abbrev pub one_found : Result (Unit {0}) Refusal
  one_found = counts_judged plan ps list (unless_good (good_name (partitions ps) p) (Asked 0)) true (unless_good (good_stretch (length plan) s n) (Beyond 0))

  pub held-holds : one_found ≡ (Ok tt) → (h : ℕ) → h ≡ held Own plan p n s → Ok h ≡ held_of plan ps list p s n
  unfolding held_of
  held-holds e h q = rw (e, q)

  pub one_looks : one_found ≡ (Ok tt) → Kept plan list p × (s < length plan) × (n ≤ length plan)
  one_looks e =
      let g = called plan ps list _ true _ e in
      let a = name_is (partitions ps) p (tested _ (Asked 0) g.names) in
      let b = stretch_is (length plan) s n (tested _ (Beyond 0) g.insides) in
      (kept_row plan ps list p g.list_is a.0 a.1, b.0, b.1)

-- ---- many

pub answer_as : (plan qs : List ℕ) (k a s n h : ℕ) → a ≡ asked qs k → s ≡ start qs k → n ≡ span qs k → h ≡ held Own plan a n s → h ≡ answer_at plan qs k
unfolding answer_at
answer_as plan qs k a s n h ea es en eh = rw (← ea, ← es, ← en) eh

module _ (plan ps list qs : List ℕ) (room : ℕ) where
  -- what is found of the call: of its questions, n of them
  abbrev pub many_found : ℕ → Result (Unit {0}) Refusal
  many_found n = counts_judged plan ps list (lowest Asked (names_one (partitions ps) qs) (questions qs)) (leb n room) (lowest Beyond (within_frame (length plan) qs) (questions qs))

  pub many_fills : length qs % question_width ≡ 0 → (n : ℕ) → n ≡ questions qs → many_found n ≡ (Ok tt) → Ok n ≡ many_of plan ps list qs room
  unfolding many_of
  many_fills whole n en e = let e' : many_found (questions qs) ≡ (Ok tt) = rw en at e in rw (eq-eqb _ _ whole, e') (ap Ok en)

  -- what an answer says
  pub many_called : (n : ℕ) → many_of plan ps list qs room ≡ Ok n
      → (length qs % question_width ≡ 0) × (n ≡ questions qs)
      × Called plan ps list (lowest Asked (names_one (partitions ps) qs) (questions qs)) (leb (questions qs) room) (lowest Beyond (within_frame (length plan) qs) (questions qs))
  unfolding many_of
  many_called n e =
      let w = pick_first (eqb (length qs % question_width) 0) _ _ (Ok n) (no_filling n Limits) e in
      let g = go (many_found (questions qs)) refl w.1 in
      (eqb-true _ _ w.0, g.0, g.1)
    where
      go : (f : Result (Unit {0}) Refusal) → many_found (questions qs) ≡ f → unless Err f (Ok (questions qs)) ≡ Ok n
          → (n ≡ questions qs) × Called plan ps list (lowest Asked (names_one (partitions ps) qs) (questions qs)) (leb (questions qs) room) (lowest Beyond (within_frame (length plan) qs) (questions qs))
      go (Err r) h q = absurd (no_filling n r q)
      go (Ok _) h q = let m : n ≡ questions qs = cc q in (m, called plan ps list _ _ _ h)

  -- a question of them
  pub many_asks : Called plan ps list (lowest Asked (names_one (partitions ps) qs) (questions qs)) (leb (questions qs) room) (lowest Beyond (within_frame (length plan) qs) (questions qs))
      → (k : ℕ) → k < questions qs → NamedIn ps qs k × WithinIn plan qs k
  unfolding names_one within_frame
  many_asks g k l = (
    name_is (partitions ps) (asked qs k) (lowest-good Asked (names_one (partitions ps) qs) (questions qs) g.names k l),
    stretch_is (length plan) (start qs k) (span qs k) (lowest-good Beyond (within_frame (length plan) qs) (questions qs) g.insides k l),
  )

  pub many_looks : (n : ℕ) → many_of plan ps list qs room ≡ Ok n → (n ≡ questions qs) × (n ≤ room) × Answerable plan list qs n
  many_looks n e =
      let w = many_called n e in
      let g = w.2 in (
        w.1,
        rw w.1 (leb-true _ _ g.room),
        rw w.1 (record {
          small = (sized plan ps g.plans).0;
          whole = le_refl (questions qs);
          kept = λ k l. let a = (many_asks g k l).0 in kept_row plan ps list (asked qs k) g.list_is a.0 a.1;
          starts = λ k l. (many_asks g k l).1.0;
          spans = λ k l. (many_asks g k l).1.1;
        }),
      )
