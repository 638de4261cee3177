-- What the answers mean: the list, the plan's refusals, filling and asking. Assumes nothing.
use Prim.Native.Nat.{ℕ, ◌+◌, ◌*◌, ◌≤◌}
use mathlib.Core.Path.{◌≡◌, refl, sym, ap, ◌∙◌}
use mathlib.Core.Logic.{◌⊎◌, inl, inr}
use mathlib.Core.Bool.{Bool, true, false, true≢false}
use mathlib.Core.List.{List, [], ◌++◌}
use native.Mathlib.Nat.{mul-le-mul_right}
use native.Mathlib.Omega.{arith}
use lib.ListN.{length, get_or, drop, length-append, get_or-append}
use borrow.Author.Tests.{leb-true, leb-false, eqb-true, eq-eqb}
use Rattle.rules.specs.Walk.{pick}
use Rattle.rules.specs.Table.{partitions, good_part, good_task, good_tick}
use Rattle.rules.specs.Terms.{good_edition, good_granule, usual, wanted}
use Rattle.rules.specs.Filling.{left_by}
use Rattle.rules.specs.Refusals.{told}
use Rattle.rules.specs.declared.Refusal.{Refusal}
use Rattle.rules.specs.declared.Refusal.TheVariants.{Limits, Partition, Task, Tick, Output, Asked, Beyond}
use Rattle.std.specs.Prelude.{Result, Ok, Err}
use Rattle.rules.proofs.Named.{listed-length, listed_at, new_tail, named-list}
use Rattle.tables.specs.Tables.{within_limits, lowest, unless, in_edition, tables_of, ticks_judged}
use Rattle.tables.proofs.Chain.{in_turn, lowest_at}
use Rattle.plan_check.specs.Check.{scan_of, plan_check_of, check_of}
use Rattle.rules.specs.declared.Rule.TheVariants.{Own}
use Rattle.theory.specs.Plan.{held}
use Rattle.counts.specs.Counts.{row_width, row_of, count_at, needed, running_counts, long_enough, agrees_at, plan_judged, unless_good, good_name, good_stretch, fill_of, held_of}
use Rattle.counts.specs.Theorems.{ListIs, Planned, Counted, CountedIs, PlanExactly, PlanAsChecked, PlanPlaces, FilledBy, fill_plan, fill_length, fill_done, FillAnswers, FillCounted, FillKeeps, Named, Within, HeldBy, held_plan, held_name, held-length, held-counts, held_stretch, held-done, HeldAnswers, FillOne, CountsHeldOne}
use Rattle.counts.proofs.Passes.{count-row, row_end}
use Rattle.counts.proofs.Orders.{name_is, is_name, stretch_is, is_stretch, tested, untested, planned, is_planned, is_called, Judging, at_plan, at_name, at_length, at-counts, at_stretch, at_none, judging}
use Rattle.counts.proofs.Asking.{filled, held-holds}

-- ---- the list

pub list_is : ListIs
list_is plan ps = (
  listed-length (count_at plan) (needed plan ps),
  λ p k h.
      let l : p * row_width plan ≤ needed plan ps = mul-le-mul_right (row_width plan) h.named.1 in
      listed_at (count_at plan) (needed plan ps) (row_of plan p + k) (omega (arith, row_end (row_width plan) p h.named.0, h.upto)) ∙ count-row plan p h.named.0 k h.upto,
)

-- what begins with the list is the plan's
pub counted-from : (plan ps list tail : List ℕ) → list ≡ running_counts plan ps ++ tail → Counted plan ps list
unfolding agrees_at
counted-from plan ps list tail e =
    let n : length (running_counts plan ps) ≡ needed plan ps = listed-length (count_at plan) (needed plan ps) in
    let l : length list ≡ length (running_counts plan ps) + length tail = ap length e ∙ length-append (running_counts plan ps) tail in
    record {
      long = omega arith;
      counts = λ i h. eq-eqb _ _ (ap (λ (x : List ℕ). get_or x i 0) e ∙ get_or-append (running_counts plan ps) tail 0 i (omega (arith, n)) ∙ listed_at (count_at plan) (needed plan ps) i h);
    }

pub counted_is : CountedIs
unfolding agrees_at
counted_is plan ps list = (
  λ g. named-list (count_at plan) (needed plan ps) list list g.long (record { as_long = refl; done = λ i h. eqb-true _ _ (g.counts i h); rest = λ i h. refl }),
  counted-from plan ps list (drop (needed plan ps) list),
)

-- ---- the plan

pub plan_exactly : PlanExactly
plan_exactly plan ps = (planned plan ps, is_planned plan ps)

pub plan_as_checked : PlanAsChecked
unfolding check_of plan_check_of plan_judged
plan_as_checked plan ps = sym (in_turn Err (tables_of usual (length plan) ps []) (ticks_judged plan ps) (scan_of Own (wanted usual ps) plan ps))

pub plan_places : PlanPlaces
unfolding plan_judged good_edition in_edition tables_of good_granule
plan_places plan ps r e =
    go (within_limits (length plan) (length ps) 0) (lowest Partition (good_part (length plan) ps) (partitions ps)) refl (lowest Task (good_task (partitions ps) []) 0) refl (ticks_judged plan ps) refl e
  where
    Placed : Type 0
    Placed = ((told r).number ≡ 3) ⊎ (1 ≤ (told r).first)

    from_1 : (refusal : ℕ → Refusal) (good : ℕ → Bool) (n : ℕ) → ((k : ℕ) → (told (refusal k)).first ≡ k) → lowest refusal good n ≡ Err r → Placed
    from_1 refusal good n h e =
        let a = lowest_at refusal good n r e in
        inr (omega (arith, ap (λ (x : Refusal). (told x).first) a.1, h (a.0 + 1)))

    go : (w : Bool) (a : Result (Unit {0}) Refusal) → lowest Partition (good_part (length plan) ps) (partitions ps) ≡ a → (b : Result (Unit {0}) Refusal) → lowest Task (good_task (partitions ps) []) 0 ≡ b
        → (c : Result (Unit {0}) Refusal) → ticks_judged plan ps ≡ c → unless Err (pick w (unless Err a b) (Err Limits)) c ≡ Err r → Placed
    go false a ea b eb c ec e = let z : Limits ≡ r = cc e in inl (rw (← z))
    go true (Err q) ea b eb c ec e = from_1 Partition (good_part (length plan) ps) (partitions ps) (λ k. refl) (ea ∙ e)
    go true (Ok _) ea (Err q) eb c ec e = from_1 Task (good_task (partitions ps) []) 0 (λ k. refl) (eb ∙ e)
    go true (Ok _) ea (Ok _) eb c ec e = from_1 Tick (good_tick (partitions ps) plan) (length plan) (λ k. refl) (ec ∙ e)

-- ---- filling

pub fill_answers : FillAnswers
unfolding fill_of
fill_answers plan ps room = go (plan_judged plan ps) refl (long_enough plan ps room) refl
  where
    go : (f : Result (Unit {0}) Refusal) → plan_judged plan ps ≡ f → (b : Bool) → long_enough plan ps room ≡ b
        → FilledBy plan ps room (unless Err f (pick b (Ok (needed plan ps)) (Err Output)))
    go (Err r) e b h = fill_plan r e
    go (Ok _) e true h = fill_done (planned plan ps e) (leb-true _ _ h)
    go (Ok _) e false h = fill_length (planned plan ps e) (leb-false _ _ h)

pub fill_counted : FillCounted
fill_counted plan ps list o n f = ((filled plan ps (length list) n (sym f.0)).0, counted-from plan ps o (drop n list) f.1)

pub fill_keeps : FillKeeps
fill_keeps plan ps list o r f = go r f.0 f.1
  where
    go : (r : Result ℕ Refusal) → r ≡ fill_of plan ps (length list) → o ≡ left_by r (running_counts plan ps) list → (length o ≡ length list) × ((i : ℕ) → needed plan ps ≤ i → get_or o i 0 ≡ get_or list i 0)
    go (Err x) e h = (ap length h, λ i l. ap (λ (q : List ℕ). get_or q i 0) h)
    go (Ok n) e h =
        let a = filled plan ps (length list) n (sym e) in
        new_tail (running_counts plan ps) list o (needed plan ps) (rw a.1 at h) (listed-length (count_at plan) (needed plan ps)) a.2

-- ---- held

pub held_answers : HeldAnswers
unfolding held_of
held_answers plan ps list p s n = go _ (judging plan ps list (unless_good (good_name (partitions ps) p) (Asked 0)) true (unless_good (good_stretch (length plan) s n) (Beyond 0)))
  where
    named : unless_good (good_name (partitions ps) p) (Asked 0) ≡ (Ok tt) → Named ps p
    named e = name_is (partitions ps) p (tested _ (Asked 0) e)

    go : (f : Result (Unit {0}) Refusal) → Judging plan ps list (unless_good (good_name (partitions ps) p) (Asked 0)) true (unless_good (good_stretch (length plan) s n) (Beyond 0)) f
        → HeldBy plan ps list p s n (unless Err f (Ok (held Own plan p n s)))
    go f (at_plan r e) = held_plan r e
    go f (at_name g r e) = let a = untested (good_name (partitions ps) p) (Asked 0) r e in rw a.1 (held_name g (λ h. true≢false (sym (is_name (partitions ps) p h.0 h.1) ∙ a.0)))
    go f (at_length g e (inl l)) = held-length g (named e) l
    go f (at_length g e (inr h)) = absurd (true≢false h)
    go f (at-counts g e l m c) = held-counts g (named e) l c
    go f (at_stretch g e c m r h) = let a = untested (good_stretch (length plan) s n) (Beyond 0) r h in rw a.1 (held_stretch g (named e) c (λ w. true≢false (sym (is_stretch (length plan) s n w.0 w.1) ∙ a.0)))
    go f (at_none g e c m h) = held-done g (named e) c (stretch_is (length plan) s n (tested _ (Beyond 0) h))

pub is_held : (plan ps list : List ℕ) (p s n : ℕ) → Planned plan ps → Counted plan ps list → Named ps p → Within plan s n → held_of plan ps list p s n ≡ Ok (held Own plan p n s)
is_held plan ps list p s n g c m w =
    sym (held-holds plan ps list p s n
    (is_called plan ps list _ true _ (record { plans = g; names = rw (is_name (partitions ps) p m.0 m.1); list_is = c; room = refl; insides = rw (is_stretch (length plan) s n w.0 w.1) })) _ refl)

-- ---- one outcome

pub fill_one : FillOne
fill_one plan ps list o o' r r' a b =
    let e : r ≡ r' = a.0 ∙ sym b.0 in
    (e, a.1 ∙ ap (λ (x : Result ℕ Refusal). left_by x (running_counts plan ps) list) e ∙ sym b.1)

pub held_one : CountsHeldOne
held_one plan ps list p s n r r' a b = a ∙ sym b
