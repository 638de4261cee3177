-- What a change means, and every statement with its proof. Assumes nothing.
use Prim.Native.Nat.{ℕ, ◌+◌, ◌≤◌, ◌<◌}
use mathlib.Core.Path.{◌≡◌, refl, sym, ap, ◌∙◌}
use mathlib.Core.Logic.{inl, inr}
use mathlib.Core.Bool.{true, true≢false, ◌&&◌}
use mathlib.Core.List.{List, ◌++◌}
use native.Mathlib.Decide.{ℕ_discrete}
use native.Mathlib.Omega.{arith}
use lib.Dec.{ltb, leb, eqb}
use lib.ListN.{length, get_or, set, drop, length-set}
use lib.Seq.{get_or-set_same, get_or-set_other, set-get_or}
use borrow.Author.Tests.{lt-ltb, le-ltb, ltb-true, ltb-false, le-leb, leb-true, leb-false, eq-eqb, ne_eqb}
use Rattle.rules.specs.Walk.{only}
use Rattle.rules.specs.Table.{partitions, good_tick}
use Rattle.rules.specs.declared.Refusal.TheVariants.{Asked, Beyond}
use Rattle.std.specs.Prelude.{Result, Ok, Err}
use Rattle.rules.specs.declared.Refusal.{Refusal}
use Rattle.rules.proofs.Named.{listed-length, new_tail}
use Rattle.rules.proofs.Sum.{only_true, only_false}
use Rattle.rules.proofs.Tests.{and_none}
use Rattle.rules.specs.declared.Rule.TheVariants.{Own}
use Rattle.theory.specs.Plan.{held}
use Rattle.counts.specs.Counts.{count_at, needed, running_counts, unless_good, held_of, change_of, changed_by, Changes}
use Rattle.counts.specs.Theorems.{number_of, HasNumber, Planned, Counted, Named, Within, ChangedBy, change_plan, change_name, change_length, change-counts, change-stretch, change_done, ChangeAnswers, ChangeCounted, OnlyMoves, ChangeMoves, ChangeSame, FillChangeHeld, ChangeOne, Proved}
use Rattle.counts.proofs.Orders.{tested, untested, is_called, Judging, at_plan, at_name, at_length, at-counts, at_stretch, at_none, judging}
use Rattle.counts.proofs.Asking.{kept_row}
use Rattle.counts.proofs.Changing.{moved, Changeable, changeable}
use Rattle.counts.proofs.Answers.{list_is, counted-from, counted_is, plan_exactly, plan_as_checked, plan_places, fill_answers, fill_counted, fill_keeps, held_answers, is_held, fill_one, held_one}
use Rattle.counts.proofs.Many.{many_answers, many_each, many_keeps, many_one}

is_changed : (plan ps list : List ℕ) (tick owner : ℕ) → Planned plan ps → Counted plan ps list → owner ≤ partitions ps → tick < length plan → change_of plan ps list tick owner ≡ (Ok tt)
unfolding change_of
is_changed plan ps list tick owner g c l m = is_called plan ps list _ true _ (record { plans = g; names = rw (le-leb owner (partitions ps) l); list_is = c; room = refl; insides = rw (lt-ltb tick (length plan) m) })

pub change_answers : ChangeAnswers
unfolding change_of
change_answers plan ps list tick owner = go _ (judging plan ps list (unless_good (leb owner (partitions ps)) (Asked 0)) true (unless_good (ltb tick (length plan)) (Beyond 0)))
  where
    named : unless_good (leb owner (partitions ps)) (Asked 0) ≡ (Ok tt) → owner ≤ partitions ps
    named e = leb-true _ _ (tested _ (Asked 0) e)

    go : (f : Result (Unit {0}) Refusal) → Judging plan ps list (unless_good (leb owner (partitions ps)) (Asked 0)) true (unless_good (ltb tick (length plan)) (Beyond 0)) f → ChangedBy plan ps list tick owner f
    go f (at_plan r e) = change_plan r e
    go f (at_name g r e) = let a = untested (leb owner (partitions ps)) (Asked 0) r e in rw a.1 (change_name g (leb-false _ _ a.0))
    go f (at_length g e (inl l)) = change_length g (named e) l
    go f (at_length g e (inr h)) = absurd (true≢false h)
    go f (at-counts g e l m c) = change-counts g (named e) l c
    go f (at_stretch g e c m r h) = let a = untested (ltb tick (length plan)) (Beyond 0) r h in rw a.1 (change-stretch g (named e) c (ltb-false _ _ a.0))
    go f (at_none g e c m h) = change_done g (named e) c (ltb-true _ _ (tested _ (Beyond 0) h))

-- the changed plan is as good as the plan was
still_planned : (plan ps : List ℕ) (tick owner : ℕ) → Planned plan ps → owner ≤ partitions ps → tick < length plan → Planned (set plan tick owner) ps
still_planned plan ps tick owner g l m = record { tables = rw (length-set plan tick owner) g.tables; ticks = λ t h. at t (rw (length-set plan tick owner) at h) (ℕ_discrete t tick) }
  where
    at : (t : ℕ) → t < length plan → Dec (t ≡ tick) → good_tick (partitions ps) (set plan tick owner) t ≡ true
    at t h (yes e) = rw (e, get_or-set_same plan tick owner 0 m) (le-leb owner (partitions ps) l)
    at t h (no n) = rw (get_or-set_other plan tick t owner 0 n) (g.ticks t h)

module _ (plan ps list plan' o : List ℕ) (tick owner : ℕ) (c : Changes plan ps list tick owner plan' o (Ok tt)) where
  may : Changeable plan ps list tick owner
  may = changeable plan ps list tick owner (sym c.0)

  counted : Planned plan' ps × Counted plan' ps o
  counted =
      rw c.1 (still_planned plan ps tick owner may.plans may.new_owner may.inside, counted-from (set plan tick owner) ps o (drop (needed plan ps) list) c.2)

  as_long : length plan' ≡ length plan
  as_long = ap length c.1 ∙ length-set plan tick owner

  -- the numbers of both lists
  module _ (p k : ℕ) (h : HasNumber plan ps p k) where
    number_old : get_or list (number_of plan p k) 0 ≡ held Own plan p k 0
    number_old = (kept_row plan ps list p may.list_is h.named.0 h.named.1).counts k h.upto

    number_new : get_or o (number_of plan p k) 0 ≡ held Own (set plan tick owner) p k 0
    number_new =
        let n : held Own plan' p k 0 ≡ held Own (set plan tick owner) p k 0 = ap (λ (l : List ℕ). held Own l p k 0) c.1 in
        let i : get_or o (number_of plan' p k) 0 ≡ held Own plan' p k 0 = (kept_row plan' ps o p counted.1 h.named.0 h.named.1).counts k (omega (arith, h.upto, as_long)) in
        let i' : get_or o (number_of plan p k) 0 ≡ held Own plan' p k 0 = rw as_long at i in
        i' ∙ n

    shift : get_or o (number_of plan p k) 0 + only (ltb tick k && eqb (get_or plan tick 0) p) 1 ≡ get_or list (number_of plan p k) 0 + only (ltb tick k && eqb owner p) 1
    shift = rw (number_old, number_new) (moved plan tick owner may.inside p k h.upto)

  -- ---- the list as a whole

  total : length (running_counts (set plan tick owner) ps) ≡ needed plan ps
  total = listed-length (count_at (set plan tick owner)) (needed (set plan tick owner) ps) ∙ rw (length-set plan tick owner)

  kept-tail : (length o ≡ length list) × ((i : ℕ) → needed plan ps ≤ i → get_or o i 0 ≡ get_or list i 0)
  kept-tail = new_tail (running_counts (set plan tick owner) ps) list o (needed plan ps) c.2 total may.list_is.long

  moves : OnlyMoves plan ps list plan' o tick owner
  moves = record {
    as_long = as_long;
    given = rw c.1 (get_or-set_same plan tick owner 0 may.inside);
    other_ticks = λ t n. rw c.1 (get_or-set_other plan tick t owner 0 n);
    list_as_long = kept-tail.0;
    earlier = λ p k h l. omega (arith, rw (le-ltb tick k l) at (shift p k h));
    of_others = λ p k h a b. omega (arith, shift p k h, not_other (get_or plan tick 0) p k a, not_other owner p k b);
    of_old = λ p k h l a b. omega (arith, shift p k h, other (get_or plan tick 0) p k l a, not_other owner p k b);
    of_new = λ p k h l a b. omega (arith, shift p k h, not_other (get_or plan tick 0) p k a, other owner p k l b);
    of_both = λ p k h a b. omega (arith, shift p k h, ap (λ (x : ℕ). only (ltb tick k && eqb x p) 1) (sym a ∙ b));
    tail = kept-tail.1;
  }
    where
      not_other : (q p k : ℕ) → ¬ (p ≡ q) → only (ltb tick k && eqb q p) 1 ≡ 0
      not_other q p k n = only_false _ 1 (and_none (ltb tick k) (eqb q p) (ne_eqb q p (λ e. n (sym e))))

      other : (q p k : ℕ) → tick < k → p ≡ q → only (ltb tick k && eqb q p) 1 ≡ 1
      other q p k l e = only_true _ 1 (rw (lt-ltb tick k l, eq-eqb q p (sym e)))

pub change_counted : ChangeCounted
change_counted plan ps list plan' o tick owner c = counted plan ps list plan' o tick owner c

pub change_moves : ChangeMoves
change_moves plan ps list plan' o tick owner c = moves plan ps list plan' o tick owner c

pub change_same : ChangeSame
change_same plan ps list plan' o tick r c = go r c.0 c.1 c.2
  where
    same : set plan tick (get_or plan tick 0) ≡ plan
    same = set-get_or plan tick 0

    go : (r : Result (Unit {0}) Refusal) → r ≡ change_of plan ps list tick (get_or plan tick 0) → plan' ≡ changed_by r (set plan tick (get_or plan tick 0)) plan
        → o ≡ changed_by r (running_counts (set plan tick (get_or plan tick 0)) ps ++ drop (needed plan ps) list) list → (plan' ≡ plan) × (o ≡ list)
    go (Err x) e f g = (f, g)
    go (Ok _) e f g =
        let a = changeable plan ps list tick (get_or plan tick 0) (sym e) in
        let w : running_counts (set plan tick (get_or plan tick 0)) ps ++ drop (needed plan ps) list ≡ list = rw same (sym ((counted_is plan ps list).0 a.list_is)) in
        (f ∙ same, g ∙ w)

pub fill_change_held : FillChangeHeld
fill_change_held plan ps list o plan' o' m tick owner r f c l i =
    let a = fill_counted plan ps list o m f in
    let e : r ≡ (Ok tt) = c.0 ∙ is_changed plan ps o tick owner a.0 a.1 l i in
    (e, λ p s n h m q w. w ∙ after (rw e at c) p s n m q)
  where
    after : Changes plan ps o tick owner plan' o' (Ok tt) → (p s n : ℕ) → Named ps p → Within plan s n → held_of plan' ps o' p s n ≡ Ok (held Own (set plan tick owner) p n s)
    after c p s n m q =
        let b = change_counted plan ps o plan' o' tick owner c in
        let e : length plan' ≡ length plan = ap length c.1 ∙ length-set plan tick owner in
        is_held plan' ps o' p s n b.0 b.1 m (rw e q.0, rw e q.1) ∙ ap (λ (x : List ℕ). Ok (held Own x p n s)) c.1

pub change_one : ChangeOne
change_one plan ps list plan₁ plan₂ o₁ o₂ tick owner r r' a b =
    let e : r ≡ r' = a.0 ∙ sym b.0 in (
      e,
      a.1 ∙ ap (λ (x : Result (Unit {0}) Refusal). changed_by x (set plan tick owner) plan) e ∙ sym b.1,
      a.2 ∙ ap (λ (x : Result (Unit {0}) Refusal). changed_by x (running_counts (set plan tick owner) ps ++ drop (needed plan ps) list) list) e ∙ sym b.2,
    )

pub proved : Proved
proved = record {
  list_is = list_is;
  counted_is = counted_is;
  plan_exactly = plan_exactly;
  plan_as_checked = plan_as_checked;
  plan_places = plan_places;
  fill_answers = fill_answers;
  held_answers = held_answers;
  many_answers = many_answers;
  many_each = many_each;
  change_answers = change_answers;
  fill_counted = fill_counted;
  fill_keeps = fill_keeps;
  many_keeps = many_keeps;
  change_counted = change_counted;
  change_moves = change_moves;
  change_same = change_same;
  fill_change_held = fill_change_held;
  fill_one = fill_one;
  held_one = held_one;
  many_one = many_one;
  change_one = change_one;
}
