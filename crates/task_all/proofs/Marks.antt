-- What is put at the tasks' places, task by task and partition by partition. Assumes nothing.
use Prim.Native.Nat.{ℕ, ◌+◌, ◌^◌, ◌≤◌, ◌<◌}
use mathlib.Core.Path.{◌≡◌, refl, sym, ap, ◌∙◌}
use mathlib.Core.Logic.{◌⊎◌, inl, inr}
use mathlib.Core.Bool.{Bool, true, false}
use mathlib.Core.List.{List}
use native.Mathlib.Decide.{ℕ_discrete}
use native.Mathlib.Omega.{arith}
use lib.Dec.{eqb, leb}
use lib.ListN.{length, get_or, set, length-set}
use borrow.Author.Tests.{eq-eqb, ne_eqb, le-leb, lt-leb, leb-true}
use Rattle.rules.specs.Limits.{longest, most_tasks}
use Rattle.rules.specs.Inner.{AsNamed}
use Rattle.std.specs.Prelude.{Option, None, Some}
use lib.Seq.{get_or-set_same, get_or-set_other}
use Rattle.rules.specs.Walk.{pick, first, largest, Every}
use Rattle.rules.specs.Table.{partition, budget, deadline, period, tasks, good_task}
use Rattle.rules.specs.declared.Rule.{Rule}
use Rattle.rules.proofs.Least.{largest-zero, largest-le, largest_is}
use Rattle.rules.proofs.Sum.{le-or-lt, only-eq, only_ne, only_self}
use Rattle.rules.proofs.Tests.{good-times}
use Rattle.theory.specs.Plan.{least}
use Rattle.task_demand.specs.Inner.{all_asked, Judgeable, Drawn}
use Rattle.task_demand.proofs.Lists.{in_order}
use Rattle.theory.specs.Task.{task_load, task_point, task_tick}
use Rattle.theory.proofs.Points.{tick_at_most_point}
use Rattle.theory.proofs.Tasks.{points_enough, ticks_exactly}
use Rattle.task_demand.specs.Inner.{in_time}
use Rattle.task_points.specs.Inner.{point_fits}
use Rattle.task_points.proofs.Points.{point_is}
use Rattle.task_plain.specs.Inner.{tick_fits}
use Rattle.task_plain.proofs.Ticks.{tick_is}
use Rattle.task_all.specs.declared.Times.{Times}
use Rattle.task_all.specs.Inner.{deadline_in, both, times_by, times_at, times_of, FoundAs, marked, judged_in, JudgedIn, JudgeableAll, NoTick}

-- ---- a pass over the answers

pub found-none : (o : ℕ → Option Times) (l : List (Option Times)) → FoundAs o 0 l l
found-none o l = record { as_long = refl; done = λ t h. absurd (omega arith); rest = λ t h. refl }

found-turn : (o : ℕ → Option Times) (t : ℕ) (v : Option Times) (before cur after : List (Option Times)) → FoundAs o t before cur → t < length before → after ≡ set cur t v → v ≡ o t → FoundAs o (t + 1) before after
found-turn o t v before cur after w l e f =
    rw e (record {
      as_long = length-set cur t v ∙ w.as_long;
      done = λ u h. at u h (ℕ_discrete u t);
      rest = λ u h. get_or-set_other cur t u v None (λ z. absurd (omega arith)) ∙ w.rest u (omega arith);
    })
  where
    at : (u : ℕ) → u < t + 1 → Dec (u ≡ t) → get_or (set cur t v) u None ≡ o u
    at u h (yes z) = rw z (get_or-set_same cur t v None (omega (arith, w.as_long)) ∙ f)
    at u h (no z) = get_or-set_other cur t u v None z ∙ w.done u (omega arith)

pub found-end : (o : ℕ → Option Times) (t h : ℕ) (before after : List (Option Times)) → t ≤ h → h ≤ t → FoundAs o t before after → FoundAs o h before after
found-end o t h before after l g w = let e : t ≡ h = omega arith in rw e at w

found_as : (o o' : ℕ → Option Times) (h : ℕ) (before after : List (Option Times)) → ((t : ℕ) → t < h → o t ≡ o' t) → FoundAs o h before after → FoundAs o' h before after
found_as o o' h before after e w = record { as_long = w.as_long; done = λ t l. w.done t l ∙ e t l; rest = w.rest }

found_then : (o o' : ℕ → Option Times) (h : ℕ) (before cur after : List (Option Times)) → FoundAs o h before cur → FoundAs o' h cur after → FoundAs o' h before after
found_then o o' h before cur after v w = record { as_long = w.as_long ∙ v.as_long; done = w.done; rest = λ t l. w.rest t l ∙ v.rest t l }

-- ---- one task

-- what is found in time is small where the deadline is
pub in-time_small : (d t x : ℕ) → d < 2 ^ 16 → in_time d t ≡ Some x → x < 2 ^ 16
unfolding in_time
in-time_small d t x h e = go (leb t d) refl e
  where
    go : (b : Bool) → leb t d ≡ b → pick b (Some t) None ≡ Some x → x < 2 ^ 16
    go true l e = let z : t ≡ x = cc e in let k = leb-true t d l in omega arith
    go false l e = let z : ◌≡◌ {A = ℕ} 0 1 = cc in absurd (omega arith)

-- the tick is no later than the point, so that both are found where the point is
both_at : (d t u : ℕ) → u ≤ t → both (in_time d t) (in_time d u) ≡ times_at d t u
unfolding in_time times_at
both_at d t u l = go (le-or-lt t d)
  where
    go : (t ≤ d) ⊎ (d < t) → both (pick (leb t d) (Some t) None) (pick (leb u d) (Some u) None) ≡ pick (leb t d) (Some (record { point = t; tick = u })) None
    go (inl h) = rw (le-leb t d h, le-leb u d (omega arith))
    go (inr h) = rw (lt-leb t d h)

-- what the two searches find
module _ (curve asks ts : List ℕ) (j c d : ℕ) (ec : c ≡ budget ts j) (ed : d ≡ deadline ts j) (r : Option ℕ) (er : r ≡ in_time d (first (point_fits curve asks c d) (d + 1))) where
  found_both : (s : Option ℕ) → s ≡ in_time d (first (tick_fits curve asks c) (d + 1)) → both r s ≡ times_by curve asks ts j
  unfolding times_by
  found_both s es = rw (er, es, ec, ed)

  pub point_none : r ≡ None → None ≡ times_by curve asks ts j
  point_none e = let b = found_both _ refl in rw e at b

  module _ (t : ℕ) (e : r ≡ Some t) (s : Option ℕ) (es : s ≡ in_time d (first (tick_fits curve asks c) (d + 1))) where
    pub tick_none : s ≡ None → None ≡ times_by curve asks ts j
    tick_none f = let b = found_both s es in rw (e, f) at b

    pub both_found : (u : ℕ) → s ≡ Some u → ◌≡◌ {A = Option Times} (Some (record { point = t; tick = u })) (times_by curve asks ts j)
    both_found u f = let b = found_both s es in rw (e, f) at b

-- by the lists that is what the rules say
pub times_are : (rule : Rule) (plan ts : List ℕ) (j : ℕ) (curve asks : List ℕ) → Judgeable ts j → Drawn rule plan ts j curve asks → times_by curve asks ts j ≡ times_of rule plan ts j
unfolding times_by times_of
times_are rule plan ts j curve asks g w =
    rw (point_is rule plan ts j curve asks g w _ _ refl refl, tick_is rule plan ts j _ _ curve asks w refl refl)
    (both_at (deadline ts j) (task_point rule plan ts j) (task_tick rule plan ts j) (tick_at_most_point (task_load ts) (least rule plan (partition ts j)) j))

-- ---- one task more

module _ (ts : List ℕ) (p : ℕ) (found : ℕ → Option Times) where
  skip : (j : ℕ) (before cur : List (Option Times)) → FoundAs (judged_in ts p found before) j before cur → ¬ (partition ts j ≡ p) → FoundAs (judged_in ts p found before) (j + 1) before cur
  unfolding judged_in
  skip j before cur w n = record { as_long = w.as_long; done = λ u h. at u h (ℕ_discrete u j); rest = λ u h. w.rest u (omega arith) }
    where
      at : (u : ℕ) → u < j + 1 → Dec (u ≡ j) → get_or cur u None ≡ pick (eqb (partition ts u) p) (found u) (get_or before u None)
      at u h (yes e) = rw (e, ne_eqb (partition ts j) p n) (w.rest j (omega arith))
      at u h (no z) = w.done u (omega arith)

  pub mark-turn : (j : ℕ) (v : Option Times) (before cur after : List (Option Times)) → FoundAs (judged_in ts p found before) j before cur → j < length before → after ≡ marked ts p j v cur
      → (partition ts j ≡ p → v ≡ found j) → FoundAs (judged_in ts p found before) (j + 1) before after
  unfolding marked judged_in
  mark-turn j v before cur after w l e f = go (ℕ_discrete (partition ts j) p)
    where
      go : Dec (partition ts j ≡ p) → FoundAs (judged_in ts p found before) (j + 1) before after
      go (yes z) = found-turn _ j v before cur after w l (rw (eq-eqb (partition ts j) p z) at e) (f z ∙ rw (eq-eqb (partition ts j) p z))
      go (no z) = let q : after ≡ cur = rw (ne_eqb (partition ts j) p z) at e in rw q (skip j before cur w z)

-- ---- the laws that the code's proofs cite

module _ (ts : List ℕ) (p j : ℕ) where
  pub deadline_of : (d : ℕ) → partition ts j ≡ p → d ≡ deadline ts j → d ≡ deadline_in ts p j
  unfolding deadline_in
  deadline_of d e ed = ed ∙ sym (only-eq (partition ts j) p (deadline ts j) e)

  pub deadline-none : ¬ (partition ts j ≡ p) → 0 ≡ deadline_in ts p j
  unfolding deadline_in
  deadline-none h = sym (only_ne (partition ts j) p (deadline ts j) h)

  pub mark_put : (v w : Option Times) (list : List (Option Times)) → partition ts j ≡ p → v ≡ w → set list j v ≡ marked ts p j w list
  unfolding marked
  mark_put v w list e ev = rw (eq-eqb (partition ts j) p e, ev)

  pub mark-left : (w : Option Times) (list : List (Option Times)) → ¬ (partition ts j ≡ p) → list ≡ marked ts p j w list
  unfolding marked
  mark-left w list h = rw (ne_eqb (partition ts j) p h)

  pub mark-long : (w : Option Times) (list after : List (Option Times)) → after ≡ marked ts p j w list → length after ≡ length list
  unfolding marked
  mark-long w list after e = rw e (go (eqb (partition ts j) p))
    where
      go : (b : Bool) → length (pick b (set list j w) list) ≡ length list
      go true = length-set list j w
      go false = refl

module _ (ts : List ℕ) (g : JudgeableAll ts) where
  pub judgeable_in : (j : ℕ) → j < tasks ts → Judgeable ts j
  judgeable_in j l = record { few = omega (arith, g.few); in_order = λ k h. g.in_order k (omega arith) }

  pub deadline-short : (j : ℕ) → j < tasks ts → deadline ts j ≤ longest
  deadline-short j l = let o = g.in_order j l in omega (arith, o.in_period, o.short)

  -- no deadline of p's tasks is longer than the longest
  in_longest : (p j d : ℕ) → j < tasks ts → partition ts j ≡ p → d ≡ largest (deadline_in ts p) (tasks ts) → deadline ts j ≤ d
  unfolding deadline_in
  in_longest p j d l e ed =
      let h : deadline_in ts p j ≤ largest (deadline_in ts p) (tasks ts) = largest-le (deadline_in ts p) (tasks ts) j l in
      omega (arith, h, only-eq (partition ts j) p (deadline ts j) e)

  -- and that is no longer than a list
  pub longest-short : (p d : ℕ) → d ≡ largest (deadline_in ts p) (tasks ts) → d ≤ longest
  unfolding deadline_in
  longest-short p d e = rw e (go (ℕ_discrete (tasks ts) 0))
    where
      go : Dec (tasks ts ≡ 0) → largest (deadline_in ts p) (tasks ts) ≤ longest
      go (yes z) = rw (z, largest-zero (deadline_in ts p)) (omega arith)
      go (no n) =
          let a = largest_is (deadline_in ts p) (tasks ts) (omega arith) in
          omega (arith, a.2, only_self (eqb (partition ts a.0) p) (deadline ts a.0), deadline-short a.0 a.1)

  -- a partition without tasks
  pub none_of : (rule : Rule) (plan : List ℕ) (p d : ℕ) (found : List (Option Times)) → d ≡ largest (deadline_in ts p) (tasks ts) → d ≡ 0 → JudgedIn rule plan ts p found found
  unfolding judged_in
  none_of rule plan p d found ed z = record { as_long = refl; done = λ j l. rw (ne_eqb (partition ts j) p (other j l)); rest = λ j l. refl }
    where
      other : (j : ℕ) → j < tasks ts → ¬ (partition ts j ≡ p)
      other j l e = let o = g.in_order j l in absurd (omega (arith, in_longest p j d l e ed, o.some, o.in_time))

  -- the lists are those of each of p's tasks
  pub drawn_in : (rule : Rule) (plan : List ℕ) (p j d : ℕ) (curve a₀ asks : List ℕ) → j < tasks ts → d ≡ largest (deadline_in ts p) (tasks ts) → d < length curve → d < length a₀
      → AsNamed (least rule plan p) (d + 1) curve curve → AsNamed (all_asked ts p j) (d + 1) a₀ asks → partition ts j ≡ p → Drawn rule plan ts j curve asks
  drawn_in rule plan p j d curve a₀ asks l ed lc la v u e =
      let h : deadline ts j ≤ d = in_longest p j d l e ed in
      record {
        long = omega arith;
        asks_long = omega (arith, u.as_long);
        least_is = λ t k. v.done t (omega arith) ∙ ap (λ (x : ℕ). least rule plan x t) (sym e);
        asked_is = λ t k. u.done t (omega arith) ∙ ap (λ (x : ℕ). all_asked ts x j t) (sym e);
      }

-- ---- partition by partition

-- answer j of a list, or what `found` says of task j where its partition is at most p
unfoldable pub judged_upto : List ℕ → ℕ → (ℕ → Option Times) → List (Option Times) → ℕ → Option Times
judged_upto ts p found list j = pick (leb (partition ts j) p) (found j) (get_or list j None)

module _ (ts : List ℕ) (found : ℕ → Option Times) where
  pub upto_turn : (p n : ℕ) (before cur after : List (Option Times)) → FoundAs (judged_upto ts p found before) n before cur → FoundAs (judged_in ts (p + 1) found cur) n cur after
      → FoundAs (judged_upto ts (p + 1) found before) n before after
  unfolding judged_upto judged_in
  upto_turn p n before cur after w v = found_then _ _ n before cur after w (found_as _ _ n cur after (λ j l. rw (w.done j l) (at j (ℕ_discrete (partition ts j) (p + 1)) (le-or-lt (partition ts j) p))) v)
    where
      at : (j : ℕ) → Dec (partition ts j ≡ p + 1) → (partition ts j ≤ p) ⊎ (p < partition ts j)
          → pick (eqb (partition ts j) (p + 1)) (found j) (pick (leb (partition ts j) p) (found j) (get_or before j None)) ≡ pick (leb (partition ts j) (p + 1)) (found j) (get_or before j None)
      at j (yes e) h = rw (eq-eqb (partition ts j) (p + 1) e, le-leb (partition ts j) (p + 1) (omega arith))
      at j (no n) (inl h) = rw (ne_eqb (partition ts j) (p + 1) n, le-leb (partition ts j) p h, le-leb (partition ts j) (p + 1) (omega arith))
      at j (no n) (inr h) = rw (ne_eqb (partition ts j) (p + 1) n, lt-leb (partition ts j) p h, lt-leb (partition ts j) (p + 1) (omega arith))

  module _ (parts : ℕ) (good : Every (good_task parts ts) (tasks ts)) where
    in_table : (j : ℕ) → j < tasks ts → (1 ≤ partition ts j) × (partition ts j ≤ parts)
    in_table j l = let a = good-times parts (partition ts j) (budget ts j) (deadline ts j) (period ts j) (good j l) in (a.0, a.1)

    pub upto-none : (l : List (Option Times)) → FoundAs (judged_upto ts 0 found l) (tasks ts) l l
    unfolding judged_upto
    upto-none l = record { as_long = refl; done = λ j h. rw (lt-leb (partition ts j) 0 (in_table j h).0); rest = λ j h. refl }

    pub upto_all : (p : ℕ) (before after : List (Option Times)) → p ≤ parts → parts ≤ p → FoundAs (judged_upto ts p found before) (tasks ts) before after → FoundAs found (tasks ts) before after
    unfolding judged_upto
    upto_all p before after l m w =
        let e : p ≡ parts = omega arith in
        found_as _ _ (tasks ts) before after (λ j h. rw (e, le-leb (partition ts j) parts (in_table j h).1)) w

-- where nothing is found the task fails, so that no tick holds either
pub no_tick_of : (rule : Rule) (plan ts : List ℕ) (parts : ℕ) → Every (good_task parts ts) (tasks ts) → (before after : List (Option Times)) → FoundAs (times_of rule plan ts) (tasks ts) before after
    → NoTick rule plan ts after
unfolding times_of times_at
no_tick_of rule plan ts parts good before after w j l e = go (le-or-lt (task_tick rule plan ts j) (deadline ts j))
  where
    go : (task_tick rule plan ts j ≤ deadline ts j) ⊎ (deadline ts j < task_tick rule plan ts j) → deadline ts j < task_tick rule plan ts j
    go (inr h) = h
    go (inl h) =
        let p = (points_enough rule plan ts parts good j l).0 ((ticks_exactly rule plan ts j).1 h) in
        let f = w.done j l in
        let q : ◌≡◌ {A = Option Times} (Some (record { point = task_point rule plan ts j; tick = task_tick rule plan ts j })) None = sym (rw (le-leb (task_point rule plan ts j) (deadline ts j) p) at f) ∙ e in
        let z : ◌≡◌ {A = ℕ} 0 1 = cc in
        absurd (omega arith)

pub all-judgeable : (ts : List ℕ) (parts : ℕ) → tasks ts ≤ most_tasks → Every (good_task parts ts) (tasks ts) → JudgeableAll ts
all-judgeable ts parts few good = record { few = few; in_order = λ j l. in_order ts parts j (good j l) }
