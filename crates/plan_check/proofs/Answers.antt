-- What the checker's answers mean. Assumes nothing.
use Prim.Native.Nat.{ℕ, ◌+◌, ◌≤◌, ◌<◌}
use mathlib.Core.Path.{◌≡◌, refl, sym, ap, subst, ◌∙◌}
use mathlib.Core.Logic.{◌⊎◌, inl, inr}
use mathlib.Core.Bool.{true, false}
use mathlib.Core.List.{List, []}
use lib.ListN.{length}
use lib.Dec.{ltb}
use borrow.Author.Tests.{lt-ltb, le-ltb, ltb-true, ltb-false}
use native.Mathlib.Omega.{arith}
use Rattle.rules.specs.Walk.{Every}
use Rattle.rules.specs.Table.{partitions, cycle, num, den, good_tick}
use Rattle.rules.specs.Terms.{granules, filed, rule_in, wanted}
use Rattle.rules.specs.declared.Terms.{Terms}
use Rattle.tables.specs.Tables.{GoodTables, unless, ticks_judged}
use Rattle.std.specs.Prelude.{Result, Ok, Err}
use Rattle.rules.specs.declared.Refusal.{Refusal}
use Rattle.rules.specs.declared.Refusal.TheVariants.{Edition, Limits, Granule, Partition, Task, Tick, Shortfall}
use Rattle.rules.proofs.First.{first-none, first_past, first-before, first_at, first-upto, some_at}
use Rattle.rules.specs.Refusals.{telling, told_done}
use Rattle.rules.proofs.Known.{found-refused}
use Rattle.rules.proofs.Tests.{pick_first, pick_second, good-granule}
use Rattle.tables.proofs.Chain.{not_good, lowest-none, good-lowest, within, unless_given, unless_good_lem, with_granule_1, in_edition_1}
use Rattle.rules.proofs.Sum.{le-or-lt}
use Rattle.rules.specs.declared.Rule.{Rule}
use Rattle.theory.specs.Plan.{held, Serves}
use Rattle.theory.proofs.Plan.{past_cycle_short, serves_in_frame}
use Rattle.theory.proofs.Wants.{wants_no_less}
use Rattle.theory.proofs.Switch.{serves_within}
use Rattle.plan_check.specs.Check.{short_at, scan_of, plan_check_of, check_of}
use Rattle.plan_check.proofs.Orders.{short_in, short_start, short_part, shortfall}
use Rattle.plan_check.specs.Theorems.{CheckServes, AcceptedWithout, AcceptedBefore, FallsShort, CheckShort, ShortFrom0, CheckPastCycle, CheckOne, Proved}

-- a plan with good tables has ticks
pub frame-some : {terms : Terms} {f : ℕ} (ps ts : List ℕ) → GoodTables terms f ps ts → 0 < f
frame-some {f = f} ps ts g = (within f (length ps) (length ts) g.limits).some_frame

module _ (rule : Rule) (q : ℕ → ℕ) (plan ps : List ℕ) where
  -- ---- the scan

  fed : (k s : ℕ) → short_at rule q plan ps k s ≡ false → q k ≤ held rule plan (k + 1) (cycle ps k) s
  unfolding short_at
  fed k s e = ltb-false _ _ e

  module _ (full : 0 < length plan) where
    fed_all : (k : ℕ) → short_in rule q plan ps k ≡ false → (s : ℕ) → q k ≤ held rule plan (k + 1) (cycle ps k) s
    fed_all k e = serves_in_frame rule plan (k + 1) (q k) (cycle ps k) full (λ s l. fed k s (first_past _ (length plan) (ltb-false _ _ e) s l))

    scan_serves : scan_of rule q plan ps ≡ (Ok tt) → Serves rule q plan ps
    unfolding scan_of
    scan_serves e k s l =
        let w = pick_second (ltb (short_part rule q plan ps) (partitions ps)) _ _ (Ok tt) (not_good _) e in
        fed_all k (first_past _ (partitions ps) (ltb-false _ _ w.0) k l) s

  serves_scan : Serves rule q plan ps → scan_of rule q plan ps ≡ (Ok tt)
  unfolding scan_of short_at
  serves_scan h =
      let none : (k : ℕ) → k < partitions ps → short_in rule q plan ps k ≡ false =
      λ k l. rw (first-none (short_at rule q plan ps k) (length plan) (λ s m. le-ltb _ _ (h k s l))) (le-ltb (length plan) (length plan) (omega arith)) in
      rw (first-none (short_in rule q plan ps) (partitions ps) none, le-ltb (partitions ps) (partitions ps) (omega arith))

  -- what stops the scan
  module _ (p s h w : ℕ) where
    abbrev nine : Result (Unit {0}) Refusal
    nine = Err (Shortfall p s h w)

    stopped : (k : ℕ) → k ≡ short_part rule q plan ps → 0 < length plan → k < partitions ps → Err (shortfall rule q plan ps k (short_start rule q plan ps k)) ≡ nine → FallsShort rule q plan ps p s h w
    unfolding short_at
    stopped k ek full inside e =
        let here : short_in rule q plan ps k ≡ true = rw ek (first_at (short_in rule q plan ps) (partitions ps) (rw (← ek) inside)) in
        let low : short_start rule q plan ps k < length plan = ltb-true _ _ here in
        let ep : p ≡ k + 1 = cc in
        let es : s ≡ short_start rule q plan ps k = cc in
        let eh : h ≡ held rule plan (k + 1) (cycle ps k) (short_start rule q plan ps k) = cc in
        let ew : w ≡ q k = cc in
        record {
          place = k;
          partition = ep;
          inside = inside;
          in_frame = rw es low;
          holds = rw (ep, es) eh;
          wants = ew;
          short = rw (eh, ew) (ltb-true _ _ (first_at (short_at rule q plan ps k) (length plan) low));
          lowest_start = λ u l. rw (ep, ew) (fed k u (first-before (short_at rule q plan ps k) (length plan) u (rw es at l)));
          lowest_partition = λ j l. fed_all full j (first-before (short_in rule q plan ps) (partitions ps) j (rw (← ek) l));
        }

    short_scan : 0 < length plan → scan_of rule q plan ps ≡ nine → FallsShort rule q plan ps p s h w
    unfolding scan_of
    short_scan full e =
        let b = pick_first (ltb (short_part rule q plan ps) (partitions ps)) _ _ nine (λ q. let z : ◌≡◌ {A = ℕ} 0 1 = cc in absurd (omega arith)) e in
        stopped (short_part rule q plan ps) refl full (ltb-true _ _ b.0) b.1

  -- a place that wants more than its cycle has
  module _ (k : ℕ) (inside : k < partitions ps) (past : cycle ps k < q k) (full : 0 < length plan) where
    start_0 : short_at rule q plan ps k 0 ≡ true
    unfolding short_at
    start_0 = lt-ltb (held rule plan (k + 1) (cycle ps k) 0) (q k) (past_cycle_short rule plan (k + 1) (q k) (cycle ps k) 0 past)

    at_0 : short_start rule q plan ps k ≡ 0
    at_0 = omega (arith, first-upto (short_at rule q plan ps k) (length plan) 0 start_0)

    none_above : short_part rule q plan ps ≤ k
    none_above = first-upto (short_in rule q plan ps) (partitions ps) k (some_at (short_at rule q plan ps k) (length plan) 0 full start_0)

    pub past_cycle : (p s h w : ℕ) × (scan_of rule q plan ps ≡ Err (Shortfall p s h w)) × ((p < k + 1) ⊎ ((p ≡ k + 1) × (s ≡ 0)))
    unfolding scan_of
    past_cycle =
        let j = short_part rule q plan ps in
        (j + 1, short_start rule q plan ps j, held rule plan (j + 1) (cycle ps j) (short_start rule q plan ps j), q j, rw (lt-ltb j (partitions ps) (omega (arith, none_above))), where_it_is (le-or-lt k j))
      where
        where_it_is : (k ≤ short_part rule q plan ps) ⊎ (short_part rule q plan ps < k) → (short_part rule q plan ps + 1 < k + 1) ⊎ ((short_part rule q plan ps + 1 ≡ k + 1) × (short_start rule q plan ps (short_part rule q plan ps) ≡ 0))
        where_it_is (inl l) = let e : short_part rule q plan ps ≡ k = omega (arith, none_above) in inr (omega arith, rw e at_0)
        where_it_is (inr l) = inl (omega arith)

module _ (terms : Terms) (plan ps : List ℕ) where
  abbrev rule : Rule
  rule = rule_in terms

  abbrev q : ℕ → ℕ
  q = wanted terms ps

  -- ---- accepted

  -- every owner is 0 or a partition of the table
  abbrev Owned : Type 0
  Owned = Every (good_tick (partitions ps) plan) (length plan)

  accepted : check_of terms plan ps ≡ (Ok tt) → GoodTables terms (length plan) ps [] × Owned × Serves rule q plan ps
  unfolding check_of plan_check_of
  accepted e =
      let a = unless_given terms (length plan) ps [] Err (plan_check_of rule q plan ps) (Ok tt) (λ i. not_good Edition) (not_good Limits) (λ g. not_good Granule) (λ k. not_good (Partition k)) (λ j. not_good (Task (j + 1))) e in
      let b = lowest-none Tick (good_tick (partitions ps) plan) (length plan) Err (scan_of rule q plan ps) (Ok tt) (not_good _) a.1 in
      (a.0, b.0, scan_serves rule q plan ps (frame-some ps [] a.0) b.1)

  accepts : GoodTables terms (length plan) ps [] × Owned × Serves rule q plan ps → check_of terms plan ps ≡ (Ok tt)
  unfolding check_of plan_check_of
  accepts (g, t, s) =
      let f = length plan in
      unless_good_lem terms f ps [] Err (plan_check_of rule q plan ps) g ∙ rw (good-lowest Tick (good_tick (partitions ps) plan) f t) (serves_scan rule q plan ps s)

  -- ---- refusal 9

  scanned : (p s h w : ℕ) → check_of terms plan ps ≡ Err (Shortfall p s h w) → (0 < length plan) × (scan_of rule q plan ps ≡ Err (Shortfall p s h w))
  unfolding check_of plan_check_of
  scanned p s h w e =
      let nine : Result (Unit {0}) Refusal = Err (Shortfall p s h w) in
      let a = unless_given terms (length plan) ps [] Err (plan_check_of rule q plan ps) nine
      (λ i q. let z : ◌≡◌ {A = ℕ} 0 1 = cc in absurd (omega arith))
      (λ q. let z : ◌≡◌ {A = ℕ} 0 1 = cc in absurd (omega arith))
      (λ g q. let z : ◌≡◌ {A = ℕ} 0 1 = cc in absurd (omega arith))
      (λ k q. let z : ◌≡◌ {A = ℕ} 0 1 = cc in absurd (omega arith))
      (λ j q. let z : ◌≡◌ {A = ℕ} 0 1 = cc in absurd (omega arith))
      e in
      let d = lowest-none Tick (good_tick (partitions ps) plan) (length plan) Err (scan_of rule q plan ps) nine (λ q. let z : ◌≡◌ {A = ℕ} 0 1 = cc in absurd (omega arith)) a.1 in
      (frame-some ps [] a.0, d.1)

  short : (p s h w : ℕ) → check_of terms plan ps ≡ Err (Shortfall p s h w) → FallsShort rule q plan ps p s h w
  short p s h w e = let a = scanned p s h w e in short_scan rule q plan ps p s h w a.0 a.1

pub check_serves : CheckServes
check_serves terms plan ps = (accepted terms plan ps, accepts terms plan ps)

pub accepted_without : AcceptedWithout
accepted_without terms plan ps e =
    let a = accepted terms plan ps e in
    let less : (k : ℕ) → wanted (filed terms.edition) ps k ≤ wanted terms ps k =
    λ k. wants_no_less terms.granule (cycle ps k) (num ps k) (den ps k) (good-granule terms.granule a.0.granule).0 in
    accepts (filed terms.edition) plan ps (with_granule_1 a.0, a.1, λ k s l. omega (arith, less k, a.2 k s l))

pub accepted_before : AcceptedBefore
accepted_before terms plan ps e =
    let a = accepted terms plan ps e in
    accepts (granules terms.granule) plan ps (in_edition_1 a.0, a.1, serves_within (rule_in terms) (wanted terms ps) plan ps a.2)

pub check_short : CheckShort
check_short terms plan ps p s h w e = short terms plan ps p s h w (found-refused (check_of terms plan ps) (telling 9 p s h w) (omega arith) (λ q. absurd (omega arith)) e)

-- of good records and ticks, 9 as the scan says
pub short-from_0 : (rule : Rule) (q : ℕ → ℕ) (plan ps : List ℕ) → 0 < length plan → Every (good_tick (partitions ps) plan) (length plan) → ShortFrom0 rule q plan ps (told_done (plan_check_of rule q plan ps))
unfolding plan_check_of
short-from_0 rule q plan ps full owned k inside past =
    let a = past_cycle rule q plan ps k inside past full in
    let e : unless Err (ticks_judged plan ps) (scan_of rule q plan ps) ≡ Err (Shortfall a.0 a.1 a.2 a.3) =
    rw (good-lowest Tick (good_tick (partitions ps) plan) (length plan) owned) a.4 in
    (a.0, a.1, a.2, a.3, ap told_done e, short_scan rule q plan ps a.0 a.1 a.2 a.3 full a.4, a.5)

pub check_past_cycle : CheckPastCycle
unfolding check_of
check_past_cycle terms plan ps good owned =
    let e : check_of terms plan ps ≡ plan_check_of (rule_in terms) (wanted terms ps) plan ps = unless_good_lem terms (length plan) ps [] Err (plan_check_of (rule_in terms) (wanted terms ps) plan ps) good in
    subst (λ (f : Result (Unit {0}) Refusal). ShortFrom0 (rule_in terms) (wanted terms ps) plan ps (told_done f)) (sym e) (short-from_0 (rule_in terms) (wanted terms ps) plan ps (frame-some ps [] good) owned)

pub check_one : CheckOne
check_one terms plan ps r r' e f = e ∙ sym f

pub proved : Proved
proved = record {
  check_serves = check_serves;
  accepted_without = accepted_without;
  accepted_before = accepted_before;
  check_short = check_short;
  check_past_cycle = check_past_cycle;
  check_one = check_one;
}
