-- The chain of table refusals: its order at the numbers that the code holds, and that nothing is refused exactly where the tables are good. Assumes nothing.
use Prim.Native.Nat.{ℕ, ◌+◌, ◌/◌, ◌%◌, ◌≤◌, ◌<◌}
use mathlib.Core.Path.{◌≡◌, refl, sym, subst, ap, ◌∙◌}
use mathlib.Core.Logic.{◌↔◌, ◌⊎◌, inl, inr, ⊎_elim}
use mathlib.Core.Bool.{Bool, true, false, not, true≢false, ◌&&◌}
use mathlib.Core.List.{List, []}
use native.Mathlib.Nat.{not-suc-le-zero}
use native.Mathlib.Omega.{arith}
use lib.ListN.{length}
use lib.Dec.{ltb, leb, eqb}
use borrow.Author.Tests.{lt-ltb, le-ltb, ltb-true, ltb-false, le-leb, leb-true, eqb-true, eq-eqb, not-true, not-false}
use Rattle.rules.specs.Limits.{most_partitions, most_tasks, longest, finest_share, part_width, task_width}
use Rattle.rules.specs.Walk.{pick, first, fails, Every}
use Rattle.rules.specs.Terms.{good_edition, good_granule, granules, filed}
use Rattle.rules.specs.declared.Terms.{Terms}
use Rattle.rules.specs.Table.{partitions, cycle, num, den, tasks, good_share, good_part, good_task}
use Rattle.tables.specs.Inner.{first_bad_part, first_bad_task, Lowest}
use Rattle.tables.specs.Tables.{counted_in, within_limits, lowest, unless, edition_judged, granule_judged, records_judged, in_edition, tables_of, GoodTables}
use Rattle.rules.specs.declared.Refusal.{Refusal}
use Rattle.rules.specs.declared.Refusal.TheVariants.{Edition, Limits, Granule, Partition, Task}
use Rattle.std.specs.Prelude.{Result, Ok, Err, MatchResult, IsErrAnd}
use Rattle.rules.proofs.First.{first_found, first_at, first-before, first-none, every_first, first_every}
use Rattle.rules.proofs.Tests.{pick_first, pick_second, and_parts, good_share_lem}

-- ---- the limits

pub counted-parts : (low high width n : ℕ) → counted_in low high width n ≡ true → (n % width ≡ 0) × (low ≤ n / width) × (n / width ≤ high)
unfolding counted_in
counted-parts low high width n e =
    let a = and_parts (eqb (n % width) 0 && leb low (n / width)) (leb (n / width) high) e in
    let b = and_parts (eqb (n % width) 0) (leb low (n / width)) a.0 in
    (eqb-true (n % width) 0 b.0, leb-true low (n / width) b.1, leb-true (n / width) high a.1)

frame_range : (f : ℕ) → counted_in 1 longest 1 f ≡ true → (1 ≤ f) × (f ≤ longest)
frame_range f e = let a = counted-parts 1 longest 1 f e in (omega (arith, a.1), omega (arith, a.2))

-- what the limits say of a frame and of tables of p and t numbers
pub record Within (frame p t : ℕ) : Type 0 where
  pub some_frame : 1 ≤ frame
  pub longest_frame : frame ≤ longest
  pub whole_parts : p % part_width ≡ 0
  pub some_part : 1 ≤ p / part_width
  pub few_parts : p / part_width ≤ most_partitions
  pub whole_tasks : t % task_width ≡ 0
  pub few_tasks : t / task_width ≤ most_tasks

pub within : (frame p t : ℕ) → within_limits frame p t ≡ true → Within frame p t
unfolding within_limits
within frame p t e =
    let a = and_parts (counted_in 1 longest 1 frame) (counted_in 1 most_partitions part_width p && counted_in 0 most_tasks task_width t) e in
    let b = and_parts (counted_in 1 most_partitions part_width p) (counted_in 0 most_tasks task_width t) a.1 in
    let f = frame_range frame a.0 in
    let q = counted-parts 1 most_partitions part_width p b.0 in
    let u = counted-parts 0 most_tasks task_width t b.1 in
    record {
      some_frame = f.0;
      longest_frame = f.1;
      whole_parts = q.0;
      some_part = q.1;
      few_parts = q.2;
      whole_tasks = u.0;
      few_tasks = u.2;
    }

framed : (f : ℕ) → 1 ≤ f → f ≤ longest → counted_in 1 longest 1 f ≡ true
unfolding counted_in
framed f l m = rw (eq-eqb (f % 1) 0 (omega arith), le-leb 1 (f / 1) (omega arith), le-leb (f / 1) longest (omega arith))

-- the limits of the tables don't hang on the frame
within-frame : (f g p t : ℕ) → within_limits f p t ≡ true → counted_in 1 longest 1 g ≡ true → within_limits g p t ≡ true
unfolding within_limits
within-frame f g p t e h =
    let a = and_parts (counted_in 1 longest 1 f) (counted_in 1 most_partitions part_width p && counted_in 0 most_tasks task_width t) e in rw h a.1

within_none : (f p t : ℕ) → within_limits f p t ≡ true → within_limits f p 0 ≡ true
unfolding within_limits counted_in
within_none f p t e =
    let a = and_parts (counted_in 1 longest 1 f) (counted_in 1 most_partitions part_width p && counted_in 0 most_tasks task_width t) e in
    let c = and_parts (counted_in 1 most_partitions part_width p) (counted_in 0 most_tasks task_width t) a.1 in rw (a.0, c.0)

share_within : (f g m n d : ℕ) → good_share f m n d ≡ true → m ≤ g → good_share g m n d ≡ true
unfolding good_share
share_within f g m n d e h =
    let a = good_share_lem f m n d e in rw (le-leb 1 m a.0, le-leb m g h, le-leb 1 n a.2, le-leb n d a.3, le-leb d finest_share a.4)

-- good tables are good for every frame that no cycle is longer than
pub other-frame :
    {terms : Terms} (f g : ℕ) (ps ts : List ℕ) → GoodTables terms f ps ts → 1 ≤ g → g ≤ longest → ((k : ℕ) → k < partitions ps → cycle ps k ≤ g)
    → GoodTables terms g ps ts
other-frame f g ps ts a l m h = record {
  limits = within-frame f g (length ps) (length ts) a.limits (framed g l m);
  edition = a.edition;
  granule = a.granule;
  parts = λ k i. share_within f g (cycle ps k) (num ps k) (den ps k) (a.parts k i) (h k i);
  tasks = a.tasks;
}

-- and without their tasks
pub without_tasks : {terms : Terms} (f : ℕ) (ps ts : List ℕ) → GoodTables terms f ps ts → GoodTables terms f ps []
without_tasks f ps ts a = record {
  limits = within_none f (length ps) (length ts) a.limits;
  edition = a.edition;
  granule = a.granule;
  parts = a.parts;
  tasks = λ j l. absurd (not-suc-le-zero l);
}

-- ---- the order

pub not_good : (r : Refusal) → ¬ (◌≡◌ {A = Result (Unit {0}) Refusal} (Err r) (Ok tt))
not_good r e = let z : ◌≡◌ {A = ℕ} 0 1 = cc in absurd (omega arith)

-- a find and what follows it, as one choice
pub found_then : {A : Type 0} (b : Bool) (refused : Refusal → A) (r : Refusal) (next : A)
    → unless refused (pick b (Err r) (Ok tt)) next ≡ pick b (refused r) next
found_then true refused r next = refl
found_then false refused r next = refl

-- both are good, where nothing tells against the call
pub both_good : (f next : Result (Unit {0}) Refusal) → unless Err f next ≡ (Ok tt) → (f ≡ (Ok tt)) × (next ≡ (Ok tt))
both_good (Ok _) next e = (refl, e)
both_good (Err r) next e = absurd (not_good r e)

-- a `?`: the call ends with what was found, or goes on
pub found_err : {A : Type 0} (f : Result (Unit {0}) Refusal) (r : Refusal) (next : Result A Refusal) → f ≡ Err r → Err r ≡ unless Err f next
found_err f r next e = rw e

pub found_ok : {A : Type 0} (f : Result (Unit {0}) Refusal) (next : Result A Refusal) → f ≡ (Ok tt) → next ≡ unless Err f next
found_ok f next e = rw e

-- one behind the other: what follows both follows the second
pub in_turn : {A : Type 0} (refused : Refusal → A) (f g : Result (Unit {0}) Refusal) (next : A) → unless refused (unless Err f g) next ≡ unless refused f (unless refused g next)
in_turn refused (Ok _) g next = refl
in_turn refused (Err r) g next = refl

-- what is no refusal of the lowest place comes behind good records
module _ (refusal : ℕ → Refusal) (good : ℕ → Bool) (n : ℕ) where
  abbrev at_first : Refusal
  at_first = refusal (first (fails good) n + 1)

  pub lowest-none : {A : Type 0} (refused : Refusal → A) (next z : A) → ¬ (refused at_first ≡ z)
      → unless refused (lowest refusal good n) next ≡ z → Every good n × (next ≡ z)
  lowest-none refused next z other e =
      let b = ltb (first (fails good) n) n in
      let w = pick_second b (refused at_first) next z other (sym (found_then b refused at_first next) ∙ e) in
      (first_every good n (ltb-false _ _ w.0), w.1)

  -- a loop's find
  pub lowest-found : (k : ℕ) → k < n → first (fails good) k ≡ k → fails good k ≡ true → Err (refusal (k + 1)) ≡ lowest refusal good n
  lowest-found k l e h = rw (first_found (fails good) n k l e h, lt-ltb k n l)

  -- a refusal is that of the first which isn't good: it fails, and each one before it passes
  pub lowest_at : (r : Refusal) → lowest refusal good n ≡ Err r
      → (k : ℕ) × (r ≡ refusal (k + 1)) × (k < n) × (good k ≡ false) × ((j : ℕ) → j < k → good j ≡ true)
  unfolding fails
  lowest_at r e =
      let k = first (fails good) n in
      let a = pick_first (ltb k n) (Err at_first) (Ok tt) (Err r) (λ q. not_good r (sym q)) e in
      let z : at_first ≡ r = cc a.1 in
      let l : k < n = ltb-true k n a.0 in
      (k, sym z, l, not-true (good k) (first_at (fails good) n l), λ j h. not-false (good j) (first-before (fails good) n j h))

  pub lowest-good : lowest refusal good n ≡ (Ok tt) → Every good n
  lowest-good e = first_every good n (ltb-false _ _ (pick_second (ltb (first (fails good) n) n) (Err at_first) (Ok tt) (Ok tt) (not_good at_first) e).0)

  pub good-lowest : Every good n → lowest refusal good n ≡ (Ok tt)
  good-lowest h = rw (every_first good n h, le-ltb n n (omega arith))

-- the walk over n records, each of which answers whether it is good, told as the refusal of the lowest that isn't
pub lowest-told :
    (refusal : ℕ → Refusal) (good : ℕ → Bool) (n : ℕ) {Answers : ℕ → Bool → Type 0} {Tells : ℕ → Refusal → Type 0} (walked : Result (Unit {0}) ℕ) {z : Result (Unit {0}) Refusal}
    → Lowest Answers n walked → MatchResult walked (λ x. z ≡ Ok x) (λ place. IsErrAnd z (Tells place))
    → ((k : ℕ) (b : Bool) → Answers k b → b ≡ good k) → ((place : ℕ) (r : Refusal) → Tells place r → r ≡ refusal place) → z ≡ lowest refusal good n
unfolding fails Lowest
lowest-told refusal good n (Ok u) h e answers tells = e ∙ sym (good-lowest refusal good n (λ k l. sym (answers k true (h k l))))
lowest-told refusal good n (Err place) {z = Ok u} (k, p, l, f, h) e answers tells = absurd e
lowest-told refusal good n (Err place) {z = Err r} (k, p, l, f, h) e answers tells =
    let w : first (fails good) k ≡ k = first-none (fails good) k (λ j m. ap not (sym (answers j true (h j m)))) in
    let q : r ≡ refusal (k + 1) = tells place r e ∙ ap refusal p in ap Err q ∙ lowest-found refusal good n k l w (ap not (sym (answers k false f)))

module _ (terms : Terms) (frame : ℕ) (ps ts : List ℕ) where
  abbrev within_all : Bool
  within_all = within_limits frame (length ps) (length ts)

  abbrev good_terms : Bool
  good_terms = good_granule terms.granule

  abbrev good-edition : Bool
  good-edition = good_edition terms.edition

  pub tables_2 : good-edition ≡ false → Err Edition ≡ tables_of terms frame ps ts
  unfolding tables_of
  tables_2 e = rw e

  pub tables_on : good-edition ≡ true → in_edition terms frame ps ts ≡ tables_of terms frame ps ts
  unfolding tables_of
  tables_on e = rw e

  pub tables_3 : within_all ≡ false → Err Limits ≡ in_edition terms frame ps ts
  unfolding in_edition
  tables_3 e = rw e

  pub tables_21 : within_all ≡ true → good_terms ≡ false → Err Granule ≡ in_edition terms frame ps ts
  unfolding in_edition
  tables_21 w e = rw (w, e)

  pub tables_records : within_all ≡ true → good_terms ≡ true → records_judged frame ps ts ≡ in_edition terms frame ps ts
  unfolding in_edition
  tables_records w g = rw (w, g)

  -- ---- what it means

  good_of : tables_of terms frame ps ts ≡ (Ok tt) → GoodTables terms frame ps ts
  unfolding tables_of in_edition
  good_of e =
      let i = both_good (edition_judged terms.edition) (in_edition terms frame ps ts) e in
      let d = pick_first good-edition (Ok tt) (Err Edition) (Ok tt) (not_good Edition) i.0 in
      let a = pick_first within_all _ _ (Ok tt) (not_good Limits) i.1 in
      let t = both_good (granule_judged terms.granule) (records_judged frame ps ts) a.1 in
      let g = pick_first good_terms (Ok tt) (Err Granule) (Ok tt) (not_good Granule) t.0 in
      let b = lowest-none Partition (good_part frame ps) (partitions ps) Err (lowest Task (good_task (partitions ps) ts) (tasks ts)) (Ok tt) (not_good _) t.1 in
      record { edition = d.0; limits = a.0; granule = g.0; parts = b.0; tasks = lowest-good Task (good_task (partitions ps) ts) (tasks ts) b.1 }

  of_good : GoodTables terms frame ps ts → tables_of terms frame ps ts ≡ (Ok tt)
  unfolding tables_of in_edition
  of_good g =
      let p : first_bad_part frame ps ≡ partitions ps = every_first (good_part frame ps) (partitions ps) g.parts in
      let t : first_bad_task (partitions ps) ts ≡ tasks ts = every_first (good_task (partitions ps) ts) (tasks ts) g.tasks in
      rw (g.edition, g.limits, g.granule, p, le-ltb (partitions ps) (partitions ps) (omega arith), t, le-ltb (tasks ts) (tasks ts) (omega arith))

  -- nothing is refused exactly where terms and tables are good
  pub good_exactly : (tables_of terms frame ps ts ≡ (Ok tt)) ↔ GoodTables terms frame ps ts
  good_exactly = (good_of, of_good)

  -- what holds of 2 where the edition is bad, of 3, of 21 where the granule is bad, of any 6 and of any 7 with a place from 1 on holds of the chain's refusal
  pub refusals : (P : Refusal → Type 0) → (good-edition ≡ false → P Edition) → P Limits → (good_terms ≡ false → P Granule) → ((k : ℕ) → P (Partition k)) → ((j : ℕ) → P (Task (j + 1)))
      → (r : Refusal) → tables_of terms frame ps ts ≡ Err r → P r
  unfolding tables_of in_edition
  refusals P two three twenty-one six seven r e =
      at good-edition within_all good_terms (ltb (first_bad_part frame ps) (partitions ps)) (ltb (first_bad_task (partitions ps) ts) (tasks ts)) refl refl e
    where
      same : (q : Refusal) → P q → ◌≡◌ {A = Result (Unit {0}) Refusal} (Err q) (Err r) → P r
      same q h e = let z : q ≡ r = cc in subst P z h

      at : (d a g b c : Bool) → good-edition ≡ d → good_terms ≡ g
          → unless Err (pick d (Ok (tt {0})) (Err Edition)) (pick a (unless Err (pick g (Ok (tt {0})) (Err Granule)) (unless Err (pick b (Err (Partition (first_bad_part frame ps + 1))) (Ok (tt {0}))) (pick c (Err (Task (first_bad_task (partitions ps) ts + 1))) (Ok (tt {0}))))) (Err Limits)) ≡ Err r
          → P r
      at false a g b c i h e = same Edition (two i) e
      at true false g b c i h e = same Limits three e
      at true true false b c i h e = same Granule (twenty-one h) e
      at true true true true c i h e = same (Partition (first_bad_part frame ps + 1)) (six _) e
      at true true true false true i h e = same (Task (first_bad_task (partitions ps) ts + 1)) (seven _) e
      at true true true false false i h e = let z : ◌≡◌ {A = ℕ} 0 1 = cc in absurd (omega arith)

  -- a call's answer is what follows good tables, or the chain's refusal
  pub unless_cases : {A : Type 0} (refused : Refusal → A) (next z : A) → unless refused (tables_of terms frame ps ts) next ≡ z
      → (GoodTables terms frame ps ts × (next ≡ z)) ⊎ ((r : Refusal) × (tables_of terms frame ps ts ≡ Err r) × (refused r ≡ z))
  unless_cases refused next z e = go (tables_of terms frame ps ts) refl e
    where
      go : (t : Result (Unit {0}) Refusal) → tables_of terms frame ps ts ≡ t → unless refused t next ≡ z
          → (GoodTables terms frame ps ts × (next ≡ z)) ⊎ ((r : Refusal) × (tables_of terms frame ps ts ≡ Err r) × (refused r ≡ z))
      go (Ok _) h e = inl (good_of h, e)
      go (Err r) h e = inr (r, h, e)

  -- one that is no refusal of the chain is what follows
  pub unless_given : {A : Type 0} (refused : Refusal → A) (next z : A)
      → (good-edition ≡ false → ¬ (refused Edition ≡ z)) → ¬ (refused Limits ≡ z) → (good_terms ≡ false → ¬ (refused Granule ≡ z)) → ((k : ℕ) → ¬ (refused (Partition k) ≡ z)) → ((j : ℕ) → ¬ (refused (Task (j + 1)) ≡ z))
      → unless refused (tables_of terms frame ps ts) next ≡ z → GoodTables terms frame ps ts × (next ≡ z)
  unless_given refused next z two three twenty-one six seven e =
      ⊎_elim (λ g. g) (λ h. absurd (refusals (λ r. ¬ (refused r ≡ z)) two three twenty-one six seven h.0 h.1 h.2)) (unless_cases refused next z e)

  -- what holds of the answers to 2 where the edition is bad, to 3, to 21 where the granule is bad, to any 6 and 7 and of what follows holds of the answer
  pub unless_holds : {A : Type 0} (P : A → Type 0) (refused : Refusal → A) (next : A)
      → (good-edition ≡ false → P (refused Edition)) → P (refused Limits) → (good_terms ≡ false → P (refused Granule)) → ((k : ℕ) → P (refused (Partition k))) → ((j : ℕ) → P (refused (Task (j + 1)))) → P next
      → P (unless refused (tables_of terms frame ps ts) next)
  unless_holds P refused next two three twenty-one six seven h = go (tables_of terms frame ps ts) refl
    where
      go : (t : Result (Unit {0}) Refusal) → tables_of terms frame ps ts ≡ t → P (unless refused t next)
      go (Ok _) e = h
      go (Err r) e = refusals (λ r. P (refused r)) two three twenty-one six seven r e

  -- and of good tables it is what follows
  pub unless_good_lem : {A : Type 0} (refused : Refusal → A) (next : A) → GoodTables terms frame ps ts → unless refused (tables_of terms frame ps ts) next ≡ next
  unless_good_lem refused next g = rw (of_good g)

-- without tasks there is no 7
pub unless-parts_hold : (terms : Terms) (frame : ℕ) (ps : List ℕ) {A : Type 0} (P : A → Type 0) (refused : Refusal → A) (next : A)
    → (good_edition terms.edition ≡ false → P (refused Edition)) → P (refused Limits)
    → (good_granule terms.granule ≡ false → P (refused Granule)) → ((k : ℕ) → P (refused (Partition k))) → P next
    → P (unless refused (tables_of terms frame ps []) next)
unfolding tables_of in_edition first
unless-parts_hold terms frame ps P refused next two three twenty-one six h =
    at (good_edition terms.edition) (within_limits frame (length ps) 0) (good_granule terms.granule) (ltb (first_bad_part frame ps) (partitions ps)) refl refl
  where
    at : (d a g b : Bool) → good_edition terms.edition ≡ d → good_granule terms.granule ≡ g
        → P (unless refused (unless Err (pick d (Ok (tt {0})) (Err Edition)) (pick a (unless Err (pick g (Ok (tt {0})) (Err Granule)) (unless Err (pick b (Err (Partition (first_bad_part frame ps + 1))) (Ok (tt {0}))) (Ok (tt {0})))) (Err Limits))) next)
    at false a g b i e = two i
    at true false g b i e = three
    at true true false b i e = twenty-one e
    at true true true true i e = six _
    at true true true false i e = h

-- ---- calls that are given no edition or no granule

first-edition : good_edition 1 ≡ true
unfolding good_edition
first-edition = refl

usual-good : good_granule 1 ≡ true
unfolding good_granule
usual-good = refl

-- good tables are good for edition 1, with any good granule
pub in_edition_1 : {terms : Terms} {f : ℕ} {ps ts : List ℕ} → GoodTables terms f ps ts → GoodTables (granules terms.granule) f ps ts
in_edition_1 a = record { edition = first-edition; limits = a.limits; granule = a.granule; parts = a.parts; tasks = a.tasks }

-- and with granule 1, of any good edition
pub with_granule_1 : {terms : Terms} {f : ℕ} {ps ts : List ℕ} → GoodTables terms f ps ts → GoodTables (filed terms.edition) f ps ts
with_granule_1 a = record { edition = a.edition; limits = a.limits; granule = usual-good; parts = a.parts; tasks = a.tasks }

-- 2 is none of theirs
pub not_2 : {A : Type 0} → good_edition 1 ≡ false → A
not_2 e = absurd (true≢false (sym first-edition ∙ e))

-- nor 21
pub usual-not_21 : {A : Type 0} → good_granule 1 ≡ false → A
usual-not_21 e = absurd (true≢false (sym usual-good ∙ e))
