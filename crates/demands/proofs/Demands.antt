-- The three demands, from the crates' records and each entry's own contract. Assumes nothing.
use Prim.Native.Nat.{ℕ, ◌+◌, ◌≤◌, ◌<◌}
use mathlib.Core.Path.{◌≡◌, refl, sym, ap, subst, ◌∙◌}
use mathlib.Core.Logic.{◌↔◌, inl, inr}
use mathlib.Core.Bool.{Bool, true, false, true≢false, not, ◌&&◌, ◌||◌}
use mathlib.Core.List.{List, [], ◌∷◌}
use native.Mathlib.Omega.{arith}
use borrow.Author.Tests.{eqb-true, eqb-false, leb-true, not-true}
use lib.Dec.{leb, ltb, eqb}
use lib.ListN.{length, take, get_or}
use Rattle.rules.specs.Walk.{pick}
use Rattle.rules.specs.Limits.{longest}
use Rattle.rules.specs.Table.{partitions}
use Rattle.rules.specs.Terms.{good_edition, given, granules, rule_of, wanted}
use Rattle.rules.specs.declared.Rule.{Rule}
use Rattle.tables.specs.Tables.{unless}
use Rattle.tables.specs.Inner.{first_bad_tick}
use Rattle.rules.specs.declared.Told.{Told}
use Rattle.rules.specs.declared.Binding.{Binding}
use Rattle.rules.specs.declared.Binding.TheVariants as binding
use Rattle.rules.specs.declared.Explanation.{Explanation}
use Rattle.rules.specs.declared.Explanation.TheVariants as why
use Rattle.rules.specs.declared.Refusal.{Refusal}
use Rattle.rules.specs.declared.Refusal.TheVariants.{Edition, Tick, Shortfall, Unharmonic, Want, Output, Rules, Numbers, Past, Busy, Full, NoPlace}
use Rattle.rules.specs.Refusals.{telling, told, told_done, told_count, Tells}
use Rattle.rules.specs.Filling.{left_by}
use Rattle.rules.proofs.Known.{not_0, by_number, filling_fills, tells_one}
use Rattle.rules.proofs.Tests.{and_parts, pick_first}
use Rattle.rules.proofs.Answers.{no_filling}
use Rattle.std.specs.Prelude.{Result, Ok, Err}
use Rattle.tables.proofs.Chain.{unless-parts_hold, not_2}
use Rattle.output.proofs.Proved as output
use Rattle.theory.specs.Plan.{held, count_in, HeldIs, least, LeastIs}
use Rattle.theory.specs.Harmonic.{frame, all_wanted, harmonic_plan}
use Rattle.theory.specs.Task.{task_point, task_tick}
use Rattle.theory.proofs.Proved as theory
use Rattle.plan_check.specs.Check.{scan_of, plan_check_of, check_of, Checks}
use Rattle.plan_check.proofs.Orders.{short_part}
use Rattle.plan_check.proofs.Answers as checker
use Rattle.plan_build.specs.Build.{unharmonic, laid_of, build_of, Builds}
use Rattle.plan_build.proofs.Answers as builder
use Rattle.rules.specs.Walk.{listed}
use Rattle.counts.specs.Counts.{running_counts, FillsCounts, HoldsOne, answer_at, questions, HoldsMany}
use Rattle.counts.proofs.Changes as counts
use Rattle.task_verdict.specs.Verdict.{Judges, JudgesPlainly, told_judged}
use Rattle.task_verdict.proofs.Engines as verdict
use Rattle.task_page.specs.Page.{Pages, told_page}
use Rattle.task_page.proofs.Proved as page
use Rattle.file_tables.proofs.Chain.{file_2, file_holds}
use Rattle.file_read.specs.declared.Contents.{Contents}
use Rattle.file_read.specs.declared.Body.TheVariants.{Partitions, Tasks, Runs}
use Rattle.file_read.specs.Reader.{table_by, judged_by, read_of, told_reading, Reads}
use Rattle.file_read.proofs.Reader.{contents_hold}
use Rattle.file_read.proofs.Proved as reader
use Rattle.file_write.specs.Writer.{file_of, size_for, write_of, Writes}
use Rattle.file_write.proofs.Proved as writer
use Rattle.file_runs.proofs.Proved as runs
use Rattle.file_listing.specs.Listing.{listing_of, list_of, Lists}
use Rattle.file_listing.proofs.Proved as listing
use Rattle.why_page.proofs.Proved as page-texts
use Rattle.share_plan.proofs.Proved as planner
use Rattle.desk.specs.declared.Job.{Job}
use Rattle.desk.specs.declared.Desk.{Desk}
use Rattle.desk.specs.declared.Done.{Done}
use Rattle.desk.specs.declared.Done.TheVariants.{Opened, Taken}
use Rattle.desk.specs.Table.{job, start, ends, none, filled, flexes, Outcome, outcome, table_ok, open_of}
use Rattle.desk.specs.Request.{kept, Place, At, Nowhere, find, insert_at, taking, dropping, drops, request_of}
use Rattle.desk.specs.Call.{desk_of, Leaves, said}
use Rattle.desk.specs.Places.{early, start_at}
use Rattle.desk.specs.Reason.{explanation_of}
use Rattle.desk.specs.Theorems.{Fits, MovesWithin, NoLower, Ready}
use Rattle.desk.proofs.Ready.{Comes, at_13, at_14, at_15, at_16, at_17, through, comes}
use Rattle.desk.proofs.Proved as desk
use Rattle.desk_lent.proofs.Proved as lent
use Rattle.plan_curve.specs.Curve.{least_curve, curve_of, DrawsCurve}
use Rattle.plan_curve.proofs.Answers as curve
use Rattle.api.specs.Answers.{TellsHeld, TellsLeast, TellsCurve, TellsBuild, TellsRead, TellsSection, TellsWrite, TellsList, TellsRequest}
use Rattle.answers.specs.Parts.{told_part}
use Rattle.demands.specs.Demands.{among, ToldAs, Numbered, Known, Demand1, OneOutcome, Afresh, lower, Explains, Demand2, Demand3, Demands}
use Rattle.demands.proofs.Entries.{entries}
use Rattle.demands.proofs.Counting as counting
use Rattle.demands.proofs.Granules.{not_known, known_good, edition_exactly, granule_exactly, granule_one}
use Rattle.demands.proofs.Judging as judging
use Rattle.demands.proofs.Paging as paging

-- ---- the numbers, whatever the tests give: one case for each answer

-- what holds of each of the checker's 8 and 9, and of the builder's 10, 11 and 12
of_plan : (P : Result (Unit {0}) Refusal → Type 0) (rule : Rule) (q : ℕ → ℕ) (plan ps : List ℕ) → P (Ok tt) → ((t : ℕ) → P (Err (Tick t))) → ((p s h w : ℕ) → P (Err (Shortfall p s h w)))
    → P (plan_check_of rule q plan ps)
unfolding plan_check_of scan_of
of_plan P rule q plan ps good eight nine = at (ltb (first_bad_tick (partitions ps) plan) (length plan)) (ltb (short_part rule q plan ps) (partitions ps)) _ _ _ _ _
  where
    at : (c d : Bool) (t p s h w : ℕ) → P (unless Err (pick c (Err (Tick t)) (Ok tt)) (pick d (Err (Shortfall p s h w)) (Ok tt)))
    at true d t p s h w = eight t
    at false true t p s h w = nine p s h w
    at false false t p s h w = good

of_laid : (P : Result ℕ Refusal → Type 0) (q : ℕ → ℕ) (ps : List ℕ) (room : ℕ) → P (Err Unharmonic) → P (Err Want) → P (Err Output) → ((h : ℕ) → P (Ok h))
    → P (laid_of q ps room)
unfolding laid_of
of_laid P q ps room ten eleven twelve fills = at (unharmonic ps) (ltb (frame ps) (all_wanted q ps (frame ps))) (ltb room (frame ps))
  where
    at : (c d e : Bool) → P (pick c (Err Unharmonic) (pick d (Err Want) (pick e (Err Output) (Ok (frame ps)))))
    at true d e = ten
    at false true e = eleven
    at false false true = twelve
    at false false false = fills (frame ps)

write-told : (e : Bool) (n : ℕ) → Numbered (2 ∷ 3 ∷ 6 ∷ 7 ∷ 8 ∷ 12 ∷ []) (told_count (pick e (Err Output) (Ok n)))
write-told true n = refl
write-told false n = refl

list-told : (a : Bool) (n : ℕ) → Numbered (12 ∷ []) (told_count (pick a (Err Output) (Ok n)))
list-told true n = refl
list-told false n = refl

open_told : (a : Bool) (l l' : List Job) (n clock : ℕ) → Numbered (13 ∷ []) (said (pick a (outcome l n 0 (Ok Opened)) (outcome l' n clock (Err Rules))).answer)
open_told true l l' n clock = refl
open_told false l l' n clock = refl

-- what holds of each outcome that a request may have holds of its outcome
module _ (P : Outcome → Type 0) (clock n : ℕ) (l : List Job) (t c d : ℕ) where
  abbrev js : List Job
  js = kept t (take n l)

  abbrev stays : Refusal → Outcome
  stays r = outcome l n clock (Err r)

  abbrev takes : ℕ → ℕ → Outcome
  takes i s = outcome (filled (insert_at i (job s c d 0) js)) (length js + 1) t (Ok (Taken i s))

  taking-holds : (p : Place) → P (dropping t js (NoPlace (explanation_of t d js))) → ((i s : ℕ) → P (takes i s)) → P (taking t c d js p)
  taking-holds Nowhere refused new = refused
  taking-holds (At i s) refused new = new i s

  request_holds : P (stays Rules) → P (stays Numbers) → P (stays Past) → P (dropping t js Busy) → P (dropping t js Full) → P (dropping t js (NoPlace (explanation_of t d js)))
      → ((i s : ℕ) → P (takes i s)) → P (request_of clock n l t c d)
  request_holds thirteen fourteen fifteen sixteen seventeen eighteen new = by (request_of clock n l t c d) (comes clock n l t c d)
    where
      by : (o : Outcome) → Comes clock n l t c d o → P o
      by o (at_13 e) = thirteen
      by o (at_14 e) = fourteen
      by o (at_15 e) = fifteen
      by o (at_16 late small e) = sixteen
      by o (at_17 late small e) = seventeen
      by o (through w) = taking-holds (find t c d js) eighteen new

-- ---- from what is told to the rule's answer, and back

build_is : (g : ℕ) (ps out o : List ℕ) (t : Told) → TellsBuild g ps out o t → t ≡ told_count (build_of (granules g) ps (length out))
build_is g ps out o t p = tells_one told_count (Builds (granules g) ps out o) (build_of (granules g) ps (length out)) (λ r e. e.0) t p

read_is : (b : List ℕ) (t : Told) → TellsRead b t → t ≡ told_reading (read_of b)
read_is b t p = tells_one told_reading (Reads b) (read_of b) (λ r e. e) t p

section_is : (b : List ℕ) (which : ℕ) (t : Told) → TellsSection b which t → t ≡ told_part which (read_of b)
section_is b which t p = tells_one (told_part which) (Reads b) (read_of b) (λ r e. e) t p

write_is : (i f : ℕ) (ps ts rs out o : List ℕ) (t : Told) → TellsWrite i f ps ts rs out o t → t ≡ told_count (write_of i f ps ts rs (length out))
write_is i f ps ts rs out o t p = tells_one told_count (Writes i f ps ts rs out o) (write_of i f ps ts rs (length out)) (λ r e. e.0) t p

curve_is : (i : ℕ) (plan : List ℕ) (p n : ℕ) (list o : List ℕ) (t : Told) → TellsCurve i plan p n list o t → t ≡ told_count (curve_of i n (length list))
curve_is i plan p n list o t c = tells_one told_count (DrawsCurve i plan p n list o) (curve_of i n (length list)) (λ r e. e.0) t c

held_is : (i : ℕ) (plan : List ℕ) (p s n : ℕ) (t : Told) → TellsHeld i plan p s n t → t ≡ told_count (count_in i (held (rule_of i) plan p n s))
held_is i plan p s n t q = tells_one told_count (HeldIs i plan p s n) _ (λ r e. e) t q

least_is : (i : ℕ) (plan : List ℕ) (p u : ℕ) (t : Told) → TellsLeast i plan p u t → t ≡ told_count (count_in i (least (rule_of i) plan p u))
least_is i plan p u t q = tells_one told_count (LeastIs i plan p u) _ (λ r e. e) t q

list_is : (b out o : List ℕ) (t : Told) → TellsList b out o t → t ≡ told_count (list_of b (length out))
list_is b out o t p = tells_one told_count (Lists b out o) (list_of b (length out)) (λ r e. e.0) t p

-- the desk's two entries, whose outcome is o
module _ (o : Outcome) (k' : Desk) (l' : List Job) (t : Told) (p : Tells said (λ (a : Result Done Refusal). Leaves o a k' l') t) where
  desk_is : t ≡ said o.answer
  desk_is = tells_one said (λ (a : Result Done Refusal). Leaves o a k' l') o.answer (λ r e. e.0) t p

  -- a number from 1 on is a refusal's
  refusal_is : ¬ (t.number ≡ 0) → (r : Refusal) × (o.answer ≡ Err r) × (t.number ≡ (told r).number)
  refusal_is n = go o.answer refl
    where
      go : (a : Result Done Refusal) → o.answer ≡ a → (r : Refusal) × (o.answer ≡ Err r) × (t.number ≡ (told r).number)
      go (Ok Opened) e = absurd (n (rw (desk_is, e)))
      go (Ok (Taken i s)) e = absurd (n (rw (desk_is, e)))
      go (Err r) e = (r, e, rw (desk_is, e))

  left_is : (q : Outcome) → o ≡ q → (k' ≡ desk_of q) × (l' ≡ q.jobs)
  left_is q e = (p.1.1 ∙ ap desk_of e, p.1.2 ∙ ap (λ (x : Outcome). x.jobs) e)

  afresh_is : (¬ ((said o.answer).number ≡ 13) → flexes (take o.count o.jobs) ≡ take o.count o.jobs) → ¬ (t.number ≡ 13) → Afresh k' l'
  afresh_is h n = rw (p.1.1, p.1.2) (h (λ e. n (rw desk_is e)))

-- ---- 2, of a call that judges the edition by itself

-- a test of the edition, with 2 where it fails
module _ {A : Type 0} (i : ℕ) (number : A → ℕ) (next two : A) (z : number two ≡ 2) (after : ¬ (number next ≡ 2)) where
  by_edition : (number (pick (good_edition i) next two) ≡ 2) ↔ (¬ Known i)
  by_edition = (λ h k. at (good_edition i) refl h k, λ n. rw (not_known i n) z)
    where
      at : (b : Bool) → good_edition i ≡ b → number (pick b next two) ≡ 2 → ¬ Known i
      at true e h k = after h
      at false e h k = known_good i k e

count-told : (i n : ℕ) → Numbered (2 ∷ []) (told_count (count_in i n))
count-told i n = at (good_edition i)
  where
    at : (b : Bool) → Numbered (2 ∷ []) (told_count (pick b (Ok n) (Err Edition)))
    at true = refl
    at false = refl

curve-told : (a b : Bool) (n : ℕ) → Numbered (2 ∷ 12 ∷ []) (told_count (pick a (pick b (Err Output) (Ok n)) (Err Edition)))
curve-told true true n = refl
curve-told true false n = refl
curve-told false b n = refl

filled-told : (b : Bool) (n : ℕ) → ¬ ((told_count (pick b (Err Output) (Ok n))).number ≡ 2)
filled-told true n z = absurd (omega arith)
filled-told false n z = absurd (omega arith)

-- ---- what a refusal leaves

left-refused : (r : Result ℕ Refusal) (new out : List ℕ) → ¬ ((told_count r).number ≡ 0) → left_by r new out ≡ out
left-refused (Ok m) new out n = absurd (n refl)
left-refused (Err x) new out n = refl

abbrev every : (ℕ → Bool) → List ℕ → Bool
every p [] = true
every p (m ∷ ms) = p m && every p ms

-- what holds of each number of a list holds of one of them
every_among : (p : ℕ → Bool) (ms : List ℕ) (n : ℕ) → every p ms ≡ true → among ms n ≡ true → p n ≡ true
every_among p [] n h e = absurd (true≢false (sym e))
every_among p (m ∷ ms) n h e = at (eqb m n) refl (every_among p ms n (and_parts (p m) (every p ms) h).1) e
  where
    at : (b : Bool) → eqb m n ≡ b → (among ms n ≡ true → p n ≡ true) → b || among ms n ≡ true → p n ≡ true
    at true q rest e = rw (← eqb-true m n q) (and_parts (p m) (every p ms) h).0
    at false q rest e = rest e

abbrev drops_by : ℕ → Bool
drops_by n = leb 16 n && leb n 18

one_more : (k : ℕ) (ms : List ℕ) (m : ℕ) → (k < m → among ms m ≡ true) → k ≤ m → among (k ∷ ms) m ≡ true
one_more k ms m rest h = at (eqb k m) refl
  where
    at : (b : Bool) → eqb k m ≡ b → b || among ms m ≡ true
    at true e = refl
    at false e = rest (omega (arith, eqb-false k m e))

lower-all : (m : ℕ) → 13 ≤ m → m < 18 → among lower m ≡ true
lower-all m h g =
    one_more 13 (14 ∷ 15 ∷ 16 ∷ 17 ∷ []) m
    (one_more 14 (15 ∷ 16 ∷ 17 ∷ []) m (one_more 15 (16 ∷ 17 ∷ []) m (one_more 16 (17 ∷ []) m (one_more 17 [] m (λ e. absurd (omega arith)))))) h

module _ (k k' : Desk) (l l' : List Job) (time c d : ℕ) (t : Told) (p : TellsRequest k l time c d k' l' t) where
  abbrev asked : Outcome
  asked = request_of k.clock k.count l time c d

  abbrev left : List Job
  left = kept time (take k.count l)

  abbrev Leaving : Bool → Type 0
  Leaving b = (r : Refusal) × (asked ≡ pick b (dropping time left r) (outcome l k.count k.clock (Err r)))

  leaving : (ms : List ℕ) (b : Bool) → ((n : ℕ) → among ms n ≡ true → drops_by n ≡ b) → ¬ (among ms 0 ≡ true) → ToldAs ms t → Leaving b
  leaving ms b which some e =
      let r = refusal_is asked k' l' t p (λ z. some (rw (← z) e)) in
      let f : drops r.0 ≡ b = which (told r.0).number (rw (← r.2) e) in
      (r.0, rw (← f) ((desk.proved).request_leaves k.clock k.count l time c d r.0 r.1))

  stayed : ToldAs (13 ∷ 14 ∷ 15 ∷ []) t → (k' ≡ k) × (l' ≡ l)
  stayed e =
      let a = leaving (13 ∷ 14 ∷ 15 ∷ []) false (λ n h. not-true (drops_by n) (every_among (λ n. not (drops_by n)) (13 ∷ 14 ∷ 15 ∷ []) n refl h)) (λ z. true≢false (sym z)) e in
      left_is asked k' l' t p _ a.1

  dropped : ToldAs (16 ∷ 17 ∷ 18 ∷ []) t → (k'.clock ≡ time) × (k'.count ≡ length left) × (l' ≡ filled left)
  dropped e =
      let a = leaving (16 ∷ 17 ∷ 18 ∷ []) true (λ n h. every_among drops_by (16 ∷ 17 ∷ 18 ∷ []) n refl h) (λ z. true≢false (sym z)) e in
      let q = left_is asked k' l' t p _ a.1 in
      (ap (λ (x : Desk). x.clock) q.0, ap (λ (x : Desk). x.count) q.0, q.1)

  not_opened : ¬ (asked.answer ≡ Ok Opened)
  not_opened = request_holds (λ o. ¬ (o.answer ≡ Ok Opened)) k.clock k.count l time c d other other other other other other (λ i s e. let z : ◌≡◌ {A = ℕ} 0 1 = cc in absurd (omega arith))
    where
      other : {r : Refusal} → ¬ (◌≡◌ {A = Result Done Refusal} (Err r) (Ok Opened))
      other e = let z : ◌≡◌ {A = ℕ} 0 1 = cc in absurd (omega arith)

  taken : t.number ≡ 0 → k'.clock ≡ time
  taken e = ap (λ (x : Desk). x.clock) p.1.1 ∙ go asked.answer refl
    where
      go : (a : Result Done Refusal) → asked.answer ≡ a → asked.clock ≡ time
      go (Ok Opened) f = absurd (not_opened f)
      go (Ok (Taken i s)) f = (desk.proved).taken_sets_clock k.clock k.count l time c d i s f
      go (Err r) f = absurd (not_0 r (rw (desk_is asked k' l' t p, f) at e))

  -- no number of the list is one for the desk's `NoLower`
  none-lower : ¬ ToldAs lower t → NoLower asked
  none-lower h m low high e = h (rw (desk_is asked k' l' t p, e) (lower-all m low high))

  lower-told : (¬ ToldAs lower t) ↔ Ready k.clock k.count l time c d
  lower-told =
      let w = (desk.proved).lower_exactly k.clock k.count l time c d in (
        λ h. w.0 (none-lower h),
        λ r e.
            let m = (said asked.answer).number in
            let f = and_parts (leb 13 m) (leb m 17) (every_among (λ n. leb 13 n && leb n 17) lower m refl (rw (desk_is asked k' l' t p) at e)) in
            w.1 r m (leb-true 13 m f.0) (omega (arith, leb-true m 17 f.1)) refl,
      )

  start-told : t.number ≡ 0 → t.second ≡ start_at time left t.first
  start-told e = rw (desk_is asked k' l' t p) (go asked.answer refl)
    where
      go : (a : Result Done Refusal) → asked.answer ≡ a → (said a).second ≡ start_at time left (said a).first
      go (Ok Opened) f = absurd (not_opened f)
      go (Ok (Taken i s)) f = (desk.proved).taken_start k.clock k.count l time c d i s f
      go (Err r) f = absurd (not_0 r (rw (desk_is asked k' l' t p, f) at e))

  near_told : t.number ≡ 0 → MovesWithin left t.first l'
  near_told e = rw (desk_is asked k' l' t p, p.1.2) (go asked.answer refl)
    where
      go : (a : Result Done Refusal) → asked.answer ≡ a → MovesWithin left (said a).first asked.jobs
      go (Ok Opened) f = absurd (not_opened f)
      go (Ok (Taken i s)) f = (desk.proved).never_too_far k.clock k.count l time c d i s f
      go (Err r) f = absurd (not_0 r (rw (desk_is asked k' l' t p, f) at e))

  busy-told : t.number ≡ 16
      → (start (get_or l' 0 none) < time) × (time < ends (get_or l' 0 none))
      × ((u c₂ d₂ : ℕ) (k₂ : Desk) (l₂ : List Job) (t₂ : Told) → u ≡ ends (get_or l' 0 none) → TellsRequest k' l' u c₂ d₂ k₂ l₂ t₂ → ¬ (t₂.number ≡ 16))
  busy-told e =
      let w = (desk.proved).busy_ends k.clock k.count l time c d (rw (desk_is asked k' l' t p) at e) in
      let tells : (k₃ : Desk) (l₃ : List Job) → k₃ ≡ desk_of asked → l₃ ≡ asked.jobs → (u c₂ d₂ : ℕ) → u ≡ ends (get_or l₃ 0 none)
      → ¬ ((said (request_of k₃.clock k₃.count l₃ u c₂ d₂).answer).number ≡ 16) =
      λ k₃ l₃ ek el u c₂ d₂. rw (ek, el) (w.free_then u c₂ d₂) in (
        rw p.1.2 w.begun,
        rw p.1.2 w.unended,
        λ u c₂ d₂ k₂ l₂ t₂ at q f. tells k' l' p.1.1 p.1.2 u c₂ d₂ at (rw (desk_is _ k₂ l₂ t₂ q) at f),
      )

  taken-told : ¬ ToldAs lower t → (t.number ≡ 0) ↔ Fits time c d left
  taken-told h = rw (desk_is asked k' l' t p) ((desk.proved).taken_exactly k.clock k.count l time c d (none-lower h))

  no_place_told : (t.number ≡ 18) ↔ (¬ ToldAs lower t × ¬ Fits time c d left)
  no_place_told =
      let w = (desk.proved).no_place_exactly k.clock k.count l time c d in (
        λ e. (λ h. true≢false (sym (rw e at h)), (w.0 (rw (desk_is asked k' l' t p) at e)).1),
        λ (h, f). rw (desk_is asked k' l' t p) (w.1 (none-lower h, f)),
      )

  -- what holds of each reason that may be told with 18 holds of what is told
  by_reason : (P : Told → Type 0) → ((reason : Explanation) → asked.answer ≡ Err (NoPlace reason) → P (told (NoPlace reason))) → t.number ≡ 18 → P t
  by_reason P by e = subst P (sym (desk_is asked k' l' t p)) (go asked.answer refl (rw (desk_is asked k' l' t p) at e))
    where
      named_by : (r : Refusal) (reason : Explanation) → r ≡ NoPlace reason → asked.answer ≡ Err r → P (told r)
      named_by r reason z f = subst (λ (x : Refusal). P (told x)) (sym z) (by reason (f ∙ ap (λ (x : Refusal). Err x) z))

      go : (a : Result Done Refusal) → asked.answer ≡ a → (said a).number ≡ 18 → P (said a)
      go (Ok Opened) f z = absurd (not_opened f)
      go (Ok (Taken i s)) f z = absurd (omega arith)
      go (Err r) f z = named_by r _ (by_number r 18 (λ q. absurd (omega arith)) z) f

  explained-told : t.number ≡ 18 → Explains time c d left t
  explained-told = by_reason (Explains time c d left) by
    where
      not_none : (i r : ℕ) (b : Binding) → asked.answer ≡ Err (NoPlace (why.Roomiest i r b)) → ¬ ((early d left ≡ 0) × (d < time))
      not_none i r b f z =
          let y = ((desk.proved).no_place_nowhere k.clock k.count l time c d (why.Roomiest i r b) f).1 z in
          let x : ◌≡◌ {A = ℕ} 0 1 = cc in
          omega arith

      by : (reason : Explanation) → asked.answer ≡ Err (NoPlace reason) → Explains time c d left (told (NoPlace reason))
      by why.Nowhere f = record {
        none = (λ z. ((desk.proved).no_place_nowhere k.clock k.count l time c d why.Nowhere f).0 refl, λ z. refl);
        roomiest = λ z. absurd (omega arith);
        binds = λ z. absurd (omega arith);
      }
      by (why.Roomiest i r binding.Own) f = record {
        none = (λ z. absurd (omega arith), λ z. absurd (not_none i r binding.Own f z));
        roomiest = λ z. (desk.proved).no_place_roomiest k.clock k.count l time c d i r binding.Own f;
        binds = λ z. inl (refl, (desk.proved).no_place_breaks k.clock k.count l time c d i r binding.Own f);
      }
      by (why.Roomiest i r (binding.Listed j)) f = record {
        none = (λ z. absurd (omega arith), λ z. absurd (not_none i r (binding.Listed j) f z));
        roomiest = λ z. (desk.proved).no_place_roomiest k.clock k.count l time c d i r (binding.Listed j) f;
        binds = λ z. inr (refl, (desk.proved).no_place_breaks k.clock k.count l time c d i r (binding.Listed j) f);
      }

  room-told : t.number ≡ 18 → 1 ≤ t.second
      → (k₂ : Desk) (l₂ : List Job) (u : Told) → TellsRequest k l time t.second d k₂ l₂ u → u ≡ telling 0 t.first (start_at time left t.first) 0 0
  room-told = by_reason (λ x. 1 ≤ x.second → (k₂ : Desk) (l₂ : List Job) (u : Told) → TellsRequest k l time x.second d k₂ l₂ u → u ≡ telling 0 x.first (start_at time left x.first) 0 0) by
    where
      by : (reason : Explanation) → asked.answer ≡ Err (NoPlace reason) → 1 ≤ (told (NoPlace reason)).second
          → (k₂ : Desk) (l₂ : List Job) (u : Told) → TellsRequest k l time (told (NoPlace reason)).second d k₂ l₂ u
          → u ≡ telling 0 (told (NoPlace reason)).first (start_at time left (told (NoPlace reason)).first) 0 0
      by why.Nowhere f some k₂ l₂ u q = absurd (omega arith)
      by (why.Roomiest i r b) f some k₂ l₂ u q =
          desk_is _ k₂ l₂ u q ∙ ap said ((desk.proved).no_place_room_taken k.clock k.count l time c d i r b f some)

-- ---- sections

abbrev Partly : Result Contents Refusal → ℕ → Type 0
Partly c which = ¬ ((told_reading c).number ≡ 0) → told_part which c ≡ told_reading c

no_part : (b : List ℕ) (which : ℕ) → Partly (read_of b) which
no_part b which = at (read_of b)
  where
    at : (c : Result Contents Refusal) → Partly c which
    at (Ok c) n = absurd (n refl)
    at (Err x) n = refl

a_part : (b : List ℕ) (which : ℕ) → (told_reading (read_of b)).number ≡ 0 → (told_part which (read_of b)).number ≡ 0
a_part b which = at (read_of b)
  where
    at : (c : Result Contents Refusal) → (told_reading c).number ≡ 0 → (told_part which c).number ≡ 0
    at (Ok c) e = refl
    at (Err x) e = absurd (not_0 x e)

first : Demand1
unfolding curve_of check_of build_of read_of write_of list_of open_of
first = record {
  build_numbers = λ g ps out o t p.
      rw (build_is g ps out o t p)
      (unless-parts_hold (granules g) longest ps (λ (r : Result ℕ Refusal). Numbered (3 ∷ 21 ∷ 6 ∷ 10 ∷ 11 ∷ 12 ∷ []) (told_count r)) Err (laid_of (wanted (granules g) ps) ps (length out)) not_2 refl (λ e. refl) (λ k. refl)
      (of_laid (λ (r : Result ℕ Refusal). Numbered (3 ∷ 21 ∷ 6 ∷ 10 ∷ 11 ∷ 12 ∷ []) (told_count r)) (wanted (granules g) ps) ps (length out) refl refl refl (λ h. refl)));
  held_numbers = λ i plan p s n t q. rw (held_is i plan p s n t q) (count-told i _);
  least_numbers = λ i plan p u t q. rw (least_is i plan p u t q) (count-told i _);
  curve_numbers = λ i plan p n list o t c. rw (curve_is i plan p n list o t c) (curve-told (good_edition i) (ltb (length list) (n + 1)) _);
  check_numbers = λ i g plan ps t p.
      rw (judging.check_is i g plan ps t p)
      (unless-parts_hold (given i g) (length plan) ps (λ (r : Result (Unit {0}) Refusal). Numbered (2 ∷ 3 ∷ 21 ∷ 6 ∷ 8 ∷ 9 ∷ []) (told_done r)) Err (plan_check_of (rule_of i) (wanted (given i g) ps) plan ps) (λ e. refl) refl (λ e. refl) (λ k. refl)
      (of_plan (λ (r : Result (Unit {0}) Refusal). Numbered (2 ∷ 3 ∷ 21 ∷ 6 ∷ 8 ∷ 9 ∷ []) (told_done r)) (rule_of i) (wanted (given i g) ps) plan ps refl (λ t. refl) (λ p s h w. refl)));
  fill_numbers = counting.fill_numbers;
  counts_held_numbers = counting.held_numbers;
  many_numbers = counting.many_numbers;
  change_numbers = counting.change_numbers;
  verdict_numbers = judging.judged-numbers task_point;
  plain_numbers = judging.judged-numbers task_tick;
  page_numbers = paging.page_numbers;
  read_numbers = λ b t p.
      rw (read_is b t p)
      (contents_hold b (λ (c : Result Contents Refusal). Numbered (1 ∷ 2 ∷ 3 ∷ 4 ∷ 5 ∷ 6 ∷ 7 ∷ 8 ∷ []) (told_reading (judged_by c b))) refl refl refl refl refl
      (λ c. file_holds c.edition c.frame (table_by (Ok c) b Partitions) (table_by (Ok c) b Tasks) (table_by (Ok c) b Runs)
      (λ (r : Result Contents Refusal). Numbered (1 ∷ 2 ∷ 3 ∷ 4 ∷ 5 ∷ 6 ∷ 7 ∷ 8 ∷ []) (told_reading r)) Err (Ok c) (λ e. refl) refl (λ k. refl) (λ j. refl) (λ r. refl) refl));
  section_refused = λ b which t u p q n. section_is b which t p ∙ no_part b which (λ z. n (rw (read_is b u q) z)) ∙ sym (read_is b u q);
  section_good = λ b which t u p q e. rw (section_is b which t p) (a_part b which (rw (read_is b u q) at e));
  write_numbers = λ i f ps ts rs out o t p.
      rw (write_is i f ps ts rs out o t p)
      (file_holds i f ps ts rs (λ (w : Result ℕ Refusal). Numbered (2 ∷ 3 ∷ 6 ∷ 7 ∷ 8 ∷ 12 ∷ []) (told_count w)) Err _ (λ e. refl) refl (λ k. refl) (λ j. refl) (λ r. refl)
      (write-told (ltb (length out) (size_for ps ts rs)) _));
  list_numbers = λ b out o t p. rw (list_is b out o t p) (list-told (ltb (length out) (length (listing_of b))) _);
  open_numbers = λ k k' l l' t p. rw (desk_is _ k' l' t p) (open_told (table_ok k.count l) _ _ k.count k.clock);
  request_numbers = λ k k' l l' time c d t p.
      rw (desk_is _ k' l' t p) (request_holds (λ o. Numbered (13 ∷ 14 ∷ 15 ∷ 16 ∷ 17 ∷ 18 ∷ []) (said o.answer)) k.clock k.count l time c d refl refl refl refl refl refl (λ i s. refl));
  held_edition = λ i plan p s n t q.
      rw (held_is i plan p s n t q) (by_edition i (λ (r : Result ℕ Refusal). (told_count r).number) (Ok (held (rule_of i) plan p n s)) (Err Edition) refl (λ z. absurd (omega arith)));
  least_edition = λ i plan p u t q.
      rw (least_is i plan p u t q) (by_edition i (λ (r : Result ℕ Refusal). (told_count r).number) (Ok (least (rule_of i) plan p u)) (Err Edition) refl (λ z. absurd (omega arith)));
  curve_edition = λ i plan p n list o t c.
      rw (curve_is i plan p n list o t c) (by_edition i (λ (r : Result ℕ Refusal). (told_count r).number) _ (Err Edition) refl (filled-told (ltb (length list) (n + 1)) _));
  check_edition = λ i g plan ps t p.
      rw (judging.check_is i g plan ps t p)
      (edition_exactly i g (length plan) ps [] (λ (r : Result (Unit {0}) Refusal). (told_done r).number) Err (plan_check_of (rule_of i) (wanted (given i g) ps) plan ps) (λ r. refl)
      (of_plan (λ (r : Result (Unit {0}) Refusal). ¬ ((told_done r).number ≡ 2)) (rule_of i) (wanted (given i g) ps) plan ps (λ z. absurd (omega arith)) (λ t z. absurd (omega arith)) (λ p s h w z. absurd (omega arith))));
  verdict_edition = judging.judged-edition task_point;
  plain_edition = judging.judged-edition task_tick;
  page_edition = paging.page_edition;
  write_edition = λ i f ps ts rs out o t p.
      rw (write_is i f ps ts rs out o t p) (
        λ h k.
            file_holds i f ps ts rs (λ (w : Result ℕ Refusal). ¬ ((told_count w).number ≡ 2)) Err _ (known_good i k) (λ z. absurd (omega arith)) (λ j z. absurd (omega arith)) (λ j z. absurd (omega arith)) (λ r z. absurd (omega arith))
            (filled-told (ltb (length out) (size_for ps ts rs)) _) h,
        λ n. rw (← file_2 i f ps ts rs (not_known i n)),
      );
  build_granule = λ g ps out o t p.
      rw (build_is g ps out o t p)
      (granule_exactly 1 g longest ps [] (λ (r : Result ℕ Refusal). (told_count r).number) Err (laid_of (wanted (granules g) ps) ps (length out)) (λ r. refl)
      (of_laid (λ (r : Result ℕ Refusal). ¬ ((told_count r).number ≡ 21)) (wanted (granules g) ps) ps (length out) (λ z. absurd (omega arith)) (λ z. absurd (omega arith)) (λ z. absurd (omega arith)) (λ h z. absurd (omega arith))));
  check_granule = λ i g plan ps t p.
      rw (judging.check_is i g plan ps t p)
      (granule_exactly i g (length plan) ps [] (λ (r : Result (Unit {0}) Refusal). (told_done r).number) Err (plan_check_of (rule_of i) (wanted (given i g) ps) plan ps) (λ r. refl)
      (of_plan (λ (r : Result (Unit {0}) Refusal). ¬ ((told_done r).number ≡ 21)) (rule_of i) (wanted (given i g) ps) plan ps (λ z. absurd (omega arith)) (λ t z. absurd (omega arith)) (λ p s h w z. absurd (omega arith))));
  verdict_granule = judging.judged-granule task_point;
  plain_granule = judging.judged-granule task_tick;
  page_granule = paging.page_granule;
  build_refused = λ g ps out o t p n. p.1.1 ∙ left-refused p.0 (harmonic_plan (wanted (granules g) ps) ps) out (λ z. n (rw p.2 z));
  write_refused = λ i f ps ts rs out o t p n. p.1.1 ∙ left-refused (write_of i f ps ts rs (length out)) (file_of i f ps ts rs) out (λ z. n (rw (write_is i f ps ts rs out o t p) z));
  curve_refused = λ i plan p n list o t c r. c.1.1 ∙ left-refused c.0 (least_curve (rule_of i) plan p n) list (λ z. r (rw c.2 z));
  page_refused = paging.refused_leaves;
  list_refused = λ b out o t p n. p.1.1 ∙ left-refused (list_of b (length out)) (listing_of b) out (λ z. n (rw (list_is b out o t p) z));
  fill_refused = λ plan ps list o t p n. p.1.1 ∙ left-refused p.0 (running_counts plan ps) list (λ z. n (rw p.2 z));
  many_refused = λ plan ps list qs out o t p n. p.1.1 ∙ left-refused p.0 (listed (answer_at plan qs) (questions qs)) out (λ z. n (rw p.2 z));
  change_refused = counting.change_refused;
  open_refused = λ k k' l l' t p n.
      let r = refusal_is _ k' l' t p n in left_is _ k' l' t p _ ((desk.proved).open_leaves k.clock k.count l r.0 r.1);
  request_refused = stayed;
  request_drops = dropped;
  request_taken = taken;
}

-- ---- one outcome

module _ {A : Type 0} (tell : A → Told) where
  same-told : (Answers : A → Type 0) → ((r r' : A) → Answers r → Answers r' → r ≡ r') → (t t' : Told) → Tells tell Answers t → Tells tell Answers t' → t ≡ t'
  same-told Answers one t t' (r, p, e) (r', p', e') = e ∙ ap tell (one r r' p p') ∙ sym e'

  same_left : {C : Type 0} (Answers : C → A → Type 0) → ((o o' : C) (r r' : A) → Answers o r → Answers o' r' → (r ≡ r') × (o ≡ o'))
      → (o o' : C) (t t' : Told) → Tells tell (Answers o) t → Tells tell (Answers o') t' → (t ≡ t') × (o ≡ o')
  same_left Answers one o o' t t' (r, p, e) (r', p', e') = let q = one o o' r r' p p' in (e ∙ ap tell q.0 ∙ sym e', q.1)

desk-one : (o : Outcome) (k₁ k₂ : Desk) (l₁ l₂ : List Job) (t t' : Told)
    → Tells said (λ (a : Result Done Refusal). Leaves o a k₁ l₁) t → Tells said (λ (a : Result Done Refusal). Leaves o a k₂ l₂) t' → (t ≡ t') × (k₁ ≡ k₂) × (l₁ ≡ l₂)
desk-one o k₁ k₂ l₁ l₂ t t' (r, p, e) (r', p', e') =
    let q = (lent.proved).lent_one o r r' k₁ k₂ l₁ l₂ p p' in (e ∙ ap said q.0 ∙ sym e', q.1, q.2)

one_outcome : OneOutcome
one_outcome = record {
  held_one = λ i plan p s n. same-told told_count (HeldIs i plan p s n) ((theory.proved).held_one i plan p s n);
  least_one = λ i plan p u. same-told told_count (LeastIs i plan p u) ((theory.proved).least_one i plan p u);
  curve_one = λ i plan p n list. same_left told_count (DrawsCurve i plan p n list) ((curve.proved).curve_one i plan p n list);
  check_one = λ i g plan ps. same-told told_done (Checks (given i g) plan ps) ((checker.proved).check_one (given i g) plan ps);
  build_one = λ g ps out. same_left told_count (Builds (granules g) ps out) ((builder.proved).build_one (granules g) ps out);
  fill_one = λ plan ps list. same_left told_count (FillsCounts plan ps list) ((counts.proved).fill_one plan ps list);
  counts_held_one = λ plan ps list p s n. same-told told_count (HoldsOne plan ps list p s n) ((counts.proved).held_one plan ps list p s n);
  many_one = λ plan ps list qs out. same_left told_count (HoldsMany plan ps list qs out) ((counts.proved).many_one plan ps list qs out);
  change_one = counting.change_one;
  verdict_one = λ i g plan ps ts place. same-told told_judged (Judges (given i g) plan ps ts place) ((verdict.proved).verdict_one (given i g) plan ps ts place);
  plain_one = λ i g plan ps ts place. same-told told_judged (JudgesPlainly (given i g) plan ps ts place) ((verdict.proved).plain_one (given i g) plan ps ts place);
  page_one = λ i g plan ps ts place list. same_left told_page (Pages (given i g) plan ps ts place list) ((page.proved).page_one (given i g) plan ps ts place list);
  read_one = λ b. same-told told_reading (Reads b) ((reader.proved).one_read b);
  section_one = λ b which. same-told (told_part which) (Reads b) ((reader.proved).one_read b);
  write_one = λ i f ps ts rs out. same_left told_count (Writes i f ps ts rs out) ((writer.proved).one_write i f ps ts rs out);
  list_one = λ b out. same_left told_count (Lists b out) ((listing.proved).listing_one b out);
  open_one = λ k k₁ k₂ l l₁ l₂ t t'. desk-one (open_of k.clock k.count l) k₁ k₂ l₁ l₂ t t';
  request_one = λ k k₁ k₂ l l₁ l₂ time c d t t'. desk-one (request_of k.clock k.count l time c d) k₁ k₂ l₁ l₂ t t';
}

-- a curve that is drawn is of a known edition
drawn : (i n room m : ℕ) → curve_of i n room ≡ Ok m → good_edition i ≡ true
unfolding curve_of
drawn i n room m e = (pick_first (good_edition i) _ _ (Ok m) (no_filling m Edition) e).0

second : Demand2
second = record {
  one_outcome = one_outcome;
  of_rules = theory.proved;
  of_output = output.proved;
  of_curves = curve.proved;
  of_checker = checker.proved;
  of_builder = builder.proved;
  of_counts = counts.proved;
  of_verdicts = verdict.proved;
  of_pages = page.proved;
  of_reader = reader.proved;
  of_writer = writer.proved;
  of_runs = runs.proved;
  of_listings = listing.proved;
  of_texts = page-texts.proved;
  of_planner = planner.proved;
  of_desk = desk.proved;
  of_lent_desk = lent.proved;
  granule_one = granule_one;
  read_write = (writer.proved).read_write;
  write_read = (writer.proved).write_read;
  curve_least = λ i plan p n list o t (r, c, e) z u l.
      let h : r ≡ Ok t.first = rw e (filling_fills r (rw e at z)) in
      let w = ((curve.proved).curve_leaves i plan p n t.first list o (subst (DrawsCurve i plan p n list o) h c)).2 u l in
      let g = drawn i n (length list) t.first (sym c.0 ∙ h) in
      (Ok (least (rule_of i) plan p u), rw g, rw w);
  counts_walked = counting.walked;
  counts_follow = counting.follow;
  engines_alike = judging.engines_alike;
  page_says = paging.page_says;
  accepted_before = λ i g plan ps t u p e q.
      rw (judging.check_is 1 g plan ps u q, (checker.proved).accepted_before (given i g) plan ps (judging.accepted_is i g plan ps t p e));
  passed_before = judging.passed_before task_point (verdict.proved).by_points judging.point-from_1;
  plain_passed_before = judging.passed_before task_tick (verdict.proved).by_ticks judging.tick_from_1;
  open_afresh = λ k k' l l' t p. afresh_is _ k' l' t p ((desk.proved).open_afresh k.clock k.count l);
  request_afresh = λ k k' l l' time c d t p. afresh_is _ k' l' t p ((desk.proved).request_afresh k.clock k.count l time c d);
  lower_exactly = lower-told;
  taken_exactly = taken-told;
  no_place_exactly = no_place_told;
  no_place_explained = explained-told;
  no_place_room_taken = room-told;
  taken_start = start-told;
  never_too_far = near_told;
  busy_ends = busy-told;
}

third : Demand3
third = record {
  ends_in_time = judging.ends_in_time task_point (verdict.proved).by_points;
  ends_in_time_for_ever = judging.ends_in_time_for_ever task_point (verdict.proved).by_points;
  plain_ends_in_time = judging.ends_in_time task_tick (verdict.proved).by_ticks;
  plain_ends_in_time_for_ever = judging.ends_in_time_for_ever task_tick (verdict.proved).by_ticks;
  runs_exist = (theory.proved).legal_exists;
  runs_unique = (theory.proved).legal_one;
  built_serves = λ g ps out o t u (r, b, e) n q.
      let h : r ≡ Ok t.first = rw e (filling_fills r (rw e at n)) in
      rw (judging.check_is 1 g (take t.first o) ps u q, builder.built_serves (granules g) ps out o t.first (subst (Builds (granules g) ps out o) h b));
  want_exactly = λ g ps out o t p. rw (build_is g ps out o t p) (builder.want_exactly (granules g) ps (length out));
  want_none = λ g ps out o t p e. builder.want_none (granules g) ps (length out) (rw (build_is g ps out o t p) at e);
  want_checked = λ g ps out o t p e i plan u q n.
      builder.want_checked (granules g) ps (length out) (rw (build_is g ps out o t p) at e) i plan (judging.accepted_is i g plan ps u q n);
}

pub demands : Demands
demands = record { entries = λ M 𝓤 𝓛 mem run. entries 𝓛 mem run; first = first; second = second; third = third }
