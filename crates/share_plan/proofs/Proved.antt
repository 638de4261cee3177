-- Every promise of specs/Theorems.antt, proved. Assumes nothing.
use Prim.Native.Nat.{ℕ, ◌≤◌, ◌<◌}
use mathlib.Core.Path.{◌≡◌, refl, sym, ap, ◌∙◌}
use mathlib.Core.Logic.{◌⊎◌, inl, inr}
use mathlib.Core.Bool.{Bool, true, false}
use mathlib.Core.List.{List}
use native.Mathlib.Omega.{arith}
use lib.ListN.{length, take, drop, replicate, length-replicate}
use lib.Seq.{take_at, take_all, length-take-le}
use lib.Dec.{ltb}
use borrow.Author.Tests.{lt-ltb}
use Rattle.rules.specs.Walk.{pick}
use Rattle.rules.specs.Limits.{longest, longest_file}
use Rattle.rules.specs.Table.{partitions}
use Rattle.std.specs.Prelude.{Result, Ok, Err}
use Rattle.rules.proofs.Sum.{le-or-lt}
use Rattle.rules.specs.Terms.{given, granules, rule_in, wanted}
use Rattle.rules.specs.declared.Terms.{Terms}
use Rattle.tables.specs.Tables.{GoodTables}
use Rattle.rules.specs.declared.Refusal.{Refusal}
use Rattle.rules.specs.declared.Refusal.TheVariants.{Unharmonic, Want, Output}
use Rattle.tables.specs.Tables.{unless, tables_of}
use Rattle.tables.proofs.Chain.{other-frame, without_tasks, with_granule_1, unless_good_lem, unless_cases, unless-parts_hold, refusals}
use Rattle.file_tables.proofs.Chain.{GoodFile, of_good, file_holds}
use Rattle.theory.specs.Harmonic.{frame, all_wanted, planned, harmonic_plan}
use Rattle.rules.proofs.Named.{listed-length}
use Rattle.theory.proofs.Built.{harmonic_plan_good}
use Rattle.plan_check.specs.Check.{check_of}
use Rattle.plan_check.specs.Theorems.{FallsShort}
use Rattle.plan_check.proofs.Answers.{check_serves, check_short, accepted_without}
use Rattle.plan_build.specs.Build.{unharmonic, laid_of, build_of}
use Rattle.plan_build.proofs.Answers.{built_serves, frame_exactly}
use Rattle.plan_build.proofs.Orders.{counted-few, laid}
use Rattle.rules.specs.Refusals.{told, told_done, told_count}
use Rattle.rules.proofs.Known.{by_number, filling_as}
use Rattle.share_text.specs.declared.Numbers.{Numbers}
use Rattle.share_text.specs.declared.Unread.{Unread}
use Rattle.share_text.specs.Table.{longest_text, part_in, task_in, records_of, granule_of, read_text_of, table_left}
use Rattle.file_read.specs.declared.Body.TheVariants as body
use Rattle.file_read.specs.Reader as file
use Rattle.file_write.specs.Writer.{file_of, size_for, write_of}
use Rattle.file_write.proofs.Writer.{fit, write-room, write-all}
use Rattle.file_write.proofs.Trip.{read_written, left-file}
use Rattle.file_runs.specs.Ticks.{ticks_of}
use Rattle.file_runs.proofs.Ticks.{ticks_back}
use Rattle.file_runs.proofs.Proved as ticks
use Rattle.output.proofs.Proved as output
use Rattle.share_plan.specs.Answer.{plan_runs, plan_file, written_by, write_built_of, write_plan_of, file_or_line, answer_of}
use Rattle.share_plan.specs.Theorems.{FileServes, Writable, FileExactly, FileInEdition1, ShortInEdition, AnswerFirst, AnswerRoom, TextOne, Proved}
use Rattle.share_plan.proofs.Laws.{planned_so, file_fits}

-- a built plan is accepted by the checker, in edition 1
serves : (terms : Terms) (ps : List ℕ) → build_of terms ps longest ≡ Ok (frame ps) → check_of (granules terms.granule) (harmonic_plan (wanted terms ps) ps) ps ≡ (Ok tt)
serves terms ps e =
    let out : List ℕ = replicate longest 0 in
    let s = built_serves terms ps out _ (frame ps) (rw (length-replicate {A = ℕ} longest 0) (sym e), refl) in
    rw (take_at (harmonic_plan (wanted terms ps) ps) (drop (frame ps) out) (frame ps) (listed-length (planned (wanted terms ps) ps (partitions ps)) (frame ps))) at s

-- the same of any frame that is answered
pub built_accepted : (terms : Terms) (ps : List ℕ) (h : ℕ) → build_of terms ps longest ≡ Ok h → check_of (granules terms.granule) (harmonic_plan (wanted terms ps) ps) ps ≡ (Ok tt)
built_accepted terms ps h e = serves terms ps (rw (laid terms ps longest h e).is_frame at e)

file_serves : FileServes
unfolding plan_file
file_serves terms ps ts room n e =
    let k = planned_so terms ps ts room n e in
    let out : List ℕ = replicate room 0 in
    let w : write_of terms.edition (frame ps) ps ts (plan_runs terms ps) (length out) ≡ Ok n = rw (length-replicate {A = ℕ} room 0) k.written in
    let r = rw (left-file terms.edition (frame ps) ps ts (plan_runs terms ps) out n w) at (read_written terms.edition (frame ps) ps ts (plan_runs terms ps) out n w) in
    let back : ticks_of (file.table_of (file_of terms.edition (frame ps) ps ts (plan_runs terms ps)) body.Runs) ≡ harmonic_plan (wanted terms ps) ps = rw r.3 (ticks_back (harmonic_plan (wanted terms ps) ps)) in
    let s = k.serves in
    (sym (file_fits terms ps ts room n e).0, r.0, r.1, r.2, back, rw (back, r.1) s, rw (back, r.1) (accepted_without terms (harmonic_plan (wanted terms ps) ps) ps s))

-- ---- when a file comes out

-- the writer takes every plan of the builder
good-file : (terms : Terms) (ps ts : List ℕ) → GoodTables terms longest ps ts → build_of terms ps longest ≡ Ok (frame ps) → GoodFile terms.edition (frame ps) ps ts (plan_runs terms ps)
good-file terms ps ts g b =
    let w = harmonic_plan_good (wanted terms ps) ps (counted-few ps ts g).0 g.parts in
    let s = (check_serves (granules terms.granule) (harmonic_plan (wanted terms ps) ps) ps).0 (serves terms ps b) in
    let n : length (harmonic_plan (wanted terms ps) ps) ≡ frame ps = w.0 in
    let r = (ticks.proved).runs_good (partitions ps) (harmonic_plan (wanted terms ps) ps) (rw n w.1) (rw n w.2) s.1 in
    record {
      tables = with_granule_1 (other-frame longest (frame ps) ps ts g w.1 w.2 w.3);
      counted = r.0;
      runs = rw n at r.1;
    }

-- the tables are good, and the ticks enough: then a plan is built
built_so : (terms : Terms) (ps ts : List ℕ) (room n : ℕ) → Writable terms ps ts room n → build_of terms ps longest ≡ Ok (frame ps)
built_so terms ps ts room n (g, h, l, e, m) =
    let f = harmonic_plan_good (wanted terms ps) ps (counted-few ps ts g).0 g.parts in
    filling_as _ _ ((frame_exactly terms ps longest (frame ps)).1 (without_tasks longest ps ts g, h, l, refl, f.2))

only_then : (terms : Terms) (ps ts : List ℕ) (room n : ℕ) → write_plan_of terms ps ts room ≡ Ok n → Writable terms ps ts room n × (check_of terms (harmonic_plan (wanted terms ps) ps) ps ≡ (Ok tt))
only_then terms ps ts room n e =
    let k = planned_so terms ps ts room n e in
    let b = (frame_exactly terms ps longest (frame ps)).0 (ap told_count k.built) in
    let w = fit n terms.edition (frame ps) ps ts (plan_runs terms ps) room k.written in
    ((k.good, b.1, b.2, w.is_size, rw w.is_size w.room_left), k.serves)

then_so : (terms : Terms) (ps ts : List ℕ) (room n : ℕ) → Writable terms ps ts room n → check_of terms (harmonic_plan (wanted terms ps) ps) ps ≡ (Ok tt) → write_plan_of terms ps ts room ≡ Ok n
unfolding write_plan_of write_built_of
then_so terms ps ts room n q c =
    let b = built_so terms ps ts room n q in
    let w = write-all terms.edition (frame ps) ps ts (plan_runs terms ps) room (of_good terms.edition (frame ps) ps ts (plan_runs terms ps) (good-file terms ps ts q.0 b)) n q.3 q.4 in
    unless_good_lem terms longest ps ts Err _ q.0 ∙ rw (b, c) (sym w)

file_exactly : FileExactly
file_exactly terms ps ts room n = (
  λ e. let a = only_then terms ps ts room n e in (a.0, ((check_serves terms (harmonic_plan (wanted terms ps) ps) ps).0 a.1).2),
  λ a. let b = built_so terms ps ts room n a.0 in
      let f = harmonic_plan_good (wanted terms ps) ps (counted-few ps ts a.0.0).0 a.0.0.parts in
      let s = (check_serves (granules terms.granule) (harmonic_plan (wanted terms ps) ps) ps).0 (serves terms ps b) in
      let g = without_tasks (frame ps) ps ts (other-frame longest (frame ps) ps ts a.0.0 f.1 f.2 f.3) in
      then_so terms ps ts room n a.0 ((check_serves terms (harmonic_plan (wanted terms ps) ps) ps).1 (rw f.0 g, s.1, a.1)),
)

file_in_edition_1 : FileInEdition1
file_in_edition_1 g ps ts room n = (
  λ e. (only_then (granules g) ps ts room n e).0,
  λ a. then_so (granules g) ps ts room n a (serves (granules g) ps (built_so (granules g) ps ts room n a)),
)

-- ---- 9 says what is short

-- of all refusals of a planner only the checker's is 9
abbrev NotNine : Result ℕ Refusal → Type 0
NotNine a = ¬ ((told_count a).number ≡ 9)

build_not_9 : (terms : Terms) (ps : List ℕ) → NotNine (build_of terms ps longest)
unfolding build_of laid_of
build_not_9 terms ps =
    unless-parts_hold terms longest ps NotNine Err _ (λ i q. absurd (omega arith)) (λ q. absurd (omega arith)) (λ g q. absurd (omega arith)) (λ k q. absurd (omega arith))
    (in_order (unharmonic ps) (ltb (frame ps) (all_wanted (wanted terms ps) ps (frame ps))) (ltb longest (frame ps)))
  where
    in_order : (a b c : Bool) → NotNine (pick a (Err Unharmonic) (pick b (Err Want) (pick c (Err Output) (Ok (frame ps)))))
    in_order true b c q = absurd (omega arith)
    in_order false true c q = absurd (omega arith)
    in_order false false true q = absurd (omega arith)
    in_order false false false q = absurd (omega arith)

write-not_9 : (i frame : ℕ) (ps ts rs : List ℕ) (room : ℕ) → NotNine (write_of i frame ps ts rs room)
unfolding write_of
write-not_9 i frame ps ts rs room =
    file_holds i frame ps ts rs NotNine Err _ (λ e q. absurd (omega arith)) (λ q. absurd (omega arith)) (λ k q. absurd (omega arith)) (λ j q. absurd (omega arith)) (λ r q. absurd (omega arith))
    (last (ltb room (size_for ps ts rs)))
  where
    last : (b : Bool) → NotNine (pick b (Err Output) (Ok (size_for ps ts rs)))
    last true q = absurd (omega arith)
    last false q = absurd (omega arith)

abbrev ShortBy : Terms → List ℕ → Refusal → Type 0
ShortBy terms ps r = FallsShort (rule_in terms) (wanted terms ps) (harmonic_plan (wanted terms ps) ps) ps (told r).first (told r).second (told r).third (told r).fourth

short_in_edition : ShortInEdition
unfolding write_plan_of write_built_of
short_in_edition terms ps ts room r e nine = by_tables (unless_cases terms longest ps ts Err (written_by (build_of terms ps longest) terms ps ts room) (Err r) e)
  where
    same : (x : Refusal) → ◌≡◌ {A = Result ℕ Refusal} (Err x) (Err r) → x ≡ r
    same x e = cc

    by_check : (c : Result (Unit {0}) Refusal) → check_of terms (harmonic_plan (wanted terms ps) ps) ps ≡ c → (w : Result ℕ Refusal) → NotNine w → unless Err c w ≡ Err r → ShortBy terms ps r
    by_check (Ok _) f w h e = absurd (h (ap (λ (a : Result ℕ Refusal). (told_count a).number) e ∙ nine))
    by_check (Err x) f w h e =
        let z : check_of terms (harmonic_plan (wanted terms ps) ps) ps ≡ Err r = f ∙ ap Err (same x e) in
        let n = by_number r 9 (λ q. absurd (omega arith)) nine in
        check_short terms (harmonic_plan (wanted terms ps) ps) ps (told r).first (told r).second (told r).third (told r).fourth (ap told_done (z ∙ ap Err n))

    by_build : (b : Result ℕ Refusal) → NotNine b → written_by b terms ps ts room ≡ Err r → ShortBy terms ps r
    by_build (Ok h) m e = by_check (check_of terms (harmonic_plan (wanted terms ps) ps) ps) refl (write_of terms.edition h ps ts (plan_runs terms ps) room) (write-not_9 terms.edition h ps ts (plan_runs terms ps) room) e
    by_build (Err x) m e = absurd (m (ap (λ (y : Refusal). (told y).number) (same x e) ∙ nine))

    by_tables : (GoodTables terms longest ps ts × (written_by (build_of terms ps longest) terms ps ts room ≡ Err r)) ⊎ ((x : Refusal) × (tables_of terms longest ps ts ≡ Err x) × (◌≡◌ {A = Result ℕ Refusal} (Err x) (Err r))) → ShortBy terms ps r
    by_tables (inl (g, f)) = by_build (build_of terms ps longest) (build_not_9 terms ps) f
    by_tables (inr (x, f, g)) =
        absurd (refusals terms longest ps ts (λ y. ¬ ((told y).number ≡ 9)) (λ i q. absurd (omega arith)) (λ q. absurd (omega arith)) (λ g q. absurd (omega arith)) (λ k q. absurd (omega arith)) (λ j q. absurd (omega arith)) x f
        (ap (λ (y : Refusal). (told y).number) (same x g) ∙ nine))

-- ---- what comes in and goes out

answer_first : AnswerFirst
unfolding answer_of read_text_of
answer_first i t n room h = by_length (le-or-lt (length t) n)
  where
    by_length : (length t ≤ n) ⊎ (n < length t) → answer_of i (take n t) room ≡ answer_of i t room
    by_length (inl l) = rw (take_all n t l)
    by_length (inr l) = rw (length-take-le n t (omega arith), lt-ltb longest_text n h, lt-ltb longest_text (length t) (omega arith))

answer_room : AnswerRoom
unfolding answer_of file_or_line write_plan_of write_built_of
answer_room i t room h = rw (built terms (records_of part_in t) (records_of task_in t) (build_of terms (records_of part_in t) longest))
  where
    terms : Terms
    terms = given i (granule_of t)

    built : (terms : Terms) (ps ts : List ℕ) (b : Result ℕ Refusal) → written_by b terms ps ts room ≡ written_by b terms ps ts longest_file
    built terms ps ts (Ok n) = ap (λ (w : Result ℕ Refusal). unless Err (check_of terms (harmonic_plan (wanted terms ps) ps) ps) w) (write-room terms.edition n ps ts (plan_runs terms ps) room h)
    built terms ps ts (Err x) = refl

-- ---- one outcome

text_one : TextOne
text_one t parts tasks p p' q q' r r' a b =
    let e : r ≡ r' = a.0 ∙ sym b.0 in (
      e,
      a.1 ∙ ap (λ (x : Result Numbers Unread). table_left x (records_of part_in t) parts) e ∙ sym b.1,
      a.2 ∙ ap (λ (x : Result Numbers Unread). table_left x (records_of task_in t) tasks) e ∙ sym b.2,
    )

pub proved : Proved
proved = record {
  file_serves = file_serves;
  file_exactly = file_exactly;
  file_in_edition_1 = file_in_edition_1;
  short_in_edition = short_in_edition;
  answer_first = answer_first;
  answer_room = answer_room;
  one_answer = λ i t out o o' r r' a b. (output.proved).one_put _ _ _ _ _ _ _ a b;
  text_one = text_one;
}
