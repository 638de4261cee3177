-- Laws of what the planner answers: what stands in the front of a lent table, and what an answer of bytes says. Assumes nothing.
use Prim.Native.Nat.{ℕ, ◌+◌, ◌*◌, ◌≤◌, max}
use mathlib.Core.Path.{◌≡◌, refl, sym, ◌∙◌}
use mathlib.Core.Bool.{Bool, true, false}
use mathlib.Core.List.{List, [], ◌∷◌, ◌++◌}
use native.Mathlib.Omega.{arith}
use lib.ListN.{length, take, drop, length-append}
use lib.Seq.{sets, sets-eq, take_at}
use lib.Dec.{eqb}
use Rattle.rules.specs.Walk.{pick}
use Rattle.rules.specs.Limits.{most_partitions, most_tasks, longest, part_width, task_width, run_width}
use Rattle.rules.specs.Terms.{good_edition, given, wanted}
use Rattle.rules.specs.declared.Terms.{Terms}
use Rattle.std.specs.Prelude.{Result, Ok, Err}
use Rattle.tables.specs.Tables.{unless, GoodTables}
use Rattle.rules.specs.declared.Refusal.{Refusal}
use Rattle.rules.specs.declared.Refusal.TheVariants.{Edition, Limits, Granule, Partition, Task}
use Rattle.rules.proofs.Answers.{no_filling}
use Rattle.tables.proofs.Chain.{unless_given}
use Rattle.theory.specs.Harmonic.{frame, harmonic_plan}
use Rattle.rules.proofs.Named.{listed-length}
use Rattle.plan_check.specs.Check.{check_of}
use Rattle.plan_build.specs.Build.{build_of}
use Rattle.plan_build.proofs.Orders.{laid}
use Rattle.rules.specs.Filling.{left_by}
use Rattle.file_write.specs.Writer.{file_of, write_of}
use Rattle.file_write.proofs.Writer.{fit}
use Rattle.file_write.proofs.Trip.{file-length}
use Rattle.output.specs.Put.{Put}
use Rattle.output.proofs.Put.{put_taken}
use Rattle.file_runs.specs.Ticks.{joined, runs_of, runs_put}
use Rattle.file_runs.proofs.Ticks.{runs-some}
use Rattle.rules.specs.Limits.{longest_line}
use Rattle.output.specs.Refused.{refused_line}
use Rattle.share_text.specs.declared.Numbers.{Numbers}
use Rattle.share_text.specs.declared.Unread.{Unread}
use Rattle.share_text.specs.declared.Unread.TheVariants as unread
use Rattle.share_text.specs.Table.{part_in, task_in, records_of, read_text_of}
use Rattle.share_text.specs.Table as text
use Rattle.share_text.proofs.Order.{fits}
use Rattle.share_plan.specs.Answer.{plan_runs, plan_file, checked_write, written_by, write_built_of, write_plan_of, why_line, file_or_line, answer_by, answer_of}

-- numbers at the start of a table that has room for them
pub front : (s l o : List ℕ) (n : ℕ) → n ≡ length s → n ≤ length l → o ≡ sets l 0 s → (n ≤ length o) × (take n o ≡ s)
front s l o n en h eo = let p : Put l 0 s n o = record { place = omega arith; bytes = eo } in put_taken p h

-- ---- runs

joined_length : (t : ℕ) (rs : List ℕ) → length (joined t rs) ≤ 2 + length rs
unfolding joined
joined_length t [] = omega arith
joined_length t (o ∷ []) = omega arith
joined_length t (o ∷ l ∷ rs) = step (eqb t o)
  where
    step : (b : Bool) → length (pick b (o ∷ (l + 1) ∷ rs) (t ∷ 1 ∷ o ∷ l ∷ rs)) ≤ 2 + length (o ∷ l ∷ rs)
    step true = omega arith
    step false = omega arith

runs-length : (plan : List ℕ) → length (runs_of plan) ≤ 2 * length plan
unfolding runs_of
runs-length [] = omega arith
runs-length (t ∷ plan) = omega (arith, joined_length t (runs_of plan), runs-length plan)

-- the runs of a plan, put into a table for as many as there may be
pub runs_put_lem : (plan l o : List ℕ) (n : ℕ) → length plan ≤ longest → length l ≡ run_width * longest → Put l 0 (runs_put plan) n o → (n ≤ length o) × (take n o ≡ runs_of plan)
runs_put_lem plan l o n h e p =
    let q : Put l 0 (runs_of plan) n o = rw (runs-some plan h) at p in
    let m : n ≡ length (runs_of plan) = omega (arith, q.place) in
    front (runs_of plan) l o n m (omega (arith, runs-length plan)) q.bytes

-- ---- the built plan

-- a plan's ticks in the front of a table
pub record Front (terms : Terms) (ps o : List ℕ) (h : ℕ) : Type 0 where
  pub is_built : build_of terms ps longest ≡ Ok h
  pub is_frame : h ≡ frame ps
  pub low : h ≤ longest
  pub inside : h ≤ length o
  pub is_plan : take h o ≡ harmonic_plan (wanted terms ps) ps

pub built_front : (terms : Terms) (ps l o : List ℕ) (r : Result ℕ Refusal) (h : ℕ) → length l ≡ longest → r ≡ build_of terms ps (length l) → o ≡ left_by r (harmonic_plan (wanted terms ps) ps) l → r ≡ Ok h → Front terms ps o h
built_front terms ps l o r h el er eo e =
    let b : build_of terms ps longest ≡ Ok h = rw el at (sym er ∙ e) in
    let a = laid terms ps longest h b in
    let n : length (harmonic_plan (wanted terms ps) ps) ≡ h = listed-length _ _ ∙ sym a.is_frame in
    let f : o ≡ harmonic_plan (wanted terms ps) ps ++ drop h l = rw e at eo in
    record {
      is_built = b;
      is_frame = a.is_frame;
      low = a.fits;
      inside = rw (f, length-append (harmonic_plan (wanted terms ps) ps) (drop h l), n) (omega arith);
      is_plan = rw f (take_at (harmonic_plan (wanted terms ps) ps) (drop h l) h n);
    }

-- what the writer of a built plan answers and leaves
pub laid_out : {terms : Terms} {ps o : List ℕ} {h : ℕ} (ts out out' : List ℕ) (w : Result ℕ Refusal) → Front terms ps o h → w ≡ checked_write terms h ps ts (take h o) (length out) → out' ≡ left_by w (file_of terms.edition h ps ts (runs_of (take h o))) out
    → (w ≡ write_built_of terms ps ts (length out)) × (out' ≡ left_by w (plan_file terms ps ts) out)
unfolding write_built_of plan_file
laid_out {terms} {ps} {o} {h} ts out out' w f ew eo = (rw (f.is_built, ← f.is_plan) ew, rw (← f.is_plan, ← f.is_frame) eo)

pub not_laid : (terms : Terms) (ps ts : List ℕ) (room : ℕ) (x : Refusal) → build_of terms ps longest ≡ Err x → Err x ≡ write_built_of terms ps ts room
unfolding write_built_of
not_laid terms ps ts room x e = rw e

-- ---- an answer of bytes

-- the tables are good, the plan is built and serves, the writer wrote it
pub record Planned (terms : Terms) (ps ts : List ℕ) (room n : ℕ) : Type 0 where
  pub good : GoodTables terms longest ps ts
  pub built : build_of terms ps longest ≡ Ok (frame ps)
  pub serves : check_of terms (harmonic_plan (wanted terms ps) ps) ps ≡ (Ok tt)
  pub written : write_of terms.edition (frame ps) ps ts (plan_runs terms ps) room ≡ Ok n

accepted : (c : Result (Unit {0}) Refusal) (w : Result ℕ Refusal) (n : ℕ) → unless Err c w ≡ Ok n → (c ≡ (Ok tt)) × (w ≡ Ok n)
accepted (Ok _) w n e = (refl, e)
accepted (Err x) w n e = absurd (no_filling n x e)

pub planned_so : (terms : Terms) (ps ts : List ℕ) (room n : ℕ) → write_plan_of terms ps ts room ≡ Ok n → Planned terms ps ts room n
unfolding write_plan_of write_built_of
planned_so terms ps ts room n e =
    let g = unless_given terms longest ps ts Err (written_by (build_of terms ps longest) terms ps ts room) (Ok n) (λ i. no_filling n Edition) (no_filling n Limits) (λ g. no_filling n Granule) (λ k. no_filling n (Partition k)) (λ j. no_filling n (Task (j + 1))) e in
    building g.0 (build_of terms ps longest) refl g.1
  where
    building : GoodTables terms longest ps ts → (b : Result ℕ Refusal) → build_of terms ps longest ≡ b → written_by b terms ps ts room ≡ Ok n → Planned terms ps ts room n
    building g (Ok h) f w =
        let a = laid terms ps longest h f in
        let c = accepted (check_of terms (harmonic_plan (wanted terms ps) ps) ps) (write_of terms.edition h ps ts (plan_runs terms ps) room) n w in
        record { good = g; built = rw a.is_frame at f; serves = c.0; written = rw a.is_frame at c.1 }
    building g (Err x) f w = absurd (no_filling n x w)

-- how long the file is
pub file_fits : (terms : Terms) (ps ts : List ℕ) (room n : ℕ) → write_plan_of terms ps ts room ≡ Ok n → (n ≡ length (plan_file terms ps ts)) × (n ≤ room)
unfolding plan_file
file_fits terms ps ts room n e =
    let w = fit n terms.edition (frame ps) ps ts (plan_runs terms ps) room (planned_so terms ps ts room n e).written in
    (w.is_size ∙ sym (file-length terms.edition (frame ps) ps ts (plan_runs terms ps)), rw w.is_size w.room_left)

-- the file put into the output, and the line of a refusal
pub file_put : (terms : Terms) (ps ts out o : List ℕ) (w : Result ℕ Refusal) (n : ℕ) → w ≡ write_plan_of terms ps ts (length out) → o ≡ left_by w (plan_file terms ps ts) out → w ≡ Ok n → Put out 0 (file_or_line terms ps ts (length out)) n o × (n ≤ max longest_line (length out))
unfolding file_or_line
file_put terms ps ts out o w n ew eo e =
    let q : write_plan_of terms ps ts (length out) ≡ Ok n = sym ew ∙ e in
    let f = file_fits terms ps ts (length out) n q in
    let s = plan_file terms ps ts in
    let z : 0 + length s ≡ length s = omega arith in
    let g : o ≡ s ++ drop n out = rw e at eo in
    (rw q (record { place = omega (arith, f.0); bytes = g ∙ rw f.0 (sym (sets-eq s out 0 (omega arith) ∙ rw z)) }), omega arith)

pub line_put : (terms : Terms) (ps ts out o : List ℕ) {m : List ℕ} {r : ℕ} (w : Result ℕ Refusal) (x : Refusal) → w ≡ write_plan_of terms ps ts (length out) → o ≡ left_by w (plan_file terms ps ts) out → w ≡ Err x
    → Put o 0 (why_line x) r m → Put out 0 (file_or_line terms ps ts (length out)) r m
unfolding file_or_line
line_put terms ps ts out o w x ew eo e p =
    let q : write_plan_of terms ps ts (length out) ≡ Err x = sym ew ∙ e in
    let z : o ≡ out = rw e at eo in
    rw (q, ← z) p

-- ---- a text's tables

pub parts-front : (t l o : List ℕ) (r : Result Numbers Unread) (a b : ℕ) (n : Numbers) → length l ≡ a → r ≡ read_text_of t a b → o ≡ text.table_left r (records_of part_in t) l → r ≡ Ok n
    → (n.partitions ≤ length o) × (take n.partitions o ≡ records_of part_in t)
parts-front t l o r a b n el er eo e = let f = fits t a b n (sym er ∙ e) in front (records_of part_in t) l o n.partitions f.parts_are (rw el f.parts_fit) (rw e at eo)

pub tasks-front : (t l o : List ℕ) (r : Result Numbers Unread) (a b : ℕ) (n : Numbers) → length l ≡ b → r ≡ read_text_of t a b → o ≡ text.table_left r (records_of task_in t) l → r ≡ Ok n
    → (n.tasks ≤ length o) × (take n.tasks o ≡ records_of task_in t)
tasks-front t l o r a b n el er eo e = let f = fits t a b n (sym er ∙ e) in front (records_of task_in t) l o n.tasks f.tasks_are (rw el f.tasks_fit) (rw e at eo)

-- 2 first of all
pub answer-edition : (i : ℕ) (t out : List ℕ) {o : List ℕ} {n : ℕ} → good_edition i ≡ false → Put out 0 (refused_line Edition) n o → Put out 0 (answer_of i t (length out)) n o
unfolding answer_of
answer-edition i t out e s = rw e s

pub answer-tables : (i : ℕ) → good_edition i ≡ true → (t ps ts out : List ℕ) {o : List ℕ} {k : ℕ} (r : Result Numbers Unread) (n : Numbers) → r ≡ read_text_of t (part_width * most_partitions) (task_width * most_tasks) → r ≡ Ok n → ps ≡ records_of part_in t → ts ≡ records_of task_in t
    → Put out 0 (file_or_line (given i n.granule) ps ts (length out)) k o → Put out 0 (answer_of i t (length out)) k o
unfolding answer_of
answer-tables i h t ps ts out r n er e ep et s =
    rw (h, sym er ∙ e, ← ep, ← et, ← (fits t (part_width * most_partitions) (task_width * most_tasks) n (sym er ∙ e)).granule_is) s

pub answer-unread : (i : ℕ) → good_edition i ≡ true → (t out : List ℕ) {o : List ℕ} {n : ℕ} (r : Result Numbers Unread) (x : Unread) → r ≡ read_text_of t (part_width * most_partitions) (task_width * most_tasks) → r ≡ Err x
    → Put out 0 (answer_by (Err x) []) n o → Put out 0 (answer_of i t (length out)) n o
unfolding answer_of
answer-unread i h t out r (unread.Expected x) er e s = rw (h, sym er ∙ e) s
answer-unread i h t out r (unread.Refused x) er e s = rw (h, sym er ∙ e) s
