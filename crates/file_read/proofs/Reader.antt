-- The order of the reader's refusals at the numbers that the code holds, what contents that are right say, what an accepted file is, and one too long for any. Assumes nothing.
use Prim.Native.Nat.{ℕ, ◌+◌, ◌-◌, ◌*◌, ◌/◌, ◌≤◌, ◌<◌, min}
use mathlib.Core.Path.{◌≡◌, refl, ap, subst}
use mathlib.Core.List.{List}
use mathlib.Core.Bool.{Bool, true, false, ◌&&◌, not}
use native.Mathlib.Omega.{arith}
use lib.ListN.{length, take, drop, length-drop}
use lib.Seq.{length-take-le, take_at, take_all}
use lib.Dec.{ltb, eqb}
use borrow.Author.Tests.{le-ltb, eq-eqb, ne_eqb, eqb-true, not-false}
use Rattle.rules.specs.Limits.{longest, most_partitions, most_tasks, part_width, task_width, run_width, head_bytes, number_bytes, longest_file}
use Rattle.rules.specs.Walk.{pick}
use Rattle.rules.specs.Terms.{good_edition}
use Rattle.tables.specs.Tables.{within_limits}
use Rattle.std.specs.Prelude.{Result, Ok, Err, IfOk}
use Rattle.rules.specs.declared.Refusal.{Refusal}
use Rattle.rules.specs.declared.Refusal.TheVariants.{Short, Edition, Limits, Offset, Length}
use Rattle.rules.proofs.Tests.{pick_second, and_parts}
use Rattle.tables.proofs.Chain.{within}
use Rattle.file_codec.specs.Bytes.{nums_of, part}
use Rattle.file_tables.specs.Inner.{runs_counted}
use Rattle.file_codec.specs.Inner.{over}
use Rattle.file_codec.specs.Contents.{tasks_at, runs_at, size_of}
use Rattle.file_codec.proofs.Bytes.{nums_of_length, nums_of-take}
use Rattle.file_tables.proofs.Chain.{GoodFile, counted-runs, of_good, follows}
use Rattle.file_read.specs.declared.Contents.{Contents}
use Rattle.file_read.specs.declared.Body.{Body}
use Rattle.file_read.specs.declared.Body.TheVariants.{Partitions, Tasks, Runs}
use Rattle.file_read.specs.declared.Stretch.{Stretch}
use Rattle.file_read.specs.Reader.{body_of, body_at, table_by, counts_of, head_number, contents_of, judged_by, read_of}
use Rattle.file_read.specs.Inner.{Few, counts_right, offsets_right, start_of, end_of, Inside, front, loaded_by}

-- what holds of 1 to 5 and of all contents holds of what is read of them
pub contents_hold : (b : List ℕ) (P : Result Contents Refusal → Type 0) → P (Err Short) → P (Err Edition) → P (Err Limits) → P (Err Offset) → P (Err Length)
    → ((c : Contents) → P (Ok c)) → P (contents_of b)
unfolding contents_of counts_of
contents_hold b P one two three four five h =
    at (ltb (length b) head_bytes) (not (good_edition (head_number b 0))) (not (counts_right (head_number b 1) (head_number b 3) (head_number b 5) (head_number b 7)))
    (not (offsets_right (head_number b 2) (head_number b 4) (head_number b 6) (head_number b 3) (head_number b 5)))
    (not (eqb (length b) (size_of (part_width * head_number b 3) (task_width * head_number b 5) (run_width * head_number b 7))))
  where
    at : (a e c o l : Bool)
        → P (pick a (Err Short) (pick e (Err Edition) (pick c (Err Limits) (pick o (Err Offset) (pick l (Err Length) (Ok (record { edition = head_number b 0; frame = head_number b 1; partitions = head_number b 3; tasks = head_number b 5; runs = head_number b 7 })))))))
    at true e c o l = one
    at false true c o l = two
    at false false true o l = three
    at false false false true l = four
    at false false false false true = five
    at false false false false false = h _

-- ---- contents that are right

pub record Contained (b : List ℕ) (c : Contents) : Type 0 where
  pub long : length b ≡ size_of (part_width * c.partitions) (task_width * c.tasks) (run_width * c.runs)
  pub edition : head_number b 0 ≡ c.edition
  pub is_frame : head_number b 1 ≡ c.frame
  pub parts_at : head_number b 2 ≡ head_bytes
  pub is_np : head_number b 3 ≡ c.partitions
  pub tasks_at_lem : head_number b 4 ≡ tasks_at (part_width * c.partitions)
  pub is_nt : head_number b 5 ≡ c.tasks
  pub runs_at_lem : head_number b 6 ≡ runs_at (part_width * c.partitions) (task_width * c.tasks)
  pub is_nr : head_number b 7 ≡ c.runs
  pub counts : counts_right c.frame c.partitions c.tasks c.runs ≡ true

none : (c : Contents) (x : Refusal) → ¬ (Err x ≡ Ok c)
none c x e = let z : ◌≡◌ {A = ℕ} 0 1 = cc in absurd (omega arith)

placed : (po to ro np nt : ℕ) → offsets_right po to ro np nt ≡ true → (po ≡ head_bytes) × (to ≡ tasks_at (part_width * np)) × (ro ≡ runs_at (part_width * np) (task_width * nt))
placed po to ro np nt e =
    let e2 = and_parts (eqb po head_bytes && eqb to (tasks_at (part_width * np))) (eqb ro (runs_at (part_width * np) (task_width * nt))) e in
    let e1 = and_parts (eqb po head_bytes) (eqb to (tasks_at (part_width * np))) e2.0 in
    (eqb-true _ _ e1.0, eqb-true _ _ e1.1, eqb-true _ _ e2.1)

pub right : (np nt : ℕ) → offsets_right head_bytes (tasks_at (part_width * np)) (runs_at (part_width * np) (task_width * nt)) np nt ≡ true
right np nt = rw (eq-eqb (tasks_at (part_width * np)) (tasks_at (part_width * np)) refl, eq-eqb (runs_at (part_width * np) (task_width * nt)) (runs_at (part_width * np) (task_width * nt)) refl)

counts_inv : (c : Contents) (e long frame po np to nt ro nr : ℕ) → counts_of e long frame po np to nt ro nr ≡ Ok c
    → (counts_right frame np nt nr ≡ true) × (offsets_right po to ro np nt ≡ true) × (long ≡ size_of (part_width * np) (task_width * nt) (run_width * nr))
    × (record { edition = e; frame = frame; partitions = np; tasks = nt; runs = nr } ≡ c)
unfolding counts_of
counts_inv c e long frame po np to nt ro nr q =
    let z : Result Contents Refusal = Ok c in
    let e1 = pick_second (not (counts_right frame np nt nr)) _ _ z (none c Limits) q in
    let e2 = pick_second (not (offsets_right po to ro np nt)) _ _ z (none c Offset) e1.1 in
    let e3 = pick_second (not (eqb long (size_of (part_width * np) (task_width * nt) (run_width * nr)))) _ _ z (none c Length) e2.1 in
    (not-false _ e1.0, not-false _ e2.0, eqb-true _ _ (not-false _ e3.0), cc e3.1)

pub contained : (b : List ℕ) (c : Contents) → contents_of b ≡ Ok c → Contained b c
unfolding contents_of
contained b c e =
    let z : Result Contents Refusal = Ok c in
    let e1 = pick_second (ltb (length b) head_bytes) _ _ z (none c Short) e in
    let e2 = pick_second (not (good_edition (head_number b 0))) _ _ z (none c Edition) e1.1 in
    let e3 = counts_inv c (head_number b 0) (length b) (head_number b 1) (head_number b 2) (head_number b 3) (head_number b 4) (head_number b 5) (head_number b 6) (head_number b 7) e2.1 in
    let at = placed (head_number b 2) (head_number b 4) (head_number b 6) (head_number b 3) (head_number b 5) e3.1 in
    let d : Contents = record { edition = head_number b 0; frame = head_number b 1; partitions = head_number b 3; tasks = head_number b 5; runs = head_number b 7 } in
    let all : Contained b d = record {
      long = e3.2;
      edition = refl;
      is_frame = refl;
      parts_at = at.0;
      is_np = refl;
      tasks_at_lem = at.1;
      is_nt = refl;
      runs_at_lem = at.2;
      is_nr = refl;
      counts = e3.0;
    } in
    subst (Contained b) e3.3 all

-- a file that has what its contents say is read so
pub contents-right : (b : List ℕ) (c : Contents) → Contained b c → good_edition c.edition ≡ true → contents_of b ≡ Ok c
unfolding contents_of counts_of
contents-right b c a g =
    let l : head_bytes ≤ length b = omega (arith, a.long) in
    rw (
      le-ltb (length b) head_bytes l,
      a.edition,
      a.is_frame,
      a.parts_at,
      a.is_np,
      a.tasks_at_lem,
      a.is_nt,
      a.runs_at_lem,
      a.is_nr,
      g,
      a.counts,
      right c.partitions c.tasks,
      eq-eqb (length b) (size_of (part_width * c.partitions) (task_width * c.tasks) (run_width * c.runs)) a.long,
    ) refl

pub counts_of_lem : (frame np nt nr : ℕ) → within_limits frame (part_width * np) (task_width * nt) ≡ true → runs_counted (run_width * nr) ≡ true → counts_right frame np nt nr ≡ true
counts_of_lem frame np nt nr w c = rw (w, c)

counts-few : (c : Contents) → counts_right c.frame c.partitions c.tasks c.runs ≡ true → Few c
counts-few c e =
    let a = and_parts (within_limits c.frame (part_width * c.partitions) (task_width * c.tasks)) (runs_counted (run_width * c.runs)) e in
    let w = within c.frame (part_width * c.partitions) (task_width * c.tasks) a.0 in
    let r = counted-runs (run_width * c.runs) a.1 in
    (w.longest_frame, omega (arith, w.few_parts), omega (arith, w.few_tasks), omega (arith, r.2))

module _ (b : List ℕ) (c : Contents) (e : contents_of b ≡ Ok c) where
  pub few : Few c
  few = counts-few c (contained b c e).counts

  pub inside : (which : Body) → Inside b c which
  inside Partitions = let l = (contained b c e).long in record { in_order = omega arith; in_file = omega arith }
  inside Tasks = let l = (contained b c e).long in record { in_order = omega arith; in_file = omega arith }
  inside Runs = let l = (contained b c e).long in record { in_order = omega arith; in_file = omega arith }

-- ---- the tables

pub part_length : (b : List ℕ) (a e : ℕ) → a ≤ e → e ≤ length b → length (part b a e) ≡ e - a
part_length b a e h l = length-take-le (e - a) (drop a b) (rw (length-drop a b) (omega arith))

-- how many numbers a part of 2·n bytes holds
part_nums : (b : List ℕ) (a n e : ℕ) → e ≡ a + 2 * n → e ≤ length b → length (nums_of (part b a e)) ≡ n
part_nums b a n e q l = let m : length (part b a e) ≡ e - a = part_length b a e (omega arith) l in omega (arith, nums_of_length (part b a e))

module _ (b : List ℕ) (c : Contents) (long : length b ≡ size_of (part_width * c.partitions) (task_width * c.tasks) (run_width * c.runs)) where
  pub parts_are : length (table_by (Ok c) b Partitions) ≡ part_width * c.partitions
  unfolding table_by
  parts_are = part_nums b head_bytes (part_width * c.partitions) (tasks_at (part_width * c.partitions)) (omega arith) (omega arith)

  pub tasks_are : length (table_by (Ok c) b Tasks) ≡ task_width * c.tasks
  unfolding table_by
  tasks_are = part_nums b (tasks_at (part_width * c.partitions)) (task_width * c.tasks) (runs_at (part_width * c.partitions) (task_width * c.tasks)) (omega arith) (omega arith)

  pub runs_are : length (table_by (Ok c) b Runs) ≡ run_width * c.runs
  unfolding table_by
  runs_are = part_nums b (runs_at (part_width * c.partitions) (task_width * c.tasks)) (run_width * c.runs) (size_of (part_width * c.partitions) (task_width * c.tasks) (run_width * c.runs)) (omega arith) (omega arith)

-- a body loaded
loaded : (body t o : List ℕ) → o ≡ over (nums_of body) (min (length t) (length body / number_bytes)) t → o ≡ front (nums_of body) t
loaded body t o e = rw (nums_of_length body) e

pub loaded_body : (b : List ℕ) (c : Contents) (which : Body) (s : Stretch) (t o : List ℕ) → s ≡ body_of c which
    → o ≡ over (nums_of (part b s.offset s.end)) (min (length t) (length (part b s.offset s.end) / number_bytes)) t
    → o ≡ front (table_by (Ok c) b which) t
unfolding table_by
loaded_body b c which s t o e h =
    let ea : s.offset ≡ start_of c which = ap (λ (x : Stretch). x.offset) e in
    let eb : s.end ≡ end_of c which = ap (λ (x : Stretch). x.end) e in
    rw (← ea, ← eb) (loaded (part b s.offset s.end) t o h)

-- of a file without contents there is none
pub none_loaded : (b : List ℕ) (x : Refusal) (which : Body) (t : List ℕ) → t ≡ front (table_by (Err x) b which) t
unfolding table_by nums_of
none_loaded b x which t = let m : min (length t) 0 ≡ 0 = omega arith in rw m refl

-- the first n of a table that has room for a body of n numbers
pub loaded_front : (s t o : List ℕ) (n : ℕ) → length s ≡ n → n ≤ length t → o ≡ front s t → take n o ≡ s
loaded_front s t o n l h e =
    let m : min (length t) (length s) ≡ n = omega arith in
    rw (e, m, take_all n s (omega arith), take_at s (drop n t) n l)

-- what is judged of the loaded tables is what is read
module _ (b ps ts rs p t r : List ℕ) (lp : length ps ≡ part_width * most_partitions) (lt : length ts ≡ task_width * most_tasks) (lr : length rs ≡ run_width * longest)
    (c : Contents) (e : contents_of b ≡ Ok c)
    (ep : p ≡ front (table_by (Ok c) b Partitions) ps) (et : t ≡ front (table_by (Ok c) b Tasks) ts) (er : r ≡ front (table_by (Ok c) b Runs) rs) where
  pub read_loaded : loaded_by c p t r ≡ read_of b
  unfolding read_of
  read_loaded =
      let a = contained b c e in
      let w : Few c = counts-few c a.counts in
      rw (
        e,
        loaded_front (table_by (Ok c) b Partitions) ps p (part_width * c.partitions) (parts_are b c a.long) (omega arith) ep,
        loaded_front (table_by (Ok c) b Tasks) ts t (task_width * c.tasks) (tasks_are b c a.long) (omega arith) et,
        loaded_front (table_by (Ok c) b Runs) rs r (run_width * c.runs) (runs_are b c a.long) (omega arith) er,
      )

-- what is refused by the contents is refused
pub read_refused : (b : List ℕ) (x : Refusal) → contents_of b ≡ Err x → Err x ≡ read_of b
unfolding read_of
read_refused b x e = rw e

-- ---- an accepted file

pub record Accepted (b : List ℕ) (c : Contents) : Type 0 where
  pub contents : contents_of b ≡ Ok c
  pub good : GoodFile c.edition c.frame (table_by (Ok c) b Partitions) (table_by (Ok c) b Tasks) (table_by (Ok c) b Runs)

pub accepted : (b : List ℕ) (c : Contents) → read_of b ≡ Ok c → Accepted b c
unfolding read_of
accepted b c e = step (contents_of b) refl e
  where
    step : (k : Result Contents Refusal) → contents_of b ≡ k → judged_by k b ≡ Ok c → Accepted b c
    step (Err x) h e = absurd (none c x e)
    step (Ok d) h e =
        let g = follows d.edition d.frame (table_by (Ok d) b Partitions) (table_by (Ok d) b Tasks) (table_by (Ok d) b Runs) Err (Ok d) (Ok c) (none c) e in
        let q : d ≡ c = cc g.1 in
        let all : Accepted b d = record { contents = h; good = g.0 } in
        subst (Accepted b) q all

-- contents that are right and good tables are an accepted file
pub read-good : (b : List ℕ) (c : Contents) → contents_of b ≡ Ok c
    → GoodFile c.edition c.frame (table_by (Ok c) b Partitions) (table_by (Ok c) b Tasks) (table_by (Ok c) b Runs)
    → read_of b ≡ Ok c
unfolding read_of
read-good b c e g = rw (e, of_good c.edition c.frame (table_by (Ok c) b Partitions) (table_by (Ok c) b Tasks) (table_by (Ok c) b Runs) g)

pub few-read : (b : List ℕ) → IfOk (read_of b) Few
few-read b = step (read_of b) refl
  where
    step : (k : Result Contents Refusal) → read_of b ≡ k → IfOk k Few
    step (Err x) e = tt
    step (Ok c) e = few b c (accepted b c e).contents

pub inside-read : (b : List ℕ) (which : Body) → ((body_at (read_of b) which).offset ≤ (body_at (read_of b) which).end) × ((body_at (read_of b) which).end ≤ length b)
inside-read b which = step (read_of b) refl
  where
    step : (k : Result Contents Refusal) → read_of b ≡ k → ((body_at k which).offset ≤ (body_at k which).end) × ((body_at k which).end ≤ length b)
    step (Err x) e = (omega arith, omega arith)
    step (Ok c) e = let i = inside b c (accepted b c e).contents which in (i.in_order, i.in_file)

-- ---- a file longer than any that is accepted

pub contents-short : (b : List ℕ) (c : Contents) → contents_of b ≡ Ok c → length b ≤ longest_file
contents-short b c e =
    let a = contained b c e in
    let w : Few c = counts-few c a.counts in
    omega (arith, a.long)

-- no counts within limits give such a length: which length it is doesn't matter
counts-first : (ed m n frame po np to nt ro nr : ℕ) → longest_file < m → longest_file < n → counts_of ed m frame po np to nt ro nr ≡ counts_of ed n frame po np to nt ro nr
unfolding counts_of
counts-first ed m n frame po np to nt ro nr hm hn = step (counts_right frame np nt nr) refl
  where
    step : (b : Bool) → counts_right frame np nt nr ≡ b → counts_of ed m frame po np to nt ro nr ≡ counts_of ed n frame po np to nt ro nr
    step false e = rw e
    step true e =
        let w : Few (record { edition = ed; frame = frame; partitions = np; tasks = nt; runs = nr }) = counts-few (record { edition = ed; frame = frame; partitions = np; tasks = nt; runs = nr }) e in
        let size : ℕ = size_of (part_width * np) (task_width * nt) (run_width * nr) in
        let em : eqb m size ≡ false = ne_eqb m size (λ q. omega arith) in
        let en : eqb n size ≡ false = ne_eqb n size (λ q. omega arith) in
        rw (e, em, en)

pub contents-first : (b : List ℕ) (n : ℕ) → longest_file < n → n ≤ length b → contents_of (take n b) ≡ contents_of b
unfolding contents_of
contents-first b n h l =
    let w : (k : ℕ) → k < 8 → head_number (take n b) k ≡ head_number b k = λ k j. nums_of-take b n k l (omega arith) in
    rw (
      length-take-le n b l,
      le-ltb n head_bytes (omega arith),
      le-ltb (length b) head_bytes (omega arith),
      w 0 (omega arith),
      w 1 (omega arith),
      w 2 (omega arith),
      w 3 (omega arith),
      w 4 (omega arith),
      w 5 (omega arith),
      w 6 (omega arith),
      w 7 (omega arith),
      counts-first (head_number b 0) n (length b) (head_number b 1) (head_number b 2) (head_number b 3) (head_number b 4) (head_number b 5) (head_number b 6) (head_number b 7) h (omega arith),
    )
