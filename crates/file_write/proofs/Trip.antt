-- The round trips: reading what was written gives back the tables, and writing what was read gives back the bytes. Assumes nothing.
use Prim.Native.Nat.{ℕ, zero, suc, ◌+◌, ◌-◌, ◌*◌, ◌/◌, ◌≤◌, ◌<◌}
use mathlib.Core.Path.{◌≡◌, sym, ◌∙◌}
use mathlib.Core.List.{List, ◌++◌, append_assoc}
use native.Mathlib.Omega.{arith}
use lib.ListN.{length, get_or, take, drop, length-append}
use lib.Seq.{take_at, drop_at, take_all, length-take-le, get_or-take, get_or-drop, ext_get_or}
use Rattle.rules.specs.Limits.{part_width, task_width, run_width, head_bytes}
use Rattle.rules.specs.Table.{partitions, tasks}
use Rattle.file_codec.specs.Bytes.{nums_of, bytes_of, part, Bytes}
use Rattle.file_tables.specs.Runs.{runs}
use Rattle.file_codec.specs.Contents.{tasks_at, runs_at, size_of, contents}
use Rattle.file_codec.proofs.Bytes.{nums_of_length, nums_of-take, bytes_of-length, bytes_of-append, nums_bytes, bytes_nums}
use Rattle.file_tables.proofs.Chain.{GoodFile, of_good, sizes}
use Rattle.file_read.specs.declared.Contents.{Contents}
use Rattle.file_read.specs.declared.Body.TheVariants.{Partitions, Tasks, Runs}
use Rattle.file_read.specs.Reader.{head_number, table_by, contents_of, read_of, table_of}
use Rattle.file_read.proofs.Reader.{counts_of_lem, contents-right, Contained, contained, accepted, part_length, parts_are, tasks_are, runs_are, read-good}
use Rattle.file_read.proofs.Proved.{parts_all}
use Rattle.std.specs.Prelude.{Ok}
use Rattle.file_write.specs.Writer.{file_of, size_for, write_of, written_left}
use Rattle.file_write.proofs.Writer.{fit, write-all}

-- ---- reading what was written

part_mid : (a m z : List ℕ) (n e : ℕ) → length a ≡ n → length m ≡ e - n → part (a ++ (m ++ z)) n e ≡ m
part_mid a m z n e ea em = rw (drop_at a (m ++ z) n ea, take_at m z (e - n) em)

module _ (ed frame : ℕ) (ps ts rs : List ℕ) where
  head : List ℕ
  head = bytes_of (contents ed frame (length ps) (length ts) (length rs))

  head_16 : length head ≡ 16
  unfolding head
  head_16 = bytes_of-length (contents ed frame (length ps) (length ts) (length rs))

  pub file-length : length (file_of ed frame ps ts rs) ≡ size_for ps ts rs
  unfolding file_of head
  file-length =
      let bp = bytes_of-length ps in
      let bt = bytes_of-length ts in
      let br = bytes_of-length rs in
      let h = head_16 in
      simp length-append (omega arith)

  file_nums : nums_of (file_of ed frame ps ts rs) ≡ contents ed frame (length ps) (length ts) (length rs) ++ ps ++ ts ++ rs
  unfolding file_of
  file_nums =
      let ns : List ℕ = contents ed frame (length ps) (length ts) (length rs) in
      rw (← bytes_of-append ns ps, ← bytes_of-append (ns ++ ps) ts, ← bytes_of-append (ns ++ ps ++ ts) rs) (nums_bytes _)

  -- the bodies of the file, where the contents give as many numbers as the tables have
  module _ (c : Contents) (ep : part_width * c.partitions ≡ length ps) (et : task_width * c.tasks ≡ length ts) (er : run_width * c.runs ≡ length rs) where
    file-parts : table_by (Ok c) (file_of ed frame ps ts rs) Partitions ≡ ps
    unfolding table_by file_of head
    file-parts =
        let bp = bytes_of-length ps in
        rw (ep, append_assoc (head ++ bytes_of ps) (bytes_of ts) (bytes_of rs), append_assoc head (bytes_of ps) (bytes_of ts ++ bytes_of rs), part_mid head (bytes_of ps) (bytes_of ts ++ bytes_of rs) 16 (tasks_at (length ps)) head_16 (omega arith)) (nums_bytes ps)

    file-tasks : table_by (Ok c) (file_of ed frame ps ts rs) Tasks ≡ ts
    unfolding table_by file_of head
    file-tasks =
        let bp = bytes_of-length ps in
        let bt = bytes_of-length ts in
        let h = head_16 in
        let l : length (head ++ bytes_of ps) ≡ tasks_at (length ps) = rw (length-append head (bytes_of ps)) (omega arith) in
        rw (ep, et, append_assoc (head ++ bytes_of ps) (bytes_of ts) (bytes_of rs), part_mid (head ++ bytes_of ps) (bytes_of ts) (bytes_of rs) (tasks_at (length ps)) (runs_at (length ps) (length ts)) l (omega arith)) (nums_bytes ts)

    file-runs : table_by (Ok c) (file_of ed frame ps ts rs) Runs ≡ rs
    unfolding table_by file_of head
    file-runs =
        let bp = bytes_of-length ps in
        let bt = bytes_of-length ts in
        let br = bytes_of-length rs in
        let h = head_16 in
        let l : length (head ++ bytes_of ps ++ bytes_of ts) ≡ runs_at (length ps) (length ts) = simp length-append (omega arith) in
        rw (ep, et, er, drop_at (head ++ bytes_of ps ++ bytes_of ts) (bytes_of rs) (runs_at (length ps) (length ts)) l, take_all (size_for ps ts rs - runs_at (length ps) (length ts)) (bytes_of rs) (omega arith)) (nums_bytes rs)

  -- what the contents say
  abbrev said : Contents
  said = record { edition = ed; frame = frame; partitions = partitions ps; tasks = tasks ts; runs = runs rs }

  module _ (g : GoodFile ed frame ps ts rs) where
    np : part_width * partitions ps ≡ length ps
    np = sym (sizes ed frame ps ts rs g).parts_whole

    nt : task_width * tasks ts ≡ length ts
    nt = sym (sizes ed frame ps ts rs g).tasks_whole

    nr : run_width * runs rs ≡ length rs
    nr = sym (sizes ed frame ps ts rs g).runs_whole

    file-contents : contents_of (file_of ed frame ps ts rs) ≡ Ok said
    file-contents =
        let n = file-length in
        let w : (k : ℕ) → head_number (file_of ed frame ps ts rs) k ≡ get_or (contents ed frame (length ps) (length ts) (length rs) ++ ps ++ ts ++ rs) k 0 = λ k. rw file_nums in
        contents-right (file_of ed frame ps ts rs) said (record {
          long = rw (np, nt, nr) n;
          edition = w 0;
          is_frame = w 1;
          parts_at = w 2;
          is_np = w 3;
          tasks_at_lem = rw np (w 4);
          is_nt = w 5;
          runs_at_lem = rw (np, nt) (w 6);
          is_nr = w 7;
          counts = counts_of_lem frame (partitions ps) (tasks ts) (runs rs) (rw (np, nt) g.tables.limits) (rw nr g.counted);
        }) g.tables.edition

    file-read : read_of (file_of ed frame ps ts rs) ≡ Ok said
    file-read =
        read-good (file_of ed frame ps ts rs) said file-contents
        (rw (file-parts said np nt nr, file-tasks said np nt nr, file-runs said np nt nr) g)

    file-tables : (table_of (file_of ed frame ps ts rs) Partitions ≡ ps) × (table_of (file_of ed frame ps ts rs) Tasks ≡ ts) × (table_of (file_of ed frame ps ts rs) Runs ≡ rs)
    file-tables = (
      rw file-read (file-parts said np nt nr),
      rw file-read (file-tasks said np nt nr),
      rw file-read (file-runs said np nt nr),
    )

-- the file that the writer left
pub left-file : (ed frame : ℕ) (ps ts rs out : List ℕ) (n : ℕ) → write_of ed frame ps ts rs (length out) ≡ Ok n → take n (written_left ed frame ps ts rs out) ≡ file_of ed frame ps ts rs
left-file ed frame ps ts rs out n e = rw e (take_at (file_of ed frame ps ts rs) (drop n out) n (file-length ed frame ps ts rs ∙ sym (fit n ed frame ps ts rs (length out) e).is_size))

pub left-rest : (ed frame : ℕ) (ps ts rs out : List ℕ) (n : ℕ) → write_of ed frame ps ts rs (length out) ≡ Ok n → drop n (written_left ed frame ps ts rs out) ≡ drop n out
left-rest ed frame ps ts rs out n e = rw e (drop_at (file_of ed frame ps ts rs) (drop n out) n (file-length ed frame ps ts rs ∙ sym (fit n ed frame ps ts rs (length out) e).is_size))

pub read_written : (ed frame : ℕ) (ps ts rs out : List ℕ) (n : ℕ) → write_of ed frame ps ts rs (length out) ≡ Ok n
    → (read_of (take n (written_left ed frame ps ts rs out)) ≡ Ok (said ed frame ps ts rs))
    × (table_of (take n (written_left ed frame ps ts rs out)) Partitions ≡ ps)
    × (table_of (take n (written_left ed frame ps ts rs out)) Tasks ≡ ts)
    × (table_of (take n (written_left ed frame ps ts rs out)) Runs ≡ rs)
read_written ed frame ps ts rs out n e =
    let f = fit n ed frame ps ts rs (length out) e in
    let t = file-tables ed frame ps ts rs f.good in
    rw (left-file ed frame ps ts rs out n e) (file-read ed frame ps ts rs f.good, t.0, t.1, t.2)

-- ---- writing what was read

cases_8 : (P : ℕ → Type 0) → P 0 → P 1 → P 2 → P 3 → P 4 → P 5 → P 6 → P 7 → (k : ℕ) → k < 8 → P k
cases_8 P a b c d e f g h zero l = a
cases_8 P a b c d e f g h (suc zero) l = b
cases_8 P a b c d e f g h (suc (suc zero)) l = c
cases_8 P a b c d e f g h (suc (suc (suc zero))) l = d
cases_8 P a b c d e f g h (suc (suc (suc (suc zero)))) l = e
cases_8 P a b c d e f g h (suc (suc (suc (suc (suc zero))))) l = f
cases_8 P a b c d e f g h (suc (suc (suc (suc (suc (suc zero)))))) l = g
cases_8 P a b c d e f g h (suc (suc (suc (suc (suc (suc (suc zero))))))) l = h
cases_8 P a b c d e f g h (suc (suc (suc (suc (suc (suc (suc (suc k)))))))) l = absurd (omega arith)

head_numbers : (b : List ℕ) (c : Contents) → Contained b c → nums_of (take 16 b) ≡ contents c.edition c.frame (3 * c.partitions) (4 * c.tasks) (2 * c.runs)
head_numbers b c a =
    let l : 16 ≤ length b = omega (arith, a.long) in
    let n : length (take 16 b) ≡ 16 = length-take-le 16 b l in
    let m : length (nums_of (take 16 b)) ≡ 8 = omega (arith, nums_of_length (take 16 b)) in
    let w : (k : ℕ) → k < 8 → get_or (nums_of (take 16 b)) k 0 ≡ head_number b k = λ k h. nums_of-take b 16 k l (omega arith) in
    let qp : c.partitions ≡ 3 * c.partitions / 3 = omega arith in
    let qt : c.tasks ≡ 4 * c.tasks / 4 = omega arith in
    let qr : c.runs ≡ 2 * c.runs / 2 = omega arith in
    ext_get_or 0 (nums_of (take 16 b)) (contents c.edition c.frame (3 * c.partitions) (4 * c.tasks) (2 * c.runs)) m
    (λ k h. cases_8 (λ k. get_or (nums_of (take 16 b)) k 0 ≡ get_or (contents c.edition c.frame (3 * c.partitions) (4 * c.tasks) (2 * c.runs)) k 0)
    (w 0 (omega arith) ∙ a.edition) (w 1 (omega arith) ∙ a.is_frame) (w 2 (omega arith) ∙ a.parts_at) (w 3 (omega arith) ∙ a.is_np ∙ qp)
    (w 4 (omega arith) ∙ a.tasks_at_lem) (w 5 (omega arith) ∙ a.is_nt ∙ qt) (w 6 (omega arith) ∙ a.runs_at_lem) (w 7 (omega arith) ∙ a.is_nr ∙ qr) k (omega arith))

Bytes-take : (n : ℕ) (b : List ℕ) → n ≤ length b → Bytes b → Bytes (take n b)
unfolding Bytes
Bytes-take n b l h k lt =
    let m : length (take n b) ≡ n = length-take-le n b l in
    rw (get_or-take n b k 0 (omega arith)) (h k (omega arith))

Bytes-part : (b : List ℕ) (n e : ℕ) → n ≤ e → e ≤ length b → Bytes b → Bytes (part b n e)
unfolding Bytes
Bytes-part b n e l1 l2 h k lt =
    let m : length (part b n e) ≡ e - n = part_length b n e l1 l2 in
    rw (get_or-take (e - n) (drop n b) k 0 (omega arith), get_or-drop n b k 0) (h (n + k) (omega arith))

-- a part of 2·n bytes is what its numbers are written as
part-back : (b : List ℕ) (a n e : ℕ) → e ≡ a + 2 * n → e ≤ length b → Bytes b → bytes_of (nums_of (part b a e)) ≡ part b a e
part-back b a n e q l small =
    let m : length (part b a e) ≡ e - a = part_length b a e (omega arith) l in
    bytes_nums (part b a e) (omega arith) (Bytes-part b a e (omega arith) l small)

module _ (b : List ℕ) (c : Contents) (e : read_of b ≡ Ok c) where
  a : Contained b c
  a = contained b c (accepted b c e).contents

  ps : List ℕ
  ps = table_by (Ok c) b Partitions

  ts : List ℕ
  ts = table_by (Ok c) b Tasks

  rs : List ℕ
  rs = table_by (Ok c) b Runs

  lp : length ps ≡ part_width * c.partitions
  unfolding ps
  lp = parts_are b c a.long

  lt : length ts ≡ task_width * c.tasks
  unfolding ts
  lt = tasks_are b c a.long

  lr : length rs ≡ run_width * c.runs
  unfolding rs
  lr = runs_are b c a.long

  whole-file : Bytes b → file_of c.edition c.frame ps ts rs ≡ b
  unfolding file_of ps ts rs table_by
  whole-file small =
      let l = a.long in
      let n : length (take 16 b) ≡ 16 = length-take-le 16 b (omega arith) in
      let eh : bytes_of (nums_of (take 16 b)) ≡ take 16 b = bytes_nums (take 16 b) (omega arith) (Bytes-take 16 b (omega arith) small) in
      let ep = part-back b head_bytes (3 * c.partitions) (tasks_at (3 * c.partitions)) (omega arith) (omega arith) small in
      let et = part-back b (tasks_at (3 * c.partitions)) (4 * c.tasks) (runs_at (3 * c.partitions) (4 * c.tasks)) (omega arith) (omega arith) small in
      let er = part-back b (runs_at (3 * c.partitions) (4 * c.tasks)) (2 * c.runs) (size_of (3 * c.partitions) (4 * c.tasks) (2 * c.runs)) (omega arith) (omega arith) small in
      rw (lp, lt, lr, ← head_numbers b c a, eh, ep, et, er) (parts_all b (3 * c.partitions) (4 * c.tasks) (2 * c.runs) l)

  written_back : (room : ℕ) → length b ≤ room → write_of c.edition c.frame ps ts rs room ≡ Ok (length b)
  unfolding ps ts rs
  written_back room l =
      let n = a.long in
      let z : length b ≡ size_for ps ts rs = rw (lp, lt, lr) n in
      sym (write-all c.edition c.frame ps ts rs room (of_good c.edition c.frame ps ts rs (accepted b c e).good) (length b) z l)

pub write-back : (b : List ℕ) (c : Contents) (out : List ℕ) → Bytes b → read_of b ≡ Ok c → length b ≤ length out
    → (write_of c.edition c.frame (table_of b Partitions) (table_of b Tasks) (table_of b Runs) (length out) ≡ Ok (length b))
    × (written_left c.edition c.frame (table_of b Partitions) (table_of b Tasks) (table_of b Runs) out ≡ b ++ drop (length b) out)
unfolding ps ts rs
write-back b c out small e l =
    let w : write_of c.edition c.frame (table_of b Partitions) (table_of b Tasks) (table_of b Runs) (length out) ≡ Ok (length b) = rw e (written_back b c e (length out) l) in
    (w, rw (w, e, whole-file b c e small))
