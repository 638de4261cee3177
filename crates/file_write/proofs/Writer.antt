-- The order of the writer's refusals at the numbers that the code holds, and what it leaves. Assumes nothing.
use Prim.Native.Nat.{ℕ, ◌*◌, ◌≤◌}
use mathlib.Core.Path.{◌≡◌, refl, ◌∙◌}
use mathlib.Core.List.{List, ◌++◌}
use native.Mathlib.Omega.{arith}
use lib.ListN.{length, take, drop, length-append}
use lib.Dec.{ltb}
use borrow.Author.Tests.{le-ltb, ltb-false}
use Rattle.rules.specs.Limits.{head_bytes, longest_file}
use Rattle.rules.specs.Walk.{pick}
use Rattle.tables.specs.Tables.{unless}
use Rattle.rules.specs.declared.Refusal.{Refusal}
use Rattle.rules.specs.declared.Refusal.TheVariants.{Output}
use Rattle.std.specs.Prelude.{Result, Ok, Err}
use Rattle.rules.proofs.Tests.{pick_second}
use Rattle.rules.proofs.Answers.{no_filling}
use Rattle.file_codec.specs.Bytes.{bytes_of}
use Rattle.file_tables.specs.Runs.{file_tables_of}
use Rattle.file_codec.specs.Contents.{tasks_at, runs_at, contents}
use Rattle.file_codec.proofs.Bytes.{bytes_of-length, next}
use Rattle.file_tables.proofs.Chain.{GoodFile, good_of, follows, sizes}
use Rattle.file_write.specs.Writer.{file_of, size_for, write_of, written_left}
use Rattle.file_write.specs.Inner.{Small}

module _ (ed frame : ℕ) (ps ts rs : List ℕ) where
  pub small : GoodFile ed frame ps ts rs → Small ed frame (length ps) (length ts) (length rs)
  small g = let s = sizes ed frame ps ts rs g in (s.edition_high, s.frame_high, omega (arith, s.parts_whole, s.parts_high), omega (arith, s.tasks_whole, s.tasks_high), omega (arith, s.runs_whole, s.runs_high))

  pub good_small : file_tables_of ed frame ps ts rs ≡ (Ok tt) → Small ed frame (length ps) (length ts) (length rs)
  good_small e = small (good_of ed frame ps ts rs e)

  -- an output of the longest file's bytes is long enough for any
  pub write-room : (room : ℕ) → longest_file ≤ room → write_of ed frame ps ts rs room ≡ write_of ed frame ps ts rs longest_file
  unfolding write_of
  write-room room h = step (file_tables_of ed frame ps ts rs) refl
    where
      size : ℕ
      size = size_for ps ts rs

      step : (t : Result (Unit {0}) Refusal) → file_tables_of ed frame ps ts rs ≡ t
          → unless Err t (pick (ltb room size) (Err Output) (Ok size)) ≡ unless Err t (pick (ltb longest_file size) (Err Output) (Ok size))
      step (Err r) e = refl
      step (Ok _) e = let s = good_small e in rw (le-ltb room size (omega arith), le-ltb longest_file size (omega arith))

  pub write-all : (room : ℕ) → file_tables_of ed frame ps ts rs ≡ (Ok tt) → (size : ℕ) → size ≡ size_for ps ts rs → size ≤ room → Ok size ≡ write_of ed frame ps ts rs room
  unfolding write_of
  write-all room g size e h = rw (g, ← e, le-ltb room size h)

-- the bodies, one behind the other
pub laid : (ed frame : ℕ) (ps ts rs d o1 o2 o3 o4 : List ℕ)
    → o1 ≡ bytes_of (contents ed frame (length ps) (length ts) (length rs)) ++ drop head_bytes d
    → o2 ≡ take head_bytes o1 ++ (bytes_of ps ++ drop (2 * length ps) (drop head_bytes o1))
    → o3 ≡ take (tasks_at (length ps)) o2 ++ (bytes_of ts ++ drop (2 * length ts) (drop (tasks_at (length ps)) o2))
    → o4 ≡ take (runs_at (length ps) (length ts)) o3 ++ (bytes_of rs ++ drop (2 * length rs) (drop (runs_at (length ps) (length ts)) o3))
    → o4 ≡ file_of ed frame ps ts rs ++ drop (size_for ps ts rs) d
unfolding file_of
laid ed frame ps ts rs d o1 o2 o3 o4 e1 e2 e3 e4 =
    let h : List ℕ = bytes_of (contents ed frame (length ps) (length ts) (length rs)) in
    let lh : length h ≡ head_bytes = bytes_of-length (contents ed frame (length ps) (length ts) (length rs)) in
    let bp = bytes_of-length ps in
    let bt = bytes_of-length ts in
    let br = bytes_of-length rs in
    let l1 : length (h ++ bytes_of ps) ≡ tasks_at (length ps) = rw (length-append h (bytes_of ps)) (omega arith) in
    let l2 : length (h ++ bytes_of ps ++ bytes_of ts) ≡ runs_at (length ps) (length ts) = rw (length-append (h ++ bytes_of ps) (bytes_of ts)) (omega arith) in
    let s2 : o2 ≡ h ++ bytes_of ps ++ drop (tasks_at (length ps)) d = e2 ∙ rw e1 (next h (bytes_of ps) d head_bytes (2 * length ps) (tasks_at (length ps)) lh bp refl) in
    let s3 : o3 ≡ h ++ bytes_of ps ++ bytes_of ts ++ drop (runs_at (length ps) (length ts)) d = e3 ∙ rw s2 (next (h ++ bytes_of ps) (bytes_of ts) d (tasks_at (length ps)) (2 * length ts) (runs_at (length ps) (length ts)) l1 bt refl) in
    e4 ∙ rw s3 (next (h ++ bytes_of ps ++ bytes_of ts) (bytes_of rs) d (runs_at (length ps) (length ts)) (2 * length rs) (size_for ps ts rs) l2 br refl)

-- what it is to be written
pub record Fit (ed frame : ℕ) (ps ts rs : List ℕ) (room n : ℕ) : Type 0 where
  pub good : GoodFile ed frame ps ts rs
  pub room_left : size_for ps ts rs ≤ room
  pub is_size : n ≡ size_for ps ts rs

pub fit : (n ed frame : ℕ) (ps ts rs : List ℕ) (room : ℕ) → write_of ed frame ps ts rs room ≡ Ok n → Fit ed frame ps ts rs room n
unfolding write_of
fit n ed frame ps ts rs room e =
    let a = follows ed frame ps ts rs Err (pick (ltb room (size_for ps ts rs)) (Err Output) (Ok (size_for ps ts rs))) (Ok n) (no_filling n) e in
    let b = pick_second (ltb room (size_for ps ts rs)) (Err Output) (Ok (size_for ps ts rs)) (Ok n) (no_filling n Output) a.1 in
    let q : Ok (size_for ps ts rs) ≡ Ok n = b.1 in
    record { good = a.0; room_left = ltb-false _ _ b.0; is_size = cc }

-- what the writer leaves, from what it answers
module _ (ed frame : ℕ) (ps ts rs out : List ℕ) where
  pub left_none : (x : Refusal) → write_of ed frame ps ts rs (length out) ≡ Err x → out ≡ written_left ed frame ps ts rs out
  left_none x e = rw e

  pub left_all : (n : ℕ) → write_of ed frame ps ts rs (length out) ≡ Ok n → (o : List ℕ)
      → o ≡ file_of ed frame ps ts rs ++ drop (size_for ps ts rs) out → o ≡ written_left ed frame ps ts rs out
  left_all n e o h = rw (e, (fit n ed frame ps ts rs (length out) e).is_size) h

  -- what the writing of a file asks
  pub ready : (n : ℕ) → write_of ed frame ps ts rs (length out) ≡ Ok n → Small ed frame (length ps) (length ts) (length rs) × (size_for ps ts rs ≤ length out)
  ready n e = let f = fit n ed frame ps ts rs (length out) e in (small ed frame ps ts rs f.good, f.room_left)
