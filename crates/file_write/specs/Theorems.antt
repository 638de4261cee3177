-- What is promised of the writer, and of reader and writer together. `read_of`, `write_of` and `written_left` are what the contracts say that the entries
-- answer and leave. Each statement's proof is a field of `Proved`. Assumes nothing.
use Rattle.std.specs.Prelude.{ℕ, ◌≤◌, ◌≡◌, List, ◌++◌, length, take, drop, Result, Ok, Err}
use Rattle.rules.specs.Table.{partitions, tasks}
use Rattle.rules.specs.declared.Refusal.{Refusal}
use Rattle.file_codec.specs.Bytes.{Bytes}
use Rattle.file_tables.specs.Runs.{runs}
use Rattle.file_read.specs.declared.Contents.{Contents}
use Rattle.file_read.specs.declared.Body.TheVariants.{Partitions, Tasks, Runs}
use Rattle.file_read.specs.Reader.{read_of, table_of}
use Rattle.file_write.specs.Writer.{write_of, written_left, Writes}

-- "The writer puts each body into its own stretch of the lent output": reading what was written gives back edition, frame, counts and tables
abbrev pub ReadWrite : Type 0
ReadWrite =
    (e frame : ℕ) (ps ts rs out : List ℕ) (n : ℕ) → write_of e frame ps ts rs (length out) ≡ Ok n
    → (read_of (take n (written_left e frame ps ts rs out)) ≡ Ok (record { edition = e; frame = frame; partitions = partitions ps; tasks = tasks ts; runs = runs rs }))
    × (table_of (take n (written_left e frame ps ts rs out)) Partitions ≡ ps)
    × (table_of (take n (written_left e frame ps ts rs out)) Tasks ≡ ts)
    × (table_of (take n (written_left e frame ps ts rs out)) Runs ≡ rs)

-- writing what was read, into room enough, gives back the bytes
abbrev pub WriteRead : Type 0
WriteRead =
    (b : List ℕ) (c : Contents) (out : List ℕ) → Bytes b → read_of b ≡ Ok c → length b ≤ length out
    → (write_of c.edition c.frame (table_of b Partitions) (table_of b Tasks) (table_of b Runs) (length out) ≡ Ok (length b))
    × (written_left c.edition c.frame (table_of b Partitions) (table_of b Tasks) (table_of b Runs) out ≡ b ++ drop (length b) out)

-- "Success changes only the bytes it needs; refusals 1 to 12 change no output byte."
abbrev pub Untouched : Type 0
Untouched =
    (e frame : ℕ) (ps ts rs out : List ℕ)
    → ((n : ℕ) → write_of e frame ps ts rs (length out) ≡ Ok n → (n ≤ length out) × (drop n (written_left e frame ps ts rs out) ≡ drop n out))
    × ((x : Refusal) → write_of e frame ps ts rs (length out) ≡ Err x → written_left e frame ps ts rs out ≡ out)
    × (length (written_left e frame ps ts rs out) ≡ length out)

-- "any two outcomes it permits are equal"
abbrev pub OneWrite : Type 0
OneWrite =
    (e frame : ℕ) (ps ts rs out o o' : List ℕ) (r r' : Result ℕ Refusal) → Writes e frame ps ts rs out o r → Writes e frame ps ts rs out o' r'
    → (r ≡ r') × (o ≡ o')

pub record Proved : Type 0 where
  pub read_write : ReadWrite
  pub write_read : WriteRead
  pub untouched : Untouched
  pub one_write : OneWrite
