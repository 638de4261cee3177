-- What the writer answers and leaves. Assumes nothing.
use Rattle.std.specs.Prelude.{ℕ, ◌≡◌, List, ◌++◌, length, ltb, Result, Ok, Err}
use Rattle.rules.specs.Walk.{pick}
use Rattle.tables.specs.Tables.{unless}
use Rattle.rules.specs.Filling.{left_by}
use Rattle.rules.specs.declared.Refusal.TheVariants.{Output}
use Rattle.file_codec.specs.Bytes.{bytes_of}
use Rattle.file_tables.specs.Runs.{file_tables_of}
use Rattle.file_codec.specs.Contents.{size_of, contents}
use Rattle.rules.specs.declared.Refusal.{Refusal}

-- the file of an edition, a frame and three tables: "Contents first", then the bodies
unfoldable pub file_of : ℕ → ℕ → List ℕ → List ℕ → List ℕ → List ℕ
file_of e frame ps ts rs = bytes_of (contents e frame (length ps) (length ts) (length rs)) ++ bytes_of ps ++ bytes_of ts ++ bytes_of rs

abbrev pub size_for : List ℕ → List ℕ → List ℕ → ℕ
size_for ps ts rs = size_of (length ps) (length ts) (length rs)

-- 2, "in a call too", then "the writer 3, 6, 7, 8, 12", for an output of room bytes, or the file's length
unfoldable pub write_of : ℕ → ℕ → List ℕ → List ℕ → List ℕ → ℕ → Result ℕ Refusal
write_of e frame ps ts rs room =
    unless Err (file_tables_of e frame ps ts rs) (pick (ltb room (size_for ps ts rs)) (Err Output) (Ok (size_for ps ts rs)))

-- what the output holds after the call
abbrev pub written_left : ℕ → ℕ → List ℕ → List ℕ → List ℕ → List ℕ → List ℕ
written_left e frame ps ts rs out = left_by (write_of e frame ps ts rs (length out)) (file_of e frame ps ts rs) out

-- the answer r of the call, and o what the output then holds
abbrev pub Writes : ℕ → ℕ → List ℕ → List ℕ → List ℕ → List ℕ → List ℕ → Result ℕ Refusal → Type 0
Writes e frame ps ts rs out o r = (r ≡ write_of e frame ps ts rs (length out)) × (o ≡ written_left e frame ps ts rs out)
