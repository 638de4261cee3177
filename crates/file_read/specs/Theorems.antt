-- What is promised of the reader beyond each entry's contract. Each statement's proof is a field of `Proved`. Assumes nothing.
use Rattle.std.specs.Prelude.{ℕ, ◌*◌, ◌≤◌, ◌<◌, ◌≡◌, List, [], ◌++◌, length, take, Result, Ok, Err}
use Rattle.rules.specs.Limits.{head_bytes, number_bytes, part_width, task_width, run_width, newest_edition, longest_file}
use Rattle.rules.specs.declared.Refusal.{Refusal}
use Rattle.file_read.specs.declared.Contents.{Contents}
use Rattle.file_read.specs.declared.Body.{Body}
use Rattle.file_read.specs.declared.Body.TheVariants.{Partitions, Tasks, Runs}
use Rattle.file_read.specs.Reader.{head_number, read_of, Reads, section_of, HandsBack}

-- "we must read and write both": a file that is read has edition 1 or 2, the one that its first two bytes say
abbrev pub ReadEdition : Type 0
ReadEdition = (b : List ℕ) (c : Contents) → read_of b ≡ Ok c → (c.edition ≡ head_number b 0) × (1 ≤ c.edition) × (c.edition ≤ newest_edition)

-- "Bodies from byte 16 in that order, no gaps." "The reader hands back each body as a part of the file itself."
abbrev pub SectionExact : Type 0
SectionExact =
    (b : List ℕ) (c : Contents) → read_of b ≡ Ok c
    → (take head_bytes b ++ section_of b Partitions ++ section_of b Tasks ++ section_of b Runs ≡ b)
    × (length (section_of b Partitions) ≡ number_bytes * (part_width * c.partitions))
    × (length (section_of b Tasks) ≡ number_bytes * (task_width * c.tasks))
    × (length (section_of b Runs) ≡ number_bytes * (run_width * c.runs))

-- the empty part of a file that isn't accepted
abbrev pub SectionNone : Type 0
SectionNone = (b : List ℕ) (x : Refusal) (which : Body) → read_of b ≡ Err x → section_of b which ≡ []

-- what is read of a file is read of its first bytes, where these are more than any plan file has
abbrev pub ReadFirst : Type 0
ReadFirst = (b : List ℕ) (n : ℕ) → longest_file < n → read_of (take n b) ≡ read_of b

-- "any two outcomes it permits are equal"
abbrev pub OneRead : Type 0
OneRead = (b : List ℕ) (r s : Result Contents Refusal) → Reads b r → Reads b s → r ≡ s

abbrev pub OneSection : Type 0
OneSection = (b : List ℕ) (which : Body) (r s : List ℕ) → HandsBack b which r → HandsBack b which s → r ≡ s

pub record Proved : Type 0 where
  pub read_edition : ReadEdition
  pub section_exact : SectionExact
  pub section_none : SectionNone
  pub read_first : ReadFirst
  pub one_read : OneRead
  pub one_section : OneSection
