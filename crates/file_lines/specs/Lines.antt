-- The lines of the listing as bytes, "each line ended by a newline". Assumes nothing.
use Rattle.std.specs.Prelude.{ℕ, List, ◌++◌}
use Rattle.output.specs.Text.{bytes}
use Rattle.output.specs.Decimal.{decimal}

-- frame F
unfoldable pub frame_line : ℕ → List ℕ
frame_line frame = bytes "frame " ++ decimal frame ++ bytes "\n"

-- partition i wants q in m least l
unfoldable pub partition_line : ℕ → ℕ → ℕ → ℕ → List ℕ
partition_line i q m l =
    bytes "partition " ++ decimal i ++ (bytes " wants " ++ decimal q) ++ (bytes " in " ++ decimal m)
    ++ (bytes " least " ++ decimal l) ++ bytes "\n"

-- task i partition p
abbrev pub task_words : ℕ → ℕ → List ℕ
task_words i p = bytes "task " ++ decimal i ++ (bytes " partition " ++ decimal p)

-- task i partition p pass t, and document 02, ask 4: tick u
unfoldable pub pass_line : ℕ → ℕ → ℕ → ℕ → List ℕ
pass_line i p t u =
    task_words i p ++ (bytes " pass " ++ decimal t) ++ (bytes " tick " ++ decimal u) ++ bytes "\n"

-- "A failing task ends in `fail`."
unfoldable pub fail_line : ℕ → ℕ → List ℕ
fail_line i p = task_words i p ++ bytes " fail\n"
