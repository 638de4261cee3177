-- The lines word for word, at the numbers of one page. Each statement's proof is a field of `Proved`. Assumes nothing.
use Rattle.std.specs.Prelude.{◌≡◌}
use Rattle.output.specs.Text.{bytes}
use Rattle.why_lines.specs.Lines.{passes_line, fails_line, names_line, row_line, spare_line, short_line}

-- a fail, its tightest point 13, and the line of another point
abbrev pub FailWords : Type 0
FailWords =
    (fails_line 2 2 ≡ bytes "task 2 partition 2 fails\n")
    × (names_line ≡ bytes "   point   needs     has   short   worst stretch in wall ticks\n")
    × (row_line 13 13 4 3 4 ≡ bytes "      13       4       3       1   4 to 16  <- tightest\n")
    × (row_line 13 500 6 4 44 ≡ bytes "     500       6       4       2   44 to 543\n")
    × (short_line 13 4 3 4 ≡ bytes "at tick 13 it needs 4 and can be sure of 3: 1 short; the worst stretch starts at tick 4\n")

-- a pass
abbrev pub PassWords : Type 0
PassWords = (passes_line 1 2 ≡ bytes "task 1 partition 2 passes\n") × (spare_line 8 2 3 ≡ bytes "at tick 8 it needs 2 and can be sure of 3: 1 to spare\n")

pub record Proved : Type 0 where
  pub fail_words : FailWords
  pub pass_words : PassWords
