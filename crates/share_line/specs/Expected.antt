-- What is said of a line that is wrong. Assumes nothing.
use Rattle.std.specs.Prelude.{ℕ, List, ◌++◌}
use Rattle.output.specs.Text.{bytes}
use Rattle.output.specs.Decimal.{decimal}
use Rattle.share_line.specs.declared.What.{What}
use Rattle.share_line.specs.declared.What.TheVariants.{Record, Number, Slash, End, EarlyGranule}

-- what was expected, and the newline
abbrev pub what_text : What → List ℕ
what_text Record = bytes "`granule`, `partition` or `task`\n"
what_text Number = bytes "a number from 0 to 65535\n"
what_text Slash = bytes "`/`\n"
what_text End = bytes "the end of the line\n"
what_text EarlyGranule = bytes "`granule` once, before the partitions\n"

-- line K: expected ..
unfoldable pub expected_line : ℕ → What → List ℕ
expected_line k what = bytes "line " ++ decimal k ++ bytes ": expected " ++ what_text what
