-- The lines of a task's page as bytes, each ended by a newline. Assumes nothing.
use Rattle.std.specs.Prelude.{ℕ, ◌+◌, ◌-◌, Bool, List, ◌++◌, length, replicate, eqb}
use Prim.Native.Char.{code}
use Rattle.rules.specs.Walk.{pick}
use Rattle.output.specs.Text.{bytes}
use Rattle.output.specs.Decimal.{decimal}

-- how wide a column of numbers is, in bytes
abbrev pub column_width : ℕ
column_width = 8

-- a number that ends its column
unfoldable pub padded : ℕ → List ℕ
padded n = replicate (column_width - length (decimal n)) (code " ") ++ decimal n

-- task i partition p
unfoldable pub task_words : ℕ → ℕ → List ℕ
task_words i p = bytes "task " ++ decimal i ++ (bytes " partition " ++ decimal p)

unfoldable pub passes_line : ℕ → ℕ → List ℕ
passes_line i p = task_words i p ++ bytes " passes\n"

unfoldable pub fails_line : ℕ → ℕ → List ℕ
fails_line i p = task_words i p ++ bytes " fails\n"

-- the columns' names
unfoldable pub names_line : List ℕ
names_line = bytes "   point   needs     has   short   worst stretch in wall ticks\n"

-- the point t, what a task needs there, what it can be sure of, and how much of its need that leaves short
unfoldable pub columns : ℕ → ℕ → ℕ → List ℕ
columns t n h = padded t ++ padded n ++ padded h ++ padded (n - h)

-- the t wall ticks from s on
unfoldable pub window : ℕ → ℕ → List ℕ
window s t = bytes "   " ++ decimal s ++ (bytes " to " ++ decimal (s + t - 1))

-- how a line ends, that of the tightest point with its mark
abbrev pub mark : Bool → List ℕ
mark tightest = pick tightest (bytes "  <- tightest\n") (bytes "\n")

-- at the point t a task needs n and can be sure of h, which the worst stretch holds, from s on; and the tightest point is u
unfoldable pub row_line : ℕ → ℕ → ℕ → ℕ → ℕ → List ℕ
row_line u t n h s = columns t n h ++ window s t ++ mark (eqb t u)

-- at the tick t a task needs n and can be sure of h
unfoldable pub tick_words : ℕ → ℕ → ℕ → List ℕ
tick_words t n h = bytes "at tick " ++ decimal t ++ (bytes " it needs " ++ decimal n) ++ (bytes " and can be sure of " ++ decimal h)

-- a pass: how much is to spare there
unfoldable pub spare_line : ℕ → ℕ → ℕ → List ℕ
spare_line t n h = tick_words t n h ++ (bytes ": " ++ decimal (h - n)) ++ bytes " to spare\n"

-- a fail: how much is short there, and where the worst stretch of so many ticks starts
unfoldable pub short_line : ℕ → ℕ → ℕ → ℕ → List ℕ
short_line t n h s =
    tick_words t n h ++ (bytes ": " ++ decimal (n - h))
    ++ (bytes " short; the worst stretch starts at tick " ++ decimal s) ++ bytes "\n"
