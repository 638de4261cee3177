-- The line of a refusal. Assumes nothing.
use Rattle.std.specs.Prelude.{ℕ, List, ◌++◌}
use Rattle.rules.specs.declared.Refusal.{Refusal}
use Rattle.rules.specs.Refusals.{told}
use Rattle.output.specs.Text.{bytes}
use Rattle.output.specs.Decimal.{decimal}

-- "Any refusal prints only one line, as `refused 9`, with its number."
unfoldable pub refused_line : Refusal → List ℕ
refused_line r = bytes "refused " ++ decimal (told r).number ++ bytes "\n"
