-- Every promise of specs/Theorems.antt, proved. Assumes nothing.
use mathlib.Core.Path.{refl}
use Rattle.output.specs.Decimal.{digits, decimal}
use Rattle.why_lines.specs.Lines.{padded, task_words, passes_line, fails_line, names_line, columns, window, row_line, tick_words, spare_line, short_line}
use Rattle.why_lines.specs.Theorems.{FailWords, PassWords, Proved}

fail_words : FailWords
unfolding digits decimal padded task_words fails_line names_line columns window row_line tick_words short_line
fail_words = (refl, refl, refl, refl, refl)

pass_words : PassWords
unfolding digits decimal task_words passes_line tick_words spare_line
pass_words = (refl, refl)

pub proved : Proved
proved = record { fail_words = fail_words; pass_words = pass_words }
