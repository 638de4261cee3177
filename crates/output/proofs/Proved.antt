-- Every promise of specs/Theorems.antt, proved. Assumes nothing.
use mathlib.Core.Path.{sym, ◌∙◌}
use Rattle.output.specs.Theorems.{Proved}
use Rattle.output.proofs.Decimal.{decimal-value, decimal_first}

pub proved : Proved
proved = record {
  one_put = λ l s m o i p r a b. (a.place ∙ sym b.place, a.bytes ∙ sym b.bytes);
  decimal_says = decimal-value;
  decimal_first = decimal_first;
}
