use Rattle.output.specs.Decimal.{value}
use Rattle.share_words.specs.Words.{no_digit, stops_at, highest}
use Rattle.rules.specs.Walk.{first}
use Rattle.std.proofs.Common.{◌≡◌, ◌≤◌, take}
use Rattle.share_words.proofs.numbers.numeral.Given as goal

abbrev pub invariant-loop-b : goal.invariant-loop-b
invariant-loop-b l = (first (stops_at no_digit l.w) l.b-index ≡ l.b-index) × (l.v ≡ value (take l.b-index l.w) 0) × (l.v ≤ highest)
