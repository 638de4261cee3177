use Rattle.std.proofs.Common.{◌≡◌, ◌<◌, ◌*◌, ◌-◌, ◌+◌, not, get_or, ap, ◌∙◌, rules, refl, None, arith}
use Rattle.output.specs.Decimal.{value}
use Rattle.rules.proofs.First.{first-zero, first_more}
use Rattle.share_words.specs.Words.{stops_at, highest}
use Rattle.share_words.proofs.WordLaws.{digits_more, numeral-none, numeral_odd, numeral-more, numeral-all, digit_is}
use Rattle.share_words.proofs.numbers.numeral.Goals as goal

pub returns-then-is_empty : goal.returns-then-is_empty
returns-then-is_empty c = numeral-none _ (search rules)

pub loop-b-init : goal.loop-b-init
unfolding value
loop-b-init c = (first-zero _, refl, search rules)

pub returns-then-not-is_ascii_digit : goal.returns-then-not-is_ascii_digit
returns-then-not-is_ascii_digit c = numeral_odd c.args.w.now c.loop-b.b-index (search rules) c.loop-b.invariant.0 (digit_is _ c.is_ascii_digit.ensures.value ∙ ap not c.if-not-is_ascii_digit.true)

pub returns-in_err-checked_mul : goal.returns-in_err-checked_mul
returns-in_err-checked_mul c = let e : c.from_residual.result ≡ None = search rules in let h : highest < c.loop-b.v * 10 = search rules in e ∙ numeral-more c.args.w.now c.loop-b.b-index c.loop-b.v (search rules) c.loop-b.invariant.1 (omega (arith, h))

pub returns-in_err-v : goal.returns-in_err-v
returns-in_err-v c = let e : c.from_residual-in_err-v.result ≡ None = search rules in e ∙ numeral-more c.args.w.now c.loop-b.b-index c.loop-b.v (search rules) c.loop-b.invariant.1 (search rules)

pub loop-b-preserved : goal.loop-b-preserved
unfolding stops_at
loop-b-preserved c = (first_more _ _ c.loop-b.invariant.0 (digit_is _ c.is_ascii_digit.ensures.value ∙ ap not c.if-not-is_ascii_digit.false), let e : c.in_ok-v.v ≡ c.loop-b.v * 10 + (get_or c.args.w.now c.loop-b.b-index 0 - 48) = search rules in e ∙ digits_more c.args.w.now c.loop-b.b-index c.loop-b.v (search rules) c.loop-b.invariant.1, search rules)

pub returns : goal.returns
returns c = numeral-all c.args.w.now c.loop-b.b-index c.loop-b.v (search rules) (search rules) (search rules) c.loop-b.invariant.0 c.loop-b.invariant.1 c.loop-b.invariant.2
