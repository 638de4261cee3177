use mathlib.Core.Path.{sym}
use Rattle.why_lines.proofs.Lines.{digits_are}
use Rattle.why_lines.proofs.digits.Goals as goal

pub returns : goal.returns
returns c = sym (digits_are _ _ _ c.max.ensures c.ilog10.ensures.power_le c.ilog10.ensures.next_power_gt)
