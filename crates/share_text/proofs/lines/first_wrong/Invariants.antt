use Rattle.share_text.proofs.Order.{Reached}
use Rattle.share_text.specs.Table.{closed_at, wrong_at}
use Rattle.rules.specs.Walk.{first}
use Rattle.std.proofs.Common.{◌≡◌, ℕ, ◌+◌, ◌-◌, ◌≤◌, length}
use Rattle.share_text.proofs.lines.first_wrong.Given as goal

abbrev pub invariant-loop-at : goal.invariant-loop-at
invariant-loop-at l =
    (l.at ≤ length l.text)
    × ((k : ℕ) × (l.line ≡ k + 1) × Reached l.text l.at k × (first (wrong_at l.text) k ≡ k) × (l.closed ≡ closed_at l.text k))

abbrev pub decreases-loop-at : goal.decreases-loop-at
decreases-loop-at l = length l.text - l.at
