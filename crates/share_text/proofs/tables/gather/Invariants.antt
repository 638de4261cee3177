use Rattle.share_text.proofs.Order.{Reached, Gathered}
use Rattle.std.proofs.Common.{ℕ, ◌≡◌, ◌≤◌, ◌-◌, ◌*◌, length}
use Rattle.share_text.proofs.tables.gather.Given as goal

abbrev pub invariant-loop-at : goal.invariant-loop-at
invariant-loop-at l =
    ((l.at ≤ length l.text) × (l.p.at ≤ 4 * l.at) × (l.q.at ≤ 4 * l.at)
    × (l.p.lent.ghost_name ≡ l.initial.p.lent.ghost_name) × (l.q.lent.ghost_name ≡ l.initial.q.lent.ghost_name))
    × ((k : ℕ) × Reached l.text l.at k × Gathered l.text l.initial.p.lent.now l.initial.q.lent.now k l.granule l.p.at l.q.at l.p.lent.now l.q.lent.now)

abbrev pub decreases-loop-at : goal.decreases-loop-at
decreases-loop-at l = length l.text - l.at
