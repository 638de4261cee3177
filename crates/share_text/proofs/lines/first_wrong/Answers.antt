use Rattle.share_text.proofs.Order.{reached-start, reached-next, reached-row, none_wrong, some_wrong, wrong_is, closed_none, closed_more}
use Rattle.share_line.specs.Rows.{closes, is_wrong, what_of}
use Rattle.rules.proofs.First.{first-zero, first_more, first_found}
use Rattle.std.proofs.Common.{◌≡◌, Err, true, false, ◌||◌, refl, rules, ◌+◌}
use Rattle.share_text.proofs.lines.first_wrong.Goals as goal

pub loop-at-init : goal.loop-at-init
loop-at-init c = (search rules, (0, refl, reached-start _, first-zero _, closed_none _))

pub returns-in_err-closed : goal.returns-in_err-closed
returns-in_err-closed c =
    let i = c.loop-at.invariant.1 in
    let row = reached-row i.2 c.row_at-row.ensures in
    let w : is_wrong c.loop-at.closed c.row_at-row.result ≡ true = search rules in
    let e : c.from_residual.result ≡ Err (record { line = i.0 + 1; what = what_of c.row_at-row.result }) = search rules in
    rw e (some_wrong _ _ _ (search rules) (first_found _ _ _ (search rules) i.3 (wrong_is _ _ row i.4 refl w)) row)

pub loop-at-preserved : goal.loop-at-preserved
loop-at-preserved c =
    let i = c.loop-at.invariant.1 in
    let row = reached-row i.2 c.row_at-row.ensures in
    let w : is_wrong c.loop-at.closed c.row_at-row.result ≡ false = search rules in
    let e : c.in_ok-closed.closed ≡ closes c.row_at-row.result || c.loop-at.closed = search rules in
    (c.next_line-at.ensures.1, (i.0 + 1, search rules, reached-next _ i.2 c.next_line-at.ensures.0 c.next_line-at.ensures.2, first_more _ _ i.3 (wrong_is _ _ row i.4 refl w), closed_more _ _ row i.4 e))

pub returns : goal.returns
returns c = let i = c.loop-at.invariant.1 in none_wrong i.2 c.loop-at.invariant.0 (search rules) i.3
