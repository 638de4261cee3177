use Rattle.share_line.specs.declared.Row.TheVariants.{Nothing, Granule, Partition, Task}
use Rattle.share_text.proofs.Order.{reached-start, reached-next, reached-row, gathered-none, gathered-turn, gathered-all, option_or_none}
use Rattle.output.proofs.Put.{put_none}
use Rattle.std.proofs.Common.{◌≡◌, ◌∙◌, ◌+◌, sym, Ok, Err, unwrap_or, rules}
use Rattle.share_text.proofs.tables.gather.Goals as goal

pub loop-at-init : goal.loop-at-init
loop-at-init c = (search rules, (0, reached-start _, rw (c.new-p.ensures.empty.0, c.new-q.ensures.empty.0) (gathered-none _ _ _)))

pub loop-at-preserved-in-Ok-Granule : goal.loop-at-preserved-in-Ok-Granule
loop-at-preserved-in-Ok-Granule c =
    let i = c.loop-at.invariant.1 in
    let e : c.row_at-row.result ≡ Ok (Granule c.in-Ok-Granule.g) = search rules in
    (search rules, (i.0 + 1, reached-next _ i.1 c.next_line-at.ensures.0 c.next_line-at.ensures.2, gathered-turn i.2 (sym e ∙ reached-row i.1 c.row_at-row.ensures) c.or-granule.ensures (put_none _ _) (put_none _ _)))

pub loop-at-preserved-in-Ok-Partition : goal.loop-at-preserved-in-Ok-Partition
loop-at-preserved-in-Ok-Partition c =
    let i = c.loop-at.invariant.1 in
    let e : c.row_at-row.result ≡ Ok (Partition c.in-Ok-Partition.cycle c.in-Ok-Partition.num c.in-Ok-Partition.den) = search rules in
    (search rules, (i.0 + 1, reached-next _ i.1 c.next_line-at.ensures.0 c.next_line-at.ensures.2, gathered-turn i.2 (sym e ∙ reached-row i.1 c.row_at-row.ensures) (option_or_none _) c.put_all.ensures.put (put_none _ _)))

pub loop-at-preserved-in-Ok-Task : goal.loop-at-preserved-in-Ok-Task
loop-at-preserved-in-Ok-Task c =
    let i = c.loop-at.invariant.1 in
    let e : c.row_at-row.result ≡ Ok (Task c.in-Ok-Task.partition c.in-Ok-Task.budget c.in-Ok-Task.deadline c.in-Ok-Task.period) = search rules in
    (search rules, (i.0 + 1, reached-next _ i.1 c.next_line-at.ensures.0 c.next_line-at.ensures.2, gathered-turn i.2 (sym e ∙ reached-row i.1 c.row_at-row.ensures) (option_or_none _) (put_none _ _) c.put_all-in-Ok-Task.ensures.put))

pub loop-at-preserved-in-Ok-Nothing : goal.loop-at-preserved-in-Ok-Nothing
loop-at-preserved-in-Ok-Nothing c =
    let i = c.loop-at.invariant.1 in
    let e : c.row_at-row.result ≡ Ok Nothing = search rules in
    (search rules, (i.0 + 1, reached-next _ i.1 c.next_line-at.ensures.0 c.next_line-at.ensures.2, gathered-turn i.2 (sym e ∙ reached-row i.1 c.row_at-row.ensures) (option_or_none _) (put_none _ _) (put_none _ _)))

pub loop-at-preserved : goal.loop-at-preserved
loop-at-preserved c =
    let i = c.loop-at.invariant.1 in
    let e : c.row_at-row.result ≡ Err c.in-Err.field-0 = search rules in
    (search rules, (i.0 + 1, reached-next _ i.1 c.next_line-at.ensures.0 c.next_line-at.ensures.2, gathered-turn i.2 (sym e ∙ reached-row i.1 c.row_at-row.ensures) (option_or_none _) (put_none _ _) (put_none _ _)))

pub returns : goal.returns
returns c =
    let i = c.loop-at.invariant.1 in
    let e : c.from.result ≡ unwrap_or c.loop-at.granule 1 = search rules in
    let a = gathered-all i.2 e i.1 c.loop-at.invariant.0.0 (search rules) in
    rw (← c.new-p.ensures.empty.1, ← c.new-q.ensures.empty.1) (a.0, search rules, search rules)
