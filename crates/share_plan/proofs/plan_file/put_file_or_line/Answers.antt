use Rattle.share_plan.proofs.Laws.{file_put, line_put}
use borrow.Author.Rules.{rules}
use Rattle.share_plan.proofs.plan_file.put_file_or_line.Goals as goal

pub returns-in-Ok : goal.returns-in-Ok
returns-in-Ok c = file_put _ _ _ _ _ _ _ c.write_plan-w.ensures.0 c.write_plan-w.ensures.1 c.in-Ok.is

pub returns-in-Err : goal.returns-in-Err
returns-in-Err c =
    let p = rw (c.new-out.ensures.empty.0, c.new-out.ensures.empty.1) at c.put_why.ensures.put in
    let l = line_put _ _ _ _ _ _ _ c.write_plan-w.ensures.0 c.write_plan-w.ensures.1 c.in-Err.is p in
    (search rules, search rules)
