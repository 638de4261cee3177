use Rattle.std.proofs.Common.{rules}
use Rattle.task_page.specs.Inner.{short_in}
use Rattle.task_page.proofs.short_in.Goals as goal

pub returns : goal.returns
unfolding short_in
returns c = search rules
