-- What the planner reads of a text stands in the first bytes that the program reads, and its output has room for any file.
use Rattle.std.proofs.Common.{rules, ap, ◌∙◌, List, ℕ, length, take}
use Rattle.rules.specs.Limits.{longest_file}
use Rattle.output.proofs.Put.{put_taken}
use Rattle.share_plan.specs.Answer.{answer_of}
use Rattle.share_plan.proofs.Proved.{proved}
use Rattle.plan.proofs.plan_input.Goals as goal

pub returns-clause-answer : goal.returns-clause-answer
returns-clause-answer c =
    let a = c.args in
    let s = put_taken c.plan.ensures.plans (search rules) in
    λ t e.
    s.1 ∙ proved.answer_room a.edition (take a.n a.text.now) (length a.out.now) c.requires.2
    ∙ ap (λ (x : List ℕ). answer_of a.edition x longest_file) e ∙ proved.answer_first a.edition t (length a.text.now) longest_file c.requires.1
