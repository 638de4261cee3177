-- What the page reads of a file stands in the first bytes that the program reads.
use Rattle.std.proofs.Common.{rules, ap, ◌∙◌, List, ℕ, length}
use Rattle.output.proofs.Put.{put_taken}
use Rattle.why_page.specs.Why.{why_of}
use Rattle.why_page.proofs.Proved.{proved}
use Rattle.why.proofs.why_input.Goals as goal

pub returns-clause-text : goal.returns-clause-text
returns-clause-text c =
    let s = put_taken c.compose.ensures.0 (search rules) in
    λ b e. s.1 ∙ ap (λ (x : List ℕ). why_of x c.args.place) e ∙ proved.why_first b c.args.place (length c.args.file.now) c.requires.1
