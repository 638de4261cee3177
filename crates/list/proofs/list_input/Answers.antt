-- What the listing reads of a file stands in the first bytes that the program reads.
use Rattle.std.proofs.Common.{rules, ap, ◌∙◌, length}
use Rattle.output.proofs.Put.{put_taken}
use Rattle.file_listing.specs.Listing.{listing_of}
use Rattle.file_listing.proofs.Proved.{proved}
use Rattle.list.proofs.list_input.Goals as goal

pub returns-clause-text : goal.returns-clause-text
returns-clause-text c =
    let s = put_taken c.compose.ensures.0 (search rules) in
    λ b e. s.1 ∙ ap listing_of e ∙ proved.listing_first b (length c.args.file.now) c.requires.1
