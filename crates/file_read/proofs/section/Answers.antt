use mathlib.Core.Path.{◌≡◌}
use Prim.Native.Nat.{◌≤◌}
use lib.ListN.{length}
use Rattle.file_read.specs.Reader.{read_of, body_at, section_of}
use Rattle.file_read.proofs.Reader.{few-read, inside-read}
use borrow.Author.Rules.{rules}
use Rattle.file_read.proofs.section.Goals as goal

pub body_at-part-requires : goal.body_at-part-requires
body_at-part-requires c = rw c.read.ensures (few-read c.args.file.now)

pub slice_bounds-result-end : goal.slice_bounds-result-end
slice_bounds-result-end c =
    let z = inside-read c.args.file.now c.args.which in
    let e : c.body_at-part.result ≡ body_at (read_of c.args.file.now) c.args.which = rw c.read.ensures at c.body_at-part.ensures in
    let a : c.body_at-part.result.offset ≤ c.body_at-part.result.end = rw e z.0 in
    let b : c.body_at-part.result.end ≤ length c.args.file.now = rw e z.1 in
    search rules

pub returns : goal.returns
unfolding section_of
returns c = rw (c.body_at-part.ensures, c.read.ensures)
