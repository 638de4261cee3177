use Prim.Native.Nat.{ℕ}
use lib.ListN.{replicate, length-replicate}
use Rattle.rules.specs.Limits.{longest}
use Rattle.file_runs.proofs.Loaded.{ticks-held}
use borrow.Author.Rules.{rules}
use Rattle.file_listing.proofs.put_tables.Goals as goal

pub put_checked-requires-clause-judged : goal.put_checked-requires-clause-judged
put_checked-requires-clause-judged c = rw (ticks-held c.args.frame c.args.runs.now (replicate longest 0) _ _ c.requires.framed (length-replicate {A = ℕ} longest 0) c.ticks_of.ensures) c.requires.judged

pub returns : goal.returns
returns c = (rw (← ticks-held c.args.frame c.args.runs.now (replicate longest 0) _ _ c.requires.framed (length-replicate {A = ℕ} longest 0) c.ticks_of.ensures) c.put_checked.ensures.0, search rules)
