use Prim.Native.Nat.{ℕ}
use mathlib.Core.Path.{◌≡◌, sym, ◌∙◌}
use lib.ListN.{replicate, length-replicate}
use Rattle.std.proofs.Common.{Ok}
use Rattle.rules.specs.Limits.{longest}
use Rattle.file_read.specs.Reader.{read_of}
use Rattle.file_runs.proofs.Loaded.{ticks-held, framed, parts_held, tasks_held, runs_held}
use Rattle.why_page.proofs.Paged.{text_of}
use Rattle.why_page.proofs.put_file.Goals as goal

pub returns-in-Ok-clause-put : goal.returns-in-Ok-clause-put
returns-in-Ok-clause-put c =
    let e : read_of c.args.file.now ≡ Ok c.in-Ok.c = sym c.load_file.ensures.value ∙ c.in-Ok.is in
    let held = ticks-held c.in-Ok.c.frame _ (replicate longest 0) _ _ (framed _ _ e) (length-replicate {A = ℕ} longest 0) (rw (runs_held _ _ e _ c.load_file.ensures.runs_after) at c.ticks_of.ensures) in
    rw (← text_of _ _ _ e, ← parts_held _ _ e _ c.load_file.ensures.parts_after, ← tasks_held _ _ e _ c.load_file.ensures.tasks_after, ← held) c.put_page.ensures.put
