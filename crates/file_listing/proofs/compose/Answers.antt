use mathlib.Core.Path.{◌≡◌, sym, ◌∙◌}
use Rattle.std.proofs.Common.{rules, Ok}
use Rattle.file_read.specs.Reader.{read_of}
use Rattle.file_listing.specs.Listing.{listing_of}
use Rattle.file_runs.proofs.Loaded.{parts_held, tasks_held, runs_held}
use Rattle.file_listing.proofs.Tables.{listable, tables_listed}
use Rattle.file_listing.proofs.compose.Goals as goal

pub put_tables-requires : goal.put_tables-requires
put_tables-requires c =
    let e : read_of c.args.file.now ≡ Ok c.in-Ok.c = sym c.load_file.ensures.value ∙ c.in-Ok.is in
    rw (parts_held _ _ e _ c.load_file.ensures.parts_after, tasks_held _ _ e _ c.load_file.ensures.tasks_after, runs_held _ _ e _ c.load_file.ensures.runs_after) (listable _ _ e)

pub returns-in-Err : goal.returns-in-Err
unfolding listing_of
returns-in-Err c = (rw (← c.load_file.ensures.value, c.in-Err.is) c.put_refusal.ensures.0, search rules)

pub returns-in-Ok : goal.returns-in-Ok
returns-in-Ok c =
    let e : read_of c.args.file.now ≡ Ok c.in-Ok.c = sym c.load_file.ensures.value ∙ c.in-Ok.is in
    (rw (← tables_listed _ _ e, ← parts_held _ _ e _ c.load_file.ensures.parts_after, ← tasks_held _ _ e _ c.load_file.ensures.tasks_after, ← runs_held _ _ e _ c.load_file.ensures.runs_after) c.put_tables.ensures.0, search rules)
