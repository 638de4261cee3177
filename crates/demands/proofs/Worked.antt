-- Every worked example, by computation. Assumes nothing.
use mathlib.Core.Path.{refl}
use Rattle.rules.specs.Walk.{only, fails, first, sum, count, smallest, largest, walk, gathered, listed, round_up}
use Rattle.rules.specs.Table.{wants, good_share, good_times}
use Rattle.rules.specs.Terms.{good_edition, good_granule}
use Rattle.tables.specs.Tables.{counted_in, within_limits, in_edition, tables_of}
use Rattle.theory.specs.Plan.{owner, service, owned, least}
use Rattle.theory.specs.Harmonic.{pairs, frame, all_wanted, sooner, rank, give, turn, planned}
use Rattle.theory.specs.Load.{asked, demand, multiple, point, holds, earliest}
use Rattle.theory.specs.Task.{rival, task_load}
use Rattle.plan_check.specs.Check.{short_at, scan_of, plan_check_of, check_of}
use Rattle.plan_build.specs.Build.{unharmonic, laid_of, build_of}
use Rattle.task_verdict.specs.Verdict.{place_of, answerable_of, pass_at, verdict_by}
use Rattle.file_codec.specs.Bytes.{nums_of}
use Rattle.file_tables.specs.Runs.{run_owner, run_length, repeats, good_run, runs_judged, file_tables_of}
use Rattle.file_read.specs.Reader.{table_by, counts_of, contents_of, read_of}
use Rattle.file_runs.specs.Ticks.{ticks_of}
use Rattle.output.specs.Decimal.{digits, decimal}
use Rattle.file_lines.specs.Lines.{frame_line, partition_line, pass_line}
use Rattle.file_page.specs.Page.{part_line, task_line, page_of}
use Rattle.file_listing.specs.Listing.{tables_lines, listing_of, list_of}
use Rattle.desk.specs.Table.{open_of}
use Rattle.desk.specs.Request.{request_of}
use Rattle.demands.specs.Document01.{Document01}

pub worked : Document01
unfolding only fails first sum count smallest largest walk gathered round_up wants counted_in within_limits good_granule good_edition in_edition tables_of good_share good_times service owner owned least pairs frame all_wanted sooner rank give turn planned listed rival task_load asked demand multiple point holds earliest short_at scan_of plan_check_of check_of unharmonic laid_of build_of place_of answerable_of pass_at verdict_by nums_of run_owner run_length repeats good_run runs_judged file_tables_of table_by counts_of contents_of read_of ticks_of digits decimal frame_line partition_line pass_line part_line task_line page_of tables_lines listing_of list_of open_of request_of
worked = record {
  p1_wants = (refl, refl, refl);
  p1 = (_, (refl, refl), refl);
  p1_serves = (_, refl, refl);
  p2 = (_, (refl, refl), refl);
  p3 = (refl, (_, (refl, refl), refl));
  p4 = (_, (refl, refl), refl);
  p5 = (_, refl, refl);
  s1 = ((_, refl, refl), (_, refl, refl), (_, refl, refl), (_, refl, refl));
  v1 = (_, refl, refl);
  v2 = ((_, refl, refl), (_, refl, refl));
  v1_plain = (_, refl, refl);
  v2_plain = ((_, refl, refl), (_, refl, refl));
  d1 = (_, (refl, refl, refl), refl);
  d2 = (_, (refl, refl, refl), refl);
  d3 = (_, (refl, refl, refl), refl);
  d4 = (_, (refl, refl, refl), refl);
  d4_rooms = (refl, refl, refl);
  d5 = (_, (refl, refl, refl), refl);
  d6 = (_, (refl, refl, refl), refl);
  w1_read = (_, refl, refl);
  w1 = (_, (refl, refl), refl);
}
