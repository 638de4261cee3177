-- Every refusal of every entry, by computation. Assumes nothing.
use Prim.Native.Nat.{ℕ}
use mathlib.Core.Path.{refl}
use mathlib.Core.List.{List}
use Rattle.rules.specs.Walk.{only, fails, first, sum, count, smallest, largest, walk, gathered, listed, round_up}
use Rattle.rules.specs.Table.{wants, good_share, good_times}
use Rattle.rules.specs.declared.Rule.{Rule}
use Rattle.rules.specs.Terms.{good_edition, good_granule}
use Rattle.tables.specs.Tables.{counted_in, within_limits, in_edition, tables_of}
use Rattle.theory.specs.Plan.{owner, owner_before, switch_tick, unswitched, service, owned, least}
use Rattle.theory.specs.Harmonic.{pairs, frame, all_wanted, sooner, rank, give, turn, planned}
use Rattle.plan_curve.specs.Curve.{curve_of}
use Rattle.plan_check.specs.Check.{short_at, scan_of, plan_check_of, check_of}
use Rattle.plan_build.specs.Build.{unharmonic, laid_of, build_of}
use Rattle.counts.specs.Counts.{count_at, agrees_at, plan_judged, list_judged, counts_judged, good_name, good_stretch, fill_of, held_of, names_one, within_frame, answer_at, many_of, change_of}
use Rattle.theory.specs.Load.{asked, demand, multiple, point, holds, earliest}
use Rattle.theory.specs.Task.{rival, task_load, task_point, task_tick}
use Rattle.task_verdict.specs.Verdict.{place_of, answerable_of, pass_at, verdict_by}
use Rattle.file_codec.specs.Bytes.{nums_of, bytes_of}
use Rattle.file_tables.specs.Runs.{run_owner, run_length, repeats, good_run, runs_judged, file_tables_of}
use Rattle.file_read.specs.Reader.{table_by, counts_of, contents_of, read_of}
use Rattle.file_write.specs.Writer.{file_of, write_of}
use Rattle.file_runs.specs.Ticks.{ticks_of, joined, runs_of}
use Rattle.output.specs.Decimal.{digits, decimal, value}
use Rattle.output.specs.Refused.{refused_line}
use Rattle.file_lines.specs.Lines.{frame_line, partition_line, pass_line}
use Rattle.file_page.specs.Page.{part_line, task_line, page_of}
use Rattle.share_words.specs.Words.{blank, solid, ends_word, comment, newline, no_digit, stops_at, width, word_of, rest_of, is_number, numeral}
use Rattle.share_line.specs.Rows.{granule_row, part_row, task_row, record_of, row_of}
use Rattle.share_line.specs.Expected.{expected_line}
use Rattle.share_text.specs.Table.{line_of, after_line, from_line, row_at, closes_at, wrong_at, nums_at, records_of, seen_of, sized_of, read_text_of}
use Rattle.share_plan.specs.Answer.{plan_file, write_built_of, write_plan_of, short_line, why_line, file_or_line, answer_of}
use Rattle.file_listing.specs.Listing.{tables_lines, listing_of, list_of}
use Rattle.desk.specs.Table.{open_of}
use Rattle.desk.specs.Reason.{room_at, places_of, largest_room, as_roomy, roomiest, late, binding_at, explanation_of}
use Rattle.desk.specs.Request.{request_of}
use Rattle.demands.proofs.Judging.{TellsBy}
use Rattle.demands.proofs.Paging.{page_verdicts, pages}
use Rattle.demands.specs.EachRefusal.{EachPlan, EachVerdict, EachCount, EachFile, EachText, EachEdition, EachDesk, EachLimit, EachRefusal}

plans : EachPlan
unfolding only fails first sum count smallest largest walk gathered round_up wants counted_in within_limits good_granule good_edition in_edition tables_of good_share service owner owned least pairs frame all_wanted sooner rank give turn planned listed curve_of short_at scan_of plan_check_of check_of unharmonic laid_of build_of
plans = record {
  held_2 = ((_, refl, refl), (_, refl, refl));
  least_2 = ((_, refl, refl), (_, refl, refl));
  curve_0 = (_, (refl, refl), refl);
  curve_12 = (_, (refl, refl), refl);
  curve_2 = (_, (refl, refl), refl);
  check_2 = (_, refl, refl);
  check_2_first = (_, refl, refl);
  check_3 = (_, refl, refl);
  check_21 = (_, refl, refl);
  check_21_past = (_, refl, refl);
  check_21_first = (_, refl, refl);
  check_3_first = (_, refl, refl);
  check_6 = (_, refl, refl);
  check_8 = (_, refl, refl);
  check_9 = (_, refl, refl);
  check_9_granule = (_, refl, refl);
  check_9_past = (_, refl, refl);
  build_3 = (_, (refl, refl), refl);
  build_21 = (_, (refl, refl), refl);
  build_21_past = (_, (refl, refl), refl);
  build_21_first = (_, (refl, refl), refl);
  build_3_first = (_, (refl, refl), refl);
  build_granule = (_, (refl, refl), refl);
  build_11_past = (_, (refl, refl), refl);
  build_6 = (_, (refl, refl), refl);
  build_10 = (_, (refl, refl), refl);
  build_11 = (_, (refl, refl), refl);
  build_12 = (_, (refl, refl), refl);
}

-- a refusal is told before the engine is asked
verdicts : (engine : Rule → List ℕ → List ℕ → ℕ → ℕ) → EachVerdict (TellsBy engine)
unfolding only fails first sum count round_up wants counted_in within_limits good_granule good_edition in_edition tables_of good_share good_times service owner owned short_at scan_of plan_check_of place_of answerable_of verdict_by
verdicts engine = record {
  verdict_2 = (_, refl, refl);
  verdict_2_first = (_, refl, refl);
  verdict_3 = (_, refl, refl);
  verdict_21 = (_, refl, refl);
  verdict_21_first = (_, refl, refl);
  verdict_3_first = (_, refl, refl);
  verdict_6 = (_, refl, refl);
  verdict_7 = (_, refl, refl);
  verdict_7_first = (_, refl, refl);
  verdict_7_0 = (_, refl, refl);
  verdict_7_past = (_, refl, refl);
  verdict_8 = (_, refl, refl);
  verdict_9 = (_, refl, refl);
  verdict_9_granule = (_, refl, refl);
}

counts : EachCount
unfolding only fails first sum count listed counted_in within_limits good_granule good_edition in_edition tables_of good_share service owner owned count_at agrees_at plan_judged list_judged counts_judged good_name good_stretch fill_of held_of names_one within_frame answer_at many_of change_of
counts = record {
  fill_0 = (_, (refl, refl), refl);
  fill_3 = (_, (refl, refl), refl);
  fill_6 = (_, (refl, refl), refl);
  fill_8 = (_, (refl, refl), refl);
  fill_3_first = (_, (refl, refl), refl);
  fill_6_first = (_, (refl, refl), refl);
  fill_8_first = (_, (refl, refl), refl);
  fill_12 = (_, (refl, refl), refl);
  held_0 = (_, refl, refl);
  held_3 = (_, refl, refl);
  held_6 = (_, refl, refl);
  held_8 = (_, refl, refl);
  held_8_0 = (_, refl, refl);
  held_8_past = (_, refl, refl);
  held_8_far = (_, refl, refl);
  held_12 = (_, refl, refl);
  held_20 = (_, refl, refl);
  held_26_start = (_, refl, refl);
  held_26_far = (_, refl, refl);
  held_26_length = (_, refl, refl);
  many_0 = (_, (refl, refl), refl);
  many_none = (_, (refl, refl), refl);
  many_3 = (_, (refl, refl), refl);
  many_3_first = (_, (refl, refl), refl);
  many_6 = (_, (refl, refl), refl);
  many_8 = (_, (refl, refl), refl);
  many_8_0 = (_, (refl, refl), refl);
  many_12 = (_, (refl, refl), refl);
  many_20 = (_, (refl, refl), refl);
  many_26 = (_, (refl, refl), refl);
  change_0 = (_, (refl, refl, refl), refl);
  change_idle = (_, (refl, refl, refl), refl);
  change_same = (_, (refl, refl, refl), refl);
  change_3 = (_, (refl, refl, refl), refl);
  change_6 = (_, (refl, refl, refl), refl);
  change_8 = (_, (refl, refl, refl), refl);
  change_8_0 = (_, (refl, refl, refl), refl);
  change_8_far = (_, (refl, refl, refl), refl);
  change_12 = (_, (refl, refl, refl), refl);
  change_20 = (_, (refl, refl, refl), refl);
  change_26_far = (_, (refl, refl, refl), refl);
  change_26 = (_, (refl, refl, refl), refl);
}

files : EachFile
unfolding only fails first sum count smallest largest gathered round_up wants counted_in within_limits good_granule good_edition in_edition tables_of good_share good_times service owner owned short_at scan_of plan_check_of check_of nums_of bytes_of run_owner run_length repeats good_run runs_judged file_tables_of table_by counts_of contents_of read_of file_of write_of ticks_of digits decimal refused_line least rival task_load asked demand multiple point holds earliest frame_line partition_line pass_line part_line task_line page_of tables_lines listing_of list_of
files = record {
  read_1 = (_, refl, refl);
  read_2 = (_, refl, refl);
  read_2_none = (_, refl, refl);
  read_3 = (_, refl, refl);
  read_4 = (_, refl, refl);
  read_5 = (_, refl, refl);
  read_6 = (_, refl, refl);
  read_7 = (_, refl, refl);
  read_8 = (_, refl, refl);
  section_1 = (_, refl, refl);
  section_2 = (_, refl, refl);
  section_3 = (_, refl, refl);
  section_4 = (_, refl, refl);
  section_5 = (_, refl, refl);
  section_6 = (_, refl, refl);
  section_7 = (_, refl, refl);
  section_8 = (_, refl, refl);
  sections = ((_, refl, refl), (_, refl, refl), (_, refl, refl));
  section_other = (_, refl, refl);
  write_0 = (_, (refl, refl), refl);
  write_2 = (_, (refl, refl), refl);
  write_2_first = (_, (refl, refl), refl);
  write_3 = (_, (refl, refl), refl);
  write_6 = (_, (refl, refl), refl);
  write_7 = (_, (refl, refl), refl);
  write_8 = (_, (refl, refl), refl);
  write_12 = (_, (refl, refl), refl);
  list_1 = (_, (refl, refl), refl);
  list_2 = (_, (refl, refl), refl);
  list_3 = (_, (refl, refl), refl);
  list_4 = (_, (refl, refl), refl);
  list_5 = (_, (refl, refl), refl);
  list_6 = (_, (refl, refl), refl);
  list_7 = (_, (refl, refl), refl);
  list_8 = (_, (refl, refl), refl);
  list_9 = (_, (refl, refl), refl);
  list_12 = (_, (refl, refl), refl);
}

texts : EachText
unfolding only fails first sum count smallest largest gathered round_up wants counted_in within_limits good_granule good_edition in_edition tables_of good_share good_times pairs frame all_wanted unharmonic laid_of build_of digits decimal value refused_line expected_line blank solid ends_word comment newline no_digit stops_at width word_of rest_of is_number numeral granule_row part_row task_row record_of row_of line_of after_line from_line row_at closes_at wrong_at nums_at records_of seen_of sized_of read_text_of joined runs_of repeats run_owner run_length good_run runs_judged file_tables_of service owner owned sooner rank give turn planned listed walk write_of short_at scan_of plan_check_of check_of plan_file write_built_of write_plan_of why_line file_or_line answer_of
texts = record {
  plan_2 = record { place = refl; bytes = refl };
  plan_2_past = record { place = refl; bytes = refl };
  plan_3 = record { place = refl; bytes = refl };
  plan_21 = record { place = refl; bytes = refl };
  plan_3_first = record { place = refl; bytes = refl };
  plan_6 = record { place = refl; bytes = refl };
  plan_7 = record { place = refl; bytes = refl };
  plan_10 = record { place = refl; bytes = refl };
  plan_11 = record { place = refl; bytes = refl };
  plan_11_granule = record { place = refl; bytes = refl };
  plan_11_none = record { place = refl; bytes = refl };
  plan_late = record { place = refl; bytes = refl };
  plan_twice = record { place = refl; bytes = refl };
  plan_12 = record { place = refl; bytes = refl };
}

editions : EachEdition
unfolding only fails first sum count smallest largest walk gathered round_up wants counted_in within_limits good_granule good_edition in_edition tables_of good_share good_times owner owner_before switch_tick unswitched service owned least curve_of short_at scan_of plan_check_of check_of rival task_load asked demand multiple point holds earliest place_of answerable_of pass_at verdict_by nums_of bytes_of run_owner run_length repeats good_run runs_judged file_tables_of table_by counts_of contents_of read_of file_of write_of ticks_of digits decimal value refused_line tables_lines listing_of list_of pairs frame all_wanted sooner rank give turn planned listed unharmonic laid_of build_of blank solid ends_word comment newline no_digit stops_at width word_of rest_of is_number numeral granule_row part_row task_row record_of row_of line_of after_line from_line row_at closes_at wrong_at nums_at records_of seen_of sized_of read_text_of joined runs_of plan_file write_built_of write_plan_of short_line why_line file_or_line answer_of
editions = record {
  held = ((_, refl, refl), (_, refl, refl));
  held_joined = ((_, refl, refl), (_, refl, refl));
  held_switch = ((_, refl, refl), (_, refl, refl), (_, refl, refl));
  least = ((_, refl, refl), (_, refl, refl), (_, refl, refl));
  curve = (_, (refl, refl), refl);
  check = (_, refl, refl);
  check_9 = (_, refl, refl);
  verdict_9 = ((_, refl, refl), (_, refl, refl));
  verdict_pass = ((_, refl, refl), (_, refl, refl));
  verdict_fail = ((_, refl, refl), (_, refl, refl));
  read = (_, refl, refl);
  write = (_, (refl, refl), refl);
  list = (_, (refl, refl), refl);
  plan = record { place = refl; bytes = refl };
}

desks : EachDesk
unfolding first largest open_of room_at places_of largest_room as_roomy roomiest late binding_at explanation_of request_of
desks = record {
  open_13 = (_, (refl, refl, refl), refl);
  request_13 = (_, (refl, refl, refl), refl);
  request_14 = (_, (refl, refl, refl), refl);
  request_15 = (_, (refl, refl, refl), refl);
  request_16 = (_, (refl, refl, refl), refl);
  request_17 = (_, (refl, refl, refl), refl);
  request_18 = (_, (refl, refl, refl), refl);
  request_18_listed = (_, (refl, refl, refl), refl);
  request_18_gap = (_, (refl, refl, refl), refl);
  request_18_past = (_, (refl, refl, refl), refl);
}

limits : EachLimit
unfolding only fails first sum count smallest largest gathered round_up wants counted_in within_limits good_granule good_edition in_edition tables_of good_share good_times pairs frame all_wanted unharmonic laid_of build_of nums_of run_owner run_length repeats good_run runs_judged file_tables_of counts_of contents_of read_of write_of open_of room_at places_of largest_room as_roomy roomiest late binding_at explanation_of request_of
limits = record {
  partitions_16 = (_, (refl, refl), refl);
  partitions_17 = (_, (refl, refl), refl);
  tasks_128 = (_, (refl, refl), refl);
  tasks_129 = (_, (refl, refl), refl);
  frame_4096 = (_, (refl, refl), refl);
  frame_4097 = (_, (refl, refl), refl);
  runs_4096 = (_, refl, refl);
  runs_4097 = (_, refl, refl);
  cycle_4096 = (_, (refl, refl), refl);
  cycle_4097 = (_, (refl, refl), refl);
  share_1000 = (_, (refl, refl), refl);
  share_1001 = (_, (refl, refl), refl);
  granule_16 = (_, (refl, refl), refl);
  granule_17 = (_, (refl, refl), refl);
  period_4096 = (_, (refl, refl), refl);
  period_4097 = (_, (refl, refl), refl);
  places_64 = (_, (refl, refl, refl), refl);
  places_63 = (_, (refl, refl, refl), refl);
  places_65 = (_, (refl, refl, refl), refl);
  time_1000000 = (_, (refl, refl, refl), refl);
  deadline_1000000 = (_, (refl, refl, refl), refl);
  time_1000001 = (_, (refl, refl, refl), refl);
  budget_1000001 = (_, (refl, refl, refl), refl);
  deadline_1000001 = (_, (refl, refl, refl), refl);
  clock_1000001 = (_, (refl, refl, refl), refl);
  listed_1000001 = (_, (refl, refl, refl), refl);
}

pub each_refusal : EachRefusal
each_refusal = record { plans = plans; verdicts = verdicts task_point; plain_verdicts = verdicts task_tick; page_verdicts = page_verdicts; pages = pages; counts = counts; files = files; texts = texts; editions = editions; desks = desks; limits = limits }
