-- Every statement of specs/Theorems.antt, with its proof. Assumes nothing.
use mathlib.Core.Path.{sym, ◌∙◌}
use Rattle.theory.specs.Theorems.{Proved}
use Rattle.theory.proofs.Wants.{wants_smallest, wants_range, wants_whole, wants_no_less}
use Rattle.theory.proofs.Plan.{past_cycle_short, least_is_least, least_attained, least_zero, least_bounds, least_grows, serves_in_frame}
use Rattle.theory.proofs.Switch.{switch_exactly, switch_serves, one_run, service_within, held_within, least_within, serves_within, passes_within}
use Rattle.theory.proofs.Tasks.{points_enough, ticks_exactly, run_theorem, endless_theorem}
use Rattle.theory.proofs.Load.{load_theorem}
use Rattle.theory.proofs.Points.{load_points, point_smallest, tick_smallest, tick_at_most_point}
use Rattle.theory.proofs.Tightest.{worst_start_lowest, tightest_so}
use Rattle.theory.proofs.Exists.{legal_exists, legal_one}
use Rattle.theory.proofs.Order.{pairs_divide, taken_once, taken_rises}
use Rattle.theory.proofs.Built.{harmonic_serves, harmonic_refused, past_cycle_refused, harmonic_plan_good}

pub proved : Proved
proved = record {
  wants_smallest = wants_smallest;
  wants_range = wants_range;
  wants_whole = wants_whole;
  wants_no_less = wants_no_less;
  wants_one = λ g m n d r r' e f. e ∙ sym f;
  held_one = λ i plan p s n r r' e f. e ∙ sym f;
  least_one = λ i plan p t r r' e f. e ∙ sym f;
  switch_exactly = switch_exactly;
  switch_serves = switch_serves;
  one_run = one_run;
  service_within = service_within;
  held_within = held_within;
  least_within = least_within;
  serves_within = serves_within;
  passes_within = passes_within;
  least_is_least = least_is_least;
  least_attained = least_attained;
  least_zero = least_zero;
  least_bounds = least_bounds;
  least_grows = least_grows;
  serves_in_frame = serves_in_frame;
  points_enough = points_enough;
  load_points = load_points;
  point_smallest = point_smallest;
  ticks_exactly = ticks_exactly;
  tick_smallest = tick_smallest;
  tick_at_most_point = tick_at_most_point;
  worst_start_lowest = worst_start_lowest;
  tightest_so = tightest_so;
  run_theorem = run_theorem;
  endless_theorem = endless_theorem;
  load_theorem = load_theorem;
  legal_exists = legal_exists;
  legal_one = legal_one;
  pairs_divide = pairs_divide;
  taken_once = taken_once;
  taken_rises = taken_rises;
  harmonic_serves = harmonic_serves;
  harmonic_refused = harmonic_refused;
  past_cycle_refused = past_cycle_refused;
  past_cycle_short = past_cycle_short;
  harmonic_plan_good = harmonic_plan_good;
}
