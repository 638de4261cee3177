-- The numbers of a line, as the code holds them. Assumes nothing.
use Prim.Native.Nat.{ℕ, ◌+◌, ◌*◌, ◌^◌, ◌≤◌, ◌<◌}
use mathlib.Core.Path.{◌≡◌, ◌∙◌}
use mathlib.Core.List.{List}
use native.Mathlib.Nat.{add-zero}
use native.Mathlib.Omega.{arith}
use lib.ListN.{get_or}
use Rattle.rules.specs.Limits.{longest, row_width}
use Rattle.rules.specs.Table.{budget}
use Rattle.rules.specs.declared.Rule.{Rule}
use Rattle.task_demand.specs.Inner.{Drawn}
use Rattle.task_demand.proofs.Lists.{demand_is}
use Rattle.why_lines.specs.Lines.{row_line}
use Rattle.why_page.specs.Why.{line_of}
use Rattle.why_page.specs.Inner.{InReach, Sized}

-- a row's line, at the numbers that the code holds
pub line_is : (u k : ℕ) (rows : List ℕ) (t n h s : ℕ) → t ≡ get_or rows (row_width * k) 0 → n ≡ get_or rows (row_width * k + 1) 0 → h ≡ get_or rows (row_width * k + 2) 0 → s ≡ get_or rows (row_width * k + 3) 0
    → row_line u t n h s ≡ line_of u rows k
unfolding line_of
line_is u k rows t n h s et en eh es = rw (et, en, eh, es, add-zero (row_width * k))

-- the reach of a task lies within its lists
pub in_lists : {plan ts : List ℕ} {i t : ℕ} → InReach plan ts i t → t ≤ longest
in_lists {plan} {ts} {i} {t} g = let o = g.judgeable.in_order i (omega arith) in omega (arith, g.in_time, o.in_period, o.short)

-- what a task needs and has, by its lists
pub sized : (rule : Rule) (plan ts curve asks : List ℕ) (i t c w a h : ℕ) → InReach plan ts i t → Drawn rule plan ts i curve asks → c ≡ budget ts i → w ≡ c → a ≡ get_or asks t 0 → h ≡ get_or curve t 0
    → c < 2 ^ 16 → a < 2 ^ 32 → h < 2 ^ 32 → Sized rule plan ts i t (w + a) h
sized rule plan ts curve asks i t c w a h g d ec ew ea eh lc la lh =
    record {
      needs_is = rw (demand_is ts i t, ew, ec, ea, d.asked_is t g.in_time);
      has_is = eh ∙ d.least_is t g.in_time;
      needs_small = omega arith;
      has_small = omega arith;
    }
