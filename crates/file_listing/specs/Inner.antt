-- Words that only inner contracts use: no statement and no entry's contract cites them. Assumes nothing.
use Rattle.std.specs.Prelude.{ℕ, ◌≡◌, List}
use Rattle.rules.specs.Terms.{filed, rule_of, wanted}
use Rattle.plan_check.specs.Check.{scan_of, check_of}
use Rattle.file_runs.specs.Ticks.{ticks_of}
use Rattle.file_runs.specs.Inner.{Framed}
use Rattle.file_page.specs.Inner.{GoodRecords}

-- the tables of a file that was read: of its plan only 9 is still to be judged
pub record Listable (e frame : ℕ) (ps ts rs : List ℕ) : Type 0 where
  pub records : GoodRecords ps ts
  pub framed : Framed frame rs
  pub judged : check_of (filed e) (ticks_of rs) ps ≡ scan_of (rule_of e) (wanted (filed e) ps) (ticks_of rs) ps
