use Prim.Native.Nat.{ℕ, ◌+◌, ◌<◌}
use mathlib.Core.Path.{◌≡◌, ap, sym, ◌∙◌}
use mathlib.Core.Bool.{Bool}
use mathlib.Core.List.{List}
use lib.ListN.{length, take, drop, get_or}
use native.Mathlib.Omega.{arith}
use Rattle.std.proofs.Common.{rules}
use Rattle.std.specs.Prelude.{Option, None, Some}
use Rattle.desk.specs.Table.{none}
use Rattle.desk.specs.declared.Job.{Job}
use Rattle.desk_records.specs.Folds.{fold}
use Rattle.desk_reading.specs.Reading.{scanned, scan_step, scan_on}
use Rattle.desk_reading.specs.declared.scan.Scan.{Scan}
use Rattle.desk_reading.proofs.Broken.{none_stays}
use Rattle.desk_walks.proofs.Along.{fold-zero, fold_more, fold_end, fold_on}
use Rattle.desk_walks.proofs.scan_pass.Goals as goal

-- the job at i is the next one looked at
next : (o : Bool) (s : Option Scan) (l : List Job) (i : ℕ) (v : Scan) → i < length l → fold (scan_on o) s (take i l) ≡ Some v → fold (scan_on o) s (take (i + 1) l) ≡ scan_step o v (get_or l i none)
next o s l i v h e = sym (fold_more (scan_on o) s l i h) ∙ ap (λ (u : Option Scan). scan_on o u (get_or l i none)) e

-- where it breaks a rule, no job behind it is looked at
breaks : (o : Bool) (s : Option Scan) (l : List Job) (i : ℕ) → fold (scan_on o) s (take i l) ≡ None → fold (scan_on o) s l ≡ None
breaks o s l i e = sym (fold_on (scan_on o) s l i) ∙ ap (λ (u : Option Scan). fold (scan_on o) u (drop i l)) e ∙ none_stays o (drop i l)

pub returns-in_err-st : goal.returns-in_err-st
unfolding scanned
returns-in_err-st c =
    let e : c.from_residual.result ≡ None = search rules in
    e ∙ sym (breaks c.args.opening c.args.s c.args.jobs.now 0 (fold-zero (scan_on c.args.opening) c.args.s c.args.jobs.now ∙ c.in_err-st.was))

pub loop-j-init : goal.loop-j-init
loop-j-init c = fold-zero (scan_on c.args.opening) c.args.s c.args.jobs.now ∙ c.in_ok-st.was

pub returns-in_err-st-2 : goal.returns-in_err-st-2
unfolding scanned
returns-in_err-st-2 c =
    let e : c.from_residual-in_err-st-2.result ≡ None = search rules in
    let i = c.loop-j.j-index in
    e ∙ sym (breaks c.args.opening c.args.s c.args.jobs.now (i + 1) (next c.args.opening c.args.s c.args.jobs.now i c.loop-j.st (omega (arith, c.loop-j-test.true)) c.loop-j.invariant ∙ sym c.scan_step.ensures ∙ c.in_err-st-2.was))

pub loop-j-preserved : goal.loop-j-preserved
loop-j-preserved c =
    next c.args.opening c.args.s c.args.jobs.now c.loop-j.j-index c.loop-j.st (omega (arith, c.loop-j-test.true)) c.loop-j.invariant ∙ sym c.scan_step.ensures ∙ c.in_ok-st-2.was

pub returns : goal.returns
unfolding scanned
returns c =
    let n : c.loop-j.j-index ≡ length c.args.jobs.now = omega (arith, c.loop-j-test.false, c.loop-j.auto.j-index-end) in
    sym (c.loop-j.invariant) ∙ rw n (fold_end (scan_on c.args.opening) c.args.s c.args.jobs.now)
