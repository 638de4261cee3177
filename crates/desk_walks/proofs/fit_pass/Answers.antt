use Prim.Native.Nat.{ℕ, ◌+◌, ◌-◌, ◌<◌, ◌≤◌}
use mathlib.Core.Path.{◌≡◌, ap, sym, ◌∙◌}
use mathlib.Core.List.{List}
use lib.ListN.{length, drop, get_or, set}
use native.Mathlib.Omega.{arith}
use Rattle.desk.specs.Table.{none}
use Rattle.desk.specs.declared.Job.{Job}
use Rattle.desk_records.specs.Folds.{fold_back}
use Rattle.desk_writing.specs.declared.fit.Fit.{Fit}
use Rattle.desk_writing.specs.Writing.{fitted_all, fit_step, fit_out}
use Rattle.desk_walks.proofs.Along.{fold_back-start, fold_back_more, back_at, back_at_start, back_at_read, back_at_more, back_at_end}
use Rattle.desk_walks.proofs.fit_pass.Goals as goal

-- the job in front of i is still the one that was lent
reads : (s : Fit) (l : List Job) (i : ℕ) (m : List Job) → 0 < i → i ≤ length l → m ≡ back_at fit_step fit_out s l i → get_or m (i - 1) none ≡ get_or l (i - 1) none
reads s l i m p h w = let e : i ≡ (i - 1) + 1 = omega arith in rw (w ∙ ap (back_at fit_step fit_out s l) e) (back_at_read fit_step fit_out s l (i - 1) (omega arith))

steps : (s : Fit) (l : List Job) (i : ℕ) (v : Fit) (m : List Job) → 0 < i → i ≤ length l → v ≡ fold_back fit_step s (drop i l) → m ≡ back_at fit_step fit_out s l i
    → fit_step v (get_or m (i - 1) none) ≡ fold_back fit_step s (drop (i - 1) l)
steps s l i v m p h e w =
    let n : i ≡ (i - 1) + 1 = omega arith in
    rw (e ∙ ap (λ (k : ℕ). fold_back fit_step s (drop k l)) n, reads s l i m p h w) (fold_back_more fit_step s l (i - 1) (omega arith))

puts : (s : Fit) (l : List Job) (i : ℕ) (v : Fit) (m : List Job) → 0 < i → i ≤ length l → v ≡ fold_back fit_step s (drop i l) → m ≡ back_at fit_step fit_out s l i
    → set m (i - 1) (fit_out v (get_or m (i - 1) none)) ≡ back_at fit_step fit_out s l (i - 1)
puts s l i v m p h e w =
    let n : i ≡ (i - 1) + 1 = omega arith in
    rw (e ∙ ap (λ (k : ℕ). fold_back fit_step s (drop k l)) n, reads s l i m p h w, w ∙ ap (back_at fit_step fit_out s l) n) (back_at_more fit_step fit_out s l (i - 1) (omega arith))

pub loop-i-init : goal.loop-i-init
loop-i-init c = (sym (fold_back-start fit_step c.args.s c.args.jobs.now), sym (back_at_start fit_step fit_out c.args.s c.args.jobs.now))

pub loop-i-preserved : goal.loop-i-preserved
loop-i-preserved c =
    let h : 0 < c.loop-i.i = omega (arith, c.loop-i-test.true) in
    let g : c.loop-i.i ≤ length c.args.jobs.now = omega (arith, c.loop-i.auto.i) in (
      c.fit_step-st.ensures ∙ steps c.args.s c.args.jobs.now c.loop-i.i c.loop-i.st c.loop-i.jobs h g c.loop-i.invariant.0 c.loop-i.invariant.1,
      ap (set c.loop-i.jobs (c.loop-i.i - 1)) c.fit_out.ensures ∙ puts c.args.s c.args.jobs.now c.loop-i.i c.loop-i.st c.loop-i.jobs h g c.loop-i.invariant.0 c.loop-i.invariant.1,
    )

pub returns : goal.returns
unfolding fitted_all
returns c =
    let n : c.loop-i.i ≡ 0 = omega (arith, c.loop-i-test.false) in
    c.loop-i.invariant.1 ∙ rw n (back_at_end fit_step fit_out c.args.s c.args.jobs.now)
