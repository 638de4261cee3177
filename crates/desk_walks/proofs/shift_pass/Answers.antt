use Prim.Native.Nat.{ℕ, ◌+◌, ◌<◌}
use mathlib.Core.Path.{◌≡◌, ap, sym, ◌∙◌}
use mathlib.Core.List.{List}
use lib.ListN.{length, take, get_or, set}
use native.Mathlib.Omega.{arith}
use Rattle.desk.specs.Table.{none}
use Rattle.desk.specs.declared.Job.{Job}
use Rattle.desk_records.specs.Folds.{fold}
use Rattle.desk_writing.specs.declared.shift.Shift.{Shift}
use Rattle.desk_writing.specs.Writing.{shifted, shift_step, shift_out}
use Rattle.desk_walks.proofs.Along.{fold-zero, fold_more, forth_at, forth_at_zero, forth_at_read, forth_at_more, forth_at_end}
use Rattle.desk_walks.proofs.shift_pass.Goals as goal

-- the job at i is still the one that was lent
reads : (s : Shift) (l : List Job) (i : ℕ) (m : List Job) → i < length l → m ≡ forth_at shift_step shift_out s l i → get_or m i none ≡ get_or l i none
reads s l i m h w = rw w (forth_at_read shift_step shift_out s l i h)

steps : (s : Shift) (l : List Job) (i : ℕ) (v : Shift) (m : List Job) → i < length l → v ≡ fold shift_step s (take i l) → m ≡ forth_at shift_step shift_out s l i
    → shift_step v (get_or m i none) ≡ fold shift_step s (take (i + 1) l)
steps s l i v m h e w = rw (e, reads s l i m h w) (fold_more shift_step s l i h)

puts : (s : Shift) (l : List Job) (i : ℕ) (v : Shift) (m : List Job) → i < length l → v ≡ fold shift_step s (take i l) → m ≡ forth_at shift_step shift_out s l i
    → set m i (shift_out v (get_or m i none)) ≡ forth_at shift_step shift_out s l (i + 1)
puts s l i v m h e w = rw (e, reads s l i m h w, w) (forth_at_more shift_step shift_out s l i h)

pub loop-place-init : goal.loop-place-init
loop-place-init c = (sym (fold-zero shift_step c.args.s c.args.jobs.now), sym (forth_at_zero shift_step shift_out c.args.s c.args.jobs.now))

pub loop-place-preserved : goal.loop-place-preserved
loop-place-preserved c =
    let i = c.loop-place.place-index in
    let h : i < length c.args.jobs.now = omega (arith, c.loop-place-test.true, c.loop-place.auto.jobs) in (
      c.shift_step-st.ensures ∙ steps c.args.s c.args.jobs.now i c.loop-place.st c.loop-place.jobs h c.loop-place.invariant.0 c.loop-place.invariant.1,
      ap (set c.loop-place.jobs i) c.shift_out.ensures ∙ puts c.args.s c.args.jobs.now i c.loop-place.st c.loop-place.jobs h c.loop-place.invariant.0 c.loop-place.invariant.1,
    )

pub returns : goal.returns
unfolding shifted
returns c =
    let n : c.loop-place.place-index ≡ length c.args.jobs.now = omega (arith, c.loop-place-test.false, c.loop-place.auto.jobs, c.loop-place.auto.place-index-end) in
    c.loop-place.invariant.1 ∙ rw n (forth_at_end shift_step shift_out c.args.s c.args.jobs.now)
