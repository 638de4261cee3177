use Prim.Native.Nat.{ℕ, ◌+◌, ◌-◌, ◌<◌, ◌≤◌}
use mathlib.Core.Path.{◌≡◌, ap, sym, ◌∙◌}
use mathlib.Core.List.{List}
use lib.ListN.{length, get_or, set}
use native.Mathlib.Omega.{arith}
use Rattle.desk.specs.Table.{none}
use Rattle.desk.specs.declared.Job.{Job}
use Rattle.desk_walks.proofs.Along.{move_at, move_at_zero, move_at_more, move_at_read, move_at_end}
use Rattle.desk_records.specs.Folds.{moved_up}
use Rattle.desk_records.proofs.Moved.{moved_none}
use Rattle.desk_walks.proofs.drop_pass.Goals as goal

-- the job at k + i, put at i, is the next of those moved
moves : (k : ℕ) (l : List Job) (i f : ℕ) (m : List Job) → f ≡ k + i → f < length l → m ≡ move_at k l i → set m i (get_or m f none) ≡ move_at k l (i + 1)
moves k l i f m e h w =
    let g : k + i < length l = omega (arith, e, h) in
    rw (w, e, move_at_read k l i g) (move_at_more k l i g)

pub returns-then-k-eq0 : goal.returns-then-k-eq0
returns-then-k-eq0 c = sym (ap (λ (k : ℕ). moved_up k c.args.jobs.now) c.if-k-eq0.true ∙ moved_none c.args.jobs.now)

pub loop-from-init : goal.loop-from-init
loop-from-init c =
    let e : c.args.k - c.args.k ≡ 0 = omega arith in
    (omega arith, sym (rw e (move_at_zero c.args.k c.args.jobs.now)))

pub loop-from-preserved : goal.loop-from-preserved
loop-from-preserved c =
    let f = c.loop-from.from in
    let k = c.args.k in
    let l : k ≤ f = omega (arith, c.loop-from.auto.from) in
    let g : f < length c.args.jobs.now = omega (arith, c.loop-from-test.true) in
    let e : f ≡ k + (f - k) = omega (arith, l) in
    let n : f + 1 - k ≡ f - k + 1 = omega (arith, l) in
    (omega (arith, g), moves k c.args.jobs.now (f - k) f c.loop-from.jobs e g c.loop-from.invariant.1 ∙ ap (move_at k c.args.jobs.now) (sym n))

pub returns : goal.returns
returns c =
    let f = c.loop-from.from in
    let k = c.args.k in
    c.loop-from.invariant.1
    ∙ move_at_end k c.args.jobs.now (f - k) (omega (arith, c.loop-from.auto.from, c.loop-from.invariant.0)) (omega (arith, c.loop-from.auto.from, c.loop-from-test.false))
