-- What is proved of the two engines, of each and that they are alike. Assumes nothing.
use Prim.Native.Nat.{ℕ, ◌-◌, ◌≤◌}
use mathlib.Core.Path.{◌≡◌, refl, sym, ap, ◌∙◌}
use mathlib.Core.Bool.{Bool, true, false}
use mathlib.Core.List.{List}
use native.Mathlib.Omega.{arith}
use lib.Dec.{leb}
use borrow.Author.Tests.{leb-true, leb-false}
use Rattle.rules.specs.Walk.{pick}
use Rattle.rules.specs.Table.{deadline}
use Rattle.rules.specs.Terms.{rule_in}
use Rattle.rules.specs.declared.Terms.{Terms}
use Rattle.tables.specs.Tables.{unless}
use Rattle.theory.specs.Task.{task_load, task_point, task_tick}
use Rattle.theory.proofs.Points as points
use Rattle.theory.proofs.Tasks.{task_last, points_enough, ticks_exactly}
use Rattle.std.specs.Prelude.{None, Some, Result, Ok, Err}
use Rattle.rules.specs.declared.Refusal.{Refusal}
use Rattle.task_verdict.specs.Verdict.{answerable_of, pass_at, verdict_by, plain_of}
use Rattle.task_verdict.specs.Theorems.{Answered, PassPoint, EarliestTick, PassTick, without_tick, EnginesAlike, TickAtMostPoint, Proved}
use Rattle.task_verdict.proofs.Orders.{answerable}
use Rattle.theory.specs.Inner.{least_for}
use Rattle.task_verdict.proofs.Answers.{pass_at_lem, pass-given, Enough, given, reached, passes, engine_proved}

by_points : Enough task_point
by_points rule plan ts parts good i h = points_enough rule plan ts parts good i h

by_ticks : Enough task_tick
by_ticks rule plan ts parts good i h = ticks_exactly rule plan ts i

pass_point : PassPoint
pass_point terms plan ps ts place u e =
    let w = given task_point by_points terms plan ps ts place (Ok (Some u)) (pass-given u) e in
    let p = pass_at_lem (deadline ts (place - 1)) (task_point (rule_in terms) plan ts (place - 1)) u w.1 in
    rw p.0 (points.point_smallest (task_load ts) (least_for (rule_in terms) plan ts (place - 1)) (place - 1) (omega (arith, p.1, task_last ts (place - 1))))

module _ (terms : Terms) (plan ps ts : List ℕ) (place : ℕ) where
  passed_tick : (u : ℕ) → plain_of terms plan ps ts place ≡ Ok (Some u) → Answered terms plan ps ts place × EarliestTick (rule_in terms) plan ts (place - 1) u
  passed_tick u e =
      let w = given task_tick by_ticks terms plan ps ts place (Ok (Some u)) (pass-given u) e in
      let p = pass_at_lem (deadline ts (place - 1)) (task_tick (rule_in terms) plan ts (place - 1)) u w.1 in
      let s = points.tick_smallest (task_load ts) (least_for (rule_in terms) plan ts (place - 1)) (place - 1) (omega (arith, p.1, task_last ts (place - 1))) in
      rw p.0 (w.0, record { from_1 = s.0; to_deadline = p.1; holds = s.1; smallest = s.2 })

  tick_passed : (u : ℕ) → Answered terms plan ps ts place × EarliestTick (rule_in terms) plan ts (place - 1) u → plain_of terms plan ps ts place ≡ Ok (Some u)
  tick_passed u (a, s) =
      let w = passes task_tick by_ticks terms plan ps ts place (a, (u, s.from_1, omega (arith, s.to_deadline, task_last ts (place - 1)), s.holds)) in
      let q = (passed_tick w.0 w.1).1 in
      let e : w.0 ≡ u = omega (arith, q.smallest u s.from_1 s.holds, s.smallest w.0 q.from_1 q.holds) in
      w.1 ∙ ap (λ (x : ℕ). Ok (Some x)) e

pass_tick : PassTick
pass_tick terms plan ps ts place u = (passed_tick terms plan ps ts place u, tick_passed terms plan ps ts place u)

-- two that are at most d alike are said alike
said_alike : (d t u : ℕ) → (t ≤ d → u ≤ d) → (u ≤ d → t ≤ d) → without_tick (pass_at d u) ≡ without_tick (pass_at d t)
unfolding pass_at
said_alike d t u f g = at (leb t d) (leb u d) refl refl
  where
    at : (b c : Bool) → leb t d ≡ b → leb u d ≡ c → without_tick (pick c (Ok (Some u)) (Ok None)) ≡ without_tick (pick b (Ok (Some t)) (Ok None))
    at true true e h = refl
    at true false e h = absurd (omega (arith, f (leb-true t d e), leb-false u d h))
    at false true e h = absurd (omega (arith, g (leb-true u d h), leb-false t d e))
    at false false e h = refl

engines_alike : EnginesAlike
unfolding verdict_by
engines_alike terms plan ps ts place = at (answerable_of terms plan ps ts place) refl
  where
    at : (c : Result (Unit {0}) Refusal) → answerable_of terms plan ps ts place ≡ c
        → without_tick (unless Err c (pass_at (deadline ts (place - 1)) (task_tick (rule_in terms) plan ts (place - 1))))
        ≡ without_tick (unless Err c (pass_at (deadline ts (place - 1)) (task_point (rule_in terms) plan ts (place - 1))))
    at (Ok tt) e =
        let a = answerable terms plan ps ts place e in
        let p = reached task_point by_points terms plan ps ts place a in
        let q = reached task_tick by_ticks terms plan ps ts place a in
        said_alike _ _ _ (λ h. q.0 (p.1 h)) (λ h. p.0 (q.1 h))
    at (Err r) e = refl

tick_at_most_point : TickAtMostPoint
tick_at_most_point terms plan ps ts place u v e f =
    let a = pass_at_lem (deadline ts (place - 1)) (task_point (rule_in terms) plan ts (place - 1)) u (given task_point by_points terms plan ps ts place (Ok (Some u)) (pass-given u) e).1 in
    let b = pass_at_lem (deadline ts (place - 1)) (task_tick (rule_in terms) plan ts (place - 1)) v (given task_tick by_ticks terms plan ps ts place (Ok (Some v)) (pass-given v) f).1 in
    omega (arith, a.0, b.0, points.tick_at_most_point (task_load ts) (least_for (rule_in terms) plan ts (place - 1)) (place - 1))

pub proved : Proved
proved = record {
  by_points = engine_proved task_point by_points;
  by_ticks = engine_proved task_tick by_ticks;
  pass_point = pass_point;
  pass_tick = pass_tick;
  engines_alike = engines_alike;
  tick_at_most_point = tick_at_most_point;
  verdict_one = λ terms plan ps ts place r r' e f. e ∙ sym f;
  plain_one = λ terms plan ps ts place r r' e f. e ∙ sym f;
}
