use mathlib.Core.Path.{sym, ◌∙◌, subst}
use Rattle.desk.specs.Call.{call_of}
use Rattle.desk_engine.specs.declared.effect.Effect.{Effect}
use Rattle.desk_engine.proofs.Whole.{Made, call_law}
use Rattle.desk_lent.proofs.call.Goals as goal

-- what the one reading pass decides is what the call leaves
pub returns : goal.returns
returns c =
    let e = c.serve-done.ensures.0 ∙ rw (c.opens.ensures, c.scan_for-s.ensures) in
    let w = subst (λ (p : Effect). Made c.args.jobs.now p (call_of c.args.desk.now.clock c.args.desk.now.count c.args.jobs.now c.args.ask)) (sym e) (call_law c.args.desk.now c.args.jobs.now c.args.ask) in
    (w.0, w.1, c.serve-done.ensures.1 ∙ w.2)
