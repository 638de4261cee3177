-- What each public entry's own contract says, as it is compiled from its `requires` and `ensures`: no `requires`, and one named fact of what was lent, the
-- answer, and what is lent at exit. A contract that says less, or asks for something, is no such contract. Assumes nothing.
use seplogic.Ra.Ura.{Ura}
use base.Logic.{SProp, ent, emp}
use prog.Memory.{Memory}
use prog.Routine.{Routine}
use types.Logic.{Logic}
use contract.Monad.{Fun, fact}
use contract.Lifetimes.{Lfts}
use denote.Triple.Entry.{Args, Res}
use denote.Triple.Clauses.{Ended, Clauses, AtExit}
use Rattle.std.specs.Prelude.{◌≤◌}
use Rattle.rules.specs.Limits.{longest_why}
use Rattle.rules.specs.Table.{WantsIs}
use Rattle.theory.specs.Plan.{HeldIs, LeastIs}
use Rattle.plan_curve.specs.Curve.{DrawsCurve}
use Rattle.plan_check.specs.Check.{Checks}
use Rattle.plan_build.specs.Build.{Builds}
use Rattle.counts.specs.Counts.{FillsCounts, HoldsOne, HoldsMany, Changes}
use Rattle.task_verdict.specs.Verdict.{Judges, JudgesPlainly}
use Rattle.task_page.specs.Page.{Pages}
use Rattle.file_read.specs.Reader.{Reads, HandsBack}
use Rattle.file_write.specs.Writer.{Writes}
use Rattle.output.specs.Put.{Put}
use Rattle.file_runs.specs.Ticks.{ticks_put, runs_put}
use Rattle.file_listing.specs.Listing.{Lists}
use Rattle.why_page.specs.Why.{why_of}
use Rattle.share_text.specs.Table.{ReadsText}
use Rattle.share_plan.specs.Answer.{Plans}
use Rattle.desk.specs.Call.{call_of, Leaves}
use Rattle.api.specs.Answers.{TellsHeld, TellsLeast, TellsCurve, TellsCheck, TellsBuild, TellsFill, TellsCounted, TellsMany, TellsChange, TellsVerdict, TellsPlain, TellsPage, TellsRead, TellsSection, TellsWrite, TellsList, TellsOpen, TellsRequest}
use Rattle.api.specs.contracts.merkazobi_wants as c-wants
use Rattle.api.specs.contracts.merkazobi_held as c-held
use Rattle.api.specs.contracts.merkazobi_least as c-least
use Rattle.api.specs.contracts.merkazobi_curve as c-curve
use Rattle.api.specs.contracts.merkazobi_check as c-check
use Rattle.api.specs.contracts.merkazobi_build as c-build
use Rattle.api.specs.contracts.merkazobi_counts_fill as c-fill
use Rattle.api.specs.contracts.merkazobi_counts_held as c-counts-held
use Rattle.api.specs.contracts.merkazobi_counts_held_many as c-many
use Rattle.api.specs.contracts.merkazobi_counts_change as c-change
use Rattle.api.specs.contracts.merkazobi_verdict as c-verdict
use Rattle.api.specs.contracts.merkazobi_plain as c-plain
use Rattle.api.specs.contracts.merkazobi_page as c-page
use Rattle.api.specs.contracts.merkazobi_read as c_read
use Rattle.api.specs.contracts.merkazobi_section as c-section
use Rattle.api.specs.contracts.merkazobi_write as c-write
use Rattle.api.specs.contracts.merkazobi_list as c-list
use Rattle.api.specs.contracts.merkazobi_open as c-open
use Rattle.api.specs.contracts.merkazobi_request as c-request
use Rattle.rules.specs.contracts.records.wants as wants
use Rattle.plan_service.specs.contracts.held as held
use Rattle.plan_service.specs.contracts.least as least
use Rattle.plan_curve.specs.contracts.curve as curve
use Rattle.plan_check.specs.contracts.check as check
use Rattle.plan_build.specs.contracts.build as build
use Rattle.plan_counts.specs.contracts.fill as fill
use Rattle.plan_counts.specs.contracts.held as counts-held
use Rattle.plan_counts.specs.contracts.held_many as many
use Rattle.plan_counts.specs.contracts.change as change
use Rattle.task_verdict.specs.contracts.verdict as verdict
use Rattle.task_verdict.specs.contracts.plain as plain
use Rattle.task_page.specs.contracts.page as page
use Rattle.file_read.specs.contracts.read as read
use Rattle.file_read.specs.contracts.section as section
use Rattle.file_write.specs.contracts.write as write
use Rattle.file_runs.specs.contracts.ticks_of as ticks-of
use Rattle.file_runs.specs.contracts.runs_of as runs_of
use Rattle.file_listing.specs.contracts.listing as listing
use Rattle.why_page.specs.contracts.compose as why
use Rattle.share_text.specs.contracts.read as read-text
use Rattle.share_plan.specs.contracts.plan as plan
use Rattle.desk_lent.specs.contracts.call as call

module _ {M : Type 1} {𝓤 : Ura M} (𝓛 : Logic 𝓤) (mem : Memory → SProp 𝓤) (run : Routine → Fun 𝓤) where
  -- the contract c asks nothing of its caller, and ensures P of the arguments a, the answer r, and the arguments at exit e
  pub record Ensures (T : Ended) (c : Clauses 𝓤 T) (P : (κs : Lfts T.signature.lifetimes) → Args T.signature κs → Res T.signature κs → AtExit T κs → Type 0) : Type 1 where
    pub asks_nothing : (κs : Lfts T.signature.lifetimes) (a : Args T.signature κs) (g : (c κs a).ghost) → ent 𝓤 (emp 𝓤) ((c κs a).requires g)
    pub ensures : (κs : Lfts T.signature.lifetimes) (a : Args T.signature κs) (g : (c κs a).ghost) (r : Res T.signature κs) (e : AtExit T κs)
        → ent 𝓤 ((c κs a).ensures g r e) (fact 𝓤 (P κs a r e))

  pub record Entries : Type 1 where
    -- the C surface
    pub of_c_wants : Ensures c-wants.ended (c-wants.clauses 𝓛 mem run) (λ κs a r e. WantsIs a.0 a.1.0 a.1.1.0 a.1.1.1.0 r)
    pub of_c_held : Ensures c-held.ended (c-held.clauses 𝓛 mem run) (λ κs a r e. TellsHeld a.0 a.1.0.now a.1.1.0 a.1.1.1.0 a.1.1.1.1.0 r)
    pub of_c_least : Ensures c-least.ended (c-least.clauses 𝓛 mem run) (λ κs a r e. TellsLeast a.0 a.1.0.now a.1.1.0 a.1.1.1.0 r)
    pub of_c_curve : Ensures c-curve.ended (c-curve.clauses 𝓛 mem run)
        (λ κs a r e. TellsCurve a.0 a.1.0.now a.1.1.0 a.1.1.1.0 a.1.1.1.1.0.now e.1.1.1.1.0.now r)
    pub of_c_check : Ensures c-check.ended (c-check.clauses 𝓛 mem run) (λ κs a r e. TellsCheck a.0 a.1.0 a.1.1.0.now a.1.1.1.0.now r)
    pub of_c_build : Ensures c-build.ended (c-build.clauses 𝓛 mem run) (λ κs a r e. TellsBuild a.0 a.1.0.now a.1.1.0.now e.1.1.0.now r)
    pub of_c_fill : Ensures c-fill.ended (c-fill.clauses 𝓛 mem run) (λ κs a r e. TellsFill a.0.now a.1.0.now a.1.1.0.now e.1.1.0.now r)
    pub of_c_counts_held : Ensures c-counts-held.ended (c-counts-held.clauses 𝓛 mem run)
        (λ κs a r e. TellsCounted a.0.now a.1.0.now a.1.1.0.now a.1.1.1.0 a.1.1.1.1.0 a.1.1.1.1.1.0 r)
    pub of_c_many : Ensures c-many.ended (c-many.clauses 𝓛 mem run)
        (λ κs a r e. TellsMany a.0.now a.1.0.now a.1.1.0.now a.1.1.1.0.now a.1.1.1.1.0.now e.1.1.1.1.0.now r)
    pub of_c_change : Ensures c-change.ended (c-change.clauses 𝓛 mem run)
        (λ κs a r e. TellsChange a.0.now a.1.0.now a.1.1.0.now a.1.1.1.0 a.1.1.1.1.0 e.0.now e.1.1.0.now r)
    pub of_c_verdict : Ensures c-verdict.ended (c-verdict.clauses 𝓛 mem run)
        (λ κs a r e. TellsVerdict a.0 a.1.0 a.1.1.0.now a.1.1.1.0.now a.1.1.1.1.0.now a.1.1.1.1.1.0 r)
    pub of_c_plain : Ensures c-plain.ended (c-plain.clauses 𝓛 mem run)
        (λ κs a r e. TellsPlain a.0 a.1.0 a.1.1.0.now a.1.1.1.0.now a.1.1.1.1.0.now a.1.1.1.1.1.0 r)
    pub of_c_page : Ensures c-page.ended (c-page.clauses 𝓛 mem run)
        (λ κs a r e.
        TellsPage a.0 a.1.0 a.1.1.0.now a.1.1.1.0.now a.1.1.1.1.0.now a.1.1.1.1.1.0 a.1.1.1.1.1.1.0.now
        e.1.1.1.1.1.1.0.now r)
    pub of_c_read : Ensures c_read.ended (c_read.clauses 𝓛 mem run) (λ κs a r e. TellsRead a.0.now r)
    pub of_c_section : Ensures c-section.ended (c-section.clauses 𝓛 mem run) (λ κs a r e. TellsSection a.0.now a.1.0 r)
    pub of_c_write : Ensures c-write.ended (c-write.clauses 𝓛 mem run)
        (λ κs a r e. TellsWrite a.0 a.1.0 a.1.1.0.now a.1.1.1.0.now a.1.1.1.1.0.now a.1.1.1.1.1.0.now e.1.1.1.1.1.0.now r)
    pub of_c_list : Ensures c-list.ended (c-list.clauses 𝓛 mem run) (λ κs a r e. TellsList a.0.now a.1.0.now e.1.0.now r)
    pub of_c_open : Ensures c-open.ended (c-open.clauses 𝓛 mem run) (λ κs a r e. TellsOpen a.0.now a.1.0.now e.0.now e.1.0.now r)
    pub of_c_request : Ensures c-request.ended (c-request.clauses 𝓛 mem run)
        (λ κs a r e. TellsRequest a.0.now a.1.0.now a.1.1.0 a.1.1.1.0 a.1.1.1.1.0 e.0.now e.1.0.now r)
    -- the entries of the crates
    pub of_wants : Ensures wants.ended (wants.clauses 𝓛 mem run) (λ κs a r e. WantsIs a.0 a.1.0 a.1.1.0 a.1.1.1.0 r)
    pub of_held : Ensures held.ended (held.clauses 𝓛 mem run) (λ κs a r e. HeldIs a.0 a.1.0.now a.1.1.0 a.1.1.1.0 a.1.1.1.1.0 r)
    pub of_least : Ensures least.ended (least.clauses 𝓛 mem run) (λ κs a r e. LeastIs a.0 a.1.0.now a.1.1.0 a.1.1.1.0 r)
    pub of_curve : Ensures curve.ended (curve.clauses 𝓛 mem run)
        (λ κs a r e. DrawsCurve a.0 a.1.0.now a.1.1.0 a.1.1.1.0 a.1.1.1.1.0.now e.1.1.1.1.0.now r)
    pub of_check : Ensures check.ended (check.clauses 𝓛 mem run) (λ κs a r e. Checks a.0 a.1.0.now a.1.1.0.now r)
    pub of_build : Ensures build.ended (build.clauses 𝓛 mem run) (λ κs a r e. Builds a.0 a.1.0.now a.1.1.0.now e.1.1.0.now r)
    pub of_fill : Ensures fill.ended (fill.clauses 𝓛 mem run) (λ κs a r e. FillsCounts a.0.now a.1.0.now a.1.1.0.now e.1.1.0.now r)
    pub of_counts_held : Ensures counts-held.ended (counts-held.clauses 𝓛 mem run)
        (λ κs a r e. HoldsOne a.0.now a.1.0.now a.1.1.0.now a.1.1.1.0 a.1.1.1.1.0 a.1.1.1.1.1.0 r)
    pub of_many : Ensures many.ended (many.clauses 𝓛 mem run)
        (λ κs a r e. HoldsMany a.0.now a.1.0.now a.1.1.0.now a.1.1.1.0.now a.1.1.1.1.0.now e.1.1.1.1.0.now r)
    pub of_change : Ensures change.ended (change.clauses 𝓛 mem run)
        (λ κs a r e. Changes a.0.now a.1.0.now a.1.1.0.now a.1.1.1.0 a.1.1.1.1.0 e.0.now e.1.1.0.now r)
    pub of_verdict : Ensures verdict.ended (verdict.clauses 𝓛 mem run) (λ κs a r e. Judges a.0 a.1.0.now a.1.1.0.now a.1.1.1.0.now a.1.1.1.1.0 r)
    pub of_plain : Ensures plain.ended (plain.clauses 𝓛 mem run) (λ κs a r e. JudgesPlainly a.0 a.1.0.now a.1.1.0.now a.1.1.1.0.now a.1.1.1.1.0 r)
    pub of_page : Ensures page.ended (page.clauses 𝓛 mem run)
        (λ κs a r e. Pages a.0 a.1.0.now a.1.1.0.now a.1.1.1.0.now a.1.1.1.1.0 a.1.1.1.1.1.0.now e.1.1.1.1.1.0.now r)
    pub of_read : Ensures read.ended (read.clauses 𝓛 mem run) (λ κs a r e. Reads a.0.now r)
    pub of_section : Ensures section.ended (section.clauses 𝓛 mem run) (λ κs a r e. HandsBack a.0.now a.1.0 r.now)
    pub of_write : Ensures write.ended (write.clauses 𝓛 mem run)
        (λ κs a r e. Writes a.0 a.1.0 a.1.1.0.now a.1.1.1.0.now a.1.1.1.1.0.now a.1.1.1.1.1.0.now e.1.1.1.1.1.0.now r)
    pub of_ticks : Ensures ticks-of.ended (ticks-of.clauses 𝓛 mem run) (λ κs a r e. Put a.1.0.now 0 (ticks_put a.0.now) r e.1.0.now)
    pub of_runs : Ensures runs_of.ended (runs_of.clauses 𝓛 mem run) (λ κs a r e. Put a.1.0.now 0 (runs_put a.0.now) r e.1.0.now)
    pub of_listing : Ensures listing.ended (listing.clauses 𝓛 mem run) (λ κs a r e. Lists a.0.now a.1.0.now e.1.0.now r)
    pub of_why : Ensures why.ended (why.clauses 𝓛 mem run)
        (λ κs a r e. Put a.1.1.0.now 0 (why_of a.0.now a.1.0) r e.1.1.0.now × (r ≤ longest_why))
    pub of_share_table : Ensures read-text.ended (read-text.clauses 𝓛 mem run)
        (λ κs a r e. ReadsText a.0.now a.1.0.now a.1.1.0.now e.1.0.now e.1.1.0.now r)
    pub of_planner : Ensures plan.ended (plan.clauses 𝓛 mem run) (λ κs a r e. Plans a.0 a.1.0.now a.1.1.0.now e.1.1.0.now r)
    pub of_desk : Ensures call.ended (call.clauses 𝓛 mem run)
        (λ κs a r e. Leaves (call_of a.0.now.clock a.0.now.count a.1.0.now a.1.1.0) r e.0.now e.1.0.now)
