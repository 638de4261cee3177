-- What each entry of the C surface tells, and what then stands in all that was lent: the entry's own rule, told as a number and five values; e is the call's edition, g its granule. (`wants` answers with
-- the number itself: `WantsIs`.) Assumes nothing.
use Rattle.std.specs.Prelude.{ℕ, List, Result}
use Rattle.rules.specs.Terms.{given, granules}
use Rattle.rules.specs.declared.Told.{Told}
use Rattle.rules.specs.Refusals.{told_done, told_count, Tells}
use Rattle.theory.specs.Plan.{HeldIs, LeastIs}
use Rattle.plan_curve.specs.Curve.{DrawsCurve}
use Rattle.plan_check.specs.Check.{Checks}
use Rattle.plan_build.specs.Build.{Builds}
use Rattle.counts.specs.Counts.{FillsCounts, HoldsOne, HoldsMany, Changes}
use Rattle.task_verdict.specs.Verdict.{Judges, JudgesPlainly, told_judged}
use Rattle.task_page.specs.Page.{Pages, told_page}
use Rattle.file_read.specs.Reader.{told_reading, Reads}
use Rattle.file_write.specs.Writer.{Writes}
use Rattle.file_listing.specs.Listing.{Lists}
use Rattle.desk.specs.declared.Job.{Job}
use Rattle.desk.specs.declared.Desk.{Desk}
use Rattle.desk.specs.declared.Done.{Done}
use Rattle.rules.specs.declared.Refusal.{Refusal}
use Rattle.desk.specs.Table.{open_of}
use Rattle.desk.specs.Request.{request_of}
use Rattle.desk.specs.Call.{Leaves, said}
use Rattle.answers.specs.Parts.{told_part}

abbrev pub TellsHeld : ℕ → List ℕ → ℕ → ℕ → ℕ → Told → Type 0
TellsHeld e plan p s n = Tells told_count (HeldIs e plan p s n)

abbrev pub TellsLeast : ℕ → List ℕ → ℕ → ℕ → Told → Type 0
TellsLeast e plan p t = Tells told_count (LeastIs e plan p t)

abbrev pub TellsCurve : ℕ → List ℕ → ℕ → ℕ → List ℕ → List ℕ → Told → Type 0
TellsCurve e plan p n list o = Tells told_count (DrawsCurve e plan p n list o)

abbrev pub TellsCheck : ℕ → ℕ → List ℕ → List ℕ → Told → Type 0
TellsCheck e g plan ps = Tells told_done (Checks (given e g) plan ps)

abbrev pub TellsBuild : ℕ → List ℕ → List ℕ → List ℕ → Told → Type 0
TellsBuild g ps out o = Tells told_count (Builds (granules g) ps out o)

abbrev pub TellsFill : List ℕ → List ℕ → List ℕ → List ℕ → Told → Type 0
TellsFill plan ps list o = Tells told_count (FillsCounts plan ps list o)

abbrev pub TellsCounted : List ℕ → List ℕ → List ℕ → ℕ → ℕ → ℕ → Told → Type 0
TellsCounted plan ps list p s n = Tells told_count (HoldsOne plan ps list p s n)

abbrev pub TellsMany : List ℕ → List ℕ → List ℕ → List ℕ → List ℕ → List ℕ → Told → Type 0
TellsMany plan ps list qs out o = Tells told_count (HoldsMany plan ps list qs out o)

-- plan and list, as lent, and plan' and o what they then hold
abbrev pub TellsChange : List ℕ → List ℕ → List ℕ → ℕ → ℕ → List ℕ → List ℕ → Told → Type 0
TellsChange plan ps list tick owner plan' o = Tells told_done (Changes plan ps list tick owner plan' o)

abbrev pub TellsVerdict : ℕ → ℕ → List ℕ → List ℕ → List ℕ → ℕ → Told → Type 0
TellsVerdict e g plan ps ts place = Tells told_judged (Judges (given e g) plan ps ts place)

abbrev pub TellsPlain : ℕ → ℕ → List ℕ → List ℕ → List ℕ → ℕ → Told → Type 0
TellsPlain e g plan ps ts place = Tells told_judged (JudgesPlainly (given e g) plan ps ts place)

-- the list of rows, as lent, and o what it then holds
abbrev pub TellsPage : ℕ → ℕ → List ℕ → List ℕ → List ℕ → ℕ → List ℕ → List ℕ → Told → Type 0
TellsPage e g plan ps ts place list o = Tells told_page (Pages (given e g) plan ps ts place list o)

abbrev pub TellsRead : List ℕ → Told → Type 0
TellsRead b = Tells told_reading (Reads b)

abbrev pub TellsSection : List ℕ → ℕ → Told → Type 0
TellsSection b which = Tells (told_part which) (Reads b)

abbrev pub TellsWrite : ℕ → ℕ → List ℕ → List ℕ → List ℕ → List ℕ → List ℕ → Told → Type 0
TellsWrite e frame ps ts rs out o = Tells told_count (Writes e frame ps ts rs out o)

abbrev pub TellsList : List ℕ → List ℕ → List ℕ → Told → Type 0
TellsList b out o = Tells told_count (Lists b out o)

-- the record k and the table l, as lent, and k' and l' what they then hold
abbrev pub TellsOpen : Desk → List Job → Desk → List Job → Told → Type 0
TellsOpen k l k' l' = Tells said (λ (a : Result Done Refusal). Leaves (open_of k.clock k.count l) a k' l')

abbrev pub TellsRequest : Desk → List Job → ℕ → ℕ → ℕ → Desk → List Job → Told → Type 0
TellsRequest k l t c d k' l' = Tells said (λ (a : Result Done Refusal). Leaves (request_of k.clock k.count l t c d) a k' l')
