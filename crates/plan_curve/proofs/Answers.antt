-- What the call answers, and every promise of specs/Theorems.antt, proved. Assumes nothing.
use Prim.Native.Nat.{ℕ, ◌+◌, ◌≤◌, ◌<◌}
use mathlib.Core.Path.{◌≡◌, refl, sym, ap, ◌∙◌}
use mathlib.Core.Logic.{◌⊎◌, inl, inr}
use mathlib.Core.Bool.{Bool, true, false}
use mathlib.Core.List.{List, ◌++◌}
use native.Mathlib.Omega.{arith}
use lib.ListN.{length, get_or, drop, get_or-append}
use borrow.Author.Tests.{lt-ltb, le-ltb}
use Rattle.rules.specs.Filling.{left_by}
use Rattle.rules.specs.Terms.{good_edition, rule_of}
use Rattle.rules.specs.declared.Rule.{Rule}
use Rattle.rules.specs.declared.Refusal.TheVariants.{Edition, Output}
use Rattle.std.specs.Prelude.{Result, Ok, Err}
use Rattle.rules.specs.declared.Refusal.{Refusal}
use Rattle.rules.proofs.Named.{listed-length, listed_at, new_tail}
use Rattle.rules.proofs.Sum.{le-or-lt}
use Rattle.theory.specs.Plan.{least}
use Rattle.plan_curve.specs.Curve.{least_curve, curve_of}
use Rattle.plan_curve.specs.Theorems.{CurveIs, CurveBy, curve_edition, curve-length, curve-done, CurveAnswers, CurveLeaves, CurveOne, Proved}
use Rattle.plan_curve.proofs.Worst.{worst_behind_run, worst_start_lem}

pub other_edition : (e n room : ℕ) → good_edition e ≡ false → Err Edition ≡ curve_of e n room
unfolding curve_of
other_edition e n room g = rw g

pub short : (e n room : ℕ) → good_edition e ≡ true → room < n + 1 → Err Output ≡ curve_of e n room
unfolding curve_of
short e n room g l = rw (g, lt-ltb room (n + 1) l)

pub enough : (e n room : ℕ) → good_edition e ≡ true → n + 1 ≤ room → Ok (n + 1) ≡ curve_of e n room
unfolding curve_of
enough e n room g l = rw (g, le-ltb room (n + 1) l)

pub curve_is : CurveIs
curve_is rule plan p n = (listed-length (least rule plan p) (n + 1), λ t l. listed_at (least rule plan p) (n + 1) t (omega arith))

pub curve_answers : CurveAnswers
curve_answers e n room = go (good_edition e) refl (le-or-lt (n + 1) room)
  where
    go : (b : Bool) → good_edition e ≡ b → (n + 1 ≤ room) ⊎ (room < n + 1) → CurveBy e n room (curve_of e n room)
    go false g l = rw (← other_edition e n room g) (curve_edition g)
    go true g (inl l) = rw (← enough e n room g l) (curve-done g l)
    go true g (inr l) = rw (← short e n room g l) (curve-length g l)

pub curve_one : CurveOne
curve_one e plan p n list o o' r r' a b =
    let q : r ≡ r' = a.0 ∙ sym b.0 in
    (q, a.1 ∙ ap (λ (x : Result ℕ Refusal). left_by x (least_curve (rule_of e) plan p n) list) q ∙ sym b.1)

pub curve_leaves : CurveLeaves
curve_leaves e plan p n m list o (a, b) = go (rule_of e) b (curve_of e n (length list)) (curve_answers e n (length list)) a
  where
    go : (rule : Rule) → o ≡ least_curve rule plan p n ++ drop m list → (f : Result ℕ Refusal) → CurveBy e n (length list) f → Ok m ≡ f
        → (m ≡ n + 1) × (length o ≡ length list) × ((t : ℕ) → t ≤ n → get_or o t 0 ≡ least rule plan p t) × ((t : ℕ) → n < t → get_or o t 0 ≡ get_or list t 0)
    go rule b f (curve_edition g) q = let z : ◌≡◌ {A = ℕ} 0 1 = cc in absurd (omega arith)
    go rule b f (curve-length g l) q = let z : ◌≡◌ {A = ℕ} 0 1 = cc in absurd (omega arith)
    go rule b f (curve-done g l) q =
        let z : m ≡ n + 1 = cc in
        let h : o ≡ least_curve rule plan p n ++ drop (n + 1) list = rw z at b in
        let k = new_tail (least_curve rule plan p n) list o (n + 1) h (curve_is rule plan p n).0 l in (
          z,
          k.0,
          λ t g. ap (λ (x : List ℕ). get_or x t 0) h ∙ get_or-append (least_curve rule plan p n) (drop (n + 1) list) 0 t (omega (arith, (curve_is rule plan p n).0)) ∙ (curve_is rule plan p n).1 t g,
          λ t g. k.1 t (omega arith),
        )

pub proved : Proved
proved = record { worst_behind_run = worst_behind_run; worst_start_lem = worst_start_lem; curve_is = curve_is; curve_answers = curve_answers; curve_leaves = curve_leaves; curve_one = curve_one }
