-- A refusal is known by its number and what is told beside it, but for 8: told with place 0 it is a question's; and a given edition by its rule. Assumes nothing.
use Prim.Native.Nat.{ℕ, ◌≤◌}
use mathlib.Core.Path.{◌≡◌, refl, sym, ap, ◌∙◌}
use native.Mathlib.Omega.{arith}
use mathlib.Core.Bool.{Bool, true, false}
use lib.Dec.{eqb}
use Rattle.rules.specs.Walk.{pick}
use Rattle.rules.specs.Terms.{good_edition, rule_of, rule_given}
use Rattle.rules.specs.declared.Rule.{Rule}
use Rattle.rules.specs.Refusals.{placed, told, told_done, told_count, Tells}
use Rattle.rules.specs.declared.Told.{Told}
use Rattle.rules.specs.declared.Refusal.{Refusal}
use Rattle.rules.specs.declared.Refusal.TheVariants.{Short, Edition, Limits, Offset, Length, Partition, Task, Tick, Asked, Shortfall, Unharmonic, Want, Output, Rules, Numbers, Past, Busy, Full, NoPlace, Counts, Granule, Beyond}
use Rattle.rules.specs.declared.Explanation.{Explanation}
use Rattle.rules.specs.declared.Explanation.TheVariants.{Nowhere, Roomiest}
use Rattle.rules.specs.declared.Binding.TheVariants.{Own, Listed}
use Rattle.std.specs.Prelude.{Result, Ok, Err}

-- the explanation of its values
abbrev explaining : ℕ → ℕ → ℕ → ℕ → Explanation
explaining place room kind job = pick (eqb kind 0) Nowhere (Roomiest place room (pick (eqb kind 1) Own (Listed job)))

-- the refusal of a number and its values
abbrev pub named : ℕ → ℕ → ℕ → ℕ → ℕ → Refusal
named n a b c d =
    pick (eqb n 1) Short (pick (eqb n 2) Edition (pick (eqb n 3) Limits (pick (eqb n 4) Offset (pick (eqb n 5) Length
    (pick (eqb n 6) (Partition a) (pick (eqb n 7) (Task a) (pick (eqb n 8) (Tick a) (pick (eqb n 9) (Shortfall a b c d)
    (pick (eqb n 10) Unharmonic (pick (eqb n 11) Want (pick (eqb n 12) Output (pick (eqb n 13) Rules (pick (eqb n 14) Numbers
    (pick (eqb n 15) Past (pick (eqb n 16) Busy (pick (eqb n 17) Full (pick (eqb n 18) (NoPlace (explaining a b c d)) (pick (eqb n 20) Counts (pick (eqb n 21) Granule (Beyond b))))))))))))))))))))

told_named : (r : Refusal) → ¬ ((told r).number ≡ 8) → r ≡ named (told r).number (told r).first (told r).second (told r).third (told r).fourth
told_named Short h = refl
told_named Edition h = refl
told_named Limits h = refl
told_named Offset h = refl
told_named Length h = refl
told_named (Partition k) h = refl
told_named (Task j) h = refl
told_named (Tick t) h = refl
told_named (Asked k) h = absurd (h refl)
told_named (Shortfall p s h w) g = refl
told_named Unharmonic h = refl
told_named Want h = refl
told_named Output h = refl
told_named Rules h = refl
told_named Numbers h = refl
told_named Past h = refl
told_named Busy h = refl
told_named Full h = refl
told_named (NoPlace Nowhere) h = refl
told_named (NoPlace (Roomiest place room Own)) h = refl
told_named (NoPlace (Roomiest place room (Listed job))) h = refl
told_named Counts h = refl
told_named Granule h = refl
told_named (Beyond k) h = refl

-- the refusal that is told as t
pub by_told : (r : Refusal) (t : Told) → ¬ (t.number ≡ 8) → told r ≡ t → r ≡ named t.number t.first t.second t.third t.fourth
by_told r t h e = told_named r (λ q. h (sym (ap (λ (u : Told). u.number) e) ∙ q)) ∙ ap (λ (u : Told). named u.number u.first u.second u.third u.fourth) e

-- the refusal of a number, for those told without values
pub by_number : (r : Refusal) (n : ℕ) → ¬ (n ≡ 8) → (told r).number ≡ n → r ≡ named n (told r).first (told r).second (told r).third (told r).fourth
by_number r n h e = told_named r (λ q. h (sym e ∙ q)) ∙ ap (λ (m : ℕ). named m (told r).first (told r).second (told r).third (told r).fourth) e

-- no refusal has number 0
pub not_0 : (r : Refusal) → ¬ ((told r).number ≡ 0)
not_0 r e = let z : (told r).number ≡ 26 = ap (λ (x : Refusal). (told x).number) (by_number r 0 (λ q. absurd (omega arith)) e) in absurd (omega arith)

-- ---- what is told of findings and fillings

pub found-good : (f : Result (Unit {0}) Refusal) → (told_done f).number ≡ 0 → f ≡ (Ok tt)
found-good (Ok _) e = refl
found-good (Err r) e = absurd (not_0 r e)

pub found-refused : (f : Result (Unit {0}) Refusal) (t : Told) → 1 ≤ t.number → ¬ (t.number ≡ 8) → told_done f ≡ t
    → f ≡ Err (named t.number t.first t.second t.third t.fourth)
found-refused (Ok _) t h g e = let z : 0 ≡ t.number = ap (λ (u : Told). u.number) e in absurd (omega arith)
found-refused (Err r) t h g e = ap Err (by_told r t g e)

pub filling_fills : (f : Result ℕ Refusal) → (told_count f).number ≡ 0 → f ≡ Ok (told_count f).first
filling_fills (Ok n) e = refl
filling_fills (Err r) e = absurd (not_0 r e)

pub filling_as : (f : Result ℕ Refusal) (n : ℕ) → told_count f ≡ placed 0 n → f ≡ Ok n
filling_as f n e = filling_fills f (ap (λ (u : Told). u.number) e) ∙ ap (λ (u : Told). Ok u.first) e

pub filling_refused : (f : Result ℕ Refusal) (n : ℕ) → 1 ≤ n → (told_count f).number ≡ n → (r : Refusal) × (f ≡ Err r) × ((told r).number ≡ n)
filling_refused (Ok m) n h e = absurd (omega arith)
filling_refused (Err r) n h e = (r, refl, e)

-- ---- a call's answer

-- a call that tells what is told of the one answer f
pub tells_one : {A : Type 0} (tell : A → Told) (Answers : A → Type 0) (f : A) → ((r : A) → Answers r → r ≡ f) → (t : Told) → Tells tell Answers t → t ≡ tell f
tells_one tell Answers f one t (r, p, e) = e ∙ ap tell (one r p)

-- ---- an edition that is given

-- a rule is found of a good edition alone, and is that edition's
pub edition_given : (e : ℕ) (r : Rule) → rule_given e ≡ Ok r → (good_edition e ≡ true) × (r ≡ rule_of e)
edition_given e r q = go (good_edition e) refl q
  where
    go : (b : Bool) → good_edition e ≡ b → pick b (Ok (rule_of e)) (Err Edition) ≡ Ok r → (good_edition e ≡ true) × (r ≡ rule_of e)
    go true g q = let z : rule_of e ≡ r = cc q in (g, sym z)
    go false g q = let z : ◌≡◌ {A = ℕ} 0 1 = cc in absurd (omega arith)
