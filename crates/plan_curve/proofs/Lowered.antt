-- What the list holds after so many starts, and that after all of them it is least service. Assumes nothing.
use Prim.Native.Nat.{ℕ, zero, suc, ◌+◌, ◌-◌, ◌%◌, ◌≤◌, ◌<◌, min}
use mathlib.Core.Path.{◌≡◌, sym, ap, ap₂, ◌∙◌}
use mathlib.Core.Logic.{◌⊎◌, inl, inr}
use mathlib.Core.Bool.{Bool, true, false}
use mathlib.Core.List.{List}
use native.Mathlib.Nat.{eq-or-lt_of_le, le_of_suc-le-suc, mod-eq_of_lt, mod-add-mod, mod_self}
use native.Mathlib.Numerals.{add-one}
use native.Mathlib.Decide.{ℕ_discrete}
use native.Mathlib.Omega.{arith}
use lib.ListN.{length, get_or, set}
use borrow.Author.Tests.{eq-eqb, ne_eqb}
use Rattle.rules.specs.Walk.{pick}
use Rattle.rules.specs.Inner.{AsNamed}
use Rattle.rules.specs.declared.Rule.{Rule}
use Rattle.rules.proofs.Named.{named-turn, named_as, named_then}
use Rattle.rules.proofs.Least.{smallest-zero}
use Rattle.theory.specs.Plan.{held, least}
use Rattle.theory.proofs.Plan.{least_is_least, least_attained, least_bounds}
use Rattle.plan_service.proofs.Turns.{empty-idle, empty_other}
use Rattle.plan_curve.specs.Curve.{start_tried}
use Rattle.plan_curve.specs.Inner.{most, lower_from, LoweredOn, lower_at}
use Rattle.plan_curve.proofs.Worst.{worst_start_lem}

-- number t after the starts before s
unfoldable pub lowered : Rule → List ℕ → ℕ → ℕ → ℕ → ℕ
lowered rule plan p zero t = most (length plan) p t
lowered rule plan p (suc s) t = pick (start_tried rule plan p s) (min (lowered rule plan p s t) (held rule plan p t s)) (lowered rule plan p s t)

pick-le : (b : Bool) (x y : ℕ) → pick b (min x y) x ≤ x
pick-le true x y = omega arith
pick-le false x y = omega arith

module _ (rule : Rule) (plan : List ℕ) (p t : ℕ) where
  -- no more than what a start that counts holds
  lowered_le : (n c : ℕ) → c < n → start_tried rule plan p c ≡ true → lowered rule plan p n t ≤ held rule plan p t c
  unfolding lowered
  lowered_le zero c l b = absurd (omega arith)
  lowered_le (suc n) c l b = go (lowered_le n c) (eq-or-lt_of_le (le_of_suc-le-suc l))
    where
      go : (c < n → start_tried rule plan p c ≡ true → lowered rule plan p n t ≤ held rule plan p t c) → (c ≡ n) ⊎ (c < n) → pick (start_tried rule plan p n) (min (lowered rule plan p n t) (held rule plan p t n)) (lowered rule plan p n t) ≤ held rule plan p t c
      go ih (inl e) = rw (← e, b) (omega arith)
      go ih (inr m) = omega (arith, ih m b, pick-le (start_tried rule plan p n) (lowered rule plan p n t) (held rule plan p t n))

  most_is : 0 < length plan → most (length plan) p t ≡ t
  unfolding most
  most_is h = rw (ne_eqb (length plan) 0 (λ e. absurd (omega arith)))

  -- never less than least service
  lowered_ge : (n : ℕ) → 0 < length plan → least rule plan p t ≤ lowered rule plan p n t
  unfolding lowered
  lowered_ge zero h = rw (most_is h) (least_bounds rule plan p t)
  lowered_ge (suc n) h = or (start_tried rule plan p n) (lowered_ge n h)
    where
      or : (b : Bool) → least rule plan p t ≤ lowered rule plan p n t → least rule plan p t ≤ pick b (min (lowered rule plan p n t) (held rule plan p t n)) (lowered rule plan p n t)
      or true i = omega (arith, least_is_least rule plan p t n h)
      or false i = i

  full : 0 < length plan → lowered rule plan p (length plan) t ≡ least rule plan p t
  full h =
      let a = least_attained rule plan p t h in
      let w = worst_start_lem rule plan p t a.0 a.1 in
      omega (arith, a.2, w.3, lowered_le (length plan) w.0 w.1 w.2, lowered_ge (length plan) h)

-- of an empty plan there is no start: every tick is idle
none : (rule : Rule) (plan : List ℕ) (p t : ℕ) → length plan ≡ 0 → Dec (p ≡ 0) → lowered rule plan p (length plan) t ≡ least rule plan p t
unfolding lowered least most
none rule plan p t e (yes z) = rw (e, eq-eqb (length plan) 0 e, eq-eqb p 0 z, smallest-zero) (empty-idle rule plan p 0 t e z)
none rule plan p t e (no n) = rw (e, eq-eqb (length plan) 0 e, ne_eqb p 0 n, smallest-zero) (empty_other rule plan p 0 t e n)

-- after all starts the numbers are least service
lowered_all : (rule : Rule) (plan : List ℕ) (p t : ℕ) → lowered rule plan p (length plan) t ≡ least rule plan p t
lowered_all rule plan p t = go (ℕ_discrete (length plan) 0)
  where
    go : Dec (length plan ≡ 0) → lowered rule plan p (length plan) t ≡ least rule plan p t
    go (yes e) = none rule plan p t e (ℕ_discrete p 0)
    go (no n) = full rule plan p t (omega arith)

-- ---- the laws that the code's proofs cite

module _ (rule : Rule) (plan : List ℕ) (p s : ℕ) where
  -- one number more
  lower-turn : (t h v : ℕ) (before cur after : List ℕ) → AsNamed (lower_from rule plan p s before) t before cur → t < length before → h ≡ held rule plan p t s
      → v ≡ min (get_or cur t 0) h → after ≡ set cur t v → AsNamed (lower_from rule plan p s before) (t + 1) before after
  unfolding lower_from
  lower-turn t h v before cur after w l eh ev ea =
      named-turn _ t v before cur after w l ea (ev ∙ ap₂ min (w.rest t (omega arith)) eh)

  pub row-none : (b : ℕ) (l : List ℕ) → LoweredOn rule plan p s b b l l
  row-none b l = record { goes_on = λ before w. w }

  pub row-turn : (b t h v : ℕ) (from cur after : List ℕ) → LoweredOn rule plan p s b t from cur → t < length cur → h ≡ held rule plan p t s
      → v ≡ min (get_or cur t 0) h → after ≡ set cur t v → LoweredOn rule plan p s b (t + 1) from after
  row-turn b t h v from cur after w l eh ev ea =
      record { goes_on = λ before u. let z = w.goes_on before u in lower-turn t h v before cur after z (omega (arith, z.as_long)) eh ev ea }

  -- one start more
  pub lowered_turn : (n : ℕ) (before cur after : List ℕ) → AsNamed (lowered rule plan p s) n before cur → AsNamed (lower_at rule plan p s cur) n cur after → AsNamed (lowered rule plan p (s + 1)) n before after
  unfolding lowered lower_at lower_from
  lowered_turn n before cur after w v = rw add-one (named_then _ _ n before cur after w (named_as _ _ n cur after (λ t l. rw (w.done t l)) v))

pub lowered_none : (rule : Rule) (plan : List ℕ) (p f n : ℕ) (before after : List ℕ) → f ≡ length plan → AsNamed (most f p) n before after → AsNamed (lowered rule plan p 0) n before after
unfolding lowered
lowered_none rule plan p f n before after e w = named_as _ _ n before after (λ t l. rw e) w

pub lowered_done : (rule : Rule) (plan : List ℕ) (p s n : ℕ) (before after : List ℕ) → s ≤ length plan → length plan ≤ s → AsNamed (lowered rule plan p s) n before after → AsNamed (least rule plan p) n before after
lowered_done rule plan p s n before after l g w =
    let e : s ≡ length plan = omega arith in
    named_as _ _ n before after (λ t h. lowered_all rule plan p t) (rw e at w)

-- where the frame ends its start follows
pub row-second : (f s e : ℕ) → s < f → e ≡ f - s → 0 ≡ (s + e) % f
row-second f s e l d = let z : s + e ≡ f = omega arith in rw z (sym (mod_self f))

-- the place of a tick in its row
pub place_in_row : (f s b t at : ℕ) → at ≡ (s + b) % f → b ≤ t → at + (t - b) < f → at + (t - b) ≡ (s + t) % f
place_in_row f s b t at ea l h =
    let e : s + b + (t - b) ≡ s + t = omega arith in
    sym (mod-eq_of_lt h) ∙ rw ea (mod-add-mod (s + b) f (t - b)) ∙ ap (λ (x : ℕ). x % f) e
