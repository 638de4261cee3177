-- A frame more holds as much more as a frame holds, whatever its start. Assumes nothing.
use Prim.Native.Nat.{ℕ, zero, suc, ◌+◌, ◌-◌, ◌≤◌, ◌<◌}
use mathlib.Core.Path.{◌≡◌, refl, sym, ap, ◌∙◌}
use mathlib.Core.List.{List}
use native.Mathlib.Nat.{add-mod_right}
use native.Mathlib.Omega.{arith}
use lib.Dec.{eqb}
use lib.ListN.{length, get_or, set}
use Rattle.rules.specs.Walk.{only}
use Rattle.rules.specs.Inner.{AsNamed}
use Rattle.rules.specs.declared.Rule.{Rule}
use Rattle.rules.proofs.Named.{named-turn}
use Rattle.theory.specs.Plan.{service, held, least}
use Rattle.theory.proofs.Plan.{service-place, held_around, least_is_least, least_attained, least_bounds}
use Rattle.theory.proofs.Need.{owned_split}
use Rattle.plan_curve.proofs.Worst.{next}

-- a pass that goes further than the one before it
pub named-over : (o : ℕ → ℕ) (k t : ℕ) (before cur after : List ℕ) → k ≤ t → AsNamed o k before cur → AsNamed o t cur after → AsNamed o t before after
named-over o k t before cur after l v w = record { as_long = w.as_long ∙ v.as_long; done = w.done; rest = λ i g. w.rest i g ∙ v.rest i (omega arith) }

module _ (rule : Rule) (plan : List ℕ) (p : ℕ) (pos : 0 < length plan) where
  abbrev f : ℕ
  f = length plan

  again : (s : ℕ) → service rule plan (s + f) ≡ service rule plan s
  again s = sym (service-place rule plan (s + f)) ∙ ap (service rule plan) (add-mod_right s f) ∙ service-place rule plan s

  -- a frame holds the same from every start
  frame_same : (s : ℕ) → held rule plan p f s ≡ held rule plan p f 0
  frame_same zero = refl
  frame_same (suc s) =
      let o : only (eqb (service rule plan (s + f)) p) 1 ≡ only (eqb (service rule plan s) p) 1 = ap (λ (x : ℕ). only (eqb x p) 1) (again s) in
      omega (arith, next rule plan p f s, o, frame_same s)

  held-frame : (t s : ℕ) → held rule plan p (f + t) s ≡ held rule plan p f 0 + held rule plan p t s
  held-frame t s =
      let later : held rule plan p t (s + f) ≡ held rule plan p t s = sym (held_around rule plan p t (s + f)) ∙ ap (held rule plan p t) (add-mod_right s f) ∙ held_around rule plan p t s in
      omega (arith, owned_split (service rule plan) p s f t, later, frame_same s)

  least-frame : (t : ℕ) → least rule plan p (f + t) ≡ least rule plan p f + least rule plan p t
  least-frame t =
      let a = least_attained rule plan p (f + t) pos in
      let b = least_attained rule plan p t pos in
      let c = least_attained rule plan p f pos in
      omega (
        arith,
        a.2,
        b.2,
        c.2,
        frame_same c.0,
        held-frame t a.0,
        held-frame t b.0,
        least_is_least rule plan p (f + t) b.0 pos,
        least_is_least rule plan p t a.0 pos,
      )

  -- one number more: x and y are those a frame before, and of the frame
  pub frame-turn : (t x y v : ℕ) (before cur after : List ℕ) → AsNamed (least rule plan p) t before cur → f < t → t < length before → x ≡ get_or cur (t - f) 0 → y ≡ get_or cur f 0
      → v ≡ x + y → after ≡ set cur t v → AsNamed (least rule plan p) (t + 1) before after
  frame-turn t x y v before cur after w l g ex ey ev ea =
      let z : f + (t - f) ≡ t = omega arith in
      let e : least rule plan p t ≡ least rule plan p f + least rule plan p (t - f) = rw z at (least-frame (t - f)) in
      named-turn _ t v before cur after w g ea (omega (arith, e, w.done (t - f) (omega arith), w.done f l))

  -- and no more than its ticks
  pub frame_small : (t x y : ℕ) (before cur : List ℕ) → AsNamed (least rule plan p) t before cur → f < t → x ≡ get_or cur (t - f) 0 → y ≡ get_or cur f 0 → x + y ≤ t
  frame_small t x y before cur w l ex ey =
      omega (arith, w.done (t - f) (omega arith), w.done f l, least_bounds rule plan p (t - f), least_bounds rule plan p f)
