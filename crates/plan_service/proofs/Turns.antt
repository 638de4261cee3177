-- Laws of the count of a stretch: a tick more, across the frame's end, whole frames, and from one start to the next. Assumes nothing.
use Prim.Native.Nat.{ℕ, zero, suc, ◌+◌, ◌-◌, ◌*◌, ◌/◌, ◌%◌, ◌≤◌, ◌<◌}
use mathlib.Core.Path.{◌≡◌, refl, sym, ap, ◌∙◌}
use mathlib.Core.Bool.{Bool, true, false, not, ◌&&◌}
use mathlib.Core.List.{List}
use native.Mathlib.Nat.{mod-add-mod, add-mod_right, zero-mod, mod_self, mod-lt, mod-eq_of_lt, add-zero, suc-mul, div-add-mod'}
use native.Mathlib.Numerals.{add-one}
use native.Mathlib.Decide.{ℕ_discrete}
use native.Mathlib.Omega.{arith}
use borrow.Author.Tests.{eq-eqb, ne_eqb}
use lib.Dec.{eqb}
use lib.ListN.{length, get_or, get_or-eq_default}
use Rattle.rules.specs.Walk.{pick, only, sum, count}
use Rattle.rules.proofs.Sum.{only-add, only-eq, only_ne, only_self}
use Rattle.rules.specs.declared.Rule.{Rule}
use Rattle.rules.specs.declared.Rule.TheVariants.{Own, Switching}
use Rattle.theory.specs.Plan.{owner, owner_before, switch_tick, unswitched, service, owned, held, least, worst}
use Rattle.theory.proofs.Plan.{owner-place, service-place, held-zero, held_more, held_around}
use Rattle.theory.proofs.Switch.{service_within}
use Rattle.theory.proofs.Need.{owned_split}

-- ---- a tick at its place in the frame

-- by edition 1's rule it serves its owner
pub serves_owner : (plan : List ℕ) (at o : ℕ) → at < length plan → o ≡ get_or plan at 0 → o ≡ service Own plan at
unfolding service
serves_owner plan at o l e = e ∙ sym (owner-place plan at l)

-- by edition 2's so does a tick behind one of the same owner, and every other serves nobody
module _ (plan : List ℕ) (at before o : ℕ) (l : at < length plan) (eb : before ≡ (at + (length plan - 1)) % length plan) (e : o ≡ get_or plan at 0) where
  owner_is : owner plan at ≡ o
  owner_is = owner-place plan at l ∙ sym e

  before_is : owner_before plan at ≡ get_or plan before 0
  unfolding owner_before owner
  before_is = rw eb

  pub serves_behind : get_or plan before 0 ≡ o → o ≡ service Switching plan at
  unfolding service unswitched switch_tick
  serves_behind h = rw (owner_is, before_is, h, eq-eqb o o refl) (none (not (eqb o 0)))
    where
      none : (b : Bool) → o ≡ pick (b && false) 0 o
      none true = refl
      none false = refl

  pub serves_none : ¬ (get_or plan before 0 ≡ o) → 0 ≡ service Switching plan at
  unfolding service unswitched switch_tick
  serves_none h = rw (owner_is, before_is, ne_eqb (get_or plan before 0) o h) (either (ℕ_discrete o 0))
    where
      either : Dec (o ≡ 0) → 0 ≡ pick (not (eqb o 0) && true) 0 o
      either (yes z) = rw z
      either (no z) = rw (ne_eqb o 0 z)

-- by no rule does a tick of another serve a partition
pub serves_other : (rule : Rule) (plan : List ℕ) (p at o : ℕ) → at < length plan → o ≡ get_or plan at 0 → ¬ (o ≡ p) → ¬ (p ≡ 0) → false ≡ eqb (service rule plan at) p
serves_other rule plan p at o l e other some =
    let pos : 0 < p = omega arith in
    sym (ne_eqb (service rule plan at) p (λ f. other (serves_owner plan at o l e ∙ service_within rule plan p at pos f)))

-- ---- the count of a stretch

pub held_none : (rule : Rule) (plan : List ℕ) (p s : ℕ) → 0 ≡ held rule plan p 0 s
held_none rule plan p s = sym (held-zero (service rule plan) p s)

-- one tick more, at its place in the frame
pub held-turn : (rule : Rule) (plan : List ℕ) (p s k at h b : ℕ) → at ≡ (s + k) % length plan → h ≡ held rule plan p k s → b ≡ only (eqb (service rule plan at) p) 1 → h + b ≡ held rule plan p (k + 1) s
held-turn rule plan p s k at h b ea eh eb = rw (held_more (service rule plan) p k s, eb, eh, ea, service-place rule plan (s + k))

-- of an empty plan every tick is idle
empty-owner : (plan : List ℕ) (t : ℕ) → length plan ≡ 0 → owner plan t ≡ 0
unfolding owner
empty-owner plan t e = get_or-eq_default plan 0 (omega arith)

empty-service : (rule : Rule) (plan : List ℕ) (t : ℕ) → length plan ≡ 0 → service rule plan t ≡ 0
unfolding service unswitched switch_tick
empty-service Own plan t e = empty-owner plan t e
empty-service Switching plan t e = rw (empty-owner plan t e)

held-empty : (rule : Rule) (plan : List ℕ) (p s n : ℕ) → length plan ≡ 0 → held rule plan p n s ≡ only (eqb 0 p) n
unfolding owned count sum only
held-empty rule plan p s zero e = omega (arith, only_self (eqb 0 p) 0)
held-empty rule plan p s (suc n) e =
    let f : only (eqb 0 p) (n + 1) ≡ only (eqb 0 p) n + only (eqb 0 p) 1 = only-add (eqb 0 p) n 1 in
    rw (empty-service rule plan (s + n) e, held-empty rule plan p s n e, ← add-one n) (sym f)

pub empty-idle : (rule : Rule) (plan : List ℕ) (p s n : ℕ) → length plan ≡ 0 → p ≡ 0 → n ≡ held rule plan p n s
empty-idle rule plan p s n e h = sym (held-empty rule plan p s n e ∙ only-eq 0 p n (sym h))

pub empty_other : (rule : Rule) (plan : List ℕ) (p s n : ℕ) → length plan ≡ 0 → ¬ (p ≡ 0) → 0 ≡ held rule plan p n s
empty_other rule plan p s n e h = sym (held-empty rule plan p s n e ∙ only_ne 0 p n (λ q. h (sym q)))

-- ---- across the frame's end, and whole frames

module _ (rule : Rule) (plan : List ℕ) (p : ℕ) where
  -- only a start's place in the frame matters
  same_place : (n a b : ℕ) → a % length plan ≡ b % length plan → held rule plan p n a ≡ held rule plan p n b
  same_place n a b e = sym (held_around rule plan p n a) ∙ ap (held rule plan p n) e ∙ held_around rule plan p n b

  -- up to the frame's end, and on from its start
  pub held_joined : (n s left b c : ℕ) → 0 < length plan → left ≡ length plan - s % length plan → left ≤ n → b ≡ held rule plan p left (s % length plan) → c ≡ held rule plan p (n - left) 0 → b + c ≡ held rule plan p n s
  held_joined n s left b c pos el l eb ec =
      let e : left + (n - left) ≡ n = omega arith in
      let f : s % length plan + left ≡ length plan = omega (arith, mod-lt s pos) in
      let start = same_place (n - left) 0 (s % length plan + left) (rw f (zero-mod (length plan) ∙ sym (mod_self (length plan)))) in
      rw (eb, ec, start, ← owned_split (service rule plan) p (s % length plan) left (n - left), e) (held_around rule plan p n s)

  held_frames : (w r s : ℕ) → held rule plan p (w * length plan + r) s ≡ w * held rule plan p (length plan) s + held rule plan p r s
  held_frames zero r s =
      let e : 0 * length plan + r ≡ r = omega arith in
      rw e (omega arith)
  held_frames (suc w) r s =
      let n = w * length plan + r in
      let e : suc w * length plan + r ≡ length plan + n = omega (arith, suc-mul w (length plan)) in
      let later = same_place n (s + length plan) s (add-mod_right s (length plan)) in
      rw e (omega (arith, owned_split (service rule plan) p s (length plan) n, later, held_frames w r s, suc-mul w (held rule plan p (length plan) s)))

  -- whole frames as often as they go into n, and what is over
  pub held_whole : (n s h b : ℕ) → 0 < length plan → h ≡ held rule plan p (n % length plan) s → b ≡ held rule plan p (length plan - n % length plan) (s % length plan + n % length plan) → n / length plan * (h + b) + h ≡ held rule plan p n s
  held_whole n s h b pos eh eb =
      let over = n % length plan in
      let rest = length plan - over in
      let e : over + rest ≡ length plan = omega (arith, mod-lt n pos) in
      let frame : h + b ≡ held rule plan p (length plan) s =
      rw (eh, eb, same_place rest (s % length plan + over) (s + over) (mod-add-mod s (length plan) over), ← owned_split (service rule plan) p s over rest, e) in
      rw (frame, eh) (sym (held_frames (n / length plan) over s) ∙ ap (λ (x : ℕ). held rule plan p x s) (div-add-mod' n (length plan)))

-- ---- from one start to the next

pub in_frame : (f t at : ℕ) → 0 < f → at ≡ t % f → at < f
in_frame f t at pos e = rw e (mod-lt t pos)

-- the tick that enters is added, the tick that leaves is taken off
pub held_next : (rule : Rule) (plan : List ℕ) (p n s enters h b c : ℕ) → s < length plan → enters ≡ (s + n) % length plan → h ≡ held rule plan p n s
    → b ≡ only (eqb (service rule plan enters) p) 1 → c ≡ only (eqb (service rule plan s) p) 1 → h + b ≡ c + held rule plan p n (s + 1)
held_next rule plan p n s enters h b c l ee eh eb ec =
    let at : s ≡ (s + 0) % length plan = rw (add-zero s) (sym (mod-eq_of_lt l)) in
    let one : 0 + c ≡ held rule plan p 1 s = held-turn rule plan p s 0 s 0 c at (held_none rule plan p s) ec in
    let more : h + b ≡ held rule plan p (n + 1) s = held-turn rule plan p s n enters h b ee eh eb in
    let e : n + 1 ≡ 1 + n = omega arith in
    omega (arith, rw e at more, owned_split (service rule plan) p s 1 n)

-- the place behind the stretch, a tick later
pub place-next : (f s n at r : ℕ) → at ≡ (s + n) % f → r ≡ (at + 1) % f → r ≡ (s + 1 + n) % f
place-next f s n at r ea er = let e : s + n + 1 ≡ s + 1 + n = omega arith in rw (← e, er, ea) (mod-add-mod (s + n) f 1)

-- ---- the lowest start that passes a test

module _ (rule : Rule) (plan : List ℕ) (p t low h s : ℕ) (eh : h ≡ held rule plan p t s) (el : low ≡ least rule plan p t) where
  pub is_worst : h ≡ low → worst rule plan p t s ≡ true
  unfolding worst
  is_worst e = eq-eqb _ _ (sym eh ∙ e ∙ el)

  pub not-worst : ¬ (h ≡ low) → worst rule plan p t s ≡ false
  unfolding worst
  not-worst e = ne_eqb _ _ (λ z. e (eh ∙ z ∙ sym el))
