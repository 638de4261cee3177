-- The plan that the harmonic rule writes for a table serves it, and it is refused only where no plan serves. Assumes nothing.
use mathlib.Core.Path.{◌≡◌, ap, ◌∙◌, subst}
use mathlib.Core.Logic.{◌⊎◌, inl, inr}
use mathlib.Core.List.{List}
use Prim.Native.Nat.{ℕ, zero, suc, ◌+◌, ◌*◌, ◌/◌, ◌%◌, ◌≤◌, ◌<◌}
use native.Mathlib.Nat.{div-add-mod', mul_comm, mul-le-mul_right, mul-mod_left, suc-mul, zero-mul}
use native.Mathlib.Omega.{arith}
use lib.ListN.{get_or}
use Rattle.rules.proofs.Tests.{good_share_lem}
use Rattle.rules.specs.Walk.{sum, Every}
use Rattle.rules.specs.Limits.{longest}
use Rattle.rules.specs.Table.{cycle, num, den, partitions, good_part}
use Rattle.rules.proofs.Sum.{le-or-lt, sum_term}
use Rattle.rules.proofs.Named.{listed-length, listed_at, listed_past}
use Rattle.rules.proofs.Least.{largest-le, largest_is}
use Rattle.theory.specs.Plan.{service, owned}
use Rattle.theory.specs.Harmonic.{Harmonic, frame, all_wanted, rank, taken, turn, planned, harmonic_plan}
use Rattle.theory.specs.Theorems.{HarmonicServes, HarmonicRefused, PastCycleRefused, HarmonicPlanGood}
use Rattle.theory.proofs.Order.{Sooner, pairs_divide, rank_below, taken-rank, taken_below, taken-sooner, taken-sum}
use Rattle.theory.proofs.Need.{needed}
use Rattle.theory.proofs.Harmonic.{Divides, Chain, After, built, built_bound, after, listed-held}

module _ (ps : List ℕ) (some : 0 < partitions ps) (good : Every (good_part longest ps) (partitions ps)) where
  abbrev n : ℕ
  n = partitions ps

  pub cycle_pos : (k : ℕ) → k < n → 0 < cycle ps k
  cycle_pos k l = (good_share_lem longest (cycle ps k) (num ps k) (den ps k) (good k l)).0

  -- ---- the frame

  pub frame-longest : (k : ℕ) → k < n → cycle ps k ≤ frame ps
  unfolding frame
  frame-longest k l = largest-le (cycle ps) n k l

  pub frame_is : (k : ℕ) × (k < n) × (cycle ps k ≡ frame ps)
  unfolding frame
  frame_is = largest_is (cycle ps) n some

  pub frame_pos : 0 < frame ps
  frame_pos = omega (arith, frame_is.2, cycle_pos frame_is.0 frame_is.1)

  frame_low : frame ps ≤ longest
  frame_low =
      let k = frame_is.0 in
      omega (arith, frame_is.2, (good_share_lem longest (cycle ps k) (num ps k) (den ps k) (good k frame_is.1)).1)

  pub owner_low : (q : ℕ → ℕ) (t : ℕ) → get_or (harmonic_plan q ps) t 0 ≤ n
  unfolding planned turn
  owner_low q t = go (le-or-lt (frame ps) t)
    where
      low : planned q ps n t ≤ n
      low =
          built_bound (λ r. taken ps r + 1) (λ r. q (taken ps r)) (λ r. cycle ps (taken ps r)) n n
          (λ s l. omega (arith, taken_below ps s l)) t

      go : (frame ps ≤ t) ⊎ (t < frame ps) → get_or (harmonic_plan q ps) t 0 ≤ n
      go (inl h) = omega (arith, listed_past (planned q ps n) (frame ps) t h)
      go (inr h) = omega (arith, low, listed_at (planned q ps n) (frame ps) t h)

  -- ---- the cycles of the turns

  module _ (har : Harmonic ps) where
    -- of two cycles the shorter divides the longer
    le_divides : (j k : ℕ) → j < n → k < n → cycle ps j ≤ cycle ps k → Divides (cycle ps j) (cycle ps k)
    le_divides j k lj lk l = go ((pairs_divide ps j k).0 (har j k lj lk))
      where
        same : (c : ℕ) → cycle ps j ≡ c * cycle ps k → Divides (cycle ps j) (cycle ps k)
        same zero e = absurd (omega (arith, cycle_pos j lj))
        same (suc c) e = (1, omega arith)

        go : (Divides (cycle ps j) (cycle ps k)) ⊎ (Divides (cycle ps k) (cycle ps j)) → Divides (cycle ps j) (cycle ps k)
        go (inl d) = d
        go (inr (c, e)) = same c e

    to_frame : (k : ℕ) → k < n → Divides (cycle ps k) (frame ps)
    to_frame k l =
        let w = frame_is in
        subst (λ (x : ℕ). Divides (cycle ps k) x) w.2 (le_divides k w.0 l w.1 (omega (arith, w.2, frame-longest k l)))

    frame-whole : (k : ℕ) → k < n → frame ps % cycle ps k ≡ 0
    frame-whole k l = let d = to_frame k l in ap (λ (x : ℕ). x % cycle ps k) d.1 ∙ mul-mod_left d.0 (cycle ps k)

    rises : (r s : ℕ) → r < s → s < n → cycle ps (taken ps r) ≤ cycle ps (taken ps s)
    rises r s g l = go (taken-sooner ps r s g l)
      where
        go : Sooner ps (taken ps r) (taken ps s) → cycle ps (taken ps r) ≤ cycle ps (taken ps s)
        go (inl h) = omega arith
        go (inr (e, h)) = omega arith

    -- ---- whatever is wanted of the places, where the ticks of the frame suffice for it

    module _ (want : ℕ → ℕ) (fits : sum (λ k. want k * (frame ps / cycle ps k)) n ≤ frame ps) where
      abbrev turns : ℕ → ℕ → ℕ
      turns = built (λ r. taken ps r + 1) (λ r. want (taken ps r)) (λ r. cycle ps (taken ps r))

      pub chain : Chain (λ r. taken ps r + 1) (λ r. want (taken ps r)) (λ r. cycle ps (taken ps r)) n (frame ps)
      chain = record {
        positive = frame_pos;
        named = λ r e. absurd (omega arith);
        later = λ r s g l. le_divides (taken ps r) (taken ps s) (taken_below ps r (omega arith)) (taken_below ps s l) (rises r s g l);
        whole = λ r l. to_frame (taken ps r) (taken_below ps r l);
        suffice = omega (arith, fits, taken-sum ps (λ k. want k * (frame ps / cycle ps k)));
      }

      pub all_after : After (λ r. taken ps r + 1) (λ r. want (taken ps r)) (λ r. cycle ps (taken ps r)) n (frame ps) n (turns n)
      all_after = after (λ r. taken ps r + 1) (λ r. want (taken ps r)) (λ r. cycle ps (taken ps r)) n (frame ps) chain n (omega arith)

      pub all_served : (k a : ℕ) → k < n → want k ≤ owned (turns n) (k + 1) (cycle ps k) a
      all_served k a l =
          subst (λ (x : ℕ). want x ≤ owned (turns n) (x + 1) (cycle ps x) a) (taken-rank ps k l) (all_after.served (rank ps k) a (rank_below ps k l))

pub harmonic_serves : HarmonicServes
unfolding all_wanted planned turn
harmonic_serves q ps some good har h k s l =
    rw (listed-held (planned q ps (partitions ps)) (frame ps) (frame_pos ps some good) (all_after ps some good har q h).frames (k + 1) (cycle ps k) s)
    (all_served ps some good har q h k s l)

pub harmonic_refused : HarmonicRefused
unfolding all_wanted
harmonic_refused q ps some good har h rule plan s =
    omega (arith, needed (service rule plan) q (cycle ps) (partitions ps) (frame ps) (frame-whole ps some good har) s)

pub past_cycle_refused : PastCycleRefused
unfolding all_wanted
past_cycle_refused q ps some good har k l h =
    let times = frame ps / cycle ps k in
    let whole : times * cycle ps k ≡ frame ps = omega (arith, div-add-mod' (frame ps) (cycle ps k), frame-whole ps some good har k l) in
    let more : suc (cycle ps k) * times ≤ q k * times = mul-le-mul_right times h in
    let once : 0 < times = positive times (cycle ps k) (omega (arith, whole, frame_pos ps some good)) in
    omega (arith, whole, more, once, suc-mul (cycle ps k) times, mul_comm (cycle ps k) times, sum_term (partitions ps) (λ j. q j * (frame ps / cycle ps j)) k l)
  where
    positive : (a b : ℕ) → 0 < a * b → 0 < a
    positive zero b z = absurd (omega (arith, zero-mul b))
    positive (suc a) b z = omega arith

pub harmonic_plan_good : HarmonicPlanGood
harmonic_plan_good q ps some good =
    (listed-length (planned q ps (partitions ps)) (frame ps), frame_pos ps some good, frame_low ps some good, frame-longest ps some good, owner_low ps some good q)
