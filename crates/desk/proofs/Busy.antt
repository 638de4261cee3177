-- After 16 the first job is running, and the desk is not busy when it ends. Assumes nothing.
use Prim.Native.Nat.{ℕ, ◌<◌, ◌≤◌}
use mathlib.Core.Path.{◌≡◌, refl, sym, subst, ◌∙◌}
use mathlib.Core.Bool.{Bool, true, false, true≢false}
use mathlib.Core.List.{List, [], ◌∷◌}
use native.Mathlib.Omega.{arith}
use lib.Dec.{leb}
use lib.ListN.{length, take}
use borrow.Author.Tests.{leb-false, ltb-true, le-leb, le-ltb}
use Rattle.rules.specs.Walk.{pick}
use Rattle.rules.specs.declared.Refusal.TheVariants.{Busy, Full, NoPlace}
use Rattle.desk.specs.declared.Job.{Job}
use Rattle.desk.specs.Table.{filled, ends, Outcome}
use Rattle.desk.specs.Request.{kept, busy, dropping, request_of}
use Rattle.desk.specs.Theorems.{Refuses, Running, BusyEnds}
use Rattle.desk.proofs.Chain.{Chain, chain_low, kept_from}
use Rattle.desk.proofs.Rules.{SoundAfter, good_of, good-kept, running, full, nowhere, Ending, same, dropped, taken, ending, request_sound, sound-unless}
use Rattle.desk.proofs.Promise.{take-filled}
use Rattle.rules.specs.declared.Refusal.TheVariants as refusal

-- the first job left has not ended
first-left : (t : ℕ) (l : List Job) (j : Job) (js : List Job) → kept t l ≡ j ∷ js → t < ends j
first-left t [] j js e = absurd (let z : ◌≡◌ {A = ℕ} 0 1 = cc in omega arith)
first-left t (k ∷ l) j js e = by_end (leb (ends k) t) refl e (first-left t l j js) where
  by_end : (b : Bool) → leb (ends k) t ≡ b → pick b (kept t l) (k ∷ kept t l) ≡ j ∷ js → (kept t l ≡ j ∷ js → t < ends j) → t < ends j
  by_end true h q more = more q
  by_end false h q more =
      let z : k ≡ j = cc in
      rw (← z) (leb-false (ends k) t h)

-- when it ends, the next one has not begun
free : (u : ℕ) (j : Job) (js : List Job) → ends j ≤ u → Chain u js → busy u (kept u (j ∷ js)) ≡ false
free u j js h g = rw (le-leb (ends j) u h, kept_from u js g) (next js g) where
  next : (ks : List Job) → Chain u ks → busy u ks ≡ false
  next [] g = refl
  next (k ∷ ks) g = le-ltb _ _ g.0

is_busy : (clock n : ℕ) (l : List Job) (t c d : ℕ) (o : Outcome) → Ending clock n l t c d o → Refuses o 16
    → (busy t (kept t (take n l)) ≡ true) × (o ≡ dropping t (kept t (take n l)) Busy)
is_busy clock n l t c d o (same r h) e = absurd (omega arith)
is_busy clock n l t c d o (dropped Busy (running b) late small) e = (b, refl)
is_busy clock n l t c d o (dropped Full full late small) e = absurd (omega arith)
is_busy clock n l t c d o (dropped (NoPlace _) (nowhere why is g f) late small) e = absurd (omega arith)
is_busy clock n l t c d o (taken i s late small some due few g spot) e = absurd (omega arith)
is_busy clock n l t c d _ (dropped refusal.Short x4 late small) e = elim x4 [ ]
is_busy clock n l t c d _ (dropped refusal.Edition x5 late small) e = elim x5 [ ]
is_busy clock n l t c d _ (dropped refusal.Limits x6 late small) e = elim x6 [ ]
is_busy clock n l t c d _ (dropped refusal.Offset x7 late small) e = elim x7 [ ]
is_busy clock n l t c d _ (dropped refusal.Length x8 late small) e = elim x8 [ ]
is_busy clock n l t c d _ (dropped (refusal.Partition _) x10 late small) e = elim x10 [ ]
is_busy clock n l t c d _ (dropped (refusal.Task _) x11 late small) e = elim x11 [ ]
is_busy clock n l t c d _ (dropped (refusal.Tick _) x12 late small) e = elim x12 [ ]
is_busy clock n l t c d _ (dropped (refusal.Asked _) x13 late small) e = elim x13 [ ]
is_busy clock n l t c d _ (dropped (refusal.Shortfall _ _ _ _) x17 late small) e = elim x17 [ ]
is_busy clock n l t c d _ (dropped refusal.Unharmonic x14 late small) e = elim x14 [ ]
is_busy clock n l t c d _ (dropped refusal.Want x15 late small) e = elim x15 [ ]
is_busy clock n l t c d _ (dropped refusal.Output x16 late small) e = elim x16 [ ]
is_busy clock n l t c d _ (dropped refusal.Rules x17 late small) e = elim x17 [ ]
is_busy clock n l t c d _ (dropped refusal.Numbers x18 late small) e = elim x18 [ ]
is_busy clock n l t c d _ (dropped refusal.Past x19 late small) e = elim x19 [ ]
is_busy clock n l t c d _ (dropped refusal.Counts x20 late small) e = elim x20 [ ]
is_busy clock n l t c d _ (dropped refusal.Granule x21 late small) e = elim x21 [ ]
is_busy clock n l t c d _ (dropped (refusal.Beyond _) x23 late small) e = elim x23 [ ]

running_of : (t : ℕ) (l js : List Job) → kept t l ≡ js → busy t js ≡ true → Chain 0 js → SoundAfter (dropping t js Busy) → Running t (dropping t js Busy)
running_of t l [] e b g s = absurd (true≢false (sym b))
running_of t l (j ∷ js) e b g s =
    let n = length (j ∷ js) in
    record {
      begun = ltb-true _ _ b;
      unended = first-left t l j js e;
      free_then = λ u c d at f.
          let again = (is_busy t n (filled (j ∷ js)) u c d _ (ending t n (filled (j ∷ js)) u c d s) f).0 in
          let here = subst (λ (ks : List Job). busy u (kept u ks) ≡ true) (take-filled (j ∷ js) n refl) again in
          true≢false (sym here ∙ free u j js (omega arith) (chain_low (ends j) u js (omega arith) g.2));
    }

pub busy_ends : BusyEnds
busy_ends clock n l t c d e =
    let sound = sound-unless clock n l t c d (λ f. absurd (omega arith)) in
    let all = ending clock n l t c d sound in
    let w = is_busy clock n l t c d (request_of clock n l t c d) all e in
    let after : SoundAfter (dropping t (kept t (take n l)) Busy) = subst SoundAfter w.1 (request_sound clock n l t c d sound) in
    rw w.1 (running_of t (take n l) (kept t (take n l)) refl w.0 (good-kept t n (take n l) (good_of clock n l sound)).order after)
