-- The order of the refusals, and what it means that there is none. Assumes nothing.
use Prim.Native.Nat.{ℕ, ◌+◌, ◌*◌, ◌≤◌, ◌<◌}
use mathlib.Core.Path.{◌≡◌, refl, sym, ◌∙◌}
use mathlib.Core.Logic.{◌⊎◌, inl, inr}
use mathlib.Core.Bool.{Bool, true, false, true≢false, ◌&&◌}
use mathlib.Core.List.{List, []}
use native.Mathlib.Nat.{mul-le-mul}
use native.Mathlib.Omega.{arith}
use lib.Dec.{ltb, leb}
use lib.ListN.{length}
use borrow.Author.Tests.{lt-ltb, ltb-true, ltb-false, le-leb, leb-true, leb-false}
use Rattle.rules.specs.Walk.{pick, fails, some}
use Rattle.rules.specs.Limits.{longest, most_partitions}
use Rattle.rules.specs.Table.{partitions, good_tick}
use Rattle.rules.specs.declared.Refusal.{Refusal}
use Rattle.rules.specs.declared.Refusal.TheVariants.{Limits, Partition, Tick, Output, Counts}
use Rattle.std.specs.Prelude.{Result, Ok, Err}
use Rattle.rules.proofs.First.{first_every}
use Rattle.rules.proofs.Tests.{and_parts}
use Rattle.rules.specs.Terms.{usual}
use Rattle.tables.specs.Tables.{unless, tables_of, ticks_judged}
use Rattle.tables.specs.Inner.{first_bad_tick}
use Rattle.tables.proofs.Chain.{not_good, both_good, lowest-good, good-lowest, within, good_exactly, unless-parts_hold, not_2, usual-not_21}
use Rattle.counts.specs.Counts.{needed, agrees_at, plan_judged, list_judged, counts_judged, unless_good, good_name, good_stretch}
use Rattle.counts.specs.Inner.{Sized}
use Rattle.counts.specs.Theorems.{Planned, Counted}
use Rattle.counts.proofs.Agree.{all_agree}

-- ---- one test

pub name_is : (parts p : ℕ) → good_name parts p ≡ true → (1 ≤ p) × (p ≤ parts)
unfolding good_name
name_is parts p e = let a = and_parts (leb 1 p) (leb p parts) e in (leb-true 1 p a.0, leb-true p parts a.1)

pub is_name : (parts p : ℕ) → 1 ≤ p → p ≤ parts → good_name parts p ≡ true
unfolding good_name
is_name parts p l m = rw (le-leb 1 p l, le-leb p parts m)

pub stretch_is : (f s n : ℕ) → good_stretch f s n ≡ true → (s < f) × (n ≤ f)
unfolding good_stretch
stretch_is f s n e = let a = and_parts (ltb s f) (leb n f) e in (ltb-true s f a.0, leb-true n f a.1)

pub is_stretch : (f s n : ℕ) → s < f → n ≤ f → good_stretch f s n ≡ true
unfolding good_stretch
is_stretch f s n l m = rw (lt-ltb s f l, le-leb n f m)

-- refused unless the test holds
pub tested : (b : Bool) (r : Refusal) → unless_good b r ≡ (Ok tt) → b ≡ true
tested true r e = refl
tested false r e = absurd (not_good r e)

-- ---- 3, 6 and 8

pub planned : (plan ps : List ℕ) → plan_judged plan ps ≡ (Ok tt) → Planned plan ps
unfolding plan_judged
planned plan ps e =
    let a = both_good (tables_of usual (length plan) ps []) (ticks_judged plan ps) e in
    record { tables = (good_exactly usual (length plan) ps []).0 a.0; ticks = lowest-good Tick (good_tick (partitions ps) plan) (length plan) a.1 }

pub is_planned : (plan ps : List ℕ) → Planned plan ps → plan_judged plan ps ≡ (Ok tt)
unfolding plan_judged
is_planned plan ps g = rw ((good_exactly usual (length plan) ps []).1 g.tables) (good-lowest Tick (good_tick (partitions ps) plan) (length plan) g.ticks)

pub sized : (plan ps : List ℕ) → Planned plan ps → Sized plan ps
sized plan ps g = let w = within (length plan) (length ps) 0 g.tables.limits in (w.longest_frame, w.few_parts)

-- the list's length stays small
pub small-list : (f n : ℕ) → f ≤ longest → n ≤ most_partitions → n * (f + 1) ≤ most_partitions * (longest + 1)
small-list f n l m = let w : f + 1 ≤ longest + 1 = omega arith in mul-le-mul m w

-- ---- 12 and 20

pub is_listed : (plan ps list : List ℕ) (enough : Bool) → Counted plan ps list → enough ≡ true → list_judged plan ps list enough ≡ (Ok tt)
unfolding list_judged
is_listed plan ps list enough g e = rw (le-leb (needed plan ps) (length list) g.long, e, all_agree plan list (needed plan ps) g.counts)

-- ---- all of them

pub record Called (plan ps list : List ℕ) (named : Result (Unit {0}) Refusal) (enough : Bool) (inside : Result (Unit {0}) Refusal) : Type 0 where
  pub plans : Planned plan ps
  pub names : named ≡ (Ok tt)
  pub list_is : Counted plan ps list
  pub room : enough ≡ true
  pub insides : inside ≡ (Ok tt)

module _ (plan ps list : List ℕ) (named : Result (Unit {0}) Refusal) (enough : Bool) (inside : Result (Unit {0}) Refusal) where
  pub is_called : Called plan ps list named enough inside → counts_judged plan ps list named enough inside ≡ (Ok tt)
  unfolding counts_judged
  is_called g = rw (is_planned plan ps g.plans, g.names, is_listed plan ps list enough g.list_is g.room) g.insides

-- what holds of the answer to each refusal and of what follows holds of the answer
pub plan_holds : (plan ps : List ℕ) {A : Type 0} (P : A → Type 0) (refused : Refusal → A) (next : A)
    → P (refused Limits) → ((k : ℕ) → P (refused (Partition k))) → ((t : ℕ) → P (refused (Tick t))) → P next → P (unless refused (plan_judged plan ps) next)
unfolding plan_judged
plan_holds plan ps P refused next three six eight h =
    unless-parts_hold usual (length plan) ps (λ (f : Result (Unit {0}) Refusal). P (unless refused f next)) Err (ticks_judged plan ps) not_2 three usual-not_21 six (ticks (ltb (first_bad_tick (partitions ps) plan) (length plan)))
  where
    ticks : (b : Bool) → P (unless refused (pick b (Err (Tick (first_bad_tick (partitions ps) plan + 1))) (Ok tt)) next)
    ticks true = eight _
    ticks false = h

pub call_holds : (plan ps list : List ℕ) (named : Result (Unit {0}) Refusal) (enough : Bool) (inside : Result (Unit {0}) Refusal) {A : Type 0} (P : A → Type 0) (refused : Refusal → A) (next : A)
    → P (refused Limits) → ((k : ℕ) → P (refused (Partition k))) → ((t : ℕ) → P (refused (Tick t))) → ((r : Refusal) → named ≡ Err r → P (refused r))
    → P (refused Output) → P (refused Counts) → ((r : Refusal) → inside ≡ Err r → P (refused r)) → P next → P (unless refused (counts_judged plan ps list named enough inside) next)
unfolding counts_judged list_judged
call_holds plan ps list named enough inside P refused next three six eight name twelve twenty stretch h =
    plan_holds plan ps (λ (f : Result (Unit {0}) Refusal). P (unless refused f next)) Err _ three six eight
    (names named refl (leb (needed plan ps) (length list) && enough) (some (fails (agrees_at plan list)) (needed plan ps)) inside refl)
  where
    names : (n : Result (Unit {0}) Refusal) → named ≡ n → (a b : Bool) (i : Result (Unit {0}) Refusal) → inside ≡ i
        → P (unless refused (unless Err n (unless Err (pick a (pick b (Err Counts) (Ok tt)) (Err Output)) i)) next)
    names (Err r) e a b i f = name r e
    names (Ok _) e false b i f = twelve
    names (Ok _) e true true i f = twenty
    names (Ok _) e true false (Err r) f = stretch r f
    names (Ok _) e true false (Ok _) f = h

-- ---- why a call is refused, or not

-- the first of the rules that is broken, or none
pub data Judging (plan ps list : List ℕ) (named : Result (Unit {0}) Refusal) (enough : Bool) (inside : Result (Unit {0}) Refusal) : Result (Unit {0}) Refusal → Type 0 where
  at_plan : (r : Refusal) → plan_judged plan ps ≡ Err r → Judging plan ps list named enough inside (Err r)
  at_name : Planned plan ps → (r : Refusal) → named ≡ Err r → Judging plan ps list named enough inside (Err r)
  at_length : Planned plan ps → named ≡ (Ok tt) → (length list < needed plan ps) ⊎ (enough ≡ false) → Judging plan ps list named enough inside (Err Output)
  at-counts :
      Planned plan ps → named ≡ (Ok tt) → needed plan ps ≤ length list → enough ≡ true → ¬ Counted plan ps list → Judging plan ps list named enough inside (Err Counts)
  at_stretch : Planned plan ps → named ≡ (Ok tt) → Counted plan ps list → enough ≡ true → (r : Refusal) → inside ≡ Err r → Judging plan ps list named enough inside (Err r)
  at_none : Planned plan ps → named ≡ (Ok tt) → Counted plan ps list → enough ≡ true → inside ≡ (Ok tt) → Judging plan ps list named enough inside (Ok tt)

module _ (plan ps list : List ℕ) (named : Result (Unit {0}) Refusal) (enough : Bool) (inside : Result (Unit {0}) Refusal) where
  pub judging : Judging plan ps list named enough inside (counts_judged plan ps list named enough inside)
  unfolding counts_judged list_judged
  judging = go (plan_judged plan ps) refl named refl (leb (needed plan ps) (length list)) refl enough refl (some (fails (agrees_at plan list)) (needed plan ps)) refl inside refl
    where
      counted : needed plan ps ≤ length list → some (fails (agrees_at plan list)) (needed plan ps) ≡ false → Counted plan ps list
      counted l e = record { long = l; counts = first_every (agrees_at plan list) (needed plan ps) (ltb-false _ _ e) }

      go : (a : Result (Unit {0}) Refusal) → plan_judged plan ps ≡ a → (b : Result (Unit {0}) Refusal) → named ≡ b → (l : Bool) → leb (needed plan ps) (length list) ≡ l → (m : Bool) → enough ≡ m
          → (d : Bool) → some (fails (agrees_at plan list)) (needed plan ps) ≡ d → (i : Result (Unit {0}) Refusal) → inside ≡ i
          → Judging plan ps list named enough inside (unless Err a (unless Err b (unless Err (pick (l && m) (pick d (Err Counts) (Ok tt)) (Err Output)) i)))
      go (Err r) ea b eb l el m em d ed i ei = at_plan r ea
      go (Ok _) ea (Err r) eb l el m em d ed i ei = at_name (planned plan ps ea) r eb
      go (Ok _) ea (Ok _) eb false el m em d ed i ei = at_length (planned plan ps ea) eb (inl (leb-false _ _ el))
      go (Ok _) ea (Ok _) eb true el false em d ed i ei = at_length (planned plan ps ea) eb (inr em)
      go (Ok _) ea (Ok _) eb true el true em true ed i ei =
          at-counts (planned plan ps ea) eb (leb-true _ _ el) em (λ g. true≢false (sym ed ∙ all_agree plan list (needed plan ps) g.counts))
      go (Ok _) ea (Ok _) eb true el true em false ed (Err r) ei = at_stretch (planned plan ps ea) eb (counted (leb-true _ _ el) ed) em r ei
      go (Ok _) ea (Ok _) eb true el true em false ed (Ok _) ei = at_none (planned plan ps ea) eb (counted (leb-true _ _ el) ed) em ei

  pub called : counts_judged plan ps list named enough inside ≡ (Ok tt) → Called plan ps list named enough inside
  called e = go _ judging e
    where
      go : (f : Result (Unit {0}) Refusal) → Judging plan ps list named enough inside f → f ≡ (Ok tt) → Called plan ps list named enough inside
      go f (at_plan r h) e = absurd (not_good r e)
      go f (at_name g r h) e = absurd (not_good r e)
      go f (at_length g n l) e = absurd (not_good Output e)
      go f (at-counts g n l m c) e = absurd (not_good Counts e)
      go f (at_stretch g n c m r h) e = absurd (not_good r e)
      go f (at_none g n c m h) e = record { plans = g; names = n; list_is = c; room = m; insides = h }

-- a test failed: its refusal
pub untested : (b : Bool) (q r : Refusal) → unless_good b q ≡ Err r → (b ≡ false) × (r ≡ q)
untested true q r e = absurd (not_good r (sym e))
untested false q r e = let z : q ≡ r = cc e in (refl, sym z)
