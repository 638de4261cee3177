-- What the builder's answers mean. Assumes nothing.
use Prim.Native.Nat.{ℕ, ◌%◌, ◌≤◌, ◌<◌}
use mathlib.Core.Path.{◌≡◌, refl, sym, ap, ◌∙◌}
use mathlib.Core.Logic.{◌⊎◌, inl, inr}
use mathlib.Core.Bool.{Bool, true, false, true≢false, or_comm}
use mathlib.Core.List.{List, []}
use native.Mathlib.Nat.{mod_self}
use native.Mathlib.Omega.{arith}
use lib.Dec.{eqb, ltb}
use lib.ListN.{length, take, drop}
use lib.Seq.{take_at}
use borrow.Author.Tests.{eq-eqb, le-ltb, le-leb, ltb-true, not-false}
use Rattle.rules.specs.Walk.{pick, fails}
use Rattle.rules.specs.Limits.{longest}
use Rattle.rules.specs.Table.{cycle, partitions}
use Rattle.rules.specs.Terms.{given, granules, rule_of, wanted}
use Rattle.rules.specs.declared.Terms.{Terms}
use Rattle.tables.specs.Tables.{GoodTables}
use Rattle.rules.specs.Refusals.{told, told_count}
use Rattle.rules.specs.declared.Refusal.{Refusal}
use Rattle.rules.specs.declared.Refusal.TheVariants.{Unharmonic, Want, Output}
use Rattle.rules.proofs.First.{first-none, some-none}
use Rattle.tables.proofs.Chain.{good_exactly, unless_given, other-frame, in_edition_1}
use Rattle.rules.proofs.Sum.{le-or-lt}
use Rattle.rules.proofs.Named.{listed-length}
use Rattle.rules.proofs.Tests.{pick_second}
use Rattle.rules.proofs.Known.{named, by_number, filling_refused, filling_as}
use Rattle.theory.specs.Harmonic.{pairs, Harmonic, frame, all_wanted, planned, harmonic_plan}
use Rattle.theory.proofs.Built.{harmonic_serves, harmonic_refused, past_cycle_refused, harmonic_plan_good}
use Rattle.plan_check.proofs.Answers.{check_serves}
use Rattle.std.specs.Prelude.{Result, Ok, Err}
use Rattle.plan_build.specs.Build.{unharmonic, laid_of, build_of}
use Rattle.plan_build.specs.Inner.{clashes}
use Rattle.rules.specs.Filling.{left_by}
use Rattle.plan_build.specs.Theorems.{BuiltServes, WantExactly, PastCycleWant, WantNone, WantChecked, UnharmonicExactly, FrameExactly, BuildOne, Proved}
use Rattle.plan_build.proofs.Orders.{counted-few, build_laid, laid_10, laid_11, laid_frame, laid}

-- ---- 10: of any two cycles, one divides the other

module _ (ps : List ℕ) where
  pair_swap : (j k : ℕ) → pairs ps j k ≡ pairs ps k j
  unfolding pairs
  pair_swap j k = or_comm (eqb (cycle ps k % cycle ps j) 0) (eqb (cycle ps j % cycle ps k) 0)

  pair_self : (k : ℕ) → pairs ps k k ≡ true
  unfolding pairs
  pair_self k = rw (eq-eqb (cycle ps k % cycle ps k) 0 (mod_self (cycle ps k)))

  harmonic_is : unharmonic ps ≡ false → Harmonic ps
  unfolding unharmonic fails
  harmonic_is e j k lj lk = go (le-or-lt j k) (le-or-lt k j)
    where
      below : (a b : ℕ) → a < b → b < partitions ps → pairs ps a b ≡ true
      below a b l m = pair_swap a b ∙ not-false _ (some-none (fails (pairs ps b)) b (some-none (clashes ps) (partitions ps) e b m) a l)

      go : (j ≤ k) ⊎ (k < j) → (k ≤ j) ⊎ (j < k) → pairs ps j k ≡ true
      go (inr l) m = pair_swap j k ∙ below k j l lj
      go (inl l) (inr m) = below j k m lk
      go (inl l) (inl m) = let q : j ≡ k = omega arith in rw q (pair_self k)

  is_harmonic : Harmonic ps → unharmonic ps ≡ false
  unfolding unharmonic fails
  is_harmonic h =
      let none : (k : ℕ) → k < partitions ps → clashes ps k ≡ false =
      λ k l. rw (first-none (fails (pairs ps k)) k (λ j m. rw (h k j l (omega arith)))) (le-ltb k k (omega arith)) in
      rw (first-none (clashes ps) (partitions ps) none) (le-ltb (partitions ps) (partitions ps) (omega arith))

-- ---- the answers

module _ (terms : Terms) (ps : List ℕ) (room : ℕ) where
  abbrev q : ℕ → ℕ
  q = wanted terms ps

  harmonic_from : (unharmonic ps ≡ true) → ¬ Harmonic ps
  harmonic_from e h = absurd (true≢false (sym e ∙ is_harmonic ps h))

  tens : build_of terms ps room ≡ Err Unharmonic → GoodTables terms longest ps [] × ¬ Harmonic ps
  unfolding build_of laid_of
  tens e =
      let ten : Result ℕ Refusal = Err Unharmonic in
      let a = unless_given terms longest ps [] Err (laid_of q ps room) ten
      (λ i e. let z : ◌≡◌ {A = ℕ} 0 1 = cc in absurd (omega arith))
      (λ e. let z : ◌≡◌ {A = ℕ} 0 1 = cc in absurd (omega arith))
      (λ g e. let z : ◌≡◌ {A = ℕ} 0 1 = cc in absurd (omega arith))
      (λ k e. let z : ◌≡◌ {A = ℕ} 0 1 = cc in absurd (omega arith))
      (λ j e. let z : ◌≡◌ {A = ℕ} 0 1 = cc in absurd (omega arith))
      e in
      (a.0, at (unharmonic ps) refl a.1)
    where
      at : (u : Bool) → unharmonic ps ≡ u
          → pick u (Err Unharmonic) (pick (ltb (frame ps) (all_wanted q ps (frame ps))) (Err Want) (pick (ltb room (frame ps)) (Err Output) (Ok (frame ps)))) ≡ Err Unharmonic → ¬ Harmonic ps
      at true u e = harmonic_from u
      at false u e =
          let d = pick_second (ltb (frame ps) (all_wanted q ps (frame ps))) _ _ (Err Unharmonic) (λ e. let z : ◌≡◌ {A = ℕ} 0 1 = cc in absurd (omega arith)) e in
          let o = pick_second (ltb room (frame ps)) _ _ (Err Unharmonic) (λ e. let z : ◌≡◌ {A = ℕ} 0 1 = cc in absurd (omega arith)) d.1 in
          let z : ◌≡◌ {A = ℕ} 0 1 = cc o.1 in absurd (omega arith)

  elevens : build_of terms ps room ≡ Err Want → GoodTables terms longest ps [] × Harmonic ps × (frame ps < all_wanted q ps (frame ps))
  unfolding build_of laid_of
  elevens e =
      let eleven : Result ℕ Refusal = Err Want in
      let a = unless_given terms longest ps [] Err (laid_of q ps room) eleven
      (λ i e. let z : ◌≡◌ {A = ℕ} 0 1 = cc in absurd (omega arith))
      (λ e. let z : ◌≡◌ {A = ℕ} 0 1 = cc in absurd (omega arith))
      (λ g e. let z : ◌≡◌ {A = ℕ} 0 1 = cc in absurd (omega arith))
      (λ k e. let z : ◌≡◌ {A = ℕ} 0 1 = cc in absurd (omega arith))
      (λ j e. let z : ◌≡◌ {A = ℕ} 0 1 = cc in absurd (omega arith))
      e in
      let d = pick_second (unharmonic ps) _ _ eleven (λ e. let z : ◌≡◌ {A = ℕ} 0 1 = cc in absurd (omega arith)) a.1 in
      (a.0, harmonic_is ps d.0, at (ltb (frame ps) (all_wanted q ps (frame ps))) refl d.1)
    where
      at : (u : Bool) → ltb (frame ps) (all_wanted q ps (frame ps)) ≡ u
          → pick u (Err Want) (pick (ltb room (frame ps)) (Err Output) (Ok (frame ps))) ≡ Err Want → frame ps < all_wanted q ps (frame ps)
      at true u e = ltb-true _ _ u
      at false u e =
          let o = pick_second (ltb room (frame ps)) _ _ (Err Want) (λ e. let z : ◌≡◌ {A = ℕ} 0 1 = cc in absurd (omega arith)) e in
          let z : ◌≡◌ {A = ℕ} 0 1 = cc o.1 in absurd (omega arith)

  -- the answer of a good table
  good_laid : GoodTables terms longest ps [] → (r : Result ℕ Refusal) → r ≡ laid_of q ps room → build_of terms ps room ≡ r
  good_laid g r e = sym (build_laid terms ps room ((good_exactly terms longest ps []).1 g) r e)

  is_ten : GoodTables terms longest ps [] × ¬ Harmonic ps → build_of terms ps room ≡ Err Unharmonic
  is_ten (g, h) = good_laid g _ (laid_10 q ps room (at (unharmonic ps) refl))
    where
      at : (u : Bool) → unharmonic ps ≡ u → unharmonic ps ≡ true
      at true e = e
      at false e = absurd (h (harmonic_is ps e))

  is_eleven : GoodTables terms longest ps [] × Harmonic ps × (frame ps < all_wanted q ps (frame ps)) → build_of terms ps room ≡ Err Want
  is_eleven (g, h, l) = good_laid g _ (laid_11 q ps room (is_harmonic ps h) _ _ refl refl l)

  is_frame : (h : ℕ) → GoodTables terms longest ps [] × Harmonic ps × (all_wanted q ps (frame ps) ≤ frame ps) × (h ≡ frame ps) × (h ≤ room) → build_of terms ps room ≡ Ok h
  is_frame h (g, a, l, e, m) = good_laid g _ (laid_frame q ps room (is_harmonic ps a) _ _ e refl (rw e l) m)

  frames : (h : ℕ) → build_of terms ps room ≡ Ok h → GoodTables terms longest ps [] × Harmonic ps × (all_wanted q ps (frame ps) ≤ frame ps) × (h ≡ frame ps) × (h ≤ room)
  frames h e = let a = laid terms ps room h e in (a.good, harmonic_is ps a.harmonic, a.enough, a.is_frame, a.fits)

-- ---- what is written is accepted

pub built_serves : BuiltServes
built_serves terms ps out o h (e, left) =
    let q = wanted terms ps in
    let a = frames terms ps (length out) h (sym e) in
    let few = (counted-few ps [] a.0).0 in
    let w = harmonic_plan_good q ps few a.0.parts in
    let n : length (harmonic_plan q ps) ≡ h = listed-length (planned q ps (partitions ps)) (frame ps) ∙ sym a.3 in
    let t : take h o ≡ harmonic_plan q ps = rw left (take_at (harmonic_plan q ps) (drop h out) h n) in
    let g : GoodTables (granules terms.granule) (length (harmonic_plan q ps)) ps [] = rw w.0 (other-frame longest (frame ps) ps [] (in_edition_1 a.0) w.1 w.2 w.3) in
    rw t ((check_serves (granules terms.granule) (harmonic_plan q ps) ps).1 (g, (λ k l. le-leb _ _ (w.4 k)), harmonic_serves q ps few a.0.parts a.1 a.2))

-- ---- by the number that is told

module _ (terms : Terms) (ps : List ℕ) (room n : ℕ) where
  -- refused with a number from 1 on: by the refusal of that number
  by : 1 ≤ n → ¬ (n ≡ 8) → (told_count (build_of terms ps room)).number ≡ n → (r : Refusal) × (build_of terms ps room ≡ Err (named n (told r).first (told r).second (told r).third (told r).fourth))
  by l g e = let a = filling_refused (build_of terms ps room) n l e in (a.0, a.1 ∙ ap Err (by_number a.0 n g a.2))

pub want_exactly : WantExactly
want_exactly terms ps room = (λ e. elevens terms ps room (by terms ps room 11 (omega arith) (λ q. absurd (omega arith)) e).1, λ h. rw (is_eleven terms ps room h))

pub past_cycle_want : PastCycleWant
past_cycle_want terms ps room g har k l h =
    (want_exactly terms ps room).1 (g, har, past_cycle_refused (wanted terms ps) ps (counted-few ps [] g).0 g.parts har k l h)

pub want_none : WantNone
want_none terms ps room e rule plan =
    let a = (want_exactly terms ps room).0 e in
    harmonic_refused (wanted terms ps) ps (counted-few ps [] a.0).0 a.0.parts a.1 a.2 rule plan

pub want_checked : WantChecked
want_checked terms ps room e i plan s = want_none terms ps room e (rule_of i) plan ((check_serves (given i terms.granule) plan ps).0 s).2

pub unharmonic_exactly : UnharmonicExactly
unharmonic_exactly terms ps room = (λ e. tens terms ps room (by terms ps room 10 (omega arith) (λ q. absurd (omega arith)) e).1, λ h. rw (is_ten terms ps room h))

pub frame_exactly : FrameExactly
frame_exactly terms ps room h = (λ e. frames terms ps room h (filling_as (build_of terms ps room) h e), λ a. rw (is_frame terms ps room h a))

pub build_one : BuildOne
build_one terms ps out o o' r r' a b =
    let e : r ≡ r' = a.0 ∙ sym b.0 in
    (e, a.1 ∙ ap (λ (x : Result ℕ Refusal). left_by x (harmonic_plan (wanted terms ps) ps) out) e ∙ sym b.1)

pub proved : Proved
proved = record {
  built_serves = built_serves;
  want_exactly = want_exactly;
  past_cycle_want = past_cycle_want;
  want_none = want_none;
  want_checked = want_checked;
  unharmonic_exactly = unharmonic_exactly;
  frame_exactly = frame_exactly;
  build_one = build_one;
}
