-- What the three writing passes make of a whole table: nothing, the jobs left, or the jobs left with a new one among them. Assumes nothing.
use Prim.Native.Nat.{ℕ, zero, suc, ◌+◌, ◌-◌, ◌<◌, ◌≤◌}
use mathlib.Core.Path.{◌≡◌, refl, sym, ap, ◌∙◌}
use mathlib.Core.Bool.{true}
use mathlib.Core.List.{List, [], ◌∷◌, ◌++◌, append_assoc}
use native.Mathlib.Omega.{arith}
use lib.ListN.{length, take, drop, replicate, length-append, length-take, length-drop, length-replicate, take-append-drop}
use lib.Seq.{length-take-le}
use Rattle.rules.specs.Limits.{places}
use Rattle.desk.specs.declared.Job.{Job}
use Rattle.desk.specs.Table.{none, filled, flexes, table_ok, ends}
use Rattle.desk.specs.Places.{shift}
use Rattle.desk.specs.Request.{insert_at, kept}
use Rattle.desk.proofs.Check.{listed_of, length-refit, opened_is}
use Rattle.desk.proofs.Chain.{Chain, chain_of, chain_kept}
use Rattle.desk.proofs.Spot.{length_shift}
use Rattle.desk_records.proofs.Moved.{moved_none}
use Rattle.desk_records.specs.Folds.{moved_up}
use Rattle.desk_records.specs.Sums.{most32}
use Rattle.desk_writing.specs.Writing.{shift_from, shifted, fit_from, fitted_all}
use Rattle.desk_engine.proofs.Fitted.{behind_of, Dues, fit_law}
use Rattle.desk_engine.proofs.Shifted.{shift_law, clear_law, Within}
use Rattle.desk_engine.proofs.Dropped.{gone_by, drop_law, gone-few}

-- no deadline is later than far off
dues_of : (e : ℕ) (js : List Job) → Chain e js → Dues js
dues_of e [] o = tt
dues_of e (j ∷ js) o = (omega (arith, o.1.low), dues_of (ends j) js o.2)

dues_take : (i : ℕ) (js : List Job) → Dues js → Dues (take i js)
dues_take zero js w = tt
dues_take (suc i) [] w = tt
dues_take (suc i) (j ∷ js) w = (w.0, dues_take i js w.1)

dues_one : (js : List Job) (j : Job) → Dues js → j.deadline ≤ most32 → Dues (js ++ (j ∷ []))
dues_one [] j w h = (h, tt)
dues_one (k ∷ js) j w h = (w.0, dues_one js j w.1 h)

-- the listed jobs with their own x, and zeros
pub open_table : (n : ℕ) (l : List Job) → table_ok n l ≡ true → fitted_all (fit_from (places - n) most32) (moved_up 0 l) ≡ filled (flexes (take n l))
open_table n l h =
    let w = listed_of n l h in
    let left : places - n ≡ length (drop n l) = omega (arith, length-drop n l, w.whole) in
    ap (fitted_all (fit_from (places - n) most32)) (moved_none l)
    ∙ ap (λ (m : ℕ). fitted_all (fit_from m most32) l) left
    ∙ ap (fitted_all (fit_from (length (drop n l)) most32)) (sym (take-append-drop n l))
    ∙ fit_law (take n l) [] (drop n l) (dues_of 0 (take n l) (chain_of 0 (take n l) w.order))
    ∙ opened_is n l h

module _ (t : ℕ) (l : List Job) (n : ℕ) (sixty : length l ≡ places) (o : Chain 0 (take n l)) where
  abbrev js : List Job
  js = take n l

  abbrev ks : List Job
  ks = kept t js

  -- what stands behind the jobs left, after the drop pass
  abbrev past : List Job
  past = drop n l ++ drop (length (js ++ drop n l) - gone_by t js) (js ++ drop n l)

  moved_is : moved_up (gone_by t js) l ≡ ks ++ past
  moved_is = ap (moved_up (gone_by t js)) (sym (take-append-drop n l)) ∙ drop_law t 0 js (drop n l) o

  length_moved : (k : ℕ) (r : List Job) → k ≤ length r → length (moved_up k r) ≡ length r
  unfolding moved_up
  length_moved k r h = omega (arith, h, length-append (drop k r) (drop (length r - k) r), length-drop k r, length-drop (length r - k) r)

  gone_in : gone_by t js ≤ length l
  gone_in = omega (arith, gone-few t js, length-take n l)

  past_length : length ks + length past ≡ places
  past_length = sym (length-append ks past) ∙ ap length (sym moved_is) ∙ length_moved (gone_by t js) l gone_in ∙ sixty

  -- the jobs left, and zeros
  pub drop_table : shifted (shift_from (length ks) 0 none) (moved_up (gone_by t js) l) ≡ filled ks
  drop_table =
      let e : length past ≡ places - length ks = omega (arith, past_length) in
      ap (shifted (shift_from (length ks) 0 none)) moved_is ∙ clear_law ks past ∙ ap (λ (m : ℕ). ks ++ replicate m none) e

  -- the jobs left with a new one at place i, and zeros
  module _ (new : Job) (i : ℕ) (low : ends new ≤ most32) (due : new.deadline ≤ most32) (in-ks : i ≤ length ks) (some-free : length ks < places) (w : Within (ends new) (drop i ks)) where
    abbrev front : List Job
    front = take i ks

    abbrev rear : List Job
    rear = drop i ks

    abbrev zs : List Job
    zs = replicate (places - (length ks + 1)) none

    abbrev shifts : List Job → List Job
    shifts = shifted (shift_from i (suc (length ks - i)) new)

    abbrev fits : List Job → List Job
    fits = fitted_all (fit_from (places - (i + 1)) (behind_of (shift (ends new) rear)))

    shifted_is : (r : List Job) → past ≡ r → length ks + length r ≡ places → shifts (ks ++ r) ≡ front ++ (new ∷ (shift (ends new) rear ++ zs))
    shifted_is [] e h = absurd (omega (arith, h))
    shifted_is (y ∷ z) e h =
        let e₁ : length front ≡ i = length-take-le i ks in-ks in
        let e₂ : length rear ≡ length ks - i = length-drop i ks in
        let e₃ : length z ≡ places - (length ks + 1) = omega (arith, h) in
        ap (λ (m : ℕ). shifted (shift_from m (suc (length ks - i)) new) (ks ++ (y ∷ z))) (sym e₁)
        ∙ ap (λ (m : ℕ). shifted (shift_from (length front) (suc m) new) (ks ++ (y ∷ z))) (sym e₂)
        ∙ ap (λ (r : List Job). shifted (shift_from (length front) (suc (length rear)) new) (r ++ (y ∷ z))) (sym (take-append-drop i ks))
        ∙ ap (shifted (shift_from (length front) (suc (length rear)) new)) (append_assoc front rear (y ∷ z))
        ∙ shift_law front rear new y z low w
        ∙ ap (λ (m : ℕ). front ++ (new ∷ (shift (ends new) rear ++ replicate m none))) e₃

    pub take_table : fits (shifts (moved_up (gone_by t js) l)) ≡ filled (insert_at i new ks)
    take_table =
        let moved_on : List Job = shift (ends new) rear in
        let e₁ : length moved_on ≡ length ks - i = length_shift (ends new) rear ∙ length-drop i ks in
        let e₂ : places - (i + 1) ≡ length (moved_on ++ zs) = omega (arith, in-ks, some-free, e₁, length-append moved_on zs, length-replicate (places - (length ks + 1)) none) in
        let e₃ : places - length (insert_at i new ks) ≡ places - (length ks + 1) = omega (arith, in-ks, length-refit (front ++ (new ∷ [])) moved_on, length-append front (new ∷ []), length-take-le i ks in-ks, e₁) in
        ap (λ (r : List Job). fits (shifts r)) moved_is
        ∙ ap fits (shifted_is past refl past_length ∙ sym (append_assoc front (new ∷ []) (moved_on ++ zs)))
        ∙ ap (λ (m : ℕ). fitted_all (fit_from m (behind_of moved_on)) ((front ++ (new ∷ [])) ++ (moved_on ++ zs))) e₂
        ∙ fit_law (front ++ (new ∷ [])) moved_on zs (dues_one front new (dues_take i ks (dues_of 0 ks (chain_kept t 0 js o))) due)
        ∙ ap (λ (m : ℕ). insert_at i new ks ++ replicate m none) (sym e₃)
