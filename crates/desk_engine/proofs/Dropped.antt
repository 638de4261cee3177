-- The drop pass against the desk's `kept`. Assumes nothing.
use Prim.Native.Nat.{ℕ, suc, ◌+◌, ◌-◌, ◌<◌, ◌≤◌}
use mathlib.Core.Path.{◌≡◌, refl, sym, ap, ◌∙◌}
use mathlib.Core.Bool.{Bool, true, false}
use mathlib.Core.List.{List, [], ◌∷◌, ◌++◌, append_assoc}
use native.Mathlib.Omega.{arith}
use lib.Dec.{leb}
use lib.ListN.{length, drop}
use lib.Seq.{drop-append-le}
use borrow.Author.Tests.{lt-leb, leb-false}
use Rattle.rules.specs.Walk.{pick}
use Rattle.desk.specs.declared.Job.{Job}
use Rattle.desk.specs.Table.{ends}
use Rattle.desk.specs.Request.{kept}
use Rattle.desk.proofs.Chain.{Chain}
use Rattle.desk_records.specs.Folds.{moved_up}

-- how many jobs end by t
abbrev pub gone_by : ℕ → List Job → ℕ
gone_by t [] = 0
gone_by t (j ∷ js) = pick (leb (ends j) t) (suc (gone_by t js)) (gone_by t js)

pub gone-none : (t e : ℕ) (js : List Job) → t < e → Chain e js → (gone_by t js ≡ 0) × (kept t js ≡ js)
gone-none t e [] h o = (refl, refl)
gone-none t e (j ∷ js) h o =
    let late : t < ends j = omega (arith, h, o.0) in
    let two = gone-none t (ends j) js late o.2 in
    (rw (lt-leb (ends j) t late) two.0, rw (lt-leb (ends j) t late) (ap (λ (r : List Job). j ∷ r) two.1))

kept-drop : (t e : ℕ) (js : List Job) → Chain e js → kept t js ≡ drop (gone_by t js) js
kept-drop t e [] o = refl
kept-drop t e (j ∷ js) o = by_end (leb (ends j) t) refl (kept-drop t (ends j) js o.2) where
  by_end : (b : Bool) → leb (ends j) t ≡ b → kept t js ≡ drop (gone_by t js) js
      → pick b (kept t js) (j ∷ kept t js) ≡ drop (pick b (suc (gone_by t js)) (gone_by t js)) (j ∷ js)
  by_end true e more = more
  by_end false e more =
      let two = gone-none t (ends j) js (leb-false _ _ e) o.2 in
      rw (two.0, two.1)

pub gone-few : (t : ℕ) (js : List Job) → gone_by t js ≤ length js
gone-few t [] = omega arith
gone-few t (j ∷ js) = by_end (leb (ends j) t) (gone-few t js) where
  by_end : (b : Bool) → gone_by t js ≤ length js → pick b (suc (gone_by t js)) (gone_by t js) ≤ suc (length js)
  by_end true h = omega arith
  by_end false h = omega arith

-- those dropped and those left are all
pub gone-kept : (t : ℕ) (js : List Job) → gone_by t js + length (kept t js) ≡ length js
gone-kept t [] = omega arith
gone-kept t (j ∷ js) = by_end (leb (ends j) t) (gone-kept t js) where
  by_end : (b : Bool) → gone_by t js + length (kept t js) ≡ length js
      → pick b (suc (gone_by t js)) (gone_by t js) + length (pick b (kept t js) (j ∷ kept t js)) ≡ suc (length js)
  by_end true h = omega (arith, h)
  by_end false h = omega (arith, h)

-- after the drop pass the jobs that do not end by t stand in front, of a table of the same length
pub drop_law : (t e : ℕ) (js z : List Job) → Chain e js
    → moved_up (gone_by t js) (js ++ z) ≡ kept t js ++ (z ++ drop (length (js ++ z) - gone_by t js) (js ++ z))
unfolding moved_up
drop_law t e js z o =
    ap (λ (r : List Job). r ++ drop (length (js ++ z) - gone_by t js) (js ++ z)) (drop-append-le (gone_by t js) js z (gone-few t js))
    ∙ append_assoc (drop (gone_by t js) js) z (drop (length (js ++ z) - gone_by t js) (js ++ z))
    ∙ ap (λ (r : List Job). r ++ (z ++ drop (length (js ++ z) - gone_by t js) (js ++ z))) (sym (kept-drop t e js o))
