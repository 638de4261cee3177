-- How far a request comes, in one walk over its tests; and that 13 to 17 refuse exactly where something that they ask for fails. Assumes nothing.
use Prim.Native.Nat.{ℕ, ◌<◌, ◌≤◌}
use mathlib.Core.Path.{◌≡◌, refl, sym, ◌∙◌}
use mathlib.Core.Bool.{Bool, true, false, not, true≢false}
use mathlib.Core.List.{List}
use native.Mathlib.Omega.{arith}
use lib.Dec.{leb, ltb}
use lib.ListN.{length, take}
use borrow.Author.Tests.{leb-true, leb-false, ltb-true, ltb-false}
use Rattle.rules.specs.Walk.{pick}
use Rattle.rules.specs.Limits.{places, latest}
use Rattle.rules.specs.declared.Refusal.TheVariants.{Rules, Numbers, Past, Busy, Full}
use Rattle.desk.specs.declared.Job.{Job}
use Rattle.std.specs.Prelude.{Err}
use Rattle.desk.specs.Table.{desk_ok, outcome, Outcome}
use Rattle.desk.specs.Request.{kept, busy, find, dropping, taking, numbers_ok, request_of, Place, At, Nowhere}
use Rattle.desk.specs.Theorems.{NoLower, Ready, LowerExactly}
use Rattle.desk.proofs.Check.{numbers-small}

-- how far a request comes: to the first test that refuses it, or through all of them to the search
pub data Comes (clock n : ℕ) (l : List Job) (t c d : ℕ) : Outcome → Type 0 where
  at_13 : desk_ok clock n l ≡ false → Comes clock n l t c d (outcome l n clock (Err Rules))
  at_14 : numbers_ok t c d ≡ false → Comes clock n l t c d (outcome l n clock (Err Numbers))
  at_15 : t < clock → Comes clock n l t c d (outcome l n clock (Err Past))
  at_16 : clock ≤ t → t ≤ latest → busy t (kept t (take n l)) ≡ true → Comes clock n l t c d (dropping t (kept t (take n l)) Busy)
  at_17 : clock ≤ t → t ≤ latest → places ≤ length (kept t (take n l)) → Comes clock n l t c d (dropping t (kept t (take n l)) Full)
  through : Ready clock n l t c d
      → Comes clock n l t c d (taking t c d (kept t (take n l)) (find t c d (kept t (take n l))))

module _ (clock n : ℕ) (l : List Job) (t c d : ℕ) where
  abbrev js : List Job
  js = kept t (take n l)

  -- what is left of a request behind each test
  abbrev behind_16 : Outcome
  behind_16 = pick (leb places (length js)) (dropping t js Full) (taking t c d js (find t c d js))

  abbrev behind_15 : Outcome
  behind_15 = pick (busy t js) (dropping t js Busy) behind_16

  abbrev behind_14 : Outcome
  behind_14 = pick (ltb t clock) (outcome l n clock (Err Past)) behind_15

  abbrev behind_13 : Outcome
  behind_13 = pick (not (numbers_ok t c d)) (outcome l n clock (Err Numbers)) behind_14

  pub comes : Comes clock n l t c d (request_of clock n l t c d)
  unfolding request_of
  comes = by_13 (desk_ok clock n l) refl where
    by_17 : (b : Bool) → leb places (length js) ≡ b → desk_ok clock n l ≡ true → numbers_ok t c d ≡ true → clock ≤ t → busy t js ≡ false
        → Comes clock n l t c d (pick b (dropping t js Full) (taking t c d js (find t c d js)))
    by_17 true e r m h i = at_17 h (numbers-small t c d m).2 (leb-true places (length js) e)
    by_17 false e r m h i =
        through (record { rules = r; numbers = m; not_past = h; not_busy = i; not_full = omega (arith, leb-false places (length js) e) })

    by_16 : (b : Bool) → busy t js ≡ b → desk_ok clock n l ≡ true → numbers_ok t c d ≡ true → clock ≤ t
        → Comes clock n l t c d (pick b (dropping t js Busy) behind_16)
    by_16 true e r m h = at_16 h (numbers-small t c d m).2 e
    by_16 false e r m h = by_17 (leb places (length js)) refl r m h e

    by_15 : (b : Bool) → ltb t clock ≡ b → desk_ok clock n l ≡ true → numbers_ok t c d ≡ true
        → Comes clock n l t c d (pick b (outcome l n clock (Err Past)) behind_15)
    by_15 true e r m = at_15 (ltb-true t clock e)
    by_15 false e r m = by_16 (busy t js) refl r m (ltb-false t clock e)

    by_14 : (b : Bool) → numbers_ok t c d ≡ b → desk_ok clock n l ≡ true
        → Comes clock n l t c d (pick (not b) (outcome l n clock (Err Numbers)) behind_14)
    by_14 true e r = by_15 (ltb t clock) refl r e
    by_14 false e r = at_14 e

    by_13 : (b : Bool) → desk_ok clock n l ≡ b → Comes clock n l t c d (pick (not b) (outcome l n clock (Err Rules)) behind_13)
    by_13 true e = by_14 (numbers_ok t c d) refl e
    by_13 false e = at_13 e

  ready : (o : Outcome) → NoLower o → Comes clock n l t c d o → Ready clock n l t c d
  ready o nl (at_13 e) = absurd (nl 13 (omega arith) (omega arith) refl)
  ready o nl (at_14 e) = absurd (nl 14 (omega arith) (omega arith) refl)
  ready o nl (at_15 e) = absurd (nl 15 (omega arith) (omega arith) refl)
  ready o nl (at_16 late small e) = absurd (nl 16 (omega arith) (omega arith) refl)
  ready o nl (at_17 late small e) = absurd (nl 17 (omega arith) (omega arith) refl)
  ready o nl (through w) = w

  searched_none : (p : Place) → NoLower (taking t c d js p)
  searched_none Nowhere m h g e = omega arith
  searched_none (At i s) m h g e = omega arith

  unrefused : Ready clock n l t c d → (o : Outcome) → Comes clock n l t c d o → NoLower o
  unrefused w o (at_13 e) = absurd (true≢false (sym w.rules ∙ e))
  unrefused w o (at_14 e) = absurd (true≢false (sym w.numbers ∙ e))
  unrefused w o (at_15 e) = absurd (omega (arith, w.not_past))
  unrefused w o (at_16 late small e) = absurd (true≢false (sym e ∙ w.not_busy))
  unrefused w o (at_17 late small e) = absurd (omega (arith, w.not_full))
  unrefused w o (through v) = searched_none (find t c d js)

pub lower_exactly : LowerExactly
lower_exactly clock n l t c d = (
  λ nl. ready clock n l t c d (request_of clock n l t c d) nl (comes clock n l t c d),
  λ w. unrefused clock n l t c d w (request_of clock n l t c d) (comes clock n l t c d),
)
