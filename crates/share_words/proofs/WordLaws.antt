-- Laws of words and numbers. Assumes nothing.
use Prim.Native.Nat.{ℕ, ◌+◌, ◌-◌, ◌*◌, ◌≤◌, ◌<◌}
use mathlib.Core.Path.{◌≡◌, refl, sym, ap, ◌∙◌}
use mathlib.Core.Bool.{Bool, true, false, ◌&&◌, not}
use mathlib.Core.List.{List, [], ◌∷◌}
use native.Mathlib.Numerals.{add-one}
use native.Mathlib.Omega.{arith}
use lib.ListN.{length, get_or, take, drop, length-drop}
use lib.Seq.{take-suc, take_all}
use Rattle.std.proofs.lemmas.List.{take-append-drop}
use lib.Dec.{leb, ltb}
use borrow.Author.Tests.{lt-ltb, le-ltb, le-leb, lt-leb, ne_eqb}
use Rattle.rules.specs.Walk.{pick, first}
use Rattle.rules.proofs.First.{first_found}
use Prim.Native.Char.{code}
use Rattle.output.specs.Decimal.{value}
use Rattle.output.proofs.Decimal.{value-append}
use Rattle.std.specs.Prelude.{Some, None}
use Rattle.std.specs.Char.{is_ascii_digit}
use Rattle.share_words.specs.Words.{ends_word, no_digit, stops_at, found, width, is_number, numeral, highest}

-- a part up to the end
pub tail : (a : ℕ) (l : List ℕ) → take (length l - a) (drop a l) ≡ drop a l
tail a l = take_all (length l - a) (drop a l) (simp length-drop (omega arith))

-- no word at the end
pub width-none : (l : List ℕ) → length l < 1 → 0 ≡ width l
unfolding width first
width-none [] h = refl
width-none (b ∷ l) h = absurd (omega arith)

pub width_slash : (l : List ℕ) → get_or l 0 0 ≡ (code "/") → width l ≡ 1
unfolding width
width_slash l e = rw e

pub width_more : (l : List ℕ) (r : ℕ) → (get_or l 0 0 ≡ (code "/") → ⊥) → r ≡ found ends_word l → r ≡ width l
unfolding width
width_more l r h e = rw (ne_eqb (get_or l 0 0) (code "/") h) e

-- a turn over the digits: one more of them
value_more : (w : List ℕ) (k : ℕ) → k < length w → value (take (k + 1) w) 0 ≡ value (take k w) 0 * 10 + (get_or w k 0 - code "0")
unfolding value
value_more w k h = rw (add-one k, take-suc w k 0 h) (value-append (take k w) (get_or w k 0 ∷ []) 0)

pub digits_more : (w : List ℕ) (k v : ℕ) → k < length w → v ≡ value (take k w) 0 → v * 10 + (get_or w k 0 - code "0") ≡ value (take (k + 1) w) 0
digits_more w k v h e = rw e (sym (value_more w k h))

-- what is read further says no less
value-grows : (ds : List ℕ) (v : ℕ) → v ≤ value ds v
unfolding value
value-grows [] v = omega arith
value-grows (d ∷ ds) v = let h = value-grows ds (v * 10 + (d - code "0")) in omega (arith, h)

-- no number: nothing, a byte that is no digit, or more than a number can say
pub numeral-none : (w : List ℕ) → length w < 1 → None ≡ numeral w
unfolding numeral is_number
numeral-none w h = rw (le-ltb 0 (length w) (omega arith))

pub numeral_odd : (w : List ℕ) (k : ℕ) → k < length w → first (stops_at no_digit w) k ≡ k → no_digit (get_or w k 0) ≡ true → None ≡ numeral w
unfolding numeral is_number stops_at
numeral_odd w k l e h = rw (lt-ltb 0 (length w) (omega arith), first_found (stops_at no_digit w) (length w) k l e h, lt-leb (length w) k l)

more-digits : (w : List ℕ) (k : ℕ) → value (take k w) 0 ≤ value w 0
more-digits w k =
    let h = value-grows (drop k w) (value (take k w) 0) in
    let e : value w 0 ≡ value (drop k w) (value (take k w) 0) = sym (ap (λ l. value l 0) (take-append-drop k w)) ∙ value-append (take k w) (drop k w) 0 in
    rw e h

pub numeral-more : (w : List ℕ) (k v : ℕ) → k < length w → v ≡ value (take k w) 0 → highest < v * 10 + (get_or w k 0 - code "0") → None ≡ numeral w
unfolding numeral is_number
numeral-more w k v l e h = step (ltb 0 (length w)) (leb (length w) (found no_digit w))
  where
    step : (a b : Bool) → None ≡ pick (a && b && leb (value w 0) highest) (Some (value w 0)) None
    step true true = rw (lt-leb (value w 0) highest (omega (arith, h, digits_more w k v l e, more-digits w (k + 1))))
    step true false = refl
    step false b = refl

-- digits alone, k of them read
pub numeral-all : (w : List ℕ) (k v : ℕ) → 1 ≤ length w → length w ≤ k → k ≤ length w → first (stops_at no_digit w) k ≡ k → v ≡ value (take k w) 0 → v ≤ highest → Some v ≡ numeral w
unfolding numeral is_number
numeral-all w k v l h m f e g =
    let n : k ≡ length w = omega arith in
    let f' = rw n at f in
    let e' : v ≡ value w 0 = e ∙ ap (λ x. value x 0) (take_all k w h) in
    rw (lt-ltb 0 (length w) (omega arith), f', le-leb (length w) (length w) (omega arith), ← e', le-leb v highest g)

-- the library's test of a byte
pub digit_is : (b : ℕ) {r : Bool} → r ≡ is_ascii_digit b → no_digit b ≡ not r
unfolding no_digit
digit_is b e = rw e
