-- Laws of numbers put one behind the other. Assumes nothing.
use Prim.Native.Nat.{ℕ, suc, ◌+◌, ◌≤◌, ◌<◌}
use mathlib.Core.Path.{◌≡◌, refl, sym, ◌∙◌}
use mathlib.Core.List.{List, [], ◌∷◌, ◌++◌}
use native.Mathlib.Nat.{add-zero}
use native.Mathlib.Numerals.{add-one}
use native.Mathlib.Omega.{arith}
use lib.ListN.{length, set, get_or, take, drop, length-append}
use lib.Seq.{sets, sets-eq, take-suc, take_at}
use Rattle.rules.specs.Walk.{gathered}
use Rattle.rules.proofs.First.{gathered-zero, gathered_more}
use Rattle.output.specs.Put.{Put}

sets_append : {A : Type 0} (a b l : List A) (i : ℕ) → sets l i (a ++ b) ≡ sets (sets l i a) (i + length a) b
sets_append [] b l i = rw (add-zero i)
sets_append (x ∷ a) b l i = sets_append a b (set l i x) (suc i) ∙ (let e : suc i + length a ≡ i + suc (length a) = omega arith in rw e)

pub put_none : {A : Type 0} (l : List A) (i : ℕ) → Put l i [] i l
put_none l i = record { place = sym (add-zero i); bytes = refl }

pub and_then : {A : Type 0} {l m o a b : List A} {i j r : ℕ} → Put l i a j m → Put m j b r o → Put l i (a ++ b) r o
and_then {l = l} {m} {o} {a} {b} {i} {j} {r} p q = record {
  place = rw (length-append a b) (omega (arith, p.place, q.place));
  bytes = rw (sets_append a b l i, ← p.bytes, ← p.place) q.bytes;
}

-- a loop's turn over what is put: one more of it
pub put_turn :
    {A : Type 0} {l m o : List A} {i j r : ℕ} (s : List A) (k : ℕ) (x : A) → k < length s → x ≡ get_or s k x
    → Put l i (take k s) j m → Put m j (x ∷ []) r o → Put l i (take (k + 1) s) r o
put_turn s k x h e p q = rw (add-one k, take-suc s k x h, ← e) (and_then p q)

-- lines one behind the other: none, and one more
pub lines_none : (f : ℕ → List ℕ) (l : List ℕ) (i : ℕ) → Put l i (gathered f 0) i l
lines_none f l i = rw (gathered-zero f) (put_none l i)

pub lines_more : {l m o : List ℕ} {i j r : ℕ} (f : ℕ → List ℕ) (k : ℕ) → Put l i (gathered f k) j m → Put m j (f k) r o → Put l i (gathered f (k + 1)) r o
lines_more f k p q = rw (gathered_more f k) (and_then p q)

-- into an output with room
pub put_front : {l o s : List ℕ} {r : ℕ} → Put l 0 s r o → length s ≤ length l → o ≡ s ++ drop (length s) l
put_front {l} {o} {s} p h = let z : 0 + length s ≡ length s = omega arith in p.bytes ∙ sets-eq s l 0 (omega arith) ∙ rw z

pub put_taken : {l o s : List ℕ} {r : ℕ} → Put l 0 s r o → r ≤ length l → (r ≤ length o) × (take r o ≡ s)
put_taken {l} {o} {s} {r} p h =
    let n : length s ≡ r = omega (arith, p.place) in
    let e : o ≡ s ++ drop (length s) l = put_front p (omega arith) in
    (rw (e, length-append s (drop (length s) l)) (omega arith), rw e (take_at s (drop (length s) l) r n))

-- what is left to put: s at the start of l is rest at the place of o
pub record Rest (l s : List ℕ) (at : ℕ) (o rest : List ℕ) : Type 0 where
  pub left : sets l 0 s ≡ sets o at rest
  pub count : length s ≡ at + length rest

pub rest_all : (l s : List ℕ) → Rest l s 0 l s
rest_all l s = record { left = refl; count = omega arith }

pub rest_more : {l s o m rest a : List ℕ} {i j : ℕ} → Rest l s i o (a ++ rest) → Put o i a j m → Rest l s j m rest
rest_more {l} {s} {o} {m} {rest} {a} {i} {j} r p = record {
  left = r.left ∙ sets_append a rest o i ∙ rw (← p.bytes, ← p.place);
  count = r.count ∙ rw (length-append a rest) (omega (arith, p.place));
}

pub rest-none : {l s o m rest : List ℕ} {i j : ℕ} → Rest l s i o rest → Put o i rest j m → Put l 0 s j m
rest-none r p = record { place = omega (arith, r.count, p.place); bytes = p.bytes ∙ sym r.left }
