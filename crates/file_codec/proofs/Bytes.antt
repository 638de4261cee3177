-- Laws of two-byte numbers: the numbers of bytes, the bytes of numbers, and bytes stored one behind the other. Assumes nothing.
use Prim.Native.Nat.{ℕ, zero, suc, ◌+◌, ◌-◌, ◌*◌, ◌/◌, ◌%◌, ◌≤◌, ◌<◌}
use mathlib.Core.Path.{◌≡◌, refl, sym}
use mathlib.Core.List.{List, [], ◌∷◌, ◌++◌, append_assoc, append-nil}
use native.Mathlib.Nat.{not-suc-le-zero, le_of_suc-le-suc, div-add-mod'}
use native.Mathlib.Numerals.{add-one}
use native.Mathlib.Omega.{arith}
use lib.ListN.{length, get_or, get_or-eq_default, set, take, drop, length-drop, drop_of_length-le}
use lib.Seq.{take-suc, drop-cons, set_at, get_or-take, length-take-le, take_all, take_at, drop_at, drop-drop}
use Rattle.file_codec.specs.Bytes.{nums_of, bytes_of, Bytes}
use Rattle.file_codec.specs.Inner.{over}

pub double : (k : ℕ) → 2 * suc k ≡ suc (suc (2 * k))
double k = omega arith

pub double_more : (k f : ℕ) → 2 * suc k + f ≡ suc (suc (2 * k + f))
double_more k f = omega arith

pub nums_of_length : (b : List ℕ) → length (nums_of b) ≡ length b / 2
unfolding nums_of
nums_of_length [] = refl
nums_of_length (h ∷ []) = refl
nums_of_length (h ∷ l ∷ bs) = omega (arith, nums_of_length bs)

pub nums_of_at : (b : List ℕ) (k : ℕ) → k < length b / 2 → get_or (nums_of b) k 0 ≡ get_or b (2 * k) 0 * 256 + get_or b (2 * k + 1) 0
unfolding nums_of
nums_of_at [] k h = absurd (omega arith)
nums_of_at (x ∷ []) k h = absurd (omega arith)
nums_of_at (x ∷ y ∷ bs) zero h = refl
nums_of_at (x ∷ y ∷ bs) (suc k) h = rw (double_more k 1, double k) (nums_of_at bs k (omega arith))

pub nums_past : (b : List ℕ) (k : ℕ) → length b / 2 ≤ k → 0 ≡ get_or (nums_of b) k 0
nums_past b k h = sym (get_or-eq_default (nums_of b) 0 (rw (nums_of_length b) h))

-- the first bytes hold the first numbers
pub nums_of-take : (b : List ℕ) (n k : ℕ) → n ≤ length b → k < n / 2 → get_or (nums_of (take n b)) k 0 ≡ get_or (nums_of b) k 0
nums_of-take b n k h l =
    let m : length (take n b) ≡ n = length-take-le n b h in
    rw (nums_of_at (take n b) k (omega arith), nums_of_at b k (omega arith), get_or-take n b (2 * k) 0 (omega arith), get_or-take n b (2 * k + 1) 0 (omega arith))

pub bytes_of-length : (ns : List ℕ) → length (bytes_of ns) ≡ 2 * length ns
unfolding bytes_of
bytes_of-length [] = refl
bytes_of-length (n ∷ ns) = omega (arith, bytes_of-length ns)

pub bytes_of_high : (ns : List ℕ) (k : ℕ) → k < length ns → get_or (bytes_of ns) (2 * k) 0 ≡ get_or ns k 0 / 256
unfolding bytes_of
bytes_of_high [] k h = absurd (not-suc-le-zero h)
bytes_of_high (n ∷ ns) zero h = refl
bytes_of_high (n ∷ ns) (suc k) h = rw double (bytes_of_high ns k (le_of_suc-le-suc h))

pub bytes_of_low : (ns : List ℕ) (k : ℕ) → k < length ns → get_or (bytes_of ns) (2 * k + 1) 0 ≡ get_or ns k 0 % 256
unfolding bytes_of
bytes_of_low [] k h = absurd (not-suc-le-zero h)
bytes_of_low (n ∷ ns) zero h = refl
bytes_of_low (n ∷ ns) (suc k) h = rw (double_more k 1) (bytes_of_low ns k (le_of_suc-le-suc h))

pub bytes_of-append : (ms ns : List ℕ) → bytes_of (ms ++ ns) ≡ bytes_of ms ++ bytes_of ns
unfolding bytes_of
bytes_of-append [] ns = refl
bytes_of-append (m ∷ ms) ns = rw (bytes_of-append ms ns)

-- ---- there and back

pub nums_bytes : (ns : List ℕ) → nums_of (bytes_of ns) ≡ ns
unfolding nums_of bytes_of
nums_bytes [] = refl
nums_bytes (n ∷ ns) = rw (nums_bytes ns, div-add-mod' n 256)

pub bytes_nums : (b : List ℕ) → length b % 2 ≡ 0 → Bytes b → bytes_of (nums_of b) ≡ b
unfolding nums_of bytes_of Bytes
bytes_nums [] e h = refl
bytes_nums (x ∷ []) e h = absurd (omega arith)
bytes_nums (x ∷ y ∷ bs) e h =
    let hy : y < 256 = h 1 (omega arith) in
    let ed : (x * 256 + y) / 256 ≡ x = omega arith in
    let em : (x * 256 + y) % 256 ≡ y = omega arith in
    rw (bytes_nums bs (omega arith) (λ k l. h (suc (suc k)) (omega arith)), ed, em)

-- A LIST WITH THE FIRST n ELEMENTS OF s

-- a loop's store at n
pub over_more : (s : List ℕ) (n : ℕ) (d : List ℕ) → n < length s → n < length d → set (over s n d) n (get_or s n 0) ≡ over s (n + 1) d
over_more s n d h k =
    let e : length (take n s) ≡ n = length-take-le n s (omega arith) in
    rw (drop-cons d n 0 k, set_at (take n s) (get_or d n 0) (drop (suc n) d) (get_or s n 0) n e, add-one n, take-suc s n 0 h, append_assoc (take n s) (get_or s n 0 ∷ []) (drop (suc n) d))

-- the next body: where a is what has been written of d, b goes in behind it
pub next : (a b d : List ℕ) (n m k : ℕ) → length a ≡ n → length b ≡ m → n + m ≡ k
    → take n (a ++ drop n d) ++ (b ++ drop m (drop n (a ++ drop n d))) ≡ (a ++ b) ++ drop k d
next a b d n m k ea eb e = rw (take_at a (drop n d) n ea, drop_at a (drop n d) n ea, drop-drop m n d, e, append_assoc a b (drop k d))

-- a loop's turn that stores a number's two bytes
pub put_more : (t : List ℕ) (k : ℕ) (d : List ℕ) → k < length t → 2 * k + 1 < length d
    → set (set (over (bytes_of t) (2 * k) d) (2 * k) (get_or t k 0 / 256)) (2 * k + 1) (get_or t k 0 % 256) ≡ over (bytes_of t) (2 * (k + 1)) d
put_more t k d h l =
    let n : length (bytes_of t) ≡ 2 * length t = bytes_of-length t in
    let e : 2 * k + 1 + 1 ≡ 2 * (k + 1) = omega arith in
    rw (← bytes_of_high t k h, ← bytes_of_low t k h, over_more (bytes_of t) (2 * k) d (omega arith) (omega arith), over_more (bytes_of t) (2 * k + 1) d (omega arith) l, e)

pub put_done : (t d : List ℕ) → over (bytes_of t) (2 * length t) d ≡ bytes_of t ++ drop (2 * length t) d
put_done t d = let n : length (bytes_of t) ≡ 2 * length t = bytes_of-length t in rw (take_all (2 * length t) (bytes_of t) (omega arith))

-- the part of o from a, lent and given back as l, is where a body went
pub lent : (o t l : List ℕ) (a : ℕ) → a ≤ length o → l ≡ bytes_of t ++ drop (2 * length t) (take (length o - a) (drop a o))
    → take a o ++ (l ++ drop (length o - a) (drop a o)) ≡ take a o ++ (bytes_of t ++ drop (2 * length t) (drop a o))
lent o t l a h e =
    let n : length (drop a o) ≡ length o - a = length-drop a o in
    rw (e, take_all (length o - a) (drop a o) (omega arith), drop_of_length-le (drop a o) {i = length o - a} (omega arith), append-nil (bytes_of t ++ drop (2 * length t) (drop a o)))
