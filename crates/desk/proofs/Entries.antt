-- The laws of entries: how they follow their jobs. Assumes nothing.
use Prim.Native.Nat.{ℕ, zero, suc, ◌+◌, ◌<◌, ◌≤◌, max}
use mathlib.Core.Path.{◌≡◌, refl, sym, ap}
use mathlib.Core.Bool.{Bool, true, false}
use mathlib.Core.List.{List, [], ◌∷◌, ◌++◌}
use native.Mathlib.Omega.{arith}
use lib.Dec.{leb}
use lib.ListN.{length, take, drop, get_or}
use borrow.Author.Tests.{leb-true, leb-false, lt-leb}
use Rattle.desk.specs.declared.Job.{Job}
use Rattle.rules.specs.Walk.{pick}
use Rattle.desk.specs.Table.{job, flexes, ends}
use Rattle.desk.specs.Places.{shift}
use Rattle.desk.specs.Request.{kept, insert_at}
use Rattle.desk.specs.Story.{Entry, entry, no_entry, finish, ended, unended, standing, entries, Promise}
use Rattle.desk.proofs.Chain.{Chain}

-- the same job at another start
abbrev pub starting : Entry → ℕ → Entry
starting r s = entry r.since r.budget r.deadline s

abbrev pub with_entry : ℕ → Entry → List Entry → List Entry
with_entry i r rs = take i rs ++ (r ∷ drop i rs)

-- the entries gs are those of the jobs js, one for one
pub record Matching (g : Entry) (j : Job) : Type 0 where
  pub since : g.since ≤ j.start
  pub budget : g.budget ≡ j.budget
  pub due : g.deadline ≡ j.deadline

abbrev pub Follow : List Entry → List Job → Type 0
Follow [] [] = Unit {0}
Follow [] (j ∷ js) = ⊥
Follow (g ∷ gs) [] = ⊥
Follow (g ∷ gs) (j ∷ js) = Matching g j × Follow gs js

-- entries in order of time, the first not before e
pub record Held (e : ℕ) (r : Entry) : Type 0 where
  pub low : e ≤ r.start
  pub since : r.since ≤ r.start
  pub due : finish r ≤ r.deadline

abbrev pub Line : ℕ → List Entry → Type 0
Line e [] = Unit {0}
Line e (r ∷ rs) = Held e r × Line (finish r) rs

abbrev pub AllBy : ℕ → List Entry → Type 0
AllBy t [] = Unit {0}
AllBy t (r ∷ rs) = (finish r ≤ t) × AllBy t rs

pub line-entries : (e : ℕ) (gs : List Entry) (js : List Job) → Chain e js → Follow gs js → Line e (entries gs js)
line-entries e [] [] g f = tt
line-entries e [] (j ∷ js) g f = absurd f
line-entries e (k ∷ gs) [] g f = absurd f
line-entries e (k ∷ gs) (j ∷ js) g f = (
  record { low = g.0; since = f.0.since; due = omega (arith, f.0.budget, f.0.due, g.1.in_time) },
  rw f.0.budget (line-entries (ends j) gs js g.2 f.1),
)

same_end : (t : ℕ) (g : Entry) (j : Job) → Matching g j → leb (ends j) t ≡ leb (j.start + g.budget) t
same_end t g j f = ap (λ (n : ℕ). leb (j.start + n) t) (sym f.budget)

pub follow_kept : (t : ℕ) (gs : List Entry) (js : List Job) → Follow gs js → Follow (unended t (entries gs js)) (kept t js)
follow_kept t [] [] f = tt
follow_kept t [] (j ∷ js) f = absurd f
follow_kept t (g ∷ gs) [] f = absurd f
follow_kept t (g ∷ gs) (j ∷ js) f = rw (same_end t g j f.0) (cases (leb (j.start + g.budget) t) (follow_kept t gs js f.1)) where
  cases : (b : Bool) → Follow (unended t (entries gs js)) (kept t js)
      → Follow (pick b (unended t (entries gs js)) (starting g j.start ∷ unended t (entries gs js))) (pick b (kept t js) (j ∷ kept t js))
  cases true r = r
  cases false r = (record { since = f.0.since; budget = f.0.budget; due = f.0.due }, r)

pub entries-kept : (t : ℕ) (gs : List Entry) (js : List Job) → Follow gs js
    → entries (unended t (entries gs js)) (kept t js) ≡ unended t (entries gs js)
entries-kept t [] [] f = refl
entries-kept t [] (j ∷ js) f = absurd f
entries-kept t (g ∷ gs) [] f = absurd f
entries-kept t (g ∷ gs) (j ∷ js) f = rw (same_end t g j f.0) (cases (leb (j.start + g.budget) t) (entries-kept t gs js f.1)) where
  cases : (b : Bool) → entries (unended t (entries gs js)) (kept t js) ≡ unended t (entries gs js)
      → entries (pick b (unended t (entries gs js)) (starting g j.start ∷ unended t (entries gs js))) (pick b (kept t js) (j ∷ kept t js))
      ≡ pick b (unended t (entries gs js)) (starting g j.start ∷ unended t (entries gs js))
  cases true r = r
  cases false r = ap (λ (l : List Entry). starting g j.start ∷ l) r

none-ended : (t e : ℕ) (rs : List Entry) → t < e → Line e rs → (ended t rs ≡ []) × (unended t rs ≡ rs)
none-ended t e [] h g = (refl, refl)
none-ended t e (r ∷ rs) h g =
    let late : t < finish r = omega (arith, g.0.low) in
    let more = none-ended t (finish r) rs late g.1 in
    (rw (lt-leb (finish r) t late) more.0, rw (lt-leb (finish r) t late) (ap (λ (l : List Entry). r ∷ l) more.1))

pub ended-first : (t e : ℕ) (rs : List Entry) → Line e rs → ended t rs ++ unended t rs ≡ rs
ended-first t e [] g = refl
ended-first t e (r ∷ rs) g = cases (leb (finish r) t) refl (ended-first t (finish r) rs g.1) where
  cases : (b : Bool) → leb (finish r) t ≡ b → ended t rs ++ unended t rs ≡ rs
      → pick b (r ∷ ended t rs) (ended t rs) ++ pick b (unended t rs) (r ∷ unended t rs) ≡ r ∷ rs
  cases true h w = ap (λ (l : List Entry). r ∷ l) w
  cases false h w =
      let more = none-ended t (finish r) rs (leb-false (finish r) t h) g.1 in
      rw (more.0, more.1)

pub ended_by : (t : ℕ) (rs : List Entry) → AllBy t (ended t rs)
ended_by t [] = tt
ended_by t (r ∷ rs) = cases (leb (finish r) t) refl (ended_by t rs) where
  cases : (b : Bool) → leb (finish r) t ≡ b → AllBy t (ended t rs) → AllBy t (pick b (r ∷ ended t rs) (ended t rs))
  cases true h w = (leb-true (finish r) t h, w)
  cases false h w = w

pub by_later : (t u : ℕ) (rs : List Entry) → t ≤ u → AllBy t rs → AllBy u rs
by_later t u [] h g = tt
by_later t u (r ∷ rs) h g = (omega (arith, g.0), by_later t u rs h g.1)

pub by_join : (t : ℕ) (rs ss : List Entry) → AllBy t rs → AllBy t ss → AllBy t (rs ++ ss)
by_join t [] ss g h = h
by_join t (r ∷ rs) ss g h = (g.0, by_join t rs ss g.1 h)

line_low : (e f : ℕ) (rs : List Entry) → f ≤ e → Line e rs → Line f rs
line_low e f [] h g = tt
line_low e f (r ∷ rs) h g = (record { low = omega (arith, g.0.low); since = g.0.since; due = g.0.due }, g.1)

-- in place of what follows entries that end by t, entries from t on
pub line_join : (e t : ℕ) (rs ss zs : List Entry) → e ≤ t → Line e (rs ++ ss) → AllBy t rs → Line t zs → Line e (rs ++ zs)
line_join e t [] ss zs h g b z = line_low t e zs h z
line_join e t (r ∷ rs) ss zs h g b z = (g.0, line_join (finish r) t rs ss zs b.0 g.1 b.1 z)

pub follow_shift : (e : ℕ) (gs : List Entry) (js : List Job) → Follow gs js → Follow gs (shift e js)
follow_shift e [] [] f = tt
follow_shift e [] (j ∷ js) f = absurd f
follow_shift e (g ∷ gs) [] f = absurd f
follow_shift e (g ∷ gs) (j ∷ js) f = (
  record { since = omega (arith, f.0.since); budget = f.0.budget; due = f.0.due },
  follow_shift (max e j.start + j.budget) gs js f.1,
)

pub follow_insert : (i : ℕ) (g : Entry) (gs : List Entry) (js : List Job) (s : ℕ) → g.since ≤ s → Follow gs js
    → Follow (with_entry i g gs) (insert_at i (job s g.budget g.deadline 0) js)
follow_insert zero g gs js s h f = (record { since = h; budget = refl; due = refl }, follow_shift (s + g.budget) gs js f)
follow_insert (suc i) g [] [] s h f = (record { since = h; budget = refl; due = refl }, tt)
follow_insert (suc i) g [] (j ∷ js) s h f = absurd f
follow_insert (suc i) g (k ∷ gs) [] s h f = absurd f
follow_insert (suc i) g (k ∷ gs) (j ∷ js) s h f =
    (record { since = f.0.since; budget = f.0.budget; due = f.0.due }, follow_insert i g gs js s h f.1)

pub follow_open : (js : List Job) → Follow (standing js) (flexes js)
follow_open [] = tt
follow_open (j ∷ js) = (record { since = omega arith; budget = refl; due = refl }, follow_open js)

pub entries_open : (js : List Job) → entries (standing js) (flexes js) ≡ standing js
entries_open [] = refl
entries_open (j ∷ js) = ap (λ (rs : List Entry). entry j.start j.budget j.deadline j.start ∷ rs) (entries_open js)

pub line-held : (e : ℕ) (rs : List Entry) (k : ℕ) → k < length rs → Line e rs → Held e (get_or rs k no_entry)
line-held e [] k h g = absurd (omega arith)
line-held e (r ∷ rs) zero h g = g.0
line-held e (r ∷ rs) (suc k) h g =
    let w = line-held (finish r) rs k (omega arith) g.1 in
    record { low = omega (arith, w.low, g.0.low); since = w.since; due = w.due }

pub line-apart : (e : ℕ) (rs : List Entry) (i k : ℕ) → i < k → k < length rs → Line e rs → finish (get_or rs i no_entry) ≤ (get_or rs k no_entry).start
line-apart e [] i k h l g = absurd (omega arith)
line-apart e (r ∷ rs) zero zero h l g = absurd (omega arith)
line-apart e (r ∷ rs) zero (suc k) h l g = (line-held (finish r) rs k (omega arith) g.1).low
line-apart e (r ∷ rs) (suc i) zero h l g = absurd (omega arith)
line-apart e (r ∷ rs) (suc i) (suc k) h l g = line-apart (finish r) rs i k (omega arith) (omega arith) g.1

pub line_promise : (e : ℕ) (rs : List Entry) → Line e rs → Promise rs
line_promise e rs g =
    record {
      not_before = λ k h. (line-held e rs k h g).since;
      in_time = λ k h. (line-held e rs k h g).due;
      apart = λ i k h l. line-apart e rs i k h l g;
    }
