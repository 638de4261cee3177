-- A request at time t, of budget c and deadline d: document 01, "The desk", with the range of document 02, ask 1, and refusals 13 to 18 in their order;
-- clock, n and l are those at the call, js the jobs left. Assumes nothing.
use Rattle.std.specs.Prelude.{ℕ, ◌+◌, Bool, false, not, ◌&&◌, List, [], ◌∷◌, ◌++◌, leb, ltb, length, take, drop, Ok, Err}
use Rattle.rules.specs.Walk.{pick}
use Rattle.rules.specs.Limits.{places, latest}
use Rattle.rules.specs.Refusals.{told}
use Rattle.rules.specs.declared.Refusal.{Refusal}
use Rattle.rules.specs.declared.Refusal.TheVariants.{Rules, Numbers, Past, Busy, Full, NoPlace}
use Rattle.desk.specs.declared.Job.{Job}
use Rattle.desk.specs.declared.Done.TheVariants.{Taken}
use Rattle.desk.specs.Table.{job, start, ends, filled, Outcome, outcome, refit, desk_ok}
use Rattle.desk.specs.Places.{early, room, shift}
use Rattle.desk.specs.Reason.{explanation_of}

-- "First, jobs with a + C ≤ t are dropped and the rest move up."
abbrev pub kept : ℕ → List Job → List Job
kept t [] = []
kept t (j ∷ js) = pick (leb (ends j) t) (kept t js) (j ∷ kept t js)

-- "If the first job left has a < t, it is running: busy."
abbrev pub busy : ℕ → List Job → Bool
busy t [] = false
busy t (j ∷ js) = ltb (start j) t

-- a place with room and the start there, or none
pub data Place : Type 0 where
  At : ℕ → ℕ → Place
  Nowhere : Place

-- "The lowest place with R ≥ C is taken, start s", from i on; s is t for place 0, "else the end of the job before".
-- "place l is tried too, also when the table is empty or no job follows: it is taken when s + C ≤ d"
abbrev pub find_from : ℕ → ℕ → ℕ → ℕ → List Job → Place
find_from i s c d [] = pick (leb (s + c) d) (At i s) Nowhere
find_from i s c d (j ∷ js) = pick (leb c (room s d j)) (At i s) (find_from (i + 1) (ends j) c d js)

-- "For places i from 0 to l − 1", and place l behind them
abbrev pub find : ℕ → ℕ → ℕ → List Job → Place
find t c d js = find_from 0 t c d (take (early d js) js)

-- the new job at place i: later jobs move, "earlier x are worked out again from there towards the front"
abbrev pub insert_at : ℕ → Job → List Job → List Job
insert_at i new js = refit (take i js ++ (new ∷ [])) (shift (ends new) (drop i js))

-- not "C zero, or C, d or t above 1,000,000"
abbrev pub numbers_ok : ℕ → ℕ → ℕ → Bool
numbers_ok t c d = leb 1 c && (leb c latest && (leb d latest && leb t latest))

-- "16, 17, 18 set the clock to t and drop finished jobs .. nothing else changes."
abbrev pub dropping : ℕ → List Job → Refusal → Outcome
dropping t js r = outcome (filled js) (length js) t (Err r)

-- 18 with its reason, or "A job taken in sets the clock too."
abbrev pub taking : ℕ → ℕ → ℕ → List Job → Place → Outcome
taking t c d js Nowhere = dropping t js (NoPlace (explanation_of t d js))
taking t c d js (At i s) = outcome (filled (insert_at i (job s c d 0) js)) (length js + 1) t (Ok (Taken i s))

-- "13, 14, 15 .. change nothing at the desk."
unfoldable pub request_of : ℕ → ℕ → List Job → ℕ → ℕ → ℕ → Outcome
request_of clock n l t c d =
    let js = kept t (take n l) in
    pick (not (desk_ok clock n l)) (outcome l n clock (Err Rules))
    (pick (not (numbers_ok t c d)) (outcome l n clock (Err Numbers))
    (pick (ltb t clock) (outcome l n clock (Err Past))
    (pick (busy t js) (dropping t js Busy)
    (pick (leb places (length js)) (dropping t js Full)
    (taking t c d js (find t c d js))))))

-- whether a refusal is 16, 17 or 18
abbrev pub drops : Refusal → Bool
drops r = leb 16 (told r).number && leb (told r).number 18
