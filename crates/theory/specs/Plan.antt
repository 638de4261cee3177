-- The plan that repeats without end, whom each tick serves, the ticks held in a stretch, least service, and serving. Assumes nothing.
use Rattle.std.specs.Prelude.{◌≡◌, Bool, ◌&&◌, not, List, ℕ, ◌+◌, ◌-◌, ◌%◌, ◌≤◌, ◌<◌, eqb, length, get_or, Result, Ok, Err}
use Rattle.rules.specs.Walk.{pick, first, count, smallest}
use Rattle.rules.specs.Table.{cycle, partitions}
use Rattle.rules.specs.Terms.{good_edition, rule_of}
use Rattle.rules.specs.declared.Rule.{Rule}
use Rattle.rules.specs.declared.Rule.TheVariants.{Own, Switching}
use Rattle.rules.specs.declared.Refusal.TheVariants.{Edition}
use Rattle.rules.specs.declared.Refusal.{Refusal}

-- "A plan of F ticks names for each tick its owner: a partition, or 0 for idle. It repeats without end."
unfoldable pub owner : List ℕ → ℕ → ℕ
owner plan t = get_or plan (t % length plan) 0

-- document 02, ask 6: "the tick before .., the frame's end joined to its start": it is F - 1 ticks on too
unfoldable pub owner_before : List ℕ → ℕ → ℕ
owner_before plan t = owner plan (t + (length plan - 1))

-- "the first tick of a run is spent on switching when the tick before belongs to another partition or to idle"
unfoldable pub switch_tick : List ℕ → ℕ → Bool
switch_tick plan t = not (eqb (owner plan t) 0) && not (eqb (owner_before plan t) (owner plan t))

-- "A switch tick is owned but doesn't count as service."
unfoldable pub unswitched : List ℕ → ℕ → ℕ
unswitched plan t = pick (switch_tick plan t) 0 (owner plan t)

-- the partition that tick t serves, or 0 for none: by edition 1's rule its owner
unfoldable pub service : Rule → List ℕ → ℕ → ℕ
service Own = owner
service Switching = unswitched

-- how many of the n ticks from s on are p's, where o names the owner of each tick
unfoldable pub owned : (ℕ → ℕ) → ℕ → ℕ → ℕ → ℕ
owned o p n s = count (λ k. eqb (o (s + k)) p) n

-- how many of the n ticks from tick s on serve partition p
abbrev pub held : Rule → List ℕ → ℕ → ℕ → ℕ → ℕ
held rule plan = owned (service rule plan)

-- "2 now means neither 1 nor 2, in a call too"; else the count
abbrev pub count_in : ℕ → ℕ → Result ℕ Refusal
count_in e n = pick (good_edition e) (Ok n) (Err Edition)

-- the answer r of the call in edition e, for the n ticks from tick s on
abbrev pub HeldIs : ℕ → List ℕ → ℕ → ℕ → ℕ → Result ℕ Refusal → Type 0
HeldIs e plan p s n r = r ≡ count_in e (held (rule_of e) plan p n s)

-- "the smallest number of a partition's ticks in any t consecutive ticks of the repeated plan": every start is one of the F in the frame
unfoldable pub least : Rule → List ℕ → ℕ → ℕ → ℕ
least rule plan p t = smallest (held rule plan p t) (length plan)

-- the answer r of the call in edition e
abbrev pub LeastIs : ℕ → List ℕ → ℕ → ℕ → Result ℕ Refusal → Type 0
LeastIs e plan p t r = r ≡ count_in e (least (rule_of e) plan p t)

-- document 02, ask 7: tick s is "a worst start" for t ticks: from there on they hold the least
unfoldable pub worst : Rule → List ℕ → ℕ → ℕ → ℕ → Bool
worst rule plan p t s = eqb (held rule plan p t s) (least rule plan p t)

-- "(the lowest)"
unfoldable pub worst_start : Rule → List ℕ → ℕ → ℕ → ℕ
worst_start rule plan p t = first (worst rule plan p t) (length plan)

-- "every stretch of m consecutive ticks of the repeated plan, from any start and across the frame's end too, holds at least q ticks of that partition", where the partition at place k wants q k
abbrev pub Serves : Rule → (ℕ → ℕ) → List ℕ → List ℕ → Type 0
Serves rule q plan ps = (k s : ℕ) → k < partitions ps → q k ≤ held rule plan (k + 1) (cycle ps k) s
