-- What the builder answers, where the partition at place k wants q k. Assumes nothing.
use Rattle.std.specs.Prelude.{ℕ, ◌≡◌, List, [], Bool, ltb, length, Result, Ok, Err}
use Rattle.rules.specs.Walk.{pick, fails, some}
use Rattle.rules.specs.Limits.{longest}
use Rattle.rules.specs.Table.{partitions}
use Rattle.rules.specs.Terms.{wanted}
use Rattle.rules.specs.declared.Terms.{Terms}
use Rattle.tables.specs.Tables.{tables_of, unless}
use Rattle.rules.specs.declared.Refusal.TheVariants.{Unharmonic, Want, Output}
use Rattle.theory.specs.Harmonic.{pairs, frame, all_wanted, harmonic_plan}
use Rattle.rules.specs.Filling.{left_by}
use Rattle.rules.specs.declared.Refusal.{Refusal}

-- "Of any two cycles, one divides the other": not so of some place k and one before it
unfoldable pub unharmonic : List ℕ → Bool
unharmonic ps = some (λ k. some (fails (pairs ps k)) k) (partitions ps)

-- 10 "cycles not harmonic", 11 "want of ticks", 12 "output shorter than needed": of a good table, for an output of so many ticks
unfoldable pub laid_of : (ℕ → ℕ) → List ℕ → ℕ → Result ℕ Refusal
laid_of q ps room =
    let h = frame ps in
    pick (unharmonic ps) (Err Unharmonic) (pick (ltb h (all_wanted q ps h)) (Err Want) (pick (ltb room h) (Err Output) (Ok h)))

-- "the builder 3, 6, 10, 11, 12" with "21, after 3"; 2 before them where the terms have an edition
unfoldable pub build_of : Terms → List ℕ → ℕ → Result ℕ Refusal
build_of terms ps room = unless Err (tables_of terms longest ps []) (laid_of (wanted terms ps) ps room)

-- the answer r of the call, and o what the output then holds
abbrev pub Builds : Terms → List ℕ → List ℕ → List ℕ → Result ℕ Refusal → Type 0
Builds terms ps out o r = (r ≡ build_of terms ps (length out)) × (o ≡ left_by r (harmonic_plan (wanted terms ps) ps) out)
