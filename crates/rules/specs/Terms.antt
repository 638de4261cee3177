-- The terms of a call: what is given with it besides its tables and its plan. Assumes nothing.
use Rattle.std.specs.Prelude.{ℕ, List, Bool, ◌&&◌, leb, eqb, Result, Ok, Err}
use Rattle.rules.specs.Limits.{most_granule, newest_edition}
use Rattle.rules.specs.Walk.{pick}
use Rattle.rules.specs.Table.{cycle, num, den, wants}
use Rattle.rules.specs.declared.Refusal.{Refusal}
use Rattle.rules.specs.declared.Refusal.TheVariants.{Edition}
use Rattle.rules.specs.declared.Terms.{Terms}
use Rattle.rules.specs.declared.Rule.{Rule}
use Rattle.rules.specs.declared.Rule.TheVariants.{Own, Switching}

-- document 02, ask 6: "2 now means neither 1 nor 2, in a call too"
unfoldable pub good_edition : ℕ → Bool
good_edition e = leb 1 e && leb e newest_edition

-- "Files say edition 2; edition 1 files keep their rule for good"
abbrev pub rule_of : ℕ → Rule
rule_of e = pick (eqb e 1) Own Switching

-- of a number given as an edition: its rule, or 2
abbrev pub rule_given : ℕ → Result Rule Refusal
rule_given e = pick (good_edition e) (Ok (rule_of e)) (Err Edition)

-- document 02, ask 5: "g from 1 to 16, given with the call"
unfoldable pub good_granule : ℕ → Bool
good_granule g = leb 1 g && leb g most_granule

-- given with a call: edition e, granule g
abbrev pub given : ℕ → ℕ → Terms
given e g = record { edition = e; granule = g }

-- of a call that takes a granule and no edition
abbrev pub granules : ℕ → Terms
granules g = given 1 g

-- of a file, which has an edition: "the listing program keeps g = 1"
abbrev pub filed : ℕ → Terms
filed e = given e 1

-- of a call that is given neither: "g = 1 gives today's answers"
abbrev pub usual : Terms
usual = given 1 1

-- which owned ticks serve in a call
abbrev pub rule_in : Terms → Rule
rule_in terms = rule_of terms.edition

-- what the partition at place k wants
abbrev pub wanted : Terms → List ℕ → ℕ → ℕ
wanted terms ps k = wants terms.granule (cycle ps k) (num ps k) (den ps k)
