use Rattle.share_words.specs.Words.{stops_at}
use Rattle.rules.specs.Walk.{first}
use Rattle.std.proofs.Common.{◌≡◌, ℕ, Bool}
use Rattle.share_words.proofs.words.find.Given as goal

abbrev pub invariant-loop-k : goal.invariant-loop-k
invariant-loop-k g l = (test : ℕ → Bool) → ((b : ℕ) (r : Bool) → goal.S-post g l.stops b r → r ≡ test b) → first (stops_at test l.l) l.k ≡ l.k
