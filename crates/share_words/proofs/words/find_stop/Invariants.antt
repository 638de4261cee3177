use Rattle.share_words.specs.Words.{stops_at}
use Rattle.rules.specs.Walk.{first}
use Rattle.std.proofs.Common.{◌≡◌}
use Rattle.share_words.proofs.words.find_stop.Given as goal

abbrev pub invariant-loop-k : goal.invariant-loop-k
invariant-loop-k g l = first (stops_at g.S.Stops.stops l.l) l.k ≡ l.k
