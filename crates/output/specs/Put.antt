-- Numbers put into a lent output from a place on. Assumes nothing.
use Rattle.std.specs.Prelude.{ℕ, ◌+◌, ◌≡◌, List, length}
use Rattle.std.proofs.lemmas.List.Edits.{sets}

-- of the output l: s put from place i on, as far as there is room, the answer r the place behind it, and o what the output holds then
pub record Put {A : Type 0} (l : List A) (i : ℕ) (s : List A) (r : ℕ) (o : List A) : Type 0 where
  pub place : r ≡ i + length s
  pub bytes : o ≡ sets l i s
