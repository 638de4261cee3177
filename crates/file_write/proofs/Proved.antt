-- Every promise of specs/Theorems.antt, proved. Assumes nothing.
use Prim.Native.Nat.{ℕ, ◌≤◌}
use mathlib.Core.Path.{◌≡◌, refl, sym, ◌∙◌}
use native.Mathlib.Omega.{arith}
use lib.ListN.{length, length-append, length-drop}
use Rattle.std.specs.Prelude.{Result, Ok, Err}
use Rattle.rules.specs.declared.Refusal.{Refusal}
use Rattle.rules.specs.Filling.{left_by}
use Rattle.file_write.specs.Writer.{file_of, write_of}
use Rattle.file_write.specs.Theorems.{Untouched, Proved}
use Rattle.file_write.proofs.Writer.{fit}
use Rattle.file_write.proofs.Trip.{file-length, left-rest, read_written, write-back}

untouched : Untouched
untouched ed frame ps ts rs out = (
  (λ n e. (room n e, left-rest ed frame ps ts rs out n e)),
  (λ x e. rw e),
  same (write_of ed frame ps ts rs (length out)) refl,
)
  where
    room : (n : ℕ) → write_of ed frame ps ts rs (length out) ≡ Ok n → n ≤ length out
    room n e = let f = fit n ed frame ps ts rs (length out) e in omega (arith, f.room_left, f.is_size)

    same : (w : Result ℕ Refusal) → write_of ed frame ps ts rs (length out) ≡ w → length (left_by w (file_of ed frame ps ts rs) out) ≡ length out
    same (Err x) e = refl
    same (Ok n) e =
        let f = fit n ed frame ps ts rs (length out) e in
        simp (length-append, length-drop) (omega (arith, file-length ed frame ps ts rs, f.room_left, f.is_size))

pub proved : Proved
proved = record {
  read_write = read_written;
  write_read = write-back;
  untouched = untouched;
  one_write = λ ed frame ps ts rs out o o' r r' e f. (e.0 ∙ sym f.0, e.1 ∙ sym f.1);
}
