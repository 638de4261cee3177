-- Each entry's contract says what specs/Entries.antt has: it is that very fact, or has it among others. Assumes nothing.
use Prim.Native.Nat.{◌≤◌, max}
use lib.ListN.{length}
use seplogic.Ra.Ura.{Ura}
use base.Logic.{SProp, id⊢, fst∗}
use prog.Memory.{Memory}
use prog.Routine.{Routine}
use types.Logic.{Logic}
use contract.Monad.{Fun, fact}
use Rattle.rules.specs.Limits.{longest_line, longest_listing}
use Rattle.file_listing.specs.Listing.{listing_of}
use Rattle.demands.specs.Entries.{Entries}

module _ {M : Type 1} {𝓤 : Ura M} (𝓛 : Logic 𝓤) (mem : Memory → SProp 𝓤) (run : Routine → Fun 𝓤) where
  pub entries : Entries 𝓛 mem run
  entries = record {
    of_c_wants = record { asks_nothing = λ κs a g. id⊢ 𝓤 _; ensures = λ κs a g r e. id⊢ 𝓤 _ };
    of_c_held = record { asks_nothing = λ κs a g. id⊢ 𝓤 _; ensures = λ κs a g r e. id⊢ 𝓤 _ };
    of_c_least = record { asks_nothing = λ κs a g. id⊢ 𝓤 _; ensures = λ κs a g r e. id⊢ 𝓤 _ };
    of_c_curve = record { asks_nothing = λ κs a g. id⊢ 𝓤 _; ensures = λ κs a g r e. id⊢ 𝓤 _ };
    of_c_check = record { asks_nothing = λ κs a g. id⊢ 𝓤 _; ensures = λ κs a g r e. id⊢ 𝓤 _ };
    of_c_build = record { asks_nothing = λ κs a g. id⊢ 𝓤 _; ensures = λ κs a g r e. id⊢ 𝓤 _ };
    of_c_fill = record { asks_nothing = λ κs a g. id⊢ 𝓤 _; ensures = λ κs a g r e. id⊢ 𝓤 _ };
    of_c_counts_held = record { asks_nothing = λ κs a g. id⊢ 𝓤 _; ensures = λ κs a g r e. id⊢ 𝓤 _ };
    of_c_many = record { asks_nothing = λ κs a g. id⊢ 𝓤 _; ensures = λ κs a g r e. id⊢ 𝓤 _ };
    of_c_change = record { asks_nothing = λ κs a g. id⊢ 𝓤 _; ensures = λ κs a g r e. id⊢ 𝓤 _ };
    of_c_verdict = record { asks_nothing = λ κs a g. id⊢ 𝓤 _; ensures = λ κs a g r e. id⊢ 𝓤 _ };
    of_c_plain = record { asks_nothing = λ κs a g. id⊢ 𝓤 _; ensures = λ κs a g r e. id⊢ 𝓤 _ };
    of_c_page = record { asks_nothing = λ κs a g. id⊢ 𝓤 _; ensures = λ κs a g r e. id⊢ 𝓤 _ };
    of_c_read = record { asks_nothing = λ κs a g. id⊢ 𝓤 _; ensures = λ κs a g r e. id⊢ 𝓤 _ };
    of_c_section = record { asks_nothing = λ κs a g. id⊢ 𝓤 _; ensures = λ κs a g r e. id⊢ 𝓤 _ };
    of_c_write = record { asks_nothing = λ κs a g. id⊢ 𝓤 _; ensures = λ κs a g r e. id⊢ 𝓤 _ };
    of_c_list = record { asks_nothing = λ κs a g. id⊢ 𝓤 _; ensures = λ κs a g r e. id⊢ 𝓤 _ };
    of_c_open = record { asks_nothing = λ κs a g. id⊢ 𝓤 _; ensures = λ κs a g r e. id⊢ 𝓤 _ };
    of_c_request = record { asks_nothing = λ κs a g. id⊢ 𝓤 _; ensures = λ κs a g r e. id⊢ 𝓤 _ };
    of_wants = record { asks_nothing = λ κs a g. id⊢ 𝓤 _; ensures = λ κs a g r e. id⊢ 𝓤 _ };
    of_held = record { asks_nothing = λ κs a g. id⊢ 𝓤 _; ensures = λ κs a g r e. id⊢ 𝓤 _ };
    of_least = record { asks_nothing = λ κs a g. id⊢ 𝓤 _; ensures = λ κs a g r e. id⊢ 𝓤 _ };
    of_curve = record { asks_nothing = λ κs a g. id⊢ 𝓤 _; ensures = λ κs a g r e. id⊢ 𝓤 _ };
    of_check = record { asks_nothing = λ κs a g. id⊢ 𝓤 _; ensures = λ κs a g r e. id⊢ 𝓤 _ };
    of_build = record { asks_nothing = λ κs a g. id⊢ 𝓤 _; ensures = λ κs a g r e. id⊢ 𝓤 _ };
    of_fill = record { asks_nothing = λ κs a g. id⊢ 𝓤 _; ensures = λ κs a g r e. id⊢ 𝓤 _ };
    of_counts_held = record { asks_nothing = λ κs a g. id⊢ 𝓤 _; ensures = λ κs a g r e. id⊢ 𝓤 _ };
    of_many = record { asks_nothing = λ κs a g. id⊢ 𝓤 _; ensures = λ κs a g r e. id⊢ 𝓤 _ };
    of_change = record { asks_nothing = λ κs a g. id⊢ 𝓤 _; ensures = λ κs a g r e. id⊢ 𝓤 _ };
    of_verdict = record { asks_nothing = λ κs a g. id⊢ 𝓤 _; ensures = λ κs a g r e. id⊢ 𝓤 _ };
    of_plain = record { asks_nothing = λ κs a g. id⊢ 𝓤 _; ensures = λ κs a g r e. id⊢ 𝓤 _ };
    of_page = record { asks_nothing = λ κs a g. id⊢ 𝓤 _; ensures = λ κs a g r e. id⊢ 𝓤 _ };
    of_read = record { asks_nothing = λ κs a g. id⊢ 𝓤 _; ensures = λ κs a g r e. id⊢ 𝓤 _ };
    of_section = record { asks_nothing = λ κs a g. id⊢ 𝓤 _; ensures = λ κs a g r e. id⊢ 𝓤 _ };
    of_write = record { asks_nothing = λ κs a g. id⊢ 𝓤 _; ensures = λ κs a g r e. id⊢ 𝓤 _ };
    of_ticks = record { asks_nothing = λ κs a g. id⊢ 𝓤 _; ensures = λ κs a g r e. id⊢ 𝓤 _ };
    of_runs = record { asks_nothing = λ κs a g. id⊢ 𝓤 _; ensures = λ κs a g r e. id⊢ 𝓤 _ };
    of_listing = record { asks_nothing = λ κs a g. id⊢ 𝓤 _; ensures = λ κs a g r e. fst∗ 𝓤 _ (fact 𝓤 (length (listing_of a.0.now) ≤ longest_listing)) };
    of_why = record { asks_nothing = λ κs a g. id⊢ 𝓤 _; ensures = λ κs a g r e. id⊢ 𝓤 _ };
    of_share_table = record { asks_nothing = λ κs a g. id⊢ 𝓤 _; ensures = λ κs a g r e. id⊢ 𝓤 _ };
    of_planner = record { asks_nothing = λ κs a g. id⊢ 𝓤 _; ensures = λ κs a g r e. fst∗ 𝓤 _ (fact 𝓤 (r ≤ max longest_line (length a.1.1.0.now))) };
    of_desk = record { asks_nothing = λ κs a g. id⊢ 𝓤 _; ensures = λ κs a g r e. id⊢ 𝓤 _ };
  }
