-- The worked examples of document 01, D6 and W1's last line as document 02 has them, and V1 and V2 by the plain engine too, under one statement: each is what its
-- entry tells and leaves, in edition 1 and with granule 1 where it takes them. Assumes nothing.
use Rattle.std.specs.Prelude.{ℕ, ◌≡◌, List, [], ◌∷◌, ◌++◌, replicate}
use Rattle.rules.specs.Table.{WantsIs}
use Rattle.rules.specs.Terms.{usual, wanted}
use Rattle.rules.specs.Refusals.{placed, telling}
use Rattle.rules.specs.declared.Told.{Told}
use Rattle.output.specs.Text.{bytes}
use Rattle.theory.specs.Harmonic.{frame, all_wanted}
use Rattle.desk.specs.declared.Job.{Job}
use Rattle.desk.specs.declared.Desk.{Desk}
use Rattle.desk.specs.Table.{job, filled}
use Rattle.desk.specs.Places.{room}
use Rattle.api.specs.Answers.{TellsLeast, TellsCheck, TellsBuild, TellsVerdict, TellsPlain, TellsRead, TellsList, TellsOpen, TellsRequest}

-- "Cycles 4, 8, 8, shares 1/4, 3/8" and a third share
abbrev pub three : ℕ → ℕ → List ℕ
three n d = 4 ∷ 1 ∷ 4 ∷ 8 ∷ 3 ∷ 8 ∷ 8 ∷ n ∷ d ∷ []

-- an output of eight ticks that holds something
abbrev pub eight : List ℕ
eight = 9 ∷ 9 ∷ 9 ∷ 9 ∷ 9 ∷ 9 ∷ 9 ∷ 9 ∷ []

-- "plan 1 2 2 2 1 3 0 0"
abbrev pub plan1 : List ℕ
plan1 = 1 ∷ 2 ∷ 2 ∷ 2 ∷ 1 ∷ 3 ∷ 0 ∷ 0 ∷ []

-- "plan 1 2 2 2 1 3 3 3, full"
abbrev pub plan2 : List ℕ
plan2 = 1 ∷ 2 ∷ 2 ∷ 2 ∷ 1 ∷ 3 ∷ 3 ∷ 3 ∷ []

-- "plan 1 1 0 0 0 0 1 1"
abbrev pub plan5 : List ℕ
plan5 = 1 ∷ 1 ∷ 0 ∷ 0 ∷ 0 ∷ 0 ∷ 1 ∷ 1 ∷ []

-- "first task C 2, D 8, T 16 .. Second, C 2, T 32", with its D
abbrev pub two : ℕ → List ℕ
two d = 2 ∷ 2 ∷ 8 ∷ 16 ∷ 2 ∷ 2 ∷ d ∷ 32 ∷ []

abbrev pub desk : ℕ → ℕ → Desk
desk clock count = record { clock = clock; count = count }

-- the table of D1, as lent (any x and any clock) and as opened
abbrev pub lent : List Job
lent = filled (job 10 3 20 0 ∷ job 15 5 24 7 ∷ job 30 2 40 0 ∷ [])

abbrev pub opened : List Job
opened = filled (job 10 3 20 6 ∷ job 15 5 24 4 ∷ job 30 2 40 8 ∷ [])

-- "Whole example, 44 bytes"
abbrev pub file : List ℕ
file = 0 ∷ 1 ∷ 0 ∷ 4 ∷ 0 ∷ 16 ∷ 0 ∷ 2 ∷ 0 ∷ 28 ∷ 0 ∷ 1 ∷ 0 ∷ 36 ∷ 0 ∷ 2 ∷ 0 ∷ 4 ∷ 0 ∷ 1 ∷ 0 ∷ 2 ∷ 0 ∷ 4 ∷ 0 ∷ 1 ∷ 0 ∷ 3 ∷ 0 ∷ 1 ∷ 0 ∷ 1 ∷ 0 ∷ 4 ∷ 0 ∷ 4 ∷ 0 ∷ 1 ∷ 0 ∷ 2 ∷ 0 ∷ 2 ∷ 0 ∷ 2 ∷ []

-- what is told of a file that is read: its edition behind the frame and the counts
abbrev pub contained : ℕ → ℕ → ℕ → ℕ → ℕ → Told
contained e frame np nt nr = record { number = 0; first = frame; second = np; third = nt; fourth = nr; fifth = e }

-- an output as long as the listing, that holds something
abbrev pub page : List ℕ
page = replicate 107 7

-- "Its listing"
abbrev pub listing : List ℕ
listing =
    bytes "frame 4\n"
    ++ bytes "partition 1 wants 2 in 4 least 2\n"
    ++ bytes "partition 2 wants 2 in 4 least 2\n"
    ++ bytes "task 1 partition 1 pass 4 tick 3\n"

pub record Document01 : Type 0 where
  -- "q = 1, 3, 1; plan 1 2 2 2 1 3 0 0"
  pub p1_wants : WantsIs 1 4 1 4 1 × WantsIs 1 8 3 8 3 × WantsIs 1 8 1 100 1
  pub p1 : TellsBuild 1 (three 1 100) eight plan1 (placed 0 8)
  pub p1_serves : TellsCheck 1 1 plan1 (three 1 100) (placed 0 0)
  -- "Third share 3/8: plan 1 2 2 2 1 3 3 3, full."
  pub p2 : TellsBuild 1 (three 3 8) eight plan2 (placed 0 8)
  -- "Third share 1/2: 2 + 3 + 4 = 9 > 8, refusal 11."
  pub p3 : (all_wanted (wanted usual (three 1 2)) (three 1 2) (frame (three 1 2)) ≡ 9) × TellsBuild 1 (three 1 2) eight eight (placed 11 0)
  -- "Cycles 4 and 6: refusal 10."
  pub p4 : TellsBuild 1 (4 ∷ 1 ∷ 2 ∷ 6 ∷ 1 ∷ 2 ∷ []) eight eight (placed 10 0)
  -- "One partition, cycle 4, share 1/2, plan 1 1 0 0 0 0 1 1: refusal 9 at start 1, which holds 1 and wants 2."
  pub p5 : TellsCheck 1 1 plan5 (4 ∷ 1 ∷ 2 ∷ []) (telling 9 1 1 1 2)
  -- "In P1, partition 2 has least(5) = 0, least(8) = 3, least(13) = 3, least(14) = 4."
  pub s1 : TellsLeast 1 plan1 2 5 (placed 0 0) × TellsLeast 1 plan1 2 8 (placed 0 3) × TellsLeast 1 plan1 2 13 (placed 0 3) × TellsLeast 1 plan1 2 14 (placed 0 4)
  -- "first task .. passes at 8. Second .. with D 13 it fails (4 > 3), with D 14 it passes at 14."
  pub v1 : TellsVerdict 1 1 plan1 (three 1 100) (two 14) 1 (placed 0 8)
  pub v2 : TellsVerdict 1 1 plan1 (three 1 100) (two 13) 2 (placed 0 0) × TellsVerdict 1 1 plan1 (three 1 100) (two 14) 2 (placed 0 14)
  -- by the plain engine: least(7) is 2, a tick before the first task's point
  pub v1_plain : TellsPlain 1 1 plan1 (three 1 100) (two 14) 1 (placed 0 7)
  pub v2_plain : TellsPlain 1 1 plan1 (three 1 100) (two 13) 2 (placed 0 0) × TellsPlain 1 1 plan1 (three 1 100) (two 14) 2 (placed 0 14)
  -- "Opened with (10, 3, 20), (15, 5, 24), (30, 2, 40), x is 6, 4, 8."
  pub d1 : TellsOpen (desk 77 3) lent (desk 0 3) opened (placed 0 0)
  -- "t 8, C 6, d 16: start 8. Starts become 8, 14, 17, 30, x 2, 2, 2, 8."
  pub d2 : TellsRequest (desk 0 3) opened 8 6 16 (desk 8 4) (filled (job 8 6 16 2 ∷ job 14 3 20 2 ∷ job 17 5 24 2 ∷ job 30 2 40 8 ∷ [])) (telling 0 0 8 0 0)
  -- "From D1, t 8, C 8, d 40: start 8."
  pub d3 : TellsRequest (desk 0 3) opened 8 8 40 (desk 8 4) (filled (job 8 8 40 0 ∷ job 16 3 20 0 ∷ job 19 5 24 0 ∷ job 30 2 40 8 ∷ [])) (telling 0 0 8 0 0)
  -- "C 9, d 40: rooms 8, 6, 18, start 20, new x 9."
  pub d4 : TellsRequest (desk 0 3) opened 8 9 40 (desk 8 4) (filled (job 10 3 20 6 ∷ job 15 5 24 4 ∷ job 20 9 40 9 ∷ job 30 2 40 8 ∷ [])) (telling 0 2 20 0 0)
  pub d4_rooms : (room 8 40 (job 10 3 20 6) ≡ 8) × (room 13 40 (job 15 5 24 4) ≡ 6) × (room 20 40 (job 30 2 40 8) ≡ 18)
  -- "From D1, t 12: busy."
  pub d5 : TellsRequest (desk 0 3) opened 12 1 40 (desk 12 3) opened (placed 16 0)
  -- "From D1, t 25, C 4, d 29"; document 02, ask 1: "D6 starts at 25."
  pub d6 : TellsRequest (desk 0 3) opened 25 4 29 (desk 25 2) (filled (job 25 4 29 0 ∷ job 30 2 40 8 ∷ [])) (telling 0 0 25 0 0)
  -- the whole example's contents, and "Its listing"; document 02, ask 4: "W1's last line becomes `task 1 partition 1 pass 4 tick 3`"
  pub w1_read : TellsRead file (contained 1 4 2 1 2)
  pub w1 : TellsList file page listing (placed 0 107)
