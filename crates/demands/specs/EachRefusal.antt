-- One call for each refusal number and each entry that uses it, and for each limit one call at it and one beyond: what is told, and what is left in all that
-- was lent. (19 is gone: document 02, ask 8.) Assumes nothing.
use Rattle.std.specs.Prelude.{ℕ, zero, suc, ◌+◌, List, [], ◌∷◌, ◌++◌, take, drop, replicate}
use Rattle.rules.specs.Refusals.{placed, questioned, telling}
use Rattle.rules.specs.declared.Told.{Told}
use Rattle.output.specs.Text.{bytes}
use Rattle.share_line.specs.declared.What.TheVariants.{EarlyGranule}
use Rattle.share_line.specs.Expected.{expected_line}
use Rattle.share_plan.specs.Answer.{Plans}
use Rattle.desk.specs.declared.Job.{Job}
use Rattle.desk.specs.Table.{job, filled, flexes}
use Rattle.api.specs.Answers.{TellsHeld, TellsLeast, TellsCurve, TellsCheck, TellsBuild, TellsFill, TellsCounted, TellsMany, TellsChange, TellsVerdict, TellsPlain, TellsPage, TellsRead, TellsSection, TellsWrite, TellsList, TellsOpen, TellsRequest}
use Rattle.demands.specs.Document01.{three, eight, plan1, plan5, two, desk, opened, file, contained, page}

-- a partition of cycle 4 that wants 2, and one like it with share 0
abbrev pub half : List ℕ
half = 4 ∷ 1 ∷ 2 ∷ []

abbrev pub nothing : List ℕ
nothing = 4 ∷ 0 ∷ 2 ∷ []

-- the whole example with another byte at place i
abbrev pub file_with : ℕ → ℕ → List ℕ
file_with i v = take i file ++ (v ∷ drop (i + 1) file)

-- its tables and runs, and those where the second partition holds too little
abbrev pub parts : List ℕ
parts = 4 ∷ 1 ∷ 2 ∷ 4 ∷ 1 ∷ 3 ∷ []

abbrev pub tasks : List ℕ
tasks = 1 ∷ 1 ∷ 4 ∷ 4 ∷ []

abbrev pub runs : List ℕ
runs = 1 ∷ 2 ∷ 2 ∷ 2 ∷ []

abbrev pub unfair : List ℕ
unfair = take 39 file ++ (3 ∷ 0 ∷ 2 ∷ 0 ∷ 1 ∷ [])

-- outputs that hold something
abbrev pub file-room : List ℕ
file-room = replicate 44 7

abbrev pub line : List ℕ
line = replicate 10 7

-- two partitions that each want a tick in four, and a plan that serves them in both editions: each has a switch tick and one more
abbrev pub quarters : List ℕ
quarters = 4 ∷ 1 ∷ 4 ∷ 4 ∷ 1 ∷ 4 ∷ []

abbrev pub pairs : List ℕ
pairs = 1 ∷ 1 ∷ 2 ∷ 2 ∷ []

-- a task of the first that needs both its ticks by the next round
abbrev pub once : List ℕ
once = 1 ∷ 2 ∷ 4 ∷ 4 ∷ []

-- held's, least's, the curve's, the checker's and the builder's
pub record EachPlan : Type 0 where
  pub held_2 : TellsHeld 0 pairs 1 3 3 (placed 2 0) × TellsHeld 3 [] 1 3 3 (placed 2 0)
  pub least_2 : TellsLeast 0 pairs 1 4 (placed 2 0) × TellsLeast 3 [] 1 4 (placed 2 0)
  -- ticks 3 and 0 stand together, across the frame's end
  pub curve_0 : TellsCurve 1 (1 ∷ 2 ∷ 0 ∷ 1 ∷ []) 1 4 (take 6 eight) (0 ∷ 0 ∷ 0 ∷ 1 ∷ 2 ∷ drop 5 (take 6 eight)) (placed 0 5)
  pub curve_12 : TellsCurve 1 (1 ∷ 2 ∷ 0 ∷ 1 ∷ []) 1 4 (take 4 eight) (take 4 eight) (placed 12 0)
  -- 2 before 12
  pub curve_2 : TellsCurve 3 pairs 1 4 [] [] (placed 2 0)
  -- 2 before 3 and all others; 0 and 3 are the first outside
  pub check_2 : TellsCheck 0 1 pairs quarters (placed 2 0)
  pub check_2_first : TellsCheck 3 17 [] nothing (placed 2 0)
  pub check_3 : TellsCheck 1 1 [] half (placed 3 0)
  -- 21 after 3, before 6 and all others; 0 and 17 are the first outside
  pub check_21 : TellsCheck 1 0 plan5 half (placed 21 0)
  pub check_21_past : TellsCheck 1 17 plan1 (three 1 2) (placed 21 0)
  pub check_21_first : TellsCheck 1 17 (1 ∷ 1 ∷ 0 ∷ 2 ∷ []) (half ++ nothing) (placed 21 0)
  pub check_3_first : TellsCheck 1 17 [] half (placed 3 0)
  pub check_6 : TellsCheck 1 1 plan5 (half ++ nothing) (placed 6 2)
  pub check_8 : TellsCheck 1 1 (1 ∷ 1 ∷ 0 ∷ 2 ∷ []) half (placed 8 4)
  pub check_9 : TellsCheck 1 1 plan1 (three 1 2) (telling 9 3 0 1 4)
  -- P1's plan in granules of 2: partition 1 wants 2 of every 4 ticks now; and of 16: it wants more than its cycle has
  pub check_9_granule : TellsCheck 1 2 plan1 (three 1 100) (telling 9 1 0 1 2)
  pub check_9_past : TellsCheck 1 16 plan1 (three 1 100) (telling 9 1 0 1 16)
  pub build_3 : TellsBuild 1 [] eight eight (placed 3 0)
  pub build_21 : TellsBuild 0 half eight eight (placed 21 0)
  pub build_21_past : TellsBuild 17 half eight eight (placed 21 0)
  pub build_21_first : TellsBuild 17 (half ++ nothing) [] [] (placed 21 0)
  pub build_3_first : TellsBuild 17 [] eight eight (placed 3 0)
  -- "the smallest multiple of g": a quarter of 4 ticks in granules of 2, and one of 1 in granules of 2, which has no room
  pub build_granule : TellsBuild 2 (4 ∷ 1 ∷ 4 ∷ []) eight (1 ∷ 1 ∷ 0 ∷ 0 ∷ drop 4 eight) (placed 0 4)
  pub build_11_past : TellsBuild 2 (1 ∷ 1 ∷ 1 ∷ []) eight eight (placed 11 0)
  pub build_6 : TellsBuild 1 (half ++ nothing) eight eight (placed 6 2)
  pub build_10 : TellsBuild 1 (half ++ (10 ∷ 1 ∷ 2 ∷ [])) eight eight (placed 10 0)
  pub build_11 : TellsBuild 1 (1 ∷ 1 ∷ 1 ∷ 1 ∷ 1 ∷ 1 ∷ []) eight eight (placed 11 0)
  pub build_12 : TellsBuild 1 (three 1 100) (take 7 eight) (take 7 eight) (placed 12 0)

-- the verdict's, by either engine: `tells` is what its entry tells
pub record EachVerdict (tells : ℕ → ℕ → List ℕ → List ℕ → List ℕ → ℕ → Told → Type 0) : Type 0 where
  -- 2 before 3 and all others
  pub verdict_2 : tells 0 1 plan1 (three 1 100) (two 14) 1 (placed 2 0)
  pub verdict_2_first : tells 3 17 [] (three 0 100) (two 33) 0 (placed 2 0)
  pub verdict_3 : tells 1 1 [] (three 1 100) (two 14) 1 (placed 3 0)
  pub verdict_21 : tells 1 0 plan1 (three 1 100) (two 14) 1 (placed 21 0)
  pub verdict_21_first : tells 1 17 (4 ∷ drop 1 plan1) (three 0 100) (two 33) 0 (placed 21 0)
  pub verdict_3_first : tells 1 17 [] (three 1 100) (two 14) 1 (placed 3 0)
  pub verdict_6 : tells 1 1 plan1 (three 0 100) (two 14) 1 (placed 6 3)
  pub verdict_7 : tells 1 1 plan1 (three 1 100) (two 33) 1 (placed 7 2)
  -- a place outside the table comes after a bad record, and before 8
  pub verdict_7_first : tells 1 1 plan1 (three 1 100) (two 33) 3 (placed 7 2)
  pub verdict_7_0 : tells 1 1 plan1 (three 1 100) (two 14) 0 (placed 7 0)
  pub verdict_7_past : tells 1 1 (4 ∷ drop 1 plan1) (three 1 100) (two 14) 3 (placed 7 0)
  pub verdict_8 : tells 1 1 (4 ∷ drop 1 plan1) (three 1 100) (two 14) 1 (placed 8 1)
  pub verdict_9 : tells 1 1 plan1 (three 1 2) (two 14) 1 (telling 9 3 0 1 4)
  pub verdict_9_granule : tells 1 2 plan1 (three 1 100) (two 14) 1 (telling 9 1 0 1 2)

-- a list of rows that holds something
abbrev pub rows-room : List ℕ
rows-room = replicate 6 7

-- what a call tells of the page, where that list is then as it was
abbrev pub TellsUnpaged : ℕ → ℕ → List ℕ → List ℕ → List ℕ → ℕ → Told → Type 0
TellsUnpaged e g plan ps ts place = TellsPage e g plan ps ts place rows-room rows-room

-- the page's own: V2's first reading fails at its one point, a list of fewer numbers is 12, behind all others, and V2's second passes
pub record EachPage : Type 0 where
  pub page_fail : TellsPage 1 1 plan1 (three 1 100) (two 13) 2 rows-room (13 ∷ 4 ∷ 3 ∷ 4 ∷ drop 4 rows-room) (telling 0 0 1 13 1)
  pub page_exact : TellsPage 1 1 plan1 (three 1 100) (two 13) 2 (take 4 rows-room) (13 ∷ 4 ∷ 3 ∷ 4 ∷ []) (telling 0 0 1 13 1)
  pub page_12 : TellsPage 1 1 plan1 (three 1 100) (two 13) 2 (take 3 rows-room) (take 3 rows-room) (placed 12 0)
  pub page_9_first : TellsPage 1 1 plan1 (three 1 2) (two 13) 2 [] [] (telling 9 3 0 1 4)
  pub page_pass : TellsPage 1 1 plan1 (three 1 100) (two 14) 2 [] [] (placed 0 14)

-- a plan of two partitions that doesn't serve them, its running counts with one number behind them, and the same with the last count off by one
abbrev pub unserved : List ℕ
unserved = 1 ∷ 2 ∷ 0 ∷ 1 ∷ []

abbrev pub counted : List ℕ
counted = 0 ∷ 1 ∷ 1 ∷ 1 ∷ 2 ∷ 0 ∷ 0 ∷ 1 ∷ 1 ∷ 1 ∷ 7 ∷ []

abbrev pub spoilt : List ℕ
spoilt = 0 ∷ 1 ∷ 1 ∷ 1 ∷ 2 ∷ 0 ∷ 0 ∷ 1 ∷ 1 ∷ 2 ∷ 7 ∷ []

-- outputs of counts and of answers that hold something
abbrev pub counts-room : List ℕ
counts-room = replicate 11 7

abbrev pub answers_room : List ℕ
answers_room = replicate 3 7

-- the running counts'
pub record EachCount : Type 0 where
  pub fill_0 : TellsFill unserved parts counts-room counted (placed 0 10)
  pub fill_3 : TellsFill [] parts counts-room counts-room (placed 3 0)
  pub fill_6 : TellsFill unserved (half ++ nothing) counts-room counts-room (placed 6 2)
  pub fill_8 : TellsFill (1 ∷ 2 ∷ 3 ∷ 1 ∷ []) parts counts-room counts-room (placed 8 3)
  -- 3 and 6 before 8, and each of them before 12
  pub fill_3_first : TellsFill (9 ∷ []) [] [] [] (placed 3 0)
  pub fill_6_first : TellsFill (1 ∷ 2 ∷ 3 ∷ 1 ∷ []) (half ++ nothing) [] [] (placed 6 2)
  pub fill_8_first : TellsFill (1 ∷ 2 ∷ 3 ∷ 1 ∷ []) parts [] [] (placed 8 3)
  pub fill_12 : TellsFill unserved parts (take 9 counts-room) (take 9 counts-room) (placed 12 0)
  -- across the frame's end: ticks 3, 0 and 1
  pub held_0 : TellsCounted unserved parts counted 1 3 3 (placed 0 2)
  pub held_3 : TellsCounted [] parts counted 1 3 3 (placed 3 0)
  pub held_6 : TellsCounted unserved (half ++ nothing) counted 1 3 3 (placed 6 2)
  pub held_8 : TellsCounted (1 ∷ 2 ∷ 3 ∷ 1 ∷ []) parts counted 0 3 3 (placed 8 3)
  pub held_8_0 : TellsCounted unserved parts (take 9 counted) 0 3 3 (placed 8 0)
  pub held_8_past : TellsCounted unserved parts counted 3 3 3 (placed 8 0)
  -- far out, before a list too short
  pub held_8_far : TellsCounted unserved parts [] 65537 3 3 (placed 8 0)
  pub held_12 : TellsCounted unserved parts (take 9 spoilt) 1 3 3 (placed 12 0)
  pub held_20 : TellsCounted unserved parts spoilt 1 4 5 (placed 20 0)
  pub held_26_start : TellsCounted unserved parts counted 1 4 0 (placed 26 0)
  pub held_26_far : TellsCounted unserved parts counted 1 4096 3 (placed 26 0)
  pub held_26_length : TellsCounted unserved parts counted 1 0 5 (placed 26 0)
  -- of many the lowest question's place, from 1, as a second value
  pub many_0 : TellsMany unserved parts counted (1 ∷ 3 ∷ 3 ∷ 2 ∷ 0 ∷ 4 ∷ []) answers_room (2 ∷ 1 ∷ 7 ∷ []) (placed 0 2)
  pub many_none : TellsMany unserved parts counted [] [] [] (placed 0 0)
  pub many_3 : TellsMany unserved parts counted (1 ∷ 3 ∷ []) answers_room answers_room (placed 3 0)
  pub many_3_first : TellsMany (9 ∷ []) (half ++ nothing) [] (0 ∷ 9 ∷ 9 ∷ 0 ∷ []) [] [] (placed 3 0)
  pub many_6 : TellsMany unserved (half ++ nothing) counted (1 ∷ 3 ∷ 3 ∷ []) answers_room answers_room (placed 6 2)
  pub many_8 : TellsMany (1 ∷ 2 ∷ 3 ∷ 1 ∷ []) parts counted (0 ∷ 3 ∷ 3 ∷ []) answers_room answers_room (placed 8 3)
  pub many_8_0 : TellsMany unserved parts spoilt (1 ∷ 9 ∷ 9 ∷ 0 ∷ 3 ∷ 3 ∷ 3 ∷ 3 ∷ 3 ∷ []) [] [] (questioned 8 2)
  pub many_12 : TellsMany unserved parts spoilt (1 ∷ 3 ∷ 3 ∷ []) [] [] (placed 12 0)
  pub many_20 : TellsMany unserved parts spoilt (1 ∷ 9 ∷ 3 ∷ []) answers_room answers_room (placed 20 0)
  pub many_26 : TellsMany unserved parts counted (1 ∷ 3 ∷ 3 ∷ 1 ∷ 3 ∷ 5 ∷ 1 ∷ 4 ∷ 3 ∷ []) answers_room answers_room (questioned 26 2)
  pub change_0 : TellsChange unserved parts counted 0 2 (2 ∷ 2 ∷ 0 ∷ 1 ∷ []) (0 ∷ 0 ∷ 0 ∷ 0 ∷ 1 ∷ 0 ∷ 1 ∷ 2 ∷ 2 ∷ 2 ∷ 7 ∷ []) (placed 0 0)
  pub change_idle : TellsChange unserved parts counted 3 0 (1 ∷ 2 ∷ 0 ∷ 0 ∷ []) (0 ∷ 1 ∷ 1 ∷ 1 ∷ 1 ∷ 0 ∷ 0 ∷ 1 ∷ 1 ∷ 1 ∷ 7 ∷ []) (placed 0 0)
  pub change_same : TellsChange unserved parts counted 3 1 unserved counted (placed 0 0)
  pub change_3 : TellsChange [] parts counted 0 2 [] counted (placed 3 0)
  pub change_6 : TellsChange unserved (half ++ nothing) counted 0 2 unserved counted (placed 6 2)
  pub change_8 : TellsChange (1 ∷ 2 ∷ 3 ∷ 1 ∷ []) parts counted 0 3 (1 ∷ 2 ∷ 3 ∷ 1 ∷ []) counted (placed 8 3)
  pub change_8_0 : TellsChange unserved parts (take 9 counted) 0 3 unserved (take 9 counted) (placed 8 0)
  pub change_8_far : TellsChange unserved parts [] 9 65536 unserved [] (placed 8 0)
  pub change_12 : TellsChange unserved parts (take 9 spoilt) 4 2 unserved (take 9 spoilt) (placed 12 0)
  pub change_20 : TellsChange unserved parts spoilt 4 2 unserved spoilt (placed 20 0)
  pub change_26_far : TellsChange unserved parts counted 65536 2 unserved counted (placed 26 0)
  pub change_26 : TellsChange unserved parts counted 4 2 unserved counted (placed 26 0)

-- the reader's, the writer's and the listing's
pub record EachFile : Type 0 where
  pub read_1 : TellsRead (take 15 file) (placed 1 0)
  -- document 02, ask 6: 0 and 3 are no editions
  pub read_2 : TellsRead (file_with 1 3) (placed 2 0)
  pub read_2_none : TellsRead (file_with 1 0) (placed 2 0)
  pub read_3 : TellsRead (file_with 3 0) (placed 3 0)
  pub read_4 : TellsRead (file_with 5 17) (placed 4 0)
  pub read_5 : TellsRead (file ++ (0 ∷ [])) (placed 5 0)
  pub read_6 : TellsRead (file_with 25 0) (placed 6 2)
  pub read_7 : TellsRead (file_with 31 0) (placed 7 1)
  pub read_8 : TellsRead (file_with 41 3) (placed 8 2)
  -- a section tells the reader's, whatever part is asked for; else where the part starts and ends
  pub section_1 : TellsSection (take 15 file) 0 (placed 1 0)
  pub section_2 : TellsSection (file_with 1 3) 1 (placed 2 0)
  pub section_3 : TellsSection (file_with 3 0) 2 (placed 3 0)
  pub section_4 : TellsSection (file_with 5 17) 3 (placed 4 0)
  pub section_5 : TellsSection (file ++ (0 ∷ [])) 0 (placed 5 0)
  pub section_6 : TellsSection (file_with 25 0) 1 (placed 6 2)
  pub section_7 : TellsSection (file_with 31 0) 2 (placed 7 1)
  pub section_8 : TellsSection (file_with 41 3) 0 (placed 8 2)
  pub sections : TellsSection file 0 (telling 0 16 28 0 0) × TellsSection file 1 (telling 0 28 36 0 0) × TellsSection file 2 (telling 0 36 44 0 0)
  pub section_other : TellsSection file 3 (telling 0 0 0 0 0)
  pub write_0 : TellsWrite 1 4 parts tasks runs file-room file (placed 0 44)
  pub write_2 : TellsWrite 0 4 parts tasks runs file-room file-room (placed 2 0)
  -- 2 before 3 and all others
  pub write_2_first : TellsWrite 3 0 (half ++ nothing) [] [] [] [] (placed 2 0)
  pub write_3 : TellsWrite 1 0 parts tasks runs file-room file-room (placed 3 0)
  pub write_6 : TellsWrite 1 4 (half ++ nothing) tasks runs file-room file-room (placed 6 2)
  pub write_7 : TellsWrite 1 4 parts (1 ∷ 0 ∷ 4 ∷ 4 ∷ []) runs file-room file-room (placed 7 1)
  pub write_8 : TellsWrite 1 4 parts tasks (1 ∷ 2 ∷ 3 ∷ 2 ∷ []) file-room file-room (placed 8 2)
  pub write_12 : TellsWrite 1 4 parts tasks runs (take 43 file-room) (take 43 file-room) (placed 12 0)
  -- a refused file is listed too, as one line
  pub list_1 : TellsList (take 15 file) line (bytes "refused 1\n") (placed 0 10)
  pub list_2 : TellsList (file_with 1 3) line (bytes "refused 2\n") (placed 0 10)
  pub list_3 : TellsList (file_with 3 0) line (bytes "refused 3\n") (placed 0 10)
  pub list_4 : TellsList (file_with 5 17) line (bytes "refused 4\n") (placed 0 10)
  pub list_5 : TellsList (file ++ (0 ∷ [])) line (bytes "refused 5\n") (placed 0 10)
  pub list_6 : TellsList (file_with 25 0) line (bytes "refused 6\n") (placed 0 10)
  pub list_7 : TellsList (file_with 31 0) line (bytes "refused 7\n") (placed 0 10)
  pub list_8 : TellsList (file_with 41 3) line (bytes "refused 8\n") (placed 0 10)
  pub list_9 : TellsList unfair line (bytes "refused 9\n") (placed 0 10)
  pub list_12 : TellsList file (take 106 page) (take 106 page) (placed 12 0)

-- an output as long as the line of a granule that comes too late
abbrev pub late : List ℕ
late = replicate 55 7

-- the planner's, as the line that it writes
pub record EachText : Type 0 where
  -- document 02, ask 6: 2 whatever the text
  pub plan_2 : Plans 0 (bytes "partition") line (bytes "refused 2\n") 10
  pub plan_2_past : Plans 3 [] line (bytes "refused 2\n") 10
  pub plan_3 : Plans 1 [] line (bytes "refused 3\n") 10
  pub plan_21 : Plans 1 (bytes "granule 17\npartition 0 1/2") (7 ∷ line) (bytes "refused 21\n") 11
  pub plan_3_first : Plans 1 (bytes "granule 17") line (bytes "refused 3\n") 10
  pub plan_6 : Plans 1 (bytes "partition 0 1/2") line (bytes "refused 6\n") 10
  pub plan_7 : Plans 1 (bytes "partition 4 1/2\ntask 2 1 1 1") line (bytes "refused 7\n") 10
  pub plan_10 : Plans 1 (bytes "partition 4 1/2\npartition 6 1/2") (7 ∷ line) (bytes "refused 10\n") 11
  pub plan_11 : Plans 1 (bytes "partition 1 1/1\npartition 1 1/1") (7 ∷ line) (bytes "refused 11\n") 11
  -- with granule 1 a tick of each of the two is enough, and 12 is next
  pub plan_11_granule : Plans 1 (bytes "granule 2\npartition 2 1/2\npartition 2 1/2") (7 ∷ line) (bytes "refused 11\n") 11
  pub plan_11_none : Plans 1 (bytes "granule 1\npartition 2 1/2\npartition 2 1/2") (7 ∷ line) (bytes "refused 12\n") 11
  -- a granule that comes too late, and one that comes twice
  pub plan_late : Plans 1 (bytes "partition 1 1/1\ngranule 2") late (expected_line 2 EarlyGranule) 55
  pub plan_twice : Plans 1 (bytes "granule 2\ngranule 2") late (expected_line 2 EarlyGranule) 55
  pub plan_12 : Plans 1 (bytes "partition 1 1/1") (7 ∷ line) (bytes "refused 12\n") 11

-- Document 02, ask 6: what edition 2 tells where edition 1 tells something else
pub record EachEdition : Type 0 where
  -- of the ticks from 3 on, across the frame's end, tick 0 is a switch tick
  pub held : TellsHeld 1 pairs 1 3 3 (placed 0 2) × TellsHeld 2 pairs 1 3 3 (placed 0 1)
  -- "the frame's end joined to its start": where the last tick is the first one's owner's, it is none
  pub held_joined : TellsHeld 2 (1 ∷ 2 ∷ 2 ∷ 1 ∷ []) 1 0 4 (placed 0 1) × TellsHeld 2 (1 ∷ 2 ∷ 2 ∷ 1 ∷ []) 1 0 1 (placed 0 1)
  -- every tick a switch tick; a plan of one run; of no partition are idle ticks and switch ticks
  pub held_switch : TellsHeld 2 (1 ∷ 2 ∷ 1 ∷ 2 ∷ []) 1 0 4 (placed 0 0) × TellsHeld 2 (1 ∷ []) 1 0 4 (placed 0 4) × TellsHeld 2 (1 ∷ 1 ∷ 0 ∷ 1 ∷ []) 0 0 4 (placed 0 2)
  pub least : TellsLeast 1 pairs 1 4 (placed 0 2) × TellsLeast 2 pairs 1 4 (placed 0 1) × TellsLeast 2 pairs 1 3 (placed 0 0)
  pub curve : TellsCurve 2 pairs 1 4 (take 6 eight) (0 ∷ 0 ∷ 0 ∷ 0 ∷ 1 ∷ drop 5 (take 6 eight)) (placed 0 5)
  pub check : TellsCheck 2 1 pairs quarters (placed 0 0)
  -- P1's plan, which the harmonic rule writes, in edition 2: both ticks of partition 1 are switch ticks
  pub check_9 : TellsCheck 2 1 plan1 (three 1 100) (telling 9 1 0 0 1)
  -- by the edition's rule: 9, and a task that passes in edition 1 and fails in 2, by either engine
  pub verdict_9 : TellsVerdict 2 1 plan1 (three 1 100) (two 14) 1 (telling 9 1 0 0 1) × TellsPlain 2 1 plan1 (three 1 100) (two 14) 1 (telling 9 1 0 0 1)
  pub verdict_pass : TellsVerdict 1 1 pairs quarters once 1 (placed 0 4) × TellsPlain 1 1 pairs quarters once 1 (placed 0 4)
  pub verdict_fail : TellsVerdict 2 1 pairs quarters once 1 (placed 0 0) × TellsPlain 2 1 pairs quarters once 1 (placed 0 0)
  -- files of edition 2: read and told, and written
  pub read : TellsRead (file_with 1 2) (contained 2 4 2 1 2)
  pub write : TellsWrite 2 4 parts tasks runs file-room (file_with 1 2) (placed 0 44)
  -- W1's plan in edition 2: partition 1 wants 2 of 4 ticks and is served in 1
  pub list : TellsList (file_with 1 2) line (bytes "refused 9\n") (placed 0 10)
  -- the planner says what is short: of P1's first partition alone
  pub plan :
      Plans 2 (bytes "partition 4 1/4") (replicate 46 7) (bytes "refused 9 partition 1 start 0 held 0 wanted 1" ++ bytes "\n") 46

-- n jobs from start a on, one tick each, one behind the other
abbrev pub row : ℕ → ℕ → List Job
row a zero = []
row a (suc n) = job a 1 1000000 0 ∷ row (a + 1) n

abbrev pub full : List Job
full = flexes (row 10 64)

-- the desk's
pub record EachDesk : Type 0 where
  pub open_13 : TellsOpen (desk 77 4) opened (desk 77 4) opened (placed 13 0)
  pub request_13 : TellsRequest (desk 0 4) opened 8 6 16 (desk 0 4) opened (placed 13 0)
  pub request_14 : TellsRequest (desk 0 3) opened 8 0 16 (desk 0 3) opened (placed 14 0)
  pub request_15 : TellsRequest (desk 9 3) opened 8 6 16 (desk 9 3) opened (placed 15 0)
  pub request_16 : TellsRequest (desk 0 3) opened 16 1 40 (desk 16 2) (filled (job 15 5 24 4 ∷ job 30 2 40 8 ∷ [])) (placed 16 0)
  pub request_17 : TellsRequest (desk 0 64) full 9 1 40 (desk 9 64) full (placed 17 0)
  -- place 0 has room 8, bound by the request's deadline, which job 0 would just keep
  pub request_18 : TellsRequest (desk 0 3) opened 8 9 16 (desk 8 3) opened (telling 18 0 8 1 0)
  -- bound by job 1, behind the next
  pub request_18_listed : TellsRequest (desk 0 3) opened 8 9 17 (desk 8 3) opened (telling 18 0 8 2 1)
  -- a tick longer than D6
  pub request_18_gap : TellsRequest (desk 0 3) opened 25 5 29 (desk 25 1) (filled (job 30 2 40 8 ∷ [])) (telling 18 0 4 1 0)
  pub request_18_past : TellsRequest (desk 0 3) opened 8 1 7 (desk 8 3) opened (placed 18 0)

-- a table n times over
abbrev pub times : ℕ → List ℕ → List ℕ
times zero ns = []
times (suc n) ns = ns ++ times n ns

-- the contents of the whole example with another number of runs
abbrev pub head_with : ℕ → ℕ → List ℕ
head_with high low = take 14 file ++ (high ∷ low ∷ [])

abbrev pub empty : List Job
empty = filled []

-- At a limit no rule is broken but a later one (12 and 5: there is no room, and no more of the file; 18: the job would end past its deadline); beyond it the limit's own is.
pub record EachLimit : Type 0 where
  -- "Partitions 1 to 16, tasks 0 to 128, frame 1 to 4,096 ticks, runs 1 to 4,096."
  pub partitions_16 : TellsWrite 1 4 (times 16 half) [] runs [] [] (placed 12 0)
  pub partitions_17 : TellsWrite 1 4 (times 17 half) [] runs [] [] (placed 3 0)
  pub tasks_128 : TellsWrite 1 4 parts (times 128 tasks) runs [] [] (placed 12 0)
  pub tasks_129 : TellsWrite 1 4 parts (times 129 tasks) runs [] [] (placed 3 0)
  pub frame_4096 : TellsWrite 1 4096 parts tasks (1 ∷ 4096 ∷ []) [] [] (placed 12 0)
  pub frame_4097 : TellsWrite 1 4097 parts tasks (1 ∷ 4097 ∷ []) [] [] (placed 3 0)
  pub runs_4096 : TellsRead (head_with 16 0) (placed 5 0)
  pub runs_4097 : TellsRead (head_with 16 1) (placed 3 0)
  -- "Cycle 1 to 4,096. Share num/den with 1 ≤ num ≤ den ≤ 1,000."
  pub cycle_4096 : TellsBuild 1 (4096 ∷ 1 ∷ 1 ∷ []) [] [] (placed 12 0)
  pub cycle_4097 : TellsBuild 1 (4097 ∷ 1 ∷ 1 ∷ []) [] [] (placed 6 1)
  pub share_1000 : TellsBuild 1 (4 ∷ 1 ∷ 1000 ∷ []) [] [] (placed 12 0)
  pub share_1001 : TellsBuild 1 (4 ∷ 1 ∷ 1001 ∷ []) [] [] (placed 6 1)
  -- document 02, ask 5: "g from 1 to 16"
  pub granule_16 : TellsBuild 16 (16 ∷ 1 ∷ 1000 ∷ []) [] [] (placed 12 0)
  pub granule_17 : TellsBuild 17 (17 ∷ 1 ∷ 1000 ∷ []) [] [] (placed 21 0)
  -- "A task has 1 ≤ C ≤ D ≤ T ≤ 4,096"
  pub period_4096 : TellsWrite 1 4 parts (1 ∷ 1 ∷ 4 ∷ 4096 ∷ []) runs [] [] (placed 12 0)
  pub period_4097 : TellsWrite 1 4 parts (1 ∷ 1 ∷ 4 ∷ 4097 ∷ []) runs [] [] (placed 7 1)
  -- "Desk: 64 jobs; times and budgets up to 1,000,000."
  pub places_64 : TellsOpen (desk 0 64) (row 10 64) (desk 0 64) full (placed 0 0)
  pub places_63 : TellsOpen (desk 0 0) (drop 1 empty) (desk 0 0) (drop 1 empty) (placed 13 0)
  pub places_65 : TellsOpen (desk 0 65) (row 10 65) (desk 0 65) (row 10 65) (placed 13 0)
  pub time_1000000 : TellsRequest (desk 1000000 0) empty 1000000 1000000 1000000 (desk 1000000 0) empty (telling 18 0 0 1 0)
  pub deadline_1000000 : TellsRequest (desk 0 0) empty 0 1000000 1000000 (desk 0 1) (filled (job 0 1000000 1000000 0 ∷ [])) (telling 0 0 0 0 0)
  pub time_1000001 : TellsRequest (desk 0 0) empty 1000001 1 1 (desk 0 0) empty (placed 14 0)
  pub budget_1000001 : TellsRequest (desk 0 0) empty 1 1000001 1 (desk 0 0) empty (placed 14 0)
  pub deadline_1000001 : TellsRequest (desk 0 0) empty 1 1 1000001 (desk 0 0) empty (placed 14 0)
  pub clock_1000001 : TellsRequest (desk 1000001 0) empty 1 1 1 (desk 1000001 0) empty (placed 13 0)
  pub listed_1000001 :
      TellsOpen (desk 0 1) (filled (job 1 1 1000001 0 ∷ [])) (desk 0 1) (filled (job 1 1 1000001 0 ∷ [])) (placed 13 0)

pub record EachRefusal : Type 0 where
  pub plans : EachPlan
  pub verdicts : EachVerdict TellsVerdict
  pub plain_verdicts : EachVerdict TellsPlain
  pub page_verdicts : EachVerdict TellsUnpaged
  pub pages : EachPage
  pub counts : EachCount
  pub files : EachFile
  pub texts : EachText
  pub editions : EachEdition
  pub desks : EachDesk
  pub limits : EachLimit
