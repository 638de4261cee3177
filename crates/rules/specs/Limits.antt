-- Document 01's limits and the records' widths, each once. Assumes nothing.
use Rattle.std.specs.Prelude.{ℕ, ◌+◌, ◌*◌}

-- "Partitions 1 to 16"
abbrev pub most_partitions : ℕ
most_partitions = 16

-- "tasks 0 to 128"
abbrev pub most_tasks : ℕ
most_tasks = 128

-- "frame 1 to 4,096 ticks, runs 1 to 4,096 .. Cycle 1 to 4,096", and a task's period too
abbrev pub longest : ℕ
longest = 4096

-- "1 ≤ num ≤ den ≤ 1,000"
abbrev pub finest_share : ℕ
finest_share = 1000

-- document 02, ask 5: "g from 1 to 16"
abbrev pub most_granule : ℕ
most_granule = 16

-- document 02, ask 6: "2 now means neither 1 nor 2"
abbrev pub newest_edition : ℕ
newest_edition = 2

-- "Desk: 64 jobs"
abbrev pub places : ℕ
places = 64

-- "times and budgets up to 1,000,000"
abbrev pub latest : ℕ
latest = 1000000

-- "Partition: cycle, num, den."
abbrev pub part_width : ℕ
part_width = 3

-- "Task: partition, C, D, T."
abbrev pub task_width : ℕ
task_width = 4

-- "Run: owner, length."
abbrev pub run_width : ℕ
run_width = 2

-- a question about running counts: partition, start, length
abbrev pub question_width : ℕ
question_width = 3

-- document 02, ask 7: a row of the supplier's page: point, demand, least service, worst start
abbrev pub row_width : ℕ
row_width = 4

-- "Numbers of two bytes"
abbrev pub number_bytes : ℕ
number_bytes = 2

-- "Bodies from byte 16"
abbrev pub head_bytes : ℕ
head_bytes = 16

-- no plan file is longer, in bytes
abbrev pub longest_file : ℕ
longest_file = head_bytes + number_bytes * (part_width * most_partitions + task_width * most_tasks + run_width * longest)

-- no line of a listing is longer, in bytes, and no listing: a line for the frame, each partition and each task
abbrev pub longest_line : ℕ
longest_line = 128

abbrev pub longest_listing : ℕ
longest_listing = (1 + most_partitions + most_tasks) * longest_line

-- no page of a task is longer, in bytes: a line for each point, and the task, the columns' names and the sentence
abbrev pub longest_why : ℕ
longest_why = (3 + longest) * longest_line
