-- The limits of inputs, workloads and runs.
-- Source: this project's own.
use Rattle.std.specs.Prelude.{ℕ, ◌^◌}

-- the most bytes of the text of a workload
abbrev pub most_workload_bytes : ℕ
most_workload_bytes = 1048576

-- and of a certificate: a workload, the line `journal`, and the journal of a run
abbrev pub most_certificate_bytes : ℕ
most_certificate_bytes = 134217728

-- the most bytes of a name
abbrev pub most_name_bytes : ℕ
most_name_bytes = 16

-- the most processors
abbrev pub most_processors : ℕ
most_processors = 64

-- the most sets of processors that a workload declares
abbrev pub most_sets : ℕ
most_sets = 8

-- the most locks, and the most channels
abbrev pub most_objects : ℕ
most_objects = 256

abbrev pub most_threads : ℕ
most_threads = 2048

-- the most pairs of a thread and a lock
abbrev pub most_pairs : ℕ
most_pairs = 65536

-- the most ticks of each processor: the greatest limit
abbrev pub greatest_limit : ℕ
greatest_limit = 100000

-- the most ticks of one run, and of one nap
abbrev pub greatest_span : ℕ
greatest_span = 100000

-- the most ticks of all processors together
abbrev pub most_ticks : ℕ
most_ticks = 200000

-- the most operations of one script, and of all together
abbrev pub most_operations : ℕ
most_operations = 256

abbrev pub most_operations_of_all : ℕ
most_operations_of_all = 4096

-- the most locks that a thread holds at once
abbrev pub most_held : ℕ
most_held = 8

-- a log that holds as many entries takes no more
abbrev pub most_entries : ℕ
most_entries = 2 ^ 40

-- the most ticks of a quantum
abbrev pub most_quantum_ticks : ℕ
most_quantum_ticks = 1000000

-- the most parts of a second in which the file of a table gives its quanta
abbrev pub greatest_resolution : ℕ
greatest_resolution = 1000000000

-- and the most such parts of a quantum
abbrev pub most_quantum_units : ℕ
most_quantum_units = 1000000000
