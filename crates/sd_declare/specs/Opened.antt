-- The block that a line outside blocks opens.
use Rattle.std.specs.Prelude.{ℕ, ◌<◌}
use Rattle.sd_lines.specs.Statements.{Statement, Cpus, Hz, Limit, Set, Table, Lock, Chan, Sema, Declare, Script}
use Rattle.sd_declare.specs.declared.statements.Opened.{Opened}
use Rattle.sd_declare.specs.declared.statements.Opened.TheVariants as open_
use Rattle.sd_declare.specs.Declarations.{Declarations, thread_id}

abbrev pub opened_by : Declarations → Statement → Opened
opened_by d (Cpus n) = open_.Nothing
opened_by d (Hz n) = open_.Nothing
opened_by d (Limit n) = open_.Nothing
opened_by d (Set name cpus) = open_.Nothing
opened_by d (Table class) = open_.Table class
opened_by d (Lock kind name) = open_.Nothing
opened_by d (Chan name) = open_.Nothing
opened_by d (Sema name count) = open_.Nothing
opened_by d (Declare t) = open_.Nothing
opened_by d (Script name) = open_.Script (thread_id d name)

-- a script is that of one of so many threads
abbrev pub IsOpenWithin : ℕ → Opened → Type 0
IsOpenWithin threads open_.Nothing = Unit {0}
IsOpenWithin threads (open_.Table class) = Unit {0}
IsOpenWithin threads (open_.Script t) = t.0 < threads
