-- What the reader keeps of a line, as plain data.
use Rattle.std.specs.Prelude.{option_map}
use Rattle.sd_types.specs.declared.names.Name.{Name}
use Rattle.sd_lines.specs.declared.operations.Operation.{Operation as Kept}
use Rattle.sd_lines.specs.declared.operations.Operation.TheVariants as kept
use Rattle.sd_lines.specs.declared.statements.Statement.{Statement as KeptStatement}
use Rattle.sd_lines.specs.declared.statements.Statement.TheVariants as stated
use Rattle.sd_lines.specs.declared.threads.ThreadLine.{ThreadLine}
use Rattle.sd_lines.specs.declared.threads.ThreadOptions.{ThreadOptions}
use Rattle.sd_lines.specs.Words.{Word}
use Rattle.sd_lines.specs.Threads.{Options, Thread}
use Rattle.sd_lines.specs.Statements.{Statement, Cpus, Hz, Limit, Set, Table, Lock, Chan, Sema, Declare, Script}
use Rattle.sd_lines.specs.Operations.{Operation, Run, Yield, Nap, Sleep, Wake, WakeAll, Enter, Read, Write, Exit, Prio, CvWait, SemaP, SemaV, Assign, Pbind}

abbrev pub word_of : Name → Word
word_of name = name.text.items

abbrev pub options_said : ThreadOptions → Options
options_said o = record { uid = o.uid; privileged = o.privileged; set = option_map word_of o.set }

abbrev pub thread_said : ThreadLine → Thread
thread_said t =
    record { name = word_of t.name; class = t.class; uid = t.options.uid; privileged = t.options.privileged; set = option_map word_of t.options.set }

abbrev pub statement_said : KeptStatement → Statement
statement_said (stated.Cpus n) = Cpus n
statement_said (stated.Hz n) = Hz n
statement_said (stated.Limit n) = Limit n
statement_said (stated.Set name cpus) = Set (word_of name) cpus.items
statement_said (stated.Table class) = Table class
statement_said (stated.Lock kind name) = Lock kind (word_of name)
statement_said (stated.Chan name) = Chan (word_of name)
statement_said (stated.Sema name count) = Sema (word_of name) count
statement_said (stated.Declare t) = Declare (thread_said t)
statement_said (stated.Script name) = Script (word_of name)

abbrev pub operation_said : Kept → Operation
operation_said (kept.Run n) = Run n
operation_said kept.Yield = Yield
operation_said (kept.Nap n) = Nap n
operation_said (kept.Sleep k) = Sleep (word_of k)
operation_said (kept.Wake k) = Wake (word_of k)
operation_said (kept.WakeAll k) = WakeAll (word_of k)
operation_said (kept.Enter l) = Enter (word_of l)
operation_said (kept.Read l) = Read (word_of l)
operation_said (kept.Write l) = Write (word_of l)
operation_said (kept.Exit l) = Exit (word_of l)
operation_said (kept.Prio t r) = Prio (word_of t) r
operation_said (kept.CvWait k l) = CvWait (word_of k) (word_of l)
operation_said (kept.SemaP k) = SemaP (word_of k)
operation_said (kept.SemaV k) = SemaV (word_of k)
operation_said (kept.Assign cpu set) = Assign cpu (option_map word_of set)
operation_said (kept.Pbind t cpu) = Pbind (word_of t) cpu
