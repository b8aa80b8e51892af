-- The answers: their exit statuses, their lines, and the answer to each refusal of a call.
-- Source: this project's own.
use Rattle.std.specs.Prelude.{ℕ, List, [], codes, Result, Ok, Err}
use Rattle.std.specs.declared.io.ErrorKind.{ErrorKind}
use Rattle.std.specs.declared.io.ErrorKind.TheVariants as kind
use Rattle.sd_types.specs.declared.events.Stop.{Stop}
use Rattle.sd_types.specs.declared.events.Stop.TheVariants as stop
use Rattle.sd_text.specs.declared.read.ReadAllFault.{ReadAllFault}
use Rattle.sd_text.specs.declared.read.ReadAllFault.TheVariants as read
use Rattle.sd_workload.specs.declared.fault.WorkFault.{WorkFault}
use Rattle.sd_workload.specs.declared.fault.WorkFault.TheVariants as work
use Rattle.sd_audit.specs.declared.audits.AuditFault.{AuditFault}
use Rattle.sd_audit.specs.declared.audits.AuditFault.TheVariants as audit
use Rattle.sd_answers.specs.Refusals.{refusal_line, journal_line}
use Rattle.sd_answers.specs.declared.writing.Unwritten.{Unwritten}
use Rattle.sd_answers.specs.declared.writing.Unwritten.TheVariants as unwritten
use Rattle.sd_answers.specs.declared.answers.JournalFault.{JournalFault}
use Rattle.sd_answers.specs.declared.answers.JournalFault.TheVariants as journal
use Rattle.sd_answers.specs.declared.answers.Answer.{Answer}
use Rattle.sd_answers.specs.declared.answers.Answer.TheVariants.{Done, Usage, TooLarge, TooLargeToAudit, NoJournal, Refused, ReadFault, WriteFault, OutOfMemory, Blocked, NotAJournal, TooLong}

abbrev pub status_of : Answer → ℕ
status_of Done = 0
status_of Usage = 1
status_of TooLarge = 2
status_of TooLargeToAudit = 2
status_of NoJournal = 2
status_of (Refused line cause) = 2
status_of ReadFault = 3
status_of WriteFault = 4
status_of OutOfMemory = 5
status_of Blocked = 6
status_of (NotAJournal fault) = 7
-- the run has 2^40 entries or more
status_of TooLong = 8

abbrev pub line_of : Answer → List ℕ
line_of Done = []
line_of Usage = codes "usage: dispsim run | run --seed N | run --threads | sum | gen N | tables | audit\n"
line_of TooLarge = codes "refused: input larger than 1048576 bytes\n"
line_of TooLargeToAudit = codes "refused: input larger than 134217728 bytes\n"
line_of NoJournal = codes "refused: no journal\n"
line_of (Refused line cause) = refusal_line line cause
line_of ReadFault = codes "read fault\n"
line_of WriteFault = codes "write fault\n"
line_of OutOfMemory = codes "out of memory\n"
line_of Blocked = codes "blocking cycle\n"
line_of (NotAJournal fault) = journal_line fault
line_of TooLong = codes "run too long\n"

-- the line of an answer of a program with other forms of arguments, whose usage is this line
abbrev pub line_with : List ℕ → Answer → List ℕ
line_with usage Usage = usage
line_with usage a = line_of a

-- ---- the answer where a call was refused

-- the arguments were not read: one of them is no text, so they are none that the program knows, or memory ran out
abbrev pub arguments_answer : ErrorKind → Answer
arguments_answer kind.OutOfMemory = OutOfMemory
arguments_answer _ = Usage

-- the input was not read
abbrev pub read_answer : ReadAllFault → Answer
read_answer read.ReadFault = ReadFault
read_answer read.TooLarge = TooLarge
read_answer read.Memory = OutOfMemory

-- the input is no workload
abbrev pub work_answer : WorkFault → Answer
work_answer (work.At line cause) = Refused line cause
work_answer (work.Memory line) = OutOfMemory

-- the input of an audit was not read
abbrev pub certificate_answer : ReadAllFault → Answer
certificate_answer read.ReadFault = ReadFault
certificate_answer read.TooLarge = TooLargeToAudit
certificate_answer read.Memory = OutOfMemory

-- the text is not the journal of a complete run
abbrev pub audit_answer : AuditFault → Answer
audit_answer (audit.NotAnEntry line) = NotAJournal (journal.NotAnEntry line)
audit_answer (audit.Illegal number) = NotAJournal (journal.Illegal number)
audit_answer (audit.Incomplete cpu) = NotAJournal (journal.Incomplete cpu)
audit_answer (audit.Tail line) = NotAJournal (journal.Tail line)
audit_answer (audit.Memory number) = OutOfMemory

-- the same fault as the audit says it
abbrev pub audit_fault : JournalFault → AuditFault
audit_fault (journal.NotAnEntry line) = audit.NotAnEntry line
audit_fault (journal.Illegal number) = audit.Illegal number
audit_fault (journal.Incomplete cpu) = audit.Incomplete cpu
audit_fault (journal.Tail line) = audit.Tail line

-- the run was not made
abbrev pub stop_answer : Stop → Answer
stop_answer stop.Full = TooLong
stop_answer stop.Memory = OutOfMemory

-- the run was not written
abbrev pub unwritten_answer : Unwritten → Answer
unwritten_answer unwritten.Fault = WriteFault
unwritten_answer unwritten.Memory = OutOfMemory

-- the answer of a call that was done, or of one that was refused
abbrev pub answer_of : Result (Unit {0}) Answer → Answer
answer_of (Ok done) = Done
answer_of (Err answer) = answer
