-- What the program promises of a call, for each of its answers. What is said of bytes is said of streams that tell
-- them (`before` and `after` are Some); the counts of faults are always told.
-- Source: this project's own.
use Rattle.std.specs.Prelude.{◌≡◌, ℕ, ◌<◌, ◌≤◌, List, length, Some, None, ◌⊎◌, ◌↔◌}
use Rattle.std.specs.Io.KnownBytes.{Appends}
use Rattle.sd_types.specs.declared.works.Work.{Work}
use Rattle.sd_workload.specs.Accepted.{Accepted}
use Rattle.sd_answers.specs.declared.answers.Answer.{Answer}
use Rattle.sd_answers.specs.declared.answers.Answer.TheVariants.{Done, Usage, TooLarge, Refused, ReadFault, WriteFault, OutOfMemory, Blocked, TooLong}
use Rattle.sd_answers.specs.Answers.{status_of, line_of}
use Rattle.sd_answers.specs.Certificates.{CompletesCertificate, RefusesCertificate, RefusesFaulty, RefusesJournal}
use Rattle.sd_types.specs.Limits.{most_workload_bytes}
use Rattle.sd_answers.specs.Inputs.{HasAtMost, HasTooMany, IsWorkload, IsNoWorkload}
use Rattle.sd_answers.specs.Languages.{Language, workloads}
use Rattle.sd_answers.specs.StreamChanges.{StreamChange, HasFault, HasNoFault, IsUntouched, AppendsPart, TellsLine}
use Rattle.sd_gen.specs.Generated.{generated}
use Rattle.sd_program.specs.declared.forms.Form.{Form}
use Rattle.sd_program.specs.declared.forms.Command.{Command}
use Rattle.sd_program.specs.declared.forms.Command.TheVariants.{Run, Tables, Generate, Audit}
use Rattle.sd_program.specs.Forms.{command_of}
use Rattle.sd_canonical.specs.Blocks.{tables_text}
use Rattle.sd_program.specs.RunAnswers.{Ran}
use Rattle.sd_program.specs.AuditAnswers.{CausedByAudit, CertifiesInput}

-- the input is an accepted workload, whose run ended so
abbrev pub RanInput : Form → StreamChange → StreamChange → Answer → Type 0
RanInput form input out a = (w : Work) × IsWorkload workloads input w × Ran w form out a

-- the answer to the arguments of a form
abbrev pub CausedByInput : Form → StreamChange → StreamChange → Answer → Type 0
CausedByInput form input out Done = RanInput form input out Done
CausedByInput form input out TooLarge = HasTooMany most_workload_bytes input × IsUntouched out
CausedByInput form input out (Refused line cause) = IsNoWorkload workloads input line cause × IsUntouched out
CausedByInput form input out ReadFault = HasFault input × IsUntouched out
CausedByInput form input out WriteFault = RanInput form input out WriteFault
CausedByInput form input out OutOfMemory = HasAtMost most_workload_bytes input × HasNoFault out × (IsUntouched out ⊎ RanInput form input out OutOfMemory)
CausedByInput form input out Blocked = RanInput form input out Blocked
CausedByInput form input out TooLong = RanInput form input out TooLong
CausedByInput form input out _ = ⊥

-- the tables of the input's workload were written
abbrev pub PrintsTables : StreamChange → StreamChange → Type 0
PrintsTables input out = (w : Work) × IsWorkload workloads input w × Appends out.before out.after (tables_text w) × HasNoFault out

-- the answer to the argument `tables`
abbrev pub CausedByTables : StreamChange → StreamChange → Answer → Type 0
CausedByTables input out Done = PrintsTables input out
CausedByTables input out TooLarge = HasTooMany most_workload_bytes input × IsUntouched out
CausedByTables input out (Refused line cause) = IsNoWorkload workloads input line cause × IsUntouched out
CausedByTables input out ReadFault = HasFault input × IsUntouched out
CausedByTables input out WriteFault = (w : Work) × IsWorkload workloads input w × HasFault out × AppendsPart out.before out.after (tables_text w)
CausedByTables input out OutOfMemory = HasAtMost most_workload_bytes input × IsUntouched out
CausedByTables input out _ = ⊥

-- the answer to the arguments `gen N`
abbrev pub CausedByNumber : ℕ → StreamChange → Answer → Type 0
CausedByNumber n out Done = Appends out.before out.after (generated n) × HasNoFault out
CausedByNumber n out WriteFault = HasFault out × AppendsPart out.before out.after (generated n)
CausedByNumber n out OutOfMemory = IsUntouched out
CausedByNumber n out _ = ⊥

abbrev pub CausedByCommand : Command → StreamChange → StreamChange → Answer → Type 0
CausedByCommand (Run form) input out a = CausedByInput form input out a
CausedByCommand Tables input out a = CausedByTables input out a
CausedByCommand (Generate n) input out a = IsUntouched input × CausedByNumber n out a
CausedByCommand Audit input out a = CausedByAudit input out a

-- an answer and its cause
abbrev pub Caused : List (List ℕ) → StreamChange → StreamChange → Answer → Type 0
Caused arguments input out Usage = (command_of arguments ≡ None) × IsUntouched input × IsUntouched out
Caused arguments input out a = (command : Command) × (command_of arguments ≡ Some command) × CausedByCommand command input out a

-- the answer's line was written to the error output, whole where no fault was counted, and else a prefix of it
abbrev pub Tells : StreamChange → Answer → Type 0
Tells err a = TellsLine err (line_of a)

-- there is an answer with this status, with its cause and its line
pub record IsAnswered (arguments : List (List ℕ)) (input out err : StreamChange) (exit : ℕ) : Type 0 where
  pub answer : Answer
  pub status : exit ≡ status_of answer
  pub caused : Caused arguments input out answer
  pub told : Tells err answer

-- an accepted workload is run and written, unless memory runs out or the run is too long; status 6 says that threads
-- block each other at its end
abbrev pub Completes : Form → StreamChange → StreamChange → ℕ → Type 0
Completes form input out status =
    (HasFault input → ⊥) → (HasFault out → ⊥)
    → (bytes : List ℕ) (w : Work) → input.before ≡ Some bytes → length bytes ≤ most_workload_bytes → Accepted bytes w
    → (status ≡ 0) ⊎ ((status ≡ 6) ⊎ ((status ≡ 5) ⊎ (status ≡ 8)))

-- the tables of an accepted workload are written, unless memory runs out
abbrev pub CompletesTables : StreamChange → StreamChange → ℕ → Type 0
CompletesTables input out status =
    (HasFault input → ⊥) → (HasFault out → ⊥)
    → (bytes : List ℕ) (w : Work) → input.before ≡ Some bytes → length bytes ≤ most_workload_bytes → Accepted bytes w → (status ≡ 0) ⊎ (status ≡ 5)

-- an input that is too large is refused, and so is one that spells no workload, unless memory runs out
abbrev pub Refuses : Language → StreamChange → ℕ → Type 0
Refuses L input status =
    (HasFault input → ⊥) → (bytes : List ℕ) → input.before ≡ Some bytes
    → (most_workload_bytes < length bytes → status ≡ 2) × (((w : Work) → L.Spells bytes w → ⊥) → (status ≡ 2) ⊎ (status ≡ 5))

-- All that the program promises of a call, from what it did to its streams: there is an answer with its cause, its
-- status and its line; where a workload is run, status 0 says that the run was printed and that no threads block each
-- other at its end, status 6 that it was printed and that some do; where tables or a generated workload are asked for,
-- status 0 says that they were printed; where a journal is audited, status 0 says that it is that of a complete run, and
-- status 7 what is first at fault in it; and the two sides of the other statuses.
pub record KeepsPromises (arguments : List (List ℕ)) (input out err : StreamChange) (status : ℕ) : Type 0 where
  pub answered : IsAnswered arguments input out err status
  pub headline : (form : Form) → command_of arguments ≡ Some (Run form) → status ≡ 0 → RanInput form input out Done
  pub blocked : (form : Form) → command_of arguments ≡ Some (Run form) → status ≡ 6 → RanInput form input out Blocked
  pub tables : command_of arguments ≡ Some Tables → status ≡ 0 → PrintsTables input out
  pub generates : (n : ℕ) → command_of arguments ≡ Some (Generate n) → status ≡ 0 → IsUntouched input × CausedByNumber n out Done
  pub audits : command_of arguments ≡ Some Audit → status ≡ 0 → CertifiesInput input out
  pub faults : command_of arguments ≡ Some Audit → status ≡ 7 → RefusesJournal workloads input out
  pub completes : (form : Form) → command_of arguments ≡ Some (Run form) → Completes form input out status
  pub completes_tables : command_of arguments ≡ Some Tables → CompletesTables input out status
  pub completes_generated : (n : ℕ) → command_of arguments ≡ Some (Generate n) → (HasFault out → ⊥) → (status ≡ 0) ⊎ (status ≡ 5)
  pub completes_audit : command_of arguments ≡ Some Audit → CompletesCertificate workloads input out status
  pub refuses : (form : Form) → command_of arguments ≡ Some (Run form) → Refuses workloads input status
  pub refuses_tables : command_of arguments ≡ Some Tables → Refuses workloads input status
  pub refuses_audit : command_of arguments ≡ Some Audit → RefusesCertificate workloads input status
  pub refuses_faulty : command_of arguments ≡ Some Audit → RefusesFaulty workloads input status
  pub usage : (status ≡ 1) ↔ (command_of arguments ≡ None)
