-- What the answers' causes give.
use Rattle.std.proofs.Common.{◌≡◌, ◌≢◌, ℕ, ◌<◌, ◌≤◌, Bool, true, false, List, [], ◌∷◌, length, Some, None, Result, Ok, Err, refl, sym, ap, subst, ◌∙◌, inl, inr, arith}
use Rattle.sd_types.specs.declared.works.Work.{Work}
use Rattle.std.specs.Prelude.{IfErr, ◌⊎◌, ◌↔◌, codes, cond}
use Rattle.sd_types.specs.Works.{same_bytes}
use Rattle.std.specs.Result.{IsErrOf, IsErrAnd}
use Rattle.std.proofs.lemmas.Result.{err_from_is_err_and}
use Rattle.std.proofs.lemmas.Option.{same_Some}
use Rattle.sd_types.specs.declared.events.Entry.{Entry}
use Rattle.sd_types.specs.declared.events.Stop.{Stop}
use Rattle.sd_types.specs.declared.events.Stop.TheVariants as stop
use Rattle.sd_declare.specs.declared.causes.WorkCause.{WorkCause}
use Rattle.sd_rounds.specs.declared.rounds.Finished.{Finished}
use Rattle.sd_program.specs.declared.forms.Form.{Form}
use Rattle.sd_program.specs.declared.forms.Form.TheVariants.{Journal, Summary}
use Rattle.sd_program.specs.declared.forms.Mode.TheVariants.{Threads}
use Rattle.sd_program.specs.declared.forms.Command.{Command}
use Rattle.sd_program.specs.declared.forms.Command.TheVariants.{Run, Tables, Generate, Audit}
use Rattle.sd_canonical.specs.Blocks.{tables_text}
use Rattle.sd_answers.specs.declared.writing.Unwritten.{Unwritten}
use Rattle.sd_answers.specs.declared.writing.Unwritten.TheVariants as unwritten
use Rattle.sd_answers.specs.declared.answers.Answer.{Answer}
use Rattle.sd_answers.specs.declared.answers.Answer.TheVariants.{Done, Usage, TooLarge, TooLargeToAudit, NoJournal, Refused, ReadFault, WriteFault, OutOfMemory, Blocked, NotAJournal, TooLong}
use Rattle.sd_answers.specs.Answers.{status_of, answer_of, stop_answer, unwritten_answer}
use Rattle.sd_answers.specs.StreamChanges.{StreamChange, HasFault, IsUntouched, Puts}
use Rattle.sd_program.specs.Forms.{command_of, mode_of, run_rising, text_of}
use Rattle.sd_program.specs.RunAnswers.{IsLong, Ran}
use Rattle.sd_program.specs.TheRun.{IsTheRun}
use Rattle.sd_types.specs.Limits.{most_workload_bytes}
use Rattle.sd_answers.specs.Inputs.{HasAtMost, HasTooMany, IsWorkload, IsNoWorkload, IsRefused}
use Rattle.sd_answers.specs.Languages.{Language, IsSound, workloads}
use Rattle.sd_answers.proofs.InputLemmas.{taken_within, taken_all, at_most_of, not_too_many as within_most, workloads_sound}
use Rattle.sd_program.specs.Headline.{RanInput, CausedByInput, PrintsTables, CausedByTables, CausedByNumber, CausedByCommand, Caused, Completes, CompletesTables, Refuses}

-- what the arguments ask for is one thing
pub same_command : (arguments : List (List ℕ)) (j k : Command) → command_of arguments ≡ Some j → command_of arguments ≡ Some k → j ≡ k
same_command arguments j k a b = same_Some j k (sym a ∙ b)

-- one argument does not ask for threads
pub one_word_alone : (verb : List ℕ) → command_of (verb ∷ []) ≢ Some (Run (Journal Threads))
unfolding command_of
one_word_alone verb is = by (same_bytes verb (codes "run")) (same_bytes verb (codes "sum")) (same_bytes verb (codes "tables")) (same_bytes verb (codes "audit")) is
  where
    by : (a b c d : Bool) → cond a run_rising (cond b (Some (Run Summary)) (cond c (Some Tables) (cond d (Some Audit) None))) ≡ Some (Run (Journal Threads)) → ⊥
    by true b c d e = cc
    by false true c d e = cc
    by false false true d e = cc
    by false false false true e = cc
    by false false false false e = cc

-- what an answer for an input was caused by
pub caused_of : (arguments : List (List ℕ)) (form : Form) (input out : StreamChange) (a : Answer) → command_of arguments ≡ Some (Run form) → CausedByInput form input out a → Caused arguments input out a
caused_of arguments form input out Usage known c = absurd c
caused_of arguments form input out TooLargeToAudit known c = absurd c
caused_of arguments form input out NoJournal known c = absurd c
caused_of arguments form input out (NotAJournal fault) known c = absurd c
caused_of arguments form input out a known c = (Run form, known, c)

-- status 0 is that of a run that was written whole and ends without a cycle
pub headline_of : (arguments : List (List ℕ)) (form : Form) (input out : StreamChange) (a : Answer) → command_of arguments ≡ Some (Run form) → Caused arguments input out a → status_of a ≡ 0 → RanInput form input out Done
headline_of arguments form input out Done known c s = subst (λ k. CausedByCommand k input out Done) (same_command arguments c.0 (Run form) c.1 known) c.2
headline_of arguments form input out a known c s = absurd (omega arith)

-- and status 6 with one
pub blocked_of : (arguments : List (List ℕ)) (form : Form) (input out : StreamChange) (a : Answer) → command_of arguments ≡ Some (Run form) → Caused arguments input out a → status_of a ≡ 6 → RanInput form input out Blocked
blocked_of arguments form input out Blocked known c s = subst (λ k. CausedByCommand k input out Blocked) (same_command arguments c.0 (Run form) c.1 known) c.2
blocked_of arguments form input out a known c s = absurd (omega arith)

-- status 0 of the other commands
pub tables_of : (arguments : List (List ℕ)) (input out : StreamChange) (a : Answer) → command_of arguments ≡ Some Tables → Caused arguments input out a → status_of a ≡ 0 → PrintsTables input out
tables_of arguments input out Done known c s = subst (λ k. CausedByCommand k input out Done) (same_command arguments c.0 Tables c.1 known) c.2
tables_of arguments input out a known c s = absurd (omega arith)

pub generates_of : (arguments : List (List ℕ)) (n : ℕ) (input out : StreamChange) (a : Answer) → command_of arguments ≡ Some (Generate n) → Caused arguments input out a → status_of a ≡ 0 → IsUntouched input × CausedByNumber n out Done
generates_of arguments n input out Done known c s = subst (λ k. CausedByCommand k input out Done) (same_command arguments c.0 (Generate n) c.1 known) c.2
generates_of arguments n input out a known c s = absurd (omega arith)

pub some_command : (arguments : List (List ℕ)) (k : Command) → command_of arguments ≡ Some k → command_of arguments ≡ None → ⊥
some_command arguments k some none = cc

-- an input with too many bytes, and one that is no workload, are no accepted one
pub not_too_many : (input : StreamChange) (bytes : List ℕ) → HasTooMany most_workload_bytes input → input.before ≡ Some bytes → length bytes ≤ most_workload_bytes → ⊥
not_too_many input bytes many is short =
    let within = taken_within input.before input.after many.bytes bytes many.took is in
    let count = many.many in
    absurd (omega arith)

pub not_refused : (L : Language) → IsSound L → (input : StreamChange) (bytes : List ℕ) (w : Work) (line : ℕ) (cause : WorkCause) → IsNoWorkload L input line cause → input.before ≡ Some bytes → L.Spells bytes w → ⊥
not_refused L lawful input bytes w line cause none is accepted =
    lawful.not_both bytes w line cause accepted
    (subst (λ bs. L.RefusesAt bs line cause) (taken_all input.before input.after none.bytes bytes none.read.took none.read.to_end is) none.first)

pub completes_of : (arguments : List (List ℕ)) (form : Form) (input out : StreamChange) (a : Answer) → command_of arguments ≡ Some (Run form) → Caused arguments input out a → Completes form input out (status_of a)
completes_of arguments form input out Done known c = λ sound told bytes w is short accepted. inl refl
completes_of arguments form input out Usage known c = λ sound told bytes w is short accepted. absurd (some_command arguments (Run form) known c.0)
completes_of arguments form input out TooLarge known c = λ sound told bytes w is short accepted. absurd (not_too_many input bytes (subst (λ k. CausedByCommand k input out TooLarge) (same_command arguments c.0 (Run form) c.1 known) c.2).0 is short)
completes_of arguments form input out TooLargeToAudit known c = λ sound told bytes w is short accepted. absurd (subst (λ k. CausedByCommand k input out TooLargeToAudit) (same_command arguments c.0 (Run form) c.1 known) c.2)
completes_of arguments form input out NoJournal known c = λ sound told bytes w is short accepted. absurd (subst (λ k. CausedByCommand k input out NoJournal) (same_command arguments c.0 (Run form) c.1 known) c.2)
completes_of arguments form input out (NotAJournal fault) known c = λ sound told bytes w is short accepted. absurd (subst (λ k. CausedByCommand k input out (NotAJournal fault)) (same_command arguments c.0 (Run form) c.1 known) c.2)
completes_of arguments form input out (Refused line cause) known c = λ sound told bytes w is short accepted. absurd (not_refused workloads workloads_sound input bytes w line cause (subst (λ k. CausedByCommand k input out (Refused line cause)) (same_command arguments c.0 (Run form) c.1 known) c.2).0 is accepted)
completes_of arguments form input out ReadFault known c = λ sound told bytes w is short accepted. absurd (sound (subst (λ k. CausedByCommand k input out ReadFault) (same_command arguments c.0 (Run form) c.1 known) c.2).0)
completes_of arguments form input out WriteFault known c = λ sound told bytes w is short accepted. absurd (told (subst (λ k. CausedByCommand k input out WriteFault) (same_command arguments c.0 (Run form) c.1 known) c.2).2.0)
completes_of arguments form input out OutOfMemory known c = λ sound told bytes w is short accepted. inr (inr (inl refl))
completes_of arguments form input out Blocked known c = λ sound told bytes w is short accepted. inr (inl refl)
completes_of arguments form input out TooLong known c = λ sound told bytes w is short accepted. inr (inr (inr refl))

pub completes_tables_of : (arguments : List (List ℕ)) (input out : StreamChange) (a : Answer) → command_of arguments ≡ Some Tables → Caused arguments input out a → CompletesTables input out (status_of a)
completes_tables_of arguments input out Done known c = λ sound told bytes w is short accepted. inl refl
completes_tables_of arguments input out Usage known c = λ sound told bytes w is short accepted. absurd (some_command arguments Tables known c.0)
completes_tables_of arguments input out TooLarge known c = λ sound told bytes w is short accepted. absurd (not_too_many input bytes (subst (λ k. CausedByCommand k input out TooLarge) (same_command arguments c.0 Tables c.1 known) c.2).0 is short)
completes_tables_of arguments input out TooLargeToAudit known c = λ sound told bytes w is short accepted. absurd (subst (λ k. CausedByCommand k input out TooLargeToAudit) (same_command arguments c.0 Tables c.1 known) c.2)
completes_tables_of arguments input out NoJournal known c = λ sound told bytes w is short accepted. absurd (subst (λ k. CausedByCommand k input out NoJournal) (same_command arguments c.0 Tables c.1 known) c.2)
completes_tables_of arguments input out (NotAJournal fault) known c = λ sound told bytes w is short accepted. absurd (subst (λ k. CausedByCommand k input out (NotAJournal fault)) (same_command arguments c.0 Tables c.1 known) c.2)
completes_tables_of arguments input out (Refused line cause) known c = λ sound told bytes w is short accepted. absurd (not_refused workloads workloads_sound input bytes w line cause (subst (λ k. CausedByCommand k input out (Refused line cause)) (same_command arguments c.0 Tables c.1 known) c.2).0 is accepted)
completes_tables_of arguments input out ReadFault known c = λ sound told bytes w is short accepted. absurd (sound (subst (λ k. CausedByCommand k input out ReadFault) (same_command arguments c.0 Tables c.1 known) c.2).0)
completes_tables_of arguments input out WriteFault known c = λ sound told bytes w is short accepted. absurd (told (subst (λ k. CausedByCommand k input out WriteFault) (same_command arguments c.0 Tables c.1 known) c.2).2)
completes_tables_of arguments input out OutOfMemory known c = λ sound told bytes w is short accepted. inr refl
completes_tables_of arguments input out Blocked known c = λ sound told bytes w is short accepted. absurd (subst (λ k. CausedByCommand k input out Blocked) (same_command arguments c.0 Tables c.1 known) c.2)
completes_tables_of arguments input out TooLong known c = λ sound told bytes w is short accepted. absurd (subst (λ k. CausedByCommand k input out TooLong) (same_command arguments c.0 Tables c.1 known) c.2)

pub completes_generated_of : (arguments : List (List ℕ)) (n : ℕ) (input out : StreamChange) (a : Answer) → command_of arguments ≡ Some (Generate n) → Caused arguments input out a → (HasFault out → ⊥) → (status_of a ≡ 0) ⊎ (status_of a ≡ 5)
completes_generated_of arguments n input out Done known c = λ told. inl refl
completes_generated_of arguments n input out Usage known c = λ told. absurd (some_command arguments (Generate n) known c.0)
completes_generated_of arguments n input out TooLarge known c = λ told. absurd (subst (λ k. CausedByCommand k input out TooLarge) (same_command arguments c.0 (Generate n) c.1 known) c.2).1
completes_generated_of arguments n input out TooLargeToAudit known c = λ told. absurd (subst (λ k. CausedByCommand k input out TooLargeToAudit) (same_command arguments c.0 (Generate n) c.1 known) c.2).1
completes_generated_of arguments n input out NoJournal known c = λ told. absurd (subst (λ k. CausedByCommand k input out NoJournal) (same_command arguments c.0 (Generate n) c.1 known) c.2).1
completes_generated_of arguments n input out (NotAJournal fault) known c = λ told. absurd (subst (λ k. CausedByCommand k input out (NotAJournal fault)) (same_command arguments c.0 (Generate n) c.1 known) c.2).1
completes_generated_of arguments n input out (Refused line cause) known c = λ told. absurd (subst (λ k. CausedByCommand k input out (Refused line cause)) (same_command arguments c.0 (Generate n) c.1 known) c.2).1
completes_generated_of arguments n input out ReadFault known c = λ told. absurd (subst (λ k. CausedByCommand k input out ReadFault) (same_command arguments c.0 (Generate n) c.1 known) c.2).1
completes_generated_of arguments n input out WriteFault known c = λ told. absurd (told (subst (λ k. CausedByCommand k input out WriteFault) (same_command arguments c.0 (Generate n) c.1 known) c.2).1.0)
completes_generated_of arguments n input out OutOfMemory known c = λ told. inr refl
completes_generated_of arguments n input out Blocked known c = λ told. absurd (subst (λ k. CausedByCommand k input out Blocked) (same_command arguments c.0 (Generate n) c.1 known) c.2).1
completes_generated_of arguments n input out TooLong known c = λ told. absurd (subst (λ k. CausedByCommand k input out TooLong) (same_command arguments c.0 (Generate n) c.1 known) c.2).1

-- an input that is too large, or no workload, is no accepted one
pub no_workload : (L : Language) (input : StreamChange) (bytes : List ℕ) → input.before ≡ Some bytes → (most_workload_bytes < length bytes) ⊎ ((w : Work) → L.Spells bytes w → ⊥) → (w : Work) → IsWorkload L input w → ⊥
no_workload L input bytes is (inl many) w found =
    let all = taken_all input.before input.after found.bytes bytes found.read.took found.read.to_end is in
    let bound = found.read.bound in
    absurd (omega (arith, ap length all))
no_workload L input bytes is (inr none) w found =
    none w (subst (λ bs. L.Spells bs w) (taken_all input.before input.after found.bytes bytes found.read.took found.read.to_end is) found.accepted)

-- nor has it no more bytes than it may have
too_many_for : (input : StreamChange) (bytes : List ℕ) → HasAtMost most_workload_bytes input → input.before ≡ Some bytes → most_workload_bytes < length bytes → status_of OutOfMemory ≡ 2
too_many_for input bytes few is many = let within = within_most most_workload_bytes input bytes few is in absurd (omega arith)

pub refuses_of : (arguments : List (List ℕ)) (form : Form) (input out : StreamChange) (a : Answer) → command_of arguments ≡ Some (Run form) → Caused arguments input out a → Refuses workloads input (status_of a)
refuses_of arguments form input out Done known c = λ sound bytes is. (λ many. let d = subst (λ k. CausedByCommand k input out Done) (same_command arguments c.0 (Run form) c.1 known) c.2 in absurd (no_workload workloads input bytes is (inl many) d.0 d.1), λ none. let d = subst (λ k. CausedByCommand k input out Done) (same_command arguments c.0 (Run form) c.1 known) c.2 in absurd (no_workload workloads input bytes is (inr none) d.0 d.1))
refuses_of arguments form input out Usage known c = λ sound bytes is. (λ many. absurd (some_command arguments (Run form) known c.0), λ none. absurd (some_command arguments (Run form) known c.0))
refuses_of arguments form input out TooLarge known c = λ sound bytes is. (λ many. refl, λ none. inl refl)
refuses_of arguments form input out TooLargeToAudit known c = λ sound bytes is. (λ many. absurd (subst (λ k. CausedByCommand k input out TooLargeToAudit) (same_command arguments c.0 (Run form) c.1 known) c.2), λ none. absurd (subst (λ k. CausedByCommand k input out TooLargeToAudit) (same_command arguments c.0 (Run form) c.1 known) c.2))
refuses_of arguments form input out NoJournal known c = λ sound bytes is. (λ many. absurd (subst (λ k. CausedByCommand k input out NoJournal) (same_command arguments c.0 (Run form) c.1 known) c.2), λ none. absurd (subst (λ k. CausedByCommand k input out NoJournal) (same_command arguments c.0 (Run form) c.1 known) c.2))
refuses_of arguments form input out (NotAJournal fault) known c = λ sound bytes is. (λ many. absurd (subst (λ k. CausedByCommand k input out (NotAJournal fault)) (same_command arguments c.0 (Run form) c.1 known) c.2), λ none. absurd (subst (λ k. CausedByCommand k input out (NotAJournal fault)) (same_command arguments c.0 (Run form) c.1 known) c.2))
refuses_of arguments form input out (Refused line cause) known c = λ sound bytes is. (λ many. refl, λ none. inl refl)
refuses_of arguments form input out ReadFault known c = λ sound bytes is. (λ many. absurd (sound (subst (λ k. CausedByCommand k input out ReadFault) (same_command arguments c.0 (Run form) c.1 known) c.2).0), λ none. absurd (sound (subst (λ k. CausedByCommand k input out ReadFault) (same_command arguments c.0 (Run form) c.1 known) c.2).0))
refuses_of arguments form input out WriteFault known c = λ sound bytes is. (λ many. let d = subst (λ k. CausedByCommand k input out WriteFault) (same_command arguments c.0 (Run form) c.1 known) c.2 in absurd (no_workload workloads input bytes is (inl many) d.0 d.1), λ none. let d = subst (λ k. CausedByCommand k input out WriteFault) (same_command arguments c.0 (Run form) c.1 known) c.2 in absurd (no_workload workloads input bytes is (inr none) d.0 d.1))
refuses_of arguments form input out OutOfMemory known c = λ sound bytes is. (λ many. let d = subst (λ k. CausedByCommand k input out OutOfMemory) (same_command arguments c.0 (Run form) c.1 known) c.2 in too_many_for input bytes d.0 is many, λ none. inr refl)
refuses_of arguments form input out Blocked known c = λ sound bytes is. (λ many. let d = subst (λ k. CausedByCommand k input out Blocked) (same_command arguments c.0 (Run form) c.1 known) c.2 in absurd (no_workload workloads input bytes is (inl many) d.0 d.1), λ none. let d = subst (λ k. CausedByCommand k input out Blocked) (same_command arguments c.0 (Run form) c.1 known) c.2 in absurd (no_workload workloads input bytes is (inr none) d.0 d.1))
refuses_of arguments form input out TooLong known c = λ sound bytes is. (λ many. let d = subst (λ k. CausedByCommand k input out TooLong) (same_command arguments c.0 (Run form) c.1 known) c.2 in absurd (no_workload workloads input bytes is (inl many) d.0 d.1), λ none. let d = subst (λ k. CausedByCommand k input out TooLong) (same_command arguments c.0 (Run form) c.1 known) c.2 in absurd (no_workload workloads input bytes is (inr none) d.0 d.1))

pub refuses_tables_of : (arguments : List (List ℕ)) (input out : StreamChange) (a : Answer) → command_of arguments ≡ Some Tables → Caused arguments input out a → Refuses workloads input (status_of a)
refuses_tables_of arguments input out Done known c = λ sound bytes is. (λ many. let d = subst (λ k. CausedByCommand k input out Done) (same_command arguments c.0 Tables c.1 known) c.2 in absurd (no_workload workloads input bytes is (inl many) d.0 d.1), λ none. let d = subst (λ k. CausedByCommand k input out Done) (same_command arguments c.0 Tables c.1 known) c.2 in absurd (no_workload workloads input bytes is (inr none) d.0 d.1))
refuses_tables_of arguments input out Usage known c = λ sound bytes is. (λ many. absurd (some_command arguments Tables known c.0), λ none. absurd (some_command arguments Tables known c.0))
refuses_tables_of arguments input out TooLarge known c = λ sound bytes is. (λ many. refl, λ none. inl refl)
refuses_tables_of arguments input out TooLargeToAudit known c = λ sound bytes is. (λ many. absurd (subst (λ k. CausedByCommand k input out TooLargeToAudit) (same_command arguments c.0 Tables c.1 known) c.2), λ none. absurd (subst (λ k. CausedByCommand k input out TooLargeToAudit) (same_command arguments c.0 Tables c.1 known) c.2))
refuses_tables_of arguments input out NoJournal known c = λ sound bytes is. (λ many. absurd (subst (λ k. CausedByCommand k input out NoJournal) (same_command arguments c.0 Tables c.1 known) c.2), λ none. absurd (subst (λ k. CausedByCommand k input out NoJournal) (same_command arguments c.0 Tables c.1 known) c.2))
refuses_tables_of arguments input out (NotAJournal fault) known c = λ sound bytes is. (λ many. absurd (subst (λ k. CausedByCommand k input out (NotAJournal fault)) (same_command arguments c.0 Tables c.1 known) c.2), λ none. absurd (subst (λ k. CausedByCommand k input out (NotAJournal fault)) (same_command arguments c.0 Tables c.1 known) c.2))
refuses_tables_of arguments input out (Refused line cause) known c = λ sound bytes is. (λ many. refl, λ none. inl refl)
refuses_tables_of arguments input out ReadFault known c = λ sound bytes is. (λ many. absurd (sound (subst (λ k. CausedByCommand k input out ReadFault) (same_command arguments c.0 Tables c.1 known) c.2).0), λ none. absurd (sound (subst (λ k. CausedByCommand k input out ReadFault) (same_command arguments c.0 Tables c.1 known) c.2).0))
refuses_tables_of arguments input out WriteFault known c = λ sound bytes is. (λ many. let d = subst (λ k. CausedByCommand k input out WriteFault) (same_command arguments c.0 Tables c.1 known) c.2 in absurd (no_workload workloads input bytes is (inl many) d.0 d.1), λ none. let d = subst (λ k. CausedByCommand k input out WriteFault) (same_command arguments c.0 Tables c.1 known) c.2 in absurd (no_workload workloads input bytes is (inr none) d.0 d.1))
refuses_tables_of arguments input out OutOfMemory known c = λ sound bytes is. (λ many. let d = subst (λ k. CausedByCommand k input out OutOfMemory) (same_command arguments c.0 Tables c.1 known) c.2 in too_many_for input bytes d.0 is many, λ none. inr refl)
refuses_tables_of arguments input out Blocked known c = λ sound bytes is. (λ many. absurd (subst (λ k. CausedByCommand k input out Blocked) (same_command arguments c.0 Tables c.1 known) c.2), λ none. absurd (subst (λ k. CausedByCommand k input out Blocked) (same_command arguments c.0 Tables c.1 known) c.2))
refuses_tables_of arguments input out TooLong known c = λ sound bytes is. (λ many. absurd (subst (λ k. CausedByCommand k input out TooLong) (same_command arguments c.0 Tables c.1 known) c.2), λ none. absurd (subst (λ k. CausedByCommand k input out TooLong) (same_command arguments c.0 Tables c.1 known) c.2))

-- status 1 comes exactly where the arguments are of none of the forms
pub usage_of : (arguments : List (List ℕ)) (input out : StreamChange) (a : Answer) → Caused arguments input out a → (status_of a ≡ 1) ↔ (command_of arguments ≡ None)
usage_of arguments input out Usage c = (λ e. c.0, λ other. refl)
usage_of arguments input out a c = (λ e. absurd (omega arith), λ other. absurd (some_command arguments c.0 c.1 other))

-- ---- the answer of the run of an input

pub refused_of : (form : Form) (input out : StreamChange) (a : Answer) → IsRefused workloads input a → IsUntouched out → CausedByInput form input out a
refused_of form input out TooLarge refused kept = (refused, kept)
refused_of form input out (Refused line cause) refused kept = (refused, kept)
refused_of form input out ReadFault refused kept = (refused, kept)
refused_of form input out OutOfMemory refused kept = (refused, kept.no_fault, inl kept)
refused_of form input out a refused kept = absurd refused

-- the tables were not written whole
pub tables_unwritten : (input out : StreamChange) (w : Work) (e : Unwritten) → IsWorkload workloads input w → Puts out.before out.after out.faults_before out.faults_after (tables_text w) (Err e)
    → (e ≡ unwritten.Memory → out.after ≡ out.before) → CausedByTables input out (unwritten_answer e)
tables_unwritten input out w unwritten.Fault is p kept = (w, is, p.fault refl, p.part)
tables_unwritten input out w unwritten.Memory is p kept = (at_most_of most_workload_bytes input is.bytes is.read, record { bytes = kept refl; no_fault = p.no_fault (λ e. cc) })

pub tables_exit : (input out : StreamChange) (r : Result (Unit {0}) Answer) (a : Answer) → IsErrAnd r (λ y. y ≡ a) → CausedByTables input out a → CausedByTables input out (answer_of r)
tables_exit input out r a exit caused =
    let x = err_from_is_err_and r exit in
    subst (λ s. CausedByTables input out (answer_of s)) (sym (x.1 ∙ ap Err x.2)) caused

pub caused_exit : (form : Form) (input out : StreamChange) (r : Result (Unit {0}) Answer) (a : Answer) → IsErrAnd r (λ y. y ≡ a) → CausedByInput form input out a
    → CausedByInput form input out (answer_of r)
caused_exit form input out r a exit caused =
    let x = err_from_is_err_and r exit in
    subst (λ s. CausedByInput form input out (answer_of s)) (sym (x.1 ∙ ap Err x.2)) caused

pub run_of : (form : Form) (input out : StreamChange) (w : Work) (a : Answer) → IsWorkload workloads input w → Ran w form out a → CausedByInput form input out a
run_of form input out w Done is r = (w, is, r)
run_of form input out w Blocked is r = (w, is, r)
run_of form input out w WriteFault is r = (w, is, r)
run_of form input out w OutOfMemory is r = (at_most_of most_workload_bytes input is.bytes is.read, r.0, inr (w, is, r))
run_of form input out w TooLong is r = (w, is, r)
run_of form input out w a is r = absurd r

-- ---- the answer of the run of a workload

-- the run was not made
pub stopped_of : (w : Work) (form : Form) (out : StreamChange) (r : Result Finished Stop) → (IsErrOf r stop.Full → IsLong w (mode_of form))
    → IsUntouched out → IfErr r (λ refusal. Ran w form out (stop_answer refusal))
stopped_of w form out (Ok run) long kept = tt
stopped_of w form out (Err stop.Full) long kept = (long refl, kept)
stopped_of w form out (Err stop.Memory) long kept = (kept.no_fault, inl kept)

-- it was not written whole
pub unwritten_of : (w : Work) (form : Form) (out : StreamChange) (es : List Entry) (r : Result (Unit {0}) Unwritten) → IsTheRun w (mode_of form) es
    → Puts out.before out.after out.faults_before out.faults_after (text_of form w es) r → IfErr r (λ refusal. Ran w form out (unwritten_answer refusal))
unwritten_of w form out es (Ok u) is p = tt
unwritten_of w form out es (Err unwritten.Fault) is p = (p.fault refl, (es, is, p.part))
unwritten_of w form out es (Err unwritten.Memory) is p = (p.no_fault (λ e. cc), inr (es, is, p.part))

pub ran_exit : (w : Work) (form : Form) (out : StreamChange) (r : Result (Unit {0}) Answer) (a : Answer) → IsErrAnd r (λ y. y ≡ a) → Ran w form out a → Ran w form out (answer_of r)
ran_exit w form out r a exit ran =
    let x = err_from_is_err_and r exit in
    subst (λ s. Ran w form out (answer_of s)) (sym (x.1 ∙ ap Err x.2)) ran
