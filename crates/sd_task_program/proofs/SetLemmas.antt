-- Answers to sets that were read, refused and printed.
use Rattle.std.proofs.Common.{◌≡◌, ℕ, Bool, true, false, List, [], ◌∷◌, ◌++◌, Result, Err, refl, sym, ap, subst, ◌∙◌, inl}
use Rattle.std.specs.Prelude.{codes, decimal}
use Rattle.std.specs.Result.{IsErrAnd}
use Rattle.std.proofs.lemmas.Result.{err_from_is_err_and}
use Rattle.sd_types.specs.Limits.{most_workload_bytes}
use Rattle.sd_text.specs.Lines.{EndsLine}
use Rattle.sd_text.specs.declared.read.ReadAllFault.{ReadAllFault}
use Rattle.sd_text.specs.declared.read.ReadAllFault.TheVariants as read
use Rattle.sd_text.proofs.PieceLemmas.{EndsLine-flat_map, EndsLine-newline}
use Rattle.sd_tasks.specs.Written.{Written}
use Rattle.sd_releases.specs.declared.expanding.Expansion.{Expansion}
use Rattle.sd_releases.specs.declared.expanding.SetFault.{SetFault}
use Rattle.sd_releases.specs.declared.expanding.SetFault.TheVariants as fault
use Rattle.sd_releases.specs.Verdicts.{IsSetFault, set_verdict}
use Rattle.sd_answers.specs.declared.answers.Answer.{Answer}
use Rattle.sd_answers.specs.declared.answers.Answer.TheVariants.{Done, WriteFault, Blocked}
use Rattle.sd_answers.specs.declared.writing.Unwritten.{Unwritten}
use Rattle.sd_answers.specs.declared.writing.Unwritten.TheVariants as unwritten
use Rattle.sd_answers.specs.Answers.{answer_of, read_answer, unwritten_answer}
use Rattle.sd_answers.specs.Handing.{LeavesHeldBy}
use Rattle.sd_answers.specs.Inputs.{HasRead, IsReadingText}
use Rattle.sd_answers.specs.StreamChanges.{IsUntouched, Puts, StreamChange}
use Rattle.sd_answers.proofs.EndLemmas.{Closes, closed, closes-behind}
use Rattle.sd_answers.proofs.InputLemmas.{at_most_of}
use Rattle.sd_set_inputs.specs.Readings.{fault_answer}
use Rattle.sd_task_program.specs.Printed.{mapped_line, printed}
use Rattle.sd_task_program.specs.Promises.{CausedBySet, IsExpanded, IsSet, IsUnread}

-- ---- what is printed are whole lines

newline : Closes (10 ∷ [])
newline = λ o. refl

mapped-ends : (w : Written) → EndsLine (mapped_line w)
mapped-ends w =
    closed (mapped_line w) (closes-behind w.text (codes " # " ++ (decimal w.line ++ 10 ∷ []))
    (closes-behind (codes " # ") (decimal w.line ++ 10 ∷ []) (closes-behind (decimal w.line) (10 ∷ []) newline)))

pub printed-ends : (is_mapped : Bool) (lines : List Written) → EndsLine (printed is_mapped lines)
printed-ends true lines = EndsLine-flat_map mapped_line mapped-ends lines
printed-ends false lines = EndsLine-flat_map (λ (w : Written). w.text ++ 10 ∷ []) (λ w. EndsLine-newline w.text) lines

-- ---- why there is no expansion

pub unread_set : (input : StreamChange) (why : ReadAllFault) → IsReadingText input (Err (read_answer why)) → IsUnread input (read_answer why)
unread_set input read.ReadFault h = h
unread_set input read.TooLarge h = h
unread_set input read.Memory h = h

pub refused_set : (input : StreamChange) (bytes : List ℕ) (why : SetFault) → HasRead most_workload_bytes input bytes → IsSetFault (set_verdict bytes) why
    → IsUnread input (fault_answer why)
refused_set input bytes (fault.At line cause) was first = record { bytes = bytes; read = was; refused = first }
refused_set input bytes fault.Memory was first = at_most_of most_workload_bytes input bytes was

pub expanded_exit : (input : StreamChange) (r : Result Expansion Answer) (a : Answer) → IsErrAnd r (λ y. y ≡ a) → IsUnread input a → IsExpanded input r
expanded_exit input r a exit why =
    let x = err_from_is_err_and r exit in
    subst (IsExpanded input) (sym (x.1 ∙ ap Err x.2)) why

-- ---- the answer of the call

pub caused_unread : (is_mapped : Bool) (input out : StreamChange) (a : Answer) → IsUnread input a → IsUntouched out → CausedBySet is_mapped input out a
caused_unread is_mapped input out Done why kept = absurd why
caused_unread is_mapped input out WriteFault why kept = absurd why
caused_unread is_mapped input out a why kept = (why, kept)

pub caused_unwritten : (is_mapped : Bool) (input out : StreamChange) (lines : List Written) (e : Unwritten) → IsSet input lines
    → Puts out.before out.after out.faults_before out.faults_after (printed is_mapped lines) (Err e) → (e ≡ unwritten.Memory → out.after ≡ out.before)
    → CausedBySet is_mapped input out (unwritten_answer e)
caused_unwritten is_mapped input out lines unwritten.Fault is p kept = record { lines = lines; set = is; written = p.part; fault = p.fault refl }
caused_unwritten is_mapped input out lines unwritten.Memory is p kept =
    (at_most_of most_workload_bytes input is.bytes is.read, record { bytes = kept refl; no_fault = p.no_fault (λ e. cc) })

pub set_exit : (is_mapped : Bool) (input out : StreamChange) (r : Result (Unit {0}) Answer) (a : Answer) → IsErrAnd r (λ y. y ≡ a) → CausedBySet is_mapped input out a
    → CausedBySet is_mapped input out (answer_of r)
set_exit is_mapped input out r a exit caused =
    let x = err_from_is_err_and r exit in
    subst (λ s. CausedBySet is_mapped input out (answer_of s)) (sym (x.1 ∙ ap Err x.2)) caused

pub leaves_unread : (input : StreamChange) (a : Answer) (held : List ℕ) → IsUnread input a → LeavesHeldBy a held held
leaves_unread input Done held why = absurd why
leaves_unread input Blocked held why = absurd why
leaves_unread input WriteFault held why = tt
leaves_unread input a held why = inl refl
