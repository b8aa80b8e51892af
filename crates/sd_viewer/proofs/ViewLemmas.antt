-- The answers of `dispview` have their causes, and what is promised of a call follows from them.
use Rattle.std.proofs.Common.{◌≡◌, ℕ, List, length, Result, Ok, Err, Option, Some, None, refl, sym, ap, subst, ◌∙◌, inl, inr, arith}
use Rattle.std.specs.Prelude.{◌↔◌, IfOk}
use Rattle.std.specs.Result.{IsErrAnd}
use Rattle.std.specs.declared.vec.Vec.{Vec}
use Rattle.std.specs.declared.alloc.Global.{Global}
use Rattle.std.proofs.lemmas.Result.{err_from_is_err_and}
use Rattle.sd_text.specs.Lines.{EndsLine}
use Rattle.sd_state.specs.Opening.{opening}
use Rattle.sd_machine.specs.Runs.{final}
use Rattle.sd_answers.specs.declared.answers.Answer.{Answer}
use Rattle.sd_answers.specs.declared.answers.Answer.TheVariants.{Done, Usage, WriteFault, Blocked, TooLong}
use Rattle.sd_answers.specs.declared.writing.Unwritten.{Unwritten}
use Rattle.sd_answers.specs.declared.writing.Unwritten.TheVariants as unwritten
use Rattle.sd_answers.specs.Answers.{status_of, unwritten_answer}
use Rattle.sd_answers.specs.Handing.{LeavesHeldBy}
use Rattle.sd_answers.proofs.HandingLemmas.{leaves_unjudged}
use Rattle.sd_answers.specs.Certificates.{HoldsJournal, CausedByCertificate, CompletesCertificate, RefusesCertificate, RefusesFaulty, RefusesJournal}
use Rattle.sd_answers.specs.Starts.{WritesHelp}
use Rattle.sd_answers.specs.StreamChanges.{StreamChange, IsUntouched, Puts, TellsLine}
use Rattle.sd_answers.proofs.CertificateLemmas.{completes_of, faulty_of, not_usage, refuses_certificate_of, refuses_faulty_of}
use Rattle.sd_set_inputs.specs.Sets.{sets}
use Rattle.sd_set_inputs.proofs.SetLemmas.{certificate_of, sets_sound}
use Rattle.sd_viewer.specs.declared.drawings.Drawing.{Drawing}
use Rattle.sd_viewer.specs.declared.forms.Request.{Request}
use Rattle.sd_viewer.specs.declared.forms.Request.TheVariants.{Help, Draw}
use Rattle.sd_viewer.specs.Forms.{request_of}
use Rattle.sd_viewer.proofs.ClosingLemmas.{left-ends}
use Rattle.sd_viewer.specs.declared.viewing.Drawn.{Drawn}
use Rattle.sd_viewer.specs.Drawings.{left_line}
use Rattle.sd_viewer.specs.Promises.{ShowsAsPromised}
use Rattle.sd_viewer.specs.Viewing.{IsDrawnInput, IsDrawing, Draws, CausedByView, CausedByViewHelp, CausedByViewRequest, answer_line, viewed_answer, viewed_line, help_text}

-- ---- the answer to a drawing

-- where nothing is drawn, nothing is written
pub undrawn : (d : Drawing) (input out : StreamChange) (a : Answer) → IsDrawing d input (Err a) → IsUntouched out → CausedByView d input out a (answer_line a)
undrawn d input out Done n kept = absurd n
undrawn d input out Usage n kept = absurd n
undrawn d input out WriteFault n kept = absurd n
undrawn d input out Blocked n kept = absurd n
undrawn d input out TooLong n kept = absurd n
undrawn d input out a n kept = ((n, kept), refl)

-- the drawing was not written whole
pub unwritten_view : (d : Drawing) (input out : StreamChange) (text : List ℕ) (e : Unwritten) → IsDrawnInput d input text → Puts out.before out.after out.faults_before out.faults_after text (Err e)
    → (e ≡ unwritten.Memory → ⊥) → CausedByView d input out (unwritten_answer e) (answer_line (unwritten_answer e))
unwritten_view d input out text unwritten.Fault drawn p none = ((text, drawn, p.fault refl, p.part), refl)
unwritten_view d input out text unwritten.Memory drawn p none = absurd (none refl)

-- what the exit of a `?` returns
pub view_exit : (d : Drawing) (input out : StreamChange) (r : Result (Vec ℕ Global) Answer) (a : Answer) → IsErrAnd r (λ y. y ≡ a) → CausedByView d input out a (answer_line a)
    → CausedByView d input out (viewed_answer r) (viewed_line r)
view_exit d input out r a exit caused =
    let x = err_from_is_err_and r exit in
    subst (λ y. CausedByView d input out (viewed_answer y) (viewed_line y)) (sym (x.1 ∙ ap Err x.2)) caused

-- ---- what is said of a drawing, and of the forms, are whole lines

pub said-ends : (d : Drawing) (input out : StreamChange) (r : Result (Vec ℕ Global) Answer) → CausedByView d input out (viewed_answer r) (viewed_line r)
    → IfOk r (λ lines. EndsLine lines.items)
said-ends d input out (Ok lines) c = subst EndsLine (sym c.4) (left-ends d c.1.work)
said-ends d input out (Err a) c = tt

pub helped-ends : (r : Result (Vec ℕ Global) Answer) → viewed_line r ≡ answer_line (viewed_answer r) → IfOk r (λ lines. EndsLine lines.items)
helped-ends (Ok lines) e = subst EndsLine (sym e) refl
helped-ends (Err a) e = tt

-- ---- what is promised

module _ (d : Drawing) (input out : StreamChange) (line : List ℕ) where
  -- the cause without the line
  cause_of : (a : Answer) → CausedByView d input out a line → CausedByCertificate sets (IsDrawnInput d input) (λ text. text) input out a
  cause_of Done c = (c.0, c.1, c.2, c.3)
  cause_of a c = c.0

  draws_of : (a : Answer) → CausedByView d input out a line → status_of a ≡ 0 → Draws d input out line
  draws_of Done c s = c
  draws_of a c s = absurd (omega arith)

  -- what is drawn is the run whose journal the input holds
  held : (text : List ℕ) → IsDrawnInput d input text → HoldsJournal sets input
  held text is =
      let j = is.drawn.journal_of in
      let es = is.drawn.entries in
      record {
        work = is.work;
        text = is.journal;
        certificate = certificate_of input is.work is.tasks is.journal is.certificate;
        journal = (
          final is.work (opening is.work) es,
          length es,
          record { entries = es; run = j.run; spelled = j.spelled; complete = is.drawn.complete; whole = j.whole; many = refl; ends = refl },
        );
      }

  completes_view : (a : Answer) → CausedByView d input out a line → CompletesCertificate sets input out (status_of a)
  completes_view a c = completes_of sets sets_sound (IsDrawnInput d input) (λ text. text) input out a (cause_of a c)

  refuses_view : (a : Answer) → CausedByView d input out a line → RefusesCertificate sets input (status_of a)
  refuses_view a c = refuses_certificate_of sets sets_sound (IsDrawnInput d input) (λ text. text) input out held a (cause_of a c)

  refuses_faulty_view : (a : Answer) → CausedByView d input out a line → RefusesFaulty sets input (status_of a)
  refuses_faulty_view a c = refuses_faulty_of sets sets_sound (IsDrawnInput d input) (λ text. text) input out held a (cause_of a c)

-- ---- the forms

helps_of : (input out : StreamChange) (a : Answer) → CausedByViewHelp out a → IsUntouched input → WritesHelp help_text input out (status_of a)
helps_of input out Done c kept = (kept, inl (refl, c.0))
helps_of input out WriteFault c kept = (kept, inr (refl, c.1))
helps_of input out a c kept = absurd c

-- the status is 0 or 4
no_help : {P : Type 0} (input out : StreamChange) (status n : ℕ) → WritesHelp help_text input out status → status ≡ n → (n ≡ 0 → ⊥) → (n ≡ 4 → ⊥) → P
no_help input out status n h is zero four = elim h.1 [
  | inl (s, a) ↦ absurd (zero (sym is ∙ s))
  | inr (s, a) ↦ absurd (four (sym is ∙ s))
]

faults_of : (k : Option Request) (input out : StreamChange) (a : Answer) (line : List ℕ) → CausedByViewRequest k input out a line → status_of a ≡ 7 → RefusesJournal sets input out
faults_of None input out a line c s = absurd (omega (arith, ap status_of c.0))
faults_of (Some Help) input out a line c s = no_help input out (status_of a) 7 (helps_of input out a c.0 c.2) s (λ e. omega arith) (λ e. omega arith)
faults_of (Some (Draw d)) input out a line c s = faulty_of sets sets_sound (IsDrawnInput d input) (λ text. text) input out a (cause_of d input out line a c) s

usage_of : (k : Option Request) (input out : StreamChange) (a : Answer) (line : List ℕ) → CausedByViewRequest k input out a line → (status_of a ≡ 1) ↔ (k ≡ None)
usage_of None input out a line c = (λ one. refl, λ none. ap status_of c.0)
usage_of (Some Help) input out a line c =
    (λ one. no_help input out (status_of a) 1 (helps_of input out a c.0 c.2) one (λ e. omega arith) (λ e. omega arith), λ none. cc)
usage_of (Some (Draw d)) input out a line c = (λ one. absurd (not_usage sets sets_sound (IsDrawnInput d input) (λ text. text) input out a (cause_of d input out line a c) one), λ none. cc)

pub promises_of : (arguments : List (List ℕ)) (input out err : StreamChange) (a : Answer) (line : List ℕ) (status : ℕ) → status ≡ status_of a
    → CausedByViewRequest (request_of arguments) input out a line → TellsLine err line → ShowsAsPromised arguments input out err status
promises_of arguments input out err a line status is caused told =
    let asked = λ (d : Drawing) (known : request_of arguments ≡ Some (Draw d)). subst (λ k. CausedByViewRequest k input out a line) known caused in
    let helped = λ (known : request_of arguments ≡ Some Help). subst (λ k. CausedByViewRequest k input out a line) known caused in
    record {
      answered = record { answer = a; line = line; exit = is; caused = caused; told = told };
      draws = λ d known zero. (line, draws_of d input out line a (asked d known) (sym is ∙ zero), told);
      faults = λ seven. faults_of (request_of arguments) input out a line caused (sym is ∙ seven);
      completes = λ d known. subst (CompletesCertificate sets input out) (sym is) (completes_view d input out line a (asked d known));
      refuses = λ d known. subst (RefusesCertificate sets input) (sym is) (refuses_view d input out line a (asked d known));
      refuses_faulty = λ d known. subst (RefusesFaulty sets input) (sym is) (refuses_faulty_view d input out line a (asked d known));
      helps = λ known. subst (WritesHelp help_text input out) (sym is) (helps_of input out a (helped known).0 (helped known).2);
      usage = subst (λ s. (s ≡ 1) ↔ (request_of arguments ≡ None)) (sym is) (usage_of (request_of arguments) input out a line caused);
    }

-- ---- what is held back

-- what the exit of a `?` returns
pub leaves_exit : (r : Result (Vec ℕ Global) Answer) (a : Answer) (before after : List ℕ) → IsErrAnd r (λ y. y ≡ a) → LeavesHeldBy a before after → LeavesHeldBy (viewed_answer r) before after
leaves_exit r a before after exit left =
    let x = err_from_is_err_and r exit in
    subst (λ y. LeavesHeldBy (viewed_answer y) before after) (sym (x.1 ∙ ap Err x.2)) left

-- nothing was written where nothing was drawn
pub leaves_undrawn : (d : Drawing) (input : StreamChange) (a : Answer) (held : List ℕ) → IsDrawing d input (Err a) → LeavesHeldBy a held held
leaves_undrawn d input a held why = leaves_unjudged sets (λ (x : Drawn). (of : IsDrawnInput d input x.text.items) × (x.line.items ≡ left_line d of.work)) input a held why
