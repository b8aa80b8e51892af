-- What answers say of the bytes that the output holds back.
use Rattle.std.proofs.Common.{◌≡◌, ◌≢◌, ℕ, Bool, true, List, [], Result, Ok, Err, refl, sym, ap, subst, ◌∙◌, inl, inr, arith}
use Rattle.std.specs.Prelude.{◌⊎◌, ⊤}
use Rattle.std.specs.Result.{IsErrAnd, IsErrOf}
use Rattle.std.proofs.lemmas.Result.{err_from_is_err_and}
use Rattle.sd_answers.specs.declared.writing.Unwritten.{Unwritten}
use Rattle.sd_answers.specs.declared.writing.Unwritten.TheVariants.{Fault, Memory}
use Rattle.sd_answers.specs.declared.answers.Answer.{Answer}
use Rattle.sd_answers.specs.declared.answers.Answer.TheVariants.{Done, Usage, TooLarge, TooLargeToAudit, NoJournal, Refused, ReadFault, WriteFault, OutOfMemory, Blocked, NotAJournal, TooLong}
use Rattle.sd_answers.specs.Answers.{answer_of, status_of, stop_answer, unwritten_answer}
use Rattle.sd_answers.specs.Certificates.{IsJudged}
use Rattle.sd_answers.specs.Handing.{IsHandedOn, LeavesHeldBy, is_printed}
use Rattle.sd_answers.specs.Inputs.{IsNoCertificate, IsRefused}
use Rattle.sd_answers.specs.Languages.{Language}
use Rattle.sd_answers.specs.StreamChanges.{HandsOn, LeavesHeld, StreamChange}
use Rattle.sd_types.specs.declared.events.Stop.{Stop}
use Rattle.sd_types.specs.declared.events.Stop.TheVariants as stop
use Rattle.std.specs.Io.KnownBytes.{Keeps}
use Rattle.std.specs.Prelude.{Option}

-- a status by which nothing was printed says no more than that nothing more is held back
none_printed : (status : ℕ) (before after : List ℕ) → (is_printed status ≡ true → ⊥) → ((after ≡ before) ⊎ (after ≡ [])) → IsHandedOn status before after
none_printed status before after why left = record { printed = λ is. absurd (why is); others = λ other. left }

all_printed : (status : ℕ) (before after : List ℕ) → after ≡ [] → IsHandedOn status before after
all_printed status before after none = record { printed = λ is. none; others = λ other. inr none }

-- an answer and its status
pub handed_of : (a : Answer) (before after : List ℕ) → LeavesHeldBy a before after → IsHandedOn (status_of a) before after
handed_of Done before after left = all_printed 0 before after left
handed_of Blocked before after left = all_printed 6 before after left
handed_of WriteFault before after left = record { printed = λ is. cc; others = λ other. absurd (other refl) }
handed_of Usage before after left = none_printed 1 before after (λ is. cc) left
handed_of TooLarge before after left = none_printed 2 before after (λ is. cc) left
handed_of TooLargeToAudit before after left = none_printed 2 before after (λ is. cc) left
handed_of NoJournal before after left = none_printed 2 before after (λ is. cc) left
handed_of (Refused line cause) before after left = none_printed 2 before after (λ is. cc) left
handed_of ReadFault before after left = none_printed 3 before after (λ is. cc) left
handed_of OutOfMemory before after left = none_printed 5 before after (λ is. cc) left
handed_of (NotAJournal fault) before after left = none_printed 7 before after (λ is. cc) left
handed_of TooLong before after left = none_printed 8 before after (λ is. cc) left

-- nothing was written where the input was refused, or holds no journal of a run
pub leaves_refused : (L : Language) (input : StreamChange) (a : Answer) (held : List ℕ) → IsRefused L input a → LeavesHeldBy a held held
leaves_refused L input Done held why = absurd why
leaves_refused L input Blocked held why = absurd why
leaves_refused L input WriteFault held why = tt
leaves_refused L input a held why = inl refl

pub leaves_unjudged : {X : Type 0} (L : Language) (Made : X → Type 0) (input : StreamChange) (a : Answer) (held : List ℕ) → IsJudged L Made input (Err a) → LeavesHeldBy a held held
leaves_unjudged L Made input Done held why = absurd why
leaves_unjudged L Made input Blocked held why = absurd why
leaves_unjudged L Made input WriteFault held why = tt
leaves_unjudged L Made input a held why = inl refl

-- a run that was stopped wrote nothing
pub leaves_stopped : (reason : Stop) (held : List ℕ) → LeavesHeldBy (stop_answer reason) held held
leaves_stopped stop.Full held = inl refl
leaves_stopped stop.Memory held = inl refl

-- the answer of a call that printed
pub leaves_unwritten : (e : Unwritten) (before after : List ℕ) → LeavesHeld before after (Err e) → LeavesHeldBy (unwritten_answer e) before after
leaves_unwritten Fault before after left = tt
leaves_unwritten Memory before after left = left

-- what is handed on behind a call leaves nothing held back, but where a write failed
pub leaves_handed : (put r : Result (Unit {0}) Unwritten) (a b : Option (List ℕ)) (f g : ℕ) (before held : List ℕ) → HandsOn put a b f g held r → LeavesHeld before held r
leaves_handed put (Ok u) a b f g before held h = (h.no_fault (λ is. cc)).2
leaves_handed put (Err Fault) a b f g before held h = tt
leaves_handed put (Err Memory) a b f g before held h = inr (h.no_fault (λ is. cc)).2

-- what printed and took no memory before it wrote
pub leaves_printed : (r : Result (Unit {0}) Unwritten) (before held : List ℕ) → (IsErrOf r Memory → ⊥) → (r ≡ Ok tt → held ≡ []) → LeavesHeld before held r
leaves_printed (Ok u) before held none ok = ok refl
leaves_printed (Err Fault) before held none ok = tt
leaves_printed (Err Memory) before held none ok = absurd (none refl)

-- what the exit of a `?` returns
pub leaves_exit : (r : Result (Unit {0}) Answer) (a : Answer) (before after : List ℕ) → IsErrAnd r (λ y. y ≡ a) → LeavesHeldBy a before after → LeavesHeldBy (answer_of r) before after
leaves_exit r a before after exit left =
    let x = err_from_is_err_and r exit in
    subst (λ s. LeavesHeldBy (answer_of s) before after) (sym (x.1 ∙ ap Err x.2)) left
