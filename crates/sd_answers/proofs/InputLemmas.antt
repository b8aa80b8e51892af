-- What was read of an input.
use Rattle.std.proofs.Common.{◌≡◌, ◌≢◌, ℕ, ◌+◌, ◌≤◌, List, [], ◌∷◌, length, Option, Some, None, Result, Ok, Err, refl, sym, ap, subst, ◌∙◌, arith}
use Rattle.std.proofs.lemmas.List.{length-append, append-nil}
use Rattle.std.specs.Io.KnownBytes.{Consumes, IsAtEnd}
use Rattle.std.specs.Prelude.{IfErr}
use Rattle.std.specs.Result.{IsErrOf, IsErrAnd}
use Rattle.std.proofs.lemmas.Result.{err_from_is_err_and}
use Rattle.std.specs.declared.vec.Vec.{Vec}
use Rattle.std.specs.declared.alloc.Global.{Global}
use Rattle.sd_types.specs.declared.works.Work.{Work}
use Rattle.sd_declare.specs.declared.causes.WorkCause.{WorkCause}
use Rattle.sd_text.specs.Reading.{TakesUpTo}
use Rattle.sd_text.specs.declared.read.ReadAllFault.{ReadAllFault}
use Rattle.sd_text.specs.declared.read.ReadAllFault.TheVariants as read
use Rattle.sd_workload.specs.Accepted.{Accepted, FirstCause}
use Rattle.sd_workload.specs.LineStarts.{IsFault}
use Rattle.sd_workload.specs.Texts.{verdict_of}
use Rattle.sd_workload.proofs.OneLemmas.{one-work}
use Rattle.sd_workload.specs.declared.fault.WorkFault.{WorkFault}
use Rattle.sd_workload.specs.declared.fault.WorkFault.TheVariants as work
use Rattle.sd_answers.specs.declared.answers.Answer.{Answer}
use Rattle.sd_answers.specs.declared.answers.Answer.TheVariants.{TooLarge, ReadFault, OutOfMemory}
use Rattle.sd_answers.specs.Answers.{read_answer, work_answer}
use Rattle.sd_answers.specs.StreamChanges.{StreamChange, HasFault, HasNoFault}
use Rattle.sd_types.specs.Limits.{most_workload_bytes}
use Rattle.sd_answers.specs.Inputs.{HasAtMost, HasRead, IsReadingText, IsRefused, IsReading}
use Rattle.sd_answers.specs.Languages.{Language, IsSound, workloads}

-- what was taken is no more than there was
pub taken_within : (a b : Option (List ℕ)) (bs xs : List ℕ) → Consumes a b bs → a ≡ Some xs → length bs ≤ length xs
taken_within None b bs xs c e = cc
taken_within (Some ys) None bs xs c e = absurd c
taken_within (Some ys) (Some zs) bs xs c e =
    let same : ys ≡ xs = cc in
    omega (arith, ap length same, ap length c, length-append bs zs)

-- what was taken to the end is all that there was
pub taken_all : (a b : Option (List ℕ)) (bs xs : List ℕ) → Consumes a b bs → IsAtEnd b → a ≡ Some xs → bs ≡ xs
taken_all None b bs xs c end e = cc
taken_all (Some ys) None bs xs c end e = absurd c
taken_all (Some ys) (Some []) bs xs c end e =
    let same : ys ≡ xs = cc in
    sym (c ∙ append-nil bs) ∙ same
taken_all (Some ys) (Some (z ∷ zs)) bs xs c end e = cc

-- what was read to its end is no more than an input may have
pub at_most_of : (most : ℕ) (input : StreamChange) (bytes : List ℕ) → HasRead most input bytes → HasAtMost most input
at_most_of most input bytes read = record { bytes = bytes; took = read.took; to_end = read.to_end; bound = read.bound; no_fault = read.no_fault }

-- and what has no more is not too large
pub not_too_many : (most : ℕ) (input : StreamChange) (bytes : List ℕ) → HasAtMost most input → input.before ≡ Some bytes → length bytes ≤ most
not_too_many most input bytes few is =
    let bound = few.bound in
    omega (arith, ap length (taken_all input.before input.after few.bytes bytes few.took few.to_end is))

-- a text is not both accepted and refused
pub not_both : (bytes : List ℕ) (w : Work) (line : ℕ) (cause : WorkCause) → Accepted bytes w → FirstCause bytes line cause → ⊥
not_both bytes w line cause accepted first = cc (accepted.accepted)

pub workloads_sound : IsSound workloads
workloads_sound = record { one = one-work; not_both = not_both }

-- ---- why an input is no workload

-- its text was not read
pub unread_of : (input : StreamChange) (r : Result (Vec ℕ Global) ReadAllFault) → TakesUpTo most_workload_bytes input.before input.after r
    → (IsErrOf r read.ReadFault → HasFault input) → (¬ IsErrOf r read.ReadFault → HasNoFault input) → (IsErrOf r read.Memory → IsAtEnd input.after)
    → IfErr r (λ fault. IsReadingText input (Err (read_answer fault)))
unread_of input (Ok v) taken fault none end = tt
unread_of input (Err read.ReadFault) taken fault none end = fault refl
unread_of input (Err read.TooLarge) taken fault none end = record {
  bytes = taken.bytes;
  took = taken.consumed;
  many = taken.too_large.0 refl;
  no_fault = none (λ e. cc);
}
unread_of input (Err read.Memory) taken fault none end =
    let few : length taken.bytes ≢ most_workload_bytes + 1 = λ many. absurd (let e = taken.too_large.1 many in cc) in
    record {
      bytes = taken.bytes;
      took = taken.consumed;
      to_end = end refl;
      bound = omega (arith, taken.bound);
      no_fault = none (λ e. cc);
    }

-- it was read, and spells no workload
pub unspelled_of : (input : StreamChange) (bytes : List ℕ) (r : Result Work WorkFault) → HasRead most_workload_bytes input bytes
    → IfErr r (IsFault (verdict_of bytes)) → IfErr r (λ fault. IsRefused workloads input (work_answer fault))
unspelled_of input bytes (Ok w) read first = tt
unspelled_of input bytes (Err (work.At line cause)) read first = record { bytes = bytes; read = read; first = first }
unspelled_of input bytes (Err (work.Memory line)) read first = at_most_of most_workload_bytes input bytes read

-- so it spells nothing
pub textless_of : (L : Language) (input : StreamChange) (a : Answer) → IsReadingText input (Err a) → IsRefused L input a
textless_of L input TooLarge why = why
textless_of L input ReadFault why = why
textless_of L input OutOfMemory why = why
textless_of L input a why = absurd why

-- what the exit of a `?` returns
pub text_exit : (input : StreamChange) (r : Result (Vec ℕ Global) Answer) (a : Answer) → IsErrAnd r (λ y. y ≡ a) → IsReadingText input (Err a) → IsReadingText input r
text_exit input r a exit why =
    let x = err_from_is_err_and r exit in
    subst (IsReadingText input) (sym (x.1 ∙ ap Err x.2)) why

pub reading_exit : (L : Language) (input : StreamChange) (r : Result Work Answer) (a : Answer) → IsErrAnd r (λ y. y ≡ a) → IsRefused L input a → IsReading L input r
reading_exit L input r a exit refused =
    let x = err_from_is_err_and r exit in
    subst (IsReading L input) (sym (x.1 ∙ ap Err x.2)) refused
