-- How a call of `dispfind` ends has its cause: what is so of its streams for each answer, and the other sides of this.
use Rattle.std.proofs.Common.{◌≡◌, ℕ, ◌<◌, ◌≤◌, List, [], Result, Ok, Err, Some, refl, sym, ap, subst, ◌∙◌, inl, inr, arith}
use Rattle.std.specs.Prelude.{◌⊎◌}
use Rattle.std.specs.Result.{IsErrAnd}
use Rattle.std.proofs.lemmas.Result.{err_from_is_err_and}
use Rattle.sd_types.specs.declared.works.Work.{Work}
use Rattle.sd_answers.specs.declared.answers.Answer.{Answer}
use Rattle.sd_answers.specs.declared.answers.Answer.TheVariants as answer
use Rattle.sd_answers.specs.declared.answers.Answer.TheVariants.{Usage, TooLarge, TooLargeToAudit, NoJournal, Refused, ReadFault, WriteFault, OutOfMemory, Blocked, NotAJournal, TooLong}
use Rattle.sd_answers.specs.declared.writing.Unwritten.{Unwritten}
use Rattle.sd_answers.specs.declared.writing.Unwritten.TheVariants as unwritten
use Rattle.sd_answers.specs.Answers.{status_of, unwritten_answer}
use Rattle.sd_types.specs.Limits.{most_workload_bytes}
use Rattle.sd_answers.specs.Inputs.{IsRefused, IsWorkload}
use Rattle.sd_answers.specs.StreamChanges.{StreamChange, IsUntouched, Puts}
use Rattle.sd_answers.proofs.InputLemmas.{at_most_of, not_too_many as within_most, taken_all}
use Rattle.sd_program.specs.Headline.{Refuses}
use Rattle.sd_set_inputs.specs.Sets.{SpellsSet, sets}
use Rattle.sd_set_inputs.proofs.SetLemmas.{sets_sound}
use Rattle.sd_search_answers.specs.declared.forms.Aim.{Aim}
use Rattle.sd_search_answers.specs.declared.verdicts.Told.{Told}
use Rattle.sd_search_answers.specs.declared.verdicts.Verdict.{Verdict}
use Rattle.sd_search_answers.specs.declared.verdicts.Verdict.TheVariants.{Done, Found, Never, More, NoThread}
use Rattle.sd_find.specs.Promises.{CompletesSearch}
use Rattle.sd_find.specs.Seeking.{CausedBySearch, IsToldOf, Says, SaysNothing, ended_status, verdict_status}
use Rattle.sd_program.proofs.TopLemmas.{not_too_many, not_refused, no_workload}

-- ---- an input that is too large, or no workload, is no accepted one

-- the workload that was read is the one that the bytes spell
pub read_work : (input : StreamChange) (bytes : List ℕ) (work w : Work) → IsWorkload sets input work → input.before ≡ Some bytes → SpellsSet bytes w → work ≡ w
read_work input bytes work w found is accepted =
    sets_sound.one bytes work w (subst (λ bs. SpellsSet bs work) (taken_all input.before input.after found.bytes bytes found.read.took found.read.to_end is) found.accepted) accepted

-- ---- the search of an input

module _ (aim : Aim) (most : ℕ) (input out : StreamChange) where
  -- the input is no workload
  pub unread : (a : Answer) → IsRefused sets input a → IsUntouched out → SaysNothing aim most input out a
  unread TooLarge is kept = (is, kept)
  unread (Refused line cause) is kept = (is, kept)
  unread ReadFault is kept = (is, kept)
  unread OutOfMemory is kept = (is, kept)
  unread a is kept = absurd is

  -- what is said was not written whole
  pub unwritten_told : (told : Told) (e : Unwritten) → IsToldOf aim most input told → (told.text.items ≡ [] → ⊥) → Puts out.before out.after out.faults_before out.faults_after told.text.items (Err e)
      → (e ≡ unwritten.Memory → ⊥) → SaysNothing aim most input out (unwritten_answer e)
  unwritten_told told unwritten.Fault of some p none = (told, of, some, p.fault refl, p.part)
  unwritten_told told unwritten.Memory of some p none = absurd (none refl)

  -- memory ran out in the search
  pub unsearched : (w : Work) → IsWorkload sets input w → IsUntouched out → SaysNothing aim most input out OutOfMemory
  unsearched w is kept = (at_most_of most_workload_bytes input is.bytes is.read, kept)

  -- what the exit of a `?` returns
  pub seek_exit : (r : Result Verdict Answer) (a : Answer) → IsErrAnd r (λ y. y ≡ a) → SaysNothing aim most input out a → CausedBySearch aim most input out r
  seek_exit r a exit nothing =
      let x = err_from_is_err_and r exit in
      subst (CausedBySearch aim most input out) (sym (x.1 ∙ ap Err x.2)) nothing

  -- ---- the exit statuses

  -- from 2 to 5, where nothing was said
  pub failed : (a : Answer) → SaysNothing aim most input out a → (2 ≤ status_of a) × (status_of a ≤ 5)
  failed TooLarge c = (omega arith, omega arith)
  failed (Refused line cause) c = (omega arith, omega arith)
  failed ReadFault c = (omega arith, omega arith)
  failed WriteFault c = (omega arith, omega arith)
  failed OutOfMemory c = (omega arith, omega arith)
  failed a c = absurd c

  pub done_of : (ended : Result Verdict Answer) → CausedBySearch aim most input out ended → ended_status ended ≡ 0 → Says aim most input out Done
  done_of (Ok Done) c is = c
  done_of (Ok Found) c is = absurd (omega arith)
  done_of (Ok Never) c is = absurd (omega arith)
  done_of (Ok More) c is = absurd (omega arith)
  done_of (Ok NoThread) c is = absurd (omega arith)
  done_of (Err a) c is = let f = failed a c in absurd (omega (arith, f.0, f.1, is))

  pub found_of : (ended : Result Verdict Answer) → CausedBySearch aim most input out ended → ended_status ended ≡ 9 → Says aim most input out Found
  found_of (Ok Done) c is = absurd (omega arith)
  found_of (Ok Found) c is = c
  found_of (Ok Never) c is = absurd (omega arith)
  found_of (Ok More) c is = absurd (omega arith)
  found_of (Ok NoThread) c is = absurd (omega arith)
  found_of (Err a) c is = let f = failed a c in absurd (omega (arith, f.0, f.1, is))

  pub never_of : (ended : Result Verdict Answer) → CausedBySearch aim most input out ended → ended_status ended ≡ 10 → Says aim most input out Never
  never_of (Ok Done) c is = absurd (omega arith)
  never_of (Ok Found) c is = absurd (omega arith)
  never_of (Ok Never) c is = c
  never_of (Ok More) c is = absurd (omega arith)
  never_of (Ok NoThread) c is = absurd (omega arith)
  never_of (Err a) c is = let f = failed a c in absurd (omega (arith, f.0, f.1, is))

  pub more_of : (ended : Result Verdict Answer) → CausedBySearch aim most input out ended → ended_status ended ≡ 11 → Says aim most input out More
  more_of (Ok Done) c is = absurd (omega arith)
  more_of (Ok Found) c is = absurd (omega arith)
  more_of (Ok Never) c is = absurd (omega arith)
  more_of (Ok More) c is = c
  more_of (Ok NoThread) c is = absurd (omega arith)
  more_of (Err a) c is = let f = failed a c in absurd (omega (arith, f.0, f.1, is))

  -- ---- the other sides

  pub completes : (Said : Work → ℕ → Type 0) → ((v : Verdict) → (c : Says aim most input out v) → Said c.of.work (verdict_status v)) → (ended : Result Verdict Answer)
      → CausedBySearch aim most input out ended → CompletesSearch Said input out (ended_status ended)
  completes Said said (Ok v) c = λ sound told bytes w is short accepted. inl (subst (λ x. Said x (verdict_status v)) (read_work input bytes c.of.work w c.of.workload is accepted) (said v c))
  completes Said said (Err answer.Done) c = absurd c
  completes Said said (Err Usage) c = absurd c
  completes Said said (Err TooLarge) c = λ sound told bytes w is short accepted. absurd (not_too_many input bytes c.0 is short)
  completes Said said (Err TooLargeToAudit) c = absurd c
  completes Said said (Err NoJournal) c = absurd c
  completes Said said (Err (Refused line cause)) c = λ sound told bytes w is short accepted. absurd (not_refused sets sets_sound input bytes w line cause c.0 is accepted)
  completes Said said (Err ReadFault) c = λ sound told bytes w is short accepted. absurd (sound c.0)
  completes Said said (Err WriteFault) c = λ sound told bytes w is short accepted. absurd (told c.3)
  completes Said said (Err OutOfMemory) c = λ sound told bytes w is short accepted. inr refl
  completes Said said (Err Blocked) c = absurd c
  completes Said said (Err (NotAJournal fault)) c = absurd c
  completes Said said (Err TooLong) c = absurd c

  pub refuses : (ended : Result Verdict Answer) → CausedBySearch aim most input out ended → Refuses sets input (ended_status ended)
  refuses (Ok v) c = λ sound bytes is. (
    λ many. absurd (no_workload sets input bytes is (inl many) c.of.work c.of.workload),
    λ none. absurd (no_workload sets input bytes is (inr none) c.of.work c.of.workload),
  )
  refuses (Err answer.Done) c = absurd c
  refuses (Err Usage) c = absurd c
  refuses (Err TooLarge) c = λ sound bytes is. (λ many. refl, λ none. inl refl)
  refuses (Err TooLargeToAudit) c = absurd c
  refuses (Err NoJournal) c = absurd c
  refuses (Err (Refused line cause)) c = λ sound bytes is. (λ many. refl, λ none. inl refl)
  refuses (Err ReadFault) c = λ sound bytes is. (λ many. absurd (sound c.0), λ none. absurd (sound c.0))
  refuses (Err WriteFault) c = λ sound bytes is. (λ many. absurd (no_workload sets input bytes is (inl many) c.1.work c.1.workload), λ none. absurd (no_workload sets input bytes is (inr none) c.1.work c.1.workload))
  refuses (Err OutOfMemory) c = λ sound bytes is. (λ many. absurd (let few = within_most most_workload_bytes input bytes c.0 is in omega arith), λ none. inr refl)
  refuses (Err Blocked) c = absurd c
  refuses (Err (NotAJournal fault)) c = absurd c
  refuses (Err TooLong) c = absurd c
