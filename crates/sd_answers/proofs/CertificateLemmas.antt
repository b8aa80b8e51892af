-- What the answers to a certificate give.
use Rattle.std.proofs.Common.{◌≡◌, ℕ, ◌≤◌, List, length, Some, Result, Err, refl, sym, ap, subst, ◌∙◌, inl, inr, arith}
use Rattle.std.specs.Result.{IsErrAnd}
use Rattle.std.proofs.lemmas.Result.{err_from_is_err_and}
use Rattle.sd_types.specs.declared.works.Work.{Work}
use Rattle.sd_declare.specs.declared.causes.WorkCause.{WorkCause}
use Rattle.sd_answers.specs.Cuts.{HasNoJournal, IsCut}
use Rattle.sd_answers.proofs.CutLemmas.{before_same, after_same, none_cut}
use Rattle.sd_audit.specs.declared.audits.AuditFault.{AuditFault}
use Rattle.sd_audit.specs.declared.audits.AuditFault.TheVariants as audit
use Rattle.sd_audit.specs.Audits.{IsFault, IsMemory}
use Rattle.sd_audit.proofs.ExactLemmas.{no_fault}
use Rattle.sd_answers.specs.declared.answers.JournalFault.{JournalFault}
use Rattle.sd_answers.specs.declared.answers.JournalFault.TheVariants as journal
use Rattle.sd_answers.specs.declared.answers.Answer.{Answer}
use Rattle.sd_answers.specs.declared.answers.Answer.TheVariants.{Done, Usage, TooLarge, TooLargeToAudit, NoJournal, Refused, ReadFault, WriteFault, OutOfMemory, Blocked, NotAJournal, TooLong}
use Rattle.sd_answers.specs.Answers.{status_of, audit_answer, audit_fault}
use Rattle.sd_types.specs.Limits.{most_certificate_bytes}
use Rattle.sd_answers.specs.Languages.{Language, IsSound}
use Rattle.sd_answers.specs.Inputs.{HasRead, HasParts, IsCertificate, IsNoCertificate}
use Rattle.sd_answers.specs.StreamChanges.{StreamChange}
use Rattle.sd_answers.specs.Certificates.{IsLegalJournal, HoldsJournal, IsFaulty, RefusesJournal, IsJudged, Writes, CausedByCertificate, Certifies, CompletesCertificate, RefusesFaulty, IsNone, RefusesCertificate}
use Rattle.sd_answers.proofs.InputLemmas.{taken_within, taken_all, at_most_of, not_too_many}

-- ---- what is certified of the bytes of an input, and what was read of it

too_many_bytes : (L : Language) (input : StreamChange) (bytes : List ℕ) → IsNoCertificate L input TooLargeToAudit → input.before ≡ Some bytes → length bytes ≤ most_certificate_bytes → ⊥
too_many_bytes L input bytes many is short =
    let within = taken_within input.before input.after many.bytes bytes many.took is in
    let count = many.many in
    absurd (omega arith)

all_read : (input : StreamChange) (read bytes : List ℕ) → HasRead most_certificate_bytes input read → input.before ≡ Some bytes → read ≡ bytes
all_read input read bytes r is = taken_all input.before input.after read bytes r.took r.to_end is

-- the parts that were found are those of the bytes
parts_cut : (input : StreamChange) (bytes before text : List ℕ) → HasParts input before text → input.before ≡ Some bytes → IsCut bytes before text
parts_cut input bytes before text p is = subst (λ bs. IsCut bs before text) (all_read input p.bytes bytes p.read is) p.cut

no_journal : (L : Language) (input : StreamChange) (bytes before text : List ℕ) → IsNoCertificate L input NoJournal → input.before ≡ Some bytes → IsCut bytes before text → ⊥
no_journal L input bytes before text lacks is cut = none_cut bytes before text (subst HasNoJournal (all_read input lacks.bytes bytes lacks.read is) lacks.none) cut

module _ (L : Language) (lawful : IsSound L) (input : StreamChange) (bytes text : List ℕ) (P : Work → Type 0) (is : input.before ≡ Some bytes) (c : Certifies L bytes text P) where
  same_before : (before rest : List ℕ) → HasParts input before rest → before ≡ c.before
  same_before before rest p = before_same bytes before rest c.before text (parts_cut input bytes before rest p is) c.cut

  same_text : (before rest : List ℕ) → HasParts input before rest → rest ≡ text
  same_text before rest p = after_same bytes before rest c.before text (parts_cut input bytes before rest p is) c.cut

  not_large : IsNoCertificate L input TooLarge → ⊥
  not_large large = let bound = c.bound in let many = large.many in absurd (omega (arith, ap length (same_before large.before large.text large.parts)))

  not_fault : (line : ℕ) (cause : WorkCause) → IsNoCertificate L input (Refused line cause) → ⊥
  not_fault line cause none = lawful.not_both c.before c.work line cause c.accepted (subst (λ bs. L.RefusesAt bs line cause) (same_before none.before none.text none.parts) none.first)

  -- the property of the workload that was found
  its_property : (w : Work) (rest : List ℕ) → IsCertificate L input w rest → P w
  its_property w rest found =
      let accepted : L.Spells c.before w = subst (λ bs. L.Spells bs w) (same_before found.before rest found.parts) found.accepted in
      subst P (lawful.one c.before c.work w c.accepted accepted) c.holds

  its_text : (w : Work) (rest : List ℕ) → IsCertificate L input w rest → rest ≡ text
  its_text w rest found = same_text found.before rest found.parts

-- a journal of a run has no fault
not_memory : (fault : JournalFault) → IsMemory (audit_fault fault) → ⊥
not_memory (journal.NotAnEntry line) e = e
not_memory (journal.Illegal number) e = e
not_memory (journal.Incomplete cpu) e = e
not_memory (journal.Tail line) e = e

-- a text has no fault that is the journal of a run of the workload
sound_text : (L : Language) → IsSound L → (input : StreamChange) (bytes text : List ℕ) (fault : JournalFault) → input.before ≡ Some bytes → Certifies L bytes text (IsLegalJournal text) → IsFaulty L input fault → ⊥
sound_text L lawful input bytes text fault is cert f =
    let j = its_property L lawful input bytes text (IsLegalJournal text) is cert f.work f.text f.certificate in
    not_memory fault
    (no_fault f.work text j.0 j.1 (audit_fault fault) j.2
    (subst (λ t. IsFault f.work t (audit_fault fault)) (its_text L lawful input bytes text (IsLegalJournal text) is cert f.work f.text f.certificate) f.is))

-- nor is one judged to be a journal that is none
faulty_text : (L : Language) → IsSound L → (input : StreamChange) (bytes text : List ℕ) → input.before ≡ Some bytes → Certifies L bytes text (λ w. IsLegalJournal text w → ⊥) → HoldsJournal L input → ⊥
faulty_text L lawful input bytes text is cert h =
    its_property L lawful input bytes text (λ w. IsLegalJournal text w → ⊥) is cert h.work h.text h.certificate
    (subst (λ t. IsLegalJournal t h.work) (its_text L lawful input bytes text (λ w. IsLegalJournal text w → ⊥) is cert h.work h.text h.certificate) h.journal)

no_certificate : (L : Language) (input : StreamChange) (bytes : List ℕ) → input.before ≡ Some bytes → IsNone L bytes → (w : Work) (text : List ℕ) → IsCertificate L input w text → ⊥
no_certificate L input bytes is (inl many) w text found =
    let p = found.parts in
    let bound = p.read.bound in
    absurd (omega (arith, ap length (all_read input p.bytes bytes p.read is)))
no_certificate L input bytes is (inr (inl none)) w text found = none_cut bytes found.before text none (parts_cut input bytes found.before text found.parts is)
no_certificate L input bytes is (inr (inr (before, rest, cut, inl many))) w text found =
    let bound = found.bound in
    absurd (omega (arith, ap length (before_same bytes found.before text before rest (parts_cut input bytes found.before text found.parts is) cut)))
no_certificate L input bytes is (inr (inr (before, rest, cut, inr none))) w text found =
    none w (subst (λ bs. L.Spells bs w) (before_same bytes found.before text before rest (parts_cut input bytes found.before text found.parts is) cut) found.accepted)

module _ {X : Type 0} (L : Language) (lawful : IsSound L) (Made : X → Type 0) (written : X → List ℕ) (input out : StreamChange) where
  -- ---- the statuses 0 and 7

  pub writes_of : (a : Answer) → CausedByCertificate L Made written input out a → status_of a ≡ 0 → Writes Made written out
  writes_of Done c s = c
  writes_of Usage c s = absurd c
  writes_of Blocked c s = absurd c
  writes_of TooLong c s = absurd c
  writes_of a c s = absurd (omega arith)

  pub faulty_of : (a : Answer) → CausedByCertificate L Made written input out a → status_of a ≡ 7 → RefusesJournal L input out
  faulty_of (NotAJournal fault) c s = (fault, c.0, c.1)
  faulty_of Usage c s = absurd c
  faulty_of Blocked c s = absurd c
  faulty_of TooLong c s = absurd c
  faulty_of a c s = absurd (omega arith)

  -- no arguments are refused where a certificate is judged
  pub not_usage : (a : Answer) → CausedByCertificate L Made written input out a → status_of a ≡ 1 → ⊥
  not_usage Usage c s = c
  not_usage Blocked c s = c
  not_usage TooLong c s = c
  not_usage a c s = absurd (omega arith)

  -- ---- the other sides

  pub completes_of : (a : Answer) → CausedByCertificate L Made written input out a → CompletesCertificate L input out (status_of a)
  completes_of Done c = λ sound told bytes text is cert. inl refl
  completes_of TooLarge c = λ sound told bytes text is cert. absurd (not_large L lawful input bytes text (IsLegalJournal text) is cert c.0)
  completes_of TooLargeToAudit c = λ sound told bytes text is cert. absurd (too_many_bytes L input bytes c.0 is cert.many)
  completes_of NoJournal c = λ sound told bytes text is cert. absurd (no_journal L input bytes cert.before text c.0 is cert.cut)
  completes_of (Refused line cause) c = λ sound told bytes text is cert. absurd (not_fault L lawful input bytes text (IsLegalJournal text) is cert line cause c.0)
  completes_of ReadFault c = λ sound told bytes text is cert. absurd (sound c.0)
  completes_of Usage c = absurd c
  completes_of Blocked c = absurd c
  completes_of TooLong c = absurd c
  completes_of OutOfMemory c = λ sound told bytes text is cert. inr refl
  completes_of WriteFault c = λ sound told bytes text is cert. absurd (told c.2)
  completes_of (NotAJournal fault) c = λ sound told bytes text is cert. absurd (sound_text L lawful input bytes text fault is cert c.0)

  -- what is made is made of a run whose journal the input holds
  module _ (held : (made : X) → Made made → HoldsJournal L input) where
    pub refuses_faulty_of : (a : Answer) → CausedByCertificate L Made written input out a → RefusesFaulty L input (status_of a)
    refuses_faulty_of Done c = λ sound bytes text is cert. absurd (faulty_text L lawful input bytes text is cert (held c.0 c.1))
    refuses_faulty_of TooLarge c = λ sound bytes text is cert. absurd (not_large L lawful input bytes text (λ w. IsLegalJournal text w → ⊥) is cert c.0)
    refuses_faulty_of TooLargeToAudit c = λ sound bytes text is cert. absurd (too_many_bytes L input bytes c.0 is cert.many)
    refuses_faulty_of NoJournal c = λ sound bytes text is cert. absurd (no_journal L input bytes cert.before text c.0 is cert.cut)
    refuses_faulty_of (Refused line cause) c = λ sound bytes text is cert. absurd (not_fault L lawful input bytes text (λ w. IsLegalJournal text w → ⊥) is cert line cause c.0)
    refuses_faulty_of ReadFault c = λ sound bytes text is cert. absurd (sound c.0)
    refuses_faulty_of Usage c = absurd c
    refuses_faulty_of Blocked c = absurd c
    refuses_faulty_of TooLong c = absurd c
    refuses_faulty_of OutOfMemory c = λ sound bytes text is cert. inr refl
    refuses_faulty_of WriteFault c = λ sound bytes text is cert. absurd (faulty_text L lawful input bytes text is cert (held c.0 c.1))
    refuses_faulty_of (NotAJournal fault) c = λ sound bytes text is cert. inl refl

    -- the input is none, of which something is made
    unmade : (bytes : List ℕ) (made : X) → input.before ≡ Some bytes → IsNone L bytes → Made made → ⊥
    unmade bytes made is none m = let h = held made m in no_certificate L input bytes is none h.work h.text h.certificate

    pub refuses_certificate_of : (a : Answer) → CausedByCertificate L Made written input out a → RefusesCertificate L input (status_of a)
    refuses_certificate_of Done c = λ sound bytes is. (λ many. absurd (unmade bytes c.0 is (inl many) c.1), λ none. absurd (unmade bytes c.0 is none c.1))
    refuses_certificate_of TooLarge c = λ sound bytes is. (λ many. refl, λ none. inl refl)
    refuses_certificate_of TooLargeToAudit c = λ sound bytes is. (λ many. refl, λ none. inl refl)
    refuses_certificate_of NoJournal c = λ sound bytes is. (λ many. refl, λ none. inl refl)
    refuses_certificate_of (Refused line cause) c = λ sound bytes is. (λ many. refl, λ none. inl refl)
    refuses_certificate_of ReadFault c = λ sound bytes is. (λ many. absurd (sound c.0), λ none. absurd (sound c.0))
    refuses_certificate_of Usage c = absurd c
    refuses_certificate_of Blocked c = absurd c
    refuses_certificate_of TooLong c = absurd c
    refuses_certificate_of OutOfMemory c = λ sound bytes is. (λ many. absurd (let few = not_too_many most_certificate_bytes input bytes c.0 is in omega arith), λ none. inr refl)
    refuses_certificate_of WriteFault c = λ sound bytes is. (λ many. absurd (unmade bytes c.0 is (inl many) c.1), λ none. absurd (unmade bytes c.0 is none c.1))
    refuses_certificate_of (NotAJournal fault) c = λ sound bytes is. (λ many. absurd (no_certificate L input bytes is (inl many) c.0.work c.0.text c.0.certificate), λ none. absurd (no_certificate L input bytes is none c.0.work c.0.text c.0.certificate))

-- ---- the answer of a program

module _ {X : Type 0} (L : Language) (Made : X → Type 0) (input : StreamChange) where
  -- the text is no journal
  pub unjudged : (w : Work) (text : List ℕ) (fault : AuditFault) → IsCertificate L input w text → IsFault w text fault → IsJudged L Made input (Err (audit_answer fault))
  unjudged w text (audit.NotAnEntry line) found is = record { work = w; text = text; certificate = found; is = is }
  unjudged w text (audit.Illegal number) found is = record { work = w; text = text; certificate = found; is = is }
  unjudged w text (audit.Incomplete cpu) found is = record { work = w; text = text; certificate = found; is = is }
  unjudged w text (audit.Tail line) found is = record { work = w; text = text; certificate = found; is = is }
  unjudged w text (audit.Memory number) found is = at_most_of most_certificate_bytes input found.parts.bytes found.parts.read

  -- what the exit of a `?` returns
  pub judged_exit : (r : Result X Answer) (a : Answer) → IsErrAnd r (λ y. y ≡ a) → IsJudged L Made input (Err a) → IsJudged L Made input r
  judged_exit r a exit refused =
      let x = err_from_is_err_and r exit in
      subst (IsJudged L Made input) (sym (x.1 ∙ ap Err x.2)) refused
