-- What was printed of a run is the journal of a complete run, behind its workload.
use Rattle.std.proofs.Common.{◌≡◌, ℕ, ◌≤◌, List, [], ◌++◌, length, Some, refl, sym, ap, subst, ◌∙◌, inl, inr, arith}
use Rattle.std.specs.Prelude.{◌⊎◌}
use Rattle.std.proofs.lemmas.Option.{same_Some}
use Rattle.std.specs.Io.KnownBytes.{Appends}
use Rattle.sd_types.specs.declared.events.Entry.{Entry}
use Rattle.sd_types.specs.declared.works.Work.{Work}
use Rattle.sd_text.proofs.StreamLemmas.{Appends-told}
use Rattle.sd_machine.specs.Texts.{journal}
use Rattle.sd_workload.specs.Accepted.{Accepted}
use Rattle.sd_audit.specs.Audits.{IsJournal}
use Rattle.sd_answers.specs.Certificates.{IsLegalJournal, Certifies}
use Rattle.sd_types.specs.Limits.{most_certificate_bytes}
use Rattle.sd_answers.specs.Inputs.{IsWorkload}
use Rattle.sd_answers.specs.Languages.{workloads}
use Rattle.sd_answers.specs.StreamChanges.{StreamChange}
use Rattle.sd_answers.proofs.InputLemmas.{taken_all}
use Rattle.sd_answers.proofs.WordLemmas.{no_journal_line}
use Rattle.sd_program.specs.declared.forms.Mode.{Mode}
use Rattle.sd_program.specs.declared.forms.Form.TheVariants.{Journal}
use Rattle.sd_program.specs.RunAnswers.{Writes}
use Rattle.sd_machine.specs.Runs.{final_state}
use Rattle.sd_program.specs.Audited.{HasWholeLines, certificate_of, RunsAreAudited}

module _ (mode : Mode) (input out : StreamChange) (text printed : List ℕ) (is : input.before ≡ Some text) (empty : out.before ≡ Some []) (holds : out.after ≡ Some printed)
    (whole : HasWholeLines text) (many : length (certificate_of text printed) ≤ most_certificate_bytes) where
  printed_journal : (w : Work) (es : List Entry) → Appends out.before out.after (journal w es) → printed ≡ journal w es
  printed_journal w es appended = same_Some printed (journal w es) (sym holds ∙ Appends-told out.before out.after [] (journal w es) appended empty)

  certified : (w : Work) (P : List Entry → Type 0) → IsWorkload workloads input w → Writes w (Journal mode) out P → Certifies workloads (certificate_of text printed) printed (IsLegalJournal printed)
  certified w P found (es, run, appended, none, ends) =
      let same = taken_all input.before input.after found.bytes text found.read.took found.read.to_end is in
      let accepted : Accepted text w = subst (λ (bs : List ℕ). Accepted bs w) same found.accepted in
      record {
        before = text;
        many = many;
        cut = record { first = no_journal_line text w accepted; whole = whole; parts = inl refl };
        bound = let few = found.read.bound in omega (arith, ap length same);
        work = w;
        accepted = accepted;
        holds = (final_state w es, length es, subst (λ (t : List ℕ). IsJournal w t (final_state w es) (length es)) (sym (printed_journal w es appended)) run.certified);
      }

pub audited_law : RunsAreAudited
audited_law mode arguments input out err status text printed kept known (inl zero) is empty holds whole many asked read told failed found promised audits sound written certificate =
    let r = kept.headline (Journal mode) known zero in
    promised.completes_audit audits sound written (certificate_of text printed) printed certificate (certified mode input out text printed is empty holds whole many r.0 _ r.1 r.2)
audited_law mode arguments input out err status text printed kept known (inr six) is empty holds whole many asked read told failed found promised audits sound written certificate =
    let r = kept.blocked (Journal mode) known six in
    promised.completes_audit audits sound written (certificate_of text printed) printed certificate (certified mode input out text printed is empty holds whole many r.0 _ r.1 r.2)
