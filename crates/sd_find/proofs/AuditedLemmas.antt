-- What was printed of runs that were found are journals of complete runs, behind their workload.
use Rattle.std.proofs.Common.{◌≡◌, ℕ, ◌≤◌, List, [], length, Some, refl, sym, ap, subst, ◌∙◌, inl, arith}
use Rattle.std.proofs.lemmas.Option.{same_Some}
use Rattle.sd_text.proofs.StreamLemmas.{Appends-told}
use Rattle.sd_types.specs.declared.events.Entry.{Entry}
use Rattle.sd_types.specs.declared.works.Work.{Work}
use Rattle.sd_state.specs.Opening.{opening}
use Rattle.sd_machine.specs.Runs.{final}
use Rattle.sd_machine.specs.Texts.{journal}
use Rattle.sd_workload.specs.Accepted.{Accepted}
use Rattle.sd_search.specs.Graphs.{packed}
use Rattle.sd_answers.specs.Certificates.{Certifies, IsLegalJournal}
use Rattle.sd_types.specs.Limits.{most_certificate_bytes}
use Rattle.sd_answers.specs.Inputs.{IsWorkload}
use Rattle.sd_answers.specs.StreamChanges.{StreamChange}
use Rattle.sd_answers.proofs.InputLemmas.{taken_all}
use Rattle.sd_answers.proofs.WordLemmas.{no_journal_line}
use Rattle.sd_answers.specs.Languages.{workloads}
use Rattle.sd_set_inputs.specs.Sets.{SpellsSet, StandsFor, sets}
use Rattle.sd_set_inputs.proofs.SetLemmas.{base_short, one_base}
use Rattle.sd_program.specs.Audited.{HasWholeLines, certificate_of}
use Rattle.sd_search_answers.specs.Texts.{between_text, found_text, wait_text}
use Rattle.sd_find.specs.Audited.{EndingsAreAudited, IsFoundLegal, WaitsAreAudited, WitnessesAreAudited}
use Rattle.sd_find.specs.Shown.{IsCertified}

-- a certified journal behind the workload that was read
module _ (w : Work) (es : List Entry) (input : StreamChange) (text base : List ℕ) (is : input.before ≡ Some text) (stands : StandsFor text base) (whole : HasWholeLines base) (workload : IsWorkload sets input w)
    (legal : IsCertified w es) where
  certified : length (certificate_of base (journal w es)) ≤ most_certificate_bytes → Certifies workloads (certificate_of base (journal w es)) (journal w es) (IsLegalJournal (journal w es))
  certified many =
      let same = taken_all input.before input.after workload.bytes text workload.read.took workload.read.to_end is in
      let spelled : SpellsSet text w = subst (λ (bs : List ℕ). SpellsSet bs w) same workload.accepted in
      let accepted : Accepted base w = subst (λ (bs : List ℕ). Accepted bs w) (one_base text spelled.base base spelled.stands stands) spelled.accepted in
      record {
        before = base;
        many = many;
        cut = record { first = no_journal_line base w accepted; whole = whole; parts = inl refl };
        bound = base_short text base stands (let few = workload.read.bound in omega (arith, ap length same));
        work = w;
        accepted = accepted;
        holds = (final w (opening w) es, length es, legal);
      }

  found_legal : length (certificate_of base (journal w es)) ≤ most_certificate_bytes → IsFoundLegal base (journal w es)
  found_legal many asked read told failed found promised audits sound written certificate =
      promised.completes_audit audits sound written (certificate_of base (journal w es)) (journal w es) certificate (certified many)

pub audited_law : WitnessesAreAudited
audited_law q most arguments input out err status text printed kept known nine is empty holds base stands whole =
    let f = kept.finds q most known nine in
    let said = found_text f.work q f.entries (length (packed f.graph)) in
    record {
      work = f.work;
      entries = f.entries;
      states = length (packed f.graph);
      journal = journal f.work f.entries;
      printed_is = same_Some printed said (sym holds ∙ Appends-told out.before out.after [] said f.written empty);
      legal = found_legal f.work f.entries input text base is stands whole f.workload f.shown.certified;
    }

pub endings_law : EndingsAreAudited
endings_law name most arguments input out err status text printed kept known nine is empty holds base stands whole =
    let f = kept.times name most known nine in
    let said = between_text f.work f.thread f.in_every f.earliest f.latest (length (packed f.graph)) in
    record {
      work = f.work;
      thread = f.thread;
      in_every = f.in_every;
      earliest = f.earliest;
      latest = f.latest;
      states = length (packed f.graph);
      printed_is = same_Some printed said (sym holds ∙ Appends-told out.before out.after [] said f.written empty);
      earliest_legal = found_legal f.work f.earliest.entries.items input text base is stands whole f.workload f.earliest_certified;
      latest_legal = found_legal f.work f.latest.entries.items input text base is stands whole f.workload f.latest_certified;
    }

pub waits_law : WaitsAreAudited
waits_law name most arguments input out err status text printed kept known nine is empty holds base stands whole =
    let f = kept.measures name most known nine in
    let said = wait_text f.work f.ticks f.entries (length (packed f.graph)) in
    record {
      work = f.work;
      ticks = f.ticks;
      entries = f.entries;
      states = length (packed f.graph);
      printed_is = same_Some printed said (sym holds ∙ Appends-told out.before out.after [] said f.written empty);
      legal = found_legal f.work f.entries input text base is stands whole f.workload f.certified;
    }
