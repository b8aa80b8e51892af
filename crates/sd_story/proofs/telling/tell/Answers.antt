use Rattle.std.proofs.Common.{refl, ap, ◌++◌, List, ℕ, ◌∙◌}
use Rattle.sd_state.specs.Opening.{opening}
use Rattle.sd_story.specs.Story.{rows_from, story}
use Rattle.sd_story.proofs.RowLemmas.{no_rows}
use Rattle.sd_audit.proofs.ReadLemmas.{nothing_read}
use Rattle.sd_story.proofs.telling.tell.Goals as goal

pub returns-in_default-clause-fault : goal.returns-in_default-clause-fault
returns-in_default-clause-fault c = nothing_read c.args.work.now c.args.text.now

pub returns-in_default-from_slice-clause-fault : goal.returns-in_default-from_slice-clause-fault
returns-in_default-from_slice-clause-fault c = nothing_read c.args.work.now c.args.text.now

pub audit_collecting-requires-clause-empty : goal.audit_collecting-requires-clause-empty
audit_collecting-requires-clause-empty c = (refl, no_rows c.args.work.now c.args.selection.now (opening c.args.work.now) _)

pub returns-clause-told : goal.returns-clause-told
unfolding story
returns-clause-told c =
    let j = c.in_ok-audit_collecting.ensures.journal in
    record {
      entries = j.0.entries;
      journal_of = record { run = j.0.run; spelled = j.0.spelled; whole = j.0.whole };
      complete = j.0.complete;
      story = j.1.1 ∙ ap (λ (text : List ℕ). text ++ rows_from c.args.work.now c.args.selection.now (opening c.args.work.now) j.0.entries) c.in-Ok-from_slice.ensures.items;
    }
