use Rattle.std.proofs.Common.{List, subst, sym, ap, ◌++◌, map, ◌∙◌}
use Rattle.sd_types.specs.declared.events.Entry.{Entry}
use Rattle.sd_state.specs.declared.states.State.{State}
use Rattle.sd_audit.specs.Audits.{entry_line}
use Rattle.sd_audit.specs.Reading.{HasRead}
use Rattle.sd_audit.proofs.ReadLemmas.{nothing_read}
use Rattle.sd_audit.proofs.ExactLemmas.{entries_read}
use Rattle.sd_audit.proofs.audits.judge.Goals as goal

pub returns-in_default-clause-fault : goal.returns-in_default-clause-fault
returns-in_default-clause-fault g c = nothing_read c.args.names.now.work.now c.args.text.now

pub returns-in_default-first_world-clause-fault : goal.returns-in_default-first_world-clause-fault
returns-in_default-first_world-clause-fault g c = nothing_read c.args.names.now.work.now c.args.text.now

pub end_of-requires-clause-read : goal.end_of-requires-clause-read
end_of-requires-clause-read g c = c.in_ok-at.ensures.read.0

pub check_rest-requires-clause-read : goal.check_rest-requires-clause-read
check_rest-requires-clause-read g c =
    let at = c.in_ok-at.at in
    subst (λ (s : State). HasRead c.args.names.now.work.now c.args.text.now s c.take_entries.new.accounts at.number at.from) (sym c.in_ok-end.ensures.state) c.in_ok-at.ensures.read.0

pub returns-clause-journal : goal.returns-clause-journal
returns-clause-journal g c =
    let w = c.args.names.now.work.now in
    let text = c.args.text.now in
    let s = c.in_ok-end.end in
    let at = c.in_ok-at.at in
    let read = c.in_ok-at.ensures.read in
    let journal = c.in_ok-found.ensures.journal in
    let same = entries_read w text s at.number read.0.entries _
    (record { run = read.0.told.run; spelled = read.0.told.spelled; lines = read.0.told.lines ∙ ap (λ ls. map (entry_line w) read.0.entries ++ ls) c.in_ok-at.ensures.accounts.lines })
    journal in
    (journal, subst (λ (es : List Entry). g.C.Collector.became w es c.args.collector.now c.take_entries.new.collector) same read.1)
