use Rattle.std.proofs.Common.{List, subst}
use Rattle.std.specs.Prelude.{IfOk, IfErr}
use Rattle.sd_types.specs.declared.events.Entry.{Entry}
use Rattle.sd_types.specs.declared.works.Work.{Work}
use Rattle.sd_audit.specs.Audits.{IsFault}
use Rattle.sd_audit.specs.Collecting.{IsJournalWith}
use Rattle.sd_audit.proofs.ExactLemmas.{refused_rightly}
use Rattle.sd_audit.proofs.ReadLemmas.{nothing_read}
use Rattle.sd_audit.proofs.audits.audit_collecting.Goals as goal

pub returns-in_default-clause-fault : goal.returns-in_default-clause-fault
returns-in_default-clause-fault g c = nothing_read c.args.work.now c.args.text.now

pub returns : goal.returns
returns g c =
    let text = c.args.text.now in
    let r = c.judge.result in
    let named = c.in-Ok.ensures in
    let after = c.judge.new.collector in
    let journal = subst (λ (w : Work). IfOk r (λ found. IsJournalWith w text found.end found.number (λ (es : List Entry). g.C.Collector.became w es c.args.collector.now after))) named c.judge.ensures.journal in
    let fault = subst (λ (w : Work). IfErr r (IsFault w text)) named c.judge.ensures.fault in
    record { journal = journal; cycles = c.judge.ensures.cycles; fault = fault; exact = refused_rightly c.args.work.now text r fault }
