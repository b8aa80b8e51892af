use Rattle.sd_machine.specs.Texts.{journal}
use Rattle.sd_search_answers.specs.Texts.{earliest_head, latest_head}
use Rattle.sd_search_answers.proofs.AppendLemmas.{joined}
use Rattle.sd_search_answers.proofs.timing_texts.write_between.Goals as goal

pub returns-clause-text : goal.returns-clause-text
returns-clause-text c =
    let w = c.args.work.now in
    let earliest = c.args.earliest.now in
    let latest = c.args.latest.now in
    joined c.args.out.now.items (earliest_head w c.args.thread c.args.in_every earliest c.args.n) (journal w earliest.entries.items) (latest_head latest) (journal w latest.entries.items)
    c.write_earliest_head.new.out.items c.write_journal.new.out.items c.write_tick.new.out.items c.write_journal-2.new.out.items
    c.in_ok-write_earliest_head.ensures (rw c.deref.ensures.value at c.in_ok-write_journal.ensures.text) c.in_ok-write_tick.ensures (rw c.deref-2.ensures.value at c.in_ok-write_journal-2.ensures.text)
