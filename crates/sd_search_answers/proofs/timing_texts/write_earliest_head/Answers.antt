use Rattle.std.specs.Prelude.{codes}
use Rattle.sd_search_answers.specs.Texts.{states_line, thread_line, tick_line}
use Rattle.sd_search_answers.proofs.AppendLemmas.{joined}
use Rattle.sd_search_answers.proofs.timing_texts.write_earliest_head.Goals as goal

pub returns : goal.returns
returns c =
    joined c.args.out.now.items (codes "found\n") (thread_line c.args.work.now c.args.thread c.args.in_every) (states_line c.args.n) (tick_line (codes "earliest ") c.args.earliest.now.tick)
    c.extend_from_slice.new.self.items c.write_thread.new.out.items c.write_states.new.out.items c.write_tick.new.out.items
    c.in_ok-extend_from_slice.ensures.items c.in_ok-write_thread.ensures c.in_ok-write_states.ensures c.in_ok-write_tick.ensures
