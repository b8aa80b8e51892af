use Rattle.std.proofs.Common.{length}
use Rattle.sd_machine.specs.Runs.{turn}
use Rattle.sd_search.proofs.WitnessLemmas.{stays}
use Rattle.sd_search.proofs.witnesses.take_turn.Goals as goal

pub returns-in-None-clause-reached : goal.returns-in-None-clause-reached
returns-in-None-clause-reached c =
    stays c.args.work.now (length c.args.entries.now.items) c.args.state.now c.make_entry.new.s (turn c.args.work.now c.args.state.now c.len-number.result c.args.c) c.in-None.ensures.entry c.in-None.ensures.state c.requires.reached
