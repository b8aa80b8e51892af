use Rattle.std.proofs.Common.{length}
use Rattle.sd_machine.specs.Runs.{turn}
use Rattle.sd_extremes.proofs.WholeLemmas as W
use Rattle.sd_extremes.proofs.whole.finish.Goals as goal

pub loop-n-init : goal.loop-n-init
loop-n-init c = record { leads = c.requires; begins = W.begins_itself c.args.work.now c.args.entries.now.items }

pub first_able-requires : goal.first_able-requires
first_able-requires c = W.fit_of c.args.work.now c.loop-n.entries.items c.loop-n.state c.loop-n.invariant.leads

pub take_turn-requires : goal.take_turn-requires
take_turn-requires c = record { reached = W.reached c.args.work.now c.loop-n.entries.items c.loop-n.state c.loop-n.invariant.leads }

pub loop-n-preserved : goal.loop-n-preserved
loop-n-preserved c =
    let l = c.loop-n in
    let e = c.in_ok-take_turn-in-Some.ensures in
    record {
      leads = W.leads_on c.args.work.now l.entries.items c.take_turn.new.entries.items l.state c.take_turn.new.state c.in-Some.c l.invariant.leads e.entries e.state;
      begins = W.begins_more c.args.work.now c.args.entries.now.items l.entries.items c.take_turn.new.entries.items (turn c.args.work.now l.state (length l.entries.items) c.in-Some.c) l.invariant.begins e.entries;
    }

pub returns-in-None-clause-leads : goal.returns-in-None-clause-leads
returns-in-None-clause-leads c = c.loop-n.invariant.leads

pub returns-in-None-clause-begins : goal.returns-in-None-clause-begins
returns-in-None-clause-begins c = c.loop-n.invariant.begins
