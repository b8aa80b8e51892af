use Rattle.std.proofs.Common.{◌∙◌}
use Rattle.sd_search.proofs.WitnessLemmas as W
use Rattle.sd_search.proofs.witnesses.witness.Goals as goal

pub loop-c-init : goal.loop-c-init
loop-c-init c = record {
  reached = W.starts c.args.work.now c.in_ok-state.state c.new-entries.result.items c.in_ok-state.ensures.state c.new-entries.ensures.items;
  entries = W.whole c.args.work.now c.args.path.now c.in_ok-state.state c.new-entries.result.items c.in_ok-state.ensures.state c.new-entries.ensures.items;
}

pub loop-c-preserved : goal.loop-c-preserved
loop-c-preserved c =
    let l = c.loop-c in
    let e = c.in_ok-take_turn.ensures in
    record {
      reached = e.reached;
      entries = W.one_turn c.args.work.now c.args.path.now l.c-index (record { 0 = 0 }) l.state c.take_turn.new.state l.entries.items c.take_turn.new.entries.items c.loop-c-test.true e.entries e.state ∙ l.invariant.entries;
    }

pub returns : goal.returns
returns c = W.is_over c.args.work.now c.args.path.now c.loop-c.c-index c.loop-c.state c.loop-c.entries.items _ c.loop-c-test.false c.loop-c.invariant.entries
