use Rattle.std.proofs.Common.{◌∙◌, get_or}
use Rattle.sd_search.proofs.WitnessLemmas as V
use Rattle.sd_extremes.proofs.WholeLemmas as W
use Rattle.sd_extremes.proofs.whole.whole_run.Goals as goal

pub loop-c-init : goal.loop-c-init
loop-c-init c = record {
  leads = W.begins c.args.work.now c.new-entries.result.items c.in_ok-state.state c.new-entries.ensures.items c.in_ok-state.ensures.state;
  entries = V.whole c.args.work.now c.args.path.now c.in_ok-state.state c.new-entries.result.items c.in_ok-state.ensures.state c.new-entries.ensures.items;
}

pub take_turn-requires : goal.take_turn-requires
take_turn-requires c = record { reached = W.reached c.args.work.now c.loop-c.entries.items c.loop-c.state c.loop-c.invariant.leads }

pub loop-c-preserved : goal.loop-c-preserved
loop-c-preserved c =
    let l = c.loop-c in
    let e = c.in_ok-take_turn.ensures in
    record {
      leads = W.leads_on c.args.work.now l.entries.items c.take_turn.new.entries.items l.state c.take_turn.new.state (get_or c.args.path.now l.c-index (record { 0 = 0 })) l.invariant.leads e.entries e.state;
      entries = V.one_turn c.args.work.now c.args.path.now l.c-index (record { 0 = 0 }) l.state c.take_turn.new.state l.entries.items c.take_turn.new.entries.items c.loop-c-test.true e.entries e.state ∙ l.invariant.entries;
    }

pub returns : goal.returns
returns c =
    let w = c.args.work.now in
    let e = c.in_ok-finish.ensures in
    W.goes_on w c.args.path.now c.loop-c.entries.items c.finish.new.entries.items c.finish.new.state e.leads e.complete e.begins
    (V.is_over w c.args.path.now c.loop-c.c-index c.loop-c.state c.loop-c.entries.items _ c.loop-c-test.false c.loop-c.invariant.entries)
