use Rattle.std.proofs.Common.{◌∙◌, ap}
use Rattle.sd_state.specs.declared.states.State.{State}
use Rattle.sd_state.specs.States.{thread_of}
use Rattle.sd_machine.specs.Threads.{has_ended}
use Rattle.sd_search.specs.Graphs.{packed}
use Rattle.sd_search.proofs.TellLemmas.{at_same}
use Rattle.sd_extremes.proofs.MissLemmas.{left_tells}
use Rattle.sd_extremes.proofs.misses.is_left.Goals as goal

pub returns : goal.returns
returns c = λ x at.
    let same = at_same (packed c.args.graph.now) c.args.i c.in_ok-state.state x c.in_ok-state.ensures at in
    left_tells c.has_ended.result c.args.thread x
    (c.has_ended.ensures ∙ ap has_ended c.place_of.ensures ∙ ap (λ (s : State). has_ended (thread_of s c.args.thread.0).place) same)
