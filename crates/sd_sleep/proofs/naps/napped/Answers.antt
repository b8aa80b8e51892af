use Rattle.std.proofs.Common.{◌≡◌, ◌+◌, ap, ◌∙◌, subst, arith}
use Rattle.sd_basics.proofs.Results.{done}
use Rattle.sd_state.specs.States.{cpu_of, thread_of}
use Rattle.sd_state.specs.Operations.{op_of}
use Rattle.sd_machine.specs.Sleeping.{nap_ticks}
use Rattle.sd_dispatcher.proofs.Finished.{runs_finished}
use Rattle.sd_sleep.proofs.Leaving.{left_napping}
use Rattle.sd_sleep.proofs.naps.napped.Goals as goal

pub returns-clause-value : goal.returns-clause-value
returns-clause-value g c =
    done c.leave.result _ _
    (λ made. λ s shows can.
    let count : c.in_ok-ticks.field-0 ≡ (cpu_of s c.args.c.0).count = c.in_ok-ticks.ensures.value c.args.number s shows in
    let ticks : c.nap_ticks-ticks.result ≡ nap_ticks (op_of c.args.work.now c.args.t.0 (thread_of s c.args.t.0).body) =
    c.nap_ticks-ticks.ensures ∙ ap nap_ticks (c.in_ok-op_of.ensures.value c.args.number s shows) in
    let fits = can.1 in
    let sum = c.saturating_add-due.ensures in
    let due : c.saturating_add-due.result ≡ (cpu_of s c.args.c.0).count + nap_ticks (op_of c.args.work.now c.args.t.0 (thread_of s c.args.t.0).body) = omega arith in
    subst (λ r. g.S.Look.shows c.leave.new.self (c.args.number + 1) r)
    (left_napping c.args.work.now s c.args.c c.args.t.0 _ due)
    (made _ (c.in_ok-finish_op.ensures.value c.args.number s shows can.0.op) (runs_finished c.args.work.now s c.args.t c.args.c can.0.place, tt)))
    c.leave.ensures.value
