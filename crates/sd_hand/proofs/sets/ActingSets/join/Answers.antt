use Rattle.std.proofs.Common.{None, refl, ap, ◌∙◌}
use Rattle.sd_state.specs.declared.states.CpuState.{CpuState}
use Rattle.sd_state.specs.States.{cpu_of}
use Rattle.sd_machine.specs.Changes.{join, with_cpu_in}
use Rattle.sd_machine.specs.Threads.{open_of, with_open}
use Rattle.sd_store.specs.declared.parts.CpuView.{CpuView}
use Rattle.sd_hand.proofs.TellLemmas.{view_is}
use Rattle.sd_hand.proofs.sets.ActingSets.join.Goals as goal

pub returns-in-Ok-open-clause-value : goal.returns-in-Ok-open-clause-value
unfolding join
returns-in-Ok-open-clause-value c n s sh can =
    let x = c.args.self.now in
    let a = c.in-Ok.ensures in
    let b = c.in-Ok-open_cpus.ensures.value in
    let own = c.args.c in
    let p = c.args.set in
    let view = view_is x n s own c.in-Ok.view a.0 sh a.1 a.2 in
    let z : CpuState = record (cpu_of s own.0) { set = p; closing = None } in
    let opened = c.in-Ok-open.ensures.value n s sh (b.0, b.1) in
    c.set_view.ensures.value n (with_open s p.0 (with_cpu_in own (open_of s p.0))) z opened (ap (λ (v : CpuView). record v { set = p; closing = None }) view) refl refl

pub returns-in-Ok-open-clause-has : goal.returns-in-Ok-open-clause-has
returns-in-Ok-open-clause-has c = let b = c.in-Ok-open_cpus.ensures.value in c.set_view.ensures.has ∙ c.in-Ok-open.ensures.has (b.0, b.1)

pub returns-in-Err-open-clause-value : goal.returns-in-Err-open-clause-value
returns-in-Err-open-clause-value c n s sh can = absurd (c.in-Err-open.ensures.full n s sh can)

pub returns-in-Err-open-clause-has : goal.returns-in-Err-open-clause-has
returns-in-Err-open-clause-has c = let b = c.in-Ok-open_cpus.ensures.value in c.in-Err-open.ensures.has (b.0, b.1)
