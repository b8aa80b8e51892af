use Rattle.std.proofs.Common.{Option, sym, subst}
use Rattle.sd_types.specs.declared.numbers.CpuId.{CpuId}
use Rattle.sd_state.specs.States.{thread_of}
use Rattle.sd_store.specs.Parts.{bound_parts, cpu_part}
use Rattle.sd_priocntl.specs.SetsTouched.{rebound_parts}
use Rattle.sd_cpu.specs.Has.{Has}
use Rattle.sd_cpu.proofs.HasLemmas.{also, runs_is}
use Rattle.sd_cpu.proofs.touching.rebound.Goals as goal

pub returns-in_ok-cpu-in-Some : goal.returns-in_ok-cpu-in-Some
returns-in_ok-cpu-in-Some c = λ n s shown.
    let x = c.args.x.now in
    let r = c.cpu_if.result in
    subst (λ (o : Option CpuId). Has x r (rebound_parts s c.args.u o)) (sym c.in-Some.is)
    (also x r (cpu_part c.in-Some.d) _ c.in_ok-cpu-in-Some.ensures.0
    (subst (Has x r) (sym (runs_is (thread_of s c.args.u.0).place c.running_on.result (c.running_on.ensures n s shown))) c.cpu_if.ensures))

pub returns-in-None : goal.returns-in-None
returns-in-None c = λ n s shown.
    let x = c.args.x.now in
    let r = c.cpu_if-in-None.result in
    subst (λ (o : Option CpuId). Has x r (rebound_parts s c.args.u o)) (sym c.in-None.is)
    (subst (λ (o : Option CpuId). Has x r (bound_parts o)) (c.bound_to.ensures n s shown) c.cpu_if-in-None.ensures)
