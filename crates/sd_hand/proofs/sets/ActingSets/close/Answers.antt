use Rattle.std.proofs.Common.{◌≡◌, Some, is_some, inl, inr, refl, ap, ◌∙◌, subst}
use Rattle.sd_types.specs.declared.numbers.SetId.{SetId}
use Rattle.sd_state.specs.declared.states.CpuState.{CpuState}
use Rattle.sd_state.specs.States.{cpu_of, with_cpu}
use Rattle.sd_machine.specs.Changes.{close, without_cpu}
use Rattle.sd_machine.specs.Threads.{open_of, with_open}
use Rattle.sd_store.specs.declared.parts.CpuView.{CpuView}
use Rattle.sd_store.specs.Parts.{real_time_part}
use Rattle.sd_hand.specs.Acting.{IsShown, has_part}
use Rattle.sd_hand.proofs.TellLemmas.{view_is}
use Rattle.sd_hand.proofs.sets.ActingSets.close.Goals as goal

pub returns-in-Err-open_cpus-clause-lack : goal.returns-in-Err-open_cpus-clause-lack
returns-in-Err-open_cpus-clause-lack c =
    let x = c.args.self.now in
    let a = c.in-Ok.ensures in
    let e = c.in-Err-open_cpus.ensures.value in
    (λ n s sh. inr (inl (e.0 ∙ ap (λ (v : CpuView). real_time_part v.set) (view_is x n s c.args.d c.in-Ok.view a.0 sh a.1 a.2))), ap (has_part x) e.0 ∙ ap is_some e.1)

pub returns-in-Ok-open_cpus-clause-value : goal.returns-in-Ok-open_cpus-clause-value
unfolding close
returns-in-Ok-open_cpus-clause-value c n s sh t =
    let x = c.args.self.now in
    let a = c.in-Ok.ensures in
    let b = c.in-Ok-open_cpus.ensures.value in
    let d = c.args.d in
    let view = view_is x n s d c.in-Ok.view a.0 sh a.1 a.2 in
    let z : CpuState = record (cpu_of s d.0) { closing = Some c.args.to } in
    let shut = c.shut.ensures.value n s sh (b.0, b.1) in
    let set : c.in-Ok.view.set ≡ (cpu_of s d.0).set = ap (λ (v : CpuView). v.set) view in
    subst (λ (p : SetId). IsShown c.set_view.new.self n (with_cpu (with_open s p.0 (without_cpu d (open_of s p.0))) d.0 z)) set
    (c.set_view.ensures.value n (with_open s c.in-Ok.view.set.0 (without_cpu d (open_of s c.in-Ok.view.set.0))) z shut (ap (λ (v : CpuView). record v { closing = Some c.args.to }) view) refl refl)

pub returns-in-Ok-open_cpus-clause-has : goal.returns-in-Ok-open_cpus-clause-has
returns-in-Ok-open_cpus-clause-has c = let b = c.in-Ok-open_cpus.ensures.value in c.set_view.ensures.has ∙ c.shut.ensures.has (b.0, b.1)
