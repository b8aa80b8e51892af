use Rattle.std.proofs.Common.{◌-◌, None, refl, ap, ◌∙◌}
use Rattle.sd_state.specs.declared.states.CpuState.{CpuState}
use Rattle.sd_state.specs.States.{cpu_of, thread_of}
use Rattle.sd_machine.specs.Changes.{unbind, with_body}
use Rattle.sd_store.specs.declared.parts.CpuView.{CpuView}
use Rattle.sd_hand.proofs.TellLemmas.{found_at, found_held, view_is}
use Rattle.sd_hand.proofs.sets.ActingSets.unbind.Goals as goal

pub returns-in-Ok-view-clause-value : goal.returns-in-Ok-view-clause-value
unfolding unbind
returns-in-Ok-view-clause-value c n s sh fits =
    let x = c.args.self.now in
    let t = c.args.t.0 in
    let d = c.args.b in
    let a = c.in-Ok-view.ensures in
    let view = view_is x n s d c.in-Ok-view.view a.0 sh a.1 a.2 in
    let less = c.saturating_sub-bound.ensures ∙ ap (λ (v : CpuView). v.bound - 1) view in
    let z : CpuState = record (cpu_of s d.0) { bound = (cpu_of s d.0).bound - 1 } in
    let bound = c.bind_at.ensures.value n s sh (found_at x n s sh t c.in-Ok.at c.in-Ok.ensures) (found_held x n s sh t c.in-Ok.at c.in-Ok.ensures) in
    c.set_view.ensures.value n (with_body s t (record (thread_of s t).body { bound = None })) z bound (λ i. record (view i) { bound = less i }) refl refl

pub returns-in-Ok-view-clause-has : goal.returns-in-Ok-view-clause-has
returns-in-Ok-view-clause-has c = c.set_view.ensures.has ∙ c.bind_at.ensures.has
