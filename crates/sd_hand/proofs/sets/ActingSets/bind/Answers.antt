use Rattle.std.proofs.Common.{◌≡◌, ◌+◌, Some, refl, ap, ◌∙◌, arith}
use Rattle.sd_state.specs.declared.states.CpuState.{CpuState}
use Rattle.sd_state.specs.States.{cpu_of, thread_of}
use Rattle.sd_machine.specs.Changes.{bind, with_body}
use Rattle.sd_store.specs.declared.parts.CpuView.{CpuView}
use Rattle.sd_hand.proofs.TellLemmas.{found_at, found_held, view_is}
use Rattle.sd_hand.proofs.sets.ActingSets.bind.Goals as goal

pub returns-then-view-lt65535-clause-value : goal.returns-then-view-lt65535-clause-value
unfolding bind
returns-then-view-lt65535-clause-value c n s sh fits =
    let x = c.args.self.now in
    let t = c.args.t.0 in
    let d = c.args.d in
    let a = c.in-Ok-view.ensures in
    let view = view_is x n s d c.in-Ok-view.view a.0 sh a.1 a.2 in
    let z : CpuState = record (cpu_of s d.0) { bound = (cpu_of s d.0).bound + 1 } in
    let bound = c.bind_at.ensures.value n s sh (found_at x n s sh t c.in-Ok.at c.in-Ok.ensures) (found_held x n s sh t c.in-Ok.at c.in-Ok.ensures) in
    c.set_view.ensures.value n (with_body s t (record (thread_of s t).body { bound = Some d })) z bound (ap (λ (v : CpuView). record v { bound = v.bound + 1 }) view) refl refl

pub returns-then-view-lt65535-clause-has : goal.returns-then-view-lt65535-clause-has
returns-then-view-lt65535-clause-has c = c.set_view.ensures.has ∙ c.bind_at.ensures.has

pub returns-else-view-lt65535-clause-value : goal.returns-else-view-lt65535-clause-value
returns-else-view-lt65535-clause-value c n s sh fits =
    let a = c.in-Ok-view.ensures in
    let high = c.if-view-lt65535.false in
    let same : c.in-Ok-view.view.bound ≡ (cpu_of s c.args.d.0).bound = ap (λ (v : CpuView). v.bound) (view_is c.args.self.now n s c.args.d c.in-Ok-view.view a.0 sh a.1 a.2) in
    absurd (omega arith)
