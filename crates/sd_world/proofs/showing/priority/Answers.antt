use Rattle.std.proofs.Common.{sym, ap, ◌∙◌}
use Rattle.sd_types.specs.declared.events.Which.TheVariants.{Running, Queued}
use Rattle.sd_machine.specs.Threads.{priority_of}
use Rattle.sd_world.specs.Plain.{thread_shown}
use Rattle.sd_world.proofs.HintLemmas.{below_shown, not_cpu}
use Rattle.sd_world.proofs.showing.priority.Goals as goal

pub known-requires : goal.known-requires
known-requires c =
    let st = c.requires.stands in
    let lack = c.in-Err.ensures.lack in
    absurd (not_cpu c.args.x.now c.args.d c.in-Err.field-0 c.requires.home (lack.0 st.number st.state st.shown) lack.1)

pub known-requires-in-Err-unbound_priority : goal.known-requires-in-Err-unbound_priority
known-requires-in-Err-unbound_priority c =
    let st = c.requires.stands in
    let lack = c.in-Err-unbound_priority.ensures.lack in
    absurd (not_cpu c.args.x.now c.args.d c.in-Err-unbound_priority.field-0 c.requires.home (lack.0 st.number st.state st.shown) lack.1)

pub unreachable-requires : goal.unreachable-requires
unreachable-requires c =
    let st = c.requires.stands in
    let lack = c.in-Err.ensures.lack in
    not_cpu c.args.x.now c.args.d c.in-Err.field-0 c.requires.home (lack.0 st.number st.state st.shown) lack.1

pub unreachable-requires-in-Err-unbound_priority : goal.unreachable-requires-in-Err-unbound_priority
unreachable-requires-in-Err-unbound_priority c =
    let st = c.requires.stands in
    let lack = c.in-Err-unbound_priority.ensures.lack in
    not_cpu c.args.x.now c.args.d c.in-Err-unbound_priority.field-0 c.requires.home (lack.0 st.number st.state st.shown) lack.1

pub returns-in-Ok-clause-value : goal.returns-in-Ok-clause-value
returns-in-Ok-clause-value c n s sh = c.in-Ok.ensures.value n s sh ∙ ap (λ z. priority_of s (thread_shown s z c.args.d)) (sym c.in-Running.is)

pub returns-in-Ok-unbound_priority-clause-value : goal.returns-in-Ok-unbound_priority-clause-value
returns-in-Ok-unbound_priority-clause-value c n s sh = c.in-Ok-unbound_priority.ensures.value n s sh ∙ ap (λ z. priority_of s (thread_shown s z c.args.d)) (sym c.in-Queued.is)

pub returns-in-Ok-clause-below : goal.returns-in-Ok-clause-below
returns-in-Ok-clause-below c =
    let st = c.requires.stands in
    below_shown c.args.x.now st Running c.args.d c.in-Ok.p (c.in-Ok.ensures.value st.number st.state st.shown)

pub returns-in-Ok-unbound_priority-clause-below : goal.returns-in-Ok-unbound_priority-clause-below
returns-in-Ok-unbound_priority-clause-below c =
    let st = c.requires.stands in
    below_shown c.args.x.now st Queued c.args.d c.in-Ok-unbound_priority.p (c.in-Ok-unbound_priority.ensures.value st.number st.state st.shown)
