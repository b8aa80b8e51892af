use Rattle.std.proofs.Common.{is_some, refl, sym, ap, ◌∙◌, subst}
use Rattle.std.specs.Prelude.{slice_set, Some}
use Rattle.sd_types.specs.declared.numbers.HomeId.TheVariants.{Cpu}
use Rattle.sd_homes.specs.declared.list_id.ListId.TheVariants.{Queues, Runs}
use Rattle.sd_homes.specs.Families.{taken_from}
use Rattle.sd_homes.specs.Homes.{running_on}
use Rattle.sd_hand.specs.Hands.{HandSlots, held}
use Rattle.sd_hand.specs.Steps.{GoesWithin}
use Rattle.sd_hand.proofs.GuideLemmas.{held_here}
use Rattle.sd_hand.proofs.OrderLemmas.{number_here, slots_changed}
use Rattle.sd_hand.proofs.WithinLemmas.{goes_within, home_stays}
use Rattle.sd_hand.proofs.hand.Hand.run_queued.Goals as goal

pub invariant_of-self-in-Some-index_mut : goal.invariant_of-self-in-Some-index_mut
invariant_of-self-in-Some-index_mut c =
    slots_changed c.self.inside.slots.items c.in-Some.i c.in-Some-index_mut.home c.run_queued.new.self c.index_mut.result.now c.self.invariant c.index_mut.ensures.value c.in-Some-index_mut.is
    (home_stays c.args.t.0 (Queues c.args.c) (Runs c.args.c) (running_on c.args.c) c.in-Some-index_mut.home c.run_queued.new.self c.run_queued.ensures.runs)

pub returns-in-Some-index_mut-clause-went : goal.returns-in-Some-index_mut-clause-went
returns-in-Some-index_mut-clause-went c =
    subst (λ (x : HandSlots). GoesWithin c.args.t.0 (Queues c.args.c) (Runs c.args.c) (running_on c.args.c) x.slots (slice_set c.self.inside.slots.items c.in-Some.i (Some c.run_queued.new.self))) c.self.view_is
    (goes_within (record { slots = c.self.inside.slots.items }) c.self.inside.slots.items c.args.t.0 (Queues c.args.c) (Runs c.args.c) (running_on c.args.c) c.in-Some.i c.in-Some-index_mut.home c.run_queued.new.self c.index_mut.result.now
    refl refl c.in-Some.ensures.slot c.index_mut.ensures.value c.in-Some-index_mut.is c.run_queued.ensures.runs)

pub returns-in-Some-index_mut-clause-queued : goal.returns-in-Some-index_mut-clause-queued
returns-in-Some-index_mut-clause-queued c =
    c.run_queued.ensures.queued
    ∙ ap (λ o. is_some (taken_from c.args.t.0 (Queues c.args.c) o))
    (sym (held_here (record { slots = c.self.inside.slots.items }) c.self.inside.slots.items (Cpu c.args.c) c.in-Some.i c.in-Some-index_mut.home c.index_mut.result.now refl c.in-Some.ensures.slot c.index_mut.ensures.value c.in-Some-index_mut.is)
    ∙ ap (λ (x : HandSlots). held (Cpu c.args.c) x.slots) c.self.view_is)

pub known-requires-in-Some-index_mut : goal.known-requires-in-Some-index_mut
known-requires-in-Some-index_mut c =
    let number = number_here (record { slots = c.self.inside.slots.items }) c.self.inside.slots.items (Cpu c.args.c) c.in-Some.i c.in-Some-index_mut.home c.index_mut.result.now refl c.in-Some.ensures.slot c.index_mut.ensures.value c.in-Some-index_mut.is in
    c.is_of_kind.ensures number
