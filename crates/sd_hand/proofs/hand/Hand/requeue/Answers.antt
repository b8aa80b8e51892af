use Rattle.std.proofs.Common.{is_some, refl, rules, sym, ap, ◌∙◌, subst, SFits, w64}
use Rattle.std.proofs.lemmas.Int.{to_z-of_z}
use Rattle.sd_types.specs.declared.numbers.HomeId.TheVariants.{Cpu}
use Rattle.sd_homes.specs.declared.list_id.ListId.TheVariants.{Queues}
use Rattle.sd_homes.specs.Families.{taken_from}
use Rattle.sd_homes.specs.Homes.{queued_as}
use Rattle.sd_hand.proofs.GuideLemmas.{held_here}
use Rattle.sd_hand.proofs.OrderLemmas.{number_here, slots_changed}
use Rattle.sd_hand.proofs.WithinLemmas.{HomeWent, goes_within, home_stays}
use Rattle.sd_hand.proofs.hand.Hand.requeue.Goals as goal

pub invariant_of-self : goal.invariant_of-self
invariant_of-self c =
    let fits : SFits w64 c.args.key = search rules in
    slots_changed c.self.inside.slots.items c.in-Some.i c.in-Some-index_mut.home c.requeue.new.self c.index_mut.result.now c.self.invariant c.index_mut.ensures.value c.in-Some-index_mut.is
    (home_stays c.args.t.0 (Queues c.args.c) (Queues c.args.c) (queued_as c.args.class c.args.key) c.in-Some-index_mut.home c.requeue.new.self
    (subst (λ k. HomeWent c.args.t.0 (Queues c.args.c) (Queues c.args.c) (queued_as c.args.class k) c.in-Some-index_mut.home c.requeue.new.self) (to_z-of_z w64 c.args.key fits) c.requeue.ensures.moved))

pub returns-in-Some-index_mut-clause-went : goal.returns-in-Some-index_mut-clause-went
returns-in-Some-index_mut-clause-went c =
    let fits : SFits w64 c.args.key = search rules in
    goes_within c.args.self.now c.self.inside.slots.items c.args.t.0 (Queues c.args.c) (Queues c.args.c) (queued_as c.args.class c.args.key) c.in-Some.i c.in-Some-index_mut.home c.requeue.new.self c.index_mut.result.now
    refl c.self.view_is c.in-Some.ensures.slot c.index_mut.ensures.value c.in-Some-index_mut.is
    (subst (λ k. HomeWent c.args.t.0 (Queues c.args.c) (Queues c.args.c) (queued_as c.args.class k) c.in-Some-index_mut.home c.requeue.new.self) (to_z-of_z w64 c.args.key fits) c.requeue.ensures.moved)

pub returns-in-Some-index_mut-clause-queued : goal.returns-in-Some-index_mut-clause-queued
returns-in-Some-index_mut-clause-queued c =
    c.requeue.ensures.queued
    ∙ ap (λ o. is_some (taken_from c.args.t.0 (Queues c.args.c) o))
    (sym (held_here c.args.self.now c.self.inside.slots.items (Cpu c.args.c) c.in-Some.i c.in-Some-index_mut.home c.index_mut.result.now c.self.view_is c.in-Some.ensures.slot c.index_mut.ensures.value c.in-Some-index_mut.is))

pub known-requires-in-Some-index_mut : goal.known-requires-in-Some-index_mut
known-requires-in-Some-index_mut c =
    let number = number_here c.args.self.now c.self.inside.slots.items (Cpu c.args.c) c.in-Some.i c.in-Some-index_mut.home c.index_mut.result.now c.self.view_is c.in-Some.ensures.slot c.index_mut.ensures.value c.in-Some-index_mut.is in
    c.is_of_kind.ensures number
