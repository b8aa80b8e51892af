use Rattle.std.proofs.Common.{◌≡◌, is_some, sym, ap, ◌∙◌}
use Rattle.sd_types.specs.declared.numbers.HomeId.TheVariants.{Cpu}
use Rattle.sd_record.specs.Records.{ThreadRecord}
use Rattle.sd_store.specs.Bodies.{changed}
use Rattle.sd_homes.specs.declared.list_id.ListId.TheVariants.{Runs}
use Rattle.sd_homes.specs.Bodies.{CanChangeThread}
use Rattle.sd_homes.specs.Families.{taken_from}
use Rattle.sd_homes.specs.Homes.{with_body_of}
use Rattle.sd_hand.proofs.GuideLemmas.{held_here}
use Rattle.sd_hand.proofs.OrderLemmas.{number_here, slots_changed}
use Rattle.sd_hand.proofs.RunLemmas.{home_keeps, runs_changed}
use Rattle.sd_hand.proofs.hand.Hand.change_running.Goals as goal

pub invariant_of-self : goal.invariant_of-self
invariant_of-self c =
    slots_changed c.self.inside.slots.items c.in-Some.i c.in-Some-index_mut.home c.change_running.new.self c.index_mut.result.now c.self.invariant c.index_mut.ensures.value c.in-Some-index_mut.is
    (home_keeps c.args.t.0 c.args.c (λ (r : ThreadRecord) (q : ThreadRecord). CanChangeThread c.args.work.now c.args.t.0 c.args.change r.body → q ≡ with_body_of (changed c.args.work.now c.args.t.0 c.args.change r.body) r)
    c.in-Some-index_mut.home c.change_running.new.self c.change_running.ensures.changed)

pub returns-in-Some-index_mut-clause-changed : goal.returns-in-Some-index_mut-clause-changed
returns-in-Some-index_mut-clause-changed c =
    runs_changed c.args.self.now c.self.inside.slots.items c.args.t.0 c.args.c c.in-Some.i c.in-Some-index_mut.home c.change_running.new.self c.index_mut.result.now
    (λ (r : ThreadRecord) (q : ThreadRecord). CanChangeThread c.args.work.now c.args.t.0 c.args.change r.body → q ≡ with_body_of (changed c.args.work.now c.args.t.0 c.args.change r.body) r)
    c.self.view_is c.in-Some.ensures.slot c.index_mut.ensures.value c.in-Some-index_mut.is c.change_running.ensures.changed

pub returns-in-Some-index_mut-clause-runs : goal.returns-in-Some-index_mut-clause-runs
returns-in-Some-index_mut-clause-runs c =
    c.change_running.ensures.runs
    ∙ ap (λ o. is_some (taken_from c.args.t.0 (Runs c.args.c) o))
    (sym (held_here c.args.self.now c.self.inside.slots.items (Cpu c.args.c) c.in-Some.i c.in-Some-index_mut.home c.index_mut.result.now c.self.view_is c.in-Some.ensures.slot c.index_mut.ensures.value c.in-Some-index_mut.is))

pub known-requires-in-Some-index_mut : goal.known-requires-in-Some-index_mut
known-requires-in-Some-index_mut c =
    let number = number_here c.args.self.now c.self.inside.slots.items (Cpu c.args.c) c.in-Some.i c.in-Some-index_mut.home c.index_mut.result.now c.self.view_is c.in-Some.ensures.slot c.index_mut.ensures.value c.in-Some-index_mut.is in
    c.is_of_kind.ensures number
