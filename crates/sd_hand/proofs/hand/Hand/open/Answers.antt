use Rattle.std.proofs.Common.{◌≡◌, ap, ◌∙◌}
use Rattle.sd_basics.proofs.Results.{done, refused}
use Rattle.sd_types.specs.declared.numbers.HomeId.TheVariants.{RealTime}
use Rattle.sd_homes.specs.Families.{home_id, opened}
use Rattle.sd_hand.proofs.GuideLemmas.{held_here, kept_here, opened_keeps, slot_changed, slot_lost}
use Rattle.sd_hand.proofs.OrderLemmas.{slots_changed}
use Rattle.sd_hand.proofs.SlotLemmas.{either}
use Rattle.sd_hand.proofs.hand.Hand.open.Goals as goal

pub invariant_of-self : goal.invariant_of-self
invariant_of-self c =
    let home = c.in-Some-index_mut.home in
    slots_changed c.self.inside.slots.items c.in-Some.i home c.open.new.self c.index_mut.result.now c.self.invariant c.index_mut.ensures.value c.in-Some-index_mut.is
    (either c.open.result _ _ (home_id c.open.new.self ≡ home_id home) (λ made. ap home_id made ∙ opened_keeps c.args.c home) (λ full. ap home_id full.1) c.open.ensures.opened c.open.ensures.full)

pub returns-in-Some-index_mut-clause-opened : goal.returns-in-Some-index_mut-clause-opened
returns-in-Some-index_mut-clause-opened c =
    done c.open.result _ _
    (λ made. slot_changed c.args.self.now c.self.inside.slots.items (RealTime c.args.p) c.in-Some.i c.in-Some-index_mut.home c.open.new.self c.index_mut.result.now (opened c.args.c) c.self.view_is
    c.in-Some.ensures.slot c.index_mut.ensures.value c.in-Some-index_mut.is made)
    c.open.ensures.opened

pub returns-in-Some-index_mut-clause-full : goal.returns-in-Some-index_mut-clause-full
returns-in-Some-index_mut-clause-full c =
    let home = c.in-Some-index_mut.home in
    let hs = c.self.inside.slots.items in
    refused c.open.result _ _
    (λ full. (
      home,
      held_here c.args.self.now hs (RealTime c.args.p) c.in-Some.i home c.index_mut.result.now c.self.view_is c.in-Some.ensures.slot c.index_mut.ensures.value c.in-Some-index_mut.is,
      full.0,
      kept_here c.args.self.now hs c.in-Some.i home c.open.new.self c.index_mut.result.now c.self.view_is c.index_mut.ensures.value c.in-Some-index_mut.is full.1,
    ))
    c.open.ensures.full

pub returns-in_default-index_mut-clause-opened : goal.returns-in_default-index_mut-clause-opened
returns-in_default-index_mut-clause-opened c =
    slot_lost c.args.self.now c.self.inside.slots.items (RealTime c.args.p) c.in-Some.i c.index_mut.result.now (opened c.args.c) c.self.view_is c.in-Some.ensures.slot c.index_mut.ensures.value c.in_default-index_mut.is
