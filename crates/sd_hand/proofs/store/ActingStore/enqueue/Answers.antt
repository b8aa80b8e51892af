use Rattle.std.proofs.Common.{◌+◌, sym, ap, ◌∙◌, subst}
use Rattle.std.proofs.Math.Nat.{le-add_right}
use Rattle.sd_state.specs.declared.states.ThreadState.{ThreadState}
use Rattle.sd_state.specs.States.{thread_of}
use Rattle.sd_machine.specs.Changes.{place_put}
use Rattle.sd_homes.specs.Standing.{look_of, record_of, without, MayCome}
use Rattle.sd_homes.specs.Families.{list_in}
use Rattle.sd_hand.specs.declared.acting.Acting.{Acting}
use Rattle.sd_hand.specs.Acting.{IsShown}
use Rattle.sd_hand.specs.Hands.{IsHeld, IsRoom}
use Rattle.sd_hand.specs.Shown.{IsListThere}
use Rattle.sd_hand.specs.Steps.{stepped}
use Rattle.sd_hand.specs.declared.steps.Step.TheVariants.{Move}
use Rattle.sd_hand.proofs.GoLemmas.{put_list, put_may, put_room, put_there}
use Rattle.sd_hand.proofs.store.ActingStore.enqueue.Goals as goal

pub returns-in-Ok-relocate_found-clause-value : goal.returns-in-Ok-relocate_found-clause-value
returns-in-Ok-relocate_found-clause-value c s sh can =
    let n = c.args.number in
    let t = c.args.t.0 in
    let w = c.args.work.now in
    let old = thread_of s t in
    let z : ThreadState = record old { place = place_put w n t c.args.at } in
    c.in-Ok-relocate_found.ensures.value.shown n (n + 1) s z sh (le-add_right n 1)
    (put_list w n c.args.t c.args.at old.body.last ∙ sym c.list_put-to.ensures)
    (ap (λ p. stepped (Move p) (record_of t old)) (sym c.place_put-place.ensures))
    (subst (λ sp. MayCome n (n + 1) (without t (look_of s)) sp z) (sym c.list_put-to.ensures) (put_may w n c.args.t c.args.at (without t (look_of s)) old.body))
    (subst IsListThere (sym c.list_put-to.ensures) (put_there w c.args.t c.args.at))

pub returns-in-Ok-relocate_found-clause-has : goal.returns-in-Ok-relocate_found-clause-has
returns-in-Ok-relocate_found-clause-has c =
    let a = c.in-Ok.ensures in
    c.in-Ok-relocate_found.ensures.has (subst (λ k. IsHeld k c.args.self.now.hand.slots) c.home_at.ensures (a.0, a.1))
    (subst IsListThere (sym c.list_put-to.ensures) (put_there c.args.work.now c.args.t c.args.at))
    (λ from h e. subst (λ sp. IsRoom sp (list_in h c.list_put-to.result)) (sym c.list_put-to.ensures) (put_room c.args.work.now c.args.t c.args.at (list_in h c.list_put-to.result)))

pub returns-in-Err-relocate_found-clause-kept : goal.returns-in-Err-relocate_found-clause-kept
returns-in-Err-relocate_found-clause-kept c n s sh = subst (λ (y : Acting). IsShown y n s) (sym c.in-Err-relocate_found.ensures.kept) sh
