use Rattle.std.proofs.Common.{Some, sym, ap, ◌∙◌, subst, arith}
use Rattle.std.proofs.lemmas.Option.{slice_get-get_or}
use Rattle.sd_hand.specs.Hands.{IsHeld}
use Rattle.sd_hand.proofs.CountLemmas.{any_held, none_counted}
use Rattle.sd_hand.proofs.hand.any_in.Goals as goal

pub returns-in-Some : goal.returns-in-Some
returns-in-Some c =
    let hs = c.args.slots.now in
    let r = c.index-slots-i.result in
    subst (λ k. IsHeld k hs) (sym c.id.ensures)
    (any_held c.in-Some.home hs c.loop-i.i (slice_get-get_or hs c.loop-i.i r c.loop-i-test.true ∙ ap Some (sym c.index-slots-i.is ∙ c.in-Some.is)))

pub returns : goal.returns
returns c =
    let high = c.loop-i-test.false in
    none_counted c.args.slots.now (λ j h. c.loop-i.invariant j (omega arith))
