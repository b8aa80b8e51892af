use Rattle.std.proofs.Common.{◌≤◌, subst, arith}
use Rattle.std.proofs.lemmas.Option.{get_or_from_slice_get, slice_get_within}
use Rattle.sd_hand.specs.declared.acting.Actor.{Actor}
use Rattle.sd_world.specs.Plain.{no_actor}
use Rattle.sd_world.proofs.turns.first_behind.Goals as goal

pub returns : goal.returns
returns c = λ i a at.
    let high = c.loop-i-test.false in
    let inside = slice_get_within c.args.actors.now i a at in
    subst (λ (x : Actor). c.args.count ≤ x.count) (get_or_from_slice_get c.args.actors.now i a no_actor at) (c.loop-i.invariant i (omega (arith, inside, high)))
