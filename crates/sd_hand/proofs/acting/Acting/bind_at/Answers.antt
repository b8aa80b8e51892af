use Rattle.std.proofs.Common.{refl, sym, le_refl}
use Rattle.sd_state.specs.declared.states.ThreadState.{ThreadState}
use Rattle.sd_state.specs.States.{thread_of}
use Rattle.sd_homes.specs.Standing.{record_of}
use Rattle.sd_homes.specs.Homes.{with_body_of}
use Rattle.sd_hand.specs.declared.acting.Acting.{Acting}
use Rattle.sd_hand.proofs.ActLemmas.{move_carried, same_has}
use Rattle.sd_hand.proofs.MoveLemmas.{comes_back, is_there, taken}
use Rattle.sd_hand.proofs.acting.Acting.bind_at.Goals as goal

pub returns-clause-value : goal.returns-clause-value
returns-clause-value c n s sh at is =
    let x = c.args.self.now in
    let t = c.args.t.0 in
    let sp = c.args.at in
    let y : Acting = record x { hand = c.bind_at.new.self } in
    let old = thread_of s t in
    let z : ThreadState = record old { body = record old.body { bound = c.args.bound } } in
    move_carried x y n n s t sp sp z (with_body_of (record old.body { bound = c.args.bound }) (record_of t old)) refl
    (c.bind_at.ensures.moved (record_of t old) (sym (taken n s t sp x.hand.slots at sh.homes is)))
    (c.bind_at.ensures.apart sh.apart) (le_refl n) at at.list refl
    (comes_back n s t sp z x.hand.slots sh.homes at is refl refl) (is_there n s t sp x.hand.slots sh.homes at is) sh

pub returns-clause-has : goal.returns-clause-has
returns-clause-has c =
    let y : Acting = record c.args.self.now { hand = c.bind_at.new.self } in
    same_has c.args.self.now y refl c.bind_at.ensures.held c.bind_at.ensures.has
