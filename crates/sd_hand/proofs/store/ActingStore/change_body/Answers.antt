use Rattle.std.proofs.Common.{◌≡◌, refl, sym, ap, ◌∙◌, subst, le_refl}
use Rattle.sd_state.specs.declared.states.ThreadState.{ThreadState}
use Rattle.sd_state.specs.States.{thread_of}
use Rattle.sd_store.specs.Bodies.{changed}
use Rattle.sd_homes.specs.Standing.{list_at, record_of}
use Rattle.sd_homes.specs.Homes.{with_body_of}
use Rattle.sd_hand.specs.declared.acting.Acting.{Acting}
use Rattle.sd_hand.specs.Acting.{IsShown, has_part}
use Rattle.sd_hand.specs.Hands.{HandSlots}
use Rattle.sd_hand.proofs.ActLemmas.{move_carried, same_has}
use Rattle.sd_hand.proofs.GoLemmas.{can_change, changed_last}
use Rattle.sd_hand.proofs.MoveLemmas.{comes_back, is_there}
use Rattle.sd_hand.proofs.TellLemmas.{found_at, found_held, found_record}
use Rattle.sd_hand.proofs.store.ActingStore.change_body.Goals as goal

pub returns-in-Ok-clause-value : goal.returns-in-Ok-clause-value
returns-in-Ok-clause-value c n s sh can =
    let x = c.args.self.now in
    let t = c.args.t.0 in
    let all = c.in-Ok.ensures.changed in
    let made = all.changed in
    let sp = made.at in
    let w = c.args.work.now in
    let y : Acting = record x { hand = c.change.new.self } in
    let old = thread_of s t in
    let z : ThreadState = record old { body = changed w t c.args.change old.body } in
    let at = found_at x n s sh t sp made.stands in
    let is = found_held x n s sh t sp made.stands in
    let last = changed_last w t c.args.change old.body in
    move_carried x y n n s t sp sp z (with_body_of (changed w t c.args.change old.body) (record_of t old)) refl
    (made.moved (record_of t old) (sym (found_record x n s sh t sp made.stands)) (can_change w s c.args.t c.args.change can))
    (all.apart sh.apart) (le_refl n) at (ap (λ l. list_at l old.place) last ∙ at.list) refl
    (comes_back n s t sp z x.hand.slots sh.homes at is refl last) (is_there n s t sp x.hand.slots sh.homes at is) sh

pub returns-in-Ok-clause-has : goal.returns-in-Ok-clause-has
returns-in-Ok-clause-has c =
    let y : Acting = record c.args.self.now { hand = c.change.new.self } in
    same_has c.args.self.now y refl c.in-Ok.ensures.changed.homes c.in-Ok.ensures.changed.threads

pub returns-in-Err-clause-kept : goal.returns-in-Err-clause-kept
returns-in-Err-clause-kept c n s sh =
    let same : c.change.new.self ≡ c.args.self.now.hand = ap (λ hs. record { slots = hs }) c.in-Err.ensures.kept in
    subst (λ (h : HandSlots). IsShown (record c.args.self.now { hand = h }) n s) (sym same) sh

pub returns-in-Err-clause-has : goal.returns-in-Err-clause-has
returns-in-Err-clause-has c =
    let same : c.change.new.self ≡ c.args.self.now.hand = ap (λ hs. record { slots = hs }) c.in-Err.ensures.kept in
    ap (λ (h : HandSlots). has_part (record c.args.self.now { hand = h })) same
