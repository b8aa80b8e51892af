use Rattle.std.proofs.Common.{◌≡◌, ◌<◌, length, sym, subst, arith}
use Rattle.sd_state.specs.declared.states.LockState.TheVariants.{Free}
use Rattle.sd_world.proofs.ListLemmas.{all_made, one_more}
use Rattle.sd_world.proofs.parts.locks_of.Goals as goal

pub loop-l-init : goal.loop-l-init
loop-l-init c s told many = c.new-locks.ensures.items

pub lock_of-requires : goal.lock_of-requires
lock_of-requires c = c.requires

pub loop-l-preserved : goal.loop-l-preserved
loop-l-preserved c s told many =
    let inside : c.loop-l.l < length s.locks = subst (λ n. c.loop-l.l < n) (sym many) c.loop-l-test.true in
    one_more s.locks c.loop-l.locks.items c.push.new.self.items c.loop-l.l c.lock_of.result Free inside (c.loop-l.invariant s told many) (c.lock_of.ensures s told) c.in_ok-push.ensures.items

pub returns : goal.returns
returns c s told many =
    let high = c.loop-l-test.false in
    let end = c.loop-l.auto.l-end in
    let last : c.loop-l.l ≡ length s.locks = omega (arith, many) in
    all_made s.locks c.loop-l.locks.items c.loop-l.l last (c.loop-l.invariant s told many)
