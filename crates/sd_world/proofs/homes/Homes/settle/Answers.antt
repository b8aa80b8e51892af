use Rattle.std.proofs.Common.{◌≡◌, ◌∙◌, ◌<◌, ap, length, subst, arith}
use Rattle.sd_world.proofs.ComeLemmas.{few_threads, settles_first, settles_last, settles_next, sound_at, thread_at}
use Rattle.sd_world.proofs.homes.Homes.settle.Goals as goal

pub loop-t-init : goal.loop-t-init
loop-t-init c = settles_first c.args.number c.args.s.now c.args.self.now c.requires.bare

pub traveller_of-requires-clause-number : goal.traveller_of-requires-clause-number
traveller_of-requires-clause-number c = few_threads c.args.work.now c.args.number c.args.s.now c.items-threads.result.now c.loop-t.t c.requires.reached c.items-threads.ensures c.loop-t-test.true

pub traveller_of-requires-clause-sound : goal.traveller_of-requires-clause-sound
traveller_of-requires-clause-sound c =
    sound_at c.args.work.now c.args.number c.args.s.now c.items-threads.result.now c.loop-t.t c.index-threads-t.result c.requires.reached c.items-threads.ensures c.loop-t-test.true c.index-threads-t.is

pub returns-in_err-traveller_of-clause-all : goal.returns-in_err-traveller_of-clause-all
returns-in_err-traveller_of-clause-all c = c.loop-t.invariant.all

pub returns-in_err-traveller_of-clause-sizes : goal.returns-in_err-traveller_of-clause-sizes
returns-in_err-traveller_of-clause-sizes c = c.loop-t.invariant.sizes

pub loop-t-preserved : goal.loop-t-preserved
loop-t-preserved c =
    settles_next c.args.work.now c.args.number c.args.s.now c.loop-t.t c.index-threads-t.result c.args.self.now c.loop-t.self c.put.new.self c.list_at.result c.in_ok-traveller_of.field-0 c.requires.reached
    (subst (λ xs. c.loop-t.t < length xs) c.items-threads.ensures c.loop-t-test.true)
    (thread_at c.args.s.now c.items-threads.result.now c.loop-t.t c.index-threads-t.result c.items-threads.ensures c.loop-t-test.true c.index-threads-t.is)
    c.loop-t.invariant c.list_at.ensures c.in_ok-traveller_of.ensures c.put.ensures.moved c.put.ensures.sizes

pub returns-clause-shows : goal.returns-clause-shows
returns-clause-shows c =
    let high = c.loop-t-test.false in
    let end = c.loop-t.auto.t-end in
    let last : c.loop-t.t ≡ length c.items-threads.result.now = omega arith in
    settles_last c.args.number c.args.s.now c.loop-t.t c.args.self.now c.loop-t.self (last ∙ ap length c.items-threads.ensures) c.loop-t.invariant

pub returns-clause-all : goal.returns-clause-all
returns-clause-all c = c.loop-t.invariant.all

pub returns-clause-sizes : goal.returns-clause-sizes
returns-clause-sizes c = c.loop-t.invariant.sizes
