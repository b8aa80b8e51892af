use Rattle.std.proofs.Common.{arith}
use Rattle.sd_world.proofs.PlainLemmas.{has_cpu, in_run}
use Rattle.sd_shared_table.proofs.WordLemmas.{hints_first, hints_next}
use Rattle.sd_shared_table.proofs.words.push_hints.Goals as goal

pub loop-c-init : goal.loop-c-init
loop-c-init c = hints_first c.args.words.now.items

pub shown_hint-running-requires-clause-stands : goal.shown_hint-running-requires-clause-stands
shown_hint-running-requires-clause-stands c = in_run c.args.work.now c.args.world.now c.requires.stands

pub shown_hint-running-requires-clause-home : goal.shown_hint-running-requires-clause-home
shown_hint-running-requires-clause-home c = let test = c.loop-c-test.true in has_cpu c.args.work.now c.args.world.now c.requires.stands (record { 0 = c.loop-c.c }) (omega (arith, test))

pub shown_hint-queued-requires-clause-stands : goal.shown_hint-queued-requires-clause-stands
shown_hint-queued-requires-clause-stands c = in_run c.args.work.now c.args.world.now c.requires.stands

pub shown_hint-queued-requires-clause-home : goal.shown_hint-queued-requires-clause-home
shown_hint-queued-requires-clause-home c = let test = c.loop-c-test.true in has_cpu c.args.work.now c.args.world.now c.requires.stands (record { 0 = c.loop-c.c }) (omega (arith, test))

pub loop-c-preserved : goal.loop-c-preserved
loop-c-preserved c =
    hints_next c.args.words.now.items c.loop-c.words.items c.push.new.self.items c.push-in-loop-c.new.self.items c.loop-c.c c.from.result c.from-in-loop-c.result c.loop-c.invariant
    (let e = c.from.ensures in let r = c.shown_hint-running.type_inv in omega (arith, e, r)) (let e = c.from-in-loop-c.ensures in let r = c.shown_hint-queued.type_inv in omega (arith, e, r)) c.in_ok-push.ensures.items c.in_ok-push-2.ensures.items
