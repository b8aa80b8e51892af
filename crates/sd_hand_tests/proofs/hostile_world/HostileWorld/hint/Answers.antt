use Rattle.std.proofs.Common.{is_some, ap}
use Rattle.sd_hand_tests.proofs.CallLemmas.{shows}
use Rattle.sd_hand_tests.proofs.HostileLemmas.{cpu_others, many_of, near_in_run, near_shown, others_in_run, others_shown, state_of}
use Rattle.sd_hand_tests.proofs.hostile_world.HostileWorld.hint.Goals as goal

pub shown_hint-requires-clause-stands : goal.shown_hint-requires-clause-stands
shown_hint-requires-clause-stands c = near_in_run c.args.self.now c.requires.good.stands

pub shown_hint-requires-clause-home : goal.shown_hint-requires-clause-home
shown_hint-requires-clause-home c = ap is_some c.in-Ok.ensures.1

pub shown_hint-requires-in-Err-clause-stands : goal.shown_hint-requires-in-Err-clause-stands
shown_hint-requires-in-Err-clause-stands c = others_in_run c.args.self.now c.requires.good.stands c.requires.good.actor

pub shown_hint-requires-in-Err-clause-home : goal.shown_hint-requires-in-Err-clause-home
shown_hint-requires-in-Err-clause-home c = cpu_others c.args.self.now c.args.d c.requires.good c.requires.cpu c.in-Err.ensures.1

pub returns-in-Ok : goal.returns-in-Ok
returns-in-Ok c = shows c.args.self.now c.args.which c.args.d c.shown_hint.result (c.shown_hint.ensures (many_of c.args.self.now) (state_of c.args.self.now) (near_shown c.args.self.now c.requires.good.stands))

pub returns-in-Err : goal.returns-in-Err
returns-in-Err c = shows c.args.self.now c.args.which c.args.d c.shown_hint-in-Err.result (c.shown_hint-in-Err.ensures (many_of c.args.self.now) (state_of c.args.self.now) (others_shown c.args.self.now c.requires.good.stands c.requires.good.actor))
