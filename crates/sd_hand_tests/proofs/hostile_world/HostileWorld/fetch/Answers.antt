use Rattle.std.proofs.Common.{refl}
use Rattle.sd_hand_tests.proofs.HostileLemmas.{not_gone, not_refused}
use Rattle.sd_hand_tests.proofs.hostile_world.HostileWorld.fetch.Goals as goal

pub unreachable-requires : goal.unreachable-requires
unreachable-requires c = not_gone c.args.self.now c.args.k c.requires.good c.requires.can c.in-None.ensures.none.0

pub unreachable-requires-in-Err : goal.unreachable-requires-in-Err
unreachable-requires-in-Err c = not_refused c.args.self.now c.args.k c.in-Some.home c.requires.can c.in-Some.ensures.some.0 c.in-Err.ensures.refused.2

pub returns-clause-moves : goal.returns-clause-moves
returns-clause-moves c = (
  c.in-Some.home,
  c.in-Some.ensures.some.0,
  record {
    near = c.in-Ok.ensures.held;
    others = c.in-Some.ensures.some.1;
    more = c.in-Ok.ensures.count.0;
    fewer = c.in-Some.ensures.count.0;
    room = c.in-Some.ensures.count.1;
    rest = refl;
  },
)

pub returns-clause-apart : goal.returns-clause-apart
returns-clause-apart c = c.in-Some.ensures.apart
