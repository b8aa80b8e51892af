use Rattle.std.proofs.Common.{refl, sym}
use Rattle.sd_hand_tests.proofs.HostileLemmas.{has_room, not_lost}
use Rattle.sd_hand_tests.proofs.hostile_world.HostileWorld.give.Goals as goal

pub unreachable-requires : goal.unreachable-requires
unreachable-requires c = not_lost c.args.self.now c.args.k c.requires.held c.in-None.ensures.none.0

pub unreachable-requires-in-Err : goal.unreachable-requires-in-Err
unreachable-requires-in-Err c = has_room c.args.self.now c.args.k c.in-Some.home _ c.requires.good c.requires.held c.in-Some.ensures.some.0 c.in-Some.ensures.count.0 c.in-Err.ensures.refused.2

pub returns-clause-moves : goal.returns-clause-moves
returns-clause-moves c = (
  c.in-Some.home,
  record {
    near = c.in-Some.ensures.some.1;
    others = c.in-Ok.ensures.held;
    more = c.in-Some.ensures.count.0;
    fewer = c.in-Ok.ensures.count.0;
    room = sym c.in-Ok.ensures.count.1;
    rest = refl;
  },
)

pub returns-clause-apart : goal.returns-clause-apart
returns-clause-apart c = c.in-Some.ensures.apart
