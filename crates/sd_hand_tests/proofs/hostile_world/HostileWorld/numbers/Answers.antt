use Rattle.std.proofs.lemmas.List.Elements.{Contains-get_or}
use Rattle.sd_hand_tests.proofs.hostile_world.HostileWorld.numbers.Goals as goal

pub hint-requires-clause-cpu : goal.hint-requires-clause-cpu
hint-requires-clause-cpu c = c.requires.there _ (Contains-get_or c.args.cpus.now c.loop-d.d-index (record { 0 = 0 }) c.loop-d-test.true)
