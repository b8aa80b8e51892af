use Rattle.sd_cpu.proofs.AttemptLemmas as M
use Rattle.sd_cpu.proofs.attempts.make.Goals as goal

pub holds_touched-requires-clause-way : goal.holds_touched-requires-clause-way
holds_touched-requires-clause-way g c = M.on_its_way (g.W.World.meaning c.args.world.now) c.args.event c.args.hints c.requires.held c.requires.makes

pub enter-requires-clause-comes : goal.enter-requires-clause-comes
enter-requires-clause-comes g c =
    M.comes_held (g.W.World.meaning c.args.world.now) (g.W.World.meaning c.holds_touched.new.world) c.args.event c.args.hints c.if-holds_touched.ensures.holds.0 c.requires.comes

pub enter-requires-clause-makes : goal.enter-requires-clause-makes
enter-requires-clause-makes g c =
    M.makes_later (g.W.World.meaning c.args.world.now) (g.W.World.meaning c.holds_touched.new.world) c.args.event c.args.hints c.if-holds_touched.ensures.holds.0 c.requires.makes

pub enter-requires-clause-holds : goal.enter-requires-clause-holds
enter-requires-clause-holds g c = c.if-holds_touched.ensures.holds.1

pub returns-then-holds_touched-clause-enters : goal.returns-then-holds_touched-clause-enters
returns-then-holds_touched-clause-enters g c =
    M.enters_held (g.W.World.meaning c.args.world.now) (g.W.World.meaning c.holds_touched.new.world) (g.W.World.meaning c.enter.new.world) _ c.enter.result c.if-holds_touched.ensures.holds.0 c.enter.ensures.enters

pub returns-else-holds_touched-clause-enters : goal.returns-else-holds_touched-clause-enters
returns-else-holds_touched-clause-enters g c = M.hindered_held (g.W.World.meaning c.args.world.now) (g.W.World.meaning c.holds_touched.new.world) c.if-holds_touched.ensures.holds
