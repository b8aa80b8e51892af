use Rattle.std.proofs.Common.{length, ap, arith}
use Rattle.sd_viewer.proofs.GlimpseLemmas.{sight_past, sight_read}
use Rattle.sd_viewer.proofs.glimpses.sight_in.Goals as goal

pub returns-then-items-t : goal.returns-then-items-t
returns-then-items-t c = sight_past c.args.work.now c.args.world.now c.args.t (let many = ap length c.items.ensures in omega (arith, many))

pub returns : goal.returns
returns c = sight_read c.args.work.now c.args.world.now c.args.t c.sight_of.result (let many = ap length c.items.ensures in omega (arith, many)) c.sight_of.ensures
