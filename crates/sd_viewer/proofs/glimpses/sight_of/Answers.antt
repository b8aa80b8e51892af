use Rattle.std.proofs.Common.{◌∙◌}
use Rattle.sd_state.specs.States.{no_body, thread_of}
use Rattle.sd_world.specs.Plain.{told}
use Rattle.sd_viewer.proofs.GlimpseLemmas.{sight_same}
use Rattle.sd_viewer.proofs.glimpses.sight_of.Goals as goal

pub returns-in-Some : goal.returns-in-Some
returns-in-Some c =
    let x = thread_of (told c.args.work.now c.args.world.now) c.args.t.0 in
    c.sight_by.ensures ∙ sight_same x c.in-Some.body.now c.spot_of.result c.doing_at-doing.result c.in-Some.ensures c.spot_of.ensures c.doing_at-doing.ensures

pub returns-in-None : goal.returns-in-None
returns-in-None c =
    let x = thread_of (told c.args.work.now c.args.world.now) c.args.t.0 in
    sight_same x no_body c.spot_of.result c.doing_at-doing.result c.in-None.ensures c.spot_of.ensures c.doing_at-doing.ensures
