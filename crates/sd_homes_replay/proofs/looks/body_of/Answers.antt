use Rattle.std.proofs.Common.{length, sym, ap}
use Rattle.sd_state.specs.declared.states.ThreadState.{ThreadState}
use Rattle.sd_world.specs.Plain.{told}
use Rattle.sd_world.proofs.PlainLemmas.{shown}
use Rattle.sd_homes_replay.proofs.LookLemmas.{nobody}
use Rattle.sd_homes_replay.proofs.looks.body_of.Goals as goal

pub returns-in-Ok : goal.returns-in-Ok
returns-in-Ok c =
    let w = c.args.work.now in
    let x = c.args.world.now in
    c.in-Ok.ensures.value (length x.entries.items) (told w x) (shown w x c.requires.stands)

pub returns-in-Err : goal.returns-in-Err
returns-in-Err c = sym (ap (λ (y : ThreadState). y.body) (nobody c.args.work.now c.args.world.now c.requires.stands c.args.t c.in-Err.field-0 c.in-Err.ensures.lack))
