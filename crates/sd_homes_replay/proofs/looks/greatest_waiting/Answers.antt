use Rattle.std.proofs.Common.{length}
use Rattle.sd_store.specs.Parts.{chain_part}
use Rattle.sd_world.specs.Plain.{told}
use Rattle.sd_world.proofs.PlainLemmas.{shown}
use Rattle.sd_homes_replay.proofs.LookLemmas.{not_lacking}
use Rattle.sd_footprint.proofs.ThereLemmas.{chain_there}
use Rattle.sd_homes_replay.proofs.looks.greatest_waiting.Goals as goal

pub unreachable-requires : goal.unreachable-requires
unreachable-requires c = not_lacking c.args.work.now c.args.world.now c.requires.stands (chain_part c.args.l) (chain_there c.args.l) c.in-Err.field-0 c.in-Err.ensures.lack

pub returns : goal.returns
returns c =
    let w = c.args.work.now in
    let x = c.args.world.now in
    c.in-Ok.ensures.value (length x.entries.items) (told w x) (shown w x c.requires.stands)
