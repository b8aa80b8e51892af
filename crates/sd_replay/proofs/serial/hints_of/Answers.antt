use Rattle.std.proofs.Common.{Option, List, ap, ◌∙◌}
use Rattle.sd_types.specs.declared.numbers.CpuId.{CpuId}
use Rattle.sd_types.specs.declared.events.Which.{Which}
use Rattle.sd_machine.specs.Runs.{shown}
use Rattle.sd_replay.proofs.Needed.{is_state}
use Rattle.sd_replay.proofs.serial.hints_of.Goals as goal

pub shown-requires : goal.shown-requires
shown-requires c = c.requires.fit.willed

pub returns : goal.returns
returns c =
    c.shown.ensures ∙ ap (λ (r : Option (Which × List CpuId)). shown c.args.s.now r) (c.in-Ok.ensures.value 0 c.args.s.now (is_state c.args.work.now c.args.s.now c.requires.fit))
