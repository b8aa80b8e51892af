use Rattle.std.proofs.Common.{length}
use Rattle.sd_world.specs.Plain.{told}
use Rattle.sd_world.proofs.PlainLemmas.{has_cpu, in_run, shown}
use Rattle.sd_rounds.proofs.survey.number_of.Goals as goal

pub shown_hint-requires-clause-stands : goal.shown_hint-requires-clause-stands
shown_hint-requires-clause-stands c = in_run c.args.work.now c.args.world.now c.requires.stands

pub shown_hint-requires-clause-home : goal.shown_hint-requires-clause-home
shown_hint-requires-clause-home c = has_cpu c.args.work.now c.args.world.now c.requires.stands c.args.d c.requires.cpu

pub returns : goal.returns
returns c =
    let w = c.args.work.now in
    let x = c.args.world.now in
    c.shown_hint.ensures (length x.entries.items) (told w x) (shown w x c.requires.stands)
