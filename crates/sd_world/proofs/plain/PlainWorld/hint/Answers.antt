use Rattle.std.proofs.Common.{length}
use Rattle.sd_world.specs.Plain.{told}
use Rattle.sd_world.proofs.PlainLemmas.{has_cpu, in_run, shown}
use Rattle.sd_world.proofs.plain.PlainWorld.hint.Goals as goal

pub shown_hint-requires : goal.shown_hint-requires
shown_hint-requires c = record {
  stands = in_run c.args.work.now c.args.self.now c.requires.stands;
  home = has_cpu c.args.work.now c.args.self.now c.requires.stands c.args.d c.requires.cpu;
}

pub returns : goal.returns
returns c = c.shown_hint.ensures (length c.args.self.now.entries.items) (told c.args.work.now c.args.self.now) (shown c.args.work.now c.args.self.now c.requires.stands)
