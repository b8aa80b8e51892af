use Rattle.std.proofs.Common.{map, refl, sym, ap, ◌∙◌, subst}
use Rattle.sd_machine.specs.Hints.{hint_shown}
use Rattle.sd_world.specs.Plain.{AreCpus, plain_meaning, told}
use Rattle.sd_world.specs.Worlds.{AllHinted}
use Rattle.sd_world.proofs.WorldLemmas.{all_hinted, quiet_same, stays_same}
use Rattle.sd_world.proofs.turns.PlainWorldWorld.hints.Goals as goal

pub numbers-requires-clause-there : goal.numbers-requires-clause-there
numbers-requires-clause-there c = subst (AreCpus c.args.work.now) (sym c.as_slice.ensures.value) c.requires.there

pub returns-clause-reads : goal.returns-clause-reads
returns-clause-reads c =
    let x = c.args.self.now in
    let m = plain_meaning x in
    let kind = c.args.reading.now.which in
    let cpus = c.args.reading.now.cpus.items in
    let is = c.numbers.ensures ∙ ap (λ w. map (hint_shown (told w x) kind) c.as_slice.result.now) c.requires.work ∙ ap (map (hint_shown (told x.work.now x) kind)) c.as_slice.ensures.value in
    record {
      stays = stays_same m;
      quiet = quiet_same m;
      acting = refl;
      which = refl;
      hinted = subst (AllHinted m kind cpus) (sym is) (all_hinted x kind cpus);
      own = λ e. is;
    }
