use Rattle.std.proofs.Common.{map, refl, sym, ap, ◌∙◌, subst}
use Rattle.sd_world.specs.Plain.{AreCpus}
use Rattle.sd_world.specs.Worlds.{AllHinted}
use Rattle.sd_world.proofs.WorldLemmas.{quiet_same, stays_same}
use Rattle.sd_hand_tests.specs.Hostile.{hint_in, hostile_meaning}
use Rattle.sd_hand_tests.proofs.CallLemmas.{hints_are, hints_may}
use Rattle.sd_hand_tests.proofs.turns.HostileWorldWorld.hints.Goals as goal

pub numbers-requires-clause-there : goal.numbers-requires-clause-there
numbers-requires-clause-there c = subst (λ w. AreCpus w c.as_slice.result.now) c.requires.work (subst (AreCpus c.args.work.now) (sym c.as_slice.ensures.value) c.requires.there)

pub returns-clause-reads : goal.returns-clause-reads
returns-clause-reads c =
    let x = c.args.self.now in
    let m = hostile_meaning x in
    let kind = c.args.reading.now.which in
    let cpus = c.args.reading.now.cpus.items in
    let is = c.numbers.ensures ∙ ap (map (hint_in x kind)) c.as_slice.ensures.value in
    record {
      stays = stays_same m;
      quiet = quiet_same m;
      acting = refl;
      which = refl;
      hinted = subst (AllHinted m kind cpus) (sym is) (hints_may x kind cpus);
      own = λ e. is ∙ hints_are x kind cpus;
    }
