use Rattle.std.proofs.Common.{◌≡◌, ◌++◌, ◌∷◌, [], length, refl, sym, ap, ◌∙◌, subst}
use Rattle.std.proofs.lemmas.Bool.{false≢true}
use Rattle.std.proofs.lemmas.List.{append-nil}
use Rattle.sd_types.specs.declared.works.Work.{Work}
use Rattle.sd_world.specs.Plain.{Stands}
use Rattle.sd_world.proofs.WorldLemmas.{begins_same, plain_good}
use Rattle.sd_world.proofs.turns.PlainWorldWorld.commit.Goals as goal

pub returns-clause-good : goal.returns-clause-good
returns-clause-good c =
    let y = c.make.new.self in
    plain_good y (subst (λ (w : Work). Stands w y) (c.requires.can.work ∙ sym (ap (λ b. b.now) c.make.ensures.work)) c.make.ensures.stands)

pub returns-clause-commits : goal.returns-clause-commits
returns-clause-commits c =
    let x = c.args.self.now in
    let es = x.entries.items in
    let number : length es ≡ c.len-number.result = sym c.len-number.ensures in
    let log = c.make.ensures.entries ∙ ap (λ k. es ++ record { number = k; cpu = x.acting.actor.cpu; event = c.args.event; hints = c.args.hints } ∷ []) number in
    record {
      run = es;
      made = record {
        begins = begins_same es;
        still = λ e. refl;
        number = number;
        step = c.requires.can.makes es c.requires.good.good.stands;
        log = log;
        after = ([], log ∙ sym (append-nil _));
        after_still = λ e. log;
      };
      quiet = record { stops = refl; notes = refl; misses = refl };
      table = refl;
      work = ap (λ b. b.now) c.make.ensures.work;
      alone = refl;
      all = refl;
      cpu = c.make.ensures.cpu;
      held = c.make.ensures.has;
      unhinted = λ e. absurd (false≢true (sym e));
    }
