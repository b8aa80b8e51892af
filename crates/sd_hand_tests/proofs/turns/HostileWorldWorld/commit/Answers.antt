use Rattle.std.proofs.Common.{◌≡◌, ◌++◌, ◌∷◌, [], length, refl, sym, ap, ◌∙◌, subst}
use Rattle.std.proofs.lemmas.List.{append-nil}
use Rattle.sd_world.specs.declared.plain.PlainWorld.{PlainWorld}
use Rattle.sd_world.specs.Entries.{CanEnter, Enters}
use Rattle.sd_world.specs.Worlds.{CanCommit}
use Rattle.sd_world.proofs.WorldLemmas.{begins_same}
use Rattle.sd_hand_tests.specs.Hostile.{hostile_meaning}
use Rattle.sd_hand_tests.proofs.CallLemmas.{unshared}
use Rattle.sd_hand_tests.proofs.HostileLemmas.{entered, may_enter, same_cpu}
use Rattle.sd_hand_tests.proofs.turns.HostileWorldWorld.commit.Goals as goal

pub enter_from-requires-clause-can : goal.enter_from-requires-clause-can
enter_from-requires-clause-can c =
    let x = c.args.self.now in
    let can = c.requires.can in
    let own = subst (λ v. CanCommit (hostile_meaning x) v c.args.event c.args.hints) can.work can in
    subst (λ v. CanEnter v x.near x.inner.actors.items x.inner.entries.items c.args.event c.args.hints) (sym can.work) (may_enter x c.args.event c.args.hints c.requires.good own)

pub returns-clause-good : goal.returns-clause-good
returns-clause-good c =
    let x = c.args.self.now in
    let i = c.enter_from.new.self in
    let near = c.enter_from.new.acting in
    let can = c.requires.can in
    let rest = c.enter_from.ensures.rest in
    let own = subst (λ v. CanCommit (hostile_meaning x) v c.args.event c.args.hints) can.work can in
    let made = subst (λ v. Enters v x.near near x.inner.actors.items i.actors.items x.inner.entries.items i.entries.items c.args.event c.args.hints) can.work c.enter_from.ensures.enters in
    entered x near c.args.event c.args.hints i.actors.items i.entries.items c.requires.good (may_enter x c.args.event c.args.hints c.requires.good own) made
    (record x { inner = record i { acting = record i.acting { actor = near.actor } }; near = near }) refl
    (ap (λ (p : PlainWorld). record p.acting { actor = near.actor }) rest) (ap (λ (p : PlainWorld). p.work) rest) refl refl refl

pub returns-clause-commits : goal.returns-clause-commits
returns-clause-commits c =
    let x = c.args.self.now in
    let i = c.enter_from.new.self in
    let near = c.enter_from.new.acting in
    let can = c.requires.can in
    let rest = c.enter_from.ensures.rest in
    let es = x.inner.entries.items in
    let own = subst (λ v. CanCommit (hostile_meaning x) v c.args.event c.args.hints) can.work can in
    let made = subst (λ v. Enters v x.near near x.inner.actors.items i.actors.items x.inner.entries.items i.entries.items c.args.event c.args.hints) can.work c.enter_from.ensures.enters in
    let number : length es ≡ c.len-number.result = sym c.len-number.ensures in
    let log = made.entries ∙ ap (λ k. es ++ record { number = k; cpu = x.near.actor.cpu; event = c.args.event; hints = c.args.hints } ∷ []) number in
    record {
      run = es;
      made = record {
        begins = begins_same es;
        still = λ e. refl;
        number = number;
        step = can.makes es c.requires.good.good.stands;
        log = log;
        after = ([], log ∙ sym (append-nil _));
        after_still = λ e. log;
      };
      quiet = record { stops = refl; notes = refl; misses = refl };
      table = refl;
      work = ap (λ (p : PlainWorld). p.work.now) rest;
      alone = refl;
      all = refl;
      cpu = same_cpu x near c.args.event c.args.hints i.actors.items i.entries.items c.requires.good (may_enter x c.args.event c.args.hints c.requires.good own) made;
      held = made.has;
      unhinted = unshared x;
    }
