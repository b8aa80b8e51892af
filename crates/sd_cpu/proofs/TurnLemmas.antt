-- Attempts that made no entry, in front of one that was made.
use Rattle.std.proofs.Common.{◌≡◌, ℕ, ◌<◌, ◌≤◌, Bool, true, false, [], ◌∷◌, ◌++◌, length, Some, None, refl, ◌∙◌, subst}
use Rattle.sd_types.specs.declared.events.Stop.{Stop}
use Rattle.sd_types.specs.declared.events.Stop.TheVariants.{Full, Memory}
use Rattle.sd_types.specs.Events.{ticks}
use Rattle.sd_machine.specs.Events.{next, wish}
use Rattle.sd_machine.specs.Runs.{serial_hints}
use Rattle.sd_hand.specs.declared.acting.Actor.{Actor}
use Rattle.sd_types.specs.Limits.{most_entries}
use Rattle.sd_world.specs.Worlds.{Begins, Meaning, actor_of, after_run, entry_of}
use Rattle.sd_world.proofs.WorldLemmas.{begins_same, begins_then}
use Rattle.sd_cpu.specs.Attempts.{Idles, IsSameWorld, MakesOne, MayNotTick, Refuses, AttemptTakesTurn}
use Rattle.sd_cpu.specs.declared.attempts.Turned.{Turned}
use Rattle.sd_cpu.specs.declared.attempts.Turned.TheVariants.{Acted, Ticked, Behind, Finished}
use Rattle.sd_cpu.proofs.MeaningLemmas.{world_then}
use Rattle.sd_cpu.specs.Turns.{TakesTurn}

pub idles_same : (m : Meaning) → Idles m m
idles_same m = record {
  world = record { table = refl; work = refl; alone = refl; all = refl; cpu = refl };
  actor = refl;
  log = refl;
  begins = begins_same m.seen;
  still = λ e. refl;
}

module _ (m m' m'' : Meaning) (i : Idles m m') where
  pub idles_both : Idles m' m'' → Idles m m''
  idles_both j = record {
    world = world_then m m' m'' i.world j.world;
    actor = j.actor ∙ i.actor;
    log = j.log ∙ i.log;
    begins = begins_then m.seen m'.seen m''.seen i.begins j.begins;
    still = λ e. j.still (i.world.alone ∙ e) ∙ i.still e;
  }

  one_after : (n : ℕ) (b : Bool) → MakesOne m' m'' n b → MakesOne m m'' n b
  one_after n b x =
      let made = x.made in record {
        world = world_then m m' m'' i.world x.world;
        event = x.event;
        hints = x.hints;
        run = x.run;
        made = record {
          begins = begins_then m.seen m'.seen x.run i.begins made.begins;
          still = λ t. made.still (i.world.alone ∙ t) ∙ i.still t;
          number = made.number;
          step = subst (λ w. next w (after_run (record m { work = w }) x.run) (actor_of m) x.hints ≡ Some x.event) i.world.work
              (subst (λ (a : Actor). next m'.work (after_run m' x.run) a.cpu x.hints ≡ Some x.event) i.actor made.step);
          log = subst (λ (a : Actor). m''.log ≡ m.log ++ record { number = n; cpu = a.cpu; event = x.event; hints = x.hints } ∷ []) i.actor
              (subst (λ l. m''.log ≡ l ++ entry_of m' n x.event x.hints ∷ []) i.log made.log);
          after = subst (λ (a : Actor). Begins (x.run ++ record { number = n; cpu = a.cpu; event = x.event; hints = x.hints } ∷ []) m''.seen) i.actor made.after;
          after_still = λ t. subst (λ (a : Actor). m''.seen ≡ x.run ++ record { number = n; cpu = a.cpu; event = x.event; hints = x.hints } ∷ []) i.actor (made.after_still (i.world.alone ∙ t));
        };
        given = λ t. subst (λ w. x.hints ≡ serial_hints w (after_run (record m { work = w }) m.seen) (actor_of m)) i.world.work
            (subst (λ (a : Actor). x.hints ≡ serial_hints m'.work (after_run m' m.seen) a.cpu) i.actor (subst (λ h. x.hints ≡ serial_hints m'.work (after_run m' h) (actor_of m')) (i.still t) (x.given (i.world.alone ∙ t))));
        kind = x.kind;
      }

  rests_after : MayNotTick m' m'' → MayNotTick m m''
  rests_after x = record {
    idles = idles_both x.idles;
    run = x.run;
    after = begins_then m.seen m'.seen x.run i.begins x.after;
    before = x.before;
    hints = x.hints;
    wish = subst (λ w. ticks (wish w (after_run (record m { work = w }) x.run) (actor_of m).0 x.hints) ≡ true) i.world.work
        (subst (λ (a : Actor). ticks (wish m'.work (after_run m' x.run) a.cpu.0 x.hints) ≡ true) i.actor x.wish);
    none = λ t. subst (λ w. next w (after_run (record m { work = w }) m.seen) (actor_of m) (serial_hints w (after_run (record m { work = w }) m.seen) (actor_of m)) ≡ None) i.world.work
        (subst (λ (a : Actor). next m'.work (after_run m' m.seen) a.cpu (serial_hints m'.work (after_run m' m.seen) a.cpu) ≡ None) i.actor
        (subst (λ h. next m'.work (after_run m' h) (actor_of m') (serial_hints m'.work (after_run m' h) (actor_of m')) ≡ None) (i.still t) (x.none (i.world.alone ∙ t))));
  }

  pub turn_after : (t : Turned) → AttemptTakesTurn m' m'' t → TakesTurn m m'' t
  turn_after (Acted n) x = one_after n false x
  turn_after (Ticked n) x = one_after n true x
  turn_after (Behind c n) x = (
    rests_after x.0,
    subst (λ (w : Rattle.sd_types.specs.declared.works.Work.Work). m.acting.actor.count < w.limit) i.world.work (subst (λ (a : Actor). a.count < m'.work.limit) i.actor x.1),
    subst (λ (a : Actor). n < a.count) i.actor x.2.less,
    record { before = m'; idles = i; behind = x.2 },
  )
  turn_after Finished x = (rests_after x.0, subst (λ (w : Rattle.sd_types.specs.declared.works.Work.Work). w.limit ≤ m.acting.actor.count) i.world.work (subst (λ (a : Actor). m'.work.limit ≤ a.count) i.actor x.1))

  pub refuses_after : (s : Stop) → Refuses m' m'' s → Refuses m m'' s
  refuses_after Full x = (idles_both x.0, subst (λ l. most_entries ≤ length l) i.log x.1)
  refuses_after Memory x = (idles_both x.0, subst (λ l. length l < most_entries) i.log x.1)

pub world_turned : (m m' : Meaning) (t : Turned) → TakesTurn m m' t → IsSameWorld m m'
world_turned m m' (Acted n) x = x.world
world_turned m m' (Ticked n) x = x.world
world_turned m m' (Behind c n) x = x.0.idles.world
world_turned m m' Finished x = x.0.idles.world

pub world_refused : (m m' : Meaning) (s : Stop) → Refuses m m' s → IsSameWorld m m'
world_refused m m' Full x = x.0.world
world_refused m m' Memory x = x.0.world
