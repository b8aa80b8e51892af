use Rattle.std.proofs.Common.{refl, sym}
use Rattle.std.proofs.lemmas.Bool.{false≢true}
use Rattle.sd_rounds.proofs.TurnLemmas as T
use Rattle.sd_rounds.proofs.turns.attempt_turn.Goals as goal

pub attempt-requires-clause-good : goal.attempt-requires-clause-good
attempt-requires-clause-good c = T.plain c.args.work.now c.args.world.now c.requires.work c.requires.stands

pub attempt-requires-clause-work : goal.attempt-requires-clause-work
attempt-requires-clause-work c = sym c.requires.work

pub attempt-requires-clause-empty : goal.attempt-requires-clause-empty
attempt-requires-clause-empty c = λ few. absurd (false≢true (sym few))

pub returns-in-Ok-clause-stands : goal.returns-in-Ok-clause-stands
returns-in-Ok-clause-stands c =
    let w = c.args.work.now in
    let x = c.args.world.now in
    let z = c.attempt.new.world in
    T.stands_again w z (T.work_kept w x x z x.acting.actor.cpu c.requires.work refl refl refl c.in-Ok.field-0 c.in-Ok.ensures.answers) c.attempt.ensures.good

pub returns-in-Ok-clause-work : goal.returns-in-Ok-clause-work
returns-in-Ok-clause-work c =
    let x = c.args.world.now in
    T.work_kept c.args.work.now x x c.attempt.new.world x.acting.actor.cpu c.requires.work refl refl refl c.in-Ok.field-0 c.in-Ok.ensures.answers

pub returns-in-Ok-clause-entries : goal.returns-in-Ok-clause-entries
returns-in-Ok-clause-entries c =
    let x = c.args.world.now in
    T.turn_taken c.args.work.now x x c.attempt.new.world x.acting.actor.cpu c.requires.work refl refl refl c.in-Ok.field-0 c.in-Ok.ensures.answers

pub returns-in-Err-clause-stands : goal.returns-in-Err-clause-stands
returns-in-Err-clause-stands c =
    let w = c.args.work.now in
    let x = c.args.world.now in
    let z = c.attempt.new.world in
    T.stands_again w z (T.idle_work w x x z x.acting.actor.cpu c.requires.work refl refl refl c.in-Err.stop c.in-Err.ensures.answers) c.attempt.ensures.good

pub returns-in-Err-clause-work : goal.returns-in-Err-clause-work
returns-in-Err-clause-work c =
    let x = c.args.world.now in
    T.idle_work c.args.work.now x x c.attempt.new.world x.acting.actor.cpu c.requires.work refl refl refl c.in-Err.stop c.in-Err.ensures.answers

pub returns-in-Err-clause-stop : goal.returns-in-Err-clause-stop
returns-in-Err-clause-stop c =
    let w = c.args.work.now in
    let x = c.args.world.now in
    let z = c.attempt.new.world in (
      T.for_memory c.in-Err.stop (T.not_full w x x z x.acting.actor.cpu c.requires.work refl refl refl c.in-Err.stop c.in-Err.ensures.answers c.requires.few),
      T.idle_kept w x x z x.acting.actor.cpu c.requires.work refl refl refl c.in-Err.stop c.in-Err.ensures.answers,
    )
