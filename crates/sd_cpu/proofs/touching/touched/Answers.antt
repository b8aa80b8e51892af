use Rattle.std.proofs.Common.{sym, subst}
use Rattle.sd_types.specs.declared.events.Event.{Event}
use Rattle.sd_store.specs.Parts.{actor_part}
use Rattle.sd_step.specs.Touched.{after_parts}
use Rattle.sd_cpu.specs.Has.{Has}
use Rattle.sd_cpu.proofs.HasLemmas.{also, own}
use Rattle.sd_cpu.proofs.touching.touched.Goals as goal

pub returns-in-Will : goal.returns-in-Will
returns-in-Will c = λ n s shown.
    subst (λ (e : Event). Has c.args.x.now c.willed.result (after_parts c.args.work.now s c.args.c e)) (sym c.in-Will.is)
    (also c.args.x.now c.willed.result (actor_part c.args.c) _ (own c.args.x.now c.args.c c.requires.here) (c.willed.ensures n s shown))

pub returns-in-Exit : goal.returns-in-Exit
returns-in-Exit c = λ n s shown.
    subst (λ (e : Event). Has c.args.x.now c.exited.result (after_parts c.args.work.now s c.args.c e)) (sym c.in-Exit.is)
    (also c.args.x.now c.exited.result (actor_part c.args.c) _ (own c.args.x.now c.args.c c.requires.here) (c.exited.ensures n s shown))

pub returns-in-Prio : goal.returns-in-Prio
returns-in-Prio c = λ n s shown.
    subst (λ (e : Event). Has c.args.x.now c.reprioritised.result (after_parts c.args.work.now s c.args.c e)) (sym c.in-Prio.is)
    (also c.args.x.now c.reprioritised.result (actor_part c.args.c) _ (own c.args.x.now c.args.c c.requires.here) (c.reprioritised.ensures n s shown))

pub returns-in-Assign : goal.returns-in-Assign
returns-in-Assign c = λ n s shown.
    subst (λ (e : Event). Has c.args.x.now c.among_ready-in-Assign.result (after_parts c.args.work.now s c.args.c e)) (sym c.in-Assign.is)
    (also c.args.x.now c.among_ready-in-Assign.result (actor_part c.args.c) _ (own c.args.x.now c.args.c c.requires.here) (c.among_ready-in-Assign.ensures n s shown))

pub returns-in-Bind : goal.returns-in-Bind
returns-in-Bind c = λ n s shown.
    subst (λ (e : Event). Has c.args.x.now c.pbound.result (after_parts c.args.work.now s c.args.c e)) (sym c.in-Bind.is)
    (also c.args.x.now c.pbound.result (actor_part c.args.c) _ (own c.args.x.now c.args.c c.requires.here) (c.pbound.ensures n s shown))

pub returns-in-Tick : goal.returns-in-Tick
returns-in-Tick c = λ n s shown.
    subst (λ (e : Event). Has c.args.x.now c.among_ready.result (after_parts c.args.work.now s c.args.c e)) (sym c.in-Tick.is)
    (also c.args.x.now c.among_ready.result (actor_part c.args.c) _ (own c.args.x.now c.args.c c.requires.here)
    (also c.args.x.now c.among_ready.result (actor_part c.args.c) _ (own c.args.x.now c.args.c c.requires.here) (c.among_ready.ensures n s shown)))

pub returns-in-Spin : goal.returns-in-Spin
returns-in-Spin c = λ n s shown.
    subst (λ (e : Event). Has c.args.x.now c.among_ready-in-Spin.result (after_parts c.args.work.now s c.args.c e)) (sym c.in-Spin.is)
    (also c.args.x.now c.among_ready-in-Spin.result (actor_part c.args.c) _ (own c.args.x.now c.args.c c.requires.here)
    (also c.args.x.now c.among_ready-in-Spin.result (actor_part c.args.c) _ (own c.args.x.now c.args.c c.requires.here) (c.among_ready-in-Spin.ensures n s shown)))
