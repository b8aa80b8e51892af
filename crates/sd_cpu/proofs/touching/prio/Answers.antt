use Rattle.std.proofs.Common.{sym, subst}
use Rattle.sd_store.specs.Parts.{actor_part, thread_part}
use Rattle.sd_priocntl.specs.Touched.{prio_parts}
use Rattle.sd_cpu.specs.Has.{Has}
use Rattle.sd_cpu.proofs.HasLemmas.{also, own}
use Rattle.sd_cpu.proofs.touching.prio.Goals as goal

pub returns-in_ok-thread-in-Changed : goal.returns-in_ok-thread-in-Changed
returns-in_ok-thread-in-Changed c = λ n s shown.
    let x = c.args.x.now in
    let r = c.reordered.result in
    subst (λ a. Has x r (prio_parts c.args.work.now s c.args.c c.args.u a)) (sym c.in-Changed.is)
    (also x r (actor_part c.args.c) _ (own x c.args.c c.requires.here) (also x r (thread_part c.args.u) _ c.in_ok-thread-in-Changed.ensures.0 (c.reordered.ensures n s shown)))
