use Rattle.std.proofs.Common.{Err, sym, subst}
use Rattle.sd_store.specs.Parts.{thread_part}
use Rattle.sd_dispatcher.specs.Touched.{put_parts_if}
use Rattle.sd_priocntl.specs.SetsTouched.{bind_parts, rebound_parts}
use Rattle.sd_cpu.specs.Has.{Has}
use Rattle.sd_cpu.proofs.HasLemmas.{also, also_all, lacks_first}
use Rattle.sd_cpu.proofs.touching.bind.Goals as goal

pub returns-in-Ok : goal.returns-in-Ok
returns-in-Ok c = λ n s shown.
    let x = c.args.x.now in
    let r = c.put_if.result in
    subst (λ a. Has x r (bind_parts c.args.work.now s c.args.u c.args.d a)) (sym c.in-Changed.is)
    (also x r (thread_part c.args.u) _ c.in_ok-thread-in-Changed.ensures.0 (also_all x r (rebound_parts s c.args.u c.args.d) _ (c.in-Ok.ensures n s shown) c.put_if.ensures))

pub returns-in-Err : goal.returns-in-Err
returns-in-Err c = λ n s shown.
    let x = c.args.x.now in
    let q = c.in-Err.part in
    let rest = lacks_first x q (rebound_parts s c.args.u c.args.d) (put_parts_if c.args.work.now c.args.u c.in-Changed.at) (c.in-Err.ensures n s shown) in
    subst (λ a. Has x (Err q) (bind_parts c.args.work.now s c.args.u c.args.d a)) (sym c.in-Changed.is) (also x (Err q) (thread_part c.args.u) _ c.in_ok-thread-in-Changed.ensures.0 rest)
