use Rattle.std.proofs.Common.{sym, subst, ◌∙◌}
use Rattle.sd_state.specs.States.{thread_of}
use Rattle.sd_store.specs.Parts.{thread_part}
use Rattle.sd_cpu.specs.Has.{Has}
use Rattle.sd_cpu.proofs.HasLemmas.{also, reordered_is, reordered_not}
use Rattle.sd_cpu.proofs.touching.reordered.Goals as goal

pub returns-in-Some : goal.returns-in-Some
returns-in-Some c = λ n s shown.
    subst (Has c.args.x.now c.ready.result) (sym (reordered_is c.args.work.now s c.args.t c.args.at (thread_of s c.args.t.0).place c.in-Some.d (sym c.in-Some.is ∙ c.running_on.ensures n s shown)))
    (also c.args.x.now c.ready.result (thread_part c.args.t) _ c.in_ok-thread.ensures.0 (c.ready.ensures n s shown))

pub returns-in-None : goal.returns-in-None
returns-in-None c = λ n s shown.
    subst (Has c.args.x.now c.put_if.result) (sym (reordered_not c.args.work.now s c.args.t c.args.at (thread_of s c.args.t.0).place (sym c.in-None.is ∙ c.running_on.ensures n s shown)))
    (also c.args.x.now c.put_if.result (thread_part c.args.t) _ c.in_ok-thread.ensures.0 c.put_if.ensures)
