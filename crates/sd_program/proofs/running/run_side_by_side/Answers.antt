use Rattle.std.proofs.Common.{subst}
use Rattle.sd_machine.specs.Runs.{IsComplete}
use Rattle.sd_program.specs.declared.forms.Mode.TheVariants.{Threads}
use Rattle.sd_program.proofs.TheRun.{is_the_run}
use Rattle.sd_program.proofs.running.run_side_by_side.Goals as goal

pub returns-in-Ok-clause-run : goal.returns-in-Ok-clause-run
returns-in-Ok-clause-run g c =
    let e = c.in-Ok.ensures in
    let w = c.args.work.now in
    let run = c.in-Ok.run' in
    let bytes = c.numbers_are_bytes.ensures in
    is_the_run w Threads run.entries.items e.short tt e.run (subst (IsComplete w) e.state e.complete) bytes e.homes
