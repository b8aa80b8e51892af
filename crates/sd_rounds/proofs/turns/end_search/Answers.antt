use Rattle.std.proofs.Common.{◌≡◌, ◌-◌, sym, ap, ◌∙◌}
use Rattle.sd_log.specs.Parts.{zeros_read}
use Rattle.sd_machine.specs.declared.plans.Plan.TheVariants.{Search}
use Rattle.sd_machine.specs.Choosing.{neighbours}
use Rattle.sd_machine.specs.Hints.{read_of}
use Rattle.sd_machine.specs.Runs.{shown}
use Rattle.sd_world.specs.Plain.{told}
use Rattle.sd_world.proofs.PlainLemmas as P
use Rattle.sd_rounds.proofs.AloneLemmas.{all_zero, serial_of, vain}
use Rattle.sd_rounds.proofs.SearchedLemmas.{none_to_steal}
use Rattle.sd_rounds.proofs.turns.end_search.Goals as goal

pub come_idle-requires-clause-hints : goal.come_idle-requires-clause-hints
come_idle-requires-clause-hints c =
    let s = told c.args.work.now c.args.world.now in
    let cpu = c.args.world.now.acting.actor.cpu in
    serial_of c.args.work.now s cpu Search c.requires.plan ∙ all_zero s (neighbours s cpu.0) (c.args.cpus - 1) c.requires.numbers ∙ ap zeros_read (sym c.saturating_sub.ensures)

pub come_idle-requires-clause-event : goal.come_idle-requires-clause-event
come_idle-requires-clause-event c =
    let w = c.args.work.now in
    let x = c.args.world.now in
    let s = told w x in
    let cpu = x.acting.actor.cpu in
    let read : shown s (read_of (neighbours s cpu.0)) ≡ zeros_read c.saturating_sub.result = all_zero s (neighbours s cpu.0) (c.args.cpus - 1) c.requires.numbers ∙ ap zeros_read (sym c.saturating_sub.ensures) in
    vain w s cpu (zeros_read c.saturating_sub.result) (P.cpu_inside w x c.requires.stands) c.requires.plan (none_to_steal (c.args.cpus - 1) s cpu.0 c.requires.numbers) (sym read)
