use Rattle.std.proofs.Common.{◌≡◌, IfSome, length, true, sym, ap, ◌∙◌, subst}
use Rattle.sd_machine.specs.Events.{allowed, next, plan_event}
use Rattle.sd_machine.specs.Hints.{hints_fit, plan_reads}
use Rattle.sd_machine.specs.Runs.{shown}
use Rattle.sd_invariants.proofs.Complete.{shown_fit}
use Rattle.sd_world.specs.Plain.{AreCpus, told}
use Rattle.sd_world.proofs.PlainLemmas as P
use Rattle.sd_cpu.proofs.ReadLemmas.{read_there, reading_there}
use Rattle.sd_rounds.proofs.AloneLemmas.{next_of, serial_of}
use Rattle.sd_rounds.proofs.turns.act_with.Goals as goal

pub read-hints-requires-clause-there : goal.read-hints-requires-clause-there
read-hints-requires-clause-there c =
    let w = c.args.work.now in
    let x = c.args.world.now in
    let s = told w x in
    let cpu = x.acting.actor.cpu in
    let there = subst (λ p. IfSome (plan_reads w s cpu.0 p) (λ r. AreCpus w r.1)) (sym c.requires.plan) (read_there w (length x.entries.items) s cpu.0 (P.reached w x c.requires.stands)) in
    reading_there w c.args.reading.now (plan_reads w s cpu.0 c.args.plan) c.requires.reads there

pub come_alone-requires-clause-hints : goal.come_alone-requires-clause-hints
come_alone-requires-clause-hints c =
    let w = c.args.work.now in
    let x = c.args.world.now in
    let s = told w x in
    c.read-hints.ensures ∙ ap (shown s) c.requires.reads ∙ sym (serial_of w s x.acting.actor.cpu c.args.plan c.requires.plan)

pub come_alone-requires-clause-event : goal.come_alone-requires-clause-event
come_alone-requires-clause-event c =
    let w = c.args.work.now in
    let x = c.args.world.now in
    let s = told w x in
    let cpu = x.acting.actor.cpu in
    let p = c.args.plan in
    let st = c.requires.stands in
    let as_shown : c.read-hints.result ≡ shown s (plan_reads w s cpu.0 p) = c.read-hints.ensures ∙ ap (shown s) c.requires.reads in
    let fit : hints_fit (plan_reads w s cpu.0 p) c.read-hints.result ≡ true = ap (hints_fit (plan_reads w s cpu.0 p)) as_shown ∙ shown_fit s (plan_reads w s cpu.0 p) in
    ap (next w s cpu) (as_shown ∙ sym (serial_of w s cpu p c.requires.plan)) ∙ next_of w s cpu p (P.cpu_inside w x st) c.requires.plan
    ∙ ap (λ h. allowed w s cpu.0 (plan_event w s cpu.0 h p)) (sym as_shown)
    ∙ ap (allowed w s cpu.0) (sym (c.in-Ok.ensures.value (length x.entries.items) s (P.shown w x st) (c.requires.reads, fit)))
