use Rattle.std.proofs.Common.{◌≡◌, IfSome, Some, map, option_map, sym, ap, ◌∙◌, subst}
use Rattle.sd_types.specs.declared.events.Hints.{Hints}
use Rattle.sd_machine.specs.Hints.{hint_shown}
use Rattle.sd_machine.specs.Runs.{shown}
use Rattle.sd_dispatcher.specs.Reading.{parts}
use Rattle.sd_world.specs.Plain.{AreCpus, told}
use Rattle.sd_rounds.proofs.turns.read.Goals as goal

pub numbers-requires-clause-there : goal.numbers-requires-clause-there
numbers-requires-clause-there c =
    subst (AreCpus c.args.work.now) (sym c.as_slice.ensures.value) (subst (λ o. IfSome o (λ r. AreCpus c.args.work.now r.cpus.items)) c.in-Some.is c.requires.there)

pub returns-in-None : goal.returns-in-None
returns-in-None c = ap (λ o. shown (told c.args.work.now c.args.world.now) (option_map parts o)) (sym c.in-None.is)

pub returns-in-Some : goal.returns-in-Some
returns-in-Some c =
    let s = told c.args.work.now c.args.world.now in
    let r = c.in-Some.taken in
    let items : c.numbers.result.items ≡ map (hint_shown s r.which) r.cpus.items = c.numbers.ensures ∙ ap (map (hint_shown s r.which)) c.as_slice.ensures.value in
    ap (λ ns. let h : Hints = record { which = r.which; numbers = record { items = ns } } in Some h) items ∙ ap (λ o. shown s (option_map parts o)) (sym c.in-Some.is)
