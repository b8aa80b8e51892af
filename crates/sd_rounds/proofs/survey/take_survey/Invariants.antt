use Rattle.std.proofs.Common.{◌≡◌, ◌≤◌, ◌==◌, not, filter, length, map, take}
use Rattle.sd_types.specs.declared.events.Which.TheVariants.{Queued}
use Rattle.sd_machine.specs.Hints.{hint_shown}
use Rattle.sd_world.specs.Plain.{told}
use Rattle.sd_rounds.specs.Surveys.{IsBusiest}
use Rattle.sd_rounds.proofs.survey.take_survey.Given as goal

abbrev pub invariant-loop-d : goal.invariant-loop-d
invariant-loop-d l =
    (l.numbers.items ≡ map (hint_shown (told l.work l.world) Queued) (filter (λ d. not (d.0 == l.c.0)) (take l.d-index l.cpus)))
    × (length l.numbers.items ≤ l.d-index)
    × IsBusiest (filter (λ d. not (d.0 == l.c.0)) (take l.d-index l.cpus)) l.numbers.items l.busiest
