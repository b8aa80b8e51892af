-- What a processor reads in a search, and which of its neighbours shows most.
-- Source: Solaris Internals (disp_getwork); the numbers and who is first of several are this project's own.
use Rattle.std.specs.Prelude.{◌≡◌, ℕ, List, map}
use Rattle.sd_types.specs.declared.events.Which.TheVariants.{Queued}
use Rattle.sd_types.specs.declared.numbers.CpuId.{CpuId}
use Rattle.sd_rules.specs.ChoiceFunctions.{greatest_hint, victim_of}
use Rattle.sd_state.specs.declared.states.State.{State}
use Rattle.sd_machine.specs.Hints.{hint_shown}
use Rattle.sd_rounds.specs.declared.survey.Busiest.{Busiest}
use Rattle.sd_rounds.specs.declared.survey.Survey.{Survey}

-- it is the victim among these processors by their numbers, with its number
pub record IsBusiest (cpus : List CpuId) (numbers : List ℕ) (b : Busiest) : Type 0 where
  pub cpu : b.cpu ≡ victim_of cpus numbers
  pub number : b.number ≡ greatest_hint numbers

-- the numbers are those that these processors show of their queues, and the victim is the one by them
pub record IsSurvey (s : State) (cpus : List CpuId) (v : Survey) : Type 0 where
  pub numbers : v.numbers.items ≡ map (hint_shown s Queued) cpus
  pub victim : v.victim ≡ victim_of cpus v.numbers.items
