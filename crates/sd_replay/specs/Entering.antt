-- Whether a processor has an event at all, for some numbers that it may read.
use Rattle.std.specs.Prelude.{ℕ, Bool, true, not, ◌&&◌, ◌||◌, map, nat_lt}
use Rattle.std.specs.List.{list_any}
use Rattle.sd_types.specs.declared.numbers.CpuId.{CpuId}
use Rattle.sd_types.specs.declared.events.Which.TheVariants.{Queued}
use Rattle.sd_types.specs.declared.works.Work.{Work}
use Rattle.sd_types.specs.Events.{ticks}
use Rattle.sd_state.specs.declared.states.State.{State}
use Rattle.sd_machine.specs.declared.plans.Plan.{Plan}
use Rattle.sd_machine.specs.declared.plans.Plan.TheVariants.{Make, Place, Search}
use Rattle.sd_machine.specs.Choosing.{neighbours}
use Rattle.sd_machine.specs.Hints.{hint_shown}
use Rattle.sd_machine.specs.Events.{may_tick}
use Rattle.sd_machine.specs.Plans.{plan}

-- a neighbour shows a thread on its queue that is bound to no processor
unfoldable pub can_steal : State → ℕ → Bool
can_steal s c = list_any (λ n. nat_lt 0 n) (map (hint_shown s Queued) (neighbours s c))

-- an event that does not tick may always be made; a search ends in one where a thread can be stolen
abbrev pub plan_enters : Work → State → ℕ → Plan → Bool
plan_enters w s c (Make event) = not (ticks event) || may_tick w s c
plan_enters w s c (Place placement p) = true
plan_enters w s c Search = may_tick w s c || can_steal s c

unfoldable pub can_enter : Work → State → CpuId → Bool
can_enter w s c = nat_lt c.0 w.cpus && plan_enters w s c.0 (plan w s c.0)
