-- A list that is named after what a state has is one of a home of the state.
use Rattle.std.proofs.Common.{arith}
use Rattle.sd_state.specs.declared.states.State.{State}
use Rattle.sd_homes.specs.declared.list_id.ListId.{ListId}
use Rattle.sd_homes.specs.declared.list_id.ListId.TheVariants.{Waits, Sleeps}
use Rattle.sd_homes.specs.Numbers.{IsHomeOf, IsListOf}
use Rattle.sd_homes.specs.Standing.{home_at}

pub home_of_list : (s : State) (sp : ListId) → IsListOf s sp → IsHomeOf s (home_at sp)
home_of_list s (Waits l side) there = omega arith
home_of_list s (Sleeps k) there = omega arith
home_of_list s sp there = there
