use Rattle.std.proofs.Common.{◌≡◌, ℕ, ◌-◌, ◌≤◌, length, None}
use Rattle.sd_types.specs.declared.limits.TheConstants.{MOST_ENTRIES}
use Rattle.sd_machine.specs.Runs.{rising}
use Rattle.sd_world.specs.Plain.{Stands, told}
use Rattle.sd_rounds.specs.Orders.{orders_of, generator_at}
use Rattle.sd_rounds.specs.Rounds.{HasRounds}
use Rattle.sd_rounds.specs.Floors.{IsFloor}
use Rattle.sd_rounds.specs.Searched.{IsSearched}
use Rattle.sd_rounds.proofs.rounds.run_rounds.Given as goal

abbrev pub invariant-rounds : goal.invariant-rounds
invariant-rounds g l = record {
  count : ℕ;
  rounds : HasRounds l.work (orders_of l.work l.fn.orders) count l.world.entries.items;
  generator : l.generator ≡ generator_at l.work l.fn.orders count;
  steady : l.generator ≡ None → l.order.items ≡ rising l.work;
  stands : Stands l.work l.world;
  work : l.world.work.now ≡ l.work;
  room : length l.world.entries.items ≤ MOST_ENTRIES;
  least : IsFloor l.work (told l.work l.world) l.floor;
  searched : IsSearched (told l.work l.world) l.searched;
}

-- each round that goes on adds an entry, and a log holds at most MOST_ENTRIES
abbrev pub decreases-rounds : goal.decreases-rounds
decreases-rounds g l = MOST_ENTRIES - length l.world.entries.items
