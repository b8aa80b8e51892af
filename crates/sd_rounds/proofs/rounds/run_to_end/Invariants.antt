use Rattle.std.proofs.Common.{◌≡◌, ◌-◌, ◌≤◌, length}
use Rattle.sd_world.specs.Plain.{Stands, told}
use Rattle.sd_world.specs.Worlds.{Begins}
use Rattle.sd_types.specs.declared.limits.TheConstants.{MOST_ENTRIES}
use Rattle.sd_rounds.specs.Floors.{IsFloor}
use Rattle.sd_rounds.specs.Searched.{IsSearched}
use Rattle.sd_rounds.proofs.rounds.run_to_end.Given as goal

abbrev pub invariant-rounds : goal.invariant-rounds
invariant-rounds g l = record {
  stands : Stands l.work l.world;
  work : l.world.work.now ≡ l.work;
  begins : Begins l.initial.world.entries.items l.world.entries.items;
  room : length l.world.entries.items ≤ MOST_ENTRIES;
  least : IsFloor l.work (told l.work l.world) l.floor;
  searched : IsSearched (told l.work l.world) l.searched;
}

-- each round that goes on adds an entry, and a log holds at most MOST_ENTRIES
abbrev pub decreases-rounds : goal.decreases-rounds
decreases-rounds g l = MOST_ENTRIES - length l.world.entries.items
