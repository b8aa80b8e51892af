use Rattle.std.proofs.Common.{◌≡◌, ◌++◌, ◌<◌, ◌≤◌, length, drop}
use Rattle.sd_machine.specs.Runs.{round}
use Rattle.sd_world.specs.Plain.{Stands, told}
use Rattle.sd_types.specs.declared.limits.TheConstants.{MOST_ENTRIES}
use Rattle.sd_rounds.specs.Floors.{IsFloor}
use Rattle.sd_rounds.specs.Searched.{IsSearched}
use Rattle.sd_rounds.proofs.rounds.run_round.Given as goal

-- what was made, and what is left of the round from here, are what was there and the whole round
abbrev pub invariant-loop-c : goal.invariant-loop-c
invariant-loop-c g l = record {
  stands : Stands l.work l.world;
  work : l.world.work.now ≡ l.work;
  entries : l.world.entries.items ++ round l.work (told l.work l.world) (length l.world.entries.items) (drop l.c-index l.order)
      ≡ l.initial.world.entries.items ++ round l.work (told l.work l.initial.world) (length l.initial.world.entries.items) l.order;
  room : length l.world.entries.items ≤ MOST_ENTRIES;
  grown : length l.initial.world.entries.items ≤ length l.world.entries.items;
  least : IsFloor l.work (told l.work l.world) l.floor;
  searched : IsSearched (told l.work l.world) l.searched;
  begins : 0 < l.c-index → length l.initial.world.entries.items < MOST_ENTRIES;
}
