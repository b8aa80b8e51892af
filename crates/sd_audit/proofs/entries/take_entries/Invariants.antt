use Rattle.std.proofs.Common.{◌≡◌, ◌+◌, ◌-◌, ◌≤◌, length}
use Rattle.sd_world.specs.Plain.{Stands, told}
use Rattle.sd_audit.specs.Reading.{HasReadWith}
use Rattle.sd_audit.proofs.entries.take_entries.Given as goal

abbrev pub invariant-lines : goal.invariant-lines
invariant-lines g l = record {
  stands : Stands l.names.work.now l.world;
  work : l.world.work.now ≡ l.names.work.now;
  counted : l.at.number ≡ length l.world.entries.items;
  read : HasReadWith l.names.work.now l.text (told l.names.work.now l.world) l.accounts l.at.number l.at.from (λ es. g.C.Collector.became l.names.work.now es l.fn.collector l.collector);
  within : l.at.from ≤ length l.text + 1;
  bound : l.at.number ≤ l.at.from;
}

abbrev pub decreases-lines : goal.decreases-lines
decreases-lines g l = length l.text + 2 - l.at.from
