-- What a processor reads, as a pair, and where a thread is put for which it reads nothing.
use Rattle.std.specs.Prelude.{ℕ, List, Option, Some, None, is_none, if◌then◌else◌}
use Rattle.sd_types.specs.declared.numbers.CpuId.{CpuId}
use Rattle.sd_types.specs.declared.events.Which.{Which}
use Rattle.sd_types.specs.declared.events.Put.{Put}
use Rattle.sd_types.specs.declared.works.Work.{Work}
use Rattle.sd_state.specs.declared.states.State.{State}
use Rattle.sd_machine.specs.Choosing.{put_chosen}
use Rattle.sd_machine.specs.Hints.{reads_for}
use Rattle.sd_dispatcher.specs.declared.reading.Reading.{Reading}

abbrev pub parts : Reading → Which × List CpuId
parts r = (r.which, r.cpus.items)

-- where processor c puts thread t of priority p, where it reads nothing for that
abbrev pub put_unread : Work → State → ℕ → ℕ → ℕ → Option Put
put_unread w s c t p = if is_none (reads_for w s c t) then Some (put_chosen w s c t p None) else None
