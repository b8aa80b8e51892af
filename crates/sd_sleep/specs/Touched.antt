-- The parts that the events of sleepers touch.
-- Source: this project's own.
use Rattle.std.specs.Prelude.{List, [], Option, Some, None}
use Rattle.sd_types.specs.declared.numbers.ThreadId.{ThreadId}
use Rattle.sd_types.specs.declared.events.Put.{Put}
use Rattle.sd_types.specs.declared.works.Work.{Work}
use Rattle.sd_store.specs.declared.parts.Part.{Part}
use Rattle.sd_store.specs.Parts.{put_parts}

-- a thread that is woken, where one is, and where it goes
abbrev pub woken_parts : Work → Option (ThreadId × Put) → List Part
woken_parts w None = []
woken_parts w (Some u) = put_parts w u.0 u.1
