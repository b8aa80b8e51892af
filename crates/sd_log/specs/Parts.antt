-- An entry by its parts.
-- Source: this project's own.
use Rattle.std.specs.Prelude.{ℕ, zero, suc, List, [], replicate, Option, None, Some}
use Rattle.sd_types.specs.declared.events.Entry.{Entry}
use Rattle.sd_types.specs.declared.events.Hints.{Hints}
use Rattle.sd_types.specs.declared.events.Which.{Which}
use Rattle.sd_types.specs.declared.events.Which.TheVariants.{Queued}
use Rattle.sd_log.specs.declared.parts.Numbers.{Numbers}
use Rattle.sd_log.specs.declared.parts.Numbers.TheVariants.{Bytes, Zeros}
use Rattle.sd_log.specs.declared.parts.Parts.{Parts}

-- the numbers that were read
abbrev pub numbers_of : Option Hints → List ℕ
numbers_of None = []
numbers_of (Some hints) = hints.numbers.items

-- of which kind they are
abbrev pub which_of : Option Hints → Option Which
which_of None = None
which_of (Some hints) = Some hints.which

-- these numbers, if any were read
abbrev pub hints_of : Option Which → List ℕ → Option Hints
hints_of None ns = None
hints_of (Some which) ns = Some (record { which = which; numbers = record { items = ns } })

-- what a processor reads of the queues of so many others where nobody may be stolen from them; nothing where there are none
abbrev pub zeros_read : ℕ → Option Hints
zeros_read zero = None
zeros_read (suc n) = Some (record { which = Queued; numbers = record { items = replicate (suc n) 0 } })

-- the numbers, wherever they lie
abbrev pub listed : Numbers → List ℕ
listed (Bytes bytes) = bytes.now
listed (Zeros count) = replicate count 0

-- the entry that these are the parts of
abbrev pub whole : Parts → Entry
whole p = record { number = p.number; cpu = p.cpu; event = p.event.now; hints = hints_of p.which (listed p.numbers) }
