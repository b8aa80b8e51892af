-- Which threads an event names.
-- Source: this project's own.
use Rattle.std.specs.Prelude.{List, [], ◌∷◌, Option, Some, None, option_map}
use Rattle.sd_types.specs.declared.numbers.ThreadId.{ThreadId}
use Rattle.sd_types.specs.declared.events.Event.{Event}
use Rattle.sd_types.specs.declared.events.Event.TheVariants.{Wake, Prio, SemaVWake, Bind}
use Rattle.sd_machine.specs.Names.{Name, names, OfThread, Whom}

-- of names, the first thread
abbrev pub first_thread : List Name → Option ThreadId
first_thread [] = None
first_thread (OfThread t ∷ xs) = Some t
first_thread (Whom u ∷ xs) = option_map (λ x. x.0) u
first_thread (x ∷ xs) = first_thread xs

-- the thread that an event names first: the acting one, or one that a processor moves
abbrev pub first_named : Event → Option ThreadId
first_named e = first_thread (names e).1

-- the thread that it names beside it
abbrev pub second_named : Event → Option ThreadId
second_named (Wake t k u) = option_map (λ x. x.0) u
second_named (Prio t u answer) = Some u
second_named (SemaVWake t k u at) = Some u
second_named (Bind t u d answer) = Some u
second_named _ = None
