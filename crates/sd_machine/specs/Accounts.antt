-- The counts of the summary, over the entries of a run, of any thread.
-- Source: this project's own.
use Rattle.std.specs.Prelude.{ℕ, Bool, true, false, List, count_by, Some}
use Rattle.sd_types.specs.declared.events.Event.{Event}
use Rattle.sd_types.specs.declared.events.Event.TheVariants.{Dispatch, Steal, Preempt, Away, Napend, Wake, Rouse, Block, Will, Unblock, Grant, SemaVWake}
use Rattle.sd_types.specs.declared.events.Entry.{Entry}

abbrev pub is_dispatch : Event → Bool
is_dispatch (Dispatch t p) = true
is_dispatch (Steal v t p) = true
is_dispatch _ = false

abbrev pub is_steal : Event → Bool
is_steal (Steal v t p) = true
is_steal _ = false

abbrev pub is_preempt : Event → Bool
is_preempt (Preempt t end) = true
is_preempt (Away t c) = true
is_preempt _ = false

abbrev pub is_wake : Event → Bool
is_wake (Napend t at) = true
is_wake (Wake t k (Some u)) = true
is_wake (Rouse k (Some u)) = true
is_wake (Unblock l u at) = true
is_wake (Grant l u at) = true
is_wake (SemaVWake t k u at) = true
is_wake _ = false

abbrev pub is_block : Event → Bool
is_block (Block t l) = true
is_block _ = false

abbrev pub is_will : Event → Bool
is_will (Will l o p at) = true
is_will _ = false

-- how many entries are of a kind
unfoldable pub entries_of : (Event → Bool) → List Entry → ℕ
entries_of p es = count_by (λ e. p e.event) es
