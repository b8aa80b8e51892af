-- What a collector is given.
use Rattle.std.proofs.Common.{ℕ, List, sym}
use Rattle.sd_types.specs.declared.events.Entry.{Entry}
use Rattle.sd_types.specs.declared.works.Work.{Work}
use Rattle.sd_state.specs.declared.states.State.{State}
use Rattle.sd_machine.specs.Runs.{IsReached}
use Rattle.sd_audit.specs.Collecting.{IsAfter}

pub after_reached : (w : Work) (number : ℕ) (s : State) (Has : List Entry → Type 0) → IsAfter w number s Has → IsReached w number s
after_reached w number s Has a = record { entries = a.entries; run = a.run; many = a.many; ends = sym a.ends }
