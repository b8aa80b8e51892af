-- What an event names is there, since it is among what the event needs.
use Rattle.std.proofs.Common.{◌<◌, List, [], ◌∷◌, length}
use Rattle.std.specs.Prelude.{IfSome, ⊤}
use Rattle.sd_types.specs.declared.numbers.CpuId.{CpuId}
use Rattle.sd_types.specs.declared.events.Event.{Event}
use Rattle.sd_types.specs.declared.events.Event.TheVariants.{Tick}
use Rattle.sd_types.specs.declared.works.Work.{Work}
use Rattle.sd_state.specs.declared.states.State.{State}
use Rattle.sd_machine.specs.Names.{Name, names, OfThread, OfLock, OfChan, OfCpu, OfCpuIf, OfSet, At, AtIf, Whom, ByPrio, ByBind, Off}
use Rattle.sd_machine.specs.Needs.{IsThread, IsLock, IsChan, IsCpu, IsSet, IsPut, IsPutIf, IsWoken, IsPrioPut, IsBindPut, Needs}

-- what is named is there; numbers, ends and answers that tell no place name nothing
abbrev pub IsThere : State → Name → Type 0
IsThere s (OfThread t) = IsThread s t
IsThere s (OfLock l) = IsLock s l
IsThere s (OfChan k) = IsChan s k
IsThere s (OfCpu d) = IsCpu s d
IsThere s (OfCpuIf d) = IfSome d (λ x. x.0 < length s.cpus)
IsThere s (OfSet p) = IsSet s p
IsThere s (At at) = IsPut s at
IsThere s (AtIf at) = IsPutIf s at
IsThere s (Whom u) = IsWoken s u
IsThere s (ByPrio answer) = IsPrioPut s answer
IsThere s (ByBind answer) = IsBindPut s answer
IsThere s (Off d) = IsCpu s d
IsThere s _ = ⊤

abbrev pub AreThere : State → List Name → Type 0
AreThere s [] = ⊤
AreThere s (x ∷ xs) = IsThere s x × AreThere s xs

pub names_there : (w : Work) (s : State) (c : CpuId) (e : Event) → Needs w s c e → AreThere s (names e).1
names_there w s c (Tick t) n = assumption n
names_there w s c _ n = assumption n
