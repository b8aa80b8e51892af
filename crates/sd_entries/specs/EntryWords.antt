-- The words of an entry's line, which single spaces join.
-- Source: this project's own.
use Rattle.std.specs.Prelude.{ℕ, List, [], ◌∷◌, ◌++◌, codes, decimal, flat_map, Option, Some, None}
use Rattle.sd_types.specs.declared.events.Event.{Event}
use Rattle.sd_types.specs.declared.events.End.{End}
use Rattle.sd_types.specs.declared.events.End.TheVariants.{Front, Back}
use Rattle.sd_types.specs.declared.numbers.ThreadId.{ThreadId}
use Rattle.sd_types.specs.declared.events.Put.{Put}
use Rattle.sd_types.specs.declared.events.Put.TheVariants.{Cpu, RealTime as OnRealTime}
use Rattle.sd_types.specs.declared.events.Hints.{Hints}
use Rattle.sd_types.specs.declared.events.PrioAnswer.{PrioAnswer}
use Rattle.sd_types.specs.declared.events.PrioAnswer.TheVariants as prio
use Rattle.sd_types.specs.declared.events.BindAnswer.{BindAnswer}
use Rattle.sd_types.specs.declared.events.BindAnswer.TheVariants as bind
use Rattle.sd_types.specs.declared.events.Entry.{Entry}
use Rattle.sd_types.specs.declared.works.Work.{Work}
use Rattle.sd_state.specs.Texts.{thread_name, lock_name, chan_name}
use Rattle.sd_machine.specs.Names.{Name, names, OfThread, OfLock, OfChan, OfCpu, OfCpuIf, OfSet, Priority, Count, AtEnd, At, AtIf, Whom, ByPrio, ByAssign, ByBind, Off}
use Rattle.sd_machine.specs.Texts.{set_name, cpu_text, cpu_text_if, denied_text, assign_text, numbers_text}

abbrev pub end_word : End → List ℕ
end_word Front = codes "front"
end_word Back = codes "back"

abbrev pub put_words : Put → List (List ℕ)
put_words (Cpu x) = codes "to" ∷ cpu_text x ∷ []
put_words (OnRealTime x) = codes "rt" ∷ cpu_text x ∷ []

abbrev pub put_words_if : Option Put → List (List ℕ)
put_words_if None = []
put_words_if (Some at) = put_words at

abbrev pub woken_words : Work → Option (ThreadId × Put) → List (List ℕ)
woken_words w None = codes "none" ∷ []
woken_words w (Some u) = thread_name w u.0.0 ∷ put_words u.1

abbrev pub prio_words : PrioAnswer → List (List ℕ)
prio_words (prio.Changed p at) = codes "ok" ∷ decimal p ∷ put_words_if at
prio_words (prio.Refused d) = denied_text d ∷ []

abbrev pub bind_words : BindAnswer → List (List ℕ)
bind_words (bind.Changed at) = codes "ok" ∷ put_words_if at
bind_words bind.ESRCH = codes "ESRCH" ∷ []
bind_words bind.EINVAL = codes "EINVAL" ∷ []
bind_words bind.EPERM = codes "EPERM" ∷ []
bind_words bind.EBUSY = codes "EBUSY" ∷ []

-- the words of what an event names
abbrev pub name_words : Work → Name → List (List ℕ)
name_words w (OfThread t) = thread_name w t.0 ∷ []
name_words w (OfLock l) = lock_name w l.0 ∷ []
name_words w (OfChan k) = chan_name w k.0 ∷ []
name_words w (OfCpu d) = cpu_text d ∷ []
name_words w (OfCpuIf d) = cpu_text_if d ∷ []
name_words w (OfSet p) = set_name w p.0 ∷ []
name_words w (Priority p) = decimal p ∷ []
name_words w (Count n) = decimal n ∷ []
name_words w (AtEnd end) = end_word end ∷ []
name_words w (At at) = put_words at
name_words w (AtIf at) = put_words_if at
name_words w (Whom u) = woken_words w u
name_words w (ByPrio answer) = prio_words answer
name_words w (ByAssign answer) = assign_text answer ∷ []
name_words w (ByBind answer) = bind_words answer
name_words w (Off d) = codes "away" ∷ cpu_text d ∷ []

-- the word that tells the event, and those of what it names
abbrev pub event_words : Work → Event → List (List ℕ)
event_words w e = (names e).0 ∷ flat_map (name_words w) (names e).1

abbrev pub hint_words : Option Hints → List (List ℕ)
hint_words None = []
hint_words (Some h) = codes "h" ∷ numbers_text h.numbers.items ∷ []

unfoldable pub entry_words : Work → Entry → List (List ℕ)
entry_words w e = decimal e.number ∷ cpu_text e.cpu ∷ (event_words w e.event ++ hint_words e.hints)
