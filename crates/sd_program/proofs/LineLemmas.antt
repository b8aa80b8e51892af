-- The line of an entry has one newline, at its end: neither a name nor a number has any.
use Rattle.std.proofs.Common.{◌≡◌, ℕ, zero, suc, true, ◌&&◌, List, [], ◌∷◌, ◌++◌, length, leb, Option, Some, None, refl}
use Rattle.std.proofs.lemmas.Bool.{and_parts}
use Rattle.std.specs.Prelude.{codes, decimal, option_map, unwrap_or, slice_get}
use Rattle.std.specs.List.{list_all}
use Rattle.sd_types.specs.declared.names.Name.{Name}
use Rattle.sd_types.specs.declared.numbers.CpuId.{CpuId}
use Rattle.sd_types.specs.declared.numbers.ThreadId.{ThreadId}
use Rattle.sd_types.specs.declared.events.End.{End}
use Rattle.sd_types.specs.declared.events.End.TheVariants.{Front, Back}
use Rattle.sd_types.specs.declared.events.Event.{Event}
use Rattle.sd_types.specs.declared.events.Event.TheVariants.{Tick}
use Rattle.sd_types.specs.declared.events.Put.{Put}
use Rattle.sd_types.specs.declared.events.Put.TheVariants.{Cpu, RealTime}
use Rattle.sd_types.specs.declared.events.Hints.{Hints}
use Rattle.sd_types.specs.declared.events.Denied.{Denied}
use Rattle.sd_types.specs.declared.events.Denied.TheVariants as denied
use Rattle.sd_types.specs.declared.events.PrioAnswer.{PrioAnswer}
use Rattle.sd_types.specs.declared.events.PrioAnswer.TheVariants as prio
use Rattle.sd_types.specs.declared.events.AssignAnswer.{AssignAnswer}
use Rattle.sd_types.specs.declared.events.AssignAnswer.TheVariants as assign
use Rattle.sd_types.specs.declared.events.BindAnswer.{BindAnswer}
use Rattle.sd_types.specs.declared.events.BindAnswer.TheVariants as bind
use Rattle.sd_types.specs.declared.events.Entry.{Entry}
use Rattle.sd_types.specs.declared.works.Work.{Work}
use Rattle.sd_types.specs.NameWords.{is_name_byte, begins_with_letter}
use Rattle.sd_text.specs.Lines.{is_line, IsOneLine}
use Rattle.sd_text.proofs.NumberLemmas.{decimal-line}
use Rattle.sd_text.proofs.PieceLemmas.{one_line-append, one_line-newline}
use Rattle.sd_state.specs.Texts.{thread_name, lock_name, chan_name, end_text}
use Rattle.sd_machine.specs.Names.{Name as EventName, names, OfThread, OfLock, OfChan, OfCpu, OfCpuIf, OfSet, Priority, Count, AtEnd, At, AtIf, Whom, ByPrio, ByAssign, ByBind, Off}
use Rattle.sd_machine.specs.Texts.{set_name, cpu_text, put_text, put_text_if, woken_text, denied_text, prio_text, assign_text, bind_text, cpu_text_if, with_name, text_with, event_text, numbers_text, hints_text, entry_text}
use Rattle.sd_program.specs.AuditAnswers.{legal_text}
use Rattle.sd_entries.proofs.WordLemmas.{line_join}
use Rattle.sd_entries.proofs.PlainLemmas.{no_newlines}

-- ---- names

name-line : (x : Name) → is_line x.text.items ≡ true
name-line x = no_newlines x.text.items (and_parts (begins_with_letter x.text.items && leb (length x.text.items) 16) (list_all is_name_byte x.text.items) x.is_name).1

-- the name of what stands there, if anything does
named-line : {X : Type 0} (of : X → Name) (o : Option X) → is_line (unwrap_or (option_map (λ x. (of x).text.items) o) []) ≡ true
named-line of None = refl
named-line of (Some x) = name-line (of x)

-- ---- what an event says

cpu-line : (c : CpuId) → is_line (cpu_text c) ≡ true
cpu-line c = decimal-line c.0

put-line : (at : Put) → is_line (put_text at) ≡ true
put-line (Cpu x) = line_join (codes " to ") (cpu_text x) refl (cpu-line x)
put-line (RealTime x) = line_join (codes " rt ") (cpu_text x) refl (cpu-line x)

put_if-line : (at : Option Put) → is_line (put_text_if at) ≡ true
put_if-line None = refl
put_if-line (Some at) = put-line at

end-line : (end : End) → is_line (end_text end) ≡ true
end-line Front = refl
end-line Back = refl

cpu_if-line : (c : Option CpuId) → is_line (cpu_text_if c) ≡ true
cpu_if-line None = refl
cpu_if-line (Some c) = cpu-line c

denied-line : (d : Denied) → is_line (denied_text d) ≡ true
denied-line denied.ESRCH = refl
denied-line denied.EINVAL = refl
denied-line denied.EPERM = refl

prio-line : (a : PrioAnswer) → is_line (prio_text a) ≡ true
prio-line (prio.Changed p at) = line_join (codes "ok " ++ decimal p) (put_text_if at) (line_join (codes "ok ") (decimal p) refl (decimal-line p)) (put_if-line at)
prio-line (prio.Refused d) = denied-line d

assign-line : (a : AssignAnswer) → is_line (assign_text a) ≡ true
assign-line assign.Changed = refl
assign-line assign.EPERM = refl
assign-line assign.EINVAL = refl
assign-line assign.EBUSY = refl

bind-line : (a : BindAnswer) → is_line (bind_text a) ≡ true
bind-line (bind.Changed at) = line_join (codes "ok") (put_text_if at) refl (put_if-line at)
bind-line bind.ESRCH = refl
bind-line bind.EINVAL = refl
bind-line bind.EPERM = refl
bind-line bind.EBUSY = refl

numbers-line : (ns : List ℕ) → is_line (numbers_text ns) ≡ true
numbers-line [] = refl
numbers-line (n ∷ []) = decimal-line n
numbers-line (n ∷ m ∷ ms) =
    line_join (decimal n ++ codes ",") (numbers_text (m ∷ ms)) (line_join (decimal n) (codes ",") (decimal-line n) refl) (numbers-line (m ∷ ms))

hints-line : (h : Option Hints) → is_line (hints_text h) ≡ true
hints-line None = refl
hints-line (Some h) = line_join (codes " h ") (numbers_text h.numbers.items) refl (numbers-line h.numbers.items)

-- words with one more behind a blank
spaced : (xs ys : List ℕ) → is_line xs ≡ true → is_line ys ≡ true → is_line (xs ++ codes " " ++ ys) ≡ true
spaced xs ys h k = line_join (xs ++ codes " ") ys (line_join xs (codes " ") h refl) k

module _ (w : Work) where
  thread-line : (t : ℕ) → is_line (thread_name w t) ≡ true
  thread-line t = named-line (λ d. d.name) (slice_get w.threads t)

  set-line : (p : ℕ) → is_line (set_name w p) ≡ true
  set-line zero = refl
  set-line (suc p) = named-line (λ d. d.0) (slice_get w.sets p)

  woken-line : (u : Option (ThreadId × Put)) → is_line (woken_text w u) ≡ true
  woken-line None = refl
  woken-line (Some u) = line_join (thread_name w u.0.0) (put_text u.1) (thread-line u.0.0) (put-line u.1)

  -- a text with a name behind it
  with_name-line : (text : List ℕ) (x : EventName) → is_line text ≡ true → is_line (with_name w text x) ≡ true
  with_name-line text (OfThread t) h = spaced text (thread_name w t.0) h (thread-line t.0)
  with_name-line text (OfLock l) h = spaced text (lock_name w l.0) h (named-line (λ d. d.0) (slice_get w.locks l.0))
  with_name-line text (OfChan k) h = spaced text (chan_name w k.0) h (named-line (λ d. d.0) (slice_get w.chans k.0))
  with_name-line text (OfCpu d) h = spaced text (cpu_text d) h (cpu-line d)
  with_name-line text (OfCpuIf d) h = spaced text (cpu_text_if d) h (cpu_if-line d)
  with_name-line text (OfSet p) h = spaced text (set_name w p.0) h (set-line p.0)
  with_name-line text (Priority p) h = spaced text (decimal p) h (decimal-line p)
  with_name-line text (Count n) h = spaced text (decimal n) h (decimal-line n)
  with_name-line text (AtEnd end) h = line_join text (end_text end) h (end-line end)
  with_name-line text (At at) h = line_join text (put_text at) h (put-line at)
  with_name-line text (AtIf at) h = line_join text (put_text_if at) h (put_if-line at)
  with_name-line text (Whom u) h = spaced text (woken_text w u) h (woken-line u)
  with_name-line text (ByPrio answer) h = spaced text (prio_text answer) h (prio-line answer)
  with_name-line text (ByAssign answer) h = spaced text (assign_text answer) h (assign-line answer)
  with_name-line text (ByBind answer) h = spaced text (bind_text answer) h (bind-line answer)
  with_name-line text (Off d) h = line_join (text ++ codes " away ") (cpu_text d) (line_join text (codes " away ") h refl) (cpu-line d)

  text_with-line : (text : List ℕ) (xs : List EventName) → is_line text ≡ true → is_line (text_with w text xs) ≡ true
  text_with-line text [] h = h
  text_with-line text (x ∷ xs) h = text_with-line (with_name w text x) xs (with_name-line text x h)

  word-line : (e : Event) → is_line (names e).0 ≡ true
  word-line (Tick t) = refl
  word-line _ = refl

  event-line : (e : Event) → is_line (event_text w e) ≡ true
  event-line e = text_with-line (names e).0 (names e).1 (word-line e)

  -- the line of an entry
  pub entry-one_line : (e : Entry) → IsOneLine (entry_text w e)
  unfolding entry_text
  entry-one_line e =
      let number = decimal e.number in
      let cpu = number ++ codes " c" ++ decimal e.cpu.0 in
      let event = cpu ++ codes " " ++ event_text w e.event in
      let at = line_join (number ++ codes " c") (decimal e.cpu.0) (line_join number (codes " c") (decimal-line e.number) refl) (decimal-line e.cpu.0) in
      one_line-newline (event ++ hints_text e.hints) (line_join event (hints_text e.hints) (spaced cpu (event_text w e.event) at (event-line e.event)) (hints-line e.hints))

-- the line of an audit
pub legal-one_line : (n : ℕ) → IsOneLine (legal_text n)
legal-one_line n = one_line-append (codes "legal ") (decimal n ++ codes "\n") refl (one_line-newline (decimal n) (decimal-line n))
