-- Each word of an entry's line is one word, and stands in one line.
use Rattle.std.proofs.Common.{◌≡◌, ℕ, ◌<◌, ◌^◌, Bool, true, not, ◌&&◌, ltb, nat_lt, List, [], ◌∷◌, ◌++◌, length, Option, Some, None, refl, arith}
use Rattle.std.specs.Prelude.{codes}
use Rattle.std.specs.List.{list_all, flat_map, AllByRecursion, join_with_byte}
use Rattle.std.specs.Fmt.{decimal}
use Rattle.std.proofs.lemmas.Bool.{false≢true, lt-ltb, and_from, and_parts}
use Rattle.std.proofs.lemmas.Bool.Decides.{nat_tests}
use Rattle.sd_types.specs.declared.events.Event.{Event}
use Rattle.sd_types.specs.declared.events.Event.TheVariants.{Tick}
use Rattle.sd_types.specs.declared.events.End.TheVariants.{Front, Back}
use Rattle.sd_types.specs.declared.events.Put.{Put}
use Rattle.sd_types.specs.declared.events.Put.TheVariants.{Cpu, RealTime as OnRealTime}
use Rattle.sd_types.specs.declared.events.Hints.{Hints}
use Rattle.sd_types.specs.declared.events.Which.{Which}
use Rattle.sd_types.specs.declared.events.Denied.TheVariants as denied
use Rattle.sd_types.specs.declared.events.PrioAnswer.TheVariants as prio
use Rattle.sd_types.specs.declared.events.AssignAnswer.TheVariants as assign
use Rattle.sd_types.specs.declared.events.BindAnswer.TheVariants as bind
use Rattle.sd_types.specs.declared.events.Entry.{Entry}
use Rattle.sd_types.specs.declared.works.Work.{Work}
use Rattle.sd_text.specs.Lines.{is_newline, is_line}
use Rattle.sd_text.specs.Words.{ends_word, is_word}
use Rattle.sd_machine.specs.Names.{Name, names, OfThread, OfLock, OfChan, OfCpu, OfCpuIf, OfSet, Priority, Count, AtEnd, At, AtIf, Whom, ByPrio, ByAssign, ByBind, Off}
use Rattle.sd_machine.specs.Texts.{numbers_text}
use Rattle.sd_entries.specs.EntryWords.{put_words, put_words_if, name_words, event_words, hint_words, entry_words}
use Rattle.sd_entries.specs.Fitting.{has_cpu, has_thread, is_byte, put_fits, put_fits_if, name_fits, event_fits, name_in_range, event_in_range, may_read, are_allowed_hints, hints_in_range, entry_fits, in_range, IsSpelled}
use Rattle.sd_entries.proofs.NameLemmas.{byte_word}
use Rattle.sd_entries.proofs.PlainLemmas.{IsPlain, number_plain, thread_plain, lock_plain, chan_plain, set_plain, cpu_plain, byte_plain, count_plain}

abbrev AreWords : List (List ℕ) → Type 0
AreWords ws = AllByRecursion IsPlain ws

all_words : (ws : List (List ℕ)) → AreWords ws → list_all is_word ws ≡ true
all_words [] h = refl
all_words (x ∷ ws) h = rw h.0.0 (all_words ws h.1)

all_lines : (ws : List (List ℕ)) → AreWords ws → list_all is_line ws ≡ true
all_lines [] h = refl
all_lines (x ∷ ws) h = rw h.0.1 (all_lines ws h.1)

words_join : (xs ys : List (List ℕ)) → AreWords xs → AreWords ys → AreWords (xs ++ ys)
words_join [] ys h k = k
words_join (x ∷ xs) ys h k = (h.0, words_join xs ys h.1 k)

-- what an event names

put_plain : (w : Work) (at : Put) → put_fits w at ≡ true → AreWords (put_words at)
put_plain w (Cpu x) h = ((refl, refl), (cpu_plain w x h, tt))
put_plain w (OnRealTime x) h = ((refl, refl), (cpu_plain w x h, tt))

put_plain_if : (w : Work) (at : Option Put) → put_fits_if w at ≡ true → AreWords (put_words_if at)
put_plain_if w None h = tt
put_plain_if w (Some at) h = put_plain w at h

name_plain : (w : Work) (x : Name) → name_fits w x ≡ true → name_in_range x ≡ true → AreWords (name_words w x)
name_plain w (OfThread t) h r = (thread_plain w t h, tt)
name_plain w (OfLock l) h r = (lock_plain w l h, tt)
name_plain w (OfChan k) h r = (chan_plain w k h, tt)
name_plain w (OfCpu d) h r = (cpu_plain w d h, tt)
name_plain w (OfCpuIf None) h r = ((refl, refl), tt)
name_plain w (OfCpuIf (Some d)) h r = (cpu_plain w d h, tt)
name_plain w (OfSet p) h r = (set_plain w p h, tt)
name_plain w (Priority p) h r = (byte_plain p r, tt)
name_plain w (Count n) h r = (count_plain n r, tt)
name_plain w (AtEnd Front) h r = ((refl, refl), tt)
name_plain w (AtEnd Back) h r = ((refl, refl), tt)
name_plain w (At at) h r = put_plain w at h
name_plain w (AtIf at) h r = put_plain_if w at h
name_plain w (Whom None) h r = ((refl, refl), tt)
name_plain w (Whom (Some (s, at))) h r = let p = and_parts (has_thread w s) (put_fits w at) h in (thread_plain w s p.0, put_plain w at p.1)
name_plain w (ByPrio (prio.Changed p at)) h r = ((refl, refl), (byte_plain p r, put_plain_if w at h))
name_plain w (ByPrio (prio.Refused denied.ESRCH)) h r = ((refl, refl), tt)
name_plain w (ByPrio (prio.Refused denied.EINVAL)) h r = ((refl, refl), tt)
name_plain w (ByPrio (prio.Refused denied.EPERM)) h r = ((refl, refl), tt)
name_plain w (ByAssign assign.Changed) h r = ((refl, refl), tt)
name_plain w (ByAssign assign.EPERM) h r = ((refl, refl), tt)
name_plain w (ByAssign assign.EINVAL) h r = ((refl, refl), tt)
name_plain w (ByAssign assign.EBUSY) h r = ((refl, refl), tt)
name_plain w (ByBind (bind.Changed at)) h r = ((refl, refl), put_plain_if w at h)
name_plain w (ByBind bind.ESRCH) h r = ((refl, refl), tt)
name_plain w (ByBind bind.EINVAL) h r = ((refl, refl), tt)
name_plain w (ByBind bind.EPERM) h r = ((refl, refl), tt)
name_plain w (ByBind bind.EBUSY) h r = ((refl, refl), tt)
name_plain w (Off d) h r = ((refl, refl), (cpu_plain w d h, tt))

names_plain : (w : Work) (xs : List Name) → list_all (name_fits w) xs ≡ true → list_all name_in_range xs ≡ true → AreWords (flat_map (name_words w) xs)
names_plain w [] h r = tt
names_plain w (x ∷ xs) h r =
    let p = and_parts (name_fits w x) (list_all (name_fits w) xs) h in
    let q = and_parts (name_in_range x) (list_all name_in_range xs) r in
    words_join (name_words w x) (flat_map (name_words w) xs) (name_plain w x p.0 q.0) (names_plain w xs p.1 q.1)

word_plain : (e : Event) → IsPlain (names e).0
word_plain (Tick t) = (refl, refl)
word_plain _ = (refl, refl)

event_are_words : (w : Work) (e : Event) → event_fits w e ≡ true → event_in_range e ≡ true → AreWords (event_words w e)
unfolding event_fits
event_are_words w e h r = (word_plain e, names_plain w (names e).1 h r)

-- numbers joined by commas
abbrev plain : List ℕ → Bool
plain bs = list_all (λ b. not (ends_word b)) bs

plain_join : (xs ys : List ℕ) → plain xs ≡ true → plain ys ≡ true → plain (xs ++ ys) ≡ true
plain_join [] ys h k = k
plain_join (x ∷ xs) ys h k =
    let p = and_parts (not (ends_word x)) (plain xs) h in
    and_from (not (ends_word x)) (plain (xs ++ ys)) p.0 (plain_join xs ys p.1 k)

plain_number : (n : ℕ) → is_byte n ≡ true → plain (decimal n) ≡ true
plain_number n h = (and_parts (ltb 0 (length (decimal n))) (plain (decimal n)) (byte_word n h)).1

some_number : (n : ℕ) → is_byte n ≡ true → ltb 0 (length (decimal n)) ≡ true
some_number n h = (and_parts (ltb 0 (length (decimal n))) (plain (decimal n)) (byte_word n h)).0

plain_numbers : (ns : List ℕ) → list_all is_byte ns ≡ true → plain (numbers_text ns) ≡ true
plain_numbers [] h = refl
plain_numbers (n ∷ []) h = plain_number n (and_parts (is_byte n) true h).0
plain_numbers (n ∷ m ∷ ms) h =
    let p = and_parts (is_byte n) (list_all is_byte (m ∷ ms)) h in
    plain_join (decimal n ++ codes ",") (numbers_text (m ∷ ms)) (plain_join (decimal n) (codes ",") (plain_number n p.0) refl) (plain_numbers (m ∷ ms) p.1)

some_join : (xs ys : List ℕ) → ltb 0 (length xs) ≡ true → ltb 0 (length (xs ++ ys)) ≡ true
some_join [] ys h = absurd (false≢true h)
some_join (x ∷ xs) ys h = lt-ltb _ _ (omega arith)

numbers_word : (ns : List ℕ) → ltb 0 (length ns) ≡ true → list_all is_byte ns ≡ true → is_word (numbers_text ns) ≡ true
numbers_word [] some h = absurd (false≢true some)
numbers_word (n ∷ []) some h = byte_word n (and_parts (is_byte n) true h).0
numbers_word (n ∷ m ∷ ms) some h =
    let p = and_parts (is_byte n) (list_all is_byte (m ∷ ms)) h in
    let long = some_join (decimal n ++ codes ",") (numbers_text (m ∷ ms)) (some_join (decimal n) (codes ",") (some_number n p.0)) in
    and_from (ltb 0 (length (numbers_text (n ∷ m ∷ ms)))) (plain (numbers_text (n ∷ m ∷ ms))) long (plain_numbers (n ∷ m ∷ ms) h)

pub line_join : (xs ys : List ℕ) → is_line xs ≡ true → is_line ys ≡ true → is_line (xs ++ ys) ≡ true
line_join [] ys h k = k
line_join (x ∷ xs) ys h k =
    let p = and_parts (not (is_newline x)) (is_line xs) h in
    and_from (not (is_newline x)) (is_line (xs ++ ys)) p.0 (line_join xs ys p.1 k)

numbers_line : (ns : List ℕ) → list_all is_byte ns ≡ true → is_line (numbers_text ns) ≡ true
numbers_line [] h = refl
numbers_line (n ∷ []) h = (byte_plain n (and_parts (is_byte n) true h).0).1
numbers_line (n ∷ m ∷ ms) h =
    let p = and_parts (is_byte n) (list_all is_byte (m ∷ ms)) h in
    line_join (decimal n ++ codes ",") (numbers_text (m ∷ ms)) (line_join (decimal n) (codes ",") (byte_plain n p.0).1 refl) (numbers_line (m ∷ ms) p.1)

hints_are_words : (may : Option Which) (hs : Option Hints) → are_allowed_hints may hs ≡ true → hints_in_range hs ≡ true → AreWords (hint_words hs)
hints_are_words may None h r = tt
hints_are_words may (Some x) h r = ((refl, refl), ((numbers_word x.numbers.items (and_parts _ _ h).1 (and_parts _ _ r).1, numbers_line x.numbers.items (and_parts _ _ r).1), tt))

every_word : (w : Work) (e : Entry) → IsSpelled w e → AreWords (entry_words w e)
unfolding entry_words entry_fits in_range
every_word w e h =
    let p = and_parts (has_cpu w e.cpu && event_fits w e.event) (are_allowed_hints (may_read e.event) e.hints) h.fits in
    let q = and_parts (has_cpu w e.cpu) (event_fits w e.event) p.0 in
    let r = and_parts (nat_lt e.number (2 ^ 64) && event_in_range e.event) (hints_in_range e.hints) h.range in
    let s = and_parts (nat_lt e.number (2 ^ 64)) (event_in_range e.event) r.0 in
    let small : e.number < 2 ^ 64 = grind (arith, nat_tests, s.0) in
    let rest : AreWords (event_words w e.event ++ hint_words e.hints) = words_join (event_words w e.event) (hint_words e.hints) (event_are_words w e.event q.1 s.1) (hints_are_words (may_read e.event) e.hints p.1 r.1) in
    (number_plain e.number small, (cpu_plain w e.cpu q.0, rest))

pub entry_are_words : (w : Work) (e : Entry) → IsSpelled w e → list_all is_word (entry_words w e) ≡ true
entry_are_words w e h = all_words (entry_words w e) (every_word w e h)

joined_line : (ws : List (List ℕ)) → list_all is_line ws ≡ true → is_line (join_with_byte 32 ws) ≡ true
joined_line [] h = refl
joined_line (x ∷ []) h = (and_parts (is_line x) true h).0
joined_line (x ∷ y ∷ ws) h =
    let p = and_parts (is_line x) (list_all is_line (y ∷ ws)) h in
    line_join x (32 ∷ join_with_byte 32 (y ∷ ws)) p.0 (joined_line (y ∷ ws) p.1)

-- the words of an entry with spaces between them stand in one line
pub entry_is_line : (w : Work) (e : Entry) → IsSpelled w e → is_line (join_with_byte 32 (entry_words w e)) ≡ true
entry_is_line w e h = joined_line (entry_words w e) (all_lines (entry_words w e) (every_word w e h))
