-- What the lines of scripts say: each form is read as its operation.
use Rattle.std.proofs.Common.{◌≡◌, ℕ, ◌<◌, ◌^◌, Bool, true, false, ◌&&◌, eqb, ltb, leb, [], ◌∷◌, length, Option, Some, None, refl, arith}
use Rattle.std.specs.Prelude.{codes}
use Rattle.std.specs.Fmt.{decimal}
use Rattle.std.specs.List.{list_all}
use Rattle.std.specs.Char.{is_ascii_digit}
use Rattle.std.specs.Str.{all_ascii_digits}
use Rattle.std.proofs.lemmas.Fmt.{digits_decimal}
use Rattle.sd_types.specs.declared.numbers.CpuId.{CpuId}
use Rattle.sd_types.specs.declared.classes.Class.{Class}
use Rattle.sd_types.specs.declared.classes.Class.TheVariants as class
use Rattle.sd_types.specs.declared.scripts.Request.{Request}
use Rattle.sd_types.specs.NameWords.{is_letter, is_name_byte, is_name}
use Rattle.sd_types.specs.Works.{same_bytes, quantum_fits, short_fits}
use Rattle.sd_text.proofs.NumberLemmas.{number_of-decimal, own}
use Rattle.std.proofs.lemmas.Bool.{false≢true, and_parts}
use Rattle.std.proofs.lemmas.Bool.Decides.{nat_tests}
use Rattle.sd_lines.specs.declared.operations.RequestLine.{RequestLine}
use Rattle.sd_lines.specs.declared.operations.RequestLine.TheVariants.{Ts, Fx, Sys, Rt}
use Rattle.sd_lines.specs.Words.{Word, first, only_word}
use Rattle.sd_lines.specs.Operations.{Run, Yield, Nap, Sleep, Wake, WakeAll, Enter, Read, Write, Exit, Prio, CvWait, SemaP, SemaV, Assign, Pbind, ts_request, fx_request, sys_request, rt_request, request_of, priocntl_line, cvwait_line, assign_line, pbind_line, thread_operation, chan_operation, lock_operation, operation_of}
use Rattle.sd_canonical.specs.Lines.{asked_words, bound_word}
use Rattle.sd_canonical.proofs.TextLemmas.{are_plain, signed-again, signed-plain}
use Rattle.sd_canonical.proofs.FormLemmas.{quantum_said, quantum-again, is_name_if}
use Rattle.sd_canonical.proofs.ThreadLemmas.{quantum-plain}

-- ---- of numbers

pub run-form : (n : ℕ) → n < 10 ^ 10 → operation_of (codes "run" ∷ decimal n ∷ []) ≡ Some (Run n)
unfolding operation_of only_word
run-form n h = rw (number_of-decimal n h) refl

pub nap-form : (n : ℕ) → n < 10 ^ 10 → operation_of (codes "nap" ∷ decimal n ∷ []) ≡ Some (Nap n)
unfolding operation_of only_word
nap-form n h = rw (number_of-decimal n h) refl

pub yield-form : operation_of (codes "yield" ∷ []) ≡ Some Yield
unfolding operation_of
yield-form = refl

-- ---- of locks and channels

pub enter-form : (name : Word) → is_name name ≡ true → operation_of (codes "enter" ∷ name ∷ []) ≡ Some (Enter name)
unfolding operation_of lock_operation only_word
enter-form name h = rw h refl

pub read-form : (name : Word) → is_name name ≡ true → operation_of (codes "read" ∷ name ∷ []) ≡ Some (Read name)
unfolding operation_of lock_operation only_word
read-form name h = rw h refl

pub write-form : (name : Word) → is_name name ≡ true → operation_of (codes "write" ∷ name ∷ []) ≡ Some (Write name)
unfolding operation_of lock_operation only_word
write-form name h = rw h refl

pub exit-form : (name : Word) → is_name name ≡ true → operation_of (codes "exit" ∷ name ∷ []) ≡ Some (Exit name)
unfolding operation_of lock_operation only_word
exit-form name h = rw h refl

pub cvwait-form : (chan mutex : Word) → is_name chan ≡ true → is_name mutex ≡ true → operation_of (codes "cvwait" ∷ chan ∷ mutex ∷ []) ≡ Some (CvWait chan mutex)
unfolding operation_of lock_operation cvwait_line first only_word
cvwait-form chan mutex h g = rw (h, g) refl

pub sleep-form : (name : Word) → is_name name ≡ true → operation_of (codes "sleep" ∷ name ∷ []) ≡ Some (Sleep name)
unfolding operation_of lock_operation chan_operation only_word
sleep-form name h = rw h refl

pub wake-form : (name : Word) → is_name name ≡ true → operation_of (codes "wake" ∷ name ∷ []) ≡ Some (Wake name)
unfolding operation_of lock_operation chan_operation only_word
wake-form name h = rw h refl

pub wakeall-form : (name : Word) → is_name name ≡ true → operation_of (codes "wakeall" ∷ name ∷ []) ≡ Some (WakeAll name)
unfolding operation_of lock_operation chan_operation only_word
wakeall-form name h = rw h refl

pub semap-form : (name : Word) → is_name name ≡ true → operation_of (codes "semap" ∷ name ∷ []) ≡ Some (SemaP name)
unfolding operation_of lock_operation chan_operation only_word
semap-form name h = rw h refl

pub semav-form : (name : Word) → is_name name ≡ true → operation_of (codes "semav" ∷ name ∷ []) ≡ Some (SemaV name)
unfolding operation_of lock_operation chan_operation only_word
semav-form name h = rw h refl

-- ---- of threads

abbrev pub asked_said : Class → Request → RequestLine
asked_said class.Ts r = Ts r.limit r.pri
asked_said class.Fx r = Fx r.limit r.pri (quantum_said r.quantum)
asked_said class.Sys r = Sys r.pri
asked_said class.Rt r = Rt r.pri (quantum_said r.quantum)

-- the numbers of a request lie in their ranges
pub record IsAsked (r : Request) : Type 0 where
  pub limit : short_fits r.limit ≡ true
  pub pri : short_fits r.pri ≡ true
  pub quantum : quantum_fits r.quantum ≡ true

pub request-form : (class : Class) (r : Request) → IsAsked r → request_of (asked_words class r) ≡ Some (asked_said class r)
unfolding request_of ts_request fx_request sys_request rt_request first only_word
request-form class.Ts r h = rw (signed-again r.limit h.limit, signed-again r.pri h.pri) refl
request-form class.Fx r h = rw (signed-again r.limit h.limit, signed-again r.pri h.pri, quantum-again r.quantum h.quantum) refl
request-form class.Sys r h = rw (signed-again r.pri h.pri) refl
request-form class.Rt r h = rw (signed-again r.pri h.pri, quantum-again r.quantum h.quantum) refl

pub request-plain : (class : Class) (r : Request) → IsAsked r → are_plain (asked_words class r) ≡ true
request-plain class.Ts r h = rw (signed-plain r.limit h.limit, signed-plain r.pri h.pri) refl
request-plain class.Fx r h = rw (signed-plain r.limit h.limit, signed-plain r.pri h.pri, quantum-plain r.quantum h.quantum) refl
request-plain class.Sys r h = rw (signed-plain r.pri h.pri) refl
request-plain class.Rt r h = rw (signed-plain r.pri h.pri, quantum-plain r.quantum h.quantum) refl

pub priocntl-form : (name : Word) (class : Class) (r : Request) → is_name name ≡ true → IsAsked r
    → operation_of (codes "priocntl" ∷ name ∷ asked_words class r) ≡ Some (Prio name (asked_said class r))
unfolding operation_of lock_operation chan_operation thread_operation priocntl_line first
priocntl-form name class r named h = rw (named, request-form class r h) refl

-- a name is no `-`
pub no-dash : (name : Word) → is_name name ≡ true → same_bytes name (codes "-") ≡ false
no-dash [] h = absurd (false≢true h)
no-dash (b ∷ bs) h =
    let p = and_parts (is_letter b && leb (length (b ∷ bs)) 16) (list_all is_name_byte (b ∷ bs)) h in
    let letter = (and_parts (is_letter b) (leb (length (b ∷ bs)) 16) p.0).0 in
    let other : eqb b 45 ≡ false = grind (arith, nat_tests) in
    rw other refl

-- the name of a set, or `-` for the default partition
abbrev pub set_word : Option Word → Word
set_word None = codes "-"
set_word (Some name) = name

pub assign-form : (c : ℕ) (set : Option Word) → c < 10 ^ 10 → is_name_if set ≡ true → operation_of (codes "assign" ∷ decimal c ∷ set_word set ∷ []) ≡ Some (Assign c set)
unfolding operation_of lock_operation chan_operation thread_operation assign_line first only_word
assign-form c None small h = rw (number_of-decimal c small) refl
assign-form c (Some name) small h = rw (number_of-decimal c small, no-dash name h, h) refl

-- and neither are digits
no-dash-digits : (word : Word) → all_ascii_digits word ≡ true → same_bytes word (codes "-") ≡ false
no-dash-digits [] h = refl
no-dash-digits (b ∷ bs) h =
    let digit : is_ascii_digit b ≡ true = (and_parts (is_ascii_digit b) _ h).0 in
    let other : eqb b 45 ≡ false = grind (arith, nat_tests) in
    rw other refl

abbrev pub cpu_said : Option CpuId → Option ℕ
cpu_said None = None
cpu_said (Some c) = Some c.0

abbrev pub bound_small : Option CpuId → Bool
bound_small None = true
bound_small (Some c) = ltb c.0 64

pub pbind-form : (name : Word) (c : Option CpuId) → is_name name ≡ true → bound_small c ≡ true → operation_of (codes "pbind" ∷ name ∷ bound_word c ∷ []) ≡ Some (Pbind name (cpu_said c))
unfolding operation_of lock_operation chan_operation thread_operation pbind_line first only_word
pbind-form name None named h = rw named refl
pbind-form name (Some c) named h =
    let small : c.0 < 64 = grind (arith, nat_tests, h) in
    rw (named, no-dash-digits (decimal c.0) (digits_decimal own c.0 (omega arith)), number_of-decimal c.0 (omega arith)) refl
