-- The operations of a script are read back as they are.
use Rattle.std.proofs.Common.{◌≡◌, ℕ, ℤ, pos, zero, suc, ◌<◌, ◌≤◌, Bool, true, false, not, ◌&&◌, eqb, ltb, leb, List, [], ◌∷◌, length, map, Option, Some, None, refl, sym, ap, ◌∙◌, subst, arith}
use Rattle.std.specs.Prelude.{codes, slice_get, int_le}
use Rattle.std.specs.Option.{option_map}
use Rattle.std.specs.Fmt.{decimal}
use Rattle.std.specs.List.{position_or_len}
use Rattle.std.proofs.lemmas.Bool.{false≢true, lt-ltb, ltb-true, leb-true, and_parts}
use Rattle.std.proofs.lemmas.Bool.Decides.{nat_tests}
use Rattle.std.proofs.lemmas.Int.{ints}
use Rattle.std.proofs.lemmas.List.{length-map}
use Rattle.sd_basics.proofs.Lists.{map-map, place-map}
use Rattle.sd_types.specs.declared.numbers.CpuId.{CpuId}
use Rattle.sd_types.specs.declared.numbers.SetId.{SetId}
use Rattle.sd_types.specs.declared.numbers.LockId.{LockId}
use Rattle.sd_types.specs.declared.numbers.ChanId.{ChanId}
use Rattle.sd_types.specs.declared.numbers.ThreadId.{ThreadId}
use Rattle.sd_types.specs.declared.classes.Class.{Class}
use Rattle.sd_types.specs.declared.classes.Class.TheVariants as class
use Rattle.sd_types.specs.declared.classes.Quantum.{Quantum}
use Rattle.sd_types.specs.declared.classes.Quantum.TheVariants as quantum
use Rattle.sd_types.specs.declared.scripts.Request.{Request}
use Rattle.sd_types.specs.declared.scripts.Op.{Op}
use Rattle.sd_types.specs.declared.scripts.Op.TheVariants as op
use Rattle.sd_types.specs.declared.works.LockKind.{LockKind}
use Rattle.sd_types.specs.declared.works.ChanKind.{ChanKind}
use Rattle.sd_types.specs.declared.works.ThreadDecl.{ThreadDecl}
use Rattle.sd_types.specs.declared.works.Work.{Work}
use Rattle.sd_types.specs.Partitions.{cpu_of_number}
use Rattle.sd_types.specs.NameWords.{is_name}
use Rattle.sd_types.specs.Works.{same_bytes, is_mutex, is_rwlock, is_chan, is_sema, span_fits, short_fits, quantum_fits, is_def, unused_fit, request_fits, bound_fits, op_names}
use Rattle.sd_state.proofs.Declared.{declared}
use Rattle.sd_lines.specs.Words.{Word, Line, is_end, only_word}
use Rattle.sd_lines.specs.Operations.{Operation, Run, Yield, Nap, Sleep, Wake, WakeAll, Enter, Read, Write, Exit, Prio, CvWait, SemaP, SemaV, Assign, Pbind, operation_of}
use Rattle.sd_state.specs.Texts.{thread_name, lock_name, chan_name}
use Rattle.sd_machine.specs.Texts.{set_name}
use Rattle.sd_declare.specs.Declarations.{Thread, Declarations, cpu_count, lock_number, chan_number, thread_number, place, set_id, lock_id, chan_id, thread_id, lock_kind, chan_kind, is_set, is_thread_name, is_lock_name}
use Rattle.sd_declare.specs.Causes.{no_causes}
use Rattle.sd_declare.specs.Kept.{set_kept, lock_kept, chan_kept}
use Rattle.sd_declare.specs.Operations.{is_request, is_cpu, is_cpu_or_none, unless, operation_causes, request_of, op_of}
use Rattle.sd_workload.proofs.ClearLemmas.{IsClear}
use Rattle.sd_canonical.specs.Lines.{bound_word, operation_line}
use Rattle.sd_canonical.proofs.TextLemmas.{is_plain, are_plain, name-plain, number-plain}
use Rattle.sd_canonical.proofs.FormLemmas.{is_name_if}
use Rattle.sd_canonical.proofs.ThreadLemmas.{said_at, set_said, set-number, set-name, quantum-back, is-quantum}
use Rattle.sd_canonical.proofs.OpFormLemmas.{asked_said, IsAsked, request-plain, cpu_said, bound_small, set_word, run-form, nap-form, yield-form, enter-form, read-form, write-form, exit-form, cvwait-form, sleep-form, wake-form, wakeall-form, semap-form, semav-form, priocntl-form, assign-form, pbind-form}
use Rattle.sd_entries.proofs.NameLemmas.{name_at_name, place_of_name}

-- what a workload declares, as far as its scripts name it
-- the declarations have the names of the workload, and its processors
pub record Names (w : Work) (d : Declarations) : Type 0 where
  pub cpus : cpu_count d ≡ w.cpus
  pub sets : d.sets ≡ map set_kept w.sets
  pub locks : d.locks ≡ map lock_kept w.locks
  pub chans : d.chans ≡ map chan_kept w.chans
  pub threads : map (λ (t : Thread). t.name) d.threads ≡ map (λ t. t.name.text.items) w.threads

-- ---- numbers of names

inside-list : {X : Type 0} (p : Option X → Bool) (xs : List X) (i : ℕ) → p None ≡ false → p (slice_get xs i) ≡ true → i < length xs
inside-list p [] i none h = absurd (false≢true (sym none ∙ h))
inside-list p (x ∷ xs) zero none h = omega arith
inside-list p (x ∷ xs) (suc i) none h = let less = inside-list p xs i none h in omega arith

lock-inside : (w : Work) (p : Option LockKind → Bool) (l : LockId) → p None ≡ false → p (slice_get (map (λ x. x.1) w.locks) l.0) ≡ true → l.0 < length w.locks
lock-inside w p l none h =
    let less = inside-list p (map (λ x. x.1) w.locks) l.0 none h in
    omega (arith, length-map w.locks (λ x. x.1))

chan-inside : (w : Work) (p : Option ChanKind → Bool) (k : ChanId) → p None ≡ false → p (slice_get (map (λ x. x.1) w.chans) k.0) ≡ true → k.0 < length w.chans
chan-inside w p k none h =
    let less = inside-list p (map (λ x. x.1) w.chans) k.0 none h in
    omega (arith, length-map w.chans (λ x. x.1))

lock-number : (w : Work) (d : Declarations) (l : LockId) → Names w d → l.0 < length w.locks → lock_number d (lock_name w l.0) ≡ l.0
unfolding lock_number
lock-number w d l n inside =
    ap (place (lock_name w l.0)) n.locks ∙ place-map (λ x. same_bytes x.0 (lock_name w l.0)) lock_kept w.locks ∙ place_of_name (λ x. x.0.text.items) w.locks l.0 inside w.lock_names

chan-number : (w : Work) (d : Declarations) (k : ChanId) → Names w d → k.0 < length w.chans → chan_number d (chan_name w k.0) ≡ k.0
unfolding chan_number
chan-number w d k n inside =
    ap (place (chan_name w k.0)) n.chans ∙ place-map (λ x. same_bytes x.0 (chan_name w k.0)) chan_kept w.chans ∙ place_of_name (λ x. x.0.text.items) w.chans k.0 inside w.chan_names

thread-number : (w : Work) (d : Declarations) (t : ThreadId) → Names w d → t.0 < length w.threads → thread_number d (thread_name w t.0) ≡ t.0
unfolding thread_number
thread-number w d t n inside =
    let name = thread_name w t.0 in
    sym (place-map (λ (x : Word). same_bytes x name) (λ (x : Thread). x.name) d.threads)
    ∙ ap (position_or_len (λ (x : Word). same_bytes x name)) n.threads
    ∙ place-map (λ (x : Word). same_bytes x name) (λ (x : ThreadDecl). x.name.text.items) w.threads
    ∙ place_of_name (λ (x : ThreadDecl). x.name.text.items) w.threads t.0 inside w.thread_names

thread-count : (w : Work) (d : Declarations) → Names w d → length d.threads ≡ length w.threads
thread-count w d n =
    sym (length-map d.threads (λ (x : Thread). x.name)) ∙ ap length n.threads ∙ length-map w.threads (λ (x : ThreadDecl). x.name.text.items)

lock-name : (w : Work) (l : LockId) → l.0 < length w.locks → is_name (lock_name w l.0) ≡ true
lock-name w l inside = name_at_name (λ x. x.0.text.items) (λ x. x.0.is_name) w.locks l.0 inside

chan-name : (w : Work) (k : ChanId) → k.0 < length w.chans → is_name (chan_name w k.0) ≡ true
chan-name w k inside = name_at_name (λ x. x.0.text.items) (λ x. x.0.is_name) w.chans k.0 inside

thread-name : (w : Work) (t : ThreadId) → t.0 < length w.threads → is_name (thread_name w t.0) ≡ true
thread-name w t inside = name_at_name (λ x. x.name.text.items) (λ x. x.name.is_name) w.threads t.0 inside

-- ---- kinds

lock-kind : (w : Work) (d : Declarations) (l : LockId) → Names w d → l.0 < length w.locks → lock_kind d (lock_name w l.0) ≡ slice_get (map (λ x. x.1) w.locks) l.0
lock-kind w d l n inside =
    ap (slice_get (map (λ (x : Word × LockKind). x.1) d.locks)) (lock-number w d l n inside)
    ∙ ap (λ (ls : List (Word × LockKind)). slice_get (map (λ (x : Word × LockKind). x.1) ls) l.0) n.locks
    ∙ ap (λ ks. slice_get ks l.0) (map-map lock_kept (λ (x : Word × LockKind). x.1) w.locks)

chan-kind : (w : Work) (d : Declarations) (k : ChanId) → Names w d → k.0 < length w.chans → chan_kind d (chan_name w k.0) ≡ slice_get (map (λ x. x.1) w.chans) k.0
chan-kind w d k n inside =
    ap (slice_get (map (λ (x : Word × ChanKind). x.1) d.chans)) (chan-number w d k n inside)
    ∙ ap (λ (ks : List (Word × ChanKind)). slice_get (map (λ (x : Word × ChanKind). x.1) ks) k.0) n.chans
    ∙ ap (λ ks. slice_get ks k.0) (map-map chan_kept (λ (x : Word × ChanKind). x.1) w.chans)

-- ---- what an operation's line says

abbrev pub said : Work → Op → Operation
said w (op.Run n) = Run n
said w op.Yield = Yield
said w (op.Nap n) = Nap n
said w (op.Sleep k) = Sleep (chan_name w k.0)
said w (op.Wake k) = Wake (chan_name w k.0)
said w (op.WakeAll k) = WakeAll (chan_name w k.0)
said w (op.Enter l) = Enter (lock_name w l.0)
said w (op.Read l) = Read (lock_name w l.0)
said w (op.Write l) = Write (lock_name w l.0)
said w (op.Exit l) = Exit (lock_name w l.0)
said w (op.Prio t r) = Prio (thread_name w t.0) (asked_said r.class r)
said w (op.CvWait k l) = CvWait (chan_name w k.0) (lock_name w l.0)
said w (op.SemaP k) = SemaP (chan_name w k.0)
said w (op.SemaV k) = SemaV (chan_name w k.0)
said w (op.Assign c s) = Assign c.0 (set_said w s)
said w (op.Pbind t c) = Pbind (thread_name w t.0) (cpu_said c)

-- what the reader makes of a line of a script
pub record Reads (d : Declarations) (line : Line) (s : Operation) (o : Op) : Type 0 where
  pub plain : are_plain line ≡ true
  pub inside : is_end line ≡ false
  pub form : operation_of line ≡ Some s
  pub same : op_of d s ≡ o
  pub clear : IsClear (operation_causes d s)

-- and of the line of an operation
abbrev pub IsRead : Work → Declarations → Op → Type 0
IsRead w d o = Reads d (operation_line w o) (said w o) o

pub no-causes : IsClear no_causes
no-causes = record { syntax = refl; unknown = refl; twice = refl; range = refl; sets = refl; limits = refl }

pub span-small : (n : ℕ) → span_fits n ≡ true → n ≤ 100000
span-small n h = grind (arith, nat_tests)

-- an operation on a channel
module _ (w : Work) (d : Declarations) (n : Names w d) where
  chan-known : (p : Option ChanKind → Bool) (k : ChanId) → k.0 < length w.chans → p (slice_get (map (λ x. x.1) w.chans) k.0) ≡ true → not (p (chan_kind d (chan_name w k.0))) ≡ false
  chan-known p k inside h = ap (λ o. not (p o)) (chan-kind w d k n inside) ∙ ap not h

  lock-known : (p : Option LockKind → Bool) (l : LockId) → l.0 < length w.locks → p (slice_get (map (λ x. x.1) w.locks) l.0) ≡ true → not (p (lock_kind d (lock_name w l.0))) ≡ false
  lock-known p l inside h = ap (λ o. not (p o)) (lock-kind w d l n inside) ∙ ap not h

  chan-id : (k : ChanId) → k.0 < length w.chans → chan_id d (chan_name w k.0) ≡ k
  chan-id k inside = rw (chan-number w d k n inside) refl

  lock-id : (l : LockId) → l.0 < length w.locks → lock_id d (lock_name w l.0) ≡ l
  lock-id l inside = rw (lock-number w d l n inside) refl

  thread-id : (t : ThreadId) → t.0 < length w.threads → thread_id d (thread_name w t.0) ≡ t
  thread-id t inside = rw (thread-number w d t n inside) refl

  set-id : (p : SetId) → p.0 ≤ length w.sets → set_id d (set_said w p) ≡ p
  set-id p inside = rw (set-number w d p n.sets inside) refl

  thread-known : (t : ThreadId) → t.0 < length w.threads → not (is_thread_name d (thread_name w t.0)) ≡ false
  thread-known t inside =
      let number = thread-number w d t n inside in
      let count = thread-count w d n in
      let yes : is_thread_name d (thread_name w t.0) ≡ true = lt-ltb _ _ (omega arith) in
      ap not yes

  set-known : (p : SetId) → p.0 ≤ length w.sets → not (is_set d (set_said w p)) ≡ false
  set-known p inside =
      let number = set-number w d p n.sets inside in
      let count : length d.sets ≡ length w.sets = ap length n.sets ∙ length-map w.sets set_kept in
      let yes : is_set d (set_said w p) ≡ true = lt-ltb _ _ (omega arith) in
      ap not yes

  cpu-known : (c : ℕ) → c < w.cpus → is_cpu d c ≡ true
  cpu-known c inside = let count = n.cpus in lt-ltb _ _ (omega arith)

pub unless-clear : (known : Bool) → not known ≡ false → IsClear (unless known)
unless-clear known h = record { syntax = refl; unknown = h; twice = refl; range = refl; sets = refl; limits = refl }

-- ---- requests

unused-ts : (q : Quantum) → is_def q ≡ true → quantum.Def ≡ q
unused-ts quantum.Def h = refl
unused-ts quantum.Inf h = absurd (false≢true h)
unused-ts (quantum.Ticks n) h = absurd (false≢true h)

unused-limit : (z : ℤ) → int_le (pos 0) z ≡ true → int_le z (pos 0) ≡ true → pos 0 ≡ z
unused-limit z p q = grind (arith, nat_tests, ints)

request-back : (class : Class) (r : Request) → unused_fit class r.limit r.quantum ≡ true → request_of (asked_said class r) ≡ record r { class = class }
request-back class.Ts r h = ap (λ (q : Quantum). request class.Ts r.limit r.pri q) (unused-ts r.quantum h)
  where
    request : Class → ℤ → ℤ → Quantum → Request
    request class limit pri quantum = record { class = class; limit = limit; pri = pri; quantum = quantum }
request-back class.Fx r h = rw (quantum-back r.quantum) refl
request-back class.Sys r h =
    let p = and_parts (int_le (pos 0) r.limit && int_le r.limit (pos 0)) (is_def r.quantum) h in
    let q = and_parts (int_le (pos 0) r.limit) (int_le r.limit (pos 0)) p.0 in
    let e : pos 0 ≡ r.limit = unused-limit r.limit q.0 q.1 in
    let f : quantum.Def ≡ r.quantum = unused-ts r.quantum p.1 in
    cc
request-back class.Rt r h =
    let q = and_parts (int_le (pos 0) r.limit) (int_le r.limit (pos 0)) h in
    let e : pos 0 ≡ r.limit = unused-limit r.limit q.0 q.1 in
    rw (quantum-back r.quantum, e) refl

asked : (r : Request) → request_fits r ≡ true → IsAsked r
asked r h =
    let p = and_parts (short_fits r.limit && short_fits r.pri && quantum_fits r.quantum) (unused_fit r.class r.limit r.quantum) h in
    let q = and_parts (short_fits r.limit && short_fits r.pri) (quantum_fits r.quantum) p.0 in
    let s = and_parts (short_fits r.limit) (short_fits r.pri) q.0 in
    record { limit = s.0; pri = s.1; quantum = q.1 }

in-range : (class : Class) (r : Request) → IsAsked r → is_request (asked_said class r) ≡ true
in-range class.Ts r h = rw (h.limit, h.pri) refl
in-range class.Fx r h = rw (h.limit, h.pri, is-quantum r.quantum h.quantum) refl
in-range class.Sys r h = h.pri
in-range class.Rt r h = rw (h.pri, is-quantum r.quantum h.quantum) refl

-- ---- sets and processors

set-word_at : (w : Work) (n : ℕ) → set_name w n ≡ set_word (said_at w n)
set-word_at w zero = refl
set-word_at w (suc q) = let other : eqb (suc q) 0 ≡ false = grind (arith, nat_tests) in rw other refl

set-plain : (set : Option Word) → is_name_if set ≡ true → is_plain (set_word set) ≡ true
set-plain None h = refl
set-plain (Some name) h = name-plain name h

bound-small : (cpus : ℕ) (c : Option CpuId) → cpus ≤ 64 → bound_fits cpus c ≡ true → bound_small c ≡ true
bound-small cpus None most h = refl
bound-small cpus (Some c) most h = grind (arith, nat_tests)

bound-plain : (c : Option CpuId) → bound_small c ≡ true → is_plain (bound_word c) ≡ true
bound-plain None h = refl
bound-plain (Some c) h = let small = ltb-true c.0 64 h in number-plain c.0 (omega arith)

bound-back : (c : Option CpuId) → option_map cpu_of_number (cpu_said c) ≡ c
bound-back None = refl
bound-back (Some c) = refl

bound-known : (d : Declarations) (c : Option CpuId) → bound_fits (cpu_count d) c ≡ true → is_cpu_or_none d (cpu_said c) ≡ true
bound-known d None h = refl
bound-known d (Some c) h = h

-- ---- each operation

module _ (w : Work) (d : Declarations) (n : Names w d) where
  reads-run : (t : ℕ) → span_fits t ≡ true → IsRead w d (op.Run t)
  unfolding only_word
  reads-run t h =
      let small = span-small t h in
      record { plain = rw (number-plain t (omega arith)) refl; inside = refl; form = run-form t (omega arith); same = refl; clear = record { syntax = refl; unknown = refl; twice = refl; range = ap not h; sets = refl; limits = refl } }

  reads-nap : (t : ℕ) → span_fits t ≡ true → IsRead w d (op.Nap t)
  unfolding only_word
  reads-nap t h =
      let small = span-small t h in
      record { plain = rw (number-plain t (omega arith)) refl; inside = refl; form = nap-form t (omega arith); same = refl; clear = record { syntax = refl; unknown = refl; twice = refl; range = ap not h; sets = refl; limits = refl } }

  reads-yield : IsRead w d op.Yield
  unfolding only_word
  reads-yield = record { plain = refl; inside = refl; form = yield-form; same = refl; clear = no-causes }

  one-plain : (word name : Word) → is_plain word ≡ true → is_name name ≡ true → are_plain (word ∷ name ∷ []) ≡ true
  one-plain word name h named = rw (h, name-plain name named) refl

  reads-enter : (l : LockId) → is_mutex (slice_get (map (λ x. x.1) w.locks) l.0) ≡ true → IsRead w d (op.Enter l)
  unfolding only_word
  reads-enter l h =
      let inside = lock-inside w is_mutex l refl h in
      let named = lock-name w l inside in
      record { plain = one-plain (codes "enter") (lock_name w l.0) refl named; inside = refl; form = enter-form (lock_name w l.0) named; same = ap op.Enter (lock-id w d n l inside); clear = unless-clear _ (lock-known w d n is_mutex l inside h) }

  reads-read : (l : LockId) → is_rwlock (slice_get (map (λ x. x.1) w.locks) l.0) ≡ true → IsRead w d (op.Read l)
  unfolding only_word
  reads-read l h =
      let inside = lock-inside w is_rwlock l refl h in
      let named = lock-name w l inside in
      record { plain = one-plain (codes "read") (lock_name w l.0) refl named; inside = refl; form = read-form (lock_name w l.0) named; same = ap op.Read (lock-id w d n l inside); clear = unless-clear _ (lock-known w d n is_rwlock l inside h) }

  reads-write : (l : LockId) → is_rwlock (slice_get (map (λ x. x.1) w.locks) l.0) ≡ true → IsRead w d (op.Write l)
  unfolding only_word
  reads-write l h =
      let inside = lock-inside w is_rwlock l refl h in
      let named = lock-name w l inside in
      record { plain = one-plain (codes "write") (lock_name w l.0) refl named; inside = refl; form = write-form (lock_name w l.0) named; same = ap op.Write (lock-id w d n l inside); clear = unless-clear _ (lock-known w d n is_rwlock l inside h) }

  reads-exit : (l : LockId) → ltb l.0 (length (map (λ x. x.1) w.locks)) ≡ true → IsRead w d (op.Exit l)
  unfolding only_word
  reads-exit l h =
      let count = length-map w.locks (λ x. x.1) in
      let less = ltb-true _ _ h in
      let inside : l.0 < length w.locks = omega arith in
      let named = lock-name w l inside in
      let number = lock-number w d l n inside in
      let locks : length d.locks ≡ length w.locks = ap length n.locks ∙ length-map w.locks lock_kept in
      let yes : is_lock_name d (lock_name w l.0) ≡ true = lt-ltb _ _ (omega arith) in
      record { plain = one-plain (codes "exit") (lock_name w l.0) refl named; inside = refl; form = exit-form (lock_name w l.0) named; same = ap op.Exit (lock-id w d n l inside); clear = unless-clear _ (ap not yes) }

  reads-sleep : (k : ChanId) → is_chan (slice_get (map (λ x. x.1) w.chans) k.0) ≡ true → IsRead w d (op.Sleep k)
  unfolding only_word
  reads-sleep k h =
      let inside = chan-inside w is_chan k refl h in
      let named = chan-name w k inside in
      record { plain = one-plain (codes "sleep") (chan_name w k.0) refl named; inside = refl; form = sleep-form (chan_name w k.0) named; same = ap op.Sleep (chan-id w d n k inside); clear = unless-clear _ (chan-known w d n is_chan k inside h) }

  reads-wake : (k : ChanId) → is_chan (slice_get (map (λ x. x.1) w.chans) k.0) ≡ true → IsRead w d (op.Wake k)
  unfolding only_word
  reads-wake k h =
      let inside = chan-inside w is_chan k refl h in
      let named = chan-name w k inside in
      record { plain = one-plain (codes "wake") (chan_name w k.0) refl named; inside = refl; form = wake-form (chan_name w k.0) named; same = ap op.Wake (chan-id w d n k inside); clear = unless-clear _ (chan-known w d n is_chan k inside h) }

  reads-wakeall : (k : ChanId) → is_chan (slice_get (map (λ x. x.1) w.chans) k.0) ≡ true → IsRead w d (op.WakeAll k)
  unfolding only_word
  reads-wakeall k h =
      let inside = chan-inside w is_chan k refl h in
      let named = chan-name w k inside in
      record { plain = one-plain (codes "wakeall") (chan_name w k.0) refl named; inside = refl; form = wakeall-form (chan_name w k.0) named; same = ap op.WakeAll (chan-id w d n k inside); clear = unless-clear _ (chan-known w d n is_chan k inside h) }

  reads-semap : (k : ChanId) → is_sema (slice_get (map (λ x. x.1) w.chans) k.0) ≡ true → IsRead w d (op.SemaP k)
  unfolding only_word
  reads-semap k h =
      let inside = chan-inside w is_sema k refl h in
      let named = chan-name w k inside in
      record { plain = one-plain (codes "semap") (chan_name w k.0) refl named; inside = refl; form = semap-form (chan_name w k.0) named; same = ap op.SemaP (chan-id w d n k inside); clear = unless-clear _ (chan-known w d n is_sema k inside h) }

  reads-semav : (k : ChanId) → is_sema (slice_get (map (λ x. x.1) w.chans) k.0) ≡ true → IsRead w d (op.SemaV k)
  unfolding only_word
  reads-semav k h =
      let inside = chan-inside w is_sema k refl h in
      let named = chan-name w k inside in
      record { plain = one-plain (codes "semav") (chan_name w k.0) refl named; inside = refl; form = semav-form (chan_name w k.0) named; same = ap op.SemaV (chan-id w d n k inside); clear = unless-clear _ (chan-known w d n is_sema k inside h) }

  both-known : (a b : Bool) → not a ≡ false → not b ≡ false → not (a && b) ≡ false
  both-known true b p q = q
  both-known false b p q = p

  reads-cvwait : (k : ChanId) (l : LockId) → (is_chan (slice_get (map (λ x. x.1) w.chans) k.0) && is_mutex (slice_get (map (λ x. x.1) w.locks) l.0)) ≡ true → IsRead w d (op.CvWait k l)
  unfolding only_word
  reads-cvwait k l h =
      let p = and_parts (is_chan (slice_get (map (λ x. x.1) w.chans) k.0)) (is_mutex (slice_get (map (λ x. x.1) w.locks) l.0)) h in
      let inside = chan-inside w is_chan k refl p.0 in
      let within = lock-inside w is_mutex l refl p.1 in
      let named = chan-name w k inside in
      let called = lock-name w l within in
      record {
        plain = rw (name-plain (chan_name w k.0) named, name-plain (lock_name w l.0) called) refl;
        inside = refl;
        form = cvwait-form (chan_name w k.0) (lock_name w l.0) named called;
        same = ap (λ (x : ChanId). op.CvWait x (lock_id d (lock_name w l.0))) (chan-id w d n k inside) ∙ ap (op.CvWait k) (lock-id w d n l within);
        clear = unless-clear _ (both-known _ _ (chan-known w d n is_chan k inside p.0) (lock-known w d n is_mutex l within p.1));
      }

  reads-prio : (t : ThreadId) (r : Request) → (ltb t.0 (length w.threads) && request_fits r) ≡ true → IsRead w d (op.Prio t r)
  unfolding only_word
  reads-prio t r h =
      let p = and_parts (ltb t.0 (length w.threads)) (request_fits r) h in
      let inside = ltb-true _ _ p.0 in
      let named = thread-name w t inside in
      let a = asked r p.1 in
      let unused = (and_parts (short_fits r.limit && short_fits r.pri && quantum_fits r.quantum) (unused_fit r.class r.limit r.quantum) p.1).1 in
      record {
        plain = rw (name-plain (thread_name w t.0) named, request-plain r.class r a) refl;
        inside = refl;
        form = priocntl-form (thread_name w t.0) r.class r named a;
        same = ap (λ (x : ThreadId). op.Prio x (request_of (asked_said r.class r))) (thread-id w d n t inside) ∙ ap (op.Prio t) (request-back r.class r unused);
        clear = record { syntax = refl; unknown = thread-known w d n t inside; twice = refl; range = ap not (in-range r.class r a); sets = refl; limits = refl };
      }

  reads-assign : (c : CpuId) (s : SetId) → (ltb c.0 w.cpus && leb s.0 (length w.sets)) ≡ true → IsRead w d (op.Assign c s)
  unfolding only_word
  reads-assign c s h =
      let p = and_parts (ltb c.0 w.cpus) (leb s.0 (length w.sets)) h in
      let less = ltb-true _ _ p.0 in
      let most = w.most_cpus in
      let inside = leb-true _ _ p.1 in
      let known = set-name w s inside in
      let word : set_word (set_said w s) ≡ set_name w s.0 = sym (set-word_at w s.0) in
      let plain : are_plain (codes "assign" ∷ decimal c.0 ∷ set_word (set_said w s) ∷ []) ≡ true = rw (number-plain c.0 (omega arith), set-plain (set_said w s) known) refl in
      record {
        plain = subst (λ (x : Word). are_plain (codes "assign" ∷ decimal c.0 ∷ x ∷ []) ≡ true) word plain;
        inside = refl;
        form = subst (λ (x : Word). operation_of (codes "assign" ∷ decimal c.0 ∷ x ∷ []) ≡ Some (Assign c.0 (set_said w s))) word (assign-form c.0 (set_said w s) (omega arith) known);
        same = ap (op.Assign c) (set-id w d n s inside);
        clear = record { syntax = refl; unknown = set-known w d n s inside; twice = refl; range = ap not (cpu-known w d n c.0 less); sets = refl; limits = refl };
      }

  reads-pbind : (t : ThreadId) (c : Option CpuId) → (ltb t.0 (length w.threads) && bound_fits w.cpus c) ≡ true → IsRead w d (op.Pbind t c)
  unfolding only_word
  reads-pbind t c h =
      let p = and_parts (ltb t.0 (length w.threads)) (bound_fits w.cpus c) h in
      let inside = ltb-true _ _ p.0 in
      let named = thread-name w t inside in
      let small = bound-small w.cpus c w.most_cpus p.1 in
      record {
        plain = rw (name-plain (thread_name w t.0) named, bound-plain c small) refl;
        inside = refl;
        form = pbind-form (thread_name w t.0) c named small;
        same = ap (λ (x : ThreadId). op.Pbind x (option_map cpu_of_number (cpu_said c))) (thread-id w d n t inside) ∙ ap (op.Pbind t) (bound-back c);
        clear = record { syntax = refl; unknown = thread-known w d n t inside; twice = refl; range = ap not (bound-known d c (ap (λ (x : ℕ). bound_fits x c) n.cpus ∙ p.1)); sets = refl; limits = refl };
      }

  pub reads-op : (o : Op) → op_names (declared w) o ≡ true → IsRead w d o
  reads-op (op.Run t) h = reads-run t h
  reads-op op.Yield h = reads-yield
  reads-op (op.Nap t) h = reads-nap t h
  reads-op (op.Sleep k) h = reads-sleep k h
  reads-op (op.Wake k) h = reads-wake k h
  reads-op (op.WakeAll k) h = reads-wakeall k h
  reads-op (op.Enter l) h = reads-enter l h
  reads-op (op.Read l) h = reads-read l h
  reads-op (op.Write l) h = reads-write l h
  reads-op (op.Exit l) h = reads-exit l h
  reads-op (op.Prio t r) h = reads-prio t r h
  reads-op (op.CvWait k l) h = reads-cvwait k l h
  reads-op (op.SemaP k) h = reads-semap k h
  reads-op (op.SemaV k) h = reads-semav k h
  reads-op (op.Assign c s) h = reads-assign c s h
  reads-op (op.Pbind t c) h = reads-pbind t c h
