-- The operations of generated workloads are taken in, line after line.
use Rattle.std.proofs.Common.{◌≡◌, ℕ, zero, suc, ◌+◌, ◌<◌, ◌≤◌, true, false, not, List, [], ◌∷◌, ◌++◌, length, map, Option, Some, None, refl, sym, ap, ◌∙◌, subst, arith, append-nil, append_assoc, length-append}
use Rattle.std.specs.Prelude.{codes, slice_get, fold, unwrap_or, option_map}
use Rattle.std.specs.Fmt.{decimal}
use Rattle.std.specs.List.{range_with_len}
use Rattle.std.proofs.lemmas.Bool.{lt-ltb}
use Rattle.std.proofs.lemmas.Bool.Decides.{nat_tests}
use Rattle.sd_types.specs.declared.numbers.LockId.{LockId}
use Rattle.sd_types.specs.declared.numbers.ThreadId.{ThreadId}
use Rattle.sd_types.specs.declared.scripts.Op.{Op}
use Rattle.sd_types.specs.declared.scripts.Op.TheVariants as op
use Rattle.sd_types.specs.declared.works.LockKind.{LockKind}
use Rattle.sd_types.specs.declared.works.LockKind.TheVariants.{Mutex, Rwlock}
use Rattle.sd_types.specs.NameWords.{is_name}
use Rattle.sd_types.specs.Works.{is_mutex, is_rwlock, span_fits}
use Rattle.sd_types.specs.Scripts.{held_after, held_by, op_fits}
use Rattle.sd_script.specs.Faults.{is_wait}
use Rattle.sd_lines.specs.Words.{Word, only_word}
use Rattle.sd_lines.specs.Operations.{Operation, Run, Nap, Enter, Read, Write, Exit}
use Rattle.sd_declare.specs.Declarations.{Declarations, lock_number, lock_id, lock_kind, is_lock_name, place}
use Rattle.sd_declare.specs.Operations.{ops_of_op}
use Rattle.sd_workload.specs.Scripts.{ops_fault}
use Rattle.sd_workload.specs.Texts.{InScript}
use Rattle.sd_canonical.specs.Canonical.{line_text}
use Rattle.sd_canonical.proofs.TextLemmas.{is_plain, are_plain, name-plain, number-plain}
use Rattle.sd_canonical.proofs.TakesLemmas.{Takes, takes-both}
use Rattle.sd_canonical.proofs.OpFormLemmas.{run-form, nap-form, enter-form, read-form, write-form, exit-form}
use Rattle.sd_canonical.proofs.OpLemmas.{Reads, unless-clear}
use Rattle.sd_canonical.proofs.ScriptLemmas.{takes-op, one-alone, more-free}
use Rattle.sd_gen.proofs.AcceptedLemmas.{numbered, numbered-name, mutex-at, rwlock-at, the-locks, locks-named, locks-count}
use Rattle.std.proofs.lemmas.Option.{slice_get-map}
use Rattle.sd_entries.proofs.NameLemmas.{place_of_name, name_at}

-- ---- locks by number

get-range : {X : Type 0} (f : ℕ → X) (a n k : ℕ) (ys : List X) → k < n → slice_get (map f (range_with_len a n) ++ ys) k ≡ Some (f (a + k))
get-range f a zero k ys h = absurd (omega arith)
get-range f a (suc n) zero ys h = ap (λ m. Some (f m)) (let e : a ≡ a + 0 = omega arith in e)
get-range f a (suc n) (suc k) ys h = get-range f (a + 1) n k ys (omega arith) ∙ ap (λ m. Some (f m)) (let e : a + 1 + k ≡ a + suc k = omega arith in e)

get-past : {X : Type 0} (f : ℕ → X) (a n k : ℕ) (ys : List X) → slice_get (map f (range_with_len a n) ++ ys) (n + k) ≡ slice_get ys k
get-past f a zero k ys = ap (slice_get ys) (let e : 0 + k ≡ k = omega arith in e)
get-past f a (suc n) k ys =
    let e : suc n + k ≡ suc (n + k) = omega arith in
    ap (slice_get (f a ∷ (map f (range_with_len (a + 1) n) ++ ys))) e ∙ get-past f (a + 1) n k ys

-- the lock of this number has this name and this kind
pub record IsLockAt (l : ℕ) (name : Word) (kind : LockKind) : Type 0 where
  pub inside : l < 20
  pub at : slice_get the-locks l ≡ Some (name, kind)
  pub named : is_name name ≡ true

pub mutex-lock : (a : ℕ) → a < 16 → IsLockAt a (numbered 109 a) Mutex
unfolding the-locks
mutex-lock a h = record {
  inside = omega arith;
  at = get-range mutex-at 0 16 a (map rwlock-at (range_with_len 0 4)) h ∙ ap (λ n. Some (mutex-at n)) (let e : 0 + a ≡ a = omega arith in e);
  named = numbered-name 109 a refl (omega arith);
}

pub rwlock-lock : (a : ℕ) → a < 4 → IsLockAt (16 + a) (numbered 119 a) Rwlock
unfolding the-locks
rwlock-lock a h = record {
  inside = omega arith;
  at = get-past mutex-at 0 16 a (map rwlock-at (range_with_len 0 4)) ∙ ap (λ l. slice_get l a) (sym (append-nil (map rwlock-at (range_with_len 0 4))))
      ∙ get-range rwlock-at 0 4 a [] h ∙ ap (λ n. Some (rwlock-at n)) (let e : 0 + a ≡ a = omega arith in e);
  named = numbered-name 119 a refl (omega arith);
}

name-there : (l : ℕ) (name : Word) (kind : LockKind) → slice_get the-locks l ≡ Some (name, kind) → name_at (λ x. x.0) the-locks l ≡ name
name-there l name kind e = ap (λ (o : Option (Word × LockKind)). unwrap_or (option_map (λ x. x.0) o) []) e

module _ (d : Declarations) (e : d.locks ≡ the-locks) where
  lock-number : (l : ℕ) (name : Word) (kind : LockKind) → IsLockAt l name kind → lock_number d name ≡ l
  unfolding lock_number
  lock-number l name kind k =
      let inside = k.inside in
      let count = locks-count in
      let n = name-there l name kind k.at in
      ap (place name) e ∙ sym (ap (λ (x : Word). place x the-locks) n) ∙ place_of_name (λ x. x.0) the-locks l (omega arith) locks-named.names

  lock-kind : (l : ℕ) (name : Word) (kind : LockKind) → IsLockAt l name kind → lock_kind d name ≡ Some kind
  lock-kind l name kind k =
      ap (slice_get (map (λ (x : Word × LockKind). x.1) d.locks)) (lock-number l name kind k)
      ∙ ap (λ (ls : List (Word × LockKind)). slice_get (map (λ (x : Word × LockKind). x.1) ls) l) e
      ∙ slice_get-map (λ (x : Word × LockKind). x.1) the-locks l ∙ ap (option_map (λ (x : Word × LockKind). x.1)) k.at

  lock-there : (l : ℕ) (name : Word) (kind : LockKind) → IsLockAt l name kind → lock_id d name ≡ record { 0 = l }
  lock-there l name kind k = rw (lock-number l name kind k) refl

  lock-known : (l : ℕ) (name : Word) (kind : LockKind) → IsLockAt l name kind → not (is_lock_name d name) ≡ false
  lock-known l name kind k =
      let number = lock-number l name kind k in
      let inside = k.inside in
      let count : length d.locks ≡ 20 = ap length e ∙ locks-count in
      let known : is_lock_name d name ≡ true = lt-ltb _ _ (omega arith) in
      ap not known

  name-line : (word name : Word) → is_plain word ≡ true → is_name name ≡ true → are_plain (word ∷ name ∷ []) ≡ true
  name-line word name h named = rw (h, name-plain name named) refl

  pub reads-run : (n : ℕ) → 1 ≤ n → n ≤ 100 → Reads d (codes "run" ∷ decimal n ∷ []) (Run n) (op.Run n)
  unfolding only_word
  reads-run n some most =
      let fits : span_fits n ≡ true = grind (arith, nat_tests) in
      record { plain = rw (number-plain n (omega arith)) refl; inside = refl; form = run-form n (omega arith); same = refl; clear = record { syntax = refl; unknown = refl; twice = refl; range = ap not fits; sets = refl; limits = refl } }

  pub reads-nap : (n : ℕ) → 1 ≤ n → n ≤ 100 → Reads d (codes "nap" ∷ decimal n ∷ []) (Nap n) (op.Nap n)
  unfolding only_word
  reads-nap n some most =
      let fits : span_fits n ≡ true = grind (arith, nat_tests) in
      record { plain = rw (number-plain n (omega arith)) refl; inside = refl; form = nap-form n (omega arith); same = refl; clear = record { syntax = refl; unknown = refl; twice = refl; range = ap not fits; sets = refl; limits = refl } }

  pub reads-enter : (l : ℕ) (name : Word) → IsLockAt l name Mutex → Reads d (codes "enter" ∷ name ∷ []) (Enter name) (op.Enter (record { 0 = l }))
  unfolding only_word
  reads-enter l name k = record { plain = name-line (codes "enter") name refl k.named; inside = refl; form = enter-form name k.named; same = ap op.Enter (lock-there l name Mutex k); clear = unless-clear _ (ap (λ o. not (is_mutex o)) (lock-kind l name Mutex k)) }

  pub reads-read : (l : ℕ) (name : Word) → IsLockAt l name Rwlock → Reads d (codes "read" ∷ name ∷ []) (Read name) (op.Read (record { 0 = l }))
  unfolding only_word
  reads-read l name k = record { plain = name-line (codes "read") name refl k.named; inside = refl; form = read-form name k.named; same = ap op.Read (lock-there l name Rwlock k); clear = unless-clear _ (ap (λ o. not (is_rwlock o)) (lock-kind l name Rwlock k)) }

  pub reads-write : (l : ℕ) (name : Word) → IsLockAt l name Rwlock → Reads d (codes "write" ∷ name ∷ []) (Write name) (op.Write (record { 0 = l }))
  unfolding only_word
  reads-write l name k = record { plain = name-line (codes "write") name refl k.named; inside = refl; form = write-form name k.named; same = ap op.Write (lock-there l name Rwlock k); clear = unless-clear _ (ap (λ o. not (is_rwlock o)) (lock-kind l name Rwlock k)) }

  pub reads-exit : (l : ℕ) (name : Word) (kind : LockKind) → IsLockAt l name kind → Reads d (codes "exit" ∷ name ∷ []) (Exit name) (op.Exit (record { 0 = l }))
  unfolding only_word
  reads-exit l name kind k = record { plain = name-line (codes "exit") name refl k.named; inside = refl; form = exit-form name k.named; same = ap op.Exit (lock-there l name kind k); clear = unless-clear _ (lock-known l name kind k) }

-- ---- operations one after another

held-push : (front : List Op) (o : Op) → held_by (front ++ o ∷ []) ≡ held_after (held_by front) o
held-push front o = from [] front
  where
    from : (held : List LockId) (ops : List Op) → fold held_after held (ops ++ o ∷ []) ≡ held_after (fold held_after held ops) o
    from held [] = refl
    from held (x ∷ ops) = from (held_after held x) ops

-- from these operations of a block on, behind which no lock but these is held: the text adds at most so many, and then
-- these locks are held
pub record Goes (d : Declarations) (t : ThreadId) (text : List ℕ) (front : List Op) (held : List LockId) (n : ℕ) : Type 0 where
  pub back : List Op
  pub takes : Takes text d (InScript t front) d (InScript t back)
  pub holds : held_by back ≡ held
  pub short : length back ≤ length front + n

-- the words of a line, of which there are two
pub two-words : (word x : Word) → line_text (word ∷ x ∷ []) ≡ word ++ (32 ∷ (x ++ 10 ∷ []))
two-words word x =
    ap (λ (l : List ℕ). (word ++ (32 ∷ l)) ++ 10 ∷ []) (append-nil x) ∙ append_assoc word (32 ∷ x) (10 ∷ [])

pub goes-line : (d : Declarations) (t : ThreadId) (front : List Op) (held : List LockId) (word x : Word) (s : Operation) (o : Op) → held_by front ≡ held
    → Reads d (word ∷ x ∷ []) s o → is_wait o ≡ false → op_fits held o None ≡ true → length front < 256
    → Goes d t (word ++ (32 ∷ (x ++ 10 ∷ []))) front (held_after held o) 1
goes-line d t front held word x s o h r single fits room =
    let fit : op_fits (held_by front) o None ≡ true = ap (λ l. op_fits l o None) h ∙ fits in
    let free : ops_fault front (ops_of_op o) ≡ None = ap (ops_fault front) (one-alone o single) ∙ rw (more-free front o None room fit) refl in
    record {
      back = front ++ o ∷ [];
      takes = subst (λ (text : List ℕ). Takes text d (InScript t front) d (InScript t (front ++ o ∷ []))) (two-words word x)
          (subst (λ (l : List Op). Takes (line_text (word ∷ x ∷ [])) d (InScript t front) d (InScript t (front ++ l))) (one-alone o single)
          (takes-op d t front (word ∷ x ∷ []) s o r free));
      holds = held-push front o ∙ ap (λ l. held_after l o) h;
      short = (let long = length-append front (o ∷ []) in omega arith);
    }

pub goes-both : (d : Declarations) (t : ThreadId) (a b : List ℕ) (front : List Op) (h k : List LockId) (n m : ℕ) → (x : Goes d t a front h n) → Goes d t b x.back k m → Goes d t (a ++ b) front k (n + m)
goes-both d t a b front h k n m x y = record {
  back = y.back;
  takes = takes-both a b d d d (InScript t front) (InScript t x.back) (InScript t y.back) x.takes y.takes;
  holds = y.holds;
  short = (let p = x.short in let q = y.short in omega arith);
}
