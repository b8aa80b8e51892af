-- The scripts of generated workloads are taken in.
use Rattle.std.proofs.Common.{◌≡◌, ℕ, ◌+◌, ◌-◌, ◌<◌, ◌≤◌, Bool, true, false, eqb, List, [], ◌∷◌, ◌++◌, length, None, refl, subst, arith, if◌then◌else◌}
use Rattle.std.specs.Prelude.{codes}
use Rattle.std.specs.Fmt.{decimal, digits}
use Rattle.std.proofs.lemmas.Bool.{eq-eqb}
use Rattle.std.proofs.lemmas.Bool.Decides.{nat_tests}
use Rattle.rand_pcg.specs.Lcg.{Lcg}
use Rattle.sd_types.specs.declared.numbers.LockId.{LockId}
use Rattle.sd_types.specs.declared.numbers.ThreadId.{ThreadId}
use Rattle.sd_types.specs.declared.scripts.Op.{Op}
use Rattle.sd_types.specs.declared.scripts.Op.TheVariants as op
use Rattle.sd_types.specs.declared.works.LockKind.{LockKind}
use Rattle.sd_types.specs.declared.works.LockKind.TheVariants.{Mutex, Rwlock}
use Rattle.sd_types.specs.Scripts.{held_after, held_by, op_fits}
use Rattle.sd_lines.specs.Words.{Word}
use Rattle.sd_lines.specs.Operations.{Run, Nap, Enter, Read, Write, Exit}
use Rattle.sd_declare.specs.Declarations.{Declarations}
use Rattle.sd_gen.specs.Generated.{drawn, locked_text, nested_text, number_line, mutex_part, nested_part, read_part, write_part, nap_part, part, part_drawn, round_text}
use Rattle.sd_gen.proofs.AcceptedLemmas.{numbered, the-locks}
use Rattle.sd_gen.proofs.DrawnOpLemmas.{IsLockAt, mutex-lock, rwlock-lock, Goes, goes-line, goes-both, reads-run, reads-nap, reads-enter, reads-read, reads-write, reads-exit}

abbrev lock : ℕ → LockId
lock l = record { 0 = l }

-- ---- locks taken and given up

run-one : number_line (codes "run ") 1 ≡ codes "run 1\n"
unfolding digits
run-one = refl

run-two : number_line (codes "run ") 2 ≡ codes "run 2\n"
unfolding digits
run-two = refl

module _ (d : Declarations) (e : d.locks ≡ the-locks) (t : ThreadId) where
  goes-run : (front : List Op) (held : List LockId) (n : ℕ) → held_by front ≡ held → 1 ≤ n → n ≤ 100 → length front < 256 → Goes d t (number_line (codes "run ") n) front held 1
  goes-run front held n h some most room = goes-line d t front held (codes "run") (decimal n) (Run n) (op.Run n) h (reads-run d e n some most) refl refl room

  goes-nap : (front : List Op) (held : List LockId) (n : ℕ) → held_by front ≡ held → 1 ≤ n → n ≤ 100 → length front < 256 → Goes d t (number_line (codes "nap ") n) front held 1
  goes-nap front held n h some most room = goes-line d t front held (codes "nap") (decimal n) (Nap n) (op.Nap n) h (reads-nap d e n some most) refl refl room

  -- the one lock that is held is given up
  goes-last : (front : List Op) (l : ℕ) (name : Word) (kind : LockKind) → IsLockAt l name kind → held_by front ≡ lock l ∷ [] → length front < 256
      → Goes d t (codes "exit" ++ (32 ∷ (name ++ 10 ∷ []))) front [] 1
  goes-last front l name kind k h room =
      let same = eq-eqb l l refl in
      let fits : op_fits (lock l ∷ []) (op.Exit (lock l)) None ≡ true = rw same refl in
      let none : held_after (lock l ∷ []) (op.Exit (lock l)) ≡ [] = rw same refl in
      subst (λ (held : List LockId). Goes d t (codes "exit" ++ (32 ∷ (name ++ 10 ∷ []))) front held 1) none
      (goes-line d t front (lock l ∷ []) (codes "exit") name (Exit name) (op.Exit (lock l)) h (reads-exit d e l name kind k) refl fits room)

  -- a lock is taken, for a run of one tick
  goes-locked : (a : List ℕ) (front : List Op) (l : ℕ) (name : Word) (kind : LockKind) → IsLockAt l name kind → length front ≤ 200
      → Goes d t a front (lock l ∷ []) 1
      → Goes d t (a ++ (codes "run 1\n" ++ (codes "exit" ++ (32 ∷ (name ++ 10 ∷ []))))) front [] 3
  goes-locked a front l name kind k room x =
      let p = x.short in
      let y : Goes d t (codes "run 1\n") x.back (lock l ∷ []) 1 =
      subst (λ (text : List ℕ). Goes d t text x.back (lock l ∷ []) 1) run-one (goes-run x.back (lock l ∷ []) 1 x.holds (omega arith) (omega arith) (omega arith)) in
      let q = y.short in
      goes-both d t a (codes "run 1\n" ++ (codes "exit" ++ (32 ∷ (name ++ 10 ∷ [])))) front (lock l ∷ []) [] 1 2 x
      (goes-both d t (codes "run 1\n") (codes "exit" ++ (32 ∷ (name ++ 10 ∷ []))) x.back (lock l ∷ []) [] 1 1 y
      (goes-last y.back l name kind k y.holds (omega arith)))

  goes-mutex : (front : List Op) (a : ℕ) → held_by front ≡ [] → length front ≤ 200 → a < 16 → Goes d t (locked_text (codes "enter ") (codes "m") a) front [] 3
  goes-mutex front a h room inside =
      let k = mutex-lock a inside in
      goes-locked (codes "enter" ++ (32 ∷ (numbered 109 a ++ 10 ∷ []))) front a (numbered 109 a) Mutex k room
      (goes-line d t front [] (codes "enter") (numbered 109 a) (Enter (numbered 109 a)) (op.Enter (lock a)) h (reads-enter d e a (numbered 109 a) k) refl refl (omega arith))

  goes-read : (front : List Op) (a : ℕ) → held_by front ≡ [] → length front ≤ 200 → a < 4 → Goes d t (locked_text (codes "read ") (codes "w") a) front [] 3
  goes-read front a h room inside =
      let k = rwlock-lock a inside in
      goes-locked (codes "read" ++ (32 ∷ (numbered 119 a ++ 10 ∷ []))) front (16 + a) (numbered 119 a) Rwlock k room
      (goes-line d t front [] (codes "read") (numbered 119 a) (Read (numbered 119 a)) (op.Read (lock (16 + a))) h (reads-read d e (16 + a) (numbered 119 a) k) refl refl (omega arith))

  goes-write : (front : List Op) (a : ℕ) → held_by front ≡ [] → length front ≤ 200 → a < 4 → Goes d t (locked_text (codes "write ") (codes "w") a) front [] 3
  goes-write front a h room inside =
      let k = rwlock-lock a inside in
      goes-locked (codes "write" ++ (32 ∷ (numbered 119 a ++ 10 ∷ []))) front (16 + a) (numbered 119 a) Rwlock k room
      (goes-line d t front [] (codes "write") (numbered 119 a) (Write (numbered 119 a)) (op.Write (lock (16 + a))) h (reads-write d e (16 + a) (numbered 119 a) k) refl refl (omega arith))

  -- two mutexes, one inside the other
  goes-nested : (front : List Op) (a b : ℕ) → held_by front ≡ [] → length front ≤ 200 → a < b → b < 16 → Goes d t (nested_text a b) front [] 5
  goes-nested front a b h room less inside =
      let outer = mutex-lock a (omega arith) in
      let inner = mutex-lock b inside in
      let na = numbered 109 a in
      let nb = numbered 109 b in
      let other : eqb b a ≡ false = grind (arith, nat_tests) in
      let same = eq-eqb b b refl in
      let both = lock a ∷ lock b ∷ [] in
      let enters : op_fits (lock a ∷ []) (op.Enter (lock b)) None ≡ true = rw other refl in
      let exits : op_fits both (op.Exit (lock b)) None ≡ true = rw (other, same) refl in
      let left : held_after both (op.Exit (lock b)) ≡ lock a ∷ [] = rw (other, same) refl in
      let p = goes-line d t front [] (codes "enter") na (Enter na) (op.Enter (lock a)) h (reads-enter d e a na outer) refl refl (omega arith) in
      let sp = p.short in
      let q = goes-line d t p.back (lock a ∷ []) (codes "enter") nb (Enter nb) (op.Enter (lock b)) p.holds (reads-enter d e b nb inner) refl enters (omega arith) in
      let sq = q.short in
      let r : Goes d t (codes "run 2\n") q.back both 1 =
      subst (λ (text : List ℕ). Goes d t text q.back both 1) run-two (goes-run q.back both 2 q.holds (omega arith) (omega arith) (omega arith)) in
      let sr = r.short in
      let s : Goes d t (codes "exit" ++ (32 ∷ (nb ++ 10 ∷ []))) r.back (lock a ∷ []) 1 =
      subst (λ (held : List LockId). Goes d t (codes "exit" ++ (32 ∷ (nb ++ 10 ∷ []))) r.back held 1) left
      (goes-line d t r.back both (codes "exit") nb (Exit nb) (op.Exit (lock b)) r.holds (reads-exit d e b nb Mutex inner) refl exits (omega arith)) in
      let ss = s.short in
      let u = goes-last s.back a na Mutex outer s.holds (omega arith) in
      goes-both d t _ _ front (lock a ∷ []) [] 1 4 p
      (goes-both d t _ _ p.back both [] 1 3 q
      (goes-both d t _ _ q.back both [] 1 2 r
      (goes-both d t _ _ r.back (lock a ∷ []) [] 1 1 s u)))

  -- ---- what is drawn

  weaker : (text : List ℕ) (front : List Op) (n m : ℕ) → n ≤ m → Goes d t text front [] n → Goes d t text front [] m
  weaker text front n m le x = record { back = x.back; takes = x.takes; holds = x.holds; short = (let p = x.short in omega arith) }

  goes-nested_part : (front : List Op) (g : Lcg) → held_by front ≡ [] → length front ≤ 200 → Goes d t (nested_part g).0 front [] 5
  goes-nested_part front g h room = nested-drawn (drawn 15 g).0 (drawn 15 g).1 (omega arith)
    where
      nested-drawn : (a : ℕ) (k : Lcg) → a < 15 → Goes d t (nested_text a (a + 1 + (drawn (15 - a) k).0)) front [] 5
      nested-drawn a k less = goes-nested front a (a + 1 + (drawn (15 - a) k).0) h room (omega arith) (omega arith)

  goes-part : (front : List Op) (kind : ℕ) (g : Lcg) → held_by front ≡ [] → length front ≤ 200 → Goes d t (part kind g).0 front [] 5
  unfolding part
  goes-part front kind g h room = by (eqb kind 0) (eqb kind 1) (eqb kind 2) (eqb kind 3)
    where
      by : (a b c f : Bool) → Goes d t (if a then mutex_part g else if b then nested_part g else if c then read_part g else if f then write_part g else nap_part g).0 front [] 5
      by true b c f = weaker _ front 3 5 (omega arith) (goes-mutex front (drawn 16 g).0 h room (omega arith))
      by false true c f = goes-nested_part front g h room
      by false false true f = weaker _ front 3 5 (omega arith) (goes-read front (drawn 4 g).0 h room (omega arith))
      by false false false true = weaker _ front 3 5 (omega arith) (goes-write front (drawn 4 g).0 h room (omega arith))
      by false false false false = weaker _ front 1 5 (omega arith) (goes-nap front [] ((drawn 50 g).0 + 1) h (omega arith) (omega arith) (omega arith))

  pub goes-round : (front : List Op) (g : Lcg) → held_by front ≡ [] → length front ≤ 190 → Goes d t (round_text g).0 front [] 6
  unfolding round_text
  goes-round front g h room =
      let x = goes-run front [] ((drawn 100 g).0 + 1) h (omega arith) (omega arith) (omega arith) in
      let p = x.short in
      goes-both d t (number_line (codes "run ") ((drawn 100 g).0 + 1)) (part_drawn (drawn 100 g).1).0 front [] [] 1 5 x
      (goes-part x.back (drawn 5 (drawn 100 g).1).0 (drawn 5 (drawn 100 g).1).1 x.holds (omega arith))
