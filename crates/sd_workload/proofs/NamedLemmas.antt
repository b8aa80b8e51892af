-- What scripts name stays named when more is declared.
use Rattle.std.proofs.Common.{◌≡◌, ℕ, ◌≤◌, true, ◌&&◌, leb, List, [], ◌∷◌, ◌++◌, length, Option, Some, None, refl}
use Rattle.std.proofs.lemmas.Bool.{and_parts, and_from}
use Rattle.std.specs.List.{list_all, slice_get}
use Rattle.std.proofs.lemmas.Option.{none-some}
use Rattle.sd_types.specs.declared.numbers.CpuId.{CpuId}
use Rattle.sd_types.specs.declared.scripts.Op.{Op}
use Rattle.sd_types.specs.declared.scripts.Op.TheVariants.{Run, Yield, Nap, Sleep, Wake, WakeAll, Enter, Read, Write, Exit, Prio, CvWait, SemaP, SemaV, Assign, Pbind}
use Rattle.sd_types.specs.declared.works.LockKind.{LockKind}
use Rattle.sd_types.specs.declared.works.ChanKind.{ChanKind}
use Rattle.sd_types.specs.Works.{Declared, is_mutex, is_rwlock, is_chan, is_sema, bound_fits, op_names, class_fits}
use Rattle.sd_declare.specs.Declarations.{Thread}
use Rattle.sd_workload.specs.Sound.{thread_is_sound, AreThreads}
use Rattle.sd_workload.proofs.NameLemmas.{lt-more, le-more, all-more, get-more}

pub record Extends (d e : Declared) : Type 0 where
  pub cpus : d.cpus ≤ e.cpus
  pub sets : d.sets ≤ e.sets
  pub threads : d.threads ≤ e.threads
  pub lock_count : length d.locks ≤ length e.locks
  pub locks : (i : ℕ) (x : LockKind) → slice_get d.locks i ≡ Some x → slice_get e.locks i ≡ Some x
  pub chans : (i : ℕ) (x : ChanKind) → slice_get d.chans i ≡ Some x → slice_get e.chans i ≡ Some x

bound-more : (m n : ℕ) (c : Option CpuId) → m ≤ n → bound_fits m c ≡ true → bound_fits n c ≡ true
bound-more m n None l h = refl
bound-more m n (Some c) l h = lt-more c.0 m n h l

names-more : (d e : Declared) → Extends d e → (op : Op) → op_names d op ≡ true → op_names e op ≡ true
names-more d e x (Run n) h = h
names-more d e x Yield h = refl
names-more d e x (Nap n) h = h
names-more d e x (Sleep k) h = get-more is_chan d.chans e.chans k.0 refl (x.chans k.0) h
names-more d e x (Wake k) h = get-more is_chan d.chans e.chans k.0 refl (x.chans k.0) h
names-more d e x (WakeAll k) h = get-more is_chan d.chans e.chans k.0 refl (x.chans k.0) h
names-more d e x (Enter l) h = get-more is_mutex d.locks e.locks l.0 refl (x.locks l.0) h
names-more d e x (Read l) h = get-more is_rwlock d.locks e.locks l.0 refl (x.locks l.0) h
names-more d e x (Write l) h = get-more is_rwlock d.locks e.locks l.0 refl (x.locks l.0) h
names-more d e x (Exit l) h = lt-more l.0 (length d.locks) (length e.locks) h x.lock_count
names-more d e x (Prio t r) h = let p = and_parts _ _ h in and_from _ _ (lt-more t.0 d.threads e.threads p.0 x.threads) p.1
names-more d e x (CvWait k l) h =
    let p = and_parts _ _ h in
    and_from _ _ (get-more is_chan d.chans e.chans k.0 refl (x.chans k.0) p.0) (get-more is_mutex d.locks e.locks l.0 refl (x.locks l.0) p.1)
names-more d e x (SemaP k) h = get-more is_sema d.chans e.chans k.0 refl (x.chans k.0) h
names-more d e x (SemaV k) h = get-more is_sema d.chans e.chans k.0 refl (x.chans k.0) h
names-more d e x (Assign c s) h =
    let p = and_parts _ _ h in and_from _ _ (lt-more c.0 d.cpus e.cpus p.0 x.cpus) (le-more s.0 d.sets e.sets p.1 x.sets)
names-more d e x (Pbind t c) h =
    let p = and_parts _ _ h in and_from _ _ (lt-more t.0 d.threads e.threads p.0 x.threads) (bound-more d.cpus e.cpus c x.cpus p.1)

pub ops-more : (d e : Declared) (ops : List Op) → Extends d e → list_all (op_names d) ops ≡ true → list_all (op_names e) ops ≡ true
ops-more d e ops x h = all-more (op_names d) (op_names e) ops (names-more d e x) h

thread-more : (d e : Declared) → Extends d e → (t : Thread) → thread_is_sound d t ≡ true → thread_is_sound e t ≡ true
thread-more d e x t h =
    let p = and_parts (class_fits t.class t.cpupri && leb t.set.0 d.sets) (list_all (op_names d) t.ops) h in
    let q = and_parts (class_fits t.class t.cpupri) (leb t.set.0 d.sets) p.0 in
    and_from _ _ (and_from _ _ q.0 (le-more t.set.0 d.sets e.sets q.1 x.sets)) (ops-more d e t.ops x p.1)

pub threads-more : (d e : Declared) (ts : List Thread) → Extends d e → AreThreads d ts → AreThreads e ts
threads-more d e ts x h = record { names = h.names; fit = all-more (thread_is_sound d) (thread_is_sound e) ts (thread-more d e x) h.fit }
