-- A statement without causes keeps what holds of the declarations.
use Rattle.std.proofs.Common.{◌≡◌, ℕ, ℤ, ◌+◌, ◌<◌, ◌≤◌, Bool, true, false, not, ◌&&◌, ◌||◌, ltb, leb, min, List, [], ◌∷◌, ◌++◌, length, map, Option, Some, None, refl, sym, ap, ◌∙◌, subst, arith, length-append, append-nil}
use Rattle.std.specs.Prelude.{unwrap_or, is_some, nat_eq}
use Rattle.std.specs.Int.{int_min}
use Rattle.std.specs.List.{list_any, list_all, slice_get}
use Rattle.std.proofs.lemmas.Bool.{false≢true, and_from, and_parts, or_parts, not-false}
use Rattle.std.proofs.lemmas.Bool.Decides.{nat_tests}
use Rattle.std.proofs.lemmas.Int.{ints}
use Rattle.std.proofs.lemmas.List.{map-append, nil_from_length, length-map}
use Rattle.std.proofs.lemmas.List.Concat.{flat_map-append, length-flat_map}
use Rattle.std.proofs.lemmas.List.Folds.{list_all-append, list_any-append}
use Rattle.sd_basics.proofs.Lists.{get_more}
use Rattle.sd_types.specs.declared.numbers.CpuId.{CpuId}
use Rattle.sd_types.specs.declared.classes.ClassParms.TheVariants as parms
use Rattle.sd_types.specs.declared.works.LockKind.{LockKind}
use Rattle.sd_types.specs.declared.works.ChanKind.{ChanKind}
use Rattle.sd_types.specs.Partitions.{cpu_of_number}
use Rattle.sd_types.specs.Works.{same_bytes, same_cpu, is_distinct, class_fits, upri_fits, quantum_fits, has_small_count}
use Rattle.sd_lines.specs.declared.threads.ThreadClass.{ThreadClass}
use Rattle.sd_lines.specs.declared.threads.ThreadClass.TheVariants.{Ts, Fx, Sys, Rt}
use Rattle.sd_lines.specs.declared.words.QuantumWord.{QuantumWord}
use Rattle.sd_lines.specs.declared.words.QuantumWord.TheVariants.{Def, Inf, Ticks}
use Rattle.sd_lines.specs.Words.{Word}
use Rattle.sd_lines.specs.Threads.{Thread as ThreadLine}
use Rattle.sd_lines.specs.Statements.{Statement, Cpus, Hz, Limit, Set, Table, Lock, Chan, Sema, Declare, Script}
use Rattle.sd_types.specs.declared.works.ChanKind.TheVariants as chan
use Rattle.sd_declare.specs.Causes.{least}
use Rattle.sd_declare.specs.Declarations.{Thread, Declarations, cpu_count, lock_number, chan_number, set_place, thread_number, named_count, set_number}
use Rattle.sd_declare.specs.Statements.{is_quantum, is_class, is_beyond, is_named, is_taken, cpus_causes, hz_causes, limit_causes, set_causes, lock_causes, chan_causes, sema_causes, thread_causes, statement_causes, quantum_of, parms_of, cpupri_of, thread_of, with_set, with_lock, with_chan, with_thread, with_statement}
use Rattle.sd_declare.proofs.PlaceLemmas.{none-placed, any_kept}
use Rattle.sd_workload.specs.Sound.{named, named_cpus, set_is_sound, thread_is_sound, AreSets, AreSoundDeclarations}
use Rattle.sd_workload.proofs.ClearLemmas.{clear}
use Rattle.sd_workload.proofs.NameLemmas.{distinct-push, distinct-more, named-push}
use Rattle.sd_workload.proofs.NamedLemmas.{threads-more}
use Rattle.sd_workload.proofs.LineLemmas.{all-push}

-- ---- settings

absent : (o : Option ℕ) → is_some o ≡ false → unwrap_or o 1 ≡ 1
absent None h = refl
absent (Some n) h = absurd (false≢true (sym h))

within : (a n b : ℕ) → not (leb a n && leb n b) ≡ false → (a ≤ n) × (n ≤ b)
within a n b h = let p = and_parts (leb a n) (leb n b) (not-false _ h) in (grind (arith, nat_tests, p.0), grind (arith, nat_tests, p.1))

none-there : {X : Type 0} (xs : List X) → ltb 0 (length xs) ≡ false → xs ≡ []
none-there xs h = nil_from_length xs (grind (arith, nat_tests))

cpus-sound : (d : Declarations) (n : ℕ) → least (cpus_causes d n) ≡ None → AreSoundDeclarations d → AreSoundDeclarations (record d { cpus = Some n })
cpus-sound d n none s =
    let c = clear (cpus_causes d n) none in
    let r = within 1 n 64 c.range in
    let no_set = none-there d.sets c.syntax in
    let one = absent d.cpus c.twice in
    record {
      settings = record { cpus_some = r.0; cpus_most = r.1; known_hz = s.settings.known_hz; limit_some = s.settings.limit_some; limit_most = s.settings.limit_most };
      sets = subst (λ (ss : List (Word × List CpuId)). AreSets n ss) (sym no_set) (record { fit = refl; differ = refl; left = omega (arith, r.0) });
      set_names = s.set_names;
      lock_names = s.lock_names;
      chan_names = s.chan_names;
      counts = s.counts;
      threads = threads-more (named d) (named (record d { cpus = Some n })) d.threads
          (record { cpus = omega (arith, one, r.0); sets = omega arith; threads = omega arith; lock_count = omega arith; locks = λ i x e. e; chans = λ i x e. e }) s.threads;
      tables = s.tables;
    }

hz-sound : (d : Declarations) (n : ℕ) → least (hz_causes d n) ≡ None → AreSoundDeclarations d → AreSoundDeclarations (record d { hz = Some n })
hz-sound d n none s = record {
  settings = record {
    cpus_some = s.settings.cpus_some;
    cpus_most = s.settings.cpus_most;
    known_hz = not-false _ (clear (hz_causes d n) none).range;
    limit_some = s.settings.limit_some;
    limit_most = s.settings.limit_most;
  };
  sets = s.sets;
  set_names = s.set_names;
  lock_names = s.lock_names;
  chan_names = s.chan_names;
  counts = s.counts;
  threads = s.threads;
  tables = s.tables;
}

limit-sound : (d : Declarations) (n : ℕ) → least (limit_causes d n) ≡ None → AreSoundDeclarations d → AreSoundDeclarations (record d { limit = Some n })
limit-sound d n none s =
    let r = within 1 n 100000 (clear (limit_causes d n) none).range in
    record {
      settings = record { cpus_some = s.settings.cpus_some; cpus_most = s.settings.cpus_most; known_hz = s.settings.known_hz; limit_some = r.0; limit_most = r.1 };
      sets = s.sets;
      set_names = s.set_names;
      lock_names = s.lock_names;
      chan_names = s.chan_names;
      counts = s.counts;
      threads = s.threads;
      tables = s.tables;
    }

-- ---- sets

below-all : (n : ℕ) (cs : List ℕ) → list_any (λ c. leb n c) cs ≡ false → list_all (λ (c : CpuId). ltb c.0 n) (map cpu_of_number cs) ≡ true
below-all n [] h = refl
below-all n (c ∷ cs) h =
    let p = or_parts (leb n c) (list_any (λ b. leb n b) cs) h in
    let lt : ltb c n ≡ true = grind (arith, nat_tests, p.0) in
    rw (lt, below-all n cs p.1) refl

-- a processor that no set names is none of those that sets name
unnamed : (sets : List (Word × List CpuId)) (c : ℕ) → list_any (λ s. list_any (λ (e : CpuId). nat_eq e.0 c) s.1) sets ≡ false
    → list_any (λ (e : CpuId). nat_eq e.0 c) (named_cpus sets) ≡ false
unnamed [] c h = refl
unnamed (s ∷ ss) c h =
    let p = or_parts (list_any (λ (e : CpuId). nat_eq e.0 c) s.1) _ h in
    list_any-append (λ (e : CpuId). nat_eq e.0 c) s.1 (named_cpus ss) ∙ rw (p.0, unnamed ss c p.1) refl

unnamed-all : (sets : List (Word × List CpuId)) (cs : List ℕ) → list_any (λ c. list_any (λ s. list_any (λ (e : CpuId). nat_eq e.0 c) s.1) sets) cs ≡ false
    → list_any (λ c. list_any (λ (e : CpuId). nat_eq e.0 c) (named_cpus sets)) cs ≡ false
unnamed-all sets [] h = refl
unnamed-all sets (c ∷ cs) h = let p = or_parts _ _ h in rw (unnamed sets c p.0, unnamed-all sets cs p.1) refl

cpus-append : (sets : List (Word × List CpuId)) (name : Word) (cs : List CpuId) → named_cpus (sets ++ (name, cs) ∷ []) ≡ named_cpus sets ++ cs
cpus-append sets name cs = flat_map-append (λ (s : Word × List CpuId). s.1) sets ((name, cs) ∷ []) ∙ ap (λ l. named_cpus sets ++ l) (append-nil cs)

some-cpus : (cs : List ℕ) → nat_eq (length cs) 0 ≡ false → ltb 0 (length (map cpu_of_number cs)) ≡ true
some-cpus cs h = let e = length-map cs cpu_of_number in grind (arith, nat_tests)

set-sound : (d : Declarations) (name : Word) (cs : List ℕ) → least (set_causes d name cs) ≡ None → AreSoundDeclarations d → AreSoundDeclarations (with_set d name cs)
unfolding set_place is_taken
set-sound d name cs none s =
    let c = clear (set_causes d name cs) none in
    let in_range = c.range in
    let free : is_taken d cs ≡ false = by (list_any (is_beyond d) cs) (is_taken d cs) in_range c.sets in
    let p = or_parts (leb (cpu_count d) (named_count d + length cs) || list_any (is_named d) cs) (not (is_distinct (λ a b. nat_eq a b) cs)) free in
    let q = or_parts (leb (cpu_count d) (named_count d + length cs)) (list_any (is_named d) cs) p.0 in
    let ids = map cpu_of_number cs in
    let few : named_count d + length cs < cpu_count d = grind (arith, nat_tests, q.0) in
    let count = length-flat_map (λ (x : Word × List CpuId). x.1) d.sets in
    let count_ids = length-map cs cpu_of_number in
    record {
      settings = s.settings;
      sets = record {
        fit = all-push (set_is_sound (cpu_count d)) d.sets (name, ids) s.sets.fit (and_from _ _ (some-cpus cs c.syntax) (below-all (cpu_count d) cs in_range));
        differ = ap (is_distinct same_cpu) (cpus-append d.sets name ids)
            ∙ distinct-more (named_cpus d.sets) cs s.sets.differ (not-false _ p.1) (unnamed-all d.sets cs q.1);
        left = subst (λ (l : List CpuId). length l < cpu_count d) (sym (cpus-append d.sets name ids))
            (omega (arith, few, count, count_ids, length-append (named_cpus d.sets) ids));
      };
      set_names = named-push d.sets name ids s.set_names c.twice;
      lock_names = s.lock_names;
      chan_names = s.chan_names;
      counts = s.counts;
      threads = threads-more (named d) (named (with_set d name cs)) d.threads
          (record { cpus = omega arith; sets = omega (arith, length-append d.sets ((name, ids) ∷ [])); threads = omega arith; lock_count = omega arith; locks = λ i x e. e; chans = λ i x e. e }) s.threads;
      tables = s.tables;
    }
  where
    by : (a b : Bool) → a ≡ false → (not a && b) ≡ false → b ≡ false
    by true b e h = absurd (false≢true (sym e))
    by false b e h = h

-- ---- locks and channels

kinds-push : {X : Type 0} (xs : List (Word × X)) (y : Word × X) (i : ℕ) (x : X) → slice_get (map (λ z. z.1) xs) i ≡ Some x → slice_get (map (λ z. z.1) (xs ++ y ∷ [])) i ≡ Some x
kinds-push {X} xs y i x e =
    ap (λ l. slice_get l i) (map-append (λ (z : Word × X). z.1) xs (y ∷ [])) ∙ get_more (map (λ (z : Word × X). z.1) xs) (map (λ (z : Word × X). z.1) (y ∷ [])) i x e

kinds-count : {X : Type 0} (xs : List (Word × X)) (y : Word × X) → length (map (λ z. z.1) xs) ≤ length (map (λ z. z.1) (xs ++ y ∷ []))
kinds-count {X} xs y =
    omega (arith, length-map xs (λ (z : Word × X). z.1), length-map (xs ++ y ∷ []) (λ (z : Word × X). z.1), length-append xs (y ∷ []))

lock-sound : (d : Declarations) (kind : LockKind) (name : Word) → least (lock_causes d name) ≡ None → AreSoundDeclarations d → AreSoundDeclarations (with_lock d kind name)
unfolding lock_number
lock-sound d kind name none s = record {
  settings = s.settings;
  sets = s.sets;
  set_names = s.set_names;
  lock_names = named-push d.locks name kind s.lock_names (clear (lock_causes d name) none).twice;
  chan_names = s.chan_names;
  counts = s.counts;
  threads = threads-more (named d) (named (with_lock d kind name)) d.threads
      (record { cpus = omega arith; sets = omega arith; threads = omega arith; lock_count = kinds-count d.locks (name, kind); locks = kinds-push d.locks (name, kind); chans = λ i x e. e }) s.threads;
  tables = s.tables;
}

chan-new : (d : Declarations) (kind : ChanKind) (name : Word) → ltb (chan_number d name) (length d.chans) ≡ false → has_small_count kind ≡ true → AreSoundDeclarations d → AreSoundDeclarations (with_chan d kind name)
unfolding chan_number
chan-new d kind name new small s = record {
  settings = s.settings;
  sets = s.sets;
  set_names = s.set_names;
  lock_names = s.lock_names;
  chan_names = named-push d.chans name kind s.chan_names new;
  counts = all-push (λ (k : Word × ChanKind). has_small_count k.1) d.chans (name, kind) s.counts small;
  threads = threads-more (named d) (named (with_chan d kind name)) d.threads
      (record { cpus = omega arith; sets = omega arith; threads = omega arith; lock_count = omega arith; locks = λ i x e. e; chans = kinds-push d.chans (name, kind) }) s.threads;
  tables = s.tables;
}

-- ---- threads

pub quantum-fits : (q : QuantumWord) → is_quantum q ≡ true → quantum_fits (quantum_of q) ≡ true
quantum-fits Def h = refl
quantum-fits Inf h = refl
quantum-fits (Ticks n) h = h

ts-fits : (cpupri : ℕ) (limit upri : ℤ) → leb cpupri 59 ≡ true → upri_fits limit ≡ true → upri_fits upri ≡ true → class_fits (parms.Ts limit (int_min upri limit)) cpupri ≡ true
ts-fits cpupri limit upri p l u = grind (arith, nat_tests, ints)

class-fits : (c : ThreadClass) → is_class c ≡ true → class_fits (parms_of c) (cpupri_of c) ≡ true
class-fits (Ts cpupri limit upri) h =
    let p = and_parts (leb cpupri 59 && upri_fits limit) (upri_fits upri) h in
    let q = and_parts (leb cpupri 59) (upri_fits limit) p.0 in
    ts-fits cpupri limit upri q.0 q.1 p.1
class-fits (Fx limit pri q) h =
    let p = and_parts (leb limit 60 && leb pri 60) (is_quantum q) h in
    let r = and_parts (leb limit 60) (leb pri 60) p.0 in
    let le : leb (min pri limit) limit ≡ true = grind (arith, nat_tests) in
    rw (r.0, le, quantum-fits q p.1) refl
class-fits (Sys pri) h = rw h refl
class-fits (Rt pri q) h =
    let p = and_parts (leb pri 59) (is_quantum q) h in
    rw (p.0, quantum-fits q p.1) refl

thread-sound : (d : Declarations) (t : ThreadLine) → least (thread_causes d t) ≡ None → AreSoundDeclarations d → AreSoundDeclarations (with_thread d t)
unfolding thread_number
thread-sound d t none s =
    let c = clear (thread_causes d t) none in
    let new = none-placed (λ (x : Thread). same_bytes x.name t.name) d.threads c.twice in
    let in_range = and_parts (is_class t.class) (leb t.uid 65535) (not-false _ c.range) in
    let known : leb (set_number d t.set) (length d.sets) ≡ true = under (set_number d t.set) (length d.sets) (not-false _ c.unknown) in
    let more = threads-more (named d) (named (with_thread d t)) d.threads
    (record { cpus = omega arith; sets = omega arith; threads = omega (arith, length-append d.threads (thread_of d t ∷ [])); lock_count = omega arith; locks = λ i x e. e; chans = λ i x e. e }) s.threads in
    record {
      settings = s.settings;
      sets = s.sets;
      set_names = s.set_names;
      lock_names = s.lock_names;
      chan_names = s.chan_names;
      counts = s.counts;
      threads = record {
        names = ap (is_distinct same_bytes) (map-append (λ (x : Thread). x.name) d.threads (thread_of d t ∷ []))
            ∙ distinct-push same_bytes (map (λ (x : Thread). x.name) d.threads) t.name more.names
            (sym (any_kept (λ (x : Thread). x.name) (λ n. same_bytes n t.name) d.threads) ∙ new);
        fit = all-push (thread_is_sound (named (with_thread d t))) d.threads (thread_of d t) more.fit (and_from _ _ (and_from _ _ (class-fits t.class in_range.0) known) refl);
      };
      tables = s.tables;
    }
  where
    under : (a b : ℕ) → ltb a (b + 1) ≡ true → leb a b ≡ true
    under a b h = grind (arith, nat_tests)

pub statement-sound : (d : Declarations) (s : Statement) → least (statement_causes d s) ≡ None → AreSoundDeclarations d → AreSoundDeclarations (with_statement d s)
statement-sound d (Cpus n) none s = cpus-sound d n none s
statement-sound d (Hz n) none s = hz-sound d n none s
statement-sound d (Limit n) none s = limit-sound d n none s
statement-sound d (Set name cs) none s = set-sound d name cs none s
statement-sound d (Table class) none s = s
statement-sound d (Lock kind name) none s = lock-sound d kind name none s
statement-sound d (Chan name) none s = chan-new d chan.Chan name (clear (chan_causes d name) none).twice refl s
statement-sound d (Sema name count) none s = chan-new d (chan.Sema count) name (clear (sema_causes d name count) none).twice (not-false _ (clear (sema_causes d name count) none).range) s
statement-sound d (Declare t) none s = thread-sound d t none s
statement-sound d (Script name) none s = s
