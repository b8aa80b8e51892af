-- What is declared makes a workload.
use Rattle.std.proofs.Common.{◌≡◌, ℕ, ◌*◌, ◌<◌, ◌≤◌, true, false, ◌||◌, ltb, List, length, map, sum_by, Option, Some, None, sym, ap, ◌∙◌, subst, arith}
use Rattle.std.proofs.lemmas.Bool.{or_parts}
use Rattle.std.specs.Prelude.{unwrap_or}
use Rattle.std.specs.List.{list_all}
use Rattle.std.proofs.lemmas.Bool.Decides.{nat_tests}
use Rattle.std.proofs.lemmas.List.{length-map}
use Rattle.std.proofs.lemmas.List.Folds.{list_all-map, flat_map-map}
use Rattle.std.proofs.lemmas.List.FromFn.{length-map-range_with_len}
use Rattle.sd_basics.proofs.Lists.{map-map}
use Rattle.sd_types.specs.declared.numbers.CpuId.{CpuId}
use Rattle.sd_types.specs.declared.names.Name.{Name}
use Rattle.sd_types.specs.declared.works.LockKind.{LockKind}
use Rattle.sd_types.specs.declared.works.ChanKind.{ChanKind}
use Rattle.sd_types.specs.declared.works.ThreadDecl.{ThreadDecl}
use Rattle.sd_types.specs.Works.{Declared, same_bytes, same_cpu, is_distinct, set_fits, set_cpus, thread_fits, declared_of, has_small_count}
use Rattle.sd_rules.specs.DefaultTables.{default_rt_levels, default_fixed_row, default_rt_quantum}
use Rattle.sd_lines.specs.Words.{Word}
use Rattle.sd_declare.specs.declared.declared.Declared.{Declared as Kept}
use Rattle.sd_declare.specs.Declarations.{Thread, Declarations, cpu_count}
use Rattle.sd_declare.specs.Kept.{set_kept, lock_kept, chan_kept, thread_kept, declarations}
use Rattle.sd_declare.proofs.PlaceLemmas.{sum_kept}
use Rattle.sd_workload.specs.Sound.{named, named_cpus, set_is_sound, thread_is_sound, AreSoundDeclarations}
use Rattle.sd_workload.specs.Texts.{Outside, end_causes, end_cause}
use Rattle.sd_workload.proofs.ClearLemmas.{clear}

pub length-default_rt : (hz : ℕ) → length (default_rt_levels hz 60) ≡ 60
unfolding default_rt_levels
length-default_rt hz = length-map-range_with_len (λ level. default_fixed_row hz (default_rt_quantum level)) 0 60

-- ---- the end of the input

pub record IsFew (d : Declarations) : Type 0 where
  pub ticks : unwrap_or d.limit 0 * cpu_count d ≤ 200000
  pub pairs : length d.threads * length d.locks ≤ 65536
  pub ops : sum_by (λ t. length t.ops) d.threads ≤ 4096

at-most : (a b : ℕ) → ltb a b ≡ false → b ≤ a
at-most a b h = grind (arith, nat_tests)

pub few : (d : Declarations) → end_cause d Outside ≡ None → IsFew d
unfolding end_cause
few d none =
    let l = (clear (end_causes d) none).limits in
    let p = or_parts (ltb 200000 (unwrap_or d.limit 0 * cpu_count d) || ltb 65536 (length d.threads * length d.locks)) (ltb 4096 (sum_by (λ (t : Thread). length t.ops) d.threads)) l in
    let q = or_parts (ltb 200000 (unwrap_or d.limit 0 * cpu_count d)) (ltb 65536 (length d.threads * length d.locks)) p.0 in
    record { ticks = at-most _ _ q.0; pairs = at-most _ _ q.1; ops = at-most _ _ p.1 }

-- ---- each part, as the workload has it

pub most-ticks : (d : Declarations) (cpus limit : ℕ) → IsFew d → cpus ≡ cpu_count d → d.limit ≡ Some limit → limit * cpus ≤ 200000
most-ticks d cpus limit h e l =
    subst (λ (n : ℕ). limit * n ≤ 200000) (sym e) (subst (λ (o : Option ℕ). unwrap_or o 0 * cpu_count d ≤ 200000) l h.ticks)

pub most-pairs : (k : Kept) (threads : List ThreadDecl) (locks : List (Name × LockKind)) → IsFew (declarations k) → threads ≡ k.threads.items → locks ≡ k.locks.items
    → length threads * length locks ≤ 65536
most-pairs k threads locks h t l =
    rw (t, l) (subst (λ (n : ℕ). n * length k.locks.items ≤ 65536) (length-map k.threads.items thread_kept)
    (subst (λ (n : ℕ). length (map thread_kept k.threads.items) * n ≤ 65536) (length-map k.locks.items lock_kept) h.pairs))

pub most-ops : (k : Kept) (threads : List ThreadDecl) → IsFew (declarations k) → threads ≡ k.threads.items → sum_by (λ t. length t.script.ops) threads ≤ 4096
most-ops k threads h t =
    rw t (subst (λ (n : ℕ). n ≤ 4096) (sym (sum_kept thread_kept (λ (x : Thread). length x.ops) k.threads.items)) h.ops)

pub sets-fit : (k : Kept) (cpus : ℕ) (sets : List (Name × List CpuId)) → AreSoundDeclarations (declarations k) → cpus ≡ cpu_count (declarations k) → sets ≡ k.sets.items
    → list_all (set_fits cpus) sets ≡ true
sets-fit k cpus sets s e h =
    rw (e, h) (sym (list_all-map (set_is_sound (cpu_count (declarations k))) set_kept k.sets.items) ∙ s.sets.fit)

cpus-same : (sets : List (Name × List CpuId)) → named_cpus (map set_kept sets) ≡ set_cpus sets
cpus-same sets = flat_map-map (λ (s : Word × List CpuId). s.1) set_kept sets

pub cpus-differ : (k : Kept) (sets : List (Name × List CpuId)) → AreSoundDeclarations (declarations k) → sets ≡ k.sets.items → is_distinct same_cpu (set_cpus sets) ≡ true
cpus-differ k sets s h = rw h (ap (is_distinct same_cpu) (sym (cpus-same k.sets.items)) ∙ s.sets.differ)

pub cpu-left : (k : Kept) (cpus : ℕ) (sets : List (Name × List CpuId)) → AreSoundDeclarations (declarations k) → cpus ≡ cpu_count (declarations k) → sets ≡ k.sets.items
    → length (set_cpus sets) < cpus
cpu-left k cpus sets s e h =
    rw (e, h) (subst (λ (l : List CpuId). length l < cpu_count (declarations k)) (cpus-same k.sets.items) s.sets.left)

pub set-names : (k : Kept) (sets : List (Name × List CpuId)) → AreSoundDeclarations (declarations k) → sets ≡ k.sets.items → is_distinct same_bytes (map (λ s. s.0.text.items) sets) ≡ true
set-names k sets s h = rw h (ap (is_distinct same_bytes) (sym (map-map set_kept (λ (x : Word × List CpuId). x.0) k.sets.items)) ∙ s.set_names)

pub lock-names : (k : Kept) (locks : List (Name × LockKind)) → AreSoundDeclarations (declarations k) → locks ≡ k.locks.items → is_distinct same_bytes (map (λ l. l.0.text.items) locks) ≡ true
lock-names k locks s h = rw h (ap (is_distinct same_bytes) (sym (map-map lock_kept (λ (x : Word × LockKind). x.0) k.locks.items)) ∙ s.lock_names)

pub chan-names : (k : Kept) (chans : List (Name × ChanKind)) → AreSoundDeclarations (declarations k) → chans ≡ k.chans.items → is_distinct same_bytes (map (λ l. l.0.text.items) chans) ≡ true
chan-names k chans s h = rw h (ap (is_distinct same_bytes) (sym (map-map chan_kept (λ (x : Word × ChanKind). x.0) k.chans.items)) ∙ s.chan_names)

pub small-counts : (k : Kept) (chans : List (Name × ChanKind)) → AreSoundDeclarations (declarations k) → chans ≡ k.chans.items → list_all (λ c. has_small_count c.1) chans ≡ true
small-counts k chans s h = rw h (sym (list_all-map (λ (x : Word × ChanKind). has_small_count x.1) chan_kept k.chans.items) ∙ s.counts)

pub thread-names : (k : Kept) (threads : List ThreadDecl) → AreSoundDeclarations (declarations k) → threads ≡ k.threads.items → is_distinct same_bytes (map (λ t. t.name.text.items) threads) ≡ true
thread-names k threads s h = rw h (ap (is_distinct same_bytes) (sym (map-map thread_kept (λ (x : Thread). x.name) k.threads.items)) ∙ s.threads.names)

named-same : (k : Kept) → named (declarations k) ≡ declared_of (cpu_count (declarations k)) k.sets.items k.locks.items k.chans.items k.threads.items
named-same k =
    let cpus = cpu_count (declarations k) in
    ap (λ (n : ℕ). record (named (declarations k)) { sets = n }) (length-map k.sets.items set_kept)
    ∙ ap (λ (ls : List LockKind). record (named (declarations k)) { sets = length k.sets.items; locks = ls }) (map-map lock_kept (λ (x : Word × LockKind). x.1) k.locks.items)
    ∙ ap (λ (cs : List ChanKind). record (named (declarations k)) { sets = length k.sets.items; locks = map (λ (x : Name × LockKind). x.1) k.locks.items; chans = cs })
    (map-map chan_kept (λ (x : Word × ChanKind). x.1) k.chans.items)
    ∙ ap (λ (n : ℕ). record (declared_of cpus k.sets.items k.locks.items k.chans.items k.threads.items) { threads = n }) (length-map k.threads.items thread_kept)

pub threads-fit : (k : Kept) (cpus : ℕ) (sets : List (Name × List CpuId)) (locks : List (Name × LockKind)) (chans : List (Name × ChanKind)) (threads : List ThreadDecl)
    → AreSoundDeclarations (declarations k) → cpus ≡ cpu_count (declarations k) → sets ≡ k.sets.items → locks ≡ k.locks.items → chans ≡ k.chans.items → threads ≡ k.threads.items
    → list_all (thread_fits (declared_of cpus sets locks chans threads)) threads ≡ true
threads-fit k cpus sets locks chans threads s e ss ls cs ts =
    rw (e, ss, ls, cs, ts)
    (ap (λ (d : Declared). list_all (thread_fits d) k.threads.items) (sym (named-same k))
    ∙ sym (list_all-map (thread_is_sound (named (declarations k))) thread_kept k.threads.items) ∙ s.threads.fit)
