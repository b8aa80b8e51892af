-- A text without faults is accepted as a workload: the workload is made of what the text declares.
use Rattle.std.proofs.Common.{◌≡◌, ℕ, ◌*◌, ◌<◌, ◌≤◌, ◌⊎◌, inl, inr, true, false, ◌&&◌, ◌||◌, nat_eq, List, [], ◌∷◌, length, map, Option, Some, None, refl, sym, ap, ◌∙◌, subst, arith, append-nil}
use Rattle.std.specs.Prelude.{nat_le, unwrap_or, is_none, IfSome}
use Rattle.std.specs.List.{list_all}
use Rattle.std.proofs.lemmas.Bool.{false≢true, and_parts}
use Rattle.std.proofs.lemmas.Bool.Decides.{nat_tests}
use Rattle.std.proofs.lemmas.List.{length-map}
use Rattle.std.proofs.lemmas.List.Folds.{flat_map-map, list_all-map}
use Rattle.sd_basics.proofs.Lists.{map-map}
use Rattle.sd_types.specs.declared.numbers.CpuId.{CpuId}
use Rattle.sd_types.specs.declared.names.Name.{Name}
use Rattle.sd_types.specs.declared.tables.TsTable.{TsTable}
use Rattle.sd_types.specs.declared.tables.FixedTable.{FixedTable}
use Rattle.sd_types.specs.declared.works.LockKind.{LockKind}
use Rattle.sd_types.specs.declared.works.ChanKind.{ChanKind}
use Rattle.sd_types.specs.declared.works.ThreadDecl.{ThreadDecl}
use Rattle.sd_types.specs.declared.works.Work.{Work}
use Rattle.sd_types.specs.NameWords.{is_name}
use Rattle.sd_types.specs.Works.{Declared, declared_of, same_bytes, same_cpu, is_distinct, set_cpus, has_small_count}
use Rattle.sd_types.specs.Ticks.{ts_ticks_fit, fixed_ticks_fit}
use Rattle.sd_rules.specs.DefaultTables.{default_ts_rows, default_fx_rows, default_rt_rows}
use Rattle.sd_text.specs.Lines.{lines_of, text_of_lines}
use Rattle.sd_text.specs.Words.{words_of}
use Rattle.sd_text.proofs.LineLemmas.{lines_of-text}
use Rattle.sd_dispadmin.specs.declared.fault.TableFault.{TableFault}
use Rattle.sd_dispadmin.specs.TableText.{Format, word_lines, ts_format, fx_format, rt_format, rows_in, fixed_numbers, IsTableText, IsTableFault, SpellsTs, SpellsFixed}
use Rattle.sd_dispadmin.proofs.DefaultLemmas.{ts_fits, ts_count, ts_ticks, fx_fits, fx_count, fx_ticks, rt_fits, rt_count, rt_ticks}
use Rattle.sd_dispadmin.proofs.LawLemmas.{never_both}
use Rattle.sd_dispadmin.proofs.TextLemmas.{ts_or_fault, fixed_or_fault}
use Rattle.sd_lines.specs.Words.{Word, Line}
use Rattle.sd_declare.specs.declared.causes.WorkCause.{WorkCause}
use Rattle.sd_declare.specs.Declarations.{Thread, Declarations, cpu_count}
use Rattle.sd_declare.specs.Kept.{set_kept, lock_kept, chan_kept, thread_kept}
use Rattle.sd_declare.proofs.PlaceLemmas.{sum_kept}
use Rattle.sd_workload.specs.Accepted.{hz_of, IsTs, IsFx, IsRt, IsWork, Accepted, FirstCause}
use Rattle.sd_workload.specs.Sound.{named, named_cpus, set_is_sound, thread_is_sound, IsTableLines, AreSoundDeclarations}
use Rattle.sd_workload.specs.Texts.{Outside, Accepts, end_causes, end_cause, verdict_of}
use Rattle.sd_workload.proofs.ClearLemmas.{clear}
use Rattle.sd_workload.proofs.FirstLemmas.{either}
use Rattle.sd_workload.proofs.SoundLemmas.{text-sound}
use Rattle.sd_workload.proofs.WorkLemmas.{IsFew, few}
use Rattle.sd_gen.proofs.MadeLemmas.{Each, IsThread, Raw, Made, IsMade, text-made}

-- ---- names and threads

abbrev name-of : (word : Word) → is_name word ≡ true → Name
name-of word h = record { text = record { items = word }; is_name = h }

-- things with names, as the workload has them
record NamedAs {X : Type 0} (xs : List (Word × X)) : Type 0 where
  things : List (Name × X)
  same : map (λ x. (x.0.text.items, x.1)) things ≡ xs

names-of : {X : Type 0} (xs : List (Word × X)) → list_all (λ x. is_name x.0) xs ≡ true → NamedAs xs
names-of [] h = record { things = []; same = refl }
names-of {X} (x ∷ xs) h =
    let p = and_parts (is_name x.0) (list_all (λ (y : Word × X). is_name y.0) xs) h in
    let rest = names-of xs p.1 in
    record { things = (name-of x.0 p.0, x.1) ∷ rest.things; same = ap (λ l. x ∷ l) rest.same }

record ThreadsAs (ts : List Thread) : Type 0 where
  threads : List ThreadDecl
  same : map thread_kept threads ≡ ts

threads-of : (ts : List Thread) → Each IsThread ts → ThreadsAs ts
threads-of [] h = record { threads = []; same = refl }
threads-of (t ∷ ts) h =
    let i = h.0 in
    let rest = threads-of ts h.1 in
    let x : ThreadDecl = record {
      name = name-of t.name i.name;
      class = t.class;
      cpupri = t.cpupri;
      uid = t.uid;
      privileged = t.privileged;
      set = t.set;
      script = record { ops = t.ops; each_fits = i.script.each_fits; released = i.script.released; short = i.script.short };
    } in
    record { threads = x ∷ rest.threads; same = ap (λ (l : List Thread). t ∷ l) rest.same }

-- ---- tables

raw-lines : (lines : List Line) (r : Raw lines) → word_lines (text_of_lines r.raw) ≡ lines
unfolding lines_of
raw-lines lines r =
    ap word_lines (sym (append-nil (text_of_lines r.raw))) ∙ ap (map words_of) (lines_of-text r.raw [] r.single ∙ append-nil r.raw) ∙ r.words

table-text : (format : Format) (lines : List Line) (r : Raw lines) → IsTableLines format lines → IsTableText format (text_of_lines r.raw)
table-text format lines r t =
    let whole = subst (λ (ls : List Line). IsTableLines format ls) (sym (raw-lines lines r)) t in
    record { clean = whole.clean; rows = whole.rows }

record TsMade (o : Option (List Line)) (hz : ℕ) : Type 0 where
  table : TsTable
  is : IsTs o hz table
  ticks : ts_ticks_fit hz table ≡ true

ts-made : (o : Option (List Line)) (hz : ℕ) → 1 ≤ hz → IfSome o Raw → IfSome o (IsTableLines ts_format) → TsMade o hz
ts-made None hz some r t =
    let table : TsTable = record { res = 1000; rows = default_ts_rows hz; some_res = omega arith; most_res = omega arith; whole = ts_count hz; fits = ts_fits hz some } in
    record { table = table; is = record { res = refl; rows = refl }; ticks = ts_ticks hz table refl refl }
ts-made (Some lines) hz some r t = by (ts_or_fault (text_of_lines r.raw) hz some)
  where
    by : ((x : TsTable) × SpellsTs (text_of_lines r.raw) hz x) ⊎ ((fault : TableFault) × IsTableFault ts_format (text_of_lines r.raw) fault) → TsMade (Some lines) hz
    by (inl x) = record { table = x.0; is = record { text = text_of_lines r.raw; text_lines = raw-lines lines r; spells = x.1 }; ticks = x.1.ticks }
    by (inr x) = absurd (never_both ts_format (text_of_lines r.raw) x.0 (table-text ts_format lines r t) x.1)

record FxMade (o : Option (List Line)) (hz : ℕ) : Type 0 where
  table : FixedTable
  is : IsFx o hz table
  ticks : fixed_ticks_fit hz table ≡ true

fx-made : (o : Option (List Line)) (hz : ℕ) → 1 ≤ hz → IfSome o Raw → IfSome o (IsTableLines fx_format) → FxMade o hz
fx-made None hz some r t =
    let count = fx_count hz in
    let table : FixedTable = record { res = 1000; rows = default_fx_rows hz; some_res = omega arith; most_res = omega arith; least = omega arith; most = omega arith; fits = fx_fits hz some } in
    record { table = table; is = record { res = refl; rows = refl }; ticks = fx_ticks hz table refl refl }
fx-made (Some lines) hz some r t = by (fixed_or_fault 61 (text_of_lines r.raw) hz (omega arith) some)
  where
    by : ((x : FixedTable) × SpellsFixed fx_format (text_of_lines r.raw) hz x) ⊎ ((fault : TableFault) × IsTableFault fx_format (text_of_lines r.raw) fault) → FxMade (Some lines) hz
    by (inl x) = record { table = x.0; is = record { text = text_of_lines r.raw; text_lines = raw-lines lines r; spells = x.1 }; ticks = x.1.ticks }
    by (inr x) = absurd (never_both fx_format (text_of_lines r.raw) x.0 (table-text fx_format lines r t) x.1)

record RtMade (o : Option (List Line)) (hz : ℕ) : Type 0 where
  table : FixedTable
  is : IsRt o hz table
  ticks : fixed_ticks_fit hz table ≡ true
  rows : length table.rows ≡ 60

sixty : (n : ℕ) → (nat_le 60 n && nat_le n 60) ≡ true → n ≡ 60
sixty n h = let p = and_parts (nat_le 60 n) (nat_le n 60) h in grind (arith, nat_tests, p.0, p.1)

rt-made : (o : Option (List Line)) (hz : ℕ) → 1 ≤ hz → IfSome o Raw → IfSome o (IsTableLines rt_format) → RtMade o hz
rt-made None hz some r t =
    let count = rt_count hz in
    let table : FixedTable = record { res = 1000; rows = default_rt_rows hz; some_res = omega arith; most_res = omega arith; least = omega arith; most = omega arith; fits = rt_fits hz some } in
    record { table = table; is = record { res = refl; rows = refl }; ticks = rt_ticks hz table refl refl; rows = count }
rt-made (Some lines) hz some r t = by (fixed_or_fault 60 (text_of_lines r.raw) hz (omega arith) some)
  where
    by : ((x : FixedTable) × SpellsFixed rt_format (text_of_lines r.raw) hz x) ⊎ ((fault : TableFault) × IsTableFault rt_format (text_of_lines r.raw) fault) → RtMade (Some lines) hz
    by (inl x) = record {
      table = x.0;
      is = record { text = text_of_lines r.raw; text_lines = raw-lines lines r; spells = x.1 };
      ticks = x.1.ticks;
      rows = sym (length-map x.0.rows fixed_numbers) ∙ sym (ap length x.1.rows) ∙ sixty (length (rows_in (word_lines (text_of_lines r.raw)))) x.1.table.rows;
    }
    by (inr x) = absurd (never_both rt_format (text_of_lines r.raw) x.0 (table-text rt_format lines r t) x.1)

-- ---- the workload

-- the declarations with these sets, locks, channels and threads
abbrev kept : Declarations → List (Name × List CpuId) → List (Name × LockKind) → List (Name × ChanKind) → List ThreadDecl → Declarations
kept d sets locks chans threads =
    record d { sets = map set_kept sets; locks = map lock_kept locks; chans = map chan_kept chans; threads = map thread_kept threads }

record IsLimit (d : Declarations) : Type 0 where
  limit : ℕ
  is : d.limit ≡ Some limit

limit-of : (d : Declarations) → end_cause d Outside ≡ None → IsLimit d
unfolding end_cause
limit-of d h = by d.limit refl (clear (end_causes d) h).syntax
  where
    by : (o : Option ℕ) → d.limit ≡ o → is_none o ≡ false → IsLimit d
    by None e none = absurd (false≢true (sym none))
    by (Some n) e none = record { limit = n; is = e }

known-some : (hz : ℕ) → (nat_eq hz 100 || nat_eq hz 1000) ≡ true → 1 ≤ hz
known-some hz h = grind (arith, nat_tests)

abbrev made-of : Declarations → ℕ → List LockKind → List ChanKind → ℕ → Declared
made-of d sets locks chans threads = record { cpus = cpu_count d; sets = sets; locks = locks; chans = chans; threads = threads }

named-is : (d : Declarations) (sets : List (Name × List CpuId)) (locks : List (Name × LockKind)) (chans : List (Name × ChanKind)) (threads : List ThreadDecl)
    → named (kept d sets locks chans threads) ≡ declared_of (cpu_count d) sets locks chans threads
named-is d sets locks chans threads =
    ap (λ n. made-of d n (map (λ (l : Word × LockKind). l.1) (map lock_kept locks)) (map (λ (k : Word × ChanKind). k.1) (map chan_kept chans)) (length (map thread_kept threads))) (length-map sets set_kept)
    ∙ ap (λ ls. made-of d (length sets) ls (map (λ (k : Word × ChanKind). k.1) (map chan_kept chans)) (length (map thread_kept threads))) (map-map lock_kept (λ (l : Word × LockKind). l.1) locks)
    ∙ ap (λ ks. made-of d (length sets) (map (λ l. l.1) locks) ks (length (map thread_kept threads))) (map-map chan_kept (λ (k : Word × ChanKind). k.1) chans)
    ∙ ap (λ n. made-of d (length sets) (map (λ l. l.1) locks) (map (λ k. k.1) chans) n) (length-map threads thread_kept)

-- what is declared in these words makes a workload
record WorkAs (d : Declarations) : Type 0 where
  work : Work
  is : IsWork d work

module _ (d : Declarations) (sets : List (Name × List CpuId)) (locks : List (Name × LockKind)) (chans : List (Name × ChanKind)) (threads : List ThreadDecl) where
  abbrev here : Declarations
  here = kept d sets locks chans threads

  make-work : AreSoundDeclarations here → Made here → IsFew here → IsLimit here → WorkAs here
  make-work s m f l =
      let some : 1 ≤ hz_of here = known-some (hz_of here) s.settings.known_hz in
      let ts = ts-made here.ts (hz_of here) some m.ts s.tables.ts_lines in
      let fx = fx-made here.fx (hz_of here) some m.fx s.tables.fx_lines in
      let rt = rt-made here.rt (hz_of here) some m.rt s.tables.rt_lines in
      let cut : named_cpus (map set_kept sets) ≡ set_cpus sets = flat_map-map (λ (x : Word × List CpuId). x.1) set_kept sets in
      let ticks : unwrap_or here.limit 0 * cpu_count here ≡ l.limit * cpu_count here = ap (λ (o : Option ℕ). unwrap_or o 0 * cpu_count here) l.is in
      let work : Work = record {
        cpus = cpu_count here;
        hz = hz_of here;
        limit = l.limit;
        sets = sets;
        ts = ts.table;
        fx = fx.table;
        rt = rt.table;
        locks = locks;
        chans = chans;
        threads = threads;
        some_cpu = s.settings.cpus_some;
        most_cpus = s.settings.cpus_most;
        known_hz = s.settings.known_hz;
        some_limit = subst (λ (o : Option ℕ). IfSome o (λ n. 1 ≤ n)) l.is s.settings.limit_some;
        most_limit = subst (λ (o : Option ℕ). IfSome o (λ n. n ≤ 100000)) l.is s.settings.limit_most;
        most_ticks = subst (λ (n : ℕ). n ≤ 200000) ticks f.ticks;
        most_sets = subst (λ (n : ℕ). n ≤ 8) (length-map sets set_kept) m.few_sets;
        most_locks = subst (λ (n : ℕ). n ≤ 256) (length-map locks lock_kept) m.few_locks;
        most_chans = subst (λ (n : ℕ). n ≤ 256) (length-map chans chan_kept) m.few_chans;
        most_threads = subst (λ (n : ℕ). n ≤ 2048) (length-map threads thread_kept) m.few_threads;
        most_pairs = subst (λ (n : ℕ). length threads * n ≤ 65536) (length-map locks lock_kept) (subst (λ (n : ℕ). n * length (map lock_kept locks) ≤ 65536) (length-map threads thread_kept) f.pairs);
        most_ops = subst (λ (n : ℕ). n ≤ 4096) (sym (sum_kept thread_kept (λ (t : Thread). length t.ops) threads)) f.ops;
        sets_fit = sym (list_all-map (set_is_sound (cpu_count here)) set_kept sets) ∙ s.sets.fit;
        cpus_differ = sym (ap (is_distinct same_cpu) cut) ∙ s.sets.differ;
        cpu_left = subst (λ (cs : List CpuId). length cs < cpu_count here) cut s.sets.left;
        set_names = sym (ap (is_distinct same_bytes) (map-map set_kept (λ (x : Word × List CpuId). x.0) sets)) ∙ s.set_names;
        lock_names = sym (ap (is_distinct same_bytes) (map-map lock_kept (λ (x : Word × LockKind). x.0) locks)) ∙ s.lock_names;
        chan_names = sym (ap (is_distinct same_bytes) (map-map chan_kept (λ (x : Word × ChanKind). x.0) chans)) ∙ s.chan_names;
        thread_names = sym (ap (is_distinct same_bytes) (map-map thread_kept (λ (x : Thread). x.name) threads)) ∙ s.threads.names;
        small_counts = sym (list_all-map (λ (x : Word × ChanKind). has_small_count x.1) chan_kept chans) ∙ s.counts;
        threads_fit = sym (list_all-map (thread_is_sound (declared_of (cpu_count here) sets locks chans threads)) thread_kept threads)
            ∙ sym (ap (λ (x : Declared). list_all (thread_is_sound x) (map thread_kept threads)) (named-is d sets locks chans threads)) ∙ s.threads.fit;
        ts_ticks = ts.ticks;
        fx_ticks = fx.ticks;
        rt_ticks = rt.ticks;
        rt_rows = rt.rows;
      } in
      record {
        work = work;
        is = record { cpus = refl; hz = refl; limit = l.is; sets = refl; locks = refl; chans = refl; threads = refl; ts = ts.is; fx = fx.is; rt = rt.is };
      }

work-as : (d : Declarations) → AreSoundDeclarations d → IsMade d → WorkAs d
work-as d s m =
    let made = m.declared in
    let sets = names-of d.sets made.sets in
    let locks = names-of d.locks made.locks in
    let chans = names-of d.chans made.chans in
    let threads = threads-of d.threads made.threads in
    let e : kept d sets.things locks.things chans.things threads.threads ≡ d =
    ap (λ (x : List (Word × List CpuId)). record d { sets = x; locks = map lock_kept locks.things; chans = map chan_kept chans.things; threads = map thread_kept threads.threads }) sets.same
    ∙ ap (λ (x : List (Word × LockKind)). record d { locks = x; chans = map chan_kept chans.things; threads = map thread_kept threads.threads }) locks.same
    ∙ ap (λ (x : List (Word × ChanKind)). record d { chans = x; threads = map thread_kept threads.threads }) chans.same
    ∙ ap (λ (x : List Thread). record d { threads = x }) threads.same in
    subst WorkAs e
    (make-work d sets.things locks.things chans.things threads.threads (subst AreSoundDeclarations (sym e) s) (subst Made (sym e) made) (subst IsFew (sym e) (few d m.end)) (subst IsLimit (sym e) (limit-of d m.end)))

pub accepted-work : (text : List ℕ) (d : Declarations) → verdict_of text ≡ Accepts d → (w : Work) × Accepted text w
accepted-work text d h =
    let x = work-as d (text-sound (word_lines text) d h) (text-made text d h) in
    (x.work, record { declares = d; accepted = h; work = x.is })

pub one-answer : (text : List ℕ) → ((w : Work) × Accepted text w) ⊎ ((line : ℕ) × ((cause : WorkCause) × FirstCause text line cause))
one-answer text =
    elim (either (verdict_of text)) as (λ _. ((w : Work) × Accepted text w) ⊎ ((line : ℕ) × ((cause : WorkCause) × FirstCause text line cause))) [
      | inl x ↦ inl (accepted-work text x.0 x.1)
      | inr x ↦ inr x
    ]
