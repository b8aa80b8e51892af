-- A workload is determined by its parts: the facts that its values keep are propositions.
use Rattle.std.proofs.Common.{◌≡◌, ◌≤◌, ◌<◌, ◌||◌, ◌==◌, ◌*◌, List, [], ◌∷◌, map, length, refl, ap, ap₂}
use Rattle.std.specs.Prelude.{IsTrue, sum_by}
use Rattle.std.specs.List.{list_all}
use denote.Struct.Props.{props}
use mathlib.Core.HLevel.{is_prop→PathP}
use Rattle.sd_types.specs.declared.names.Name.{Name}
use Rattle.sd_types.specs.declared.scripts.Script.{Script}
use Rattle.sd_types.specs.declared.tables.TsTable.{TsTable}
use Rattle.sd_types.specs.declared.tables.FixedTable.{FixedTable}
use Rattle.sd_types.specs.declared.works.ThreadDecl.{ThreadDecl}
use Rattle.sd_types.specs.declared.works.Work.{Work}
use Rattle.sd_types.specs.NameWords.{is_name}
use Rattle.sd_types.specs.Rows.{ts_row_fits, fixed_row_fits}
use Rattle.sd_types.specs.Scripts.{EachOpFits, held_by}
use Rattle.sd_types.specs.Works.{set_fits, set_cpus, same_cpu, same_bytes, is_distinct, thread_fits, declared_of, has_small_count}
use Rattle.sd_types.specs.Ticks.{ts_ticks_fit, fixed_ticks_fit}
use Rattle.sd_lines.specs.Words.{Word}
use Rattle.sd_lines.specs.Said.{word_of}
use Rattle.sd_declare.specs.Declarations.{Thread}
use Rattle.sd_declare.specs.Kept.{set_kept, lock_kept, chan_kept, thread_kept}
use Rattle.sd_workload.specs.Accepted.{HaveSameParts}

one_name : (a b : Name) → a.text.items ≡ b.text.items → a ≡ b
one_name a b e = λ i. record { text = record { items = e i }; is_name = is_prop→PathP (λ j. IsTrue (is_name (e j))) (λ j. hlevel props) a.is_name b.is_name i }

one_script : (a b : Script) → a.ops ≡ b.ops → a ≡ b
one_script a b e = λ i. record {
  ops = e i;
  each_fits = is_prop→PathP (λ j. EachOpFits (e j)) (λ j. hlevel props) a.each_fits b.each_fits i;
  released = is_prop→PathP (λ j. length (held_by (e j)) ≡ 0) (λ j. hlevel props) a.released b.released i;
  short = is_prop→PathP (λ j. length (e j) ≤ 256) (λ j. hlevel props) a.short b.short i;
}

one_ts : (a b : TsTable) → a.res ≡ b.res → a.rows ≡ b.rows → a ≡ b
one_ts a b r e = λ i. record {
  res = r i;
  rows = e i;
  some_res = is_prop→PathP (λ j. 1 ≤ r j) (λ j. hlevel props) a.some_res b.some_res i;
  most_res = is_prop→PathP (λ j. r j ≤ 1000000000) (λ j. hlevel props) a.most_res b.most_res i;
  whole = is_prop→PathP (λ j. length (e j) ≡ 60) (λ j. hlevel props) a.whole b.whole i;
  fits = is_prop→PathP (λ j. IsTrue (list_all ts_row_fits (e j))) (λ j. hlevel props) a.fits b.fits i;
}

one_fixed : (a b : FixedTable) → a.res ≡ b.res → a.rows ≡ b.rows → a ≡ b
one_fixed a b r e = λ i. record {
  res = r i;
  rows = e i;
  some_res = is_prop→PathP (λ j. 1 ≤ r j) (λ j. hlevel props) a.some_res b.some_res i;
  most_res = is_prop→PathP (λ j. r j ≤ 1000000000) (λ j. hlevel props) a.most_res b.most_res i;
  least = is_prop→PathP (λ j. 60 ≤ length (e j)) (λ j. hlevel props) a.least b.least i;
  most = is_prop→PathP (λ j. length (e j) ≤ 61) (λ j. hlevel props) a.most b.most i;
  fits = is_prop→PathP (λ j. IsTrue (list_all fixed_row_fits (e j))) (λ j. hlevel props) a.fits b.fits i;
}

-- a name with what it is the name of
abbrev named : {X : Type 0} → Name × X → Word × X
named a = (word_of a.0, a.1)

one_kept : {X : Type 0} (a b : Name × X) → named a ≡ named b → a ≡ b
one_kept a b e = ap₂ (λ x y. (x, y)) (one_name a.0 b.0 (ap (λ p. p.0) e)) (ap (λ p. p.1) e)

one_thread : (a b : ThreadDecl) → thread_kept a ≡ thread_kept b → a ≡ b
one_thread a b e = λ i. record {
  name = one_name a.name b.name (ap (λ (t : Thread). t.name) e) i;
  class = (e i).class;
  cpupri = (e i).cpupri;
  uid = (e i).uid;
  privileged = (e i).privileged;
  set = (e i).set;
  script = one_script a.script b.script (ap (λ (t : Thread). t.ops) e) i;
}

-- lists are equal where what is kept of them is
one_list : {A B : Type 0} (f : A → B) → ((x y : A) → f x ≡ f y → x ≡ y) → (xs ys : List A) → map f xs ≡ map f ys → xs ≡ ys
one_list f one [] [] e = refl
one_list f one [] (y ∷ ys) e = cc
one_list f one (x ∷ xs) [] e = cc
one_list f one (x ∷ xs) (y ∷ ys) e = ap₂ (λ z zs. z ∷ zs) (one x y (head_of e)) (one_list f one xs ys (tail_of e))
  where
    head_of : f x ∷ map f xs ≡ f y ∷ map f ys → f x ≡ f y
    head_of p = cc

    tail_of : f x ∷ map f xs ≡ f y ∷ map f ys → map f xs ≡ map f ys
    tail_of p = cc

pub one_work : (w v : Work) → HaveSameParts w v → w ≡ v
one_work w v s =
    let cpus = s.cpus in
    let hz = s.hz in
    let limit = s.limit in
    let sets : w.sets ≡ v.sets = one_list set_kept one_kept w.sets v.sets s.sets in
    let locks : w.locks ≡ v.locks = one_list lock_kept one_kept w.locks v.locks s.locks in
    let chans : w.chans ≡ v.chans = one_list chan_kept one_kept w.chans v.chans s.chans in
    let threads : w.threads ≡ v.threads = one_list thread_kept one_thread w.threads v.threads s.threads in
    let ts : w.ts ≡ v.ts = one_ts w.ts v.ts s.ts.0 s.ts.1 in
    let fx : w.fx ≡ v.fx = one_fixed w.fx v.fx s.fx.0 s.fx.1 in
    let rt : w.rt ≡ v.rt = one_fixed w.rt v.rt s.rt.0 s.rt.1 in
    λ i. record {
      cpus = cpus i;
      hz = hz i;
      limit = limit i;
      sets = sets i;
      ts = ts i;
      fx = fx i;
      rt = rt i;
      locks = locks i;
      chans = chans i;
      threads = threads i;
      some_cpu = is_prop→PathP (λ j. 1 ≤ cpus j) (λ j. hlevel props) w.some_cpu v.some_cpu i;
      most_cpus = is_prop→PathP (λ j. cpus j ≤ 64) (λ j. hlevel props) w.most_cpus v.most_cpus i;
      known_hz = is_prop→PathP (λ j. IsTrue ((hz j == 100) || (hz j == 1000))) (λ j. hlevel props) w.known_hz v.known_hz i;
      some_limit = is_prop→PathP (λ j. 1 ≤ limit j) (λ j. hlevel props) w.some_limit v.some_limit i;
      most_limit = is_prop→PathP (λ j. limit j ≤ 100000) (λ j. hlevel props) w.most_limit v.most_limit i;
      most_ticks = is_prop→PathP (λ j. limit j * cpus j ≤ 200000) (λ j. hlevel props) w.most_ticks v.most_ticks i;
      most_sets = is_prop→PathP (λ j. length (sets j) ≤ 8) (λ j. hlevel props) w.most_sets v.most_sets i;
      most_locks = is_prop→PathP (λ j. length (locks j) ≤ 256) (λ j. hlevel props) w.most_locks v.most_locks i;
      most_chans = is_prop→PathP (λ j. length (chans j) ≤ 256) (λ j. hlevel props) w.most_chans v.most_chans i;
      most_threads = is_prop→PathP (λ j. length (threads j) ≤ 2048) (λ j. hlevel props) w.most_threads v.most_threads i;
      most_pairs = is_prop→PathP (λ j. length (threads j) * length (locks j) ≤ 65536) (λ j. hlevel props) w.most_pairs v.most_pairs i;
      most_ops = is_prop→PathP (λ j. sum_by (λ t. length t.script.ops) (threads j) ≤ 4096) (λ j. hlevel props) w.most_ops v.most_ops i;
      sets_fit = is_prop→PathP (λ j. IsTrue (list_all (set_fits (cpus j)) (sets j))) (λ j. hlevel props) w.sets_fit v.sets_fit i;
      cpus_differ = is_prop→PathP (λ j. IsTrue (is_distinct same_cpu (set_cpus (sets j)))) (λ j. hlevel props) w.cpus_differ v.cpus_differ i;
      cpu_left = is_prop→PathP (λ j. length (set_cpus (sets j)) < cpus j) (λ j. hlevel props) w.cpu_left v.cpu_left i;
      set_names = is_prop→PathP (λ j. IsTrue (is_distinct same_bytes (map (λ s. s.0.text.items) (sets j)))) (λ j. hlevel props) w.set_names v.set_names i;
      lock_names = is_prop→PathP (λ j. IsTrue (is_distinct same_bytes (map (λ l. l.0.text.items) (locks j)))) (λ j. hlevel props) w.lock_names v.lock_names i;
      chan_names = is_prop→PathP (λ j. IsTrue (is_distinct same_bytes (map (λ k. k.0.text.items) (chans j)))) (λ j. hlevel props) w.chan_names v.chan_names i;
      thread_names = is_prop→PathP (λ j. IsTrue (is_distinct same_bytes (map (λ t. t.name.text.items) (threads j)))) (λ j. hlevel props) w.thread_names v.thread_names i;
      small_counts = is_prop→PathP (λ j. IsTrue (list_all (λ k. has_small_count k.1) (chans j))) (λ j. hlevel props) w.small_counts v.small_counts i;
      threads_fit = is_prop→PathP (λ j. IsTrue (list_all (thread_fits (declared_of (cpus j) (sets j) (locks j) (chans j) (threads j))) (threads j))) (λ j. hlevel props) w.threads_fit v.threads_fit i;
      ts_ticks = is_prop→PathP (λ j. IsTrue (ts_ticks_fit (hz j) (ts j))) (λ j. hlevel props) w.ts_ticks v.ts_ticks i;
      fx_ticks = is_prop→PathP (λ j. IsTrue (fixed_ticks_fit (hz j) (fx j))) (λ j. hlevel props) w.fx_ticks v.fx_ticks i;
      rt_ticks = is_prop→PathP (λ j. IsTrue (fixed_ticks_fit (hz j) (rt j))) (λ j. hlevel props) w.rt_ticks v.rt_ticks i;
      rt_rows = is_prop→PathP (λ j. length (rt j).rows ≡ 60) (λ j. hlevel props) w.rt_rows v.rt_rows i;
    }
