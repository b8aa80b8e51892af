-- The whole canonical spelling is accepted as the workload.
use Rattle.std.proofs.Common.{◌≡◌, ℕ, ◌*◌, ◌<◌, ◌≤◌, Bool, true, false, ◌&&◌, leb, List, [], ◌∷◌, length, map, Some, None, refl, sym, ap, ◌∙◌, subst, arith, append-nil}
use Rattle.std.proofs.lemmas.Bool.{and_parts}
use Rattle.std.specs.Prelude.{codes, nat_lt}
use Rattle.std.specs.List.{list_all, flat_map, sum_by}
use Rattle.std.proofs.lemmas.Bool.Decides.{nat_tests}
use Rattle.std.proofs.lemmas.List.{length-map}
use Rattle.std.proofs.lemmas.List.Folds.{flat_map-map, list_all-map}
use Rattle.sd_basics.proofs.Lists.{map-map}
use Rattle.sd_types.specs.declared.numbers.CpuId.{CpuId}
use Rattle.sd_types.specs.declared.names.Name.{Name}
use Rattle.sd_types.specs.declared.works.LockKind.{LockKind}
use Rattle.sd_types.specs.declared.works.ChanKind.{ChanKind}
use Rattle.sd_types.specs.declared.works.ThreadDecl.{ThreadDecl}
use Rattle.sd_types.specs.declared.works.Work.{Work}
use Rattle.sd_types.specs.Works.{same_bytes, same_cpu, is_distinct, class_fits, op_names, thread_fits}
use Rattle.sd_text.specs.Lines.{lines_of}
use Rattle.sd_dispadmin.specs.TableText.{word_lines, ts_numbers, fixed_numbers, SpellsTs, SpellsFixed, fx_format, rt_format}
use Rattle.sd_dispadmin.specs.TableSpelling.{res_text, row_texts, ts_text, fixed_text}
use Rattle.sd_dispadmin.proofs.LawLemmas.{ts_again, fixed_again}
use Rattle.sd_lines.specs.declared.statements.TableClass.TheVariants as table
use Rattle.sd_lines.specs.Words.{Word}
use Rattle.sd_declare.specs.Declarations.{Thread, Declarations, nothing}
use Rattle.sd_declare.specs.Kept.{set_kept, lock_kept, chan_kept, thread_kept}
use Rattle.sd_declare.proofs.PlaceLemmas.{sum_kept}
use Rattle.sd_workload.specs.Accepted.{Accepted, IsWork}
use Rattle.sd_workload.specs.Sound.{named_cpus}
use Rattle.sd_workload.specs.Texts.{Outside, is_too_many, end_causes, end_cause, unless_refused, Accepts, judged}
use Rattle.sd_workload.proofs.JudgedLemmas.{judged-end}
use Rattle.sd_workload.proofs.NameLemmas.{all-more}
use Rattle.sd_workload.proofs.OneLemmas.{one-work}
use Rattle.sd_canonical.specs.Blocks.{tables_text}
use Rattle.sd_canonical.specs.Canonical.{script_text, canonical}
use Rattle.sd_canonical.specs.Valid.{IsValid}
use Rattle.sd_canonical.proofs.TakesLemmas.{Takes, takes-both, none-clear}
use Rattle.sd_canonical.proofs.FormLemmas.{table_ts-form, table_fx-form, table_rt-form}
use Rattle.sd_canonical.proofs.SetLemmas.{IsSets, takes-sets}
use Rattle.sd_canonical.proofs.ObjectLemmas.{settled, takes-settings, IsNamed, takes-locks, takes-chans}
use Rattle.sd_canonical.proofs.BlockLemmas.{takes-block}
use Rattle.sd_canonical.proofs.ThreadLemmas.{bare_kept, IsThreads, takes-threads}
use Rattle.sd_state.proofs.Declared.{declared}
use Rattle.sd_canonical.proofs.ScriptsLemmas.{AllGiven, takes-scripts}

-- ---- what a workload keeps, of what is kept of it

sets-are : (w : Work) → IsSets w.cpus (map set_kept w.sets)
sets-are w =
    let cut : named_cpus (map set_kept w.sets) ≡ flat_map (λ (s : Name × List CpuId). s.1) w.sets = flat_map-map (λ (s : Word × List CpuId). s.1) set_kept w.sets in
    record {
      most = w.most_cpus;
      sets = record {
        fit = list_all-map _ set_kept w.sets ∙ w.sets_fit;
        differ = ap (is_distinct same_cpu) cut ∙ w.cpus_differ;
        left = subst (λ (l : List CpuId). length l < w.cpus) (sym cut) w.cpu_left;
      };
      names = ap (is_distinct same_bytes) (map-map set_kept (λ (x : Word × List CpuId). x.0) w.sets) ∙ w.set_names;
      few = (let few = w.most_sets in omega (arith, length-map w.sets set_kept));
    }

locks-are : (w : Work) → IsNamed (map lock_kept w.locks)
locks-are w = record {
  names = ap (is_distinct same_bytes) (map-map lock_kept (λ (x : Word × LockKind). x.0) w.locks) ∙ w.lock_names;
  few = (let few = w.most_locks in omega (arith, length-map w.locks lock_kept));
}

chans-are : (w : Work) → IsNamed (map chan_kept w.chans)
chans-are w = record {
  names = ap (is_distinct same_bytes) (map-map chan_kept (λ (x : Word × ChanKind). x.0) w.chans) ∙ w.chan_names;
  few = (let few = w.most_chans in omega (arith, length-map w.chans chan_kept));
}

threads-are : (w : Work) → IsThreads (map bare_kept w.threads)
threads-are w = record {
  names = ap (is_distinct same_bytes) (map-map bare_kept (λ (x : Thread). x.name) w.threads) ∙ w.thread_names;
  few = (let few = w.most_threads in omega (arith, length-map w.threads bare_kept));
}

abbrev class-and-set : Work → ThreadDecl → Bool
class-and-set w t = class_fits t.class t.cpupri && leb t.set.0 (length w.sets)

classes-fit : (w : Work) → list_all (λ t. class_fits t.class t.cpupri && leb t.set.0 (length w.sets)) w.threads ≡ true
classes-fit w =
    all-more (thread_fits (declared w)) (class-and-set w) w.threads
    (λ t h. (and_parts (class-and-set w t) (list_all (op_names (declared w)) t.script.ops) h).0) w.threads_fit

ops-fit : (w : Work) → list_all (λ t. list_all (op_names (declared w)) t.script.ops) w.threads ≡ true
ops-fit w =
    all-more (thread_fits (declared w)) (λ (t : ThreadDecl). list_all (op_names (declared w)) t.script.ops) w.threads
    (λ t h. (and_parts (class-and-set w t) (list_all (op_names (declared w)) t.script.ops) h).1) w.threads_fit

-- ---- the tables

spells-ts : (w : Work) → SpellsTs (ts_text w.ts) w.hz w.ts
spells-ts w = ts_again w.hz w.ts w.ts_ticks

spells-fx : (w : Work) → SpellsFixed fx_format (fixed_text w.fx) w.hz w.fx
spells-fx w = fixed_again 61 w.hz w.fx w.fx_ticks w.fx.most (omega arith)

spells-rt : (w : Work) → SpellsFixed rt_format (fixed_text w.rt) w.hz w.rt
spells-rt w = let rows = w.rt_rows in fixed_again 60 w.hz w.rt w.rt_ticks (omega arith) (omega arith)

abbrev with-tables : Work → Declarations → Declarations
with-tables w d = record d { ts = Some (word_lines (ts_text w.ts)); fx = Some (word_lines (fixed_text w.fx)); rt = Some (word_lines (fixed_text w.rt)) }

abbrev without-tables : ℕ → ℕ → ℕ → List (Word × List CpuId) → Declarations
without-tables cpus hz limit sets = record (settled cpus hz limit) { sets = sets }

takes-tables : (w : Work) (sets : List (Word × List CpuId)) → let d = without-tables w.cpus w.hz w.limit sets in Takes (tables_text w) d Outside (with-tables w d) Outside
unfolding tables_text
takes-tables w sets =
    let d : Declarations = without-tables w.cpus w.hz w.limit sets in
    let e : Declarations = record d { ts = Some (word_lines (ts_text w.ts)) } in
    let f : Declarations = record e { fx = Some (word_lines (fixed_text w.fx)) } in
    takes-both _ _ d e (with-tables w d) Outside Outside Outside
    (takes-block table.Ts (codes "ts") (res_text w.ts.res ∷ row_texts (map ts_numbers w.ts.rows) 0) d refl table_ts-form refl (spells-ts w).table)
    (takes-both _ _ e f (with-tables w d) Outside Outside Outside
    (takes-block table.Fx (codes "fx") (res_text w.fx.res ∷ row_texts (map fixed_numbers w.fx.rows) 0) e refl table_fx-form refl (spells-fx w).table)
    (takes-block table.Rt (codes "rt") (res_text w.rt.res ∷ row_texts (map fixed_numbers w.rt.rows) 0) f refl table_rt-form refl (spells-rt w).table))

-- ---- the whole

-- what is declared above the threads, above the scripts, and at the end
abbrev above-threads : Work → Declarations
above-threads w = record (with-tables w (without-tables w.cpus w.hz w.limit (map set_kept w.sets))) { locks = map lock_kept w.locks; chans = map chan_kept w.chans }

abbrev above-scripts : Work → Declarations
above-scripts w = record (above-threads w) { threads = map bare_kept w.threads }

scripts-given : (w : Work) → AllGiven w (flat_map (script_text w) w.threads) (above-scripts w)
scripts-given w =
    takes-scripts w w.threads [] (above-scripts w) (ops-fit w)
    (record { whole = refl; cpus = refl; sets = refl; locks = refl; chans = refl; threads = refl; scripted = refl })

abbrev at-end : Work → Declarations
at-end w = record (above-scripts w) { threads = map thread_kept w.threads; scripted = (scripts-given w).ids }

takes-whole : (w : Work) → IsValid w → Takes (canonical w) nothing Outside (at-end w) Outside
unfolding canonical
takes-whole w v =
    let d1 : Declarations = settled w.cpus w.hz w.limit in
    let d2 : Declarations = without-tables w.cpus w.hz w.limit (map set_kept w.sets) in
    let d3 : Declarations = with-tables w d2 in
    let d4 : Declarations = record d3 { locks = map lock_kept w.locks } in
    takes-both _ _ nothing d1 (at-end w) Outside Outside Outside
    (takes-settings w.cpus w.hz w.limit w.some_cpu w.most_cpus w.known_hz w.some_limit w.most_limit)
    (takes-both _ _ d1 d2 (at-end w) Outside Outside Outside
    (takes-sets w.sets d1 (map set_kept w.sets) refl (sets-are w))
    (takes-both _ _ d2 d3 (at-end w) Outside Outside Outside
    (takes-tables w (map set_kept w.sets))
    (takes-both _ _ d3 d4 (at-end w) Outside Outside Outside
    (takes-locks w.locks d3 (map lock_kept w.locks) refl (locks-are w))
    (takes-both _ _ d4 (above-threads w) (at-end w) Outside Outside Outside
    (takes-chans w.chans d4 (map chan_kept w.chans) refl v.counts (chans-are w))
    (takes-both _ _ (above-threads w) (above-scripts w) (at-end w) Outside Outside Outside
    (takes-threads w w.threads (above-threads w) (map bare_kept w.threads) refl (classes-fit w) v.uids refl (threads-are w))
    (scripts-given w).takes)))))

pub not-more : (a b : ℕ) → b ≤ a → nat_lt a b ≡ false
not-more a b h = grind (arith, nat_tests)

end-free : (w : Work) → end_cause (at-end w) Outside ≡ None
unfolding end_cause
end-free w =
    let threads = length-map w.threads thread_kept in
    let locks = length-map w.locks lock_kept in
    let pairs : length (map thread_kept w.threads) * length (map lock_kept w.locks) ≤ 65536 =
    subst (λ (n : ℕ). n * length (map lock_kept w.locks) ≤ 65536) (sym threads) (subst (λ (n : ℕ). length w.threads * n ≤ 65536) (sym locks) w.most_pairs) in
    let ops : sum_by (λ (t : Thread). length t.ops) (map thread_kept w.threads) ≤ 4096 =
    subst (λ (n : ℕ). n ≤ 4096) (sum_kept thread_kept (λ (t : Thread). length t.ops) w.threads) w.most_ops in
    let few : is_too_many (at-end w) ≡ false = rw (not-more 200000 (w.limit * w.cpus) w.most_ticks, not-more 65536 _ pairs, not-more 4096 _ ops) refl in
    none-clear (end_causes (at-end w)) (record { syntax = refl; unknown = refl; twice = refl; range = refl; sets = refl; limits = few })

work-is : (w : Work) → IsWork (at-end w) w
work-is w = record {
  cpus = refl;
  hz = refl;
  limit = refl;
  sets = refl;
  locks = refl;
  chans = refl;
  threads = refl;
  ts = record { text = ts_text w.ts; text_lines = refl; spells = spells-ts w };
  fx = record { text = fixed_text w.fx; text_lines = refl; spells = spells-fx w };
  rt = record { text = fixed_text w.rt; text_lines = refl; spells = spells-rt w };
}

pub canonical-accepted : (w : Work) → IsValid w → Accepted (canonical w) w
unfolding lines_of
canonical-accepted w v =
    let p = (takes-whole w v).on 1 [] in
    record {
      declares = at-end w;
      accepted = ap (λ (text : List ℕ). judged 1 nothing Outside (word_lines text)) (sym (append-nil (canonical w))) ∙ p.1
          ∙ judged-end p.0 (at-end w) Outside [] refl ∙ ap (λ c. unless_refused p.0 c (Accepts (at-end w))) (end-free w);
      work = work-is w;
    }

pub one-spelling : (w v : Work) → IsValid w → IsValid v → canonical w ≡ canonical v → w ≡ v
one-spelling w v p q e =
    one-work (canonical w) w v (canonical-accepted w p) (subst (λ (text : List ℕ). Accepted text v) (sym e) (canonical-accepted v q))
