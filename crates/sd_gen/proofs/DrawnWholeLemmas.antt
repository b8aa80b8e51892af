-- Each generated workload is accepted.
use Rattle.std.proofs.Common.{◌≡◌, ℕ, zero, suc, ◌+◌, ◌*◌, ◌<◌, ◌≤◌, true, false, not, ltb, leb, set, get_or, List, [], ◌∷◌, length, map, Option, Some, None, refl, sym, ap, ◌∙◌, subst, arith, append-nil}
use Rattle.std.specs.Prelude.{codes, unwrap_or, is_none}
use Rattle.std.specs.List.{list_all, position_or_len, sum_by}
use Rattle.std.proofs.lemmas.Bool.{lt-ltb, leb-true, le-leb, and_parts}
use Rattle.std.proofs.lemmas.List.Folds.{list_all-append}
use Rattle.std.proofs.lemmas.List.Sums.{sum_by-cons}
use Rattle.rand_pcg.specs.Lcg.{Lcg}
use Rattle.sd_basics.proofs.Lists.{place-map}
use Rattle.sd_types.specs.declared.numbers.ThreadId.{ThreadId}
use Rattle.sd_types.specs.declared.scripts.Op.{Op}
use Rattle.sd_types.specs.Works.{same_bytes}
use Rattle.sd_text.specs.Lines.{lines_of}
use Rattle.sd_dispadmin.specs.TableText.{word_lines}
use Rattle.sd_lines.specs.Words.{Word}
use Rattle.sd_lines.specs.Statements.{Script}
use Rattle.sd_declare.specs.Declarations.{Thread, Declarations, cpu_count, nothing, thread_number, thread_id}
use Rattle.sd_declare.specs.Statements.{statement_causes}
use Rattle.sd_workload.specs.Texts.{Outside, InScript, with_script, no_thread, is_too_many, end_causes, end_cause, unless_refused, Accepts, judged, verdict_of}
use Rattle.sd_workload.proofs.ClearLemmas.{IsClear}
use Rattle.sd_workload.proofs.JudgedLemmas.{judged-end}
use Rattle.sd_gen.specs.Generated.{number_line, round_text, script_text, thread_line, drawn_from, first_generator, generated}
use Rattle.sd_canonical.proofs.TextLemmas.{are_plain, name-plain}
use Rattle.sd_canonical.proofs.TakesLemmas.{Takes, takes-nothing, takes-both, takes-line, none-clear}
use Rattle.sd_canonical.proofs.FormLemmas.{script-form}
use Rattle.sd_canonical.proofs.ScriptLemmas.{takes-close}
use Rattle.sd_canonical.proofs.ScriptsLemmas.{are_before, none-given, before-more}
use Rattle.sd_canonical.proofs.RangeLemmas.{all-set}
use Rattle.sd_canonical.proofs.WorkLemmas.{not-more}
use Rattle.sd_gen.proofs.AcceptedLemmas.{numbered, numbered-name, below-head, the-locks, locks-count, takes-head, takes-the-locks}
use Rattle.sd_gen.proofs.DrawnThreadLemmas.{names-to, Threads, threads-count, name-place, takes-drawn_threads}
use Rattle.sd_gen.proofs.DrawnOpLemmas.{two-words}
use Rattle.sd_gen.proofs.DrawnScriptLemmas.{goes-round}

-- ---- scripts

-- all threads are declared, and the first so many have their scripts
record Ready (i : ℕ) (d : Declarations) : Type 0 where
  locks : d.locks ≡ the-locks
  cpus : d.cpus ≡ Some 8
  limit : d.limit ≡ Some 10000
  threads : Threads 200 d.threads
  scripted : are_before i d.scripted ≡ true

number-of : (i : ℕ) (d : Declarations) → i < 200 → Threads 200 d.threads → thread_number d (numbered 116 i) ≡ i
unfolding thread_number
number-of i d inside ts =
    let name = numbered 116 i in
    sym (place-map (λ (x : Word). same_bytes x name) (λ (x : Thread). x.name) d.threads)
    ∙ ap (position_or_len (λ (x : Word). same_bytes x name)) ts.names ∙ name-place i inside

script-clear : (i : ℕ) (d : Declarations) → i < 200 → Ready i d → IsClear (statement_causes d (Script (numbered 116 i)))
script-clear i d inside r =
    let number = number-of i d inside r.threads in
    let count = threads-count 200 d.threads r.threads in
    let known : ltb (thread_number d (numbered 116 i)) (length d.threads) ≡ true = lt-ltb _ _ (omega arith) in
    record {
      syntax = refl;
      unknown = ap not known;
      twice = none-given (thread_number d (numbered 116 i)) d.scripted (ap (λ n. are_before n d.scripted) number ∙ r.scripted);
      range = refl;
      sets = refl;
      limits = refl;
    }

names-kept : (ts : List Thread) (i : ℕ) (ops : List Op) → map (λ t. t.name) (set ts i (record (get_or ts i no_thread) { ops = ops })) ≡ map (λ t. t.name) ts
names-kept [] i ops = refl
names-kept (t ∷ ts) zero ops = refl
names-kept (t ∷ ts) (suc i) ops = ap (λ (l : List Word). t.name ∷ l) (names-kept ts i ops)

record Scripted (text : List ℕ) (i : ℕ) (d : Declarations) : Type 0 where
  after : Declarations
  takes : Takes text d Outside after Outside
  ready : Ready i after

takes-drawn_script : (i : ℕ) (g : Lcg) (d : Declarations) → i < 200 → Ready i d → Scripted (script_text i g).0 (i + 1) d
unfolding script_text
takes-drawn_script i g d inside r =
    let name = numbered 116 i in
    let t = thread_id d name in
    let named = numbered-name 116 i refl (omega arith) in
    let plain : are_plain (codes "script" ∷ name ∷ []) ≡ true = rw (name-plain name named) refl in
    let head : Takes (number_line (codes "script t") i) d Outside d (InScript t []) =
    subst (λ (text : List ℕ). Takes text d Outside d (InScript t [])) (two-words (codes "script") name)
    (takes-line (codes "script") (name ∷ []) (Script name) d plain (script-form name named) (script-clear i d inside r)) in
    let g1 = (round_text g).1 in
    let g2 = (round_text g1).1 in
    let x = goes-round d r.locks t [] g refl (omega arith) in
    let sx = x.short in
    let y = goes-round d r.locks t x.back g1 x.holds (omega arith) in
    let sy = y.short in
    let z = goes-round d r.locks t y.back g2 y.holds (omega arith) in
    let sz = z.short in
    let e : Declarations = with_script d t z.back in
    let number = number-of i d inside r.threads in
    let few : leb (length z.back) 18 ≡ true = le-leb _ _ (omega arith) in
    let here : ltb (thread_number d name) (i + 1) ≡ true = lt-ltb _ _ (omega arith) in
    record {
      after = e;
      takes = takes-both _ _ d d e Outside (InScript t []) Outside head
          (takes-both _ _ d d e (InScript t []) (InScript t x.back) Outside x.takes
          (takes-both _ _ d d e (InScript t x.back) (InScript t y.back) Outside y.takes
          (takes-both _ _ d d e (InScript t y.back) (InScript t z.back) Outside z.takes
          (takes-close d t z.back (ap length z.holds)))));
      ready = record {
        locks = r.locks;
        cpus = r.cpus;
        limit = r.limit;
        threads = record {
          names = names-kept d.threads t.0 z.back ∙ r.threads.names;
          short = all-set (λ (x : Thread). leb (length x.ops) 18) d.threads t.0 (record (get_or d.threads t.0 no_thread) { ops = z.back }) r.threads.short few;
        };
        scripted = list_all-append (λ (x : ThreadId). ltb x.0 (i + 1)) d.scripted (t ∷ []) ∙ rw (before-more i (i + 1) d.scripted (omega arith) r.scripted, here) refl;
      };
    }

takes-drawn_scripts : (k i : ℕ) (g : Lcg) (d : Declarations) → i + k ≡ 200 → Ready i d → Scripted (drawn_from script_text k i g).0 200 d
unfolding drawn_from
takes-drawn_scripts zero i g d e r =
    let all : i ≡ 200 = omega arith in
    record { after = d; takes = takes-nothing d Outside; ready = subst (λ (n : ℕ). Ready n d) all r }
takes-drawn_scripts (suc k) i g d e r =
    let here = takes-drawn_script i g d (omega arith) r in
    let rest = takes-drawn_scripts k (i + 1) (script_text i g).1 here.after (omega arith) here.ready in
    record {
      after = rest.after;
      takes = takes-both _ _ d here.after rest.after Outside Outside Outside here.takes rest.takes;
      ready = rest.ready;
    }

-- ---- the end

sum-most : (ts : List Thread) → list_all (λ t. leb (length t.ops) 18) ts ≡ true → sum_by (λ t. length t.ops) ts ≤ 18 * length ts
sum-most [] h = omega arith
sum-most (t ∷ ts) h =
    let p = and_parts (leb (length t.ops) 18) (list_all (λ (x : Thread). leb (length x.ops) 18) ts) h in
    let here = leb-true _ _ p.0 in
    let rest = sum-most ts p.1 in
    let e : sum_by (λ (x : Thread). length x.ops) (t ∷ ts) ≡ length t.ops + sum_by (λ (x : Thread). length x.ops) ts = sum_by-cons (λ (x : Thread). length x.ops) t ts in
    omega arith

end-free : (d : Declarations) → Ready 200 d → end_cause d Outside ≡ None
unfolding end_cause
end-free d r =
    let count = threads-count 200 d.threads r.threads in
    let locks : length d.locks ≡ 20 = ap length r.locks ∙ locks-count in
    let ticks : unwrap_or d.limit 0 * cpu_count d ≡ 80000 =
    ap (λ (o : Option ℕ). unwrap_or o 0 * cpu_count d) r.limit ∙ ap (λ (o : Option ℕ). 10000 * unwrap_or o 1) r.cpus in
    let pairs : length d.threads * length d.locks ≡ 4000 = ap (λ (n : ℕ). n * length d.locks) count ∙ ap (λ (n : ℕ). 200 * n) locks in
    let ops = sum-most d.threads r.threads.short in
    let few : is_too_many d ≡ false =
    rw (not-more 200000 (unwrap_or d.limit 0 * cpu_count d) (omega arith), not-more 65536 (length d.threads * length d.locks) (omega arith), not-more 4096 (sum_by (λ (t : Thread). length t.ops) d.threads) (omega arith)) refl in
    none-clear (end_causes d) (record {
      syntax = ap (λ (o : Option ℕ). is_none o) r.limit;
      unknown = refl;
      twice = refl;
      range = refl;
      sets = refl;
      limits = few;
    })

-- ---- the whole

threads-none : Threads 0 []
unfolding names-to
threads-none = record { names = refl; short = refl }

abbrev above-threads : Declarations
above-threads = record below-head { locks = the-locks }

takes-generated : (n : ℕ) → Scripted (generated n) 200 nothing
unfolding generated
takes-generated n =
    let g = first_generator n in
    let ts = takes-drawn_threads 200 0 g above-threads refl refl threads-none in
    let d : Declarations = record above-threads { threads = ts.ts } in
    let scripts = takes-drawn_scripts 200 0 (drawn_from thread_line 200 0 g).1 d refl (record { locks = refl; cpus = refl; limit = refl; threads = ts.threads; scripted = refl }) in
    record {
      after = scripts.after;
      takes = takes-both _ _ nothing below-head scripts.after Outside Outside Outside takes-head
          (takes-both _ _ below-head above-threads scripts.after Outside Outside Outside (takes-the-locks below-head refl)
          (takes-both _ _ above-threads d scripts.after Outside Outside Outside ts.takes scripts.takes));
      ready = scripts.ready;
    }

pub generated-declares : (n : ℕ) → (d : Declarations) × (verdict_of (generated n) ≡ Accepts d)
unfolding lines_of
generated-declares n =
    let s = takes-generated n in
    let p = s.takes.on 1 [] in (
      s.after,
      ap (λ (text : List ℕ). judged 1 nothing Outside (word_lines text)) (sym (append-nil (generated n))) ∙ p.1
          ∙ judged-end p.0 s.after Outside [] refl ∙ ap (λ c. unless_refused p.0 c (Accepts s.after)) (end-free s.after s.ready),
    )
