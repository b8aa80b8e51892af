-- The blocks of scripts are taken in, thread after thread.
use Rattle.std.proofs.Common.{◌≡◌, ℕ, ◌<◌, ◌≤◌, Bool, true, false, not, eqb, ltb, set, get_or, List, [], ◌∷◌, ◌++◌, length, map, refl, sym, ap, ◌∙◌, subst, arith, append-nil, append_assoc, length-append}
use Rattle.std.specs.Prelude.{codes}
use Rattle.std.specs.List.{list_all, list_any, position_or_len, flat_map}
use Rattle.std.proofs.lemmas.Bool.{lt-ltb, ltb-true, and_parts}
use Rattle.std.proofs.lemmas.Bool.Decides.{nat_tests}
use Rattle.std.proofs.lemmas.List.{length-map, map-append}
use Rattle.std.proofs.lemmas.List.Folds.{list_all-append}
use Rattle.std.proofs.Math.Seq.{set-append_seam, get_or-append_seam}
use Rattle.sd_basics.proofs.Lists.{any-map, map-map}
use Rattle.sd_types.specs.declared.numbers.ThreadId.{ThreadId}
use Rattle.sd_types.specs.declared.scripts.Op.{Op}
use Rattle.sd_types.specs.declared.works.ThreadDecl.{ThreadDecl}
use Rattle.sd_types.specs.declared.works.Work.{Work}
use Rattle.sd_types.specs.Works.{same_bytes, is_distinct, op_names}
use Rattle.sd_lines.specs.Words.{Word}
use Rattle.sd_lines.specs.Statements.{Script}
use Rattle.sd_declare.specs.Declarations.{Thread, Declarations, cpu_count, thread_number, thread_id}
use Rattle.sd_declare.specs.Kept.{set_kept, lock_kept, chan_kept, thread_kept}
use Rattle.sd_declare.specs.Statements.{statement_causes}
use Rattle.sd_workload.specs.Texts.{Outside, InScript, with_script, no_thread}
use Rattle.sd_workload.proofs.ClearLemmas.{IsClear}
use Rattle.sd_canonical.specs.Lines.{operation_lines}
use Rattle.sd_canonical.specs.Canonical.{line_text, lines_text, script_text}
use Rattle.sd_canonical.proofs.LineLemmas.{script_text_none, script_text_parts}
use Rattle.sd_canonical.proofs.TextLemmas.{are_plain, name-plain}
use Rattle.sd_canonical.proofs.TakesLemmas.{Takes, takes-nothing, takes-both, takes-line}
use Rattle.sd_canonical.proofs.FormLemmas.{script-form}
use Rattle.sd_canonical.proofs.ThreadLemmas.{bare_kept}
use Rattle.sd_state.proofs.Declared.{declared}
use Rattle.sd_canonical.proofs.OpLemmas.{Names}
use Rattle.sd_canonical.proofs.ScriptLemmas.{takes-body}
use Rattle.sd_canonical.proofs.ListLemmas.{named-fresh, place-seam}
use Rattle.sd_types.proofs.SameLemmas.{bytes_same_itself}

-- ---- the declarations where the scripts of the first threads are given, and of no other

-- the threads that have been given a script stand before this number
abbrev pub are_before : ℕ → List ThreadId → Bool
are_before n ids = list_all (λ t. ltb t.0 n) ids

pub record IsPart (w : Work) (front back : List ThreadDecl) (d : Declarations) : Type 0 where
  pub whole : front ++ back ≡ w.threads
  pub cpus : cpu_count d ≡ w.cpus
  pub sets : d.sets ≡ map set_kept w.sets
  pub locks : d.locks ≡ map lock_kept w.locks
  pub chans : d.chans ≡ map chan_kept w.chans
  pub threads : d.threads ≡ map thread_kept front ++ map bare_kept back
  pub scripted : are_before (length front) d.scripted ≡ true

abbrev name-of : ThreadDecl → Word
name-of t = t.name.text.items

part-names : (w : Work) (front back : List ThreadDecl) (d : Declarations) → IsPart w front back d → Names w d
part-names w front back d p = record {
  cpus = p.cpus;
  sets = p.sets;
  locks = p.locks;
  chans = p.chans;
  threads = ap (map (λ (t : Thread). t.name)) p.threads ∙ map-append (λ (t : Thread). t.name) (map thread_kept front) (map bare_kept back)
      ∙ ap (λ l. l ++ map (λ (t : Thread). t.name) (map bare_kept back)) (map-map thread_kept (λ (t : Thread). t.name) front)
      ∙ ap (λ l. map name-of front ++ l) (map-map bare_kept (λ (t : Thread). t.name) back)
      ∙ sym (map-append name-of front back) ∙ ap (map name-of) p.whole;
}

-- the thread whose script comes next has the number of those before it
next-number : (w : Work) (front back : List ThreadDecl) (x : ThreadDecl) (d : Declarations) → IsPart w front (x ∷ back) d → thread_number d (name-of x) ≡ length (map thread_kept front)
unfolding thread_number
next-number w front back x d p =
    let name = name-of x in
    let differ : is_distinct same_bytes (map name-of (front ++ x ∷ back)) ≡ true = ap (λ l. is_distinct same_bytes (map name-of l)) p.whole ∙ w.thread_names in
    let new : list_any (λ (t : Thread). same_bytes t.name name) (map thread_kept front) ≡ false =
    any-map (λ (t : Thread). same_bytes t.name name) thread_kept front ∙ named-fresh name-of front back x differ in
    ap (position_or_len (λ (t : Thread). same_bytes t.name name)) p.threads
    ∙ place-seam (λ (t : Thread). same_bytes t.name name) (map thread_kept front) (map bare_kept back) (bare_kept x) new (bytes_same_itself name)

pub none-given : (n : ℕ) (ids : List ThreadId) → are_before n ids ≡ true → list_any (λ t. eqb t.0 n) ids ≡ false
none-given n [] h = refl
none-given n (t ∷ ts) h =
    let p = and_parts (ltb t.0 n) (are_before n ts) h in
    let other : eqb t.0 n ≡ false = grind (arith, nat_tests, p.0) in
    rw other (none-given n ts p.1)

pub before-more : (n m : ℕ) (ids : List ThreadId) → n ≤ m → are_before n ids ≡ true → are_before m ids ≡ true
before-more n m [] le h = refl
before-more n m (t ∷ ts) le h =
    let p = and_parts (ltb t.0 n) (are_before n ts) h in
    let here : ltb t.0 m ≡ true = grind (arith, nat_tests, p.0) in
    rw here (before-more n m ts le p.1)

script-clear : (w : Work) (front back : List ThreadDecl) (x : ThreadDecl) (d : Declarations) → IsPart w front (x ∷ back) d → IsClear (statement_causes d (Script (name-of x)))
script-clear w front back x d p =
    let number = next-number w front back x d p in
    let count = length-map front thread_kept in
    let rest = length-append (map thread_kept front) (map bare_kept (x ∷ back)) in
    let all : length d.threads ≡ length (map thread_kept front ++ map bare_kept (x ∷ back)) = ap length p.threads in
    let known : ltb (thread_number d (name-of x)) (length d.threads) ≡ true = lt-ltb _ _ (omega arith) in
    let place : length front ≡ thread_number d (name-of x) = omega arith in
    record {
      syntax = refl;
      unknown = ap not known;
      twice = none-given (thread_number d (name-of x)) d.scripted (ap (λ n. are_before n d.scripted) (sym place) ∙ p.scripted);
      range = refl;
      sets = refl;
      limits = refl;
    }

-- the declarations with the script of this thread
abbrev given : Declarations → List ThreadDecl → List ThreadDecl → ThreadDecl → Declarations
given d front back x = record d { threads = map thread_kept front ++ thread_kept x ∷ map bare_kept back; scripted = d.scripted ++ thread_id d (name-of x) ∷ [] }

given-script : (w : Work) (front back : List ThreadDecl) (x : ThreadDecl) (d : Declarations) → IsPart w front (x ∷ back) d
    → with_script d (thread_id d (name-of x)) x.script.ops ≡ given d front back x
given-script w front back x d p =
    let number = next-number w front back x d p in
    let xs = map thread_kept front in
    let ys = map bare_kept back in
    let now : List Thread → ℕ → List Thread = λ ts i. set ts i (record (get_or ts i no_thread) { ops = x.script.ops }) in
    let e : now d.threads (thread_number d (name-of x)) ≡ xs ++ thread_kept x ∷ ys =
    ap (now d.threads) number ∙ ap (λ (ts : List Thread). now ts (length xs)) p.threads
    ∙ ap (λ (t : Thread). set (xs ++ bare_kept x ∷ ys) (length xs) (record t { ops = x.script.ops })) (get_or-append_seam xs (bare_kept x) ys no_thread)
    ∙ set-append_seam xs (bare_kept x) ys (thread_kept x) in
    ap (λ (ts : List Thread). record d { threads = ts; scripted = d.scripted ++ thread_id d (name-of x) ∷ [] }) e

takes-script : (w : Work) (front back : List ThreadDecl) (x : ThreadDecl) (d : Declarations) → IsPart w front (x ∷ back) d → list_all (op_names (declared w)) x.script.ops ≡ true
    → 0 < length x.script.ops → Takes (script_text w x) d Outside (given d front back x) Outside
takes-script w front back x d p names some =
    let name = name-of x in
    let ops = x.script.ops in
    let plain : are_plain (codes "script" ∷ name ∷ []) ≡ true = rw (name-plain name x.name.is_name) refl in
    subst (λ (text : List ℕ). Takes text d Outside (given d front back x) Outside) (sym (script_text_parts w x some))
    (subst (λ (e : Declarations). Takes (line_text (codes "script" ∷ name ∷ []) ++ (lines_text (operation_lines w false ops) ++ line_text (codes "end" ∷ []))) d Outside e Outside)
    (given-script w front back x d p)
    (takes-both _ _ d d (with_script d (thread_id d name) ops) Outside (InScript (thread_id d name) []) Outside
    (takes-line (codes "script") (name ∷ []) (Script name) d plain (script-form name x.name.is_name) (script-clear w front back x d p))
    (takes-body w d (part-names w front (x ∷ back) d p) (thread_id d name) ops names x.script.each_fits x.script.short x.script.released)))

-- ---- the next thread

longer : (w : Work) (front back : List ThreadDecl) (x : ThreadDecl) → front ++ x ∷ back ≡ w.threads → (front ++ x ∷ []) ++ back ≡ w.threads
longer w front back x e = append_assoc front (x ∷ []) back ∙ e

kept-push : (front back : List ThreadDecl) (x : ThreadDecl) → map thread_kept front ++ thread_kept x ∷ map bare_kept back ≡ map thread_kept (front ++ x ∷ []) ++ map bare_kept back
kept-push front back x =
    sym (ap (λ (l : List Thread). l ++ map bare_kept back) (map-append thread_kept front (x ∷ [])) ∙ append_assoc (map thread_kept front) (thread_kept x ∷ []) (map bare_kept back))

part-given : (w : Work) (front back : List ThreadDecl) (x : ThreadDecl) (d : Declarations) → IsPart w front (x ∷ back) d → IsPart w (front ++ x ∷ []) back (given d front back x)
part-given w front back x d p =
    let number = next-number w front back x d p in
    let count = length-map front thread_kept in
    let long = length-append front (x ∷ []) in
    let here : ltb (thread_number d (name-of x)) (length (front ++ x ∷ [])) ≡ true = lt-ltb _ _ (omega arith) in
    record {
      whole = longer w front back x p.whole;
      cpus = p.cpus;
      sets = p.sets;
      locks = p.locks;
      chans = p.chans;
      threads = kept-push front back x;
      scripted = list_all-append (λ (t : ThreadId). ltb t.0 (length (front ++ x ∷ []))) d.scripted (thread_id d (name-of x) ∷ [])
          ∙ rw (before-more (length front) (length (front ++ x ∷ [])) d.scripted (omega arith) p.scripted, here) refl;
    }

bare-empty : (x : ThreadDecl) (ops : List Op) → x.script.ops ≡ ops → length ops ≡ 0 → bare_kept x ≡ thread_kept x
bare-empty x [] e none = ap (λ (ops : List Op). record (thread_kept x) { ops = ops }) (sym e)
bare-empty x (o ∷ ops) e none = absurd (omega arith)

part-empty : (w : Work) (front back : List ThreadDecl) (x : ThreadDecl) (d : Declarations) → IsPart w front (x ∷ back) d → length x.script.ops ≡ 0 → IsPart w (front ++ x ∷ []) back d
part-empty w front back x d p none = record {
  whole = longer w front back x p.whole;
  cpus = p.cpus;
  sets = p.sets;
  locks = p.locks;
  chans = p.chans;
  threads = p.threads ∙ ap (λ (t : Thread). map thread_kept front ++ t ∷ map bare_kept back) (bare-empty x x.script.ops refl none) ∙ kept-push front back x;
  scripted = before-more (length front) (length (front ++ x ∷ [])) d.scripted (omega (arith, length-append front (x ∷ []))) p.scripted;
}

-- ---- all threads

-- the text of scripts, from these declarations to those with all scripts
pub record AllGiven (w : Work) (text : List ℕ) (d : Declarations) : Type 0 where
  pub ids : List ThreadId
  pub takes : Takes text d Outside (record d { threads = map thread_kept w.threads; scripted = ids }) Outside

given-all : (w : Work) (front : List ThreadDecl) (d : Declarations) → IsPart w front [] d → AllGiven w [] d
given-all w front d p =
    let e : d.threads ≡ map thread_kept w.threads = p.threads ∙ append-nil (map thread_kept front) ∙ ap (map thread_kept) (sym (append-nil front) ∙ p.whole) in
    record { ids = d.scripted; takes = subst (λ (ts : List Thread). Takes [] d Outside (record d { threads = ts; scripted = d.scripted }) Outside) e (takes-nothing d Outside) }

takes-next : (w : Work) (front back : List ThreadDecl) (x : ThreadDecl) (d : Declarations) → IsPart w front (x ∷ back) d → list_all (op_names (declared w)) x.script.ops ≡ true
    → (b : Bool) → ltb 0 (length x.script.ops) ≡ b
    → (IsPart w (front ++ x ∷ []) back (given d front back x) → AllGiven w (flat_map (script_text w) back) (given d front back x))
    → (IsPart w (front ++ x ∷ []) back d → AllGiven w (flat_map (script_text w) back) d)
    → AllGiven w (script_text w x ++ flat_map (script_text w) back) d
takes-next w front back x d p names true some more same =
    let rest = more (part-given w front back x d p) in
    let here = takes-script w front back x d p names (ltb-true 0 (length x.script.ops) some) in
    record {
      ids = rest.ids;
      takes = takes-both (script_text w x) (flat_map (script_text w) back) d (given d front back x) (record d { threads = map thread_kept w.threads; scripted = rest.ids }) Outside Outside Outside here rest.takes;
    }
takes-next w front back x d p names false none more same =
    let empty : length x.script.ops ≡ 0 = grind (arith, nat_tests, none) in
    let rest = same (part-empty w front back x d p empty) in
    record {
      ids = rest.ids;
      takes = subst (λ (text : List ℕ). Takes (text ++ flat_map (script_text w) back) d Outside (record d { threads = map thread_kept w.threads; scripted = rest.ids }) Outside)
          (sym (script_text_none w x empty)) rest.takes;
    }

pub takes-scripts : (w : Work) (back front : List ThreadDecl) (d : Declarations) → list_all (λ t. list_all (op_names (declared w)) t.script.ops) back ≡ true → IsPart w front back d
    → AllGiven w (flat_map (script_text w) back) d
takes-scripts w [] front d names p = given-all w front d p
takes-scripts w (x ∷ back) front d names p =
    let h = and_parts (list_all (op_names (declared w)) x.script.ops) (list_all (λ (t : ThreadDecl). list_all (op_names (declared w)) t.script.ops) back) names in
    takes-next w front back x d p h.0 (ltb 0 (length x.script.ops)) refl
    (λ q. takes-scripts w back (front ++ x ∷ []) (given d front back x) h.1 q)
    (λ q. takes-scripts w back (front ++ x ∷ []) d h.1 q)
