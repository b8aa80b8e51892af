-- What a text without a fault declares makes a workload.
use Rattle.std.proofs.Common.{◌≡◌, ℕ, zero, suc, ◌+◌, Bool, true, false, ◌&&◌, leb, cond, List, [], ◌∷◌, ◌++◌, length, map, take, set, get_or, Option, Some, None, inl, inr, refl, sym, ap, ◌∙◌, subst, arith, append-nil, length-append}
use Rattle.std.specs.Option.{option_map}
use Rattle.std.specs.List.{list_all}
use Rattle.std.proofs.lemmas.Bool.{cases_lt, and_parts}
use Rattle.std.proofs.lemmas.List.{take-append-le, take_at, get_or_append_left, get_or_at, map-set, set-get_or, set_past, length-set, get_or-map}
use Rattle.std.proofs.lemmas.Option.{none-some}
use Rattle.sd_types.specs.declared.numbers.ThreadId.{ThreadId}
use Rattle.sd_types.specs.declared.scripts.Op.{Op}
use Rattle.sd_types.specs.Works.{class_fits, op_names, is_distinct, same_bytes}
use Rattle.sd_dispadmin.specs.declared.fault.TableFault.TheVariants.{Rows}
use Rattle.sd_dispadmin.specs.TableText.{Format, line_fault, fault_at, AreClean, has_rows, rows_in}
use Rattle.sd_lines.specs.declared.statements.TableClass.{TableClass}
use Rattle.sd_lines.specs.declared.statements.TableClass.TheVariants as table
use Rattle.sd_lines.specs.Words.{Line, is_end, only_word}
use Rattle.sd_lines.specs.Statements.{Statement, Table, Script, statement_of}
use Rattle.sd_lines.specs.Operations.{Operation, operation_of}
use Rattle.sd_declare.specs.declared.causes.WorkCause.{WorkCause}
use Rattle.sd_declare.specs.declared.causes.WorkCause.TheVariants as cause
use Rattle.sd_declare.specs.Declarations.{Thread, Declarations, nothing}
use Rattle.sd_declare.specs.Statements.{with_statement}
use Rattle.sd_declare.specs.Opened.{opened_by}
use Rattle.sd_workload.specs.Scripts.{end_fault}
use Rattle.sd_workload.specs.Sound.{named, thread_is_sound, IsTableLines, AreThreads, AreSoundDeclarations, IsSoundBlock}
use Rattle.sd_workload.specs.Texts.{Block, Outside, InTable, InScript, stated_cause, stated, block_of, opened, format_of, rows_cause, row_cause, with_table, operation_cause, script_cause, ops_of, with_script, no_thread, unless_done, cause_of, declared_after, block_after, end_cause, Accepts, Refuses, unless_refused, judged}
use Rattle.sd_workload.proofs.StatementLemmas.{statement-sound}
use Rattle.sd_workload.proofs.OperationLemmas.{line-named}
use Rattle.sd_workload.proofs.FitsLemmas.{none-mapped, parts}
use Rattle.sd_workload.proofs.FirstLemmas.{same-accepted}

-- the declarations and the block below a line
record IsBelow (d : Declarations) (b : Block) : Type 0 where
  declared : AreSoundDeclarations d
  block : IsSoundBlock d b

-- ---- lines outside blocks

no-line : (cols : Format) → AreClean cols.columns [] 0
no-line cols = λ i h. absurd (omega arith)

opens-sound : (d : Declarations) (s : Statement) → IsSoundBlock (with_statement d s) (block_of (opened_by d s))
opens-sound d (Table class) = no-line (format_of class)
opens-sound d (Script name) = refl
opens-sound d s = tt

stated-sound : (d : Declarations) (s : Option Statement) → stated_cause d s ≡ None → AreSoundDeclarations d → IsBelow (stated d s) (opened d s)
stated-sound d None none h = absurd (none-some cause.Syntax (sym none))
stated-sound d (Some s) none h = record { declared = statement-sound d s none h; block = opens-sound d s }

outside-sound : (d : Declarations) (line : Line) → unless_done line (stated_cause d (statement_of line)) ≡ None → AreSoundDeclarations d
    → IsBelow (stated d (statement_of line)) (opened d (statement_of line))
unfolding statement_of
outside-sound d [] none h = record { declared = h; block = tt }
outside-sound d (word ∷ words) none h = stated-sound d (statement_of (word ∷ words)) none h

-- ---- lines of tables

clean-more : (format : Format) (above : List Line) (line : Line) → AreClean format.columns above (length above)
    → line_fault format.columns above line (length above + 1) ≡ None → AreClean format.columns (above ++ line ∷ []) (length (above ++ line ∷ []))
unfolding fault_at
clean-more format above line clean none = λ i h. elim (cases_lt i (length above)) [
  | inl before ↦
      ap (λ l. line_fault format.columns l (get_or (above ++ line ∷ []) i []) (i + 1)) (take-append-le i above (line ∷ []) (omega arith))
      ∙ ap (λ l. line_fault format.columns (take i above) l (i + 1)) (get_or_append_left above (line ∷ []) [] i before)
      ∙ clean i before
  | inr past ↦
      let last : length above ≡ i = omega (arith, length-append above (line ∷ [])) in
      ap (λ l. line_fault format.columns l (get_or (above ++ line ∷ []) i []) (i + 1)) (take_at above (line ∷ []) i last)
      ∙ ap (λ l. line_fault format.columns above l (i + 1)) (get_or_at above line [] [] i last)
      ∙ ap (λ n. line_fault format.columns above line (n + 1)) (sym last) ∙ none
]

rows-right : (format : Format) (above : List Line) (b : Bool) → has_rows format above ≡ b → rows_cause format above ≡ None → has_rows format above ≡ true
rows-right format above true e none = e
rows-right format above false e none =
    absurd (none-some (cause.Table (Rows (length (rows_in above)))) (sym none ∙ ap (λ b. cond b None (Some (cause.Table (Rows (length (rows_in above)))))) e))

table-sound : (d : Declarations) (class : TableClass) (lines : List Line) → IsTableLines (format_of class) lines → AreSoundDeclarations d → AreSoundDeclarations (with_table d class lines)
table-sound d table.Ts lines given h = record {
  settings = h.settings;
  sets = h.sets;
  set_names = h.set_names;
  lock_names = h.lock_names;
  chan_names = h.chan_names;
  counts = h.counts;
  threads = h.threads;
  tables = record { ts_lines = given; fx_lines = h.tables.fx_lines; rt_lines = h.tables.rt_lines };
}
table-sound d table.Fx lines given h = record {
  settings = h.settings;
  sets = h.sets;
  set_names = h.set_names;
  lock_names = h.lock_names;
  chan_names = h.chan_names;
  counts = h.counts;
  threads = h.threads;
  tables = record { ts_lines = h.tables.ts_lines; fx_lines = given; rt_lines = h.tables.rt_lines };
}
table-sound d table.Rt lines given h = record {
  settings = h.settings;
  sets = h.sets;
  set_names = h.set_names;
  lock_names = h.lock_names;
  chan_names = h.chan_names;
  counts = h.counts;
  threads = h.threads;
  tables = record { ts_lines = h.tables.ts_lines; fx_lines = h.tables.fx_lines; rt_lines = given };
}

inside-sound : (d : Declarations) (class : TableClass) (above : List Line) (line : Line) (b : Bool) → is_end line ≡ b
    → cond b (rows_cause (format_of class) above) (row_cause (format_of class) above line) ≡ None
    → AreSoundDeclarations d → AreClean (format_of class).columns above (length above)
    → IsBelow (cond b (with_table d class above) d) (cond b Outside (InTable class (above ++ line ∷ [])))
inside-sound d class above line true e none h clean = record {
  declared = table-sound d class above (record { clean = clean; rows = rows-right (format_of class) above (has_rows (format_of class) above) refl none }) h;
  block = tt;
}
inside-sound d class above line false e none h clean = record {
  declared = h;
  block = clean-more (format_of class) above line clean (none-mapped cause.Table _ none);
}

-- ---- lines of scripts

name-kept : (ts : List Thread) (i : ℕ) (ops : List Op) → map (λ (t : Thread). t.name) (set ts i (record (get_or ts i no_thread) { ops = ops })) ≡ map (λ (t : Thread). t.name) ts
name-kept ts i ops = elim (cases_lt i (length ts)) [
  | inl h ↦
      map-set (λ (t : Thread). t.name) ts i (record (get_or ts i no_thread) { ops = ops })
      ∙ ap (set (map (λ (t : Thread). t.name) ts) i) (sym (get_or-map (λ (t : Thread). t.name) ts i no_thread [] h))
      ∙ set-get_or (map (λ (t : Thread). t.name) ts) i []
  | inr h ↦ ap (map (λ (t : Thread). t.name)) (set_past ts i (record (get_or ts i no_thread) { ops = ops }) h)
]

all-set : {X : Type 0} (p : X → Bool) (xs : List X) (i : ℕ) (d : X) (f : X → X) → ((x : X) → p x ≡ true → p (f x) ≡ true) → list_all p xs ≡ true
    → list_all p (set xs i (f (get_or xs i d))) ≡ true
all-set p [] i d f keeps h = refl
all-set p (x ∷ xs) zero d f keeps h = let q = and_parts (p x) (list_all p xs) h in rw (keeps x q.0, q.1) refl
all-set p (x ∷ xs) (suc i) d f keeps h = let q = and_parts (p x) (list_all p xs) h in rw (q.0, all-set p xs i d f keeps q.1) refl

script-sound : (d : Declarations) (t : ThreadId) (ops : List Op) → AreSoundDeclarations d → list_all (op_names (named d)) ops ≡ true → AreSoundDeclarations (with_script d t ops)
script-sound d t ops h named_ops =
    let count : length (set d.threads t.0 (record (get_or d.threads t.0 no_thread) { ops = ops })) ≡ length d.threads = length-set d.threads t.0 (record (get_or d.threads t.0 no_thread) { ops = ops }) in
    record {
      settings = h.settings;
      sets = h.sets;
      set_names = h.set_names;
      lock_names = h.lock_names;
      chan_names = h.chan_names;
      counts = h.counts;
      threads = subst (λ n. AreThreads (record (named d) { threads = n }) (set d.threads t.0 (record (get_or d.threads t.0 no_thread) { ops = ops }))) (sym count)
          (record {
            names = ap (is_distinct same_bytes) (name-kept d.threads t.0 ops) ∙ h.threads.names;
            fit = all-set (thread_is_sound (named d)) d.threads t.0 no_thread (λ (x : Thread). record x { ops = ops }) keeps h.threads.fit;
          });
      tables = h.tables;
    }
  where
    keeps : (x : Thread) → thread_is_sound (named d) x ≡ true → thread_is_sound (named d) (record x { ops = ops }) ≡ true
    keeps x e =
        let p = and_parts (class_fits x.class x.cpupri && leb x.set.0 (named d).sets) (list_all (op_names (named d)) x.ops) e in
        rw (p.0, named_ops) refl

ops-sound : (d : Declarations) (ops : List Op) (o : Option Operation) → operation_cause d ops o ≡ None → list_all (op_names (named d)) ops ≡ true
    → list_all (op_names (named d)) (ops ++ ops_of d o) ≡ true
ops-sound d ops None none h = absurd (none-some cause.Syntax (sym none))
ops-sound d ops (Some o) none h = line-named d ops o (parts _ _ none).0 h

scripted-sound : (d : Declarations) (t : ThreadId) (ops : List Op) (line : Line) (b : Bool) → is_end line ≡ b
    → cond b (option_map cause.Script (end_fault ops)) (operation_cause d ops (operation_of line)) ≡ None
    → AreSoundDeclarations d → list_all (op_names (named d)) ops ≡ true
    → IsBelow (cond b (with_script d t ops) d) (cond b Outside (InScript t (ops ++ ops_of d (operation_of line))))
scripted-sound d t ops line true e none h named_ops = record { declared = script-sound d t ops h named_ops; block = tt }
scripted-sound d t ops line false e none h named_ops = record { declared = h; block = ops-sound d ops (operation_of line) none named_ops }

in-script-sound : (d : Declarations) (t : ThreadId) (ops : List Op) (line : Line) → unless_done line (script_cause d ops line) ≡ None
    → AreSoundDeclarations d → list_all (op_names (named d)) ops ≡ true
    → IsBelow (cond (is_end line) (with_script d t ops) d) (cond (is_end line) Outside (InScript t (ops ++ ops_of d (operation_of line))))
unfolding operation_of only_word
in-script-sound d t ops [] none h named_ops = record { declared = h; block = ap (list_all (op_names (named d))) (append-nil ops) ∙ named_ops }
in-script-sound d t ops (word ∷ words) none h named_ops =
    scripted-sound d t ops (word ∷ words) (is_end (word ∷ words)) refl none h named_ops

-- ---- lines

line-sound : (d : Declarations) (b : Block) (line : Line) → cause_of d b line ≡ None → AreSoundDeclarations d → IsSoundBlock d b
    → IsBelow (declared_after d b line) (block_after d b line)
unfolding cause_of declared_after block_after
line-sound d Outside line none h k = outside-sound d line none h
line-sound d (InTable class above) line none h k = inside-sound d class above line (is_end line) refl none h k
line-sound d (InScript t ops) line none h k = in-script-sound d t ops line none h k

apart-from : (n : ℕ) (c : WorkCause) (e : Declarations) → Refuses n c ≡ Accepts e → ⊥
apart-from n c e h = cc

end-sound : (o : Option WorkCause) (n : ℕ) (d e : Declarations) → unless_refused n o (Accepts d) ≡ Accepts e → AreSoundDeclarations d → AreSoundDeclarations e
end-sound None n d e h s = subst AreSoundDeclarations (same-accepted d e h) s
end-sound (Some c) n d e h s = absurd (apart-from n c e h)

-- what lines without a fault declare, below sound declarations
lines-sound : (lines : List Line) (n : ℕ) (d e : Declarations) (b : Block) → judged n d b lines ≡ Accepts e → AreSoundDeclarations d → IsSoundBlock d b → AreSoundDeclarations e
unfolding judged
lines-sound [] n d e b h s k = end-sound (end_cause d b) n d e h s
lines-sound (line ∷ lines) n d e b h s k =
    by (cause_of d b line) refl (λ (below : IsBelow (declared_after d b line) (block_after d b line)) g.
    lines-sound lines (n + 1) (declared_after d b line) e (block_after d b line) g below.declared below.block)
  where
    by : (o : Option WorkCause) → cause_of d b line ≡ o
        → (IsBelow (declared_after d b line) (block_after d b line) → judged (n + 1) (declared_after d b line) (block_after d b line) lines ≡ Accepts e → AreSoundDeclarations e) → AreSoundDeclarations e
    by None is more =
        more (line-sound d b line is s k)
        (sym (ap (λ x. unless_refused n x (judged (n + 1) (declared_after d b line) (block_after d b line) lines)) is) ∙ h)
    by (Some c) is more =
        let f : Refuses n c ≡ Accepts e = sym (ap (λ x. unless_refused n x (judged (n + 1) (declared_after d b line) (block_after d b line) lines)) is) ∙ h in absurd (apart-from n c e f)

nothing-sound : AreSoundDeclarations nothing
nothing-sound = record {
  settings = record { cpus_some = omega arith; cpus_most = omega arith; known_hz = refl; limit_some = tt; limit_most = tt };
  sets = record { fit = refl; differ = refl; left = omega arith };
  set_names = refl;
  lock_names = refl;
  chan_names = refl;
  counts = refl;
  threads = record { names = refl; fit = refl };
  tables = record { ts_lines = tt; fx_lines = tt; rt_lines = tt };
}

-- what a text declares that is accepted
pub text-sound : (lines : List Line) (e : Declarations) → judged 1 nothing Outside lines ≡ Accepts e → AreSoundDeclarations e
text-sound lines e h = lines-sound lines 1 nothing e Outside h nothing-sound tt
