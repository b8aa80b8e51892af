-- What a text without faults declares has names, well-formed scripts and the lines of tables, so that it makes a workload.
use Rattle.std.proofs.Common.{◌≡◌, ℕ, zero, suc, ◌+◌, ◌<◌, ◌≤◌, Bool, true, false, cond, leb, set, get_or, List, [], ◌∷◌, ◌++◌, length, map, Option, Some, None, refl, sym, ap, ◌∙◌, subst, arith, length-append}
use Rattle.std.specs.Prelude.{codes, nat_lt, IfSome}
use Rattle.std.specs.Option.{option_map, option_and_then}
use Rattle.std.specs.List.{list_all}
use Rattle.std.proofs.lemmas.Bool.{false≢true, and_parts}
use Rattle.std.proofs.lemmas.Bool.Decides.{nat_tests}
use Rattle.std.proofs.lemmas.Option.{none-some}
use Rattle.std.proofs.lemmas.List.{map-append, length-set}
use Rattle.std.proofs.lemmas.List.Folds.{list_all-append}
use Rattle.sd_types.specs.declared.numbers.CpuId.{CpuId}
use Rattle.sd_types.specs.declared.numbers.ThreadId.{ThreadId}
use Rattle.sd_types.specs.declared.scripts.Op.{Op}
use Rattle.sd_types.specs.declared.works.LockKind.{LockKind}
use Rattle.sd_types.specs.declared.works.LockKind.TheVariants.{Mutex, Rwlock}
use Rattle.sd_types.specs.declared.works.ChanKind.{ChanKind}
use Rattle.sd_types.specs.declared.works.ChanKind.TheVariants as kind
use Rattle.sd_types.specs.NameWords.{is_name}
use Rattle.sd_types.specs.Works.{same_bytes}
use Rattle.sd_types.specs.Partitions.{cpu_of_number}
use Rattle.sd_types.specs.Scripts.{held_by, EachOpFits}
use Rattle.sd_script.specs.declared.faults.ScriptFault.{ScriptFault}
use Rattle.sd_script.specs.declared.faults.ScriptFault.TheVariants.{HeldAtExit}
use Rattle.sd_script.specs.Faults.{IsWellFormed}
use Rattle.sd_text.specs.Lines.{is_line, lines_of}
use Rattle.sd_text.specs.Words.{words_of}
use Rattle.sd_text.specs.Numbers.{number_of}
use Rattle.sd_text.proofs.LineLemmas.{are_lines}
use Rattle.sd_dispadmin.specs.TableText.{word_lines}
use Rattle.sd_lines.specs.declared.statements.TableClass.{TableClass}
use Rattle.sd_lines.specs.declared.statements.TableClass.TheVariants as table
use Rattle.sd_lines.specs.declared.threads.ThreadClass.{ThreadClass}
use Rattle.sd_lines.specs.Words.{Word, Line, name_of, first, only_word, only, all_numbers, is_end}
use Rattle.sd_lines.specs.Threads.{Thread as ThreadLine, Options, thread, class_words, options, thread_line}
use Rattle.sd_lines.specs.Statements.{Statement, Cpus, Hz, Limit, Set, Table, Lock, Chan, Sema, Declare, Script, table_class, set_line, sema_line, thread_statement, object_statement, setting_statement, statement_of}
use Rattle.sd_lines.specs.Operations.{operation_of}
use Rattle.sd_declare.specs.declared.causes.WorkCause.{WorkCause}
use Rattle.sd_declare.specs.declared.causes.WorkCause.TheVariants.{Syntax}
use Rattle.sd_declare.specs.declared.causes.WorkCause.TheVariants as cause
use Rattle.sd_declare.specs.Causes.{least}
use Rattle.sd_declare.specs.Declarations.{Thread, Declarations, nothing}
use Rattle.sd_declare.specs.Statements.{statement_causes, set_causes, lock_causes, chan_causes, sema_causes, thread_causes, thread_of, with_statement}
use Rattle.sd_declare.specs.Opened.{opened_by}
use Rattle.sd_workload.specs.Scripts.{end_fault}
use Rattle.sd_workload.specs.Texts.{Block, Outside, InTable, InScript, stated_cause, stated, opened, block_of, unless_done, operation_cause, ops_of, with_table, with_script, no_thread, cause_of, declared_after, block_after, end_cause, Accepts, unless_refused, judged}
use Rattle.sd_workload.proofs.ClearLemmas.{clear}
use Rattle.sd_workload.proofs.FirstLemmas.{apart, same-accepted}
use Rattle.sd_workload.proofs.FitsLemmas.{line-more}
use Rattle.sd_workload.proofs.LineLemmas.{all-push}
use Rattle.sd_canonical.proofs.RangeLemmas.{unrefused}

-- ---- names in statements

abbrev named : Statement → Bool
named (Set name cpus) = is_name name
named (Lock k name) = is_name name
named (Chan name) = is_name name
named (Sema name n) = is_name name
named (Declare t) = is_name t.name
named _ = true

abbrev named-if : Option Statement → Bool
named-if None = true
named-if (Some s) = named s

chosen : (b : Bool) (x y : Option Statement) → named-if x ≡ true → named-if y ≡ true → named-if (cond b x y) ≡ true
chosen true x y p q = p
chosen false x y p q = q

mapped : {X : Type 0} (make : X → Statement) (o : Option X) → ((x : X) → named (make x) ≡ true) → named-if (option_map make o) ≡ true
mapped make None h = refl
mapped make (Some x) h = h x

name-found : (make : Word → Statement) (word : Word) (b : Bool) → is_name word ≡ b → ((name : Word) → is_name name ≡ true → named (make name) ≡ true)
    → named-if (option_map make (cond b (Some word) None)) ≡ true
name-found make word true e h = h word e
name-found make word false e h = refl

only-name : (make : Word → Statement) (words : Line) → ((name : Word) → is_name name ≡ true → named (make name) ≡ true) → named-if (option_map make (only name_of words)) ≡ true
unfolding only_word
only-name make [] h = refl
only-name make (word ∷ []) h = name-found make word (is_name word) refl h
only-name make (word ∷ other ∷ words) h = refl

set-named : (words : Line) → named-if (set_line words) ≡ true
unfolding set_line first
set-named [] = refl
set-named (word ∷ words) = by (is_name word) refl (all_numbers words)
  where
    by : (b : Bool) → is_name word ≡ b → (o : Option (List ℕ))
        → named-if (option_and_then (λ (name : Word × Line). option_map (λ cpus. Set name.0 cpus) (all_numbers name.1)) (option_map (λ x. (x, words)) (cond b (Some word) None))) ≡ true
    by true e o = mapped (Set word) (all_numbers words) (λ cs. e)
    by false e o = refl

sema-named : (words : Line) → named-if (sema_line words) ≡ true
unfolding sema_line first
sema-named [] = refl
sema-named (word ∷ words) = by (is_name word) refl
  where
    by : (b : Bool) → is_name word ≡ b
        → named-if (option_and_then (λ (name : Word × Line). option_map (λ count. Sema name.0 count) (only number_of name.1)) (option_map (λ x. (x, words)) (cond b (Some word) None))) ≡ true
    by true e = mapped (Sema word) (only number_of words) (λ n. e)
    by false e = refl

abbrev threaded : Option ThreadLine → Bool
threaded None = true
threaded (Some t) = is_name t.name

options-named : (name : Word) (class : ThreadClass) (o : Option Options) → is_name name ≡ true → threaded (option_map (λ x. thread name class x) o) ≡ true
options-named name class None h = refl
options-named name class (Some x) h = h

class-named : (name : Word) (o : Option (ThreadClass × Line)) → is_name name ≡ true → threaded (option_and_then (λ (class : ThreadClass × Line). option_map (λ x. thread name class.0 x) (options class.1)) o) ≡ true
class-named name None h = refl
class-named name (Some class) h = options-named name class.0 (options class.1) h

line-threaded : (words : Line) → threaded (thread_line words) ≡ true
unfolding thread_line first
line-threaded [] = refl
line-threaded (word ∷ words) = by (is_name word) refl
  where
    by : (b : Bool) → is_name word ≡ b
        → threaded (option_and_then (λ (name : Word × Line). option_and_then (λ (class : ThreadClass × Line). option_map (λ o. thread name.0 class.0 o) (options class.1)) (class_words name.1)) (option_map (λ x. (x, words)) (cond b (Some word) None))) ≡ true
    by true e = class-named word (class_words words) e
    by false e = refl

declared-named : (o : Option ThreadLine) → threaded o ≡ true → named-if (option_map Declare o) ≡ true
declared-named None h = refl
declared-named (Some t) h = h

thread-named : (word : Word) (words : Line) → named-if (thread_statement word words) ≡ true
unfolding thread_statement
thread-named word words =
    chosen (same_bytes word (codes "thread")) _ _ (declared-named (thread_line words) (line-threaded words))
    (chosen (same_bytes word (codes "script")) _ _ (only-name Script words (λ n h. refl)) refl)

object-named : (word : Word) (words : Line) → named-if (object_statement word words) ≡ true
unfolding object_statement
object-named word words =
    chosen (same_bytes word (codes "mutex")) _ _ (only-name (Lock Mutex) words (λ n h. h))
    (chosen (same_bytes word (codes "rwlock")) _ _ (only-name (Lock Rwlock) words (λ n h. h))
    (chosen (same_bytes word (codes "chan")) _ _ (only-name Chan words (λ n h. h))
    (chosen (same_bytes word (codes "sema")) _ _ (sema-named words) (thread-named word words))))

setting-named : (word : Word) (words : Line) → named-if (setting_statement word words) ≡ true
unfolding setting_statement
setting-named word words =
    chosen (same_bytes word (codes "cpus")) _ _ (mapped Cpus (only number_of words) (λ n. refl))
    (chosen (same_bytes word (codes "hz")) _ _ (mapped Hz (only number_of words) (λ n. refl))
    (chosen (same_bytes word (codes "limit")) _ _ (mapped Limit (only number_of words) (λ n. refl))
    (chosen (same_bytes word (codes "table")) _ _ (mapped Table (only table_class words) (λ n. refl)) (object-named word words))))

line-named : (line : Line) → named-if (statement_of line) ≡ true
unfolding statement_of
line-named [] = refl
line-named (word ∷ words) = chosen (same_bytes word (codes "set")) _ _ (set-named words) (setting-named word words)

-- ---- what is made

abbrev pub Each : {X : Type 0} → (X → Type 0) → List X → Type 0
Each P [] = Unit {0}
Each P (x ∷ xs) = P x × Each P xs

each-push : {X : Type 0} (P : X → Type 0) (xs : List X) (x : X) → Each P xs → P x → Each P (xs ++ x ∷ [])
each-push P [] x h here = (here, tt)
each-push P (y ∷ ys) x h here = (h.0, each-push P ys x h.1 here)

each-changed : {X : Type 0} (P : X → Type 0) (f : X → X) (xs : List X) (i : ℕ) (d : X) → ((x : X) → P x → P (f x)) → Each P xs → Each P (set xs i (f (get_or xs i d)))
each-changed P f [] i d keeps h = h
each-changed P f (x ∷ xs) zero d keeps h = (keeps x h.0, h.1)
each-changed P f (x ∷ xs) (suc i) d keeps h = (h.0, each-changed P f xs i d keeps h.1)

pub record IsThread (t : Thread) : Type 0 where
  pub name : is_name t.name ≡ true
  pub script : IsWellFormed t.ops

-- lines as the words of lines
pub record Raw (lines : List Line) : Type 0 where
  pub raw : List (List ℕ)
  pub single : list_all is_line raw ≡ true
  pub words : map words_of raw ≡ lines

pub record Made (d : Declarations) : Type 0 where
  pub sets : list_all (λ s. is_name s.0) d.sets ≡ true
  pub locks : list_all (λ l. is_name l.0) d.locks ≡ true
  pub chans : list_all (λ k. is_name k.0) d.chans ≡ true
  pub threads : Each IsThread d.threads
  pub few_sets : length d.sets ≤ 8
  pub few_locks : length d.locks ≤ 256
  pub few_chans : length d.chans ≤ 256
  pub few_threads : length d.threads ≤ 2048
  pub ts : IfSome d.ts Raw
  pub fx : IfSome d.fx Raw
  pub rt : IfSome d.rt Raw

abbrev IsMadeBlock : Block → Type 0
IsMadeBlock Outside = Unit {0}
IsMadeBlock (InTable class above) = Raw above
IsMadeBlock (InScript t ops) = EachOpFits ops × (length ops ≤ 256)

room : {X : Type 0} (xs : List X) (x : X) (n : ℕ) → leb n (length xs) ≡ false → length (xs ++ x ∷ []) ≤ n
room xs x n h = let less : length xs < n = grind (arith, nat_tests) in omega (arith, length-append xs (x ∷ []))

-- ---- statements

set-made : (d : Declarations) (name : Word) (cs : List ℕ) → least (set_causes d name cs) ≡ None → is_name name ≡ true → Made d → Made (with_statement d (Set name cs))
set-made d name cs h n m = record {
  sets = all-push (λ (s : Word × List CpuId). is_name s.0) d.sets (name, map cpu_of_number cs) m.sets n;
  locks = m.locks;
  chans = m.chans;
  threads = m.threads;
  few_sets = room d.sets (name, map cpu_of_number cs) 8 (clear (set_causes d name cs) h).limits;
  few_locks = m.few_locks;
  few_chans = m.few_chans;
  few_threads = m.few_threads;
  ts = m.ts;
  fx = m.fx;
  rt = m.rt;
}

lock-made : (d : Declarations) (k : LockKind) (name : Word) → least (lock_causes d name) ≡ None → is_name name ≡ true → Made d → Made (with_statement d (Lock k name))
lock-made d k name h n m = record {
  sets = m.sets;
  locks = all-push (λ (l : Word × LockKind). is_name l.0) d.locks (name, k) m.locks n;
  chans = m.chans;
  threads = m.threads;
  few_sets = m.few_sets;
  few_locks = room d.locks (name, k) 256 (clear (lock_causes d name) h).limits;
  few_chans = m.few_chans;
  few_threads = m.few_threads;
  ts = m.ts;
  fx = m.fx;
  rt = m.rt;
}

chan-made : (d : Declarations) (k : ChanKind) (name : Word) → leb 256 (length d.chans) ≡ false → is_name name ≡ true → Made d → Made (record d { chans = d.chans ++ (name, k) ∷ [] })
chan-made d k name h n m = record {
  sets = m.sets;
  locks = m.locks;
  chans = all-push (λ (l : Word × ChanKind). is_name l.0) d.chans (name, k) m.chans n;
  threads = m.threads;
  few_sets = m.few_sets;
  few_locks = m.few_locks;
  few_chans = room d.chans (name, k) 256 h;
  few_threads = m.few_threads;
  ts = m.ts;
  fx = m.fx;
  rt = m.rt;
}

no-ops : EachOpFits []
no-ops = λ i o e. absurd (none-some o e)

empty-script : IsWellFormed []
empty-script = record { each_fits = no-ops; released = refl; short = omega arith }

thread-made : (d : Declarations) (t : ThreadLine) → least (thread_causes d t) ≡ None → is_name t.name ≡ true → Made d → Made (with_statement d (Declare t))
thread-made d t h n m = record {
  sets = m.sets;
  locks = m.locks;
  chans = m.chans;
  threads = each-push IsThread d.threads (thread_of d t) m.threads (record { name = n; script = empty-script });
  few_sets = m.few_sets;
  few_locks = m.few_locks;
  few_chans = m.few_chans;
  few_threads = room d.threads (thread_of d t) 2048 (clear (thread_causes d t) h).limits;
  ts = m.ts;
  fx = m.fx;
  rt = m.rt;
}

again : (d : Declarations) (cpus hz limit : Option ℕ) → Made d → Made (record d { cpus = cpus; hz = hz; limit = limit })
again d cpus hz limit m = record {
  sets = m.sets;
  locks = m.locks;
  chans = m.chans;
  threads = m.threads;
  few_sets = m.few_sets;
  few_locks = m.few_locks;
  few_chans = m.few_chans;
  few_threads = m.few_threads;
  ts = m.ts;
  fx = m.fx;
  rt = m.rt;
}

statement-made : (d : Declarations) (s : Statement) → least (statement_causes d s) ≡ None → named s ≡ true → Made d → Made (with_statement d s)
statement-made d (Cpus n) h k m = again d (Some n) d.hz d.limit m
statement-made d (Hz n) h k m = again d d.cpus (Some n) d.limit m
statement-made d (Limit n) h k m = again d d.cpus d.hz (Some n) m
statement-made d (Set name cs) h k m = set-made d name cs h k m
statement-made d (Table class) h k m = m
statement-made d (Lock l name) h k m = lock-made d l name h k m
statement-made d (Chan name) h k m = chan-made d kind.Chan name (clear (chan_causes d name) h).limits k m
statement-made d (Sema name n) h k m = chan-made d (kind.Sema n) name (clear (sema_causes d name n) h).limits k m
statement-made d (Declare t) h k m = thread-made d t h k m
statement-made d (Script name) h k m = m

stated-made : (d : Declarations) (o : Option Statement) → stated_cause d o ≡ None → named-if o ≡ true → Made d → Made (stated d o)
stated-made d None h k m = absurd (none-some Syntax (sym h))
stated-made d (Some s) h k m = statement-made d s h k m

outside-made : (d : Declarations) (line : Line) → unless_done line (stated_cause d (statement_of line)) ≡ None → Made d → Made (stated d (statement_of line))
unfolding statement_of
outside-made d [] h m = m
outside-made d (word ∷ words) h m = stated-made d (statement_of (word ∷ words)) h (line-named (word ∷ words)) m

raw-nothing : Raw []
raw-nothing = record { raw = []; single = refl; words = refl }

opened-made : (d : Declarations) (s : Statement) → IsMadeBlock (block_of (opened_by d s))
opened-made d (Table class) = raw-nothing
opened-made d (Script name) = (no-ops, omega arith)
opened-made d s = tt

opened-if : (d : Declarations) (o : Option Statement) → IsMadeBlock (opened d o)
opened-if d None = tt
opened-if d (Some s) = opened-made d s

-- ---- blocks

table-made : (d : Declarations) (class : TableClass) (lines : List Line) → Raw lines → Made d → Made (with_table d class lines)
table-made d table.Ts lines r m = record {
  sets = m.sets;
  locks = m.locks;
  chans = m.chans;
  threads = m.threads;
  few_sets = m.few_sets;
  few_locks = m.few_locks;
  few_chans = m.few_chans;
  few_threads = m.few_threads;
  ts = r;
  fx = m.fx;
  rt = m.rt;
}
table-made d table.Fx lines r m = record {
  sets = m.sets;
  locks = m.locks;
  chans = m.chans;
  threads = m.threads;
  few_sets = m.few_sets;
  few_locks = m.few_locks;
  few_chans = m.few_chans;
  few_threads = m.few_threads;
  ts = m.ts;
  fx = r;
  rt = m.rt;
}
table-made d table.Rt lines r m = record {
  sets = m.sets;
  locks = m.locks;
  chans = m.chans;
  threads = m.threads;
  few_sets = m.few_sets;
  few_locks = m.few_locks;
  few_chans = m.few_chans;
  few_threads = m.few_threads;
  ts = m.ts;
  fx = m.fx;
  rt = r;
}

raw-push : (lines : List Line) (line : List ℕ) → is_line line ≡ true → Raw lines → Raw (lines ++ words_of line ∷ [])
raw-push lines line h r = record {
  raw = r.raw ++ line ∷ [];
  single = all-push is_line r.raw line r.single h;
  words = map-append words_of r.raw (line ∷ []) ∙ ap (λ l. l ++ words_of line ∷ []) r.words;
}

script-made : (d : Declarations) (t : ThreadId) (ops : List Op) → IsWellFormed ops → Made d → Made (with_script d t ops)
script-made d t ops w m = record {
  sets = m.sets;
  locks = m.locks;
  chans = m.chans;
  threads = each-changed IsThread (λ (x : Thread). record x { ops = ops }) d.threads t.0 no_thread (λ x h. record { name = h.name; script = w }) m.threads;
  few_sets = m.few_sets;
  few_locks = m.few_locks;
  few_chans = m.few_chans;
  few_threads = (let few = m.few_threads in omega (arith, length-set d.threads t.0 (record (get_or d.threads t.0 no_thread) { ops = ops })));
  ts = m.ts;
  fx = m.fx;
  rt = m.rt;
}

-- the declarations and the block below a line
record Below (d : Declarations) (b : Block) : Type 0 where
  declared : Made d
  block : IsMadeBlock b

released : (ops : List Op) → end_fault ops ≡ None → length (held_by ops) ≡ 0
released ops h = by (nat_lt 0 (length (held_by ops))) refl h
  where
    by : (b : Bool) → nat_lt 0 (length (held_by ops)) ≡ b → cond b (Some HeldAtExit) None ≡ None → length (held_by ops) ≡ 0
    by true e none = absurd (none-some HeldAtExit (sym none))
    by false e none = grind (arith, nat_tests)

none-mapped : (o : Option ScriptFault) → option_map cause.Script o ≡ None → o ≡ None
none-mapped None h = refl
none-mapped (Some x) h = absurd (none-some (cause.Script x) (sym h))

not-done : (line : Line) (c : Option WorkCause) → is_end line ≡ true → unless_done line c ≡ None → c ≡ None
unfolding only_word
not-done [] c e h = absurd (false≢true e)
not-done (word ∷ words) c e h = h

table-below : (d : Declarations) (class : TableClass) (above : List Line) (line : List ℕ) (b : Bool) → is_line line ≡ true → Raw above → Made d
    → Below (cond b (with_table d class above) d) (cond b Outside (InTable class (above ++ words_of line ∷ [])))
table-below d class above line true l r m = record { declared = table-made d class above r m; block = tt }
table-below d class above line false l r m = record { declared = m; block = raw-push above line l r }

script-below : (d : Declarations) (t : ThreadId) (ops : List Op) (line : Line) (b : Bool) → is_end line ≡ b → unless_done line (cond b (option_map cause.Script (end_fault ops)) (operation_cause d ops (operation_of line))) ≡ None
    → EachOpFits ops → length ops ≤ 256 → Made d
    → Below (cond b (with_script d t ops) d) (cond b Outside (InScript t (ops ++ ops_of d (operation_of line))))
script-below d t ops line true e h fits short m =
    let free : end_fault ops ≡ None = none-mapped (end_fault ops) (not-done line (option_map cause.Script (end_fault ops)) e h) in
    record { declared = script-made d t ops (record { each_fits = fits; released = released ops free; short = short }) m; block = tt }
script-below d t ops line false e h fits short m = record { declared = m; block = line-more d ops line h fits short }

line-below : (d : Declarations) (b : Block) (line : List ℕ) → is_line line ≡ true → cause_of d b (words_of line) ≡ None → Made d → IsMadeBlock b
    → Below (declared_after d b (words_of line)) (block_after d b (words_of line))
unfolding cause_of declared_after block_after
line-below d Outside line l h m k = record { declared = outside-made d (words_of line) h m; block = opened-if d (statement_of (words_of line)) }
line-below d (InTable class above) line l h m k = table-below d class above line (is_end (words_of line)) l k m
line-below d (InScript t ops) line l h m k = script-below d t ops (words_of line) (is_end (words_of line)) refl h k.0 k.1 m

-- what is declared, and that the end of the input is at no fault
pub record IsMade (d : Declarations) : Type 0 where
  pub declared : Made d
  pub end : end_cause d Outside ≡ None

end-made : (n : ℕ) (d e : Declarations) (b : Block) → unless_refused n (end_cause d b) (Accepts d) ≡ Accepts e → Made d → IsMade e
unfolding end_cause
end-made n d e Outside h m =
    let p = unrefused n (end_cause d Outside) (Accepts d) e h in
    subst IsMade (same-accepted d e p.1) (record { declared = m; end = p.0 })
end-made n d e (InTable class above) h m = absurd (apart e n Syntax (sym h))
end-made n d e (InScript t ops) h m = absurd (apart e n Syntax (sym h))

lines-made : (lines : List (List ℕ)) (n : ℕ) (d e : Declarations) (b : Block) → list_all is_line lines ≡ true → judged n d b (map words_of lines) ≡ Accepts e → Made d → IsMadeBlock b → IsMade e
unfolding judged
lines-made [] n d e b l h m k = end-made n d e b h m
lines-made (line ∷ lines) n d e b l h m k =
    let q = and_parts (is_line line) (list_all is_line lines) l in
    let words = words_of line in
    let p = unrefused n (cause_of d b words) (judged (n + 1) (declared_after d b words) (block_after d b words) (map words_of lines)) e h in
    let r = line-below d b line q.0 p.0 m k in
    lines-made lines (n + 1) (declared_after d b words) e (block_after d b words) q.1 p.1 r.declared r.block

pub text-made : (text : List ℕ) (d : Declarations) → judged 1 nothing Outside (word_lines text) ≡ Accepts d → IsMade d
text-made text d h =
    lines-made (lines_of text) 1 nothing d Outside (are_lines text) h
    (record {
      sets = refl;
      locks = refl;
      chans = refl;
      threads = tt;
      few_sets = omega arith;
      few_locks = omega arith;
      few_chans = omega arith;
      few_threads = omega arith;
      ts = tt;
      fx = tt;
      rt = tt;
    }) tt
