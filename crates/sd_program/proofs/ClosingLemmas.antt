-- What the program writes are whole lines: each text ends with a newline.
use Rattle.std.proofs.Common.{◌≡◌, ℕ, zero, suc, ◌+◌, ◌-◌, Bool, true, false, cond, eqb, List, [], ◌++◌, length, refl}
use Rattle.std.specs.Prelude.{codes, count_by, decimal}
use Rattle.std.specs.List.{flat_map, range_with_len}
use Rattle.rand_pcg.specs.Lcg.{Lcg}
use Rattle.sd_basics.proofs.Truths.{either}
use Rattle.sd_types.specs.declared.events.Entry.{Entry}
use Rattle.sd_types.specs.declared.works.Work.{Work}
use Rattle.sd_dispadmin.specs.TableSpelling.{ts_text, fixed_text}
use Rattle.sd_text.specs.Lines.{EndsLine}
use Rattle.sd_text.proofs.PieceLemmas.{EndsLine-append, EndsLine-flat_map}
use Rattle.sd_state.specs.declared.states.State.{State}
use Rattle.sd_state.specs.declared.states.ThreadState.{ThreadState}
use Rattle.sd_state.specs.States.{thread_of}
use Rattle.sd_state.specs.Accounts.{cpu_ticks, cpu_idle, is_idle}
use Rattle.sd_state.specs.Texts.{thread_name, thread_counts, state_text, thread_line, cpu_line, threads_text, cpus_text, accounts_text}
use Rattle.sd_types.specs.Events.{ticks}
use Rattle.sd_machine.specs.Threads.{has_ended}
use Rattle.sd_machine.specs.Accounts.{entries_of, is_dispatch, is_steal, is_preempt, is_wake, is_block, is_will}
use Rattle.sd_machine.specs.LockGraph.{cycles_of}
use Rattle.sd_machine.specs.Texts.{cycle_line, cycle_word, cycles_text, count_line, summary_of}
use Rattle.sd_canonical.specs.Blocks.{block_text, tables_text}
use Rattle.sd_gen.specs.Generated.{Drawn, drawn, drawn_text, then_drawn, drawn_from, number_line, head_text, locks_text, class_text, set_text, thread_text, thread_line as thread_drawn, lock_line, locked_text, nested_text, mutex_part, nested_part, read_part, write_part, nap_part, part, part_drawn, round_text, end_text, script_text, first_generator, generated}
use Rattle.sd_answers.proofs.EndLemmas.{Closes, closes-behind, closed, ends-behind}

pub newline : Closes (codes "\n")
newline = λ o. refl

-- ---- accounts, cycles and summaries

thread-line-ends : (w : Work) (es : List Entry) (s : State) (t : ℕ) → EndsLine (thread_line w es s t)
unfolding thread_line
thread-line-ends w es s t =
    ends-behind (codes "thread " ++ thread_name w t ++ thread_counts es t ++ codes " " ++ state_text w (thread_of s t).place) (codes "\n") newline

cpu-line-ends : (es : List Entry) (c : ℕ) → EndsLine (cpu_line es c)
unfolding cpu_line
cpu-line-ends es c =
    ends-behind (codes "cpu " ++ decimal c ++ codes " ticks " ++ decimal (cpu_ticks c es) ++ codes " idle " ++ decimal (cpu_idle c es)) (codes "\n") newline

pub accounts-ends : (w : Work) (es : List Entry) (s : State) → EndsLine (accounts_text w es s)
unfolding accounts_text threads_text cpus_text
accounts-ends w es s =
    EndsLine-append (codes "accounts\n") (threads_text w es s ++ cpus_text w es) refl
    (EndsLine-append (threads_text w es s) (cpus_text w es)
    (EndsLine-flat_map (thread_line w es s) (thread-line-ends w es s) (range_with_len 0 (length w.threads)))
    (EndsLine-flat_map (cpu_line es) (cpu-line-ends es) (range_with_len 0 w.cpus)))

cycle-line-ends : (w : Work) (s : State) (ts : List ℕ) → EndsLine (cycle_line w s ts)
unfolding cycle_line
cycle-line-ends w s ts = ends-behind (codes "cycle" ++ flat_map (cycle_word w s) ts) (codes "\n") newline

pub cycles-ends : (w : Work) (s : State) → EndsLine (cycles_text w s)
unfolding cycles_text
cycles-ends w s = EndsLine-flat_map (cycle_line w s) (cycle-line-ends w s) (cycles_of s)

count-ends : (word : List ℕ) (n : ℕ) → EndsLine (count_line word n)
count-ends word n = ends-behind (word ++ codes " " ++ decimal n) (codes "\n") newline

pub summary-ends : (es : List Entry) (s : State) → EndsLine (summary_of es s)
unfolding summary_of
summary-ends es s =
    let onto = λ (word : List ℕ) (n : ℕ) (more : List ℕ) (h : EndsLine more). EndsLine-append (count_line word n) more (count-ends word n) h in
    let n = count_by (λ (x : ThreadState). has_ended x.place) s.threads in
    let ended = count_line (codes "ended") n in
    let wills = count_line (codes "wills") (entries_of is_will es) ++ ended in
    let blocks = count_line (codes "blocks") (entries_of is_block es) ++ wills in
    let wakes = count_line (codes "wakes") (entries_of is_wake es) ++ blocks in
    let preempts = count_line (codes "preempts") (entries_of is_preempt es) ++ wakes in
    let steals = count_line (codes "steals") (entries_of is_steal es) ++ preempts in
    let dispatches = count_line (codes "dispatches") (entries_of is_dispatch es) ++ steals in
    let idle = count_line (codes "idle") (entries_of is_idle es) ++ dispatches in
    let ticked = count_line (codes "ticks") (entries_of ticks es) ++ idle in
    let entries = count_line (codes "entries") (length es) ++ ticked in
    onto (codes "entries") (length es) ticked (onto (codes "ticks") (entries_of ticks es) idle (onto (codes "idle") (entries_of is_idle es) dispatches (onto (codes "dispatches") (entries_of is_dispatch es) steals (onto (codes "steals") (entries_of is_steal es) preempts (onto (codes "preempts") (entries_of is_preempt es) wakes (onto (codes "wakes") (entries_of is_wake es) blocks (onto (codes "blocks") (entries_of is_block es) wills (onto (codes "wills") (entries_of is_will es) ended (count-ends (codes "ended") n)))))))))

-- ---- tables

block-closes : (name table : List ℕ) → Closes (block_text name table)
block-closes name table =
    closes-behind (codes "table ") (name ++ (codes "\n" ++ (table ++ codes "end\n")))
    (closes-behind name (codes "\n" ++ (table ++ codes "end\n"))
    (closes-behind (codes "\n") (table ++ codes "end\n") (closes-behind table (codes "end\n") (λ o. refl))))

pub tables-ends : (w : Work) → EndsLine (tables_text w)
unfolding tables_text
tables-ends w =
    let fx = block_text (codes "fx") (fixed_text w.fx) in
    let rt = block_text (codes "rt") (fixed_text w.rt) in
    ends-behind (block_text (codes "ts") (ts_text w.ts)) (fx ++ rt) (closes-behind fx rt (block-closes (codes "rt") (fixed_text w.rt)))

-- ---- generated workloads

number-ends : (word : List ℕ) (n : ℕ) → EndsLine (number_line word n)
number-ends word n = ends-behind (word ++ decimal n) (codes "\n") newline

locks-ends : EndsLine locks_text
locks-ends =
    EndsLine-append (flat_map (number_line (codes "mutex m")) (range_with_len 0 16)) (flat_map (number_line (codes "rwlock w")) (range_with_len 0 4))
    (EndsLine-flat_map (number_line (codes "mutex m")) (number-ends (codes "mutex m")) (range_with_len 0 16))
    (EndsLine-flat_map (number_line (codes "rwlock w")) (number-ends (codes "rwlock w")) (range_with_len 0 4))

-- a text that is drawn
abbrev Ends : Drawn → Type 0
Ends d = EndsLine d.0

then-ends : (d : Drawn) (more : Lcg → Drawn) → Ends d → ((g : Lcg) → Ends (more g)) → Ends (then_drawn d more)
then-ends d more h k = EndsLine-append d.0 (more d.1).0 h (k d.1)

from-ends : (text : ℕ → Lcg → Drawn) → ((i : ℕ) (g : Lcg) → Ends (text i g)) → (k i : ℕ) (g : Lcg) → Ends (drawn_from text k i g)
unfolding drawn_from
from-ends text each zero i g = refl
from-ends text each (suc k) i g = then-ends (text i g) (drawn_from text k (i + 1)) (each i g) (λ h. from-ends text each k (i + 1) h)

thread_text-ends : (i class p one_of_eight : ℕ) → EndsLine (thread_text i class p one_of_eight)
thread_text-ends i class p one_of_eight =
    ends-behind (codes "thread t" ++ decimal i) (class_text class p ++ (set_text one_of_eight ++ codes "\n"))
    (closes-behind (class_text class p) (set_text one_of_eight ++ codes "\n") (closes-behind (set_text one_of_eight) (codes "\n") newline))

thread-ends : (i : ℕ) (g : Lcg) → Ends (thread_drawn i g)
unfolding thread_drawn
thread-ends i g = thread_text-ends i (drawn 10 g).0 _ _

lock-closes : (word lock : List ℕ) (a : ℕ) → Closes (lock_line word lock a)
lock-closes word lock a =
    closes-behind word (lock ++ (decimal a ++ codes "\n")) (closes-behind lock (decimal a ++ codes "\n") (closes-behind (decimal a) (codes "\n") newline))

lock-ends : (word lock : List ℕ) (a : ℕ) → EndsLine (lock_line word lock a)
lock-ends word lock a = closed (lock_line word lock a) (lock-closes word lock a)

locked-ends : (word lock : List ℕ) (a : ℕ) → EndsLine (locked_text word lock a)
locked-ends word lock a =
    EndsLine-append (lock_line word lock a) (codes "run 1\n" ++ lock_line (codes "exit ") lock a) (lock-ends word lock a)
    (EndsLine-append (codes "run 1\n") (lock_line (codes "exit ") lock a) refl (lock-ends (codes "exit ") lock a))

nested-ends : (a b : ℕ) → EndsLine (nested_text a b)
nested-ends a b =
    let m = codes "m" in
    let last = lock_line (codes "exit ") m a in
    let exits = lock_line (codes "exit ") m b ++ last in
    let inside = codes "run 2\n" ++ exits in
    EndsLine-append (lock_line (codes "enter ") m a) (lock_line (codes "enter ") m b ++ inside) (lock-ends (codes "enter ") m a)
    (EndsLine-append (lock_line (codes "enter ") m b) inside (lock-ends (codes "enter ") m b)
    (EndsLine-append (codes "run 2\n") exits refl (EndsLine-append (lock_line (codes "exit ") m b) last (lock-ends (codes "exit ") m b) (lock-ends (codes "exit ") m a))))

part-ends : (kind : ℕ) (g : Lcg) → Ends (part kind g)
unfolding part
part-ends kind g =
    let last = cond (eqb kind 3) (write_part g) (nap_part g) in
    let reads = cond (eqb kind 2) (read_part g) last in
    let inner = drawn 15 g in
    either Ends (eqb kind 0) (mutex_part g) (cond (eqb kind 1) (nested_part g) reads) (locked-ends (codes "enter ") (codes "m") (drawn 16 g).0)
    (either Ends (eqb kind 1) (nested_part g) reads (nested-ends inner.0 (inner.0 + 1 + (drawn (15 - inner.0) inner.1).0))
    (either Ends (eqb kind 2) (read_part g) last (locked-ends (codes "read ") (codes "w") (drawn 4 g).0)
    (either Ends (eqb kind 3) (write_part g) (nap_part g) (locked-ends (codes "write ") (codes "w") (drawn 4 g).0) (number-ends (codes "nap ") ((drawn 50 g).0 + 1)))))

round-ends : (g : Lcg) → Ends (round_text g)
unfolding round_text
round-ends g =
    EndsLine-append (number_line (codes "run ") ((drawn 100 g).0 + 1)) (part_drawn (drawn 100 g).1).0
    (number-ends (codes "run ") ((drawn 100 g).0 + 1)) (part-ends (drawn 5 (drawn 100 g).1).0 (drawn 5 (drawn 100 g).1).1)

-- the rounds of a script, from the last to the first
abbrev third : Lcg → Drawn
third g = then_drawn (round_text g) end_text

abbrev second : Lcg → Drawn
second g = then_drawn (round_text g) third

abbrev rounds : Lcg → Drawn
rounds g = then_drawn (round_text g) second

third-ends : (g : Lcg) → Ends (third g)
third-ends g = then-ends (round_text g) end_text (round-ends g) (λ h. refl)

second-ends : (g : Lcg) → Ends (second g)
second-ends g = then-ends (round_text g) third (round-ends g) third-ends

rounds-ends : (g : Lcg) → Ends (rounds g)
rounds-ends g = then-ends (round_text g) second (round-ends g) second-ends

script-ends : (i : ℕ) (g : Lcg) → Ends (script_text i g)
unfolding script_text
script-ends i g =
    EndsLine-append (number_line (codes "script t") i) (rounds g).0 (number-ends (codes "script t") i) (rounds-ends g)

pub generated-ends : (n : ℕ) → EndsLine (generated n)
unfolding generated
generated-ends n =
    let drawn_lines = (drawn_text (first_generator n)).0 in
    EndsLine-append head_text (locks_text ++ drawn_lines) refl
    (EndsLine-append locks_text drawn_lines locks-ends
    (then-ends (drawn_from thread_drawn 200 0 (first_generator n)) (drawn_from script_text 200 0)
    (from-ends thread_drawn thread-ends 200 0 (first_generator n)) (from-ends script_text script-ends 200 0)))
