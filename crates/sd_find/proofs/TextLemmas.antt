-- What is said of a search are whole lines.
use Rattle.std.proofs.Common.{◌≡◌, ℕ, Bool, true, false, List, [], ◌++◌, length, Option, None, Some, refl, sym, subst, ◌∙◌, inl, inr}
use Rattle.std.specs.Prelude.{codes, decimal, if◌then◌else◌, nat_le}
use Rattle.std.specs.List.{range_with_len}
use Rattle.sd_types.specs.declared.numbers.ThreadId.{ThreadId}
use Rattle.sd_types.specs.declared.events.Entry.{Entry}
use Rattle.sd_types.specs.declared.works.Work.{Work}
use Rattle.sd_text.specs.Lines.{EndsLine}
use Rattle.sd_text.proofs.PieceLemmas.{EndsLine-append, EndsLine-flat_map}
use Rattle.sd_state.specs.declared.states.State.{State}
use Rattle.sd_state.specs.Opening.{opening}
use Rattle.sd_state.specs.States.{thread_of}
use Rattle.sd_state.specs.Texts.{accounts_text, thread_name}
use Rattle.sd_machine.specs.Runs.{final}
use Rattle.sd_machine.specs.Texts.{cycles_text, entries_text, entry_text, event_text, hints_text, journal}
use Rattle.sd_search.specs.declared.findings.Finding.{Finding}
use Rattle.sd_search.specs.declared.findings.Finding.TheVariants.{Found, Never, More}
use Rattle.sd_search.specs.declared.questions.Question.{Question}
use Rattle.sd_search.specs.declared.questions.Question.TheVariants.{Blocked, Stuck}
use Rattle.sd_search.specs.Graphs.{packed}
use Rattle.sd_search.specs.Questions.{is_left}
use Rattle.sd_extremes.specs.declared.ends.Ending.{Ending}
use Rattle.sd_longest.specs.declared.latency.Longest.{Longest}
use Rattle.sd_longest.specs.declared.latency.Longest.TheVariants as longest
use Rattle.sd_answers.proofs.EndLemmas.{Closes, closes-behind, ends-behind}
use Rattle.sd_program.proofs.ClosingLemmas.{accounts-ends, cycles-ends, newline}
use Rattle.sd_search_answers.specs.declared.forms.Aim.{Aim}
use Rattle.sd_search_answers.specs.declared.forms.Aim.TheVariants.{Find, Count, Ends, Waits}
use Rattle.sd_search_answers.specs.declared.timings.Timing.{Timing}
use Rattle.sd_search_answers.specs.declared.timings.Timing.TheVariants as timing
use Rattle.sd_search_answers.specs.declared.verdicts.Told.{Told}
use Rattle.sd_search_answers.specs.declared.verdicts.Verdict.TheVariants.{NoThread}
use Rattle.sd_search_answers.specs.Answered.{IsTimedByName, IsTold, IsWaitedByName}
use Rattle.sd_search_answers.specs.Lefts.{left_line, lefts_text, line_if_left, place_words}
use Rattle.sd_search_answers.specs.Texts.{all_line, count_text, earliest_head, entries_line, finding_text, found_head, latest_head, left_text, longest_text, states_line, thread_line, tick_line, timing_text, wait_head}
use Rattle.sd_find.specs.Progress.{progress_line}

-- ---- the journal

entry-ends : (w : Work) (e : Entry) → EndsLine (entry_text w e)
unfolding entry_text
entry-ends w e =
    ends-behind (decimal e.number ++ codes " c" ++ decimal e.cpu.0 ++ codes " " ++ event_text w e.event ++ hints_text e.hints) (codes "\n") newline

journal-ends : (w : Work) (es : List Entry) → EndsLine (journal w es)
unfolding journal entries_text
journal-ends w es =
    let s = final w (opening w) es in
    EndsLine-append (entries_text w es) (accounts_text w es s ++ cycles_text w s) (EndsLine-flat_map (entry_text w) (entry-ends w) es)
    (EndsLine-append (accounts_text w es s) (cycles_text w s) (accounts-ends w es s) (cycles-ends w s))

-- ---- what stands in front of it

states-closes : (n : ℕ) → Closes (states_line n)
states-closes n = closes-behind (codes "states ") (decimal n ++ codes "\n") (closes-behind (decimal n) (codes "\n") newline)

left_line-ends : (w : Work) (s : State) (t : ℕ) → EndsLine (left_line w s t)
unfolding left_line
left_line-ends w s t = ends-behind (codes "thread " ++ thread_name w t ++ place_words w s t (thread_of s t).place) (codes "\n") newline

line_if-ends : (w : Work) (s : State) (t : ℕ) → EndsLine (line_if_left w s t)
unfolding line_if_left
line_if-ends w s t = by (is_left w t (thread_of s t))
  where
    by : (b : Bool) → EndsLine (if b then left_line w s t else [])
    by true = left_line-ends w s t
    by false = refl

left-ends : (w : Work) (q : Question) (s : State) → EndsLine (left_text w q s)
unfolding lefts_text
left-ends w Blocked s = refl
left-ends w Stuck s =
    EndsLine-flat_map (line_if_left w s) (line_if-ends w s) (range_with_len 0 (length s.threads))

head-ends : (w : Work) (q : Question) (es : List Entry) (n : ℕ) → EndsLine (found_head w q es n)
head-ends w q es n =
    let s = final w (opening w) es in
    EndsLine-append (codes "found\n") (left_text w q s ++ states_line n) refl (EndsLine-append (left_text w q s) (states_line n) (left-ends w q s) (states-closes n (Some 10)))

finding-ends : (w : Work) (q : Question) (f : Finding) (n : ℕ) → EndsLine (finding_text w q f n)
finding-ends w q (Found es) n = EndsLine-append (found_head w q es.items n) (journal w es.items) (head-ends w q es.items n) (journal-ends w es.items)
finding-ends w q Never n = ends-behind (codes "never\n") (states_line n) (states-closes n)
finding-ends w q More n = ends-behind (codes "not all searched\n") (states_line n) (states-closes n)

entries-closes : (most : Option ℕ) → Closes (codes "\n" ++ entries_line most)
entries-closes None = newline
entries-closes (Some k) =
    let number = decimal k ++ codes "\n" in
    let words = codes "entries at most " in
    closes-behind (codes "\n") (words ++ number) (closes-behind words number (closes-behind (decimal k) (codes "\n") newline))

count-ends : (all : Bool) (n finals : ℕ) (most : Option ℕ) → EndsLine (count_text all n finals most)
count-ends all n finals most =
    let rest = codes "\n" ++ entries_line most in
    let last = codes "final " ++ (decimal finals ++ rest) in
    ends-behind (all_line all) (states_line n ++ last)
    (closes-behind (states_line n) last (closes-behind (codes "final ") (decimal finals ++ rest) (closes-behind (decimal finals) rest (entries-closes most))))

-- ---- when a thread ends

tick-closes : (word : List ℕ) (tick : ℕ) → Closes (tick_line word tick)
tick-closes word tick = closes-behind word (decimal tick ++ codes "\n") (closes-behind (decimal tick) (codes "\n") newline)

ending-ends : (w : Work) (word : List ℕ) (e : Ending) → EndsLine (tick_line word e.tick ++ journal w e.entries.items)
ending-ends w word e = EndsLine-append (tick_line word e.tick) (journal w e.entries.items) (tick-closes word e.tick (Some 10)) (journal-ends w e.entries.items)

earliest-ends : (w : Work) (t : ThreadId) (in_every : Bool) (earliest : Ending) (n : ℕ) → EndsLine (earliest_head w t in_every earliest n)
earliest-ends w t in_every earliest n =
    let tick = tick_line (codes "earliest ") earliest.tick in
    ends-behind (codes "found\n") (thread_line w t in_every ++ (states_line n ++ tick))
    (closes-behind (thread_line w t in_every) (states_line n ++ tick) (closes-behind (states_line n) tick (tick-closes (codes "earliest ") earliest.tick)))

timing-ends : (w : Work) (t : ThreadId) (x : Timing) (n : ℕ) → EndsLine (timing_text w t x n)
timing-ends w t (timing.Between earliest latest in_every) n =
    let first = journal w earliest.entries.items in
    let last = latest_head latest ++ journal w latest.entries.items in
    EndsLine-append (earliest_head w t in_every earliest n) (first ++ last) (earliest-ends w t in_every earliest n)
    (EndsLine-append first last (journal-ends w earliest.entries.items) (ending-ends w (codes "latest ") latest))
timing-ends w t timing.Never n = ends-behind (codes "never\n") (states_line n) (states-closes n)
timing-ends w t timing.More n = ends-behind (codes "not all searched\n") (states_line n) (states-closes n)

-- ---- how long it waits

wait_head-ends : (ticks n : ℕ) → EndsLine (wait_head ticks n)
wait_head-ends ticks n =
    let line = tick_line (codes "longest ") ticks in
    ends-behind (codes "found\n") (line ++ states_line n) (closes-behind line (states_line n) (states-closes n))

longest-ends : (w : Work) (x : Longest) (n : ℕ) → EndsLine (longest_text w x n)
longest-ends w (longest.Wait ticks es) n = EndsLine-append (wait_head ticks n) (journal w es.items) (wait_head-ends ticks n) (journal-ends w es.items)
longest-ends w longest.Never n = ends-behind (codes "never\n") (states_line n) (states-closes n)
longest-ends w longest.More n = ends-behind (codes "not all searched\n") (states_line n) (states-closes n)

-- ---- by the name of the thread

timed-ends : (w : Work) (name : List ℕ) (most : ℕ) (told : Told) → IsTimedByName w name most told → EndsLine told.text.items
timed-ends w name most told (inl (t, named, is)) = subst EndsLine (sym is.written) (timing-ends w t is.timing (length (packed is.graph)))
timed-ends w name most told (inr none) = subst EndsLine (sym none.empty) refl

waited-ends : (w : Work) (name : List ℕ) (most : ℕ) (told : Told) → IsWaitedByName w name most told → EndsLine told.text.items
waited-ends w name most told (inl (t, named, is)) = subst EndsLine (sym is.written) (longest-ends w is.longest (length (packed is.graph)))
waited-ends w name most told (inr none) = subst EndsLine (sym none.empty) refl

pub told-ends : (w : Work) (aim : Aim) (most : ℕ) (told : Told) → IsTold w aim most told → EndsLine told.text.items
told-ends w (Find q) most told is = subst EndsLine (sym is.written) (finding-ends w q is.finding (length (packed is.graph)))
told-ends w Count most told is =
    subst EndsLine (sym is.written) (count-ends (nat_le (length (packed is.graph)) is.graph.done) (length (packed is.graph)) (length is.finals) is.entries)
told-ends w (Ends name) most told is = timed-ends w name.items most told is
told-ends w (Waits name) most told is = waited-ends w name.items most told is

-- ---- something is said, but where no thread has the name

finding-speaks : (w : Work) (q : Question) (f : Finding) (n : ℕ) → finding_text w q f n ≡ [] → ⊥
finding-speaks w q (Found es) n e = cc
finding-speaks w q Never n e = cc
finding-speaks w q More n e = cc

count-speaks : (all : Bool) (n finals : ℕ) (most : Option ℕ) → count_text all n finals most ≡ [] → ⊥
count-speaks true n finals most e = cc
count-speaks false n finals most e = cc

timing-speaks : (w : Work) (t : ThreadId) (x : Timing) (n : ℕ) → timing_text w t x n ≡ [] → ⊥
timing-speaks w t (timing.Between earliest latest in_every) n e = cc
timing-speaks w t timing.Never n e = cc
timing-speaks w t timing.More n e = cc

longest-speaks : (w : Work) (x : Longest) (n : ℕ) → longest_text w x n ≡ [] → ⊥
longest-speaks w (longest.Wait ticks es) n e = cc
longest-speaks w longest.Never n e = cc
longest-speaks w longest.More n e = cc

-- where nothing is said no thread has the name
pub silent_verdict : (w : Work) (aim : Aim) (most : ℕ) (told : Told) → IsTold w aim most told → told.text.items ≡ [] → told.verdict ≡ NoThread
silent_verdict w (Find q) most told is none = absurd (finding-speaks w q is.finding (length (packed is.graph)) (sym is.written ∙ none))
silent_verdict w Count most told is none =
    absurd (count-speaks (nat_le (length (packed is.graph)) is.graph.done) (length (packed is.graph)) (length is.finals) is.entries (sym is.written ∙ none))
silent_verdict w (Ends name) most told (inl (t, named, is)) none = absurd (timing-speaks w t is.timing (length (packed is.graph)) (sym is.written ∙ none))
silent_verdict w (Ends name) most told (inr unnamed) none = unnamed.verdict
silent_verdict w (Waits name) most told (inl (t, named, is)) none = absurd (longest-speaks w is.longest (length (packed is.graph)) (sym is.written ∙ none))
silent_verdict w (Waits name) most told (inr unnamed) none = unnamed.verdict

-- ---- how far a search has come

pub progress-ends : (states depth : ℕ) → EndsLine (progress_line states depth)
progress-ends states depth =
    let last = decimal depth ++ codes "\n" in
    let words = codes " depth " in
    ends-behind (codes "states ") (decimal states ++ (words ++ last))
    (closes-behind (decimal states) (words ++ last) (closes-behind words last (closes-behind (decimal depth) (codes "\n") newline)))
