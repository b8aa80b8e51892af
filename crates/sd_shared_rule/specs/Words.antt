-- The words of the table, and what each of them says.
-- Source: this project's own; that a dispatch queue has a lock of its own, and that a thread knows the lock of the queue on which it
-- stands, is as in Solaris Internals (the thread lock).
use Rattle.std.specs.Prelude.{ℕ, ◌+◌, ◌*◌, List, length, ◌==◌, nat_lt, if◌then◌else◌, slice_index}
use Rattle.sd_types.specs.declared.events.Which.{Which}
use Rattle.sd_types.specs.declared.events.Which.TheVariants.{Running, Queued}
use Rattle.sd_types.specs.declared.works.Work.{Work}
use Rattle.sd_shared_rule.specs.Places.{home_count}

-- In this order: a lock for each home, which is 0 or the number of its holder plus 1; the stamp, which is the number of entries so far;
-- for each thread the index of a home; two hints for each processor, of who runs and of who is queued; for each processor its count.

abbrev pub thread_count : Work → ℕ
thread_count w = length w.threads

abbrev pub word_count : Work → ℕ
word_count w = home_count w + 1 + thread_count w + 3 * w.cpus

abbrev pub thread_word : Work → ℕ → ℕ
thread_word w t = home_count w + 1 + t

abbrev pub which_word : Which → ℕ
which_word Running = 0
which_word Queued = 1

abbrev pub hint_word : Work → ℕ → Which → ℕ
hint_word w c which = home_count w + 1 + thread_count w + 2 * c + which_word which

abbrev pub tick_word : Work → ℕ → ℕ
tick_word w c = home_count w + 1 + thread_count w + 2 * w.cpus + c

-- the words as functions, which say 0 of what is not there

unfoldable pub lock_of : Work → List ℕ → ℕ → ℕ
lock_of w ws k = if nat_lt k (home_count w) then slice_index ws k else 0

unfoldable pub word_of : Work → List ℕ → ℕ → ℕ
word_of w ws t = if nat_lt t (thread_count w) then slice_index ws (thread_word w t) else 0

unfoldable pub hint_at : Work → List ℕ → ℕ → ℕ
hint_at w ws i = if nat_lt i (2 * w.cpus) then slice_index ws (home_count w + 1 + thread_count w + i) else 0

unfoldable pub tick_of : Work → List ℕ → ℕ → ℕ
tick_of w ws c = slice_index ws (tick_word w c)

-- a function with one value changed
unfoldable pub put : {A : Type 0} → (ℕ → A) → ℕ → A → ℕ → A
put f k x j = if j == k then x else f j
