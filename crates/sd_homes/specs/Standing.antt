-- In which list of which home a thread stands, and when a list of records is the list of the threads that stand there.
-- Source: Solaris Internals (dispatch queues, sleep queues, turnstiles); that chains have locks and channels of one residue
-- modulo 64, and that a thread which has ended stays with the processor on which it ran last, are this project's own.
use Rattle.std.specs.Prelude.{◌≡◌, ◌≢◌, ℕ, ◌+◌, ◌%◌, ℤ, pos, negsuc, Bool, true, false, ◌&&◌, ◌==◌, ◌⊎◌, nat_lt, nat_le, int_le, min, List, [], ◌∷◌, Option, Some, None, is_none, if◌then◌else◌, slice_get, ⊤}
use Rattle.sd_types.specs.declared.numbers.CpuId.{CpuId}
use Rattle.sd_types.specs.declared.numbers.HomeId.{HomeId}
use Rattle.sd_types.specs.declared.numbers.HomeId.TheVariants as home
use Rattle.sd_types.specs.Priorities.{eff}
use Rattle.sd_machine.specs.Threads.{is_ts}
use Rattle.sd_boxq.specs.Order.{find_id, insert_ranked, insert_keyed, IsKeyed}
use Rattle.sd_record.specs.Records.{ThreadRecord}
use Rattle.sd_state.specs.declared.states.Place.{Place}
use Rattle.sd_state.specs.declared.states.Place.TheVariants.{Running, Queued, RealTime, Waiting, Asleep, Napping, Ended}
use Rattle.sd_state.specs.declared.states.ThreadState.{ThreadState}
use Rattle.sd_state.specs.declared.states.State.{State}
use Rattle.sd_state.specs.States.{key_of, is_running, is_queued, is_real_time, first_back_key}
use Rattle.sd_machine.specs.Threads.{is_waiting_at, is_asleep, has_ended}
use Rattle.sd_homes.specs.declared.list_id.ListId.{ListId}
use Rattle.sd_homes.specs.declared.list_id.ListId.TheVariants.{Runs, Queues, Urgent, Waits, Sleeps, Naps, Ends}
use Rattle.sd_homes.specs.Lists.{IdsDiffer, IsKeyAfter, IsQueue}

abbrev pub list_at : CpuId → Place → ListId
list_at last (Running c) = Runs c
list_at last (Queued c k) = Queues c
list_at last (RealTime p k) = Urgent p
list_at last (Waiting l side k) = Waits l side
list_at last (Asleep j k) = Sleeps j
list_at last (Napping c due) = Naps c
list_at last Ended = Ends last

abbrev pub list_of : ThreadState → ListId
list_of x = list_at x.body.last x.place

abbrev pub is_napping : ℕ → Place → Bool
is_napping c (Napping d due) = d.0 == c
is_napping c _ = false

-- a thread in this place, which ran last on this processor, stands there
abbrev pub stands_at : ListId → CpuId → Place → Bool
stands_at (Runs c) last place = is_running c.0 place
stands_at (Queues c) last place = is_queued c.0 place
stands_at (Urgent p) last place = is_real_time p.0 place
stands_at (Waits l side) last place = is_waiting_at l.0 side place
stands_at (Sleeps k) last place = is_asleep k.0 place
stands_at (Naps c) last place = is_napping c.0 place
stands_at (Ends c) last place = has_ended place && (last.0 == c.0)

abbrev pub stands : ListId → ThreadState → Bool
stands sp x = stands_at sp x.body.last x.place

-- the home of those who stand there
abbrev pub home_at : ListId → HomeId
home_at (Runs c) = home.Cpu c
home_at (Queues c) = home.Cpu c
home_at (Urgent p) = home.RealTime p
home_at (Waits l side) = home.Chain (l.0 % 64)
home_at (Sleeps k) = home.Sleepers (k.0 % 64)
home_at (Naps c) = home.Cpu c
home_at (Ends c) = home.Cpu c

-- the home of a place, and that in which a thread stands
abbrev pub home_of_place : Place → CpuId → HomeId
home_of_place place last = home_at (list_at last place)

abbrev pub home_of : ThreadState → HomeId
home_of x = home_of_place x.place x.body.last

-- Records.

-- the key of a record: that of its place, and for a napper the tick at which its nap ends
abbrev pub record_key : Place → ℤ
record_key (Napping c due) = pos due
record_key place = key_of place

abbrev pub record_of : ℕ → ThreadState → ThreadRecord
record_of t x = record { id = record { 0 = t }; body = x.body; key = record_key x.place }

abbrev pub id_of : ThreadRecord → ℕ
id_of r = r.id.0

abbrev pub rank_of : ThreadRecord → ℕ
rank_of r = eff r.body

abbrev pub key_in : ThreadRecord → ℤ
key_in r = r.key

-- The threads by number; one that moves is left out.

abbrev pub ByNumber : Type 0
ByNumber = ℕ → Option ThreadState

abbrev pub look_of : State → ByNumber
look_of s = slice_get s.threads

abbrev pub without : ℕ → ByNumber → ByNumber
without t look u = if u == t then None else look u

abbrev pub with_one : ℕ → ThreadState → ByNumber → ByNumber
with_one t x look u = if u == t then Some x else look u

abbrev pub listed : ListId → ℕ → Option ThreadState → Option ThreadRecord
listed sp t None = None
listed sp t (Some x) = if stands sp x then Some (record_of t x) else None

-- at most one, which ran there last
abbrev pub IsRunner : CpuId → List ThreadRecord → Type 0
IsRunner c [] = ⊤
IsRunner c (r ∷ []) = r.body.last ≡ c
IsRunner c (r ∷ (q ∷ rs)) = ⊥

-- in which order those stand who stand there
abbrev pub IsArranged : ℕ → ListId → List ThreadRecord → Type 0
IsArranged n (Queues c) rs = IsQueue rank_of key_in n rs
IsArranged n (Urgent p) rs = IsQueue rank_of key_in n rs
IsArranged n (Waits l side) rs = IsQueue rank_of key_in n rs
IsArranged n (Sleeps k) rs = IsQueue rank_of key_in n rs
IsArranged n (Naps c) rs = IsKeyed key_in id_of rs
IsArranged n (Runs c) rs = IsRunner c rs
IsArranged n (Ends c) rs = ⊤

-- the records are those of the threads that stand there after n entries, each once, in order
pub record Lists (n : ℕ) (sp : ListId) (rs : List ThreadRecord) (look : ByNumber) : Type 0 where
  pub each : (t : ℕ) → find_id id_of t rs ≡ listed sp t (look t)
  pub once : IdsDiffer id_of rs
  pub arranged : IsArranged n sp rs

-- the list with one more
abbrev pub insert_at : ListId → ThreadRecord → List ThreadRecord → List ThreadRecord
insert_at (Queues c) r rs = insert_ranked rank_of key_in r rs
insert_at (Urgent p) r rs = insert_ranked rank_of key_in r rs
insert_at (Waits l side) r rs = insert_ranked rank_of key_in r rs
insert_at (Sleeps k) r rs = insert_ranked rank_of key_in r rs
insert_at (Naps c) r rs = insert_keyed key_in id_of r rs
insert_at (Runs c) r rs = r ∷ []
insert_at (Ends c) r rs = r ∷ rs

-- no thread that stands there has this key
abbrev pub IsUnusedKey : ByNumber → ListId → ℤ → Type 0
IsUnusedKey look sp k = (u : ℕ) (y : ThreadState) → look u ≡ Some y → stands sp y ≡ true → record_key y.place ≢ k

-- a key that a thread may have that comes to a queue after n entries, and that there may be after m
pub record IsKeyFor (n m : ℕ) (look : ByNumber) (sp : ListId) (k : ℤ) : Type 0 where
  pub after : IsKeyAfter m k
  pub free : (k ≡ pos (first_back_key + n)) ⊎ ((k ≡ negsuc n) ⊎ IsUnusedKey look sp k)

-- the thread may come there
abbrev pub MayCome : ℕ → ℕ → ByNumber → ListId → ThreadState → Type 0
MayCome n m look (Queues c) y = IsKeyFor n m look (Queues c) (record_key y.place)
MayCome n m look (Urgent p) y = IsKeyFor n m look (Urgent p) (record_key y.place)
MayCome n m look (Waits l side) y = IsKeyFor n m look (Waits l side) (record_key y.place)
MayCome n m look (Sleeps j) y = IsKeyFor n m look (Sleeps j) (record_key y.place)
MayCome n m look (Runs c) y = (y.body.last ≡ c) × ((u : ℕ) (x : ThreadState) → look u ≡ Some x → stands (Runs c) x ≡ false)
MayCome n m look (Naps c) y = ⊤
MayCome n m look (Ends c) y = ⊤

-- the better of the best of a processor's own queue and the best of the real-time queue: the latter, where priorities are equal
abbrev pub better : Option ThreadRecord → Option ThreadRecord → Option ThreadRecord
better None o = o
better (Some r) None = Some r
better (Some r) (Some q) = if nat_lt (rank_of q) (rank_of r) then Some r else Some q

-- the first of those who nap, if its nap is over at this count
abbrev pub due_front : ℕ → List ThreadRecord → Option ThreadRecord
due_front count [] = None
due_front count (r ∷ rs) = if int_le r.key (pos count) then Some r else None

-- a time-sharing thread of this number or a greater one
abbrev pub ages : ℕ → ThreadRecord → Bool
ages u r = nat_le u (id_of r) && is_ts r.body.class

abbrev pub earlier : ℕ → Option ℕ → ℕ
earlier n None = n
earlier n (Some m) = min n m

-- the least number of those
abbrev pub least_to_age : ℕ → List ThreadRecord → Option ℕ
least_to_age u [] = None
least_to_age u (r ∷ rs) = if ages u r then Some (earlier (id_of r) (least_to_age u rs)) else least_to_age u rs

-- bound to no processor
abbrev pub is_unbound : ThreadRecord → Bool
is_unbound r = is_none r.body.bound

-- the same of the first alone
abbrev pub due_of_first : ℕ → Option ThreadRecord → Option ThreadRecord
due_of_first count None = None
due_of_first count (Some r) = if int_le r.key (pos count) then Some r else None
