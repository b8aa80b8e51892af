-- What the lists show of a state: who runs, who is the best there, who naps least.
use Rattle.std.proofs.Common.{◌≡◌, ℕ, ◌<◌, ℤ, Bool, true, false, ◌==◌, ◌&&◌, ◌||◌, nat_lt, int_lt, List, [], ◌∷◌, length, get_or, Option, Some, None, is_none, option_map, position, slice_get, refl, ap, ◌∙◌, arith}
use Rattle.std.proofs.lemmas.Bool.{eq-eqb, false_from_ne_true}
use Rattle.std.proofs.lemmas.Option.{slice_get-get_or, slice_get_within, get_or_from_slice_get}
use Rattle.sd_types.specs.declared.numbers.CpuId.{CpuId}
use Rattle.sd_types.specs.declared.numbers.ChanId.{ChanId}
use Rattle.sd_types.specs.declared.numbers.LockId.{LockId}
use Rattle.sd_types.specs.declared.numbers.Side.{Side}
use Rattle.sd_boxq.specs.Order.{find_id, find_first, find_below}
use Rattle.sd_record.specs.Records.{ThreadRecord}
use Rattle.sd_state.specs.declared.states.Place.{Place}
use Rattle.sd_state.specs.declared.states.Place.TheVariants.{Queued, Waiting, Asleep}
use Rattle.sd_state.specs.declared.states.State.{State}
use Rattle.sd_state.specs.Best.{goes_before, queue_rank, beats}
use Rattle.sd_state.specs.States.{key_of, is_running, no_thread}
use Rattle.sd_state.proofs.BestLemmas.{position_is, position_none}
use Rattle.sd_types.specs.Priorities.{eff}
use Rattle.sd_machine.specs.Threads.{runner, best_queued, best_unbound, best_waiter, best_sleeper, best_sleeper_below, is_asleep, is_asleep_below}
use Rattle.sd_homes.specs.declared.list_id.ListId.TheVariants.{Runs, Queues, Waits, Sleeps}
use Rattle.sd_homes.specs.Standing.{stands, stands_at, is_unbound, record_key, record_of, id_of, key_in, look_of, Lists}
use Rattle.sd_homes.proofs.StandingLemmas.{stood, shown}
use Rattle.sd_homes.proofs.BestShown.{IsOrderThere, best_shown}

-- ---- the order of those on one queue
order_queued : (c last last' : CpuId) (p q : ℕ) (a b : Place) → stands_at (Queues c) last a ≡ true → stands_at (Queues c) last' b ≡ true
    → goes_before p (queue_rank a) (key_of a) q (queue_rank b) (key_of b) ≡ (nat_lt q p || ((p == q) && int_lt (record_key a) (record_key b)))
order_queued c last last' p q (Queued d k) (Queued e j) on on' = refl
order_queued c last last' p q _ _ on on' = absurd cc

order_waiting : (l : LockId) (side : Side) (last last' : CpuId) (p q : ℕ) (a b : Place) → stands_at (Waits l side) last a ≡ true → stands_at (Waits l side) last' b ≡ true
    → goes_before p (queue_rank a) (key_of a) q (queue_rank b) (key_of b) ≡ (nat_lt q p || ((p == q) && int_lt (record_key a) (record_key b)))
order_waiting l side last last' p q (Waiting m s k) (Waiting o r j) on on' = refl
order_waiting l side last last' p q _ _ on on' = absurd cc

order_asleep : (h : ChanId) (last last' : CpuId) (p q : ℕ) (a b : Place) → stands_at (Sleeps h) last a ≡ true → stands_at (Sleeps h) last' b ≡ true
    → goes_before p (queue_rank a) (key_of a) q (queue_rank b) (key_of b) ≡ (nat_lt q p || ((p == q) && int_lt (record_key a) (record_key b)))
order_asleep h last last' p q (Asleep m k) (Asleep o j) on on' = refl
order_asleep h last last' p q _ _ on on' = absurd cc

pub queues_order : (c : CpuId) → IsOrderThere (Queues c) beats
queues_order c t u x y on on' = order_queued c x.body.last y.body.last (eff x.body) (eff y.body) x.place y.place on on'

pub waits_order : (l : LockId) (side : Side) → IsOrderThere (Waits l side) beats
waits_order l side t u x y on on' = order_waiting l side x.body.last y.body.last (eff x.body) (eff y.body) x.place y.place on on'

pub sleeps_order : (k : ChanId) → IsOrderThere (Sleeps k) beats
sleeps_order k t u x y on on' = order_asleep k x.body.last y.body.last (eff x.body) (eff y.body) x.place y.place on on'

-- ---- all of them
pub and_true : (b : Bool) → b ≡ (b && true)
and_true true = refl
and_true false = refl

pub first_of_all : (rs : List ThreadRecord) → find_first (λ r. true) rs ≡ slice_get rs 0
first_of_all [] = refl
first_of_all (r ∷ rs) = refl

-- ---- the one that runs
runs_shown : (n : ℕ) (s : State) (c : CpuId) (rs : List ThreadRecord) (o : Option ThreadRecord) → Lists n (Runs c) rs (look_of s)
    → ((t : ℕ) (r : ThreadRecord) → find_id id_of t rs ≡ Some r → o ≡ Some r) → ((r : ThreadRecord) → o ≡ Some r → find_id id_of (id_of r) rs ≡ Some r)
    → position (λ x. is_running c.0 x.place) s.threads ≡ option_map id_of o
runs_shown n s c rs None l all one =
    position_none (λ x. is_running c.0 x.place) s.threads no_thread
    (λ k h. false_from_ne_true (is_running c.0 (get_or s.threads k no_thread).place) (λ on.
    let found = shown n (Runs c) rs (look_of s) k (get_or s.threads k no_thread) l (slice_get-get_or s.threads k no_thread h) on in
    let is : None ≡ Some (record_of k (get_or s.threads k no_thread)) = all k (record_of k (get_or s.threads k no_thread)) found in
    absurd cc))
runs_shown n s c rs (Some r) l all one =
    let st = stood n (Runs c) rs (look_of s) (id_of r) r l (one r refl) in
    let here : get_or s.threads (id_of r) no_thread ≡ st.thread = get_or_from_slice_get s.threads (id_of r) st.thread no_thread st.there in
    position_is (λ x. is_running c.0 x.place) s.threads (id_of r) no_thread (slice_get_within s.threads (id_of r) st.thread st.there)
    (rw here st.on)
    (λ k h. false_from_ne_true (is_running c.0 (get_or s.threads k no_thread).place) (λ on.
    let inside : k < length s.threads = (let w = slice_get_within s.threads (id_of r) st.thread st.there in omega arith) in
    let found = shown n (Runs c) rs (look_of s) k (get_or s.threads k no_thread) l (slice_get-get_or s.threads k no_thread inside) on in
    let is : Some r ≡ Some (record_of k (get_or s.threads k no_thread)) = all k (record_of k (get_or s.threads k no_thread)) found in
    let same : id_of r ≡ k = (let e : r ≡ record_of k (get_or s.threads k no_thread) = cc in ap id_of e) in
    omega arith))

pub runner_none : (n : ℕ) (s : State) (c : CpuId) → Lists n (Runs c) [] (look_of s) → runner s c.0 ≡ None
unfolding runner
runner_none n s c l = runs_shown n s c [] None l (λ t r e. absurd cc) (λ r e. absurd cc)

pub runner_some : (n : ℕ) (s : State) (c : CpuId) (r : ThreadRecord) → Lists n (Runs c) (r ∷ []) (look_of s) → runner s c.0 ≡ Some (id_of r)
unfolding runner
runner_some n s c r l = runs_shown n s c (r ∷ []) (Some r) l
    (λ t q e. by t q (id_of r == t) refl e)
    (λ q e. let same : r ≡ q = cc in rw (ap (λ z. id_of z == id_of q) same ∙ eq-eqb (id_of q) (id_of q) refl) e)
  where
    by : (t : ℕ) (q : ThreadRecord) (b : Bool) → (id_of r == t) ≡ b → find_id id_of t (r ∷ []) ≡ Some q → Some r ≡ Some q
    by t q true f e = rw f at e
    by t q false f e = let no = rw f at e in absurd cc

-- ---- the best of a queue
pub best_queued_shown : (n : ℕ) (s : State) (c : CpuId) (rs : List ThreadRecord) → Lists n (Queues c) rs (look_of s) → best_queued s c.0 ≡ option_map id_of (slice_get rs 0)
unfolding best_queued
best_queued_shown n s c rs l =
    best_shown n (Queues c) rs s.threads l l.arranged (λ r. true) (λ x. stands (Queues c) x) beats (λ t x. and_true (stands (Queues c) x)) (queues_order c)
    ∙ ap (option_map id_of) (first_of_all rs)

pub best_unbound_shown : (n : ℕ) (s : State) (c : CpuId) (rs : List ThreadRecord) → Lists n (Queues c) rs (look_of s) → best_unbound s c.0 ≡ option_map id_of (find_first is_unbound rs)
unfolding best_unbound
best_unbound_shown n s c rs l =
    best_shown n (Queues c) rs s.threads l l.arranged is_unbound (λ x. stands (Queues c) x && is_none x.body.bound) beats (λ t x. refl) (queues_order c)

pub best_waiter_shown : (n : ℕ) (s : State) (l : LockId) (side : Side) (rs : List ThreadRecord) → Lists n (Waits l side) rs (look_of s)
    → best_waiter s l.0 side ≡ option_map id_of (slice_get rs 0)
unfolding best_waiter
best_waiter_shown n s l side rs ls =
    best_shown n (Waits l side) rs s.threads ls ls.arranged (λ r. true) (λ x. stands (Waits l side) x) beats (λ t x. and_true (stands (Waits l side) x)) (waits_order l side)
    ∙ ap (option_map id_of) (first_of_all rs)

pub best_sleeper_shown : (n : ℕ) (s : State) (k : ChanId) (rs : List ThreadRecord) → Lists n (Sleeps k) rs (look_of s) → best_sleeper s k.0 ≡ option_map id_of (slice_get rs 0)
unfolding best_sleeper
best_sleeper_shown n s k rs l =
    best_shown n (Sleeps k) rs s.threads l l.arranged (λ r. true) (λ x. stands (Sleeps k) x) beats (λ t x. and_true (stands (Sleeps k) x)) (sleeps_order k)
    ∙ ap (option_map id_of) (first_of_all rs)

below_by : (k : ChanId) (below : ℤ) (place : Place) → is_asleep_below k.0 below place ≡ (is_asleep k.0 place && int_lt (record_key place) below)
below_by k below (Asleep j key) = refl
below_by k below _ = refl

pub best_sleeper_below_shown : (n : ℕ) (s : State) (k : ChanId) (below : ℤ) (rs : List ThreadRecord) → Lists n (Sleeps k) rs (look_of s)
    → best_sleeper_below s k.0 below ≡ option_map id_of (find_below key_in below rs)
unfolding best_sleeper_below
best_sleeper_below_shown n s k below rs l =
    best_shown n (Sleeps k) rs s.threads l l.arranged (λ r. int_lt (key_in r) below) (λ x. is_asleep_below k.0 below x.place) beats
    (λ t x. below_by k below x.place) (sleeps_order k)
