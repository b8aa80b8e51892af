-- A thread that a held home has stands in one of its lists, and so in a home that is held.
use Rattle.std.proofs.Common.{◌≡◌, ℕ, suc, ◌+◌, ◌*◌, ◌<◌, ◌/◌, ◌%◌, true, ◌||◌, ◌&&◌, ◌==◌, ◌⊎◌, is_some, inl, inr, List, [], ◌∷◌, length, get_or, Option, Some, None, refl, sym, ap, subst, arith}
use Rattle.std.specs.Option.{option_or}
use Rattle.std.proofs.lemmas.Bool.{eq-eqb, lt-ltb, or_cases}
use Rattle.std.specs.Prelude.{nat_lt}
use Rattle.sd_types.specs.declared.numbers.HomeId.TheVariants as id
use Rattle.sd_types.specs.declared.numbers.Side.{Side}
use Rattle.sd_types.specs.declared.numbers.Side.TheVariants.{Writer, Reader}
use Rattle.sd_boxq.specs.Order.{find_id}
use Rattle.sd_turnstile.specs.Waiters.{Waiters, find_among as find_waiter, nobody, on_side}
use Rattle.sd_sleepq.specs.Among.{find_among as find_sleeper}
use Rattle.sd_record.specs.Records.{ThreadRecord}
use Rattle.sd_state.specs.declared.states.State.{State}
use Rattle.sd_state.specs.States.{thread_of}
use Rattle.sd_homes.specs.Numbers.{IsHomeOf}
use Rattle.sd_homes.specs.declared.list_id.ListId.{ListId}
use Rattle.sd_homes.specs.declared.list_id.ListId.TheVariants.{Runs, Queues, Urgent, Waits, Sleeps, Naps, Ends}
use Rattle.sd_homes.specs.Standing.{home_at, home_of, id_of}
use Rattle.sd_homes.specs.declared.home.Home.{Home}
use Rattle.sd_homes.specs.declared.home.Home.TheVariants.{Cpu, RealTime, Chain, Sleepers}
use Rattle.sd_homes.specs.Homes.{is_chan_of, is_of, one}
use Rattle.sd_homes.specs.Kinds.{IsListed, has_id}
use Rattle.sd_homes.specs.Families.{has, home_id, list_in}
use Rattle.sd_hand.specs.Hands.{AreApart, IsHeld, IsIn, StandsIn, has_thread, held}
use Rattle.sd_hand.specs.Shown.{PartsShown, ShowsState}
use Rattle.sd_hand.proofs.MoveLemmas.{stands_at, stands_held}
use Rattle.sd_hand.proofs.SlotLemmas.{apart_held}

-- one of two is there
either_some : {A : Type 0} (o p : Option A) → is_some (option_or o p) ≡ true → (is_some o ≡ true) ⊎ (is_some p ≡ true)
either_some None p e = inr e
either_some (Some a) p e = inl refl

-- at which lock of a chain, and at which side of it
pub record WaitsAt (t : ℕ) (ws : List (Waiters ThreadRecord)) : Type 0 where
  pub index : ℕ
  pub side : Side
  pub inside : index < length ws
  pub here : has_id t (on_side (get_or ws index nobody) side) ≡ true

waits_at : (t : ℕ) (ws : List (Waiters ThreadRecord)) → is_some (find_waiter id_of t ws) ≡ true → WaitsAt t ws
waits_at t [] e = absurd cc
waits_at t (w ∷ ws) e = first (either_some (option_or (find_id id_of t w.writers) (find_id id_of t w.readers)) (find_waiter id_of t ws) e) (waits_at t ws)
  where
    sides : (is_some (find_id id_of t w.writers) ≡ true) ⊎ (is_some (find_id id_of t w.readers) ≡ true) → WaitsAt t (w ∷ ws)
    sides (inl f) = record { index = 0; side = Writer; inside = omega arith; here = f }
    sides (inr f) = record { index = 0; side = Reader; inside = omega arith; here = f }

    first : (is_some (option_or (find_id id_of t w.writers) (find_id id_of t w.readers)) ≡ true) ⊎ (is_some (find_waiter id_of t ws) ≡ true)
        → (is_some (find_waiter id_of t ws) ≡ true → WaitsAt t ws) → WaitsAt t (w ∷ ws)
    first (inl f) rest = sides (either_some (find_id id_of t w.writers) (find_id id_of t w.readers) f)
    first (inr f) rest = let at = rest f in let inside = at.inside in record { index = suc at.index; side = at.side; inside = omega (arith, inside); here = at.here }

-- on which channel of a chain
sleeps_at : (t : ℕ) (qs : List (List ThreadRecord)) → is_some (find_sleeper id_of t qs) ≡ true → (i : ℕ) × (i < length qs) × (has_id t (get_or qs i []) ≡ true)
sleeps_at t [] e = absurd cc
sleeps_at t (q ∷ qs) e = first (either_some (find_id id_of t q) (find_sleeper id_of t qs) e) (sleeps_at t qs)
  where
    first : (is_some (find_id id_of t q) ≡ true) ⊎ (is_some (find_sleeper id_of t qs) ≡ true) → (is_some (find_sleeper id_of t qs) ≡ true → (i : ℕ) × (i < length qs) × (has_id t (get_or qs i []) ≡ true))
        → (i : ℕ) × (i < length (q ∷ qs)) × (has_id t (get_or (q ∷ qs) i []) ≡ true)
    first (inl f) rest = (0, omega arith, f)
    first (inr f) rest = let (i, inside, here) = rest f in (suc i, omega (arith, inside), here)

-- the lists of a home
abbrev IsListedIn : ℕ → Home → Type 0
IsListedIn t h = (sp : ListId) × IsListed t (home_id h) (list_in h) (has t h) sp

-- a number of this residue modulo 64
numbered : (chain i : ℕ) → chain < 64 → i < 4 → (chain + 64 * i < 256) × ((chain + 64 * i) % 64 ≡ chain) × ((chain + 64 * i) / 64 ≡ i)
numbered chain i few less = (omega (arith, few, less), omega (arith, few, less), omega (arith, few, less))

is_numbered : (chain i : ℕ) → chain < 64 → i < 4 → (nat_lt (chain + 64 * i) 256 && (((chain + 64 * i) % 64) == chain)) ≡ true
is_numbered chain i few less = let (a, b, c) = numbered chain i few less in rw (lt-ltb (chain + 64 * i) 256 a, eq-eqb ((chain + 64 * i) % 64) chain b) refl

pub has_listed : (s : State) (t : ℕ) (h : Home) → PartsShown s h → IsHomeOf s (home_id h) → has t h ≡ true → (sp : ListId) × IsListed t (home_id h) (list_in h) (has t h) sp
has_listed s t (Cpu h) parts there e = by (or_cases (has_id t (one h.running)) _ e)
  where
    third : (has_id t h.nappers ≡ true) ⊎ (has_id t h.ended ≡ true) → IsListedIn t (Cpu h)
    third (inl f) = (Naps h.cpu, record { home = refl; found = f; there = e })
    third (inr f) = (Ends h.cpu, record { home = refl; found = f; there = e })

    second : (has_id t h.queue ≡ true) ⊎ ((has_id t h.nappers || has_id t h.ended) ≡ true) → IsListedIn t (Cpu h)
    second (inl f) = (Queues h.cpu, record { home = refl; found = f; there = e })
    second (inr f) = third (or_cases (has_id t h.nappers) (has_id t h.ended) f)

    by : (has_id t (one h.running) ≡ true) ⊎ ((has_id t h.queue || (has_id t h.nappers || has_id t h.ended)) ≡ true) → IsListedIn t (Cpu h)
    by (inl f) = (Runs h.cpu, record { home = refl; found = f; there = e })
    by (inr f) = second (or_cases (has_id t h.queue) (has_id t h.nappers || has_id t h.ended) f)
has_listed s t (RealTime h) parts there e = (Urgent h.set, record { home = refl; found = e; there = e })
has_listed s t (Chain h) parts there e =
    let at = waits_at t h.turnstiles.locks e in
    let few : at.index < 4 = subst (λ n. at.index < n) parts.0 at.inside in
    let l = h.turnstiles.chain + 64 * at.index in
    let (a, b, c) = numbered h.turnstiles.chain at.index there few in
    let own : is_of h.turnstiles l ≡ true = is_numbered h.turnstiles.chain at.index there few in
    let here : has_id t (on_side (get_or h.turnstiles.locks (l / 64) nobody) at.side) ≡ true = subst (λ n. has_id t (on_side (get_or h.turnstiles.locks n nobody) at.side) ≡ true) (sym c) at.here in
    (Waits (record { 0 = l }) at.side, record { home = ap id.Chain b; found = rw own here; there = e })
has_listed s t (Sleepers h) parts there e =
    let (i, inside, is) = sleeps_at t h.sleepers.queues e in
    let few : i < 4 = subst (λ n. i < n) parts.0 inside in
    let k = h.sleepers.chain + 64 * i in
    let (a, b, c) = numbered h.sleepers.chain i there few in
    let own : is_chan_of h.sleepers k ≡ true = is_numbered h.sleepers.chain i there few in
    let here : has_id t (get_or h.sleepers.queues (k / 64) []) ≡ true = subst (λ n. has_id t (get_or h.sleepers.queues n []) ≡ true) (sym c) is in
    (Sleeps (record { 0 = k }), record { home = ap id.Sleepers b; found = rw own here; there = e })

-- the home that has it
which_has : (t : ℕ) (hs : List (Option Home)) → has_thread t hs ≡ true → (h : Home) × IsIn h hs × (has t h ≡ true)
which_has t [] e = absurd cc
which_has t (None ∷ hs) e = which_has t hs e
which_has t (Some h ∷ hs) e = by (or_cases (has t h) (has_thread t hs) e) (which_has t hs)
  where
    by : (has t h ≡ true) ⊎ (has_thread t hs ≡ true) → (has_thread t hs ≡ true → (g : Home) × IsIn g hs × (has t g ≡ true)) → (g : Home) × IsIn g (Some h ∷ hs) × (has t g ≡ true)
    by (inl f) rest = (h, inl refl, f)
    by (inr f) rest = let (g, inside, is) = rest f in (g, inr inside, is)

-- a thread that homes of a state have is one of the state's, and the home in which it stands is one of them
pub home_held : (n : ℕ) (s : State) (t : ℕ) (hs : List (Option Home)) → AreApart hs → ShowsState n s hs → ((h : Home) → IsHeld (home_id h) hs → IsHomeOf s (home_id h)) → has_thread t hs ≡ true
    → (t < length s.threads) × IsHeld (home_of (thread_of s t)) hs
home_held n s t hs apart shows only e =
    let (h, inside, is) = which_has t hs e in
    let own : held (home_id h) hs ≡ Some h = apart_held h hs apart inside in
    let (sp, listed) = has_listed s t h (shows (home_id h) h own).parts (only h (h, own)) is in
    let stands : StandsIn t hs sp = record { home = h; inside = inside; listed = listed } in
    let at = stands_at n s t sp hs apart shows stands in
    (at.inside, subst (λ k. IsHeld k hs) (ap home_at (sym at.list)) (stands_held t sp hs apart stands))
