-- What homes keep beside their threads changes, and the state with it.
use Rattle.std.proofs.Common.{◌≡◌, ℕ, ◌/◌, ◌%◌, ◌<◌, ◌≤◌, Bool, true, false, List, length, get_or, set, Option, Some, ◌⊎◌, inl, inr, refl, sym, ap, ◌∙◌, subst, arith, length-set}
use Rattle.std.proofs.lemmas.Bool.{cases_eq, cases_lt}
use Rattle.std.proofs.lemmas.List.{get_or-set_same, get_or-set_other}
use Rattle.sd_types.specs.declared.numbers.ChanId.{ChanId}
use Rattle.sd_types.specs.declared.numbers.CpuId.{CpuId}
use Rattle.sd_types.specs.declared.numbers.HomeId.{HomeId}
use Rattle.sd_types.specs.declared.numbers.HomeId.TheVariants as id
use Rattle.sd_types.specs.declared.numbers.LockId.{LockId}
use Rattle.sd_types.specs.declared.numbers.SetId.{SetId}
use Rattle.sd_state.specs.declared.states.CpuState.{CpuState}
use Rattle.sd_state.specs.declared.states.LockState.{LockState}
use Rattle.sd_state.specs.declared.states.LockState.TheVariants.{Free}
use Rattle.sd_state.specs.declared.states.State.{State}
use Rattle.sd_state.specs.States.{cpu_of, with_cpu, no_cpu}
use Rattle.sd_machine.specs.Threads.{count_of, lock_of, no_cpus, open_of, with_count, with_lock, with_open}
use Rattle.sd_store.specs.declared.parts.CpuView.{CpuView}
use Rattle.sd_store.specs.Parts.{view_of}
use Rattle.sd_homes.specs.declared.list_id.ListId.{ListId}
use Rattle.sd_homes.specs.declared.list_id.ListId.TheVariants.{Runs, Urgent, Waits, Sleeps}
use Rattle.sd_homes.specs.Standing.{look_of, ByNumber, Lists}
use Rattle.sd_homes.specs.declared.home.Home.{Home}
use Rattle.sd_homes.specs.declared.home.Home.TheVariants.{Cpu, RealTime, Chain, Sleepers}
use Rattle.sd_homes.specs.Homes.{OfCpu, OfChain, OfSet, OfSleepers, is_chan_of, is_of, with_counts, with_open_cpus, with_states, with_view}
use Rattle.sd_homes.specs.Kinds.{cpu_list, set_list, chain_list, asleep_list}
use Rattle.sd_homes.specs.Families.{counting, home_id, list_in, locking, opening, viewing}
use Rattle.sd_hand.specs.Hands.{edit, held}
use Rattle.sd_hand.specs.Shown.{IsHome, PartsShown, Shows, ShowsState}
use Rattle.sd_hand.proofs.SlotLemmas.{KeepsId, Changed, Other, Made, changed, held_id}
use Rattle.sd_hand.proofs.HomeLemmas.{of_asleep, of_chain}
use Rattle.sd_hand.proofs.MoveLemmas.{of_state}

-- ---- a change of one home that moves no thread
pub part_shows : (n : ℕ) (s new : State) (look : ByNumber) (k : HomeId) (f : Home → Home) (hs : List (Option Home)) → KeepsId f
    → ((h : Home) (sp : ListId) → list_in (f h) sp ≡ list_in h sp)
    → ((h : Home) → (home_id h ≡ k → ⊥) → PartsShown s h → PartsShown new h)
    → ((h : Home) → held k hs ≡ Some h → home_id h ≡ k → PartsShown s h → PartsShown new (f h))
    → Shows n s look hs → Shows n new look (edit k f hs)
part_shows n s new look k f hs keeps lists beside here shows d h there = by (changed k d f keeps hs h there)
  where
    made : (g : Home) → held k hs ≡ Some g → home_id g ≡ k → IsHome n s look g → IsHome n new look (f g)
    made g at e is = record {
      lists = λ sp a. subst (λ l. Lists n sp l look) (sym (lists g sp)) (is.lists sp (a ∙ keeps g));
      parts = here g at e is.parts;
    }

    by : Changed k d f hs h → IsHome n new look h
    by (Other apart is) = of_state n s new look h (beside h (λ e. apart (held_id d h hs is ∙ e))) (shows d h is)
    by (Made g same is e) =
        let there : held k hs ≡ Some g = ap (λ z. held z hs) (sym same) ∙ is in
        subst (IsHome n new look) e (made g there (sym (held_id k g hs there)) (shows d g is))

-- ---- the marks, the set and the bindings of a processor
cpu_other : (s : State) (c d : ℕ) (x : CpuState) → (d ≡ c → ⊥) → cpu_of (with_cpu s c x) d ≡ cpu_of s d
cpu_other s c d x n = get_or-set_other s.cpus c d x no_cpu n

pub cpu_here : (s : State) (c : ℕ) (x : CpuState) → c < length s.cpus → cpu_of (with_cpu s c x) c ≡ x
cpu_here s c x h = get_or-set_same s.cpus c x no_cpu h

pub within_set : (s : State) (c : ℕ) (x : CpuState) (d : ℕ) → d < length s.cpus → d < length (with_cpu s c x).cpus
within_set s c x d h = subst (λ k. d < k) (sym (length-set s.cpus c x)) h

pub cpu_beside : (s : State) (c : CpuId) (x : CpuState) (h : Home) → (home_id h ≡ id.Cpu c → ⊥) → PartsShown s h → PartsShown (with_cpu s c.0 x) h
cpu_beside s c x (Cpu h) n p =
    let same : cpu_of (with_cpu s c.0 x) h.cpu.0 ≡ cpu_of s h.cpu.0 = cpu_other s c.0 h.cpu.0 x (λ e. n (ap (λ i. id.Cpu (record { 0 = i })) e)) in
    (p.0 ∙ ap view_of (sym same), within_set s c.0 x h.cpu.0 p.1)
cpu_beside s c x (RealTime h) n p = p
cpu_beside s c x (Chain h) n p = p
cpu_beside s c x (Sleepers h) n p = p

pub viewing_keeps : (v : CpuView) → KeepsId (viewing v)
viewing_keeps v (Cpu h) = refl
viewing_keeps v (RealTime h) = refl
viewing_keeps v (Chain h) = refl
viewing_keeps v (Sleepers h) = refl

viewed_lists : (v : CpuView) (h : OfCpu) (sp : ListId) → cpu_list (with_view v h) sp ≡ cpu_list h sp
viewed_lists v h (Runs c) = refl
viewed_lists v h _ = refl

viewing_lists : (v : CpuView) (h : Home) (sp : ListId) → list_in (viewing v h) sp ≡ list_in h sp
viewing_lists v (Cpu h) sp = viewed_lists v h sp
viewing_lists v (RealTime h) sp = refl
viewing_lists v (Chain h) sp = refl
viewing_lists v (Sleepers h) sp = refl

viewing_parts : (s : State) (c : CpuId) (x : CpuState) (v : CpuView) (h : Home) → home_id h ≡ id.Cpu c → v ≡ view_of x → PartsShown s h → PartsShown (with_cpu s c.0 x) (viewing v h)
viewing_parts s c x v (Cpu h) e is p =
    let same : h.cpu ≡ c = cc in
    let inside : c.0 < length s.cpus = subst (λ (d : CpuId). d.0 < length s.cpus) same p.1 in
    let here : cpu_of (with_cpu s c.0 x) h.cpu.0 ≡ x = ap (λ d. cpu_of (with_cpu s c.0 x) d.0) same ∙ cpu_here s c.0 x inside in
    (is ∙ ap view_of (sym here), within_set s c.0 x h.cpu.0 p.1)
viewing_parts s c x v (RealTime h) e is p = absurd cc
viewing_parts s c x v (Chain h) e is p = absurd cc
viewing_parts s c x v (Sleepers h) e is p = absurd cc

pub viewed : (n : ℕ) (s : State) (look : ByNumber) (c : CpuId) (x : CpuState) (v : CpuView) (hs : List (Option Home)) → v ≡ view_of x → Shows n s look hs
    → Shows n (with_cpu s c.0 x) look (edit (id.Cpu c) (viewing v) hs)
viewed n s look c x v hs is shows =
    part_shows n s (with_cpu s c.0 x) look (id.Cpu c) (viewing v) hs (viewing_keeps v) (viewing_lists v) (cpu_beside s c x) (λ h at e. viewing_parts s c x v h e is) shows

-- the homes keep neither the count of a processor nor its duty
pub same_parts : (s : State) (c : ℕ) (x : CpuState) (h : Home) → view_of x ≡ view_of (cpu_of s c) → PartsShown s h → PartsShown (with_cpu s c x) h
same_parts s c x (RealTime h) e p = p
same_parts s c x (Chain h) e p = p
same_parts s c x (Sleepers h) e p = p
same_parts s c x (Cpu h) e p = by (cases_eq h.cpu.0 c) (cases_lt c (length s.cpus))
  where
    by : (h.cpu.0 ≡ c) ⊎ (h.cpu.0 ≡ c → ⊥) → (c < length s.cpus) ⊎ (length s.cpus ≤ c) → PartsShown (with_cpu s c x) (Cpu h)
    by (inr n) where_c = (p.0 ∙ ap view_of (sym (cpu_other s c h.cpu.0 x n)), within_set s c x h.cpu.0 p.1)
    by (inl y) (inl inside) =
        let here : cpu_of (with_cpu s c x) h.cpu.0 ≡ x = ap (cpu_of (with_cpu s c x)) y ∙ cpu_here s c x inside in
        (p.0 ∙ ap (λ d. view_of (cpu_of s d)) y ∙ sym e ∙ ap view_of (sym here), within_set s c x h.cpu.0 p.1)
    by (inl y) (inr past) = let i = p.1 in absurd (omega arith)

pub same_shows : (n : ℕ) (s : State) (c : ℕ) (x : CpuState) (look : ByNumber) (hs : List (Option Home)) → view_of x ≡ view_of (cpu_of s c) → Shows n s look hs → Shows n (with_cpu s c x) look hs
same_shows n s c x look hs e shows k h is = of_state n s (with_cpu s c x) look h (same_parts s c x h e) (shows k h is)

-- ---- locks
pub locking_keeps : (l : ℕ) (x : LockState) → KeepsId (locking l x)
locking_keeps l x (RealTime h) = refl
locking_keeps l x (Cpu h) = refl
locking_keeps l x (Sleepers h) = refl
locking_keeps l x (Chain h) = by (is_of h.turnstiles l) refl
  where
    by : (b : Bool) → is_of h.turnstiles l ≡ b → home_id (locking l x (Chain h)) ≡ id.Chain h.turnstiles.chain
    by true e = rw e refl
    by false e = rw e refl

states_lists : (xs : List LockState) (h : OfChain) (sp : ListId) → chain_list (with_states xs h) sp ≡ chain_list h sp
states_lists xs h (Waits l side) = refl
states_lists xs h _ = refl

locking_lists : (l : ℕ) (x : LockState) (h : Home) (sp : ListId) → list_in (locking l x h) sp ≡ list_in h sp
locking_lists l x (RealTime h) sp = refl
locking_lists l x (Cpu h) sp = refl
locking_lists l x (Sleepers h) sp = refl
locking_lists l x (Chain h) sp = by (is_of h.turnstiles l) refl
  where
    by : (b : Bool) → is_of h.turnstiles l ≡ b → list_in (locking l x (Chain h)) sp ≡ chain_list h sp
    by true e = rw e (states_lists (set h.states (l / 64) x) h sp)
    by false e = rw e refl

-- the state of another lock, and of this one
lock_other : (s : State) (l m : ℕ) (x : LockState) → (m ≡ l → ⊥) → lock_of (with_lock s l x) m ≡ lock_of s m
lock_other s l m x n = get_or-set_other s.locks l m x Free n

lock_here : (s : State) (l : ℕ) (x : LockState) → l < length s.locks → lock_of (with_lock s l x) l ≡ x
lock_here s l x h = get_or-set_same s.locks l x Free h

pub lock_beside : (s : State) (l : LockId) (x : LockState) (h : Home) → (home_id h ≡ id.Chain (l.0 % 64) → ⊥) → PartsShown s h → PartsShown (with_lock s l.0 x) h
lock_beside s l x (Cpu h) n p = p
lock_beside s l x (Sleepers h) n p = p
lock_beside s l x (RealTime h) n p = p
lock_beside s l x (Chain h) n p = (p.0, p.1, λ m of. p.2 m of ∙ sym (lock_other s l.0 m x (λ e. n (ap id.Chain (sym (of_chain h.turnstiles m of).1 ∙ ap (λ k. k % 64) e)))))

chain_here : (s : State) (l : LockId) (x : LockState) (h : Home) → home_id h ≡ id.Chain (l.0 % 64) → l.0 < length s.locks → PartsShown s h → PartsShown (with_lock s l.0 x) (locking l.0 x h)
chain_here s l x (Cpu h) e inside p = absurd cc
chain_here s l x (Sleepers h) e inside p = absurd cc
chain_here s l x (RealTime h) e inside p = absurd cc
chain_here s l x (Chain h) e inside p = by (is_of h.turnstiles l.0) refl
  where
    one : (m : ℕ) → is_of h.turnstiles l.0 ≡ true → is_of h.turnstiles m ≡ true → (m ≡ l.0) ⊎ (m ≡ l.0 → ⊥) → get_or (set h.states (l.0 / 64) x) (m / 64) Free ≡ lock_of (with_lock s l.0 x) m
    one m f g (inl same) =
        let low = (of_chain h.turnstiles l.0 f).0 in
        let four = p.1 in
        let within : l.0 / 64 < length h.states = omega arith in
        rw same (get_or-set_same h.states (l.0 / 64) x Free within ∙ sym (lock_here s l.0 x inside))
    one m f g (inr n) =
        let a = (of_chain h.turnstiles l.0 f).1 in
        let b = (of_chain h.turnstiles m g).1 in
        let apart : m / 64 ≡ l.0 / 64 → ⊥ = λ e. n (omega arith) in
        get_or-set_other h.states (l.0 / 64) (m / 64) x Free apart ∙ p.2 m g ∙ sym (lock_other s l.0 m x n)

    by : (b : Bool) → is_of h.turnstiles l.0 ≡ b → PartsShown (with_lock s l.0 x) (locking l.0 x (Chain h))
    by true f = rw f (p.0, length-set h.states (l.0 / 64) x ∙ p.1, λ m g. one m f g (cases_eq m l.0))
    by false f = rw f (p.0, p.1, λ m g. p.2 m g ∙ sym (lock_other s l.0 m x (λ e. let yes = ap (is_of h.turnstiles) (sym e) ∙ g in absurd cc)))

pub locked : (n : ℕ) (s : State) (l : LockId) (x : LockState) (hs : List (Option Home)) → l.0 < length s.locks → ShowsState n s hs
    → ShowsState n (with_lock s l.0 x) (edit (id.Chain (l.0 % 64)) (locking l.0 x) hs)
locked n s l x hs inside shows =
    part_shows n s (with_lock s l.0 x) (look_of s) (id.Chain (l.0 % 64)) (locking l.0 x) hs (locking_keeps l.0 x) (locking_lists l.0 x) (lock_beside s l x)
    (λ h at e. chain_here s l x h e inside) shows

-- ---- counts of channels
pub counting_keeps : (k n : ℕ) → KeepsId (counting k n)
counting_keeps k n (RealTime h) = refl
counting_keeps k n (Cpu h) = refl
counting_keeps k n (Chain h) = refl
counting_keeps k n (Sleepers h) = by (is_chan_of h.sleepers k) refl
  where
    by : (b : Bool) → is_chan_of h.sleepers k ≡ b → home_id (counting k n (Sleepers h)) ≡ id.Sleepers h.sleepers.chain
    by true e = rw e refl
    by false e = rw e refl

counts_lists : (xs : List ℕ) (h : OfSleepers) (sp : ListId) → asleep_list (with_counts xs h) sp ≡ asleep_list h sp
counts_lists xs h (Sleeps k) = refl
counts_lists xs h _ = refl

counting_lists : (k n : ℕ) (h : Home) (sp : ListId) → list_in (counting k n h) sp ≡ list_in h sp
counting_lists k n (RealTime h) sp = refl
counting_lists k n (Cpu h) sp = refl
counting_lists k n (Chain h) sp = refl
counting_lists k n (Sleepers h) sp = by (is_chan_of h.sleepers k) refl
  where
    by : (b : Bool) → is_chan_of h.sleepers k ≡ b → list_in (counting k n (Sleepers h)) sp ≡ asleep_list h sp
    by true e = rw e (counts_lists (set h.counts (k / 64) n) h sp)
    by false e = rw e refl

count_other : (s : State) (k m n : ℕ) → (m ≡ k → ⊥) → count_of (with_count s k n) m ≡ count_of s m
count_other s k m n a = get_or-set_other s.counts k m n 0 a

count_here : (s : State) (k n : ℕ) → k < length s.counts → count_of (with_count s k n) k ≡ n
count_here s k n h = get_or-set_same s.counts k n 0 h

pub count_beside : (s : State) (k : ChanId) (n : ℕ) (h : Home) → (home_id h ≡ id.Sleepers (k.0 % 64) → ⊥) → PartsShown s h → PartsShown (with_count s k.0 n) h
count_beside s k n (Cpu h) a p = p
count_beside s k n (Chain h) a p = p
count_beside s k n (RealTime h) a p = p
count_beside s k n (Sleepers h) a p = (p.0, p.1, λ m of. p.2 m of ∙ sym (count_other s k.0 m n (λ e. a (ap id.Sleepers (sym (of_asleep h.sleepers m of).1 ∙ ap (λ j. j % 64) e)))))

asleep_here : (s : State) (k : ChanId) (x : ℕ) (h : Home) → home_id h ≡ id.Sleepers (k.0 % 64) → k.0 < length s.counts → PartsShown s h → PartsShown (with_count s k.0 x) (counting k.0 x h)
asleep_here s k x (Cpu h) e inside p = absurd cc
asleep_here s k x (Chain h) e inside p = absurd cc
asleep_here s k x (RealTime h) e inside p = absurd cc
asleep_here s k x (Sleepers h) e inside p = by (is_chan_of h.sleepers k.0) refl
  where
    one : (m : ℕ) → is_chan_of h.sleepers k.0 ≡ true → is_chan_of h.sleepers m ≡ true → (m ≡ k.0) ⊎ (m ≡ k.0 → ⊥) → get_or (set h.counts (k.0 / 64) x) (m / 64) 0 ≡ count_of (with_count s k.0 x) m
    one m f g (inl same) =
        let low = (of_asleep h.sleepers k.0 f).0 in
        let four = p.1 in
        let within : k.0 / 64 < length h.counts = omega arith in
        rw same (get_or-set_same h.counts (k.0 / 64) x 0 within ∙ sym (count_here s k.0 x inside))
    one m f g (inr n) =
        let a = (of_asleep h.sleepers k.0 f).1 in
        let b = (of_asleep h.sleepers m g).1 in
        let apart : m / 64 ≡ k.0 / 64 → ⊥ = λ e. n (omega arith) in
        get_or-set_other h.counts (k.0 / 64) (m / 64) x 0 apart ∙ p.2 m g ∙ sym (count_other s k.0 m x n)

    by : (b : Bool) → is_chan_of h.sleepers k.0 ≡ b → PartsShown (with_count s k.0 x) (counting k.0 x (Sleepers h))
    by true f = rw f (p.0, length-set h.counts (k.0 / 64) x ∙ p.1, λ m g. one m f g (cases_eq m k.0))
    by false f = rw f (p.0, p.1, λ m g. p.2 m g ∙ sym (count_other s k.0 m x (λ e. let yes = ap (is_chan_of h.sleepers) (sym e) ∙ g in absurd cc)))

pub counted_to : (n : ℕ) (s : State) (k : ChanId) (x : ℕ) (hs : List (Option Home)) → k.0 < length s.counts → ShowsState n s hs
    → ShowsState n (with_count s k.0 x) (edit (id.Sleepers (k.0 % 64)) (counting k.0 x) hs)
counted_to n s k x hs inside shows =
    part_shows n s (with_count s k.0 x) (look_of s) (id.Sleepers (k.0 % 64)) (counting k.0 x) hs (counting_keeps k.0 x) (counting_lists k.0 x) (count_beside s k x)
    (λ h at e. asleep_here s k x h e inside) shows

-- ---- the open processors of a set
pub opening_keeps : (cpus : List CpuId) → KeepsId (opening cpus)
opening_keeps cpus (Cpu h) = refl
opening_keeps cpus (RealTime h) = refl
opening_keeps cpus (Chain h) = refl
opening_keeps cpus (Sleepers h) = refl

opened_lists : (cpus : List CpuId) (h : OfSet) (sp : ListId) → set_list (with_open_cpus cpus h) sp ≡ set_list h sp
opened_lists cpus h (Urgent p) = refl
opened_lists cpus h _ = refl

opening_lists : (cpus : List CpuId) (h : Home) (sp : ListId) → list_in (opening cpus h) sp ≡ list_in h sp
opening_lists cpus (RealTime h) sp = opened_lists cpus h sp
opening_lists cpus (Cpu h) sp = refl
opening_lists cpus (Chain h) sp = refl
opening_lists cpus (Sleepers h) sp = refl

open_other : (s : State) (p q : ℕ) (cpus : List CpuId) → (q ≡ p → ⊥) → open_of (with_open s p cpus) q ≡ open_of s q
open_other s p q cpus n = ap (λ a. a.items) (get_or-set_other s.open_cpus p q (record { items = cpus }) no_cpus n)

open_here : (s : State) (p : ℕ) (cpus : List CpuId) → p < length s.open_cpus → open_of (with_open s p cpus) p ≡ cpus
open_here s p cpus h = ap (λ a. a.items) (get_or-set_same s.open_cpus p (record { items = cpus }) no_cpus h)

open_within : (s : State) (p q : ℕ) (cpus : List CpuId) → q < length s.open_cpus → q < length (with_open s p cpus).open_cpus
open_within s p q cpus h = subst (λ k. q < k) (sym (length-set s.open_cpus p (record { items = cpus }))) h

pub open_beside : (s : State) (p : SetId) (cpus : List CpuId) (h : Home) → (home_id h ≡ id.RealTime p → ⊥) → PartsShown s h → PartsShown (with_open s p.0 cpus) h
open_beside s p cpus (Cpu h) n q = q
open_beside s p cpus (Chain h) n q = q
open_beside s p cpus (Sleepers h) n q = q
open_beside s p cpus (RealTime h) n q =
    (q.0 ∙ sym (open_other s p.0 h.set.0 cpus (λ e. n (ap (λ i. id.RealTime (record { 0 = i })) e))), open_within s p.0 h.set.0 cpus q.1)

set_here : (s : State) (p : SetId) (cpus : List CpuId) (h : Home) → home_id h ≡ id.RealTime p → PartsShown s h → PartsShown (with_open s p.0 cpus) (opening cpus h)
set_here s p cpus (Cpu h) e q = absurd cc
set_here s p cpus (Chain h) e q = absurd cc
set_here s p cpus (Sleepers h) e q = absurd cc
set_here s p cpus (RealTime h) e q =
    let same : h.set ≡ p = cc in
    let inside : p.0 < length s.open_cpus = subst (λ (r : SetId). r.0 < length s.open_cpus) same q.1 in
    (sym (ap (λ r. open_of (with_open s p.0 cpus) r.0) same ∙ open_here s p.0 cpus inside), open_within s p.0 h.set.0 cpus q.1)

pub opened : (n : ℕ) (s : State) (look : ByNumber) (p : SetId) (cpus : List CpuId) (hs : List (Option Home)) → Shows n s look hs
    → Shows n (with_open s p.0 cpus) look (edit (id.RealTime p) (opening cpus) hs)
opened n s look p cpus hs shows =
    part_shows n s (with_open s p.0 cpus) look (id.RealTime p) (opening cpus) hs (opening_keeps cpus) (opening_lists cpus) (open_beside s p cpus) (λ h at e. set_here s p cpus h e) shows
