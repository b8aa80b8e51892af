-- A thread leaves a home, or comes to one.
use Rattle.std.proofs.Common.{◌≡◌, ℕ, ◌≤◌, Bool, true, false, ◌==◌, List, [], ◌∷◌, Option, Some, None, refl, sym, ap, ◌∙◌, subst}
use Rattle.std.specs.Prelude.{⊤, nat_lt, length, ◌<◌, ◌%◌, ◌/◌, ◌⊎◌}
use Rattle.std.proofs.Common.{inl, inr, length-set}
use Rattle.std.proofs.lemmas.Bool.{and_parts, ltb-true, lt-ltb, eqb-true, eq-eqb, cases_eq}
use Rattle.sd_types.specs.declared.numbers.LockId.{LockId}
use Rattle.sd_types.specs.declared.numbers.Side.{Side}
use Rattle.sd_turnstile.specs.Waiters.{Blocked, IsOfChain, waiters_at, with_waiters, on_side}
use Rattle.sd_turnstile.proofs.ChainLemmas.{are_apart}
use Rattle.sd_types.specs.declared.numbers.ChanId.{ChanId}
use Rattle.sd_sleepq.specs.Sleepers.{Sleepers as Asleep, IsOfChain as IsChanOf}
use Rattle.std.proofs.Common.{arith}
use Rattle.std.proofs.lemmas.List.{get_or-set_same, get_or-set_other}
use Rattle.sd_types.specs.declared.numbers.HomeId.TheVariants as id
use Rattle.sd_boxq.specs.Order.{drop_id}
use Rattle.sd_record.specs.Records.{ThreadRecord}
use Rattle.sd_state.specs.declared.states.ThreadState.{ThreadState}
use Rattle.sd_state.specs.declared.states.State.{State}
use Rattle.sd_homes.specs.declared.list_id.ListId.{ListId}
use Rattle.sd_homes.specs.declared.list_id.ListId.TheVariants.{Runs, Queues, Urgent, Waits, Sleeps, Naps, Ends}
use Rattle.sd_homes.specs.Standing.{home_at, list_of, stands, id_of, insert_at, record_of, ByNumber, without, with_one, Lists, MayCome}
use Rattle.sd_homes.proofs.StandingLemmas.{out, into, out_beside, into_beside, stands_own, stands_only, stands_elsewhere}
use Rattle.sd_homes.specs.declared.home.Home.{Home}
use Rattle.sd_homes.specs.declared.home.Home.TheVariants.{Cpu, RealTime, Chain, Sleepers}
use Rattle.sd_homes.specs.Homes.{OfCpu, OfSet, OfChain, OfSleepers, is_chan_of, is_of, one, head_of}
use Rattle.sd_homes.specs.Families.{IsWhole, home_id, list_in, with_list, taking, putting}
use Rattle.sd_homes.specs.Kinds.{cpu_list, set_list, chain_list, asleep_list, with_cpu_list, with_set_list, with_chain_list, with_asleep_list}
use Rattle.sd_hand.specs.Hands.{held, edit}
use Rattle.sd_hand.specs.Shown.{IsListThere, PartsShown, IsHome, Shows}
use Rattle.sd_hand.proofs.SlotLemmas.{KeepsId, Changed, Other, Made, changed, held_id}

-- ---- the lists of a home
keeps_cpu : (sp : ListId) (h : OfCpu) (rs : List ThreadRecord) → (with_cpu_list h sp rs).cpu ≡ h.cpu
keeps_cpu (Runs c) h rs = refl
keeps_cpu _ h rs = refl

keeps_set : (sp : ListId) (h : OfSet) (rs : List ThreadRecord) → (with_set_list h sp rs).set ≡ h.set
keeps_set (Urgent p) h rs = refl
keeps_set _ h rs = refl

keeps_chain_at : (h : OfChain) (l : LockId) (side : Side) (rs : List ThreadRecord) → (with_chain_list h (Waits l side) rs).turnstiles.chain ≡ h.turnstiles.chain
keeps_chain_at h l side rs = by (is_of h.turnstiles l.0) refl
  where
    by : (b : Bool) → is_of h.turnstiles l.0 ≡ b → (with_chain_list h (Waits l side) rs).turnstiles.chain ≡ h.turnstiles.chain
    by true e = rw e refl
    by false e = rw e refl

keeps_chain : (sp : ListId) (h : OfChain) (rs : List ThreadRecord) → (with_chain_list h sp rs).turnstiles.chain ≡ h.turnstiles.chain
keeps_chain (Waits l side) h rs = keeps_chain_at h l side rs
keeps_chain _ h rs = refl

keeps_asleep_at : (h : OfSleepers) (k : ChanId) (rs : List ThreadRecord) → (with_asleep_list h (Sleeps k) rs).sleepers.chain ≡ h.sleepers.chain
keeps_asleep_at h k rs = by (is_chan_of h.sleepers k.0) refl
  where
    by : (b : Bool) → is_chan_of h.sleepers k.0 ≡ b → (with_asleep_list h (Sleeps k) rs).sleepers.chain ≡ h.sleepers.chain
    by true e = rw e refl
    by false e = rw e refl

keeps_asleep : (sp : ListId) (h : OfSleepers) (rs : List ThreadRecord) → (with_asleep_list h sp rs).sleepers.chain ≡ h.sleepers.chain
keeps_asleep (Sleeps k) h rs = keeps_asleep_at h k rs
keeps_asleep _ h rs = refl

pub keeps-with_list : (sp : ListId) (rs : Home → List ThreadRecord) → KeepsId (λ h. with_list h sp (rs h))
keeps-with_list sp rs (Cpu h) = ap id.Cpu (keeps_cpu sp h (rs (Cpu h)))
keeps-with_list sp rs (Sleepers h) = ap id.Sleepers (keeps_asleep sp h (rs (Sleepers h)))
keeps-with_list sp rs (Chain h) = ap id.Chain (keeps_chain sp h (rs (Chain h)))
keeps-with_list sp rs (RealTime h) = ap id.RealTime (keeps_set sp h (rs (RealTime h)))

pub sound_by : (s : State) (h : Home) → PartsShown s h → IsWhole h
sound_by s (Cpu h) p = tt
sound_by s (RealTime h) p = tt
sound_by s (Chain h) p = p.0
sound_by s (Sleepers h) p = p.0

-- a list of at most one
abbrev pub Fits : ListId → List ThreadRecord → Type 0
Fits (Runs c) rs = one (head_of rs) ≡ rs
Fits _ rs = ⊤

cpu_here : (sp : ListId) (h : OfCpu) (rs : List ThreadRecord) → home_at sp ≡ id.Cpu h.cpu → Fits sp rs → cpu_list (with_cpu_list h sp rs) sp ≡ rs
cpu_here (Runs c) h rs e fits = fits
cpu_here (Queues c) h rs e fits = refl
cpu_here (Naps c) h rs e fits = refl
cpu_here (Ends c) h rs e fits = refl
cpu_here _ h rs e fits = absurd cc

set_here : (sp : ListId) (h : OfSet) (rs : List ThreadRecord) → home_at sp ≡ id.RealTime h.set → set_list (with_set_list h sp rs) sp ≡ rs
set_here (Urgent p) h rs e = refl
set_here _ h rs e = absurd cc

-- a lock of the chain
pub of_chain : (c : Blocked ThreadRecord) (l : ℕ) → is_of c l ≡ true → IsOfChain c l
of_chain c l e = let parts = and_parts (nat_lt l 256) ((l % 64) == c.chain) e in (ltb-true l 256 parts.0, eqb-true (l % 64) c.chain parts.1)

chain_here : (sp : ListId) (h : OfChain) (rs : List ThreadRecord) → home_at sp ≡ id.Chain h.turnstiles.chain → length h.turnstiles.locks ≡ 4
    → IsListThere sp ⊎ (rs ≡ []) → chain_list (with_chain_list h sp rs) sp ≡ rs
chain_here (Waits l side) h rs e four there = by (is_of h.turnstiles l.0) refl there
  where
    by : (b : Bool) → is_of h.turnstiles l.0 ≡ b → (l.0 < 256) ⊎ (rs ≡ []) → chain_list (with_chain_list h (Waits l side) rs) (Waits l side) ≡ rs
    by true f o = rw (f, f) ((are_apart h.turnstiles four).here l.0 side rs (of_chain h.turnstiles l.0 f))
    by false f (inr none) = rw (f, f) (sym none)
    by false f (inl low) =
        let chain : l.0 % 64 ≡ h.turnstiles.chain = cc in
        let yes : is_of h.turnstiles l.0 ≡ true = rw (lt-ltb l.0 256 low, eq-eqb (l.0 % 64) h.turnstiles.chain chain) refl in
        absurd cc
chain_here _ h rs e four there = absurd cc

-- a channel of the chain
pub of_asleep : (c : Asleep ThreadRecord) (k : ℕ) → is_chan_of c k ≡ true → IsChanOf c k
of_asleep c k e = let parts = and_parts (nat_lt k 256) ((k % 64) == c.chain) e in (ltb-true k 256 parts.0, eqb-true (k % 64) c.chain parts.1)

asleep_here : (sp : ListId) (h : OfSleepers) (rs : List ThreadRecord) → home_at sp ≡ id.Sleepers h.sleepers.chain → length h.sleepers.queues ≡ 4
    → IsListThere sp ⊎ (rs ≡ []) → asleep_list (with_asleep_list h sp rs) sp ≡ rs
asleep_here (Sleeps k) h rs e four there = by (is_chan_of h.sleepers k.0) refl there
  where
    by : (b : Bool) → is_chan_of h.sleepers k.0 ≡ b → (k.0 < 256) ⊎ (rs ≡ []) → asleep_list (with_asleep_list h (Sleeps k) rs) (Sleeps k) ≡ rs
    by true f o = let low = (of_asleep h.sleepers k.0 f).0 in let within : k.0 / 64 < length h.sleepers.queues = omega arith in rw (f, f) (get_or-set_same h.sleepers.queues (k.0 / 64) rs [] within)
    by false f (inr none) = rw (f, f) (sym none)
    by false f (inl low) =
        let chain : k.0 % 64 ≡ h.sleepers.chain = cc in
        let yes : is_chan_of h.sleepers k.0 ≡ true = rw (lt-ltb k.0 256 low, eq-eqb (k.0 % 64) h.sleepers.chain chain) refl in
        absurd cc
asleep_here _ h rs e four there = absurd cc

pub list_here : (sp : ListId) (h : Home) (rs : List ThreadRecord) → home_at sp ≡ home_id h → Fits sp rs → IsWhole h → IsListThere sp ⊎ (rs ≡ []) → list_in (with_list h sp rs) sp ≡ rs
list_here sp (Cpu h) rs e fits sound there = cpu_here sp h rs e fits
list_here sp (RealTime h) rs e fits sound there = set_here sp h rs e
list_here sp (Chain h) rs e fits sound there = chain_here sp h rs e sound there
list_here sp (Sleepers h) rs e fits sound there = asleep_here sp h rs e sound there

cpu_other_list : (sp other : ListId) (h : OfCpu) (rs : List ThreadRecord) → home_at sp ≡ id.Cpu h.cpu → home_at other ≡ id.Cpu h.cpu → (other ≡ sp → ⊥)
    → cpu_list h other ≡ cpu_list (with_cpu_list h sp rs) other
cpu_other_list (Runs c) (Runs d) h rs e f n = let same : d ≡ c = cc in absurd (n (ap Runs same))
cpu_other_list (Queues c) (Queues d) h rs e f n = let same : d ≡ c = cc in absurd (n (ap Queues same))
cpu_other_list (Naps c) (Naps d) h rs e f n = let same : d ≡ c = cc in absurd (n (ap Naps same))
cpu_other_list (Ends c) (Ends d) h rs e f n = let same : d ≡ c = cc in absurd (n (ap Ends same))
cpu_other_list _ _ h rs e f n = refl

set_other_list : (sp other : ListId) (h : OfSet) (rs : List ThreadRecord) → home_at sp ≡ id.RealTime h.set → home_at other ≡ id.RealTime h.set → (other ≡ sp → ⊥)
    → set_list h other ≡ set_list (with_set_list h sp rs) other
set_other_list (Urgent p) (Urgent q) h rs e f n = let same : q ≡ p = cc in absurd (n (ap Urgent same))
set_other_list _ _ h rs e f n = refl

lock_other : (c : Blocked ThreadRecord) (l m : LockId) (side o : Side) (rs : List ThreadRecord) → length c.locks ≡ 4 → IsOfChain c l.0 → IsOfChain c m.0
    → (Waits m o ≡ Waits l side → ⊥) → waiters_at c m.0 o ≡ waiters_at (with_waiters c l.0 side rs) m.0 o
lock_other c l m side o rs four a b n = elim (cases_eq m.0 l.0) [
  | inl y ↦
      let apart : o ≡ side → ⊥ = λ e. n (λ i. Waits (record { 0 = y i }) (e i)) in
      rw y (sym ((are_apart c four).other_side l.0 side o rs a apart))
  | inr y ↦ ap (λ w. on_side w o) (sym ((are_apart c four).other_locks l.0 m.0 side rs a b y))
]

chain_other_list : (sp other : ListId) (h : OfChain) (rs : List ThreadRecord) → length h.turnstiles.locks ≡ 4 → (other ≡ sp → ⊥)
    → chain_list h other ≡ chain_list (with_chain_list h sp rs) other
chain_other_list (Waits l side) (Waits m o) h rs four n = by (is_of h.turnstiles l.0) (is_of h.turnstiles m.0) refl refl
  where
    by : (a b : Bool) → is_of h.turnstiles l.0 ≡ a → is_of h.turnstiles m.0 ≡ b → chain_list h (Waits m o) ≡ chain_list (with_chain_list h (Waits l side) rs) (Waits m o)
    by false b e f = rw e refl
    by true false e f = rw (e, f) refl
    by true true e f = rw (e, f) (lock_other h.turnstiles l m side o rs four (of_chain h.turnstiles l.0 e) (of_chain h.turnstiles m.0 f) n)
chain_other_list (Waits l side) _ h rs four n = refl
chain_other_list _ _ h rs four n = refl

asleep_other_list : (sp other : ListId) (h : OfSleepers) (rs : List ThreadRecord) → (other ≡ sp → ⊥)
    → asleep_list h other ≡ asleep_list (with_asleep_list h sp rs) other
asleep_other_list (Sleeps k) (Sleeps j) h rs n = by (is_chan_of h.sleepers k.0) (is_chan_of h.sleepers j.0) refl refl
  where
    by : (a b : Bool) → is_chan_of h.sleepers k.0 ≡ a → is_chan_of h.sleepers j.0 ≡ b → asleep_list h (Sleeps j) ≡ asleep_list (with_asleep_list h (Sleeps k) rs) (Sleeps j)
    by false b e f = rw e refl
    by true false e f = rw (e, f) refl
    by true true e f =
        let a = (of_asleep h.sleepers k.0 e).1 in
        let b = (of_asleep h.sleepers j.0 f).1 in
        let apart : j.0 / 64 ≡ k.0 / 64 → ⊥ = λ g. n (let same : j.0 ≡ k.0 = omega arith in (λ i. Sleeps (record { 0 = same i }))) in
        rw (e, f) (sym (get_or-set_other h.sleepers.queues (k.0 / 64) (j.0 / 64) rs [] apart))
asleep_other_list (Sleeps k) _ h rs n = refl
asleep_other_list _ _ h rs n = refl

pub list_other : (sp other : ListId) (h : Home) (rs : List ThreadRecord) → home_at sp ≡ home_id h → home_at other ≡ home_id h → IsWhole h → (other ≡ sp → ⊥)
    → list_in h other ≡ list_in (with_list h sp rs) other
list_other sp other (Cpu h) rs e f sound n = cpu_other_list sp other h rs e f n
list_other sp other (RealTime h) rs e f sound n = set_other_list sp other h rs e f n
list_other sp other (Chain h) rs e f sound n = chain_other_list sp other h rs sound n
list_other sp other (Sleepers h) rs e f sound n = asleep_other_list sp other h rs n

cpu_parts_kept : (s : State) (sp : ListId) (h : OfCpu) (rs : List ThreadRecord) → PartsShown s (Cpu h) → PartsShown s (Cpu (with_cpu_list h sp rs))
cpu_parts_kept s (Runs c) h rs p = p
cpu_parts_kept s _ h rs p = p

set_parts_kept : (s : State) (sp : ListId) (h : OfSet) (rs : List ThreadRecord) → PartsShown s (RealTime h) → PartsShown s (RealTime (with_set_list h sp rs))
set_parts_kept s (Urgent q) h rs p = p
set_parts_kept s _ h rs p = p

chain_parts_kept : (s : State) (sp : ListId) (h : OfChain) (rs : List ThreadRecord) → PartsShown s (Chain h) → PartsShown s (Chain (with_chain_list h sp rs))
chain_parts_kept s (Waits l side) h rs p = by (is_of h.turnstiles l.0) refl
  where
    by : (b : Bool) → is_of h.turnstiles l.0 ≡ b → PartsShown s (Chain (with_chain_list h (Waits l side) rs))
    by true e = rw e (length-set h.turnstiles.locks (l.0 / 64) _ ∙ p.0, p.1, p.2)
    by false e = rw e p
chain_parts_kept s _ h rs p = p

asleep_parts_kept : (s : State) (sp : ListId) (h : OfSleepers) (rs : List ThreadRecord) → PartsShown s (Sleepers h) → PartsShown s (Sleepers (with_asleep_list h sp rs))
asleep_parts_kept s (Sleeps k) h rs p = by (is_chan_of h.sleepers k.0) refl
  where
    by : (b : Bool) → is_chan_of h.sleepers k.0 ≡ b → PartsShown s (Sleepers (with_asleep_list h (Sleeps k) rs))
    by true e = rw e (length-set h.sleepers.queues (k.0 / 64) rs ∙ p.0, p.1, p.2)
    by false e = rw e p
asleep_parts_kept s _ h rs p = p

parts-with_list : (s : State) (sp : ListId) (h : Home) (rs : List ThreadRecord) → PartsShown s h → PartsShown s (with_list h sp rs)
parts-with_list s sp (Cpu h) rs p = cpu_parts_kept s sp h rs p
parts-with_list s sp (RealTime h) rs p = set_parts_kept s sp h rs p
parts-with_list s sp (Chain h) rs p = chain_parts_kept s sp h rs p
parts-with_list s sp (Sleepers h) rs p = asleep_parts_kept s sp h rs p

one_dropped : (t : ℕ) (o : Option ThreadRecord) → one (head_of (drop_id id_of t (one o))) ≡ drop_id id_of t (one o)
one_dropped t None = refl
one_dropped t (Some r) = by (id_of r == t) refl
  where
    by : (b : Bool) → (id_of r == t) ≡ b → one (head_of (drop_id id_of t (r ∷ []))) ≡ drop_id id_of t (r ∷ [])
    by true e = rw e refl
    by false e = rw e refl

pub fits-dropped : (t : ℕ) (sp : ListId) (h : Home) → home_at sp ≡ home_id h → Fits sp (drop_id id_of t (list_in h sp))
fits-dropped t (Runs c) (Cpu h) e = one_dropped t h.running
fits-dropped t (Runs c) (RealTime h) e = absurd cc
fits-dropped t (Runs c) (Chain h) e = absurd cc
fits-dropped t (Runs c) (Sleepers h) e = absurd cc
fits-dropped t sp h e = tt

pub fits-inserted : (r : ThreadRecord) (sp : ListId) (rs : List ThreadRecord) → Fits sp (insert_at sp r rs)
fits-inserted r (Runs c) rs = refl
fits-inserted r sp rs = tt

-- nothing is taken from a lock that is not there
gone_at : (t : ℕ) (h : OfChain) (l : LockId) (side : Side) → (l.0 < 256) ⊎ (drop_id id_of t (chain_list h (Waits l side)) ≡ [])
gone_at t h l side = by (is_of h.turnstiles l.0) refl
  where
    by : (b : Bool) → is_of h.turnstiles l.0 ≡ b → (l.0 < 256) ⊎ (drop_id id_of t (chain_list h (Waits l side)) ≡ [])
    by true e = inl (of_chain h.turnstiles l.0 e).0
    by false e = inr (rw e refl)

gone_asleep : (t : ℕ) (h : OfSleepers) (k : ChanId) → (k.0 < 256) ⊎ (drop_id id_of t (asleep_list h (Sleeps k)) ≡ [])
gone_asleep t h k = by (is_chan_of h.sleepers k.0) refl
  where
    by : (b : Bool) → is_chan_of h.sleepers k.0 ≡ b → (k.0 < 256) ⊎ (drop_id id_of t (asleep_list h (Sleeps k)) ≡ [])
    by true e = inl (of_asleep h.sleepers k.0 e).0
    by false e = inr (rw e refl)

gone_there : (t : ℕ) (sp : ListId) (h : Home) → home_at sp ≡ home_id h → IsListThere sp ⊎ (drop_id id_of t (list_in h sp) ≡ [])
gone_there t (Waits l side) (Chain h) e = gone_at t h l side
gone_there t (Waits l side) (Cpu h) e = absurd cc
gone_there t (Waits l side) (RealTime h) e = absurd cc
gone_there t (Runs c) h e = inl tt
gone_there t (Queues c) h e = inl tt
gone_there t (Naps c) h e = inl tt
gone_there t (Ends c) h e = inl tt
gone_there t (Urgent p) h e = inl tt
gone_there t (Waits l side) (Sleepers h) e = absurd cc
gone_there t (Sleeps k) (Sleepers h) e = gone_asleep t h k
gone_there t (Sleeps k) (Cpu h) e = absurd cc
gone_there t (Sleeps k) (RealTime h) e = absurd cc
gone_there t (Sleeps k) (Chain h) e = absurd cc

-- a change of one list
pub list_changed : (n m : ℕ) (s : State) (look new : ByNumber) (x : ThreadState) (h : Home) (rs : List ThreadRecord) → home_at (list_of x) ≡ home_id h → Fits (list_of x) rs → IsListThere (list_of x) ⊎ (rs ≡ [])
    → Lists m (list_of x) rs new
    → ((sp : ListId) (l : List ThreadRecord) → stands sp x ≡ false → Lists n sp l look → Lists m sp l new)
    → IsHome n s look h → IsHome m s new (with_list h (list_of x) rs)
list_changed n m s look new x h rs at fits spot here beside is = record {
  lists = λ sp e. by sp (e ∙ keeps-with_list (list_of x) (λ g. rs) h) (stands sp x) refl;
  parts = parts-with_list s (list_of x) h rs is.parts;
}
  where
    by : (sp : ListId) → home_at sp ≡ home_id h → (b : Bool) → stands sp x ≡ b → Lists m sp (list_in (with_list h (list_of x) rs) sp) new
    by sp e true on =
        let same = stands_only sp x.body.last x.place on in
        subst (λ z. Lists m z (list_in (with_list h (list_of x) rs) z) new) (sym same)
        (subst (λ l. Lists m (list_of x) l new) (sym (list_here (list_of x) h rs at fits (sound_by s h is.parts) spot)) here)
    by sp e false off =
        let apart : sp ≡ list_of x → ⊥ = λ f. let on : stands sp x ≡ true = ap (λ z. stands z x) f ∙ stands_own x.body.last x.place in absurd cc in
        subst (λ l. Lists m sp l new) (list_other (list_of x) sp h rs at e (sound_by s h is.parts) apart) (beside sp (list_in h sp) off (is.lists sp e))

pub take_home : (n : ℕ) (s : State) (look : ByNumber) (t : ℕ) (x : ThreadState) (h : Home) → look t ≡ Some x → home_at (list_of x) ≡ home_id h
    → IsHome n s look h → IsHome n s (without t look) (taking t (list_of x) h)
take_home n s look t x h e at is =
    list_changed n n s look (without t look) x h (drop_id id_of t (list_in h (list_of x))) at (fits-dropped t (list_of x) h at) (gone_there t (list_of x) h at)
    (out n (list_of x) (list_in h (list_of x)) look t (is.lists (list_of x) at))
    (λ sp l off. out_beside n sp l look t x e off) is

pub put_home : (n m : ℕ) (s : State) (look : ByNumber) (t : ℕ) (y : ThreadState) (h : Home) → n ≤ m → look t ≡ None → home_at (list_of y) ≡ home_id h
    → MayCome n m look (list_of y) y → IsListThere (list_of y) → IsHome n s look h → IsHome m s (with_one t y look) (putting (record_of t y) (list_of y) h)
put_home n m s look t y h le e at may there is =
    list_changed n m s look (with_one t y look) y h (insert_at (list_of y) (record_of t y) (list_in h (list_of y))) at (fits-inserted (record_of t y) (list_of y) (list_in h (list_of y))) (inl there)
    (into n m (list_of y) (list_in h (list_of y)) look t y le e (stands_own y.body.last y.place) may (is.lists (list_of y) at))
    (λ sp l off. into_beside n m sp l look t y le e off) is

-- ---- other homes
pub take_beside : (n : ℕ) (s : State) (look : ByNumber) (t : ℕ) (x : ThreadState) (h : Home) → look t ≡ Some x → (home_id h ≡ home_at (list_of x) → ⊥)
    → IsHome n s look h → IsHome n s (without t look) h
take_beside n s look t x h e apart is = record {
  lists = λ sp at. out_beside n sp (list_in h sp) look t x e (stands_elsewhere sp (home_id h) x at apart) (is.lists sp at);
  parts = is.parts;
}

pub put_beside : (n m : ℕ) (s : State) (look : ByNumber) (t : ℕ) (y : ThreadState) (h : Home) → n ≤ m → look t ≡ None → (home_id h ≡ home_at (list_of y) → ⊥)
    → IsHome n s look h → IsHome m s (with_one t y look) h
put_beside n m s look t y h le e apart is = record {
  lists = λ sp at. into_beside n m sp (list_in h sp) look t y le e (stands_elsewhere sp (home_id h) y at apart) (is.lists sp at);
  parts = is.parts;
}

-- ---- hands
pub take_shows : (n : ℕ) (s : State) (look : ByNumber) (t : ℕ) (x : ThreadState) (hs : List (Option Home)) → look t ≡ Some x
    → Shows n s look hs → Shows n s (without t look) (edit (home_at (list_of x)) (taking t (list_of x)) hs)
take_shows n s look t x hs e shows k h held = by (changed (home_at (list_of x)) k (taking t (list_of x)) (keeps-with_list (list_of x) (λ g. drop_id id_of t (list_in g (list_of x)))) hs h held)
  where
    by : Changed (home_at (list_of x)) k (taking t (list_of x)) hs h → IsHome n s (without t look) h
    by (Other apart there) = take_beside n s look t x h e (λ f. apart (held_id k h hs there ∙ f)) (shows k h there)
    by (Made g same there is) = subst (IsHome n s (without t look)) is (take_home n s look t x g e (sym same ∙ held_id k g hs there) (shows k g there))

pub put_shows : (n m : ℕ) (s : State) (look : ByNumber) (t : ℕ) (y : ThreadState) (hs : List (Option Home)) → n ≤ m → look t ≡ None
    → MayCome n m look (list_of y) y → IsListThere (list_of y)
    → Shows n s look hs → Shows m s (with_one t y look) (edit (home_at (list_of y)) (putting (record_of t y) (list_of y)) hs)
put_shows n m s look t y hs le e may spot shows k h held =
    by (changed (home_at (list_of y)) k (putting (record_of t y) (list_of y)) (keeps-with_list (list_of y) (λ g. insert_at (list_of y) (record_of t y) (list_in g (list_of y)))) hs h held)
  where
    by : Changed (home_at (list_of y)) k (putting (record_of t y) (list_of y)) hs h → IsHome m s (with_one t y look) h
    by (Other apart there) = put_beside n m s look t y h le e (λ f. apart (held_id k h hs there ∙ f)) (shows k h there)
    by (Made g same there is) = subst (IsHome m s (with_one t y look)) is (put_home n m s look t y g le e (sym same ∙ held_id k g hs there) may spot (shows k g there))
