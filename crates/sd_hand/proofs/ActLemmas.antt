-- A hand with its processor after a change.
use Rattle.std.proofs.Common.{◌≡◌, ℕ, zero, suc, ◌%◌, ◌<◌, ◌≤◌, ◌==◌, Bool, true, false, is_some, List, [], ◌∷◌, length, get_or, ◌⊎◌, inl, inr, refl, sym, ap, ◌∙◌, subst, arith, length-set}
use Rattle.std.specs.Prelude.{Result, Ok, Err, ⊤}
use Rattle.std.proofs.lemmas.Bool.{cases_eq, cases_lt}
use Rattle.std.proofs.lemmas.List.{get_or-set_other}
use Rattle.sd_types.specs.declared.events.Duty.{Duty}
use Rattle.sd_types.specs.declared.numbers.ChanId.{ChanId}
use Rattle.sd_types.specs.declared.numbers.CpuId.{CpuId}
use Rattle.sd_types.specs.declared.numbers.HomeId.{HomeId}
use Rattle.sd_types.specs.declared.numbers.HomeId.TheVariants as id
use Rattle.sd_types.specs.declared.numbers.LockId.{LockId}
use Rattle.sd_types.specs.declared.numbers.SetId.{SetId}
use Rattle.sd_record.specs.Records.{ThreadRecord}
use Rattle.sd_state.specs.declared.states.CpuState.{CpuState}
use Rattle.sd_state.specs.declared.states.LockState.{LockState}
use Rattle.sd_state.specs.declared.states.State.{State}
use Rattle.sd_state.specs.declared.states.ThreadState.{ThreadState}
use Rattle.sd_state.specs.States.{cpu_of, no_cpu, with_cpu, with_thread}
use Rattle.sd_machine.specs.Changes.{set_duty}
use Rattle.sd_machine.specs.Threads.{with_count, with_lock, with_open}
use Rattle.sd_store.specs.declared.parts.CpuView.{CpuView}
use Rattle.sd_store.specs.declared.parts.Part.{Part}
use Rattle.sd_store.specs.declared.parts.Part.TheVariants as part
use Rattle.sd_store.specs.Parts.{actor_part, view_of}
use Rattle.sd_store.specs.Words.{Does, Lacks}
use Rattle.sd_homes.specs.declared.list_id.ListId.{ListId}
use Rattle.sd_homes.specs.Standing.{home_at, list_of, look_of, record_of, without, MayCome}
use Rattle.sd_homes.specs.declared.home.Home.{Home}
use Rattle.sd_homes.specs.declared.home.Home.TheVariants.{Cpu, RealTime, Chain, Sleepers}
use Rattle.sd_homes.specs.Homes.{is_chan_of, is_of}
use Rattle.sd_homes.specs.Families.{counting, has, locking, opening, putting, taking, viewing}
use Rattle.sd_hand.specs.declared.acting.Acting.{Acting}
use Rattle.sd_hand.specs.Acting.{IsShown, has_part, the_part}
use Rattle.sd_hand.specs.Hands.{AreApart, edit, has_thread, held}
use Rattle.sd_hand.specs.Shown.{IsListThere, ShowsState, StandsAt}
use Rattle.sd_hand.proofs.SlotLemmas.{KeepsId, apart-edit, edit_has, edit_held}
use Rattle.sd_hand.proofs.MoveLemmas.{went}
use Rattle.sd_hand.proofs.PartLemmas.{counted_to, counting_keeps, cpu_here, locked, locking_keeps, opened, opening_keeps, same_shows, viewed, viewing_keeps}

-- ---- what it has
pub same_has : (x y : Acting) → y.actor.cpu ≡ x.actor.cpu → ((k : HomeId) → is_some (held k y.hand.slots) ≡ is_some (held k x.hand.slots))
    → ((u : ℕ) → has_thread u y.hand.slots ≡ has_thread u x.hand.slots) → has_part y ≡ has_part x
same_has x y a h t i p = by p i
  where
    by : (p : Part) → has_part y p ≡ has_part x p
    by (part.Home k) = h k
    by (part.Thread u) = t u.0
    by (part.Actor d) = ap (λ (c : CpuId). d.0 == c.0) a

viewing_has : (u : ℕ) (v : CpuView) (h : Home) → has u (viewing v h) ≡ has u h
viewing_has u v (Cpu h) = refl
viewing_has u v (RealTime h) = refl
viewing_has u v (Chain h) = refl
viewing_has u v (Sleepers h) = refl

opening_has : (u : ℕ) (cpus : List CpuId) (h : Home) → has u (opening cpus h) ≡ has u h
opening_has u cpus (Cpu h) = refl
opening_has u cpus (RealTime h) = refl
opening_has u cpus (Chain h) = refl
opening_has u cpus (Sleepers h) = refl

locking_has : (u l : ℕ) (x : LockState) (h : Home) → has u (locking l x h) ≡ has u h
locking_has u l x (Cpu h) = refl
locking_has u l x (RealTime h) = refl
locking_has u l x (Sleepers h) = refl
locking_has u l x (Chain h) = by (is_of h.turnstiles l) refl
  where
    by : (b : Bool) → is_of h.turnstiles l ≡ b → has u (locking l x (Chain h)) ≡ has u (Chain h)
    by true e = rw e refl
    by false e = rw e refl

counting_has : (u k n : ℕ) (h : Home) → has u (counting k n h) ≡ has u h
counting_has u k n (Cpu h) = refl
counting_has u k n (RealTime h) = refl
counting_has u k n (Chain h) = refl
counting_has u k n (Sleepers h) = by (is_chan_of h.sleepers k) refl
  where
    by : (b : Bool) → is_chan_of h.sleepers k ≡ b → has u (counting k n (Sleepers h)) ≡ has u (Sleepers h)
    by true e = rw e refl
    by false e = rw e refl

-- a change of one home that moves no thread
pub edited_has : (x y : Acting) (k : HomeId) (f : Home → Home) → KeepsId f → ((u : ℕ) (h : Home) → has u (f h) ≡ has u h) → y.actor.cpu ≡ x.actor.cpu
    → y.hand.slots ≡ edit k f x.hand.slots → has_part y ≡ has_part x
edited_has x y k f keeps same a e =
    same_has x y a (λ d. ap (λ hs. is_some (held d hs)) e ∙ edit_held k d f keeps x.hand.slots) (λ u. ap (has_thread u) e ∙ edit_has u k f x.hand.slots (λ h is. same u h))

pub viewed_has : (x y : Acting) (c : CpuId) (v : CpuView) → y.actor.cpu ≡ x.actor.cpu → y.hand.slots ≡ edit (id.Cpu c) (viewing v) x.hand.slots → has_part y ≡ has_part x
viewed_has x y c v a e = edited_has x y (id.Cpu c) (viewing v) (viewing_keeps v) (λ u h. viewing_has u v h) a e

pub opened_has : (x y : Acting) (p : SetId) (cpus : List CpuId) → y.actor.cpu ≡ x.actor.cpu → y.hand.slots ≡ edit (id.RealTime p) (opening cpus) x.hand.slots → has_part y ≡ has_part x
opened_has x y p cpus a e = edited_has x y (id.RealTime p) (opening cpus) (opening_keeps cpus) (λ u h. opening_has u cpus h) a e

pub locked_has : (x y : Acting) (k : HomeId) (l : ℕ) (z : LockState) → y.actor.cpu ≡ x.actor.cpu → y.hand.slots ≡ edit k (locking l z) x.hand.slots → has_part y ≡ has_part x
locked_has x y k l z a e = edited_has x y k (locking l z) (locking_keeps l z) (λ u h. locking_has u l z h) a e

pub counted_has : (x y : Acting) (j : HomeId) (k n : ℕ) → y.actor.cpu ≡ x.actor.cpu → y.hand.slots ≡ edit j (counting k n) x.hand.slots → has_part y ≡ has_part x
counted_has x y j k n a e = edited_has x y j (counting k n) (counting_keeps k n) (λ u h. counting_has u k n h) a e

-- ---- the rest of a state
pub record IsLike (s new : State) : Type 0 where
  pub cpus : length new.cpus ≡ length s.cpus
  pub count : (c : ℕ) → (cpu_of new c).count ≡ (cpu_of s c).count
  pub duty : (c : ℕ) → (cpu_of new c).duty ≡ (cpu_of s c).duty
  pub locks : length new.locks ≡ length s.locks
  pub chans : length new.counts ≡ length s.counts

pub like_thread : (s : State) (t : ℕ) (y : ThreadState) → IsLike s (with_thread s t y)
like_thread s t y = record { cpus = refl; count = λ c. refl; duty = λ c. refl; locks = refl; chans = refl }

pub like_open : (s : State) (p : ℕ) (cpus : List CpuId) → IsLike s (with_open s p cpus)
like_open s p cpus = record { cpus = refl; count = λ c. refl; duty = λ c. refl; locks = refl; chans = refl }

pub like_lock : (s : State) (l : ℕ) (x : LockState) → IsLike s (with_lock s l x)
like_lock s l x = record { cpus = refl; count = λ c. refl; duty = λ c. refl; locks = length-set s.locks l x; chans = refl }

pub like_count : (s : State) (k n : ℕ) → IsLike s (with_count s k n)
like_count s k n = record { cpus = refl; count = λ c. refl; duty = λ c. refl; locks = refl; chans = length-set s.counts k n }

cpu_past : (s : State) (c : ℕ) → length s.cpus ≤ c → cpu_of s c ≡ no_cpu
cpu_past s c h = past s.cpus c h
  where
    past : (xs : List CpuState) (i : ℕ) → length xs ≤ i → get_or xs i no_cpu ≡ no_cpu
    past [] i h = refl
    past (x ∷ xs) zero h = absurd (omega arith)
    past (x ∷ xs) (suc i) h = past xs i (omega arith)

-- a field of a processor that keeps it
field_kept : {A : Type 0} (f : CpuState → A) (s : State) (c d : ℕ) (z : CpuState) → f z ≡ f (cpu_of s c) → f (cpu_of (with_cpu s c z) d) ≡ f (cpu_of s d)
field_kept f s c d z e = by (cases_eq d c) (cases_lt c (length s.cpus))
  where
    by : (d ≡ c) ⊎ (d ≡ c → ⊥) → (c < length s.cpus) ⊎ (length s.cpus ≤ c) → f (cpu_of (with_cpu s c z) d) ≡ f (cpu_of s d)
    by (inr n) w = ap f (get_or-set_other s.cpus c d z no_cpu n)
    by (inl same) (inl inside) = ap f (ap (cpu_of (with_cpu s c z)) same ∙ cpu_here s c z inside) ∙ e ∙ ap (λ i. f (cpu_of s i)) (sym same)
    by (inl same) (inr past) =
        let long : length (with_cpu s c z).cpus ≤ d = subst (λ k. k ≤ d) (sym (length-set s.cpus c z)) (omega arith) in
        ap f (cpu_past (with_cpu s c z) d long ∙ sym (cpu_past s d (omega arith)))

pub like_cpu : (s : State) (c : ℕ) (z : CpuState) → z.count ≡ (cpu_of s c).count → z.duty ≡ (cpu_of s c).duty → IsLike s (with_cpu s c z)
like_cpu s c z e f = record {
  cpus = length-set s.cpus c z;
  count = λ d. field_kept (λ w. w.count) s c d z e;
  duty = λ d. field_kept (λ w. w.duty) s c d z f;
  locks = refl;
  chans = refl;
}

pub carried : (x y : Acting) (n m : ℕ) (s new : State) → y.actor ≡ x.actor → IsLike s new → AreApart y.hand.slots → ShowsState m new y.hand.slots → IsShown x n s → IsShown y m new
carried x y n m s new same like apart homes sh = record {
  homes = homes;
  apart = apart;
  inside = subst (λ k. y.actor.cpu.0 < k) (sym like.cpus) (subst (λ a. a.cpu.0 < length s.cpus) (sym same) sh.inside);
  count = ap (λ a. a.count) same ∙ sh.count ∙ sym (like.count x.actor.cpu.0) ∙ ap (λ a. (cpu_of new a.cpu.0).count) (sym same);
  duty = ap (λ a. a.duty) same ∙ sh.duty ∙ sym (like.duty x.actor.cpu.0) ∙ ap (λ a. (cpu_of new a.cpu.0).duty) (sym same);
  locks = subst (λ k. k ≤ 256) (sym like.locks) sh.locks;
  chans = subst (λ k. k ≤ 256) (sym like.chans) sh.chans;
}

-- ---- changes of homes that move no thread
pub view_carried : (x y : Acting) (n : ℕ) (s : State) (c : CpuId) (v : CpuView) (z : CpuState) → y.actor ≡ x.actor → y.hand.slots ≡ edit (id.Cpu c) (viewing v) x.hand.slots
    → IsShown x n s → v ≡ view_of z → z.count ≡ (cpu_of s c.0).count → z.duty ≡ (cpu_of s c.0).duty → IsShown y n (with_cpu s c.0 z)
view_carried x y n s c v z a e sh is count duty =
    carried x y n n s (with_cpu s c.0 z) a (like_cpu s c.0 z count duty)
    (subst AreApart (sym e) (apart-edit (id.Cpu c) (viewing v) (viewing_keeps v) x.hand.slots sh.apart))
    (subst (λ hs. ShowsState n (with_cpu s c.0 z) hs) (sym e) (viewed n s (look_of s) c z v x.hand.slots is sh.homes)) sh

pub open_carried : (x y : Acting) (n : ℕ) (s : State) (p : SetId) (cpus : List CpuId) → y.actor ≡ x.actor → y.hand.slots ≡ edit (id.RealTime p) (opening cpus) x.hand.slots
    → IsShown x n s → IsShown y n (with_open s p.0 cpus)
open_carried x y n s p cpus a e sh =
    carried x y n n s (with_open s p.0 cpus) a (like_open s p.0 cpus)
    (subst AreApart (sym e) (apart-edit (id.RealTime p) (opening cpus) (opening_keeps cpus) x.hand.slots sh.apart))
    (subst (λ hs. ShowsState n (with_open s p.0 cpus) hs) (sym e) (opened n s (look_of s) p cpus x.hand.slots sh.homes)) sh

pub lock_carried : (x y : Acting) (n : ℕ) (s : State) (l : LockId) (z : LockState) → y.actor ≡ x.actor → y.hand.slots ≡ edit (id.Chain (l.0 % 64)) (locking l.0 z) x.hand.slots
    → l.0 < length s.locks → IsShown x n s → IsShown y n (with_lock s l.0 z)
lock_carried x y n s l z a e inside sh =
    carried x y n n s (with_lock s l.0 z) a (like_lock s l.0 z)
    (subst AreApart (sym e) (apart-edit (id.Chain (l.0 % 64)) (locking l.0 z) (locking_keeps l.0 z) x.hand.slots sh.apart))
    (subst (λ hs. ShowsState n (with_lock s l.0 z) hs) (sym e) (locked n s l z x.hand.slots inside sh.homes)) sh

pub count_carried : (x y : Acting) (n : ℕ) (s : State) (k : ChanId) (m : ℕ) → y.actor ≡ x.actor → y.hand.slots ≡ edit (id.Sleepers (k.0 % 64)) (counting k.0 m) x.hand.slots
    → k.0 < length s.counts → IsShown x n s → IsShown y n (with_count s k.0 m)
count_carried x y n s k m a e inside sh =
    carried x y n n s (with_count s k.0 m) a (like_count s k.0 m)
    (subst AreApart (sym e) (apart-edit (id.Sleepers (k.0 % 64)) (counting k.0 m) (counting_keeps k.0 m) x.hand.slots sh.apart))
    (subst (λ hs. ShowsState n (with_count s k.0 m) hs) (sym e) (counted_to n s k m x.hand.slots inside sh.homes)) sh

-- ---- a thread moves
pub move_carried : (x y : Acting) (n m : ℕ) (s : State) (t : ℕ) (from to : ListId) (z : ThreadState) (q : ThreadRecord) → y.actor ≡ x.actor
    → y.hand.slots ≡ edit (home_at to) (putting q to) (edit (home_at from) (taking t from) x.hand.slots) → AreApart y.hand.slots → n ≤ m
    → StandsAt s t from → list_of z ≡ to → record_of t z ≡ q → MayCome n m (without t (look_of s)) to z → IsListThere to → IsShown x n s → IsShown y m (with_thread s t z)
move_carried x y n m s t from to z q a e apart le at f g may there sh =
    carried x y n m s (with_thread s t z) a (like_thread s t z) apart
    (subst (λ hs. ShowsState m (with_thread s t z) hs) (sym e) (went n m s t from to z q x.hand.slots le sh.homes at f g may there)) sh

-- ---- the actor's count and duty
pub record IsActorOf (x y : Acting) (s : State) (c : CpuId) (z : CpuState) : Type 0 where
  pub hand : y.hand.slots ≡ x.hand.slots
  pub cpu : y.actor.cpu ≡ x.actor.cpu
  pub acts : c.0 ≡ x.actor.cpu.0
  pub count : y.actor.count ≡ z.count
  pub duty : y.actor.duty ≡ z.duty
  pub view : view_of z ≡ view_of (cpu_of s c.0)

pub actor_carried : (x y : Acting) (n : ℕ) (s : State) (c : CpuId) (z : CpuState) → IsActorOf x y s c z → IsShown x n s → IsShown y n (with_cpu s c.0 z)
actor_carried x y n s c z is sh =
    let own : y.actor.cpu.0 ≡ c.0 = ap (λ (d : CpuId). d.0) is.cpu ∙ sym is.acts in
    let inside : c.0 < length s.cpus = (let i = sh.inside in let a = is.acts in omega arith) in
    let here : cpu_of (with_cpu s c.0 z) y.actor.cpu.0 ≡ z = ap (cpu_of (with_cpu s c.0 z)) own ∙ cpu_here s c.0 z inside in
    record {
      homes = subst (λ hs. ShowsState n (with_cpu s c.0 z) hs) (sym is.hand) (same_shows n s c.0 z (look_of s) x.hand.slots is.view sh.homes);
      apart = subst AreApart (sym is.hand) sh.apart;
      inside = subst (λ k. y.actor.cpu.0 < k) (sym (length-set s.cpus c.0 z)) (omega arith);
      count = is.count ∙ ap (λ w. w.count) (sym here);
      duty = is.duty ∙ ap (λ w. w.duty) (sym here);
      locks = sh.locks;
      chans = sh.chans;
    }

pub actor_has : (x y : Acting) → y.hand.slots ≡ x.hand.slots → y.actor.cpu ≡ x.actor.cpu → has_part y ≡ has_part x
actor_has x y e a = same_has x y a (λ k. ap (λ hs. is_some (held k hs)) e) (λ u. ap (has_thread u) e)

-- a duty for the processor that acts is given, whatever the answer says
pub given_surely : {A : Type 0} (x y : Acting) (c : CpuId) (duty : Duty) (n : ℕ) (s : State) (r : Result A Part) → Does (IsShown x) (IsShown y) r (λ s. ⊤) (λ s. set_duty s c.0 duty)
    → Lacks the_part (IsShown x) (has_part x) r (λ s. actor_part c ∷ []) → has_part x (actor_part c) ≡ true → IsShown x n s → IsShown y n (set_duty s c.0 duty)
given_surely x y c duty n s (Ok a) does lacks acts sh = does n s sh tt
given_surely x y c duty n s (Err q) does lacks acts sh = by (lacks.0 n s sh)
  where
    by : (q ≡ actor_part c) ⊎ ⊥ → IsShown y n (set_duty s c.0 duty)
    by (inl e) = (let no : true ≡ false = sym acts ∙ ap (has_part x) (sym e) ∙ lacks.1 in absurd cc)
    by (inr b) = absurd b
