-- A thread moves from home to home, and the state with it.
use Rattle.std.proofs.Common.{◌≡◌, ℕ, ◌<◌, ◌≤◌, Bool, true, false, ◌==◌, List, length, is_some, position, not, get_or, Option, Some, None, slice_get, refl, sym, ap, ◌∙◌, subst, arith}
use Rattle.std.proofs.lemmas.Bool.{eq-eqb, not-true}
use Rattle.std.proofs.lemmas.Bool.Decides.{nat_tests}
use Rattle.std.proofs.lemmas.List.Sums.{prefix_len_passes}
use Rattle.std.proofs.lemmas.Option.{slice_get-get_or, slice_get_within, get_or_from_slice_get}
use Rattle.std.specs.List.{position_or_len}
use Rattle.sd_types.specs.declared.numbers.ChanId.{ChanId}
use Rattle.sd_types.specs.declared.numbers.CpuId.{CpuId}
use Rattle.sd_types.specs.declared.numbers.LockId.{LockId}
use Rattle.sd_types.specs.declared.numbers.Side.{Side}
use Rattle.sd_boxq.specs.Order.{find_id}
use Rattle.sd_record.specs.Records.{ThreadRecord}
use Rattle.sd_state.specs.declared.states.ThreadState.{ThreadState}
use Rattle.sd_state.specs.declared.states.State.{State}
use Rattle.sd_state.specs.States.{thread_of, with_thread, no_thread, is_running}
use Rattle.sd_machine.specs.Threads.{runner}
use Rattle.sd_homes.specs.declared.list_id.ListId.{ListId}
use Rattle.sd_homes.specs.declared.list_id.ListId.TheVariants.{Runs, Waits, Sleeps}
use Rattle.sd_homes.specs.Standing.{home_at, list_of, stands, id_of, record_of, ByNumber, look_of, without, with_one, MayCome}
use Rattle.sd_homes.proofs.StandingLemmas.{Stood, stood, shown, stands_own, stands_only, with_without, may_again}
use Rattle.sd_homes.proofs.OthersShown.{look-with_thread}
use Rattle.sd_homes.specs.declared.home.Home.{Home}
use Rattle.sd_homes.specs.declared.home.Home.TheVariants.{Cpu, RealTime, Chain, Sleepers}
use Rattle.sd_homes.specs.Homes.{is_chan_of, is_of}
use Rattle.sd_homes.specs.Kinds.{has_id}
use Rattle.sd_homes.specs.Families.{home_id, list_in, putting, taken_from, taking}
use Rattle.sd_hand.specs.Hands.{AreApart, IsHeld, StandsIn, edit, held}
use Rattle.sd_hand.specs.Shown.{IsHome, IsListThere, PartsShown, ShowsState, StandsAt}
use Rattle.sd_hand.proofs.SlotLemmas.{apart_held, held_id}
use Rattle.sd_hand.proofs.HomeLemmas.{of_asleep, of_chain, put_beside, put_shows, take_beside, take_shows}

pub at_look : (s : State) (t : ℕ) → t < length s.threads → look_of s t ≡ Some (thread_of s t)
at_look s t h = slice_get-get_or s.threads t no_thread h

-- ---- what homes keep beside their threads
pub of_state : (n : ℕ) (s new : State) (look : ByNumber) (h : Home) → (PartsShown s h → PartsShown new h) → IsHome n s look h → IsHome n new look h
of_state n s new look h p is = record { lists = is.lists; parts = p is.parts }

thread_parts : (s : State) (t : ℕ) (y : ThreadState) (h : Home) → PartsShown s h → PartsShown (with_thread s t y) h
thread_parts s t y (Cpu h) p = p
thread_parts s t y (RealTime h) p = p
thread_parts s t y (Chain h) p = p
thread_parts s t y (Sleepers h) p = p

-- ---- a thread moves
pub moved : (n m : ℕ) (s : State) (t : ℕ) (y : ThreadState) (hs : List (Option Home)) → n ≤ m → t < length s.threads
    → MayCome n m (without t (look_of s)) (list_of y) y → IsListThere (list_of y)
    → ShowsState n s hs
    → ShowsState m (with_thread s t y)
    (edit (home_at (list_of y)) (putting (record_of t y) (list_of y)) (edit (home_at (list_of (thread_of s t))) (taking t (list_of (thread_of s t))) hs))
moved n m s t y hs le inside may there shows k h is =
    let x = thread_of s t in
    let gone = take_shows n s (look_of s) t x hs (at_look s t inside) shows in
    let none : without t (look_of s) t ≡ None = rw (eq-eqb t t refl) refl in
    let come = put_shows n m s (without t (look_of s)) t y (edit (home_at (list_of x)) (taking t (list_of x)) hs) le none may there gone in
    let same : with_one t y (without t (look_of s)) ≡ look_of (with_thread s t y) = with_without t y (look_of s) ∙ sym (look-with_thread s t y inside) in
    of_state m s (with_thread s t y) (look_of (with_thread s t y)) h (thread_parts s t y h)
    (subst (λ look. IsHome m s look h) same (come k h is))

-- the same where its new record and its lists have other names
pub went : (n m : ℕ) (s : State) (t : ℕ) (from to : ListId) (y : ThreadState) (q : ThreadRecord) (hs : List (Option Home)) → n ≤ m → ShowsState n s hs → StandsAt s t from
    → list_of y ≡ to → record_of t y ≡ q → MayCome n m (without t (look_of s)) to y → IsListThere to
    → ShowsState m (with_thread s t y) (edit (home_at to) (putting q to) (edit (home_at from) (taking t from) hs))
went n m s t from to y q hs le shows at e f may there =
    let gone = moved n m s t y hs le at.inside (subst (λ sp. MayCome n m (without t (look_of s)) sp y) (sym e) may) (subst IsListThere (sym e) there) shows in
    let here = subst (λ sp. ShowsState m (with_thread s t y) (edit (home_at (list_of y)) (putting (record_of t y) (list_of y)) (edit (home_at sp) (taking t sp) hs))) at.list gone in
    let now = subst (λ sp. ShowsState m (with_thread s t y) (edit (home_at sp) (putting (record_of t y) sp) (edit (home_at from) (taking t from) hs))) e here in
    subst (λ r. ShowsState m (with_thread s t y) (edit (home_at to) (putting r to) (edit (home_at from) (taking t from) hs))) f now

-- what is taken is its record
pub taken : (n : ℕ) (s : State) (t : ℕ) (sp : ListId) (hs : List (Option Home)) → StandsAt s t sp → ShowsState n s hs → IsHeld (home_at sp) hs
    → taken_from t sp (held (home_at sp) hs) ≡ Some (record_of t (thread_of s t))
taken n s t sp hs at shows (h, there) =
    let x = thread_of s t in
    let on : stands sp x ≡ true = ap (λ z. stands z x) (sym at.list) ∙ stands_own x.body.last x.place in
    let is = shows (home_at sp) h there in
    ap (taken_from t sp) there ∙ shown n sp (list_in h sp) (look_of s) t x (is.lists sp (held_id (home_at sp) h hs there)) (at_look s t at.inside) on

pub not_none : (n : ℕ) (s : State) (t : ℕ) (sp : ListId) (hs : List (Option Home)) → StandsAt s t sp → ShowsState n s hs → IsHeld (home_at sp) hs
    → None ≡ taken_from t sp (held (home_at sp) hs) → ⊥
not_none n s t sp hs at shows is e = let f = taken n s t sp hs at shows is in absurd cc

pub is_taken : (n : ℕ) (s : State) (t : ℕ) (sp : ListId) (hs : List (Option Home)) (r : ThreadRecord) → StandsAt s t sp → ShowsState n s hs → IsHeld (home_at sp) hs
    → Some r ≡ taken_from t sp (held (home_at sp) hs) → record_of t (thread_of s t) ≡ r
is_taken n s t sp hs r at shows is e = let f = taken n s t sp hs at shows is in cc

-- ---- the thread that a held home lists
some_found : (o : Option ThreadRecord) → is_some o ≡ true → (r : ThreadRecord) × (o ≡ Some r)
some_found None e = absurd cc
some_found (Some r) e = (r, refl)

pub held_by : (t : ℕ) (sp : ListId) (hs : List (Option Home)) (l : StandsIn t hs sp) → AreApart hs → held (home_at sp) hs ≡ Some l.home
held_by t sp hs l apart = ap (λ k. held k hs) l.listed.home ∙ apart_held l.home hs apart l.inside

pub stands_held : (t : ℕ) (sp : ListId) (hs : List (Option Home)) → AreApart hs → StandsIn t hs sp → IsHeld (home_at sp) hs
stands_held t sp hs apart l = (l.home, held_by t sp hs l apart)

stood_at : (s : State) (t : ℕ) (sp : ListId) (r : ThreadRecord) → Stood sp (look_of s) t r → StandsAt s t sp
stood_at s t sp r st =
    let here : thread_of s t ≡ st.thread = get_or_from_slice_get s.threads t st.thread no_thread st.there in
    record {
      inside = slice_get_within s.threads t st.thread st.there;
      list = ap list_of here ∙ sym (stands_only sp st.thread.body.last st.thread.place st.on);
    }

-- who stands in a list of a hand is found there
pub stands_found : (t : ℕ) (sp : ListId) (hs : List (Option Home)) → AreApart hs → StandsIn t hs sp → None ≡ taken_from t sp (held (home_at sp) hs) → ⊥
stands_found t sp hs apart l e =
    let none : None ≡ find_id id_of t (list_in l.home sp) = e ∙ ap (taken_from t sp) (held_by t sp hs l apart) in
    let some = ap is_some none ∙ l.listed.found in
    absurd cc

pub stands_at : (n : ℕ) (s : State) (t : ℕ) (sp : ListId) (hs : List (Option Home)) → AreApart hs → ShowsState n s hs → StandsIn t hs sp → StandsAt s t sp
stands_at n s t sp hs apart shows l =
    let found = some_found (find_id id_of t (list_in l.home sp)) l.listed.found in
    let is = shows (home_at sp) l.home (held_by t sp hs l apart) in
    stood_at s t sp found.0 (stood n sp (list_in l.home sp) (look_of s) t found.0 (is.lists sp l.listed.home) found.1)

-- ---- where a thread stands in a held home, there is that list
waits_there : (h : Home) (l : LockId) (side : Side) (t : ℕ) → has_id t (list_in h (Waits l side)) ≡ true → l.0 < 256
waits_there (Cpu h) l side t e = absurd cc
waits_there (RealTime h) l side t e = absurd cc
waits_there (Sleepers h) l side t e = absurd cc
waits_there (Chain h) l side t e = by (is_of h.turnstiles l.0) refl
  where
    by : (b : Bool) → is_of h.turnstiles l.0 ≡ b → l.0 < 256
    by true f = (of_chain h.turnstiles l.0 f).0
    by false f = let none = rw f at e in absurd cc

sleeps_there : (h : Home) (k : ChanId) (t : ℕ) → has_id t (list_in h (Sleeps k)) ≡ true → k.0 < 256
sleeps_there (Cpu h) k t e = absurd cc
sleeps_there (RealTime h) k t e = absurd cc
sleeps_there (Chain h) k t e = absurd cc
sleeps_there (Sleepers h) k t e = by (is_chan_of h.sleepers k.0) refl
  where
    by : (b : Bool) → is_chan_of h.sleepers k.0 ≡ b → k.0 < 256
    by true f = (of_asleep h.sleepers k.0 f).0
    by false f = let none = rw f at e in absurd cc

pub listed_there : (h : Home) (sp : ListId) (t : ℕ) → has_id t (list_in h sp) ≡ true → IsListThere sp
listed_there h (Waits l side) t e = waits_there h l side t e
listed_there h (Sleeps k) t e = sleeps_there h k t e
listed_there h sp t e = tt

-- ---- it comes back to where it stood, with another body
pub comes_back : (n : ℕ) (s : State) (t : ℕ) (sp : ListId) (y : ThreadState) (hs : List (Option Home)) → ShowsState n s hs → StandsAt s t sp → IsHeld (home_at sp) hs
    → y.place ≡ (thread_of s t).place → y.body.last ≡ (thread_of s t).body.last → MayCome n n (without t (look_of s)) sp y
comes_back n s t sp y hs shows at (h, is) p b =
    let x = thread_of s t in
    let on : stands sp x ≡ true = ap (λ z. stands z x) (sym at.list) ∙ stands_own x.body.last x.place in
    may_again n sp (list_in h sp) (look_of s) t x y ((shows (home_at sp) h is).lists sp (held_id (home_at sp) h hs is)) (at_look s t at.inside) on p b

pub is_there : (n : ℕ) (s : State) (t : ℕ) (sp : ListId) (hs : List (Option Home)) → ShowsState n s hs → StandsAt s t sp → IsHeld (home_at sp) hs → IsListThere sp
is_there n s t sp hs shows at (h, is) =
    let f = taken n s t sp hs at shows (h, is) in
    listed_there h sp t (ap is_some (sym (ap (taken_from t sp) is) ∙ f))

-- ---- a thread comes to a processor
nobody_passes : {X : Type 0} (p : X → Bool) (xs : List X) (u : ℕ) (y : X) → position p xs ≡ None → slice_get xs u ≡ Some y → p y ≡ false
nobody_passes p xs u y none e =
    let inside = slice_get_within xs u y e in
    let far : u < position_or_len p xs = grind (arith, nat_tests) in
    let fails = not-true (p (get_or xs u y)) (prefix_len_passes (λ x. not (p x)) xs u y far) in
    ap p (sym (get_or_from_slice_get xs u y y e)) ∙ fails

-- nobody is seen to run
pub unseen : (s : State) (c : CpuId) (t : ℕ) → runner s c.0 ≡ None → (u : ℕ) (y : ThreadState) → without t (look_of s) u ≡ Some y → stands (Runs c) y ≡ false
unfolding runner
unseen s c t e u y f = by (u == t) refl
  where
    by : (b : Bool) → (u == t) ≡ b → stands (Runs c) y ≡ false
    by true h = let none = rw h at f in absurd cc
    by false h = let is = rw h at f in nobody_passes (λ x. is_running c.0 x.place) s.threads u y e is

-- ---- the frame: a home that a move does not name
pub frame_thread : (n m : ℕ) (s : State) (t : ℕ) (y : ThreadState) (h : Home) → n ≤ m → t < length s.threads
    → (home_id h ≡ home_at (list_of (thread_of s t)) → ⊥) → (home_id h ≡ home_at (list_of y) → ⊥)
    → IsHome n s (look_of s) h → IsHome m (with_thread s t y) (look_of (with_thread s t y)) h
frame_thread n m s t y h le inside from to is =
    let x = thread_of s t in
    let none : without t (look_of s) t ≡ None = rw (eq-eqb t t refl) refl in
    let same : with_one t y (without t (look_of s)) ≡ look_of (with_thread s t y) = with_without t y (look_of s) ∙ sym (look-with_thread s t y inside) in
    of_state m s (with_thread s t y) (look_of (with_thread s t y)) h (thread_parts s t y h)
    (subst (λ look. IsHome m s look h) same
    (put_beside n m s (without t (look_of s)) t y h le none to (take_beside n s (look_of s) t x h (at_look s t inside) from is)))
