-- A move neither loses a thread nor brings another one.
use Rattle.std.proofs.Common.{◌≡◌, ℕ, ◌/◌, zero, suc, Bool, true, false, ◌==◌, ◌||◌, is_some, List, [], ◌∷◌, get_or, set, Option, Some, None, refl, sym, ap, ◌∙◌, subst, inl, inr, ◌⊎◌}
use Rattle.std.specs.Option.{option_or}
use Rattle.std.proofs.lemmas.Bool.{cases_eq, eq-eqb, ne_eqb}
use Rattle.std.proofs.lemmas.List.{set-get_or}
use Rattle.sd_basics.proofs.Lists.{some_of}
use Rattle.sd_types.specs.declared.numbers.HomeId.{HomeId}
use Rattle.sd_types.specs.declared.numbers.Side.{Side}
use Rattle.sd_types.specs.declared.numbers.Side.TheVariants.{Writer, Reader}
use Rattle.sd_boxq.specs.Order.{drop_id, find_id, insert_before, precedes, precedes_keyed}
use Rattle.sd_turnstile.proofs.LeftLemmas.{none_dropped}
use Rattle.sd_turnstile.specs.Waiters.{Waiters, find_among as find_waiter, find_in, nobody, on_side, with_side, of_lock}
use Rattle.sd_sleepq.specs.Among.{find_among as find_sleeper}
use Rattle.sd_record.specs.Records.{ThreadRecord}
use Rattle.sd_homes.specs.declared.list_id.ListId.{ListId}
use Rattle.sd_homes.specs.declared.list_id.ListId.TheVariants.{Runs, Queues, Urgent, Waits, Sleeps, Naps, Ends}
use Rattle.sd_homes.specs.Standing.{home_at, id_of, insert_at, key_in, rank_of}
use Rattle.sd_homes.proofs.ListLemmas.{find-dropped_other, find-inserted_other, found_id}
use Rattle.sd_homes.specs.declared.home.Home.{Home}
use Rattle.sd_homes.specs.declared.home.Home.TheVariants.{Cpu, RealTime, Chain, Sleepers}
use Rattle.sd_homes.specs.Homes.{OfChain, OfCpu, OfSet, OfSleepers, head_of, is_chan_of, is_of, one}
use Rattle.sd_homes.specs.Kinds.{asleep_has, asleep_list, chain_has, chain_list, cpu_has, cpu_list, has_id, set_has, set_list, with_asleep_list, with_chain_list, with_cpu_list, with_set_list}
use Rattle.sd_homes.specs.Families.{IsWhole, has, home_id, list_in, putting, taken_from, taking, with_list, same_home}
use Rattle.sd_hand.specs.Hands.{AreApart, HasRoom, IsHeld, IsRoom, edit, has_thread, held}
use Rattle.sd_hand.specs.Shown.{IsListThere}
use Rattle.sd_hand.proofs.SlotLemmas.{Changed, Made, Other, apart-edit, changed, edit_has, edit_held, edit_made, held_has, held_id}
use Rattle.sd_hand.proofs.MoveLemmas.{listed_there}
use Rattle.sd_hand.proofs.FoundLemmas.{listed_has, some_or}
use Rattle.sd_hand.proofs.HomeLemmas.{Fits, fits-dropped, fits-inserted, keeps-with_list, list_here}

-- ---- lists
waiter_set : (u i : ℕ) (side : Side) (rs : List ThreadRecord) (ws : List (Waiters ThreadRecord)) → has_id u rs ≡ has_id u (on_side (get_or ws i nobody) side)
    → is_some (find_waiter id_of u (set ws i (with_side (get_or ws i nobody) side rs))) ≡ is_some (find_waiter id_of u ws)
waiter_set u i side rs [] e = refl
waiter_set u zero Writer rs (w ∷ ws) e =
    some_or (option_or (find_id id_of u rs) (find_id id_of u w.readers)) (find_waiter id_of u ws)
    ∙ ap (λ b. b || is_some (find_waiter id_of u ws)) (some_or (find_id id_of u rs) (find_id id_of u w.readers) ∙ ap (λ b. b || has_id u w.readers) e ∙ sym (some_or (find_id id_of u w.writers) (find_id id_of u w.readers)))
    ∙ sym (some_or (find_in id_of u w) (find_waiter id_of u ws))
waiter_set u zero Reader rs (w ∷ ws) e =
    some_or (option_or (find_id id_of u w.writers) (find_id id_of u rs)) (find_waiter id_of u ws)
    ∙ ap (λ b. b || is_some (find_waiter id_of u ws)) (some_or (find_id id_of u w.writers) (find_id id_of u rs) ∙ ap (λ b. has_id u w.writers || b) e ∙ sym (some_or (find_id id_of u w.writers) (find_id id_of u w.readers)))
    ∙ sym (some_or (find_in id_of u w) (find_waiter id_of u ws))
waiter_set u (suc i) side rs (w ∷ ws) e =
    some_or (find_in id_of u w) (find_waiter id_of u (set ws i (with_side (get_or ws i nobody) side rs)))
    ∙ ap (λ b. is_some (find_in id_of u w) || b) (waiter_set u i side rs ws e)
    ∙ sym (some_or (find_in id_of u w) (find_waiter id_of u ws))

sleeper_set : (u i : ℕ) (rs : List ThreadRecord) (qs : List (List ThreadRecord)) → has_id u rs ≡ has_id u (get_or qs i [])
    → is_some (find_sleeper id_of u (set qs i rs)) ≡ is_some (find_sleeper id_of u qs)
sleeper_set u i rs [] e = refl
sleeper_set u zero rs (q ∷ qs) e =
    some_or (find_id id_of u rs) (find_sleeper id_of u qs) ∙ ap (λ b. b || is_some (find_sleeper id_of u qs)) e ∙ sym (some_or (find_id id_of u q) (find_sleeper id_of u qs))
sleeper_set u (suc i) rs (q ∷ qs) e =
    some_or (find_id id_of u q) (find_sleeper id_of u (set qs i rs)) ∙ ap (λ b. has_id u q || b) (sleeper_set u i rs qs e) ∙ sym (some_or (find_id id_of u q) (find_sleeper id_of u qs))

-- ---- homes whose list has the same
cpu_same : (u : ℕ) (sp : ListId) (h : OfCpu) (rs : List ThreadRecord) → Fits sp rs → has_id u rs ≡ has_id u (cpu_list h sp) → cpu_has u (with_cpu_list h sp rs) ≡ cpu_has u h
cpu_same u (Runs c) h rs fits e = ap (λ b. b || (has_id u h.queue || (has_id u h.nappers || has_id u h.ended))) (ap (has_id u) fits ∙ e)
cpu_same u (Queues c) h rs fits e = ap (λ b. has_id u (one h.running) || (b || (has_id u h.nappers || has_id u h.ended))) e
cpu_same u (Naps c) h rs fits e = ap (λ b. has_id u (one h.running) || (has_id u h.queue || (b || has_id u h.ended))) e
cpu_same u (Ends c) h rs fits e = ap (λ b. has_id u (one h.running) || (has_id u h.queue || (has_id u h.nappers || b))) e
cpu_same u _ h rs fits e = refl

set_same : (u : ℕ) (sp : ListId) (h : OfSet) (rs : List ThreadRecord) → has_id u rs ≡ has_id u (set_list h sp) → set_has u (with_set_list h sp rs) ≡ set_has u h
set_same u (Urgent p) h rs e = e
set_same u _ h rs e = refl

chain_same : (u : ℕ) (sp : ListId) (h : OfChain) (rs : List ThreadRecord) → has_id u rs ≡ has_id u (chain_list h sp) → chain_has u (with_chain_list h sp rs) ≡ chain_has u h
chain_same u (Waits l side) h rs e = by (is_of h.turnstiles l.0) refl
  where
    by : (b : Bool) → is_of h.turnstiles l.0 ≡ b → chain_has u (with_chain_list h (Waits l side) rs) ≡ chain_has u h
    by true f = rw f (waiter_set u (l.0 / 64) side rs h.turnstiles.locks (rw f at e))
    by false f = rw f refl
chain_same u _ h rs e = refl

asleep_same : (u : ℕ) (sp : ListId) (h : OfSleepers) (rs : List ThreadRecord) → has_id u rs ≡ has_id u (asleep_list h sp) → asleep_has u (with_asleep_list h sp rs) ≡ asleep_has u h
asleep_same u (Sleeps k) h rs e = by (is_chan_of h.sleepers k.0) refl
  where
    by : (b : Bool) → is_chan_of h.sleepers k.0 ≡ b → asleep_has u (with_asleep_list h (Sleeps k) rs) ≡ asleep_has u h
    by true f = rw f (sleeper_set u (k.0 / 64) rs h.sleepers.queues (rw f at e))
    by false f = rw f refl
asleep_same u _ h rs e = refl

has_same : (u : ℕ) (sp : ListId) (h : Home) (rs : List ThreadRecord) → Fits sp rs → has_id u rs ≡ has_id u (list_in h sp) → has u (with_list h sp rs) ≡ has u h
has_same u sp (Cpu h) rs fits e = cpu_same u sp h rs fits e
has_same u sp (RealTime h) rs fits e = set_same u sp h rs e
has_same u sp (Chain h) rs fits e = chain_same u sp h rs e
has_same u sp (Sleepers h) rs fits e = asleep_same u sp h rs e

-- ---- a thread leaves
other_left : (u t : ℕ) → (u ≡ t → ⊥) → (rs : List ThreadRecord) → has_id u (drop_id id_of t rs) ≡ has_id u rs
other_left u t n rs = ap is_some (find-dropped_other id_of u t n rs)

pub taking_others : (u t : ℕ) (sp : ListId) (h : Home) → home_at sp ≡ home_id h → (u ≡ t → ⊥) → has u (taking t sp h) ≡ has u h
taking_others u t sp h at n = has_same u sp h (drop_id id_of t (list_in h sp)) (fits-dropped t sp h at) (other_left u t n (list_in h sp))

pub taking_none : (u t : ℕ) (sp : ListId) (h : Home) → home_at sp ≡ home_id h → find_id id_of t (list_in h sp) ≡ None → has u (taking t sp h) ≡ has u h
taking_none u t sp h at none =
    has_same u sp h (drop_id id_of t (list_in h sp)) (fits-dropped t sp h at) (ap (has_id u) (none_dropped (λ r. id_of r == t) (list_in h sp) none))

-- nothing is taken
pub none_taken : (u t : ℕ) (sp : ListId) (hs : List (Option Home)) → None ≡ taken_from t sp (held (home_at sp) hs) → has_thread u (edit (home_at sp) (taking t sp) hs) ≡ has_thread u hs
none_taken u t sp hs none = edit_has u (home_at sp) (taking t sp) hs (λ h e. taking_none u t sp h (held_id (home_at sp) h hs e) (sym (ap (taken_from t sp) e) ∙ sym none))

-- ---- where nobody is taken, all stays as it was
head_one : (o : Option ThreadRecord) → head_of (one o) ≡ o
head_one (Some r) = refl
head_one None = refl

cpu_list_again : (sp : ListId) (h : OfCpu) → with_cpu_list h sp (cpu_list h sp) ≡ h
cpu_list_again (Runs c) h = ap (λ (o : Option ThreadRecord). record h { running = o }) (head_one h.running)
cpu_list_again sp h = refl

set_list_again : (sp : ListId) (h : OfSet) → with_set_list h sp (set_list h sp) ≡ h
set_list_again (Urgent p) h = refl
set_list_again sp h = refl

side_again : (w : Waiters ThreadRecord) (side : Side) → with_side w side (on_side w side) ≡ w
side_again w Writer = refl
side_again w Reader = refl

chain_list_again : (sp : ListId) (h : OfChain) → with_chain_list h sp (chain_list h sp) ≡ h
chain_list_again (Waits l side) h = by (is_of h.turnstiles l.0) refl
  where
    by : (b : Bool) → is_of h.turnstiles l.0 ≡ b → with_chain_list h (Waits l side) (chain_list h (Waits l side)) ≡ h
    by true e = rw e
        (ap (λ (ws : List (Waiters ThreadRecord)). record h { turnstiles = record h.turnstiles { locks = ws } })
        (ap (set h.turnstiles.locks (l.0 / 64)) (side_again (of_lock h.turnstiles l.0) side) ∙ set-get_or h.turnstiles.locks (l.0 / 64) nobody))
    by false e = rw e refl
chain_list_again sp h = refl

asleep_list_again : (sp : ListId) (h : OfSleepers) → with_asleep_list h sp (asleep_list h sp) ≡ h
asleep_list_again (Sleeps k) h = by (is_chan_of h.sleepers k.0) refl
  where
    by : (b : Bool) → is_chan_of h.sleepers k.0 ≡ b → with_asleep_list h (Sleeps k) (asleep_list h (Sleeps k)) ≡ h
    by true e = rw e
        (ap (λ (qs : List (List ThreadRecord)). record h { sleepers = record h.sleepers { queues = qs } }) (set-get_or h.sleepers.queues (k.0 / 64) []))
    by false e = rw e refl
asleep_list_again sp h = refl

list_again : (sp : ListId) (h : Home) → with_list h sp (list_in h sp) ≡ h
list_again sp (Cpu h) = ap Cpu (cpu_list_again sp h)
list_again sp (RealTime h) = ap RealTime (set_list_again sp h)
list_again sp (Chain h) = ap Chain (chain_list_again sp h)
list_again sp (Sleepers h) = ap Sleepers (asleep_list_again sp h)

pub untaken : (t : ℕ) (sp : ListId) (hs : List (Option Home)) → None ≡ taken_from t sp (held (home_at sp) hs) → edit (home_at sp) (taking t sp) hs ≡ hs
untaken t sp [] none = refl
untaken t sp (None ∷ hs) none = ap (λ (xs : List (Option Home)). None ∷ xs) (untaken t sp hs none)
untaken t sp (Some h ∷ hs) none = by (same_home (home_at sp) (home_id h)) refl (untaken t sp hs)
  where
    by : (b : Bool) → same_home (home_at sp) (home_id h) ≡ b → (None ≡ taken_from t sp (held (home_at sp) hs) → edit (home_at sp) (taking t sp) hs ≡ hs)
        → edit (home_at sp) (taking t sp) (Some h ∷ hs) ≡ Some h ∷ hs
    by true e more =
        let gone : None ≡ find_id id_of t (list_in h sp) = rw e at none in
        rw e (ap (λ (g : Home). Some g ∷ hs) (ap (with_list h sp) (none_dropped (λ r. id_of r == t) (list_in h sp) (sym gone)) ∙ list_again sp h))
    by false e more = rw e (ap (λ (xs : List (Option Home)). Some h ∷ xs) (more (rw e at none)))

-- ---- a thread comes
inserted_here : (p : ThreadRecord → Bool) (r : ThreadRecord) (rs : List ThreadRecord) → has_id (id_of r) (insert_before p r rs) ≡ true
inserted_here p r [] = rw (eq-eqb (id_of r) (id_of r) refl) refl
inserted_here p r (x ∷ xs) = by (p x) (id_of x == id_of r) refl refl (inserted_here p r xs)
  where
    by : (b c : Bool) → p x ≡ b → (id_of x == id_of r) ≡ c → has_id (id_of r) (insert_before p r xs) ≡ true → has_id (id_of r) (insert_before p r (x ∷ xs)) ≡ true
    by true c f g rest = rw (f, eq-eqb (id_of r) (id_of r) refl) refl
    by false true f g rest = rw (f, g) refl
    by false false f g rest = rw (f, g) rest

come_here : (sp : ListId) (r : ThreadRecord) (rs : List ThreadRecord) → has_id (id_of r) (insert_at sp r rs) ≡ true
come_here (Runs c) r rs = rw (eq-eqb (id_of r) (id_of r) refl) refl
come_here (Ends c) r rs = rw (eq-eqb (id_of r) (id_of r) refl) refl
come_here (Queues c) r rs = inserted_here (precedes rank_of key_in r) r rs
come_here (Urgent p) r rs = inserted_here (precedes rank_of key_in r) r rs
come_here (Waits l side) r rs = inserted_here (precedes rank_of key_in r) r rs
come_here (Sleeps k) r rs = inserted_here (precedes rank_of key_in r) r rs
come_here (Naps c) r rs = inserted_here (precedes_keyed key_in id_of r) r rs

inserted_others : (u : ℕ) (p : ThreadRecord → Bool) (r : ThreadRecord) (rs : List ThreadRecord) → (id_of r ≡ u → ⊥) → has_id u (insert_before p r rs) ≡ has_id u rs
inserted_others u p r rs n = ap is_some (find-inserted_other id_of p u r n rs)

come_others : (u : ℕ) (sp : ListId) (r : ThreadRecord) (rs : List ThreadRecord) → (id_of r ≡ u → ⊥) → IsRoom sp rs → has_id u (insert_at sp r rs) ≡ has_id u rs
come_others u (Runs c) r rs n room = rw (room, ne_eqb (id_of r) u n) refl
come_others u (Ends c) r rs n room = rw (ne_eqb (id_of r) u n) refl
come_others u (Queues c) r rs n room = inserted_others u (precedes rank_of key_in r) r rs n
come_others u (Urgent p) r rs n room = inserted_others u (precedes rank_of key_in r) r rs n
come_others u (Waits l side) r rs n room = inserted_others u (precedes rank_of key_in r) r rs n
come_others u (Sleeps k) r rs n room = inserted_others u (precedes rank_of key_in r) r rs n
come_others u (Naps c) r rs n room = inserted_others u (precedes_keyed key_in id_of r) r rs n

pub putting_others : (u : ℕ) (r : ThreadRecord) (sp : ListId) (h : Home) → (id_of r ≡ u → ⊥) → IsRoom sp (list_in h sp) → has u (putting r sp h) ≡ has u h
putting_others u r sp h n room = has_same u sp h (insert_at sp r (list_in h sp)) (fits-inserted r sp (list_in h sp)) (come_others u sp r (list_in h sp) n room)

pub putting_here : (r : ThreadRecord) (sp : ListId) (h : Home) → home_at sp ≡ home_id h → IsListThere sp → IsWhole h → has (id_of r) (putting r sp h) ≡ true
putting_here r sp h at there whole =
    let rs = insert_at sp r (list_in h sp) in
    listed_has (id_of r) (putting r sp h) sp (ap (has_id (id_of r)) (list_here sp h rs at (fits-inserted r sp (list_in h sp)) whole (inl there)) ∙ come_here sp r (list_in h sp))

-- ---- a thread goes from list to list

pub gone_held : (t : ℕ) (from : ListId) (k : HomeId) (hs : List (Option Home)) → IsHeld k hs → IsHeld k (edit (home_at from) (taking t from) hs)
gone_held t from k hs (h, e) =
    some_of (held k (edit (home_at from) (taking t from) hs))
    (edit_held (home_at from) k (taking t from) (keeps-with_list from (λ g. drop_id id_of t (list_in g from))) hs ∙ ap is_some e)

pub taken_has : (t : ℕ) (from : ListId) (hs : List (Option Home)) (o : Option Home) (r : ThreadRecord) → held (home_at from) hs ≡ o → Some r ≡ taken_from t from o → has_thread t hs ≡ true
taken_has t from hs None r e f = absurd cc
taken_has t from hs (Some h) r e f = held_has (home_at from) t h hs e (listed_has t h from (ap is_some (sym f)))

pub taken_id : (t : ℕ) (from : ListId) (o : Option Home) (r : ThreadRecord) → Some r ≡ taken_from t from o → id_of r ≡ t
taken_id t from None r f = absurd cc
taken_id t from (Some h) r f = found_id id_of t r (list_in h from) (sym f)

pub went_has : (u t : ℕ) (from to : ListId) (r q : ThreadRecord) (hs : List (Option Home)) → Some r ≡ taken_from t from (held (home_at from) hs) → id_of q ≡ t
    → IsHeld (home_at to) hs → IsListThere to → HasRoom t from to hs
    → ((h : Home) → held (home_at to) (edit (home_at from) (taking t from) hs) ≡ Some h → IsWhole h)
    → has_thread u (edit (home_at to) (putting q to) (edit (home_at from) (taking t from) hs)) ≡ has_thread u hs
went_has u t from to r q hs taken id is there room whole = by (cases_eq u t)
  where
    gone : IsHeld (home_at to) (edit (home_at from) (taking t from) hs)
    gone = gone_held t from (home_at to) hs is

    by : (u ≡ t) ⊎ (u ≡ t → ⊥) → has_thread u (edit (home_at to) (putting q to) (edit (home_at from) (taking t from) hs)) ≡ has_thread u hs
    by (inl same) =
        let at = held_id (home_at to) gone.0 (edit (home_at from) (taking t from) hs) gone.1 in
        let now = held_has (home_at to) (id_of q) (putting q to gone.0) (edit (home_at to) (putting q to) (edit (home_at from) (taking t from) hs))
        (edit_made (home_at to) (putting q to) (keeps-with_list to (λ g. insert_at to q (list_in g to))) (edit (home_at from) (taking t from) hs) gone.0 gone.1)
        (putting_here q to gone.0 at there (whole gone.0 gone.1)) in
        let old = taken_has t from hs (held (home_at from) hs) r refl taken in
        ap (λ k. has_thread k (edit (home_at to) (putting q to) (edit (home_at from) (taking t from) hs))) (same ∙ sym id) ∙ now ∙ sym (ap (λ k. has_thread k hs) same ∙ old)
    by (inr n) =
        edit_has u (home_at to) (putting q to) (edit (home_at from) (taking t from) hs) (λ h e. putting_others u q to h (λ f. n (sym f ∙ id)) (room h e))
        ∙ edit_has u (home_at from) (taking t from) hs (λ h e. taking_others u t from h (held_id (home_at from) h hs e) n)

-- ---- where there is room
free_taken : (t : ℕ) (from : ListId) (c : OfCpu) → one c.running ≡ [] → one (with_cpu_list c from (drop_id id_of t (cpu_list c from))).running ≡ []
free_taken t (Runs d) c e = rw e refl
free_taken t _ c e = e

free_after : (t : ℕ) (from to : ListId) (h : Home) → IsRoom to (list_in h to) → IsRoom to (list_in (taking t from h) to)
free_after t from (Runs c) (Cpu h) room = free_taken t from h room
free_after t from (Runs c) (RealTime h) room = refl
free_after t from (Runs c) (Chain h) room = refl
free_after t from (Runs c) (Sleepers h) room = refl
free_after t from to h room = tt

one_taken : (t : ℕ) (o : Option ThreadRecord) → has_id t (one o) ≡ true → one (head_of (drop_id id_of t (one o))) ≡ []
one_taken t None e = absurd cc
one_taken t (Some r) e = by (id_of r == t) refl
  where
    by : (b : Bool) → (id_of r == t) ≡ b → one (head_of (drop_id id_of t (one (Some r)))) ≡ []
    by true f = rw f refl
    by false f = let no = rw f at e in absurd cc

back_room : (t : ℕ) (sp : ListId) (h : Home) → has_id t (list_in h sp) ≡ true → IsRoom sp (list_in (taking t sp h) sp)
back_room t (Runs c) (Cpu h) e = one_taken t h.running e
back_room t (Runs c) (RealTime h) e = refl
back_room t (Runs c) (Chain h) e = refl
back_room t (Runs c) (Sleepers h) e = refl
back_room t sp h e = tt

pub room_free : (t : ℕ) (from to : ListId) (hs : List (Option Home)) → ((h : Home) → held (home_at to) hs ≡ Some h → IsRoom to (list_in h to)) → HasRoom t from to hs
room_free t from to hs room h e = by (changed (home_at from) (home_at to) (taking t from) (keeps-with_list from (λ g. drop_id id_of t (list_in g from))) hs h e)
  where
    by : Changed (home_at from) (home_at to) (taking t from) hs h → IsRoom to (list_in h to)
    by (Other apart is) = room h is
    by (Made g same is f) = subst (λ z. IsRoom to (list_in z to)) f (free_after t from to g (room g is))

pub room_back : (t : ℕ) (sp : ListId) (r : ThreadRecord) (hs : List (Option Home)) → Some r ≡ taken_from t sp (held (home_at sp) hs) → HasRoom t sp sp hs
room_back t sp r hs taken h e = by (changed (home_at sp) (home_at sp) (taking t sp) (keeps-with_list sp (λ g. drop_id id_of t (list_in g sp))) hs h e)
  where
    by : Changed (home_at sp) (home_at sp) (taking t sp) hs h → IsRoom sp (list_in h sp)
    by (Other apart is) = absurd (apart refl)
    by (Made g same is f) = subst (λ z. IsRoom sp (list_in z sp)) f (back_room t sp g (ap is_some (sym (ap (taken_from t sp) is) ∙ sym taken)))

pub taken_held : (t : ℕ) (sp : ListId) (o : Option Home) (hs : List (Option Home)) (r : ThreadRecord) → held (home_at sp) hs ≡ o → Some r ≡ taken_from t sp o → IsHeld (home_at sp) hs
taken_held t sp None hs r e taken = absurd cc
taken_held t sp (Some h) hs r e taken = (h, e)

pub taken_there : (t : ℕ) (sp : ListId) (o : Option Home) (r : ThreadRecord) → Some r ≡ taken_from t sp o → IsListThere sp
taken_there t sp None r taken = absurd cc
taken_there t sp (Some h) r taken = listed_there h sp t (ap is_some (sym taken))

-- it comes back to its list
pub back_has : (u t : ℕ) (sp : ListId) (r q : ThreadRecord) (hs : List (Option Home)) → Some r ≡ taken_from t sp (held (home_at sp) hs) → id_of q ≡ t
    → ((h : Home) → held (home_at sp) (edit (home_at sp) (taking t sp) hs) ≡ Some h → IsWhole h)
    → has_thread u (edit (home_at sp) (putting q sp) (edit (home_at sp) (taking t sp) hs)) ≡ has_thread u hs
back_has u t sp r q hs taken id whole =
    went_has u t sp sp r q hs taken id (taken_held t sp (held (home_at sp) hs) hs r refl taken) (taken_there t sp (held (home_at sp) hs) r taken) (room_back t sp r hs taken) whole

-- ---- what is held, and apart
pub went_held : (k : HomeId) (t : ℕ) (from to : ListId) (q : ThreadRecord) (hs : List (Option Home)) → is_some (held k (edit (home_at to) (putting q to) (edit (home_at from) (taking t from) hs))) ≡ is_some (held k hs)
went_held k t from to q hs =
    edit_held (home_at to) k (putting q to) (keeps-with_list to (λ g. insert_at to q (list_in g to))) (edit (home_at from) (taking t from) hs)
    ∙ edit_held (home_at from) k (taking t from) (keeps-with_list from (λ g. drop_id id_of t (list_in g from))) hs

pub left_held : (k : HomeId) (t : ℕ) (from : ListId) (hs : List (Option Home)) → is_some (held k (edit (home_at from) (taking t from) hs)) ≡ is_some (held k hs)
left_held k t from hs = edit_held (home_at from) k (taking t from) (keeps-with_list from (λ g. drop_id id_of t (list_in g from))) hs

pub left_apart : (t : ℕ) (from : ListId) (hs : List (Option Home)) → AreApart hs → AreApart (edit (home_at from) (taking t from) hs)
left_apart t from hs a = apart-edit (home_at from) (taking t from) (keeps-with_list from (λ g. drop_id id_of t (list_in g from))) hs a

pub went_apart : (t : ℕ) (from to : ListId) (q : ThreadRecord) (hs : List (Option Home)) → AreApart hs → AreApart (edit (home_at to) (putting q to) (edit (home_at from) (taking t from) hs))
went_apart t from to q hs a = apart-edit (home_at to) (putting q to) (keeps-with_list to (λ g. insert_at to q (list_in g to))) (edit (home_at from) (taking t from) hs) (left_apart t from hs a)
