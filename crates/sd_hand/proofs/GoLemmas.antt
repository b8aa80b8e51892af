-- Where threads go, and that they may come there.
use Rattle.std.proofs.Common.{◌≡◌, ℕ, ◌+◌, ◌<◌, ◌≤◌, Bool, true, false, nat_le, List, [], ◌∷◌, length, Some, None, option_map, slice_get, refl, sym, ap, ◌∙◌, arith, ◌⊎◌, inl, inr}
use Rattle.std.proofs.lemmas.Bool.{cases_lt}
use Rattle.std.proofs.lemmas.Int.{ints}
use Rattle.sd_types.specs.declared.classes.ClassState.{ClassState}
use Rattle.sd_types.specs.declared.bodies.ThreadBody.{ThreadBody}
use Rattle.sd_types.specs.declared.events.End.{End}
use Rattle.sd_types.specs.declared.events.End.TheVariants.{Front, Back}
use Rattle.sd_types.specs.declared.events.Put.{Put}
use Rattle.sd_types.specs.declared.events.Put.TheVariants.{Cpu as OnCpu, RealTime as OnRealTime}
use Rattle.sd_types.specs.declared.numbers.CpuId.{CpuId}
use Rattle.sd_types.specs.declared.numbers.HomeId.TheVariants as id
use Rattle.sd_types.specs.declared.numbers.ThreadId.{ThreadId}
use Rattle.sd_types.specs.declared.scripts.Op.{Op}
use Rattle.sd_types.specs.declared.works.Work.{Work}
use Rattle.sd_record.specs.Records.{ThreadRecord}
use Rattle.sd_state.specs.declared.states.Place.{Place}
use Rattle.sd_state.specs.declared.states.State.{State}
use Rattle.sd_state.specs.declared.states.ThreadState.{ThreadState}
use Rattle.sd_state.specs.Operations.{ran, script_of}
use Rattle.sd_state.specs.States.{no_thread, thread_of, with_thread}
use Rattle.sd_machine.specs.Bodies.{with_class}
use Rattle.sd_machine.specs.Changes.{key_at, place_put, set_class, with_place}
use Rattle.sd_machine.specs.Needs.{RunsOn}
use Rattle.sd_store.specs.Bodies.{CanChange, changed}
use Rattle.sd_store.specs.Keyless.{IsDestination, place_by}
use Rattle.sd_store.specs.declared.changes.BodyChange.{BodyChange}
use Rattle.sd_store.specs.declared.changes.BodyChange.TheVariants.{Class, FinishOp, Hold, Inherit, LetGo, Looped, SendBack, Tick}
use Rattle.sd_store.specs.declared.spots.Destination.{Destination}
use Rattle.sd_store.specs.declared.spots.Destination.TheVariants as to
use Rattle.sd_homes.specs.declared.list_id.ListId.{ListId}
use Rattle.sd_homes.specs.declared.list_id.ListId.TheVariants.{Ends, Queues, Runs, Sleeps, Urgent, Waits}
use Rattle.sd_homes.specs.Standing.{ByNumber, IsKeyFor, MayCome, id_of, list_at, look_of, stands}
use Rattle.sd_homes.proofs.StandingLemmas.{runs_where_last, stands_own}
use Rattle.sd_homes.specs.Bodies.{CanChangeThread}
use Rattle.sd_homes.specs.declared.home.Home.{Home}
use Rattle.sd_homes.specs.Families.{list_in}
use Rattle.sd_hand.specs.declared.acting.Acting.{Acting}
use Rattle.sd_hand.specs.Acting.{IsShown}
use Rattle.sd_hand.specs.Hands.{IsRoom, held}
use Rattle.sd_hand.specs.Shown.{IsListThere, StandsAt}
use Rattle.sd_hand.specs.Steps.{list_by, list_put}
use Rattle.sd_hand.proofs.MoveLemmas.{at_look}
use Rattle.sd_hand.proofs.ShownLemmas.{list_shown}
use Rattle.std.proofs.lemmas.List.{get_or_past, get_or-set_same, set-set}

-- ---- a key that the entry brings
pub key_is_new : (n : ℕ) (end : End) (look : ByNumber) (sp : ListId) → IsKeyFor n (n + 1) look sp (key_at n end)
key_is_new n Back look sp = record { after = record { least = omega (arith, ints); below = omega (arith, ints) }; free = inl refl }
key_is_new n Front look sp = record { after = record { least = omega (arith, ints); below = omega (arith, ints) }; free = inr (inl refl) }

-- ---- a thread that is put
pub put_list : (w : Work) (n : ℕ) (t : ThreadId) (at : Put) (last : CpuId) → list_at last (place_put w n t.0 at) ≡ list_put w t at
put_list w n t (OnCpu x) last = refl
put_list w n t (OnRealTime x) last = refl

pub put_may : (w : Work) (n : ℕ) (t : ThreadId) (at : Put) (look : ByNumber) (b : ThreadBody) → MayCome n (n + 1) look (list_put w t at) (record { body = b; place = place_put w n t.0 at })
put_may w n t (OnCpu x) look b = key_is_new n Back look (Queues x)
put_may w n t (OnRealTime x) look b = key_is_new n Back look (list_put w t (OnRealTime x))

pub put_there : (w : Work) (t : ThreadId) (at : Put) → IsListThere (list_put w t at)
put_there w t (OnCpu x) = tt
put_there w t (OnRealTime x) = tt

pub put_room : (w : Work) (t : ThreadId) (at : Put) (rs : List ThreadRecord) → IsRoom (list_put w t at) rs
put_room w t (OnCpu x) rs = tt
put_room w t (OnRealTime x) rs = tt

-- a thread of the state gets a class state, and then a place: as by one change
pub moved_as : (s : State) (t : ℕ) (class : ClassState) (place : Place) → t < length s.threads
    → with_thread s t (record { body = with_class (thread_of s t).body class; place = place }) ≡ with_place (set_class s t class) t place
unfolding set_class
moved_as s t class place inside =
    let y : ThreadState = record (thread_of s t) { body = with_class (thread_of s t).body class } in
    let there : thread_of (with_thread s t y) t ≡ y = get_or-set_same s.threads t y no_thread inside in
    ap (λ (xs : List ThreadState). record s { threads = xs }) (sym (set-set s.threads t y (record y { place = place })))
    ∙ ap (λ (x : ThreadState). with_thread (with_thread s t y) t (record x { place = place })) (sym there)

-- ---- a thread that leaves its processor
pub left_list : (n : ℕ) (c : CpuId) (d : Destination) (last : CpuId) → last ≡ c → list_at last (place_by n c d) ≡ list_by c d
left_list n c to.Nowhere last same = ap Ends same
left_list n c d last same = refl

pub left_may : (n : ℕ) (c : CpuId) (d : Destination) (look : ByNumber) (b : ThreadBody) → MayCome n (n + 1) look (list_by c d) (record { body = b; place = place_by n c d })
left_may n c (to.Queue e end) look b = key_is_new n end look (Queues e)
left_may n c (to.RealTime p end) look b = key_is_new n end look (Urgent p)
left_may n c (to.Turnstile l side) look b = key_is_new n Back look (Waits l side)
left_may n c (to.SleepQueue k) look b = key_is_new n Back look (Sleeps k)
left_may n c (to.Nap due) look b = tt
left_may n c to.Nowhere look b = tt

pub left_room : (c : CpuId) (d : Destination) (rs : List ThreadRecord) → IsRoom (list_by c d) rs
left_room c (to.Queue e end) rs = tt
left_room c d rs = tt

pub left_there : (s : State) (c : CpuId) (d : Destination) → length s.locks ≤ 256 → length s.counts ≤ 256 → IsDestination s d → IsListThere (list_by c d)
left_there s c (to.Queue e end) locks chans there = tt
left_there s c (to.RealTime p end) locks chans there = tt
left_there s c (to.Turnstile l side) locks chans there = omega arith
left_there s c (to.SleepQueue k) locks chans there = omega arith
left_there s c (to.Nap due) locks chans there = tt
left_there s c to.Nowhere locks chans there = tt

pub runs_at : (s : State) (t : ThreadId) (c : CpuId) → RunsOn s t c → StandsAt s t.0 (Runs c)
runs_at s t c runs = record { inside = by (cases_lt t.0 (length s.threads)); list = ap (list_at (thread_of s t.0).body.last) runs }
  where
    by : (t.0 < length s.threads) ⊎ (length s.threads ≤ t.0) → t.0 < length s.threads
    by (inl inside) = inside
    by (inr past) = let none = ap (λ (x : ThreadState). x.place) (get_or_past s.threads t.0 no_thread past) in absurd cc

pub runs_last : (x : Acting) (n : ℕ) (s : State) (t : ℕ) (c : CpuId) (h : Home) → IsShown x n s → StandsAt s t (Runs c) → held (id.Cpu c) x.hand.slots ≡ Some h → (thread_of s t).body.last ≡ c
runs_last x n s t c h sh at e =
    let y = thread_of s t in
    let on : stands (Runs c) y ≡ true = ap (λ z. stands z y) (sym at.list) ∙ stands_own y.body.last y.place in
    runs_where_last n c (list_in h (Runs c)) (look_of s) t y (list_shown x n s (Runs c) h sh e) (at_look s t at.inside) on

-- nobody runs where the list is empty
pub no_head : (rs : List ThreadRecord) → None ≡ option_map id_of (slice_get rs 0) → rs ≡ []
no_head [] e = refl
no_head (r ∷ rs) e = absurd cc

-- ---- a body that changes
ran_last : (ops : List Op) (b : ThreadBody) → (ran ops b).last ≡ b.last
ran_last ops b = by (nat_le b.run_left 1) refl
  where
    by : (d : Bool) → nat_le b.run_left 1 ≡ d → (ran ops b).last ≡ b.last
    by true e = rw e refl
    by false e = rw e refl

pub changed_last : (w : Work) (t : ℕ) (change : BodyChange) (b : ThreadBody) → (changed w t change b).last ≡ b.last
changed_last w t Tick b = ran_last (script_of w t) b
changed_last w t change b = refl

pub can_change : (w : Work) (s : State) (t : ThreadId) (change : BodyChange) → CanChange w t change s → CanChangeThread w t.0 change (thread_of s t.0).body
can_change w s t Tick can = can
can_change w s t FinishOp can = can
can_change w s t (Class class) can = tt
can_change w s t SendBack can = tt
can_change w s t (Hold l) can = (can.room, can.apart)
can_change w s t (LetGo l) can = tt
can_change w s t (Inherit l number) can = (can.held, can.below)
can_change w s t (Looped looped) can = tt
