-- The threads of a state come to its homes, one after another in the order of their numbers.
use Rattle.std.proofs.Common.{◌≡◌, ◌≢◌, ℕ, ◌+◌, ◌++◌, is_some, ◌<◌, ◌≤◌, ◌⊎◌, zero, suc, true, false, List, [], ◌∷◌, length, get_or, Option, Some, None, refl, sym, ap, ◌∙◌, subst, inl, inr, arith, le_refl, slice_get}
use Rattle.std.specs.Prelude.{ℤ, pos, neg_ℤ, ◌≤ℤ◌, ◌<ℤ◌, ◌==◌, nat_lt}
use Rattle.std.proofs.lemmas.Bool.{cases_eq, cases_lt, cases_Bool, eqb-true, false≢true, and_from}
use Rattle.std.proofs.lemmas.Bool.Decides.{nat_tests}
use Rattle.std.proofs.lemmas.List.{length-append}
use Rattle.std.proofs.lemmas.Option.{slice_get-get_or, slice_get_within, get_or_from_slice_get, slice_get_past}
use Rattle.sd_basics.proofs.Lists.{get_last}
use Rattle.sd_basics.proofs.Truths.{and_left, and_right}
use Rattle.sd_types.specs.declared.numbers.ChanId.{ChanId}
use Rattle.sd_types.specs.declared.numbers.CpuId.{CpuId}
use Rattle.sd_types.specs.declared.numbers.HomeId.{HomeId}
use Rattle.sd_types.specs.declared.numbers.HomeId.TheVariants as id
use Rattle.sd_types.specs.declared.numbers.LockId.{LockId}
use Rattle.sd_types.specs.declared.numbers.SetId.{SetId}
use Rattle.sd_types.specs.declared.numbers.Side.{Side}
use Rattle.sd_types.specs.declared.works.Work.{Work}
use Rattle.sd_types.specs.Willed.{InheritsSoundly}
use Rattle.sd_record.specs.Records.{ThreadRecord}
use Rattle.sd_state.specs.declared.states.Place.{Place}
use Rattle.sd_state.specs.declared.states.Place.TheVariants.{Running, Queued, RealTime, Waiting, Asleep, Napping, Ended}
use Rattle.sd_state.specs.declared.states.State.{State}
use Rattle.sd_state.specs.declared.states.ThreadState.{ThreadState}
use Rattle.sd_state.specs.States.{is_running, key_of, no_thread, thread_of, same_side}
use Rattle.sd_machine.specs.Runs.{IsReached}
use Rattle.sd_state.specs.Invariants.{IsPlaceThere, KeysDiffer, KeysWithin, OneRuns, has_key, same_queue}
use Rattle.sd_invariants.proofs.FineLemmas.{sound_law}
use Rattle.sd_invariants.proofs.KeyLemmas.{keys_differ_law, keys_within_law}
use Rattle.sd_invariants.proofs.Ready.{kept_reached, reached_ready}
use Rattle.sd_invariants.proofs.RunningLemmas.{one_kept, opening_one}
use Rattle.sd_invariants.proofs.All.{threads_law}
use Rattle.sd_footprint.proofs.RanLast.{reached_ran}
use Rattle.sd_homes.specs.declared.list_id.ListId.{ListId}
use Rattle.sd_homes.specs.declared.list_id.ListId.TheVariants.{Runs, Queues, Urgent, Waits, Sleeps, Naps, Ends}
use Rattle.sd_homes.specs.Standing.{IsArranged, IsUnusedKey, Lists, IsKeyFor, MayCome, home_at, insert_at, list_at, list_of, look_of, record_key, record_of, stands, stands_at, with_one}
use Rattle.sd_homes.specs.declared.home.Home.{Home}
use Rattle.sd_homes.specs.Families.{home_id, list_in, putting}
use Rattle.sd_hand.specs.Hands.{IsHeld, edit, held}
use Rattle.sd_homes.specs.Numbers.{IsHomeOf}
use Rattle.sd_hand.specs.OneHome.{AreAllHomes, lists_with}
use Rattle.sd_hand.specs.Shown.{IsHome, IsListThere, Shows, ShowsState}
use Rattle.sd_hand.proofs.OneLemmas.{stands_once}
use Rattle.sd_hand.proofs.HomeLemmas.{keeps-with_list, put_shows}
use Rattle.sd_hand.proofs.SlotLemmas.{edit_held, same_default}
use Rattle.sd_footprint.specs.Changed.{RanThere}
use Rattle.sd_footprint.proofs.ThereLemmas.{list_there}
use Rattle.sd_world.specs.Homes.{AllHomes, AreBare, ArePlaced, HasBare, IsBare, IsNumber, IsNumberAt, IsPlaced, ShowsNone, Sizes, how_many, index_of, sizes_of, threads_below}
use Rattle.sd_world.proofs.NumberLemmas.{held_slot, index_below, placed_apart, placed_only, slot_of_number}

-- what is known of the threads of a state
pub record IsOrderly (n : ℕ) (s : State) : Type 0 where
  pub within : KeysWithin n s
  pub differ : KeysDiffer s
  pub one : OneRuns s
  pub ran : (t : ℕ) → RanThere (thread_of s t)
  pub there : (t : ℕ) → IsListThere (list_of (thread_of s t))

-- The threads by number.

pub below_none : (t : ℕ) (s : State) → threads_below t s t ≡ None
below_none t s = let no : nat_lt t t ≡ false = grind (arith, nat_tests) in rw no refl

pub below_first : (s : State) (u : ℕ) → threads_below 0 s u ≡ None
below_first s u = let no : nat_lt u 0 ≡ false = grind (arith, nat_tests) in rw no refl

pub below_more : (t : ℕ) (s : State) → t < length s.threads → with_one t (thread_of s t) (threads_below t s) ≡ threads_below (t + 1) s
below_more t s inside = λ i u. by u (cases_eq u t) i
  where
    by : (u : ℕ) → (u ≡ t) ⊎ (u ≢ t) → with_one t (thread_of s t) (threads_below t s) u ≡ threads_below (t + 1) s u
    by u (inl is) =
        let here : (u == t) ≡ true = grind (arith, nat_tests) in
        let less : nat_lt u (t + 1) ≡ true = grind (arith, nat_tests) in
        rw (here, less) (sym (ap (look_of s) is ∙ slice_get-get_or s.threads t no_thread inside))
    by u (inr other) = elim (cases_lt u t) [
      | inl before ↦
          let away : (u == t) ≡ false = grind (arith, nat_tests) in
          let less : nat_lt u t ≡ true = grind (arith, nat_tests) in
          let more : nat_lt u (t + 1) ≡ true = grind (arith, nat_tests) in
          rw (away, less, more) refl
      | inr behind ↦
          let away : (u == t) ≡ false = grind (arith, nat_tests) in
          let no : nat_lt u t ≡ false = grind (arith, nat_tests) in
          let none : nat_lt u (t + 1) ≡ false = grind (arith, nat_tests) in
          rw (away, no, none) refl
    ]

pub below_all : (s : State) → threads_below (length s.threads) s ≡ look_of s
below_all s = λ i u. by u (cases_lt u (length s.threads)) i
  where
    by : (u : ℕ) → (u < length s.threads) ⊎ (length s.threads ≤ u) → threads_below (length s.threads) s u ≡ look_of s u
    by u (inl inside) = let less : nat_lt u (length s.threads) ≡ true = grind (arith, nat_tests) in rw less refl
    by u (inr past) = let no : nat_lt u (length s.threads) ≡ false = grind (arith, nat_tests) in rw no (sym (slice_get_past s.threads u past))

-- one of those below is one of the state's, with a smaller number
record IsBelow (t : ℕ) (s : State) (u : ℕ) (y : ThreadState) : Type 0 where
  pub inside : u < length s.threads
  pub is : thread_of s u ≡ y
  pub below : u < t

of_below : (t : ℕ) (s : State) (u : ℕ) (y : ThreadState) → threads_below t s u ≡ Some y → IsBelow t s u y
of_below t s u y e = by (cases_lt u t)
  where
    by : (u < t) ⊎ (t ≤ u) → IsBelow t s u y
    by (inl before) =
        let less : nat_lt u t ≡ true = grind (arith, nat_tests) in
        let there : look_of s u ≡ Some y = rw less at e in
        record { inside = slice_get_within s.threads u y there; is = get_or_from_slice_get s.threads u y no_thread there; below = before }
    by (inr behind) = let no : nat_lt u t ≡ false = grind (arith, nat_tests) in let none = rw no at e in absurd cc

-- Two threads in one list with keys are in one queue.

turned : (a b : ℕ) → (a == b) ≡ true → (b == a) ≡ true
turned a b e = let same : a ≡ b = eqb-true a b e in let back : (b == a) ≡ true = grind (arith, nat_tests) in back

abbrev pub InQueue : Place → Place → Type 0
InQueue p q = (same_queue p q ≡ true) × (record_key q ≡ key_of q)

queued_with : (c : CpuId) (k : ℤ) (q : Place) → stands_at (Queues c) c q ≡ true → InQueue (Queued c k) q
queued_with c k (Queued d j) e = (turned d.0 c.0 e, refl)
queued_with c k _ e = absurd (false≢true e)

urgent_with : (p : SetId) (k : ℤ) (last : CpuId) (q : Place) → stands_at (Urgent p) last q ≡ true → InQueue (RealTime p k) q
urgent_with p k last (RealTime r j) e = (turned r.0 p.0 e, refl)
urgent_with p k last _ e = absurd (false≢true e)

waits_with : (l : LockId) (side : Side) (k : ℤ) (last : CpuId) (q : Place) → stands_at (Waits l side) last q ≡ true → InQueue (Waiting l side k) q
waits_with l side k last (Waiting m other j) e =
    (and_from (l.0 == m.0) (same_side side other) (turned m.0 l.0 (and_left (m.0 == l.0) (same_side side other) e)) (and_right (m.0 == l.0) (same_side side other) e), refl)
waits_with l side k last _ e = absurd (false≢true e)

sleeps_with : (ch : ChanId) (k : ℤ) (last : CpuId) (q : Place) → stands_at (Sleeps ch) last q ≡ true → InQueue (Asleep ch k) q
sleeps_with ch k last (Asleep dh j) e = (turned dh.0 ch.0 e, refl)
sleeps_with ch k last _ e = absurd (false≢true e)

-- the keys of those below differ from that of thread t in one queue with it
free_by : (n t : ℕ) (s : State) (p : Place) (sp : ListId) → IsOrderly n s → t < length s.threads → (thread_of s t).place ≡ p
    → ((last : CpuId) (q : Place) → stands_at sp last q ≡ true → InQueue p q) → IsUnusedKey (threads_below t s) sp (key_of p)
free_by n t s p sp orderly inside is queue u y e on same =
    let b = of_below t s u y e in
    let (together, key) = queue y.body.last y.place on in
    let place : (thread_of s u).place ≡ y.place = ap (λ (x : ThreadState). x.place) b.is in
    let one : t ≡ u = orderly.differ t u inside b.inside
    (ap (λ q. same_queue q (thread_of s u).place) is ∙ (ap (same_queue p) place ∙ together))
    (ap key_of is ∙ (sym same ∙ (key ∙ sym (ap key_of place)))) in
    let below = b.below in
    absurd (omega arith)

key_for : (n t : ℕ) (s : State) (p : Place) (sp : ListId) → IsOrderly n s → t < length s.threads → (thread_of s t).place ≡ p → has_key p ≡ true
    → ((last : CpuId) (q : Place) → stands_at sp last q ≡ true → InQueue p q) → IsKeyFor n n (threads_below t s) sp (key_of p)
key_for n t s p sp orderly inside is keyed queue =
    let (least, below) = orderly.within t inside (ap has_key is ∙ keyed) in
    record {
      after = record { least = subst (λ q. neg_ℤ (pos n) ≤ℤ key_of q) is least; below = subst (λ q. key_of q <ℤ pos (4096 + n)) is below };
      free = inr (inr (free_by n t s p sp orderly inside is queue));
    }

-- nobody below runs where thread t runs
alone : (n t : ℕ) (s : State) (c : CpuId) → IsOrderly n s → t < length s.threads → (thread_of s t).place ≡ Running c
    → (u : ℕ) (y : ThreadState) → threads_below t s u ≡ Some y → stands (Runs c) y ≡ false
alone n t s c orderly inside is u y e = elim (cases_Bool (stands (Runs c) y)) [
  | inl on ↦
      let b = of_below t s u y e in
      let here : (c.0 == c.0) ≡ true = grind (arith, nat_tests) in
      let one : t ≡ u = orderly.one t u c.0 inside b.inside (ap (is_running c.0) is ∙ here) (ap (λ (x : ThreadState). is_running c.0 x.place) b.is ∙ on) in
      let below = b.below in
      absurd (omega arith)
  | inr off ↦ off
]

may_come : (n t : ℕ) (s : State) → IsOrderly n s → t < length s.threads → MayCome n n (threads_below t s) (list_of (thread_of s t)) (thread_of s t)
may_come n t s orderly inside = by (thread_of s t).place refl
  where
    last : CpuId
    last = (thread_of s t).body.last

    by : (p : Place) → (thread_of s t).place ≡ p → MayCome n n (threads_below t s) (list_at last p) (record { body = (thread_of s t).body; place = p })
    by (Running c) is = (orderly.ran t c is, alone n t s c orderly inside is)
    by (Queued c k) is = key_for n t s (Queued c k) (Queues c) orderly inside is refl (λ l q on. queued_with c k q on)
    by (RealTime p k) is = key_for n t s (RealTime p k) (Urgent p) orderly inside is refl (λ l q on. urgent_with p k l q on)
    by (Waiting l side k) is = key_for n t s (Waiting l side k) (Waits l side) orderly inside is refl (λ d q on. waits_with l side k d q on)
    by (Asleep ch k) is = key_for n t s (Asleep ch k) (Sleeps ch) orderly inside is refl (λ l q on. sleeps_with ch k l q on)
    by (Napping c due) is = tt
    by Ended is = tt

-- one thread more stands in its home
pub one_comes : (n t : ℕ) (s : State) (hs : List (Option Home)) → IsOrderly n s → t < length s.threads → Shows n s (threads_below t s) hs
    → Shows n s (threads_below (t + 1) s) (edit (home_at (list_of (thread_of s t))) (putting (record_of t (thread_of s t)) (list_of (thread_of s t))) hs)
one_comes n t s hs orderly inside shows =
    let x = thread_of s t in
    subst (λ look. Shows n s look (edit (home_at (list_of x)) (putting (record_of t x) (list_of x)) hs)) (below_more t s inside)
    (put_shows n n s (threads_below t s) t x hs (le_refl n) (below_none t s) (may_come n t s orderly inside) (orderly.there t) shows)

pub all_came : (n : ℕ) (s : State) (hs : List (Option Home)) → Shows n s (threads_below (length s.threads) s) hs → ShowsState n s hs
all_came n s hs shows = subst (λ look. Shows n s look hs) (below_all s) shows

-- In every state of every run.

there_list : (w : Work) (last : CpuId) (p : Place) → IsPlaceThere w p → IsListThere (list_at last p)
there_list w last (Waiting l side k) is = let most = w.most_locks in omega arith
there_list w last (Asleep ch k) is = let most = w.most_chans in omega arith
there_list w last p is = tt

pub reached_orderly : (w : Work) (n : ℕ) (s : State) → IsReached w n s → IsOrderly n s
reached_orderly w n s reached = record {
  within = keys_within_law w n s reached;
  differ = keys_differ_law w n s reached;
  one = kept_reached (λ w s. OneRuns s) (record { start = opening_one; step = one_kept }) w n s reached;
  ran = reached_ran w n s reached;
  there = λ t. there_list w (thread_of s t).body.last (thread_of s t).place (threads_law w n s reached t).place;
}

-- Homes without threads stand for no thread.

empty_lists : (n : ℕ) (sp : ListId) → Lists n sp [] (λ t. None)
empty_lists n sp = record { each = λ t. refl; once = tt; arranged = arranged sp }
  where
    arranged : (sp : ListId) → IsArranged n sp []
    arranged (Queues c) = record { ranked = tt; apart = tt; after = tt }
    arranged (Urgent p) = record { ranked = tt; apart = tt; after = tt }
    arranged (Waits l side) = record { ranked = tt; apart = tt; after = tt }
    arranged (Sleeps k) = record { ranked = tt; apart = tt; after = tt }
    arranged (Naps c) = tt
    arranged (Runs c) = tt
    arranged (Ends c) = tt

bare_home : (n : ℕ) (s : State) (h : Home) → IsBare s h → IsHome n s (λ t. None) h
bare_home n s h bare = record {
  lists = λ sp at. subst (λ rs. Lists n sp rs (λ t. None)) (sym (bare.lists sp)) (empty_lists n sp);
  parts = bare.parts;
}

pub bare_shows : (s : State) (m : ℕ) (slots : List (Option Home)) → AreBare s m slots → (n : ℕ) → Shows n s (λ t. None) slots
bare_shows s m slots are n k h is = by (held_slot k slots h is)
  where
    by : (i : ℕ) × (slice_get slots i ≡ Some (Some h)) → IsHome n s (λ t. None) h
    by (i, there) =
        let bound = slice_get_within slots i (Some h) there in
        let many = are.many in
        let at = are.each i (omega arith) in
        let and_from : Some (Some at.home) ≡ Some (Some h) = sym at.there ∙ there in
        let same : at.home ≡ h = cc in
        subst (λ g. IsHome n s (λ t. None) g) same (bare_home n s at.home at.bare)

pub bare_placed : (s : State) (slots : List (Option Home)) → AreBare s (how_many (sizes_of s)) slots → ArePlaced (sizes_of s) slots
bare_placed s slots are = record { many = are.many; each = placed }
  where
    placed : (i : ℕ) (h : Home) → slice_get slots i ≡ Some (Some h) → IsPlaced (sizes_of s) i h
    placed i h there =
        let bound = slice_get_within slots i (Some h) there in
        let many = are.many in
        let at = are.each i (omega arith) in
        let and_from : Some (Some at.home) ≡ Some (Some h) = sym at.there ∙ there in
        let same : at.home ≡ h = cc in
        subst (λ g. IsPlaced (sizes_of s) i g) same at.placed

pub bare_all : (s : State) (slots : List (Option Home)) → AreBare s (how_many (sizes_of s)) slots → (k : HomeId) → IsNumber (sizes_of s) k → IsHeld k slots
bare_all s slots are k number =
    let at = are.each (index_of (sizes_of s) k) (index_below (sizes_of s) k number) in
    let slot = slot_of_number (sizes_of s) slots k at.home (bare_placed s slots are) number at.there in
    (slot.home, slot.first)

-- a home of the state is one of its numbers
pub number_of_home : (s : State) (k : HomeId) → IsHomeOf s k → IsNumber (sizes_of s) k
number_of_home s (id.Cpu c) is = is
number_of_home s (id.RealTime p) is = is
number_of_home s (id.Chain i) is = is
number_of_home s (id.Sleepers i) is = is

pub home_of_number : (s : State) (k : HomeId) → IsNumber (sizes_of s) k → IsHomeOf s k
home_of_number s (id.Cpu c) is = is
home_of_number s (id.RealTime p) is = is
home_of_number s (id.Chain i) is = is
home_of_number s (id.Sleepers i) is = is

-- all homes of a state of a run, in which its threads have come to stand

pub all_homes : (w : Work) (n : ℕ) (s : State) (z : Sizes) (hs : List (Option Home)) → IsReached w n s → z ≡ sizes_of s → ArePlaced z hs → ((k : HomeId) → IsNumber z k → IsHeld k hs) → ShowsState n s hs → AreAllHomes n s hs
all_homes w n s z hs reached sizes placed all shows = record {
  shown = shows;
  apart = placed_apart z hs placed;
  all = λ k is. all k (subst (λ y. IsNumber y k) (sym sizes) (number_of_home s k is));
  only = λ k is. home_of_number s k (subst (λ y. IsNumber y k) sizes (placed_only z hs k placed is));
  locks = (let fits = (reached_ready w n s reached).fits.locks in let most = w.most_locks in omega arith);
  chans = (let fits = (reached_ready w n s reached).fits.chans in let most = w.most_chans in omega arith);
}

pub one_list : (w : Work) (n : ℕ) (s : State) (hs : List (Option Home)) → IsReached w n s → AreAllHomes n s hs → (t : ℕ) → t < length s.threads → lists_with t hs ≡ 1
one_list w n s hs reached all t inside =
    let there = threads_law w n s reached t in
    stands_once n s hs t all inside (list_there w s (thread_of s t).body.last (thread_of s t).place (reached_ready w n s reached).fits there.last there.place)

-- The threads that have come to their homes so far.

pub few_threads : (w : Work) (n : ℕ) (s : State) (xs : List ThreadState) (t : ℕ) → IsReached w n s → xs ≡ s.threads → t < length xs → t < 65536
few_threads w n s xs t reached is inside =
    let many = ap length is in
    let fits = (reached_ready w n s reached).fits.threads in
    let most = w.most_threads in
    omega arith

pub thread_at : (s : State) (xs : List ThreadState) (t : ℕ) (x : ThreadState) → xs ≡ s.threads → t < length xs → x ≡ get_or xs t x → x ≡ thread_of s t
thread_at s xs t x is inside e = e ∙ (same_default xs t x no_thread inside ∙ ap (λ ys. get_or ys t no_thread) is)

pub sound_at : (w : Work) (n : ℕ) (s : State) (xs : List ThreadState) (t : ℕ) (x : ThreadState) → IsReached w n s → xs ≡ s.threads → t < length xs → x ≡ get_or xs t x → InheritsSoundly x.body
sound_at w n s xs t x reached is inside e = subst (λ (y : ThreadState). InheritsSoundly y.body) (sym (thread_at s xs t x is inside e)) (sound_law w n s reached t).0

-- so many threads of the state stand in the homes, none of which is given out
pub record Settling (n : ℕ) (s : State) (t : ℕ) (first now : AllHomes) : Type 0 where
  pub shows : Shows n s (threads_below t s) now.slots
  pub all : (k : HomeId) → IsNumber now.sizes k → IsHeld k now.slots
  pub sizes : now.sizes ≡ first.sizes

pub settles_first : (n : ℕ) (s : State) (hs : AllHomes) → ShowsNone s hs → Settling n s 0 hs hs
settles_first n s hs none = record {
  shows = subst (λ look. Shows n s look hs.slots) (λ i u. sym (below_first s u) i) (none.none n);
  all = none.all;
  sizes = refl;
}

still_held : (k : HomeId) (at : ListId) (r : ThreadRecord) (hs : List (Option Home)) → IsHeld k hs → IsHeld k (edit (home_at at) (putting r at) hs)
still_held k at r hs (h, is) = by (held k (edit (home_at at) (putting r at) hs)) refl
  where
    same : is_some (held k (edit (home_at at) (putting r at) hs)) ≡ true
    same = edit_held (home_at at) k (putting r at) (keeps-with_list at (λ h. insert_at at r (list_in h at))) hs ∙ ap is_some is

    by : (o : Option Home) → held k (edit (home_at at) (putting r at) hs) ≡ o → IsHeld k (edit (home_at at) (putting r at) hs)
    by (Some g) e = (g, e)
    by None e = absurd (false≢true (sym (ap is_some e) ∙ same))

pub settles_next : (w : Work) (n : ℕ) (s : State) (t : ℕ) (x : ThreadState) (first now new : AllHomes) (at : ListId) (r : ThreadRecord) → IsReached w n s → t < length s.threads → x ≡ thread_of s t
    → Settling n s t first now → at ≡ list_of x → r ≡ record_of t x → new.slots ≡ edit (home_at at) (putting r at) now.slots → new.sizes ≡ now.sizes → Settling n s (t + 1) first new
settles_next w n s t x first now new at r reached inside is settling place record-is moved sizes = record {
  shows = subst (λ hs. Shows n s (threads_below (t + 1) s) hs) (sym edited) (one_comes n t s now.slots (reached_orderly w n s reached) inside settling.shows);
  all = λ k number. subst (IsHeld k) (sym moved) (still_held k at r now.slots (settling.all k (subst (λ z. IsNumber z k) sizes number)));
  sizes = sizes ∙ settling.sizes;
}
  where
    edited : new.slots ≡ edit (home_at (list_of (thread_of s t))) (putting (record_of t (thread_of s t)) (list_of (thread_of s t))) now.slots
    edited = moved ∙ (λ i. edit (home_at ((place ∙ ap list_of is) i)) (putting ((record-is ∙ ap (record_of t) is) i) ((place ∙ ap list_of is) i)) now.slots)

pub settles_last : (n : ℕ) (s : State) (t : ℕ) (first now : AllHomes) → t ≡ length s.threads → Settling n s t first now → ShowsState n s now.slots
settles_last n s t first now is settling = all_came n s now.slots (subst (λ m. Shows n s (threads_below m s) now.slots) is settling.shows)

append_left : {X : Type 0} (xs ys : List X) (j : ℕ) → j < length xs → slice_get (xs ++ ys) j ≡ slice_get xs j
append_left [] ys j h = absurd (omega arith)
append_left (x ∷ xs) ys zero h = refl
append_left (x ∷ xs) ys (suc j) h = append_left xs ys j (omega arith)

-- one home without threads more
pub bare_more : (s : State) (i : ℕ) (old new : List (Option Home)) (k : HomeId) (h : Home) → AreBare s i old → IsNumberAt (sizes_of s) i k → home_id h ≡ k → IsBare s h → new ≡ old ++ Some h ∷ [] → AreBare s (i + 1) new
bare_more s i old new k h are number id-is bare pushed = subst (AreBare s (i + 1)) (sym pushed) (record { many = many; each = λ j below. by j below (cases_lt j i) })
  where
    many : length (old ++ Some h ∷ []) ≡ i + 1
    many = length-append old (Some h ∷ []) ∙ ap (λ m. m + 1) are.many

    by : (j : ℕ) → j < i + 1 → (j < i) ⊎ (i ≤ j) → HasBare s (old ++ Some h ∷ []) j
    by j below (inl before) =
        let at = are.each j before in
        let bound = are.many in
        record { home = at.home; there = append_left old (Some h ∷ []) j (omega arith) ∙ at.there; placed = at.placed; bare = at.bare }
    by j below (inr behind) =
        let same : j ≡ i = omega arith in
        let many = are.many in
        let last : j ≡ length old = omega arith in
        record {
          home = h;
          there = ap (slice_get (old ++ Some h ∷ [])) last ∙ get_last old (Some h);
          placed = record { number = subst (IsNumber (sizes_of s)) (sym id-is) number.1; index = ap (index_of (sizes_of s)) id-is ∙ (number.0 ∙ sym same) };
          bare = bare;
        }

pub bare_none : (s : State) (slots : List (Option Home)) → slots ≡ [] → AreBare s 0 slots
bare_none s slots is = subst (AreBare s 0) (sym is) (record { many = refl; each = λ i below. absurd (omega arith) })

pub few_homes : (w : Work) (n : ℕ) (s : State) → IsReached w n s → (length s.cpus ≤ 64) × (length s.open_cpus ≤ 256)
few_homes w n s reached =
    let cpus = (reached_ready w n s reached).fits.cpus in
    let sets = (reached_ready w n s reached).fits.sets in
    let few = w.most_cpus in
    let most = w.most_sets in
    (omega arith, omega arith)

pub shows_none : (s : State) (z : Sizes) (slots : List (Option Home)) → z ≡ sizes_of s → AreBare s (how_many (sizes_of s)) slots → ShowsNone s (record { sizes = z; slots = slots })
shows_none s z slots same are = record {
  sizes = same;
  all = λ k number. bare_all s slots are k (subst (λ y. IsNumber y k) same number);
  none = bare_shows s (how_many (sizes_of s)) slots are;
}
