-- A world that gives homes out one by one.
use Rattle.std.proofs.Common.{◌≡◌, ℕ, ◌+◌, ◌<◌, ◌≤◌, ◌⊎◌, true, false, ◌||◌, List, ◌++◌, length, is_some, set, Option, Some, None, refl, sym, ap, ◌∙◌, subst, inl, inr, arith}
use Rattle.std.specs.Prelude.{nat_le}
use Rattle.std.proofs.lemmas.Bool.{false≢true}
use Rattle.std.proofs.lemmas.Bool.Decides.{nat_tests}
use Rattle.sd_basics.proofs.Lists.{some_of}
use Rattle.sd_types.specs.declared.numbers.CpuId.{CpuId}
use Rattle.sd_types.specs.declared.numbers.HomeId.{HomeId}
use Rattle.sd_types.specs.declared.numbers.HomeId.TheVariants as home
use Rattle.sd_types.specs.declared.numbers.ThreadId.{ThreadId}
use Rattle.sd_types.specs.declared.events.Entry.{Entry}
use Rattle.sd_types.specs.declared.events.Event.{Event}
use Rattle.sd_types.specs.declared.events.Hints.{Hints}
use Rattle.sd_types.specs.declared.works.Work.{Work}
use Rattle.sd_state.specs.declared.states.State.{State}
use Rattle.sd_state.specs.States.{cpu_of, thread_of}
use Rattle.sd_machine.specs.Events.{after}
use Rattle.sd_machine.proofs.ShapeLemmas.{after_shape}
use Rattle.sd_store.specs.declared.parts.Part.{Part}
use Rattle.sd_store.specs.declared.parts.Part.TheVariants as part
use Rattle.sd_store.specs.Parts.{IsAmong, cpu_part}
use Rattle.sd_step.specs.Touched.{after_parts}
use Rattle.sd_homes.specs.declared.list_id.ListId.{ListId}
use Rattle.sd_homes.specs.Standing.{home_at, home_of, look_of}
use Rattle.sd_world.specs.Told.{IsActorOf}
use Rattle.sd_homes.specs.declared.home.Home.{Home}
use Rattle.sd_homes.specs.Families.{home_id}
use Rattle.sd_hand.specs.declared.acting.Acting.{Acting}
use Rattle.sd_hand.specs.declared.acting.Actor.{Actor}
use Rattle.sd_hand.specs.Acting.{IsShown, has_part}
use Rattle.sd_hand.specs.Hands.{AreApart, HandSlots, HasNoRoom, IsHeld, StandsIn, has_thread, held, how_many_held}
use Rattle.sd_hand.specs.Shown.{IsHome, ShowsState}
use Rattle.sd_hand.proofs.CountLemmas.{as_many, none_held}
use Rattle.sd_hand.proofs.MoveLemmas.{held_by}
use Rattle.sd_hand.proofs.SlotLemmas.{held_id}
use Rattle.sd_hand.proofs.StandLemmas.{home_held}
use Rattle.sd_footprint.specs.Homes.{home_in}
use Rattle.sd_footprint.proofs.RanLast.{reached_changes}
use Rattle.sd_world.specs.Entries.{CanEnter, Enters}
use Rattle.sd_world.specs.Frames.{IsElsewhere}
use Rattle.sd_world.specs.Plain.{Stands, StandsInRun, told}
use Rattle.sd_world.specs.Worlds.{CanCommit, CanLock, CanTake, Gains, IsGood, IsQuiet, IsStopped, Rises, Stays, after_run}
use Rattle.sd_world.proofs.OtherHomes.{other_home}
use Rattle.sd_world.proofs.PlainLemmas.{cpu_inside, has_cpu, has_there, reached, same_actor, steps}
use Rattle.sd_world.proofs.WorldLemmas.{begins_same}
use Rattle.sd_hand_tests.specs.declared.hostile_world.HostileWorld.{HostileWorld}
use Rattle.sd_hand_tests.specs.Hostile.{HasHome, IsHostile, Moves, hostile_meaning, whole}
use Rattle.sd_hand_tests.specs.Plan.{ArePossible}
use Rattle.sd_hand_tests.proofs.WholeLemmas.{AreTwo, all_same, apart_empty, apart_left, apart_right, apart_two, apart_whole, has_both, held_both, left_held, most_held, others_held, right_held, same_whole, two_after, two_before, first_of}

abbrev pub near_of : HostileWorld → List (Option Home)
near_of x = x.near.hand.slots

abbrev pub others_of : HostileWorld → List (Option Home)
others_of x = x.inner.acting.hand.slots

abbrev pub work_of : HostileWorld → Work
work_of x = x.inner.work.now

abbrev pub state_of : HostileWorld → State
state_of x = told (work_of x) (whole x)

abbrev pub many_of : HostileWorld → ℕ
many_of x = length x.inner.entries.items

module _ (x : HostileWorld) (st : Stands (work_of x) (whole x)) where
  pub two : AreTwo (near_of x) (others_of x)
  two = apart_two (near_of x) (others_of x) st.all.apart

  pub near_shown : IsShown x.near (many_of x) (state_of x)
  near_shown = record {
    homes = λ k h e. st.all.shown k h (left_held k h (near_of x) (others_of x) e);
    apart = apart_left (near_of x) (others_of x) st.all.apart;
    inside = st.inside;
    count = st.acts.count;
    duty = st.acts.duty;
    locks = st.all.locks;
    chans = st.all.chans;
  }

  pub others_shown : x.inner.acting.actor ≡ x.near.actor → IsShown x.inner.acting (many_of x) (state_of x)
  others_shown same = record {
    homes = λ k h e. st.all.shown k h (others_held k h (near_of x) (others_of x) two e);
    apart = apart_right (near_of x) (others_of x) st.all.apart;
    inside = subst (λ a. a.cpu.0 < length (state_of x).cpus) (sym same) st.inside;
    count = subst (λ a. a.count ≡ (cpu_of (state_of x) a.cpu.0).count) (sym same) st.acts.count;
    duty = subst (λ a. a.duty ≡ (cpu_of (state_of x) a.cpu.0).duty) (sym same) st.acts.duty;
    locks = st.all.locks;
    chans = st.all.chans;
  }

  pub near_in_run : StandsInRun x.near
  near_in_run = record { work = work_of x; number = many_of x; state = state_of x; reached = reached (work_of x) (whole x) st; shown = near_shown }

  pub others_in_run : x.inner.acting.actor ≡ x.near.actor → StandsInRun x.inner.acting
  others_in_run same = record { work = work_of x; number = many_of x; state = state_of x; reached = reached (work_of x) (whole x) st; shown = others_shown same }

  pub hostile_good : IsGood (hostile_meaning x)
  hostile_good = record {
    stands = record { run = st.run; begins = begins_same x.inner.entries.items; still = λ e. refl; shown = near_shown };
    cpu = cpu_inside (work_of x) (whole x) st;
    everything = λ e h may p there. absurd (false≢true e);
    reached = λ d n is h may. subst (λ l. n ≤ (cpu_of (after_run (hostile_meaning x) l) d).count) (sym (may.still refl)) (let z : nat_le n (cpu_of (state_of x) d).count ≡ true = is in grind (arith, nat_tests));
  }

pub is_hostile : (x : HostileWorld) → Stands (work_of x) (whole x) → x.inner.acting.actor ≡ x.near.actor → how_many_held (near_of x) + how_many_held (others_of x) ≤ length (others_of x) → ArePossible x.plan.items → IsHostile x
is_hostile x st actor room possible = record { stands = st; actor = actor; room = room; possible = possible; good = hostile_good x st }

-- ---- calls and stops are counted
pub counted : (x : HostileWorld) (n : ℕ) → IsHostile x → IsHostile (record x { calls = n })
counted x n is = record { stands = is.stands; actor = is.actor; room = is.room; possible = is.possible; good = is.good }

pub stopped_good : (x : HostileWorld) (n : ℕ) → IsHostile x → IsHostile (record x { stops = n })
stopped_good x n is = is_hostile (record x { stops = n }) is.stands is.actor is.room is.possible

pub stops_stay : (x : HostileWorld) (n : ℕ) → Stays (hostile_meaning x) (hostile_meaning (record x { stops = n }))
stops_stay x n = record { table = refl; work = refl; alone = refl; all = refl; actor = refl; log = refl; begins = begins_same x.inner.entries.items; still = λ e. refl; hinted = λ c which m h. h; counted = λ c m h. h }

pub is_stopped : (x : HostileWorld) (n : ℕ) → Rises x.stops n → IsStopped (hostile_meaning x) (hostile_meaning (record x { stops = n }))
is_stopped x n rises = record { stays = stops_stay x n; acting = refl; stops = rises }

-- ---- with these homes in its hands
abbrev pub with_hands : HostileWorld → HandSlots → HandSlots → HostileWorld
with_hands x p q = record x { near = record x.near { hand = p }; inner = record x.inner { acting = record x.inner.acting { hand = q } } }

pub rehanded : (x : HostileWorld) (p q : HandSlots) → IsHostile x → ((k : HomeId) → held k (p.slots ++ q.slots) ≡ held k (near_of x ++ others_of x)) → AreApart (p.slots ++ q.slots)
    → how_many_held p.slots + how_many_held q.slots ≤ length q.slots → IsHostile (with_hands x p q)
rehanded x p q is same apart room =
    is_hostile (with_hands x p q)
    (record {
      run = is.stands.run;
      all = all_same (many_of x) (state_of x) (near_of x ++ others_of x) (p.slots ++ q.slots) same apart is.stands.all;
      actors = is.stands.actors;
      inside = is.stands.inside;
      acts = is.stands.acts;
      stood = is.stands.stood;
    })
    is.actor room is.possible

pub hands_stay : (x : HostileWorld) (p q : HandSlots) → Stays (hostile_meaning x) (hostile_meaning (with_hands x p q))
hands_stay x p q = record { table = refl; work = refl; alone = refl; all = refl; actor = refl; log = refl; begins = begins_same x.inner.entries.items; still = λ e. refl; hinted = λ c which m h. h; counted = λ c m h. h }

-- ---- a home goes to the processor
pub fetched_good : (x y : HostileWorld) (h : Home) → IsHostile x → Moves x y h → AreApart (others_of y) → IsHostile y
fetched_good x y h is moves apart =
    let before = two x is.stands in
    let near = moves.near.apart (apart_left (near_of x) (others_of x) is.stands.all.apart) in
    let more = moves.more in
    let fewer = moves.fewer in
    let slots = moves.room in
    let room = is.room in
    subst IsHostile (sym moves.rest)
    (rehanded x y.near.hand y.inner.acting.hand is (same_whole (near_of x) (others_of x) (near_of y) (others_of y) h moves.near moves.others)
    (apart_whole (near_of y) (others_of y) near apart (two_after (near_of x) (others_of x) (near_of y) (others_of y) h moves.near moves.others before)) (omega (arith, more, fewer, slots, room)))

pub fetched_gains : (x y : HostileWorld) (h : Home) → Moves x y h → Gains (hostile_meaning x) (hostile_meaning y) h
fetched_gains x y h moves = record {
  stays = subst (λ z. Stays (hostile_meaning x) (hostile_meaning z)) (sym moves.rest) (hands_stay x y.near.hand y.inner.acting.hand);
  quiet = subst (λ z. IsQuiet (hostile_meaning x) (hostile_meaning z)) (sym moves.rest) (record { stops = refl; notes = refl; misses = refl });
  more = moves.near;
  count = moves.more;
}

-- ---- and back: x has the home that y has given back
back : (x y : HostileWorld) (h : Home) → Moves y x h → y ≡ with_hands x y.near.hand y.inner.acting.hand
back x y h moves =
    let e = moves.rest in
    subst (λ z. y ≡ with_hands z y.near.hand y.inner.acting.hand) (sym e) refl

pub given_good : (x y : HostileWorld) (h : Home) → IsHostile x → Moves y x h → AreApart (near_of y) → IsHostile y
given_good x y h is moves apart =
    let after = two x is.stands in
    let others = moves.others.apart (apart_right (near_of x) (others_of x) is.stands.all.apart) in
    let more = moves.more in
    let fewer = moves.fewer in
    let slots = moves.room in
    let room = is.room in
    subst IsHostile (sym (back x y h moves))
    (rehanded x y.near.hand y.inner.acting.hand is (λ k. sym (same_whole (near_of y) (others_of y) (near_of x) (others_of x) h moves.near moves.others k))
    (apart_whole (near_of y) (others_of y) apart others (two_before (near_of y) (others_of y) (near_of x) (others_of x) h moves.near moves.others after)) (omega (arith, more, fewer, slots, room)))

pub given_stays : (x y : HostileWorld) (h : Home) → Moves y x h → Stays (hostile_meaning x) (hostile_meaning y) × IsQuiet (hostile_meaning x) (hostile_meaning y)
given_stays x y h moves = (
  subst (λ z. Stays (hostile_meaning x) (hostile_meaning z)) (sym (back x y h moves)) (hands_stay x y.near.hand y.inner.acting.hand),
  subst (λ z. IsQuiet (hostile_meaning x) (hostile_meaning z)) (sym (back x y h moves)) (record { stops = refl; notes = refl; misses = refl }),
)

-- ---- what is held is elsewhere than the others
held_none : (k : HomeId) (hs rs : List (Option Home)) (h : Home) → AreTwo hs rs → held k rs ≡ Some h → IsHeld k hs → ⊥
held_none k hs rs h apart e is = let no : None ≡ Some h = sym (apart k is) ∙ e in absurd cc

module _ (x : HostileWorld) (st : Stands (work_of x) (whole x)) where
  -- the home in which a part lies that the processor holds is one that it holds
  lies_near : (p : Part) (k : HomeId) → has_part x.near p ≡ true → home_in (state_of x) p ≡ Some k → IsHeld k (near_of x)
  lies_near (part.Home j) k has e = subst (λ z. IsHeld z (near_of x)) (let z : j ≡ k = cc in z) (some_of (held j (near_of x)) has)
  lies_near (part.Thread t) k has e =
      subst (λ z. IsHeld z (near_of x)) (let z : home_of (thread_of (state_of x) t.0) ≡ k = cc in z)
      (home_held (many_of x) (state_of x) t.0 (near_of x) (near_shown x st).apart (near_shown x st).homes
      (λ h is. let (g, e) = is in st.all.only (home_id h) (g, left_held (home_id h) g (near_of x) (others_of x) e)) has).1
  lies_near (part.Actor d) k has e = absurd (let z : None ≡ Some k = e in cc)

  -- and so it is none of the others
  pub elsewhere : (ps : List Part) (k : HomeId) (h : Home) → ((p : Part) → IsAmong p ps → has_part x.near p ≡ true) → held k (others_of x) ≡ Some h → k ≡ home_id h → IsElsewhere (state_of x) ps h
  elsewhere ps k h holds e same p among lies =
      held_none k (near_of x) (others_of x) h (two x st) e (lies_near p k (holds p among) (lies ∙ ap Some (sym same)))

-- ---- one entry more
pub may_enter : (x : HostileWorld) (e : Event) (hints : Option Hints) → IsHostile x → CanCommit (hostile_meaning x) (work_of x) e hints → CanEnter (work_of x) x.near x.inner.actors.items x.inner.entries.items e hints
may_enter x e hints is can = record {
  run = is.stands.run;
  few = can.room;
  shown = near_shown x is.stands;
  next = can.makes x.inner.entries.items is.good.stands;
  holds = can.holds x.inner.entries.items is.good.stands;
  there = subst (λ m. x.near.actor.cpu.0 < m) (sym is.stands.actors.many) is.stands.inside;
}

some_first : (o p : Option Home) → is_some (first_of o p) ≡ (is_some o || is_some p)
some_first None p = refl
some_first (Some h) p = refl

module _ (x : HostileWorld) (near : Acting) (e : Event) (hints : Option Hints) (others : List Actor) (more : List Entry) (is : IsHostile x) (can : CanEnter (work_of x) x.near x.inner.actors.items x.inner.entries.items e hints)
    (made : Enters (work_of x) x.near near x.inner.actors.items others x.inner.entries.items more e hints) where
  parts : List Part
  parts = after_parts (work_of x) (state_of x) x.near.actor.cpu e

  abbrev new : State
  new = after (work_of x) (state_of x) (many_of x) x.near.actor.cpu e

  abbrev all_homes : Acting
  all_homes = record { hand = record { slots = near.hand.slots ++ others_of x }; actor = near.actor }

  has : (p : Part) → has_part near p ≡ has_part x.near p
  has p = ap (λ f. f p) made.has

  still_held : (k : HomeId) → IsHeld k near.hand.slots → IsHeld k (near_of x)
  still_held k (g, f) = some_of (held k (near_of x)) (sym (has (part.Home k)) ∙ ap is_some f)

  was_held : (k : HomeId) → IsHeld k (near_of x) → IsHeld k near.hand.slots
  was_held k (g, f) = some_of (held k near.hand.slots) (has (part.Home k) ∙ ap is_some f)

  two_still : AreTwo near.hand.slots (others_of x)
  two_still k is_held = two x is.stands k (still_held k is_held)

  -- a home that the processor does not hold
  other_shown : (k : HomeId) (h : Home) → held k (others_of x) ≡ Some h → IsHome (many_of x + 1) new (look_of new) h
  other_shown k h f =
      let s = state_of x in
      let n = many_of x in
      let w = work_of x in
      let c = x.near.actor.cpu in
      let reach = reached w (whole x) is.stands in
      other_home n s new (after_parts w s c e) h (after_shape w s n c e) (reached_changes w n s c hints e reach can.next)
      (elsewhere x is.stands (after_parts w s c e) k h can.holds f (held_id k h (others_of x) f))
      (is.stands.all.shown k h (others_held k h (near_of x) (others_of x) (two x is.stands) f))

  homes_shown : ShowsState (many_of x + 1) new (near.hand.slots ++ others_of x)
  homes_shown k h f = by (held k near.hand.slots) refl
    where
      by : (o : Option Home) → held k near.hand.slots ≡ o → IsHome (many_of x + 1) new (look_of new) h
      by None g = other_shown k h (sym (right_held k near.hand.slots (others_of x) g) ∙ f)
      by (Some y) g = made.shown.homes k h (g ∙ (sym (left_held k y near.hand.slots (others_of x) g) ∙ f))

  all_shown : IsShown all_homes (many_of x + 1) new
  all_shown = record {
    homes = homes_shown;
    apart = apart_whole near.hand.slots (others_of x) made.shown.apart (apart_right (near_of x) (others_of x) is.stands.all.apart) two_still;
    inside = made.shown.inside;
    count = made.shown.count;
    duty = made.shown.duty;
    locks = made.shown.locks;
    chans = made.shown.chans;
  }

  has_all : (p : Part) → has_part all_homes p ≡ has_part (whole x).acting p
  has_all (part.Home k) =
      ap is_some (held_both k near.hand.slots (others_of x))
      ∙ (some_first (held k near.hand.slots) (held k (others_of x))
      ∙ (ap (λ b. b || is_some (held k (others_of x))) (has (part.Home k)) ∙ (sym (some_first (held k (near_of x)) (held k (others_of x))) ∙ sym (ap is_some (held_both k (near_of x) (others_of x))))))
  has_all (part.Thread t) =
      has_both t.0 near.hand.slots (others_of x) ∙ (ap (λ b. b || has_thread t.0 (others_of x)) (has (part.Thread t)) ∙ sym (has_both t.0 (near_of x) (others_of x)))
  has_all (part.Actor d) = has (part.Actor d)

  pub same_cpu : near.actor.cpu ≡ x.near.actor.cpu
  same_cpu = same_actor x.near near made.has

  pub entered : (y : HostileWorld) → y.near ≡ near → y.inner.acting ≡ record { hand = x.inner.acting.hand; actor = near.actor } → y.inner.work ≡ x.inner.work → y.inner.actors.items ≡ others → y.inner.entries.items ≡ more
      → y.plan ≡ x.plan → IsHostile y
  entered y own rest same actors entries plan =
      let many = as_many near.hand.slots (near_of x) made.shown.apart (near_shown x is.stands).apart still_held was_held in
      let w : work_of y ≡ work_of x = ap (λ b. b.now) same in
      let here : (whole y).acting ≡ all_homes = ap (λ (a : Acting). record { hand = record { slots = a.hand.slots ++ others_of y }; actor = a.actor }) own ∙ ap (λ (a : Acting). record { hand = record { slots = near.hand.slots ++ a.hand.slots }; actor = near.actor }) rest in
      let st : Stands (work_of x) (whole y) =
      steps (work_of x) (whole x) (whole y) e hints is.stands can.next (subst (λ (a : Acting). IsShown a (many_of x + 1) new) (sym here) all_shown)
      (λ p. ap (λ (a : Acting). has_part a p) here ∙ has_all p) (ap (λ (a : Acting). a.actor.cpu) here ∙ same_cpu)
      (actors ∙ (made.actors ∙ ap (λ (a : Acting). set x.inner.actors.items x.near.actor.cpu.0 a.actor) (sym own))) (entries ∙ made.entries) in
      is_hostile y (subst (λ v. Stands v (whole y)) (sym w) st)
      (ap (λ (a : Acting). a.actor) rest ∙ ap (λ (a : Acting). a.actor) (sym own))
      (subst (λ (a : Acting). how_many_held a.hand.slots + how_many_held (others_of y) ≤ length (others_of y)) (sym own)
      (subst (λ (a : Acting). how_many_held near.hand.slots + how_many_held a.hand.slots ≤ length a.hand.slots) (sym rest) (let room = is.room in omega (arith, many, room))))
      (subst (λ p. ArePossible p.items) (sym plan) is.possible)

-- ---- what is asked of the hands
not_held_near : (x : HostileWorld) (k : HomeId) → has_part x.near (part.Home k) ≡ false → held k (near_of x) ≡ None
not_held_near x k fresh = by (held k (near_of x)) refl fresh
  where
    by : (o : Option Home) → held k (near_of x) ≡ o → is_some (held k (near_of x)) ≡ false → held k (near_of x) ≡ None
    by None e f = e
    by (Some h) e f = absurd (false≢true (sym f ∙ ap is_some e))

pub not_gone : (x : HostileWorld) (k : HomeId) → IsHostile x → CanTake (hostile_meaning x) k → held k (others_of x) ≡ None → ⊥
not_gone x k is can none =
    let (h, e) = is.stands.all.all k can.there in
    let no : None ≡ Some h = sym (right_held k (near_of x) (others_of x) (not_held_near x k (can.fresh refl)) ∙ none) ∙ e in
    absurd cc

pub not_refused : (x : HostileWorld) (k : HomeId) (h : Home) → CanTake (hostile_meaning x) k → home_id h ≡ k → IsHeld (home_id h) (near_of x) ⊎ HasNoRoom (near_of x) → ⊥
not_refused x k h can same (inl (g, e)) = false≢true (sym (can.fresh refl) ∙ ap is_some (ap (λ j. held j (near_of x)) (sym same) ∙ e))
not_refused x k h can same (inr full) = let less = can.room refl in let four = full.four in let all = full.all in absurd (omega (arith, less, four, all))

pub not_lost : (x : HostileWorld) (k : HomeId) → IsHeld k (near_of x) → held k (near_of x) ≡ None → ⊥
not_lost x k (h, e) none = let no : Some h ≡ None = sym e ∙ none in absurd cc

pub has_room : (x : HostileWorld) (k : HomeId) (h : Home) (n : ℕ) → IsHostile x → IsHeld k (near_of x) → home_id h ≡ k → how_many_held (near_of x) ≡ n + 1 → IsHeld (home_id h) (others_of x) ⊎ HasNoRoom (others_of x) → ⊥
has_room x k h n is near same count (inl (g, e)) = held_none k (near_of x) (others_of x) g (two x is.stands) (ap (λ j. held j (others_of x)) (sym same) ∙ e) near
has_room x k h n is near same count (inr full) = let room = is.room in let all = full.all in absurd (omega (arith, room, all, count))

pub not_nowhere : (x : HostileWorld) (t : ThreadId) → IsHostile x → CanLock (hostile_meaning x) t → has_thread t.0 (others_of x) ≡ false → ⊥
not_nowhere x t is can none =
    let there = has_there (work_of x) (whole x) is.stands (part.Thread t) can.there in
    false≢true (sym (has_both t.0 (near_of x) (others_of x) ∙ (ap (λ b. b || has_thread t.0 (others_of x)) (can.fresh refl) ∙ none)) ∙ there)

pub stands_home : (x : HostileWorld) (t : ThreadId) (at : ListId) (k : HomeId) → IsHostile x → k ≡ home_at at → StandsIn t.0 (others_of x) at → HasHome x t k
stands_home x t at k is same stands =
    let apart = apart_right (near_of x) (others_of x) is.stands.all.apart in
    record {
      home = stands.home;
      there = ap (λ j. held j (others_of x)) same ∙ held_by t.0 at (others_of x) stands apart;
      number = sym stands.listed.home ∙ sym same;
      listed = (at, stands.listed);
    }

pub cpu_others : (x : HostileWorld) (d : CpuId) → IsHostile x → d.0 < (work_of x).cpus → held (home.Cpu d) (near_of x) ≡ None → has_part x.inner.acting (cpu_part d) ≡ true
cpu_others x d is there none = ap is_some (sym (right_held (home.Cpu d) (near_of x) (others_of x) none)) ∙ has_cpu (work_of x) (whole x) is.stands d there

-- ---- where no home is held
pub alone_stands : (x : HostileWorld) (w : Work) → w ≡ work_of x → IsHostile x → how_many_held (near_of x) ≡ 0 → Stands w x.inner
alone_stands x w same is empty = subst (λ v. Stands v x.inner) (sym same) (record {
  run = is.stands.run;
  all = all_same (many_of x) (state_of x) (near_of x ++ others_of x) (others_of x) (λ k. sym (right_held k (near_of x) (others_of x) (none_held k (near_of x) empty))) (apart_right (near_of x) (others_of x) is.stands.all.apart) is.stands.all;
  actors = is.stands.actors;
  inside = subst (λ a. a.cpu.0 < length (state_of x).cpus) (sym is.actor) is.stands.inside;
  acts = subst (λ a. IsActorOf (state_of x) a.cpu.0 a) (sym is.actor) is.stands.acts;
  stood = is.stands.stood;
})

-- and from where it goes on
pub goes_on : (x : HostileWorld) → Stands (work_of x) x.inner → x.near.actor ≡ x.inner.acting.actor → how_many_held (near_of x) ≡ 0 → ArePossible x.plan.items → IsHostile x
goes_on x st same empty possible =
    let e : (k : HomeId) → held k (near_of x ++ others_of x) ≡ held k (others_of x) = λ k. right_held k (near_of x) (others_of x) (none_held k (near_of x) empty) in
    let most = most_held (others_of x) in
    is_hostile x
    (record {
      run = st.run;
      all = all_same (many_of x) (told (work_of x) x.inner) (others_of x) (near_of x ++ others_of x) e (apart_empty (near_of x) (others_of x) empty st.all.apart) st.all;
      actors = st.actors;
      inside = subst (λ a. a.cpu.0 < length (state_of x).cpus) (sym same) st.inside;
      acts = subst (λ a. IsActorOf (state_of x) a.cpu.0 a) (sym same) st.acts;
      stood = st.stood;
    })
    (sym same) (omega (arith, empty, most)) possible
