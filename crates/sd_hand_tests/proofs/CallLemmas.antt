-- What the calls of a world that follows a plan do to what it means.
use Rattle.std.proofs.Common.{◌≡◌, ℕ, true, false, ◌==◌, List, [], ◌∷◌, is_some, map, MatchOption, Option, Some, None, refl, sym, ap, ◌∙◌, subst}
use Rattle.std.specs.Prelude.{nat_le}
use Rattle.std.proofs.lemmas.Bool.{eq-eqb, false≢true}
use Rattle.std.proofs.lemmas.List.{append-nil}
use Rattle.sd_types.specs.declared.numbers.CpuId.{CpuId}
use Rattle.sd_types.specs.declared.numbers.HomeId.{HomeId}
use Rattle.sd_types.specs.declared.numbers.ThreadId.{ThreadId}
use Rattle.sd_types.specs.declared.events.Which.{Which}
use Rattle.sd_state.specs.Opening.{opening}
use Rattle.sd_state.specs.States.{cpu_of}
use Rattle.sd_machine.specs.Hints.{hint_shown}
use Rattle.sd_machine.specs.Runs.{final}
use Rattle.sd_log.specs.Logged.{Logged}
use Rattle.sd_homes.specs.declared.home.Home.{Home}
use Rattle.sd_homes.specs.Families.{home_id}
use Rattle.sd_hand.specs.Hands.{held}
use Rattle.sd_world.specs.declared.plain.PlainWorld.{PlainWorld}
use Rattle.sd_world.specs.declared.world.Behind.{Behind}
use Rattle.sd_world.specs.Plain.{IsLess, NoneLess, plain_meaning}
use Rattle.sd_world.specs.Worlds.{AllHinted, CanLock, CanTake, Finds, Gains, Gets, IsListedIn, IsStopped, Reserves, Rises, Stays}
use Rattle.sd_world.proofs.WorldLemmas.{begins_same, finds, plain_good, stands_beside}
use Rattle.sd_hand_tests.specs.declared.hostile_world.HostileWorld.{HostileWorld}
use Rattle.sd_hand_tests.specs.declared.plan.Trouble.{Trouble}
use Rattle.sd_hand_tests.specs.declared.plan.What.{What}
use Rattle.sd_hand_tests.specs.Plan.{trouble_at}
use Rattle.sd_hand_tests.specs.Hostile.{HasHome, IsHostile, Moves, hint_in, hostile_meaning, whole}
use Rattle.sd_hand_tests.proofs.HostileLemmas.{counted, fetched_gains, is_hostile, is_stopped, near_of, others_of, state_of, stopped_good, two, work_of}
use Rattle.sd_hand_tests.proofs.WholeLemmas.{others_held}

-- ---- a call was counted
pub same_call : (x y : HostileWorld) (n : ℕ) → y ≡ record x { calls = n } → hostile_meaning y ≡ hostile_meaning x
same_call x y n e = ap hostile_meaning e

pub call_good : (x y : HostileWorld) (n : ℕ) → y ≡ record x { calls = n } → IsHostile x → IsHostile y
call_good x y n e is = subst IsHostile (sym e) (counted x n is)

-- ---- it was stopped at it
pub stop_good : (x y z : HostileWorld) (n : ℕ) → y ≡ record x { calls = n } → z ≡ record y { stops = z.stops } → IsHostile x → IsHostile z
stop_good x y z n e f is = subst IsHostile (sym f) (stopped_good y z.stops (call_good x y n e is))

pub stopped : (x y z : HostileWorld) (n : ℕ) → y ≡ record x { calls = n } → z ≡ record y { stops = z.stops } → Rises y.stops z.stops → IsStopped (hostile_meaning x) (hostile_meaning z)
stopped x y z n e f rises = subst (λ a. IsStopped a (hostile_meaning z)) (same_call x y n e) (subst (λ v. IsStopped (hostile_meaning y) (hostile_meaning v)) (sym f) (is_stopped y z.stops rises))

-- as the plan says of it
pub planned : (xs : List Trouble) (y z : HostileWorld) → z ≡ record y { stops = z.stops } → (what : Option What) → trouble_at xs y.calls ≡ what → trouble_at xs z.calls ≡ what
planned xs y z e what is = ap (λ (v : HostileWorld). trouble_at xs v.calls) e ∙ is

-- ---- a home was given out at it
pub may_take : (x y : HostileWorld) (n : ℕ) (k : HomeId) → y ≡ record x { calls = n } → CanTake (hostile_meaning x) k → CanTake (hostile_meaning y) k
may_take x y n k e can = subst (λ a. CanTake a k) (sym (same_call x y n e)) can

pub gains : (x y z : HostileWorld) (n : ℕ) (h : Home) → y ≡ record x { calls = n } → Moves y z h → Gains (hostile_meaning x) (hostile_meaning z) h
gains x y z n h e moves = subst (λ a. Gains a (hostile_meaning z) h) (same_call x y n e) (fetched_gains y z h moves)

pub gets : (x y z : HostileWorld) (n : ℕ) (h : Home) → y ≡ record x { calls = n } → Moves y z h → Gets (hostile_meaning x) (hostile_meaning z) h
gets x y z n h e moves = record { gains = λ few. gains x y z n h e moves; had = λ all. absurd (false≢true all) }

-- nobody else makes entries, so nothing is read of others
pub unshared : {A : Type 0} (x : HostileWorld) → (hostile_meaning x).alone ≡ false → A
unshared x shared = absurd (false≢true (sym shared))

-- ---- the home of a thread can be given out, and has it
pub may_take_home : (x : HostileWorld) (t : ThreadId) (k : HomeId) → IsHostile x → CanLock (hostile_meaning x) t → HasHome x t k → CanTake (hostile_meaning x) k
may_take_home x t k is can has = record {
  there = is.stands.all.only k (has.home, others_held k has.home (near_of x) (others_of x) (two x is.stands) has.there);
  room = can.room;
  fresh = λ few. by (held k (near_of x)) refl;
}
  where
    by : (o : Option Home) → held k (near_of x) ≡ o → is_some (held k (near_of x)) ≡ false
    by None e = ap is_some e
    by (Some g) e = let no : None ≡ Some has.home = sym (two x is.stands k (g, e)) ∙ has.there in absurd cc

pub home_listed : (x y z : HostileWorld) (n : ℕ) (t : ThreadId) (k : HomeId) (h : Home) → y ≡ record x { calls = n } → HasHome x t k → home_id h ≡ k → Moves y z h → IsListedIn t h
home_listed x y z n t k h e has same moves =
    let here : held k (others_of x) ≡ Some h = ap (λ (v : HostileWorld). held k (others_of v)) (sym e) ∙ (ap (λ j. held j (others_of y)) (sym same) ∙ moves.others.here) in
    let one : has.home ≡ h = let z = sym has.there ∙ here in cc in
    subst (IsListedIn t) one has.listed

-- ---- what is read
pub shows : (x : HostileWorld) (kind : Which) (d : CpuId) (n : ℕ) → n ≡ hint_shown (state_of x) kind d → n ≡ hint_in x kind d
unfolding hint_in
shows x kind d n e = e

pub hints_may : (x : HostileWorld) (kind : Which) (cs : List CpuId) → AllHinted (hostile_meaning x) kind cs (map (hint_in x kind) cs)
unfolding hint_in
hints_may x kind [] = tt
hints_may x kind (c ∷ cs) = (eq-eqb (hint_shown (state_of x) kind c) (hint_shown (state_of x) kind c) refl, hints_may x kind cs)

pub hints_are : (x : HostileWorld) (kind : Which) (cs : List CpuId) → map (hint_in x kind) cs ≡ map (hint_shown (state_of x) kind) cs
unfolding hint_in
hints_are x kind [] = refl
hints_are x kind (c ∷ cs) = ap (λ ns. hint_shown (state_of x) kind c ∷ ns) (hints_are x kind cs)

abbrev pub with_inner : HostileWorld → PlainWorld → HostileWorld
with_inner x i = record x { inner = i }

pub finds_behind : (x : HostileWorld) (r : Option Behind) → IsHostile x → MatchOption r (NoneLess x.inner.actors.items x.near.actor.count) (IsLess x.inner.actors.items x.near.actor.count) → Finds (hostile_meaning x) (hostile_meaning x) r
finds_behind x r is less = again r (finds (whole x) r (plain_good (whole x) is.stands) less)
  where
    again : (r : Option Behind) → Finds (plain_meaning (whole x)) (plain_meaning (whole x)) r → Finds (hostile_meaning x) (hostile_meaning x) r
    again None f = f
    again (Some b) f = record { less = f.less; there = f.there; other = f.other; reached = f.reached; own = f.own; newest = f.newest }

-- ---- room was made for an entry
module _ (x z : HostileWorld) (n : ℕ) (counts : z ≡ record x { calls = n }) (es : Logged) (same : es.items ≡ z.inner.entries.items) where
  abbrev roomy : HostileWorld
  roomy = with_inner z (record z.inner { entries = es })

  pub roomy_good : IsHostile x → IsHostile roomy
  roomy_good is =
      let good = call_good x z n counts is in
      is_hostile roomy (stands_beside (work_of z) (whole z) (whole roomy) refl refl same good.stands) good.actor good.room good.possible

  roomy_stays : Stays (hostile_meaning z) (hostile_meaning roomy)
  roomy_stays = record {
    table = refl;
    work = refl;
    alone = refl;
    all = refl;
    actor = refl;
    log = same;
    begins = ([], same ∙ sym (append-nil z.inner.entries.items));
    still = λ e. same;
    hinted = λ c which m h. subst (λ l. (m == hint_shown (final (work_of z) (opening (work_of z)) l) which (record { 0 = c })) ≡ true) (sym same) h;
    counted = λ c m h. subst (λ l. nat_le m (cpu_of (final (work_of z) (opening (work_of z)) l) c).count ≡ true) (sym same) h;
  }

  pub roomy_reserves : Reserves (hostile_meaning x) (hostile_meaning roomy)
  roomy_reserves = subst (λ a. Reserves a (hostile_meaning roomy)) (same_call x z n counts) (record { stays = roomy_stays; quiet = record { stops = refl; notes = refl; misses = refl }; acting = refl })
