-- A run on homes as a world that nobody shares.
use Rattle.std.proofs.Common.{◌≡◌, ◌+◌, ◌-◌, ◌<◌, ◌≤◌, true, List, [], ◌∷◌, ◌++◌, length, map, get_or, MatchOption, Option, Some, None, refl, sym, ap, ◌∙◌, subst, arith, append_assoc}
use Rattle.std.specs.Prelude.{nat_le}
use Rattle.std.proofs.lemmas.Bool.{eq-eqb, false≢true}
use Rattle.std.proofs.lemmas.Bool.Decides.{nat_tests}
use Rattle.std.proofs.lemmas.List.{append-nil}
use Rattle.std.proofs.lemmas.Option.{slice_get-get_or, slice_get_within}
use Rattle.sd_types.specs.declared.numbers.CpuId.{CpuId}
use Rattle.sd_types.specs.declared.numbers.HomeId.{HomeId}
use Rattle.sd_types.specs.declared.numbers.ThreadId.{ThreadId}
use Rattle.sd_types.specs.declared.events.Entry.{Entry}
use Rattle.sd_types.specs.declared.events.Which.{Which}
use Rattle.sd_types.specs.declared.works.Work.{Work}
use Rattle.sd_state.specs.States.{cpu_of}
use Rattle.sd_state.specs.Opening.{opening}
use Rattle.sd_machine.specs.Hints.{hint_shown}
use Rattle.sd_machine.specs.Runs.{IsRun, final}
use Rattle.sd_invariants.proofs.Whole.{fit_reached}
use Rattle.sd_homes.specs.Numbers.{IsHomeOf}
use Rattle.sd_homes.specs.Standing.{home_at}
use Rattle.sd_homes.specs.Families.{home_id}
use Rattle.sd_homes.specs.declared.home.Home.{Home}
use Rattle.sd_homes.specs.declared.list_id.ListId.{ListId}
use Rattle.sd_hand.specs.Hands.{StandsIn, held}
use Rattle.sd_hand.specs.OneHome.{AreAllHomes}
use Rattle.sd_hand.proofs.MoveLemmas.{held_by}
use Rattle.sd_hand.proofs.SlotLemmas.{held_id}
use Rattle.sd_world.specs.Told.{AreActorsOf, IsActorOf}
use Rattle.sd_footprint.specs.There.{IsPartThere}
use Rattle.sd_world.specs.declared.plain.PlainWorld.{PlainWorld}
use Rattle.sd_world.specs.declared.world.Behind.{Behind}
use Rattle.sd_world.specs.declared.world.Take.TheVariants.{Taken}
use Rattle.sd_world.specs.declared.world.ThreadLock.TheVariants as thread
use Rattle.sd_world.specs.Plain.{HasStood, IsLess, IsPlain, NoneLess, Stands, plain_meaning, told}
use Rattle.sd_world.specs.Worlds.{AllHinted, Begins, Finds, Gets, IsBehind, IsQuiet, Locks, Meaning, NoneBehind, ReadsCounts, Stays, Takes, after_run}
use Rattle.sd_world.proofs.PlainLemmas.{actor_inside, cpu_inside, has_there, reached, shown}

pub begins_same : (es : List Entry) → Begins es es
begins_same es = ([], sym (append-nil es))

pub begins_then : (a b c : List Entry) → Begins a b → Begins b c → Begins a c
begins_then a b c (x, e) (y, f) = (x ++ y, f ∙ ap (λ z. z ++ y) e ∙ append_assoc a x y)

pub stays_same : (m : Meaning) → Stays m m
stays_same m = record { table = refl; work = refl; alone = refl; all = refl; actor = refl; log = refl; begins = begins_same m.seen; still = λ e. refl; hinted = λ c which n h. h; counted = λ c n h. h }

pub quiet_same : (m : Meaning) → IsQuiet m m
quiet_same m = record { stops = refl; notes = refl; misses = refl }

pub stays_then : (m m' m'' : Meaning) → Stays m m' → Stays m' m'' → Stays m m''
stays_then m m' m'' a b = record {
  table = b.table ∙ a.table;
  work = b.work ∙ a.work;
  alone = b.alone ∙ a.alone;
  all = b.all ∙ a.all;
  actor = b.actor ∙ a.actor;
  log = b.log ∙ a.log;
  begins = begins_then m.seen m'.seen m''.seen a.begins b.begins;
  still = λ e. b.still (a.alone ∙ e) ∙ a.still e;
  hinted = λ c which n h. b.hinted c which n (a.hinted c which n h);
  counted = λ c n h. b.counted c n (a.counted c n h);
}

pub quiet_then : (m m' m'' : Meaning) → IsQuiet m m' → IsQuiet m' m'' → IsQuiet m m''
quiet_then m m' m'' a b = record { stops = b.stops ∙ a.stops; notes = b.notes ∙ a.notes; misses = b.misses ∙ a.misses }

pub counts_same : (m : Meaning) → ReadsCounts m m
counts_same m = record { stays = stays_same m; stops = refl; misses = refl; notes = ([], refl); acting = refl }

pub plain_good : (x : PlainWorld) → Stands x.work.now x → IsPlain x
plain_good x st = record {
  stands = st;
  good = record {
    stands = record { run = st.run; begins = begins_same x.entries.items; still = λ e. refl; shown = shown x.work.now x st };
    cpu = cpu_inside x.work.now x st;
    everything = λ e h may p there. has_there x.work.now x st p (subst (λ l. IsPartThere (after_run (plain_meaning x) l) x.acting.actor.cpu p) (may.still refl) there);
    reached = λ d n is h may. subst (λ l. n ≤ (cpu_of (after_run (plain_meaning x) l) d).count) (sym (may.still refl)) (let z : nat_le n (cpu_of (told x.work.now x) d).count ≡ true = is in grind (arith, nat_tests));
  };
}

-- another log with the same entries
pub stands_beside : (w : Work) (x y : PlainWorld) → y.acting ≡ x.acting → y.actors ≡ x.actors → y.entries.items ≡ x.entries.items → Stands w x → Stands w y
stands_beside w x y a b e st = record {
  run = subst (λ es. IsRun w es) (sym e) st.run;
  all = subst (λ h. AreAllHomes (length y.entries.items) (told w y) h.hand.slots) (sym a) (subst (λ es. AreAllHomes (length es) (final w (opening w) es) x.acting.hand.slots) (sym e) st.all);
  actors = subst (λ v. AreActorsOf (told w y) v.items) (sym b) (subst (λ es. AreActorsOf (final w (opening w) es) x.actors.items) (sym e) st.actors);
  inside = subst (λ h. h.actor.cpu.0 < length (told w y).cpus) (sym a) (subst (λ es. x.acting.actor.cpu.0 < length (final w (opening w) es).cpus) (sym e) st.inside);
  acts = subst (λ h. IsActorOf (told w y) h.actor.cpu.0 h.actor) (sym a) (subst (λ es. IsActorOf (final w (opening w) es) x.acting.actor.cpu.0 x.acting.actor) (sym e) st.acts);
  stood = subst (λ es. HasStood w es) (sym e) st.stood;
}

-- the numbers that the state shows are hints
pub all_hinted : (x : PlainWorld) (kind : Which) (cs : List CpuId) → AllHinted (plain_meaning x) kind cs (map (hint_shown (told x.work.now x) kind) cs)
all_hinted x kind [] = tt
all_hinted x kind (c ∷ cs) = (eq-eqb (hint_shown (told x.work.now x) kind c) (hint_shown (told x.work.now x) kind c) refl, all_hinted x kind cs)

none_behind : (x : PlainWorld) → IsPlain x → NoneLess x.actors.items x.acting.actor.count → NoneBehind (plain_meaning x)
none_behind x is none d inside other =
    let w = x.work.now in
    let there = actor_inside w x is.stands (record { 0 = d }) inside in
    let a = get_or x.actors.items d x.acting.actor in
    let at = slice_get-get_or x.actors.items d x.acting.actor there in
    let same = (is.stands.actors.each d a at).count in
    let own = none d a at in
    let n = (cpu_of (told w x) d).count in
    (n, (let z : x.acting.actor.count ≤ n = omega (arith, own, same) in z), (let z : nat_le n n ≡ true = grind (arith, nat_tests) in z))

one_behind : (x : PlainWorld) (b : Behind) → IsPlain x → IsLess x.actors.items x.acting.actor.count b → IsBehind (plain_meaning x) (plain_meaning x) b.cpu.0 b.count
one_behind x b is less =
    let w = x.work.now in
    let of = is.stands.actors.each less.index less.actor less.there in
    let index : b.cpu.0 ≡ less.index = ap (λ (c : CpuId). c.0) less.cpu ∙ of.cpu in
    let within = slice_get_within x.actors.items less.index less.actor less.there in
    let many = is.stands.actors.many in
    let cpus = (fit_reached w (length x.entries.items) (told w x) (reached w x is.stands)).fits.cpus in
    let low = less.less in
    let own : b.count ≡ (cpu_of (told w x) b.cpu.0).count = less.same ∙ of.count ∙ ap (λ k. (cpu_of (told w x) k).count) (sym index) in
    record {
      less = low;
      there = omega (arith, index, within, many, cpus);
      other = λ e. let same : b.count ≡ x.acting.actor.count = own ∙ (ap (λ k. (cpu_of (told w x) k).count) e ∙ sym is.stands.acts.count) in omega (arith, same, low);
      reached = subst (λ k. nat_le b.count k ≡ true) own (let z : nat_le b.count b.count ≡ true = grind (arith, nat_tests) in z);
      own = λ t. own;
      newest = λ e. absurd (false≢true (sym e));
    }

pub finds : (x : PlainWorld) (r : Option Behind) → IsPlain x → MatchOption r (NoneLess x.actors.items x.acting.actor.count) (IsLess x.actors.items x.acting.actor.count) → Finds (plain_meaning x) (plain_meaning x) r
finds x None is none = none_behind x is none
finds x (Some b) is less = one_behind x b is less

-- each home of the run is in its hand
had : (x : PlainWorld) (h : Home) → held (home_id h) x.acting.hand.slots ≡ Some h → Gets (plain_meaning x) (plain_meaning x) h
had x h e = record {
  gains = λ few. absurd (false≢true (sym few));
  had = λ all. record { stays = stays_same (plain_meaning x); quiet = quiet_same (plain_meaning x); acting = refl; here = e };
}

pub takes : (x : PlainWorld) (k : HomeId) → IsPlain x → IsHomeOf (told x.work.now x) k → Takes (plain_meaning x) (plain_meaning x) k Taken
takes x k is there =
    let (h, e) = is.stands.all.all k there in
    let same = held_id k h x.acting.hand.slots e in
    (h, sym same, had x h (ap (λ j. held j x.acting.hand.slots) (sym same) ∙ e))

pub locks : (x : PlainWorld) (t : ThreadId) (at : ListId) (k : HomeId) → IsPlain x → k ≡ home_at at → StandsIn t.0 x.acting.hand.slots at → Locks (plain_meaning x) (plain_meaning x) t (thread.Held k)
locks x t at k is same stands =
    let there = held_by t.0 at x.acting.hand.slots stands is.stands.all.apart in (
      stands.home,
      sym stands.listed.home ∙ sym same,
      (at, stands.listed),
      had x stands.home (ap (λ j. held j x.acting.hand.slots) (sym stands.listed.home) ∙ there),
      (λ e. absurd (false≢true (sym e))),
    )
