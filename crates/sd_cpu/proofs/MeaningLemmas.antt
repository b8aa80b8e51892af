-- What stays of a world from one call to the next.
use Rattle.std.proofs.Common.{◌≡◌, ℕ, ◌<◌, ◌≤◌, Bool, true, false, List, [], ◌∷◌, ◌++◌, length, Option, Some, None, Result, Ok, Err, refl, sym, ap, ◌∙◌, subst, arith}
use Rattle.std.proofs.lemmas.Bool.{false≢true}
use Rattle.sd_types.specs.Events.{ticks}
use Rattle.sd_types.specs.declared.numbers.HomeId.{HomeId}
use Rattle.sd_types.specs.declared.events.Entry.{Entry}
use Rattle.sd_types.specs.declared.events.Event.{Event}
use Rattle.sd_types.specs.declared.events.Hints.{Hints}
use Rattle.sd_state.specs.declared.states.State.{State}
use Rattle.sd_state.specs.States.{cpu_of}
use Rattle.sd_machine.specs.Events.{next}
use Rattle.sd_machine.specs.Runs.{IsRun, serial_hints}
use Rattle.sd_homes.specs.declared.home.Home.{Home}
use Rattle.sd_homes.specs.Families.{home_id, same_home}
use Rattle.sd_hand.specs.declared.acting.Actor.{Actor}
use Rattle.sd_hand.specs.Acting.{IsShown}
use Rattle.sd_hand.specs.Shown.{IsHome}
use Rattle.sd_homes.specs.Standing.{look_of}
use Rattle.sd_hand.specs.Hands.{AreApart, held}
use Rattle.sd_hand.proofs.SlotLemmas.{same_home_self, same_home_true}
use Rattle.sd_types.specs.Limits.{most_entries}
use Rattle.sd_world.specs.Worlds.{Begins, Commits, Gains, IsBehind, IsGood, IsQuiet, MayStand, Meaning, Rises, Stays, actor_of, after_run, entry_of, now, slots_of}
use Rattle.sd_world.proofs.WorldLemmas.{begins_then, quiet_same, quiet_then, stays_same, stays_then}
use Rattle.sd_cpu.specs.declared.attempts.Attempted.{Attempted}
use Rattle.sd_cpu.specs.declared.attempts.Turned.{Turned}
use Rattle.sd_cpu.specs.declared.attempts.Turned.TheVariants.{Acted, Ticked, Behind, Finished}
use Rattle.sd_cpu.specs.Attempts.{Acts, Attempts, Enters, Idles, IsHindered, IsSameWorld, MakesOne, MayNotTick, Refuses, StaysPassed, AttemptTakesTurn, attempted_of, turn_of}
use Rattle.sd_types.specs.declared.events.Stop.{Stop}
use Rattle.sd_types.specs.declared.events.Stop.TheVariants.{Full, Memory}
use Rattle.sd_cpu.specs.Seeking.{GivesUp, Looks}

pub rises_then : (a b c : ℕ) → a ≡ b → Rises b c → Rises a c
rises_then a b c e r = subst (λ x. Rises x c) (sym e) r

pub same_cpu : (a b : Actor) → a ≡ b → a.cpu ≡ b.cpu
same_cpu a b e = ap (λ (x : Actor). x.cpu) e

pub looks_same : (m : Meaning) → Looks m m
looks_same m = record { stays = stays_same m; quiet = quiet_same m; narrows = λ h may. may }

pub looks_then : (m m' m'' : Meaning) → Looks m m' → Looks m' m'' → Looks m m''
looks_then m m' m'' a b = record { stays = stays_then m m' m'' a.stays b.stays; quiet = quiet_then m m' m'' a.quiet b.quiet; narrows = λ h may. a.narrows h (b.narrows h may) }

pub gives_up : (m m' m'' : Meaning) → Looks m m' → GivesUp m' m'' → GivesUp m m''
gives_up m m' m'' a b = record { stays = stays_then m m' m'' a.stays b.stays; stops = rises_then m.stops m'.stops m''.stops (sym a.quiet.stops) b.stops }

pub same_world : (m m' : Meaning) → Stays m m' → IsSameWorld m m'
same_world m m' s = record { table = s.table; work = s.work; alone = s.alone; all = s.all; cpu = same_cpu m'.acting.actor m.acting.actor s.actor }

pub idles : (m m' : Meaning) → Stays m m' → Idles m m'
idles m m' s = record { world = same_world m m' s; actor = s.actor; log = s.log; begins = s.begins; still = s.still }

pub world_then : (m m' m'' : Meaning) → IsSameWorld m m' → IsSameWorld m' m'' → IsSameWorld m m''
world_then m m' m'' a b = record { table = b.table ∙ a.table; work = b.work ∙ a.work; alone = b.alone ∙ a.alone; all = b.all ∙ a.all; cpu = b.cpu ∙ a.cpu }

pub idles_then : (m m' m'' : Meaning) → Idles m m' → Stays m' m'' → Idles m m''
idles_then m m' m'' i s = record {
  world = world_then m m' m'' i.world (same_world m' m'' s);
  actor = s.actor ∙ i.actor;
  log = s.log ∙ i.log;
  begins = begins_then m.seen m'.seen m''.seen i.begins s.begins;
  still = λ e. s.still (i.world.alone ∙ e) ∙ i.still e;
}

pub idles_from : (m m' m'' : Meaning) → Stays m m' → Idles m' m'' → Idles m m''
idles_from m m' m'' s i = record {
  world = world_then m m' m'' (same_world m m' s) i.world;
  actor = i.actor ∙ s.actor;
  log = i.log ∙ s.log;
  begins = begins_then m.seen m'.seen m''.seen s.begins i.begins;
  still = λ e. i.still (s.alone ∙ e) ∙ s.still e;
}

-- a run to which the world may have come is one to which it might have come before
pub may_fewer : (m m' : Meaning) (h : List Entry) → Stays m m' → ((n : ℕ) (s : State) → IsShown m'.acting n s → IsShown m.acting n s) → MayStand m' h → MayStand m h
may_fewer m m' h s shows may = record {
  run = subst (λ w. IsRun w h) s.work may.run;
  begins = begins_then m.seen m'.seen h s.begins may.begins;
  still = λ e. may.still (s.alone ∙ e) ∙ s.still e;
  shown = shows (length h) (after_run m h) (subst (λ w. IsShown m'.acting (length h) (after_run (record m' { work = w }) h)) s.work may.shown);
}

-- what a hand shows with one home more, it shows without
pub shows_fewer : (m m' : Meaning) (x : Home) → Gains m m' x → AreApart (slots_of m) → (n : ℕ) (s : State) → IsShown m'.acting n s → IsShown m.acting n s
shows_fewer m m' x g apart n s shown = record {
  homes = λ k h e. by k h e (same_home k (home_id x)) refl;
  apart = apart;
  inside = subst (λ (a : Actor). a.cpu.0 < length s.cpus) g.stays.actor shown.inside;
  count = subst (λ (a : Actor). a.count ≡ (cpu_of s a.cpu.0).count) g.stays.actor shown.count;
  duty = subst (λ (a : Actor). a.duty ≡ (cpu_of s a.cpu.0).duty) g.stays.actor shown.duty;
  locks = shown.locks;
  chans = shown.chans;
}
  where
    none_some : (o : Option Home) (h : Home) → o ≡ Some h → o ≡ None → ⊥
    none_some None h e n = cc
    none_some (Some g) h e n = cc

    by : (k : HomeId) (h : Home) → held k (slots_of m) ≡ Some h → (b : Bool) → same_home k (home_id x) ≡ b → IsHome n s (look_of s) h
    by k h e true same = absurd (none_some (held k (slots_of m)) h e (ap (λ z. held z (slots_of m)) (same_home_true k (home_id x) same) ∙ g.more.before))
    by k h e false other = shown.homes k h (g.more.others k (λ is. false≢true (sym other ∙ (ap (λ z. same_home z (home_id x)) is ∙ same_home_self (home_id x)))) ∙ e)

pub may_gain : (m m' : Meaning) (x : Home) (h : List Entry) → IsGood m → Gains m m' x → MayStand m' h → MayStand m h
may_gain m m' x h good g = may_fewer m m' h g.stays (shows_fewer m m' x g good.stands.shown.apart)

pub may_same : (m m' : Meaning) (h : List Entry) → Stays m m' → m'.acting ≡ m.acting → MayStand m' h → MayStand m h
may_same m m' h s same = may_fewer m m' h s (λ n t sh. subst (λ a. IsShown a n t) same sh)

-- a commit after calls that made no entry
pub made_from : (m m' m'' : Meaning) (n : ℕ) (e : Event) (hints : Option Hints) (b : Bool) → Stays m m' → (m.alone ≡ true → hints ≡ serial_hints m.work (now m) (actor_of m)) → Commits m' m'' n e hints → ticks e ≡ b
    → MakesOne m m'' n b
made_from m m' m'' n e hints b s given c is =
    let made = c.made in record {
      world = world_then m m' m'' (same_world m m' s) (record { table = c.table; work = c.work; alone = c.alone; all = c.all; cpu = c.cpu });
      event = e;
      hints = hints;
      run = c.run;
      made = record {
        begins = begins_then m.seen m'.seen c.run s.begins made.begins;
        still = λ t. made.still (s.alone ∙ t) ∙ s.still t;
        number = made.number;
        step = subst (λ w. next w (after_run (record m { work = w }) c.run) (actor_of m) hints ≡ Some e) s.work
            (subst (λ (a : Actor). next m'.work (after_run m' c.run) a.cpu hints ≡ Some e) s.actor made.step);
        log = subst (λ (a : Actor). m''.log ≡ m.log ++ record { number = n; cpu = a.cpu; event = e; hints = hints } ∷ []) s.actor
            (subst (λ l. m''.log ≡ l ++ entry_of m' n e hints ∷ []) s.log made.log);
        after = subst (λ (a : Actor). Begins (c.run ++ record { number = n; cpu = a.cpu; event = e; hints = hints } ∷ []) m''.seen) s.actor made.after;
        after_still = λ t. subst (λ (a : Actor). m''.seen ≡ c.run ++ record { number = n; cpu = a.cpu; event = e; hints = hints } ∷ []) s.actor (made.after_still (s.alone ∙ t));
      };
      given = given;
      kind = is;
    }

-- calls that made no entry, before an attempt and after it
pub one_from : (m m' m'' : Meaning) (n : ℕ) (b : Bool) → Stays m m' → MakesOne m' m'' n b → MakesOne m m'' n b
one_from m m' m'' n b s x =
    let made = x.made in record {
      world = world_then m m' m'' (same_world m m' s) x.world;
      event = x.event;
      hints = x.hints;
      run = x.run;
      made = record {
        begins = begins_then m.seen m'.seen x.run s.begins made.begins;
        still = λ t. made.still (s.alone ∙ t) ∙ s.still t;
        number = made.number;
        step = subst (λ w. next w (after_run (record m { work = w }) x.run) (actor_of m) x.hints ≡ Some x.event) s.work
            (subst (λ (a : Actor). next m'.work (after_run m' x.run) a.cpu x.hints ≡ Some x.event) s.actor made.step);
        log = subst (λ (a : Actor). m''.log ≡ m.log ++ record { number = n; cpu = a.cpu; event = x.event; hints = x.hints } ∷ []) s.actor
            (subst (λ l. m''.log ≡ l ++ entry_of m' n x.event x.hints ∷ []) s.log made.log);
        after = subst (λ (a : Actor). Begins (x.run ++ record { number = n; cpu = a.cpu; event = x.event; hints = x.hints } ∷ []) m''.seen) s.actor made.after;
        after_still = λ t. subst (λ (a : Actor). m''.seen ≡ x.run ++ record { number = n; cpu = a.cpu; event = x.event; hints = x.hints } ∷ []) s.actor (made.after_still (s.alone ∙ t));
      };
      given = λ t. subst (λ w. x.hints ≡ serial_hints w (after_run (record m { work = w }) m.seen) (actor_of m)) s.work
          (subst (λ (a : Actor). x.hints ≡ serial_hints m'.work (after_run m' m.seen) a.cpu) s.actor (subst (λ h. x.hints ≡ serial_hints m'.work (after_run m' h) (actor_of m')) (s.still t) (x.given (s.alone ∙ t))));
      kind = x.kind;
    }

one_then : (m m' m'' : Meaning) (n : ℕ) (b : Bool) → MakesOne m m' n b → Stays m' m'' → MakesOne m m'' n b
one_then m m' m'' n b x s =
    let made = x.made in
    let e = entry_of m n x.event x.hints in record {
      world = world_then m m' m'' x.world (same_world m' m'' s);
      event = x.event;
      hints = x.hints;
      run = x.run;
      made = record {
        begins = made.begins;
        still = made.still;
        number = made.number;
        step = made.step;
        log = s.log ∙ made.log;
        after = begins_then (x.run ++ e ∷ []) m'.seen m''.seen made.after s.begins;
        after_still = λ t. s.still (x.world.alone ∙ t) ∙ made.after_still t;
      };
      given = x.given;
      kind = x.kind;
    }

rests_then : (m m' m'' : Meaning) → MayNotTick m m' → Stays m' m'' → MayNotTick m m''
rests_then m m' m'' x s = record { idles = idles_then m m' m'' x.idles s; run = x.run; after = x.after; before = begins_then x.run m'.seen m''.seen x.before s.begins; hints = x.hints; wish = x.wish; none = x.none }

behind_then : (m m' m'' : Meaning) (c n : ℕ) → IsBehind m m' c n → Stays m' m'' → IsQuiet m' m'' → IsBehind m m'' c n
behind_then m m' m'' c n x s q = record {
  less = x.less;
  there = x.there;
  other = x.other;
  reached = s.counted c n x.reached;
  own = x.own;
  newest = λ shared. let (more, is) = x.newest shared in (more, q.notes ∙ is);
}

pub turns_then : (m m' m'' : Meaning) (t : Turned) → AttemptTakesTurn m m' t → Stays m' m'' → IsQuiet m' m'' → AttemptTakesTurn m m'' t
turns_then m m' m'' (Acted n) x s q = one_then m m' m'' n false x s
turns_then m m' m'' (Ticked n) x s q = one_then m m' m'' n true x s
turns_then m m' m'' (Behind c n) x s q = (rests_then m m' m'' x.0 s, x.1, behind_then m m' m'' c.0 n x.2 s q)
turns_then m m' m'' Finished x s q = (rests_then m m' m'' x.0 s, x.1)

pub hindered_then : (m m' m'' : Meaning) → IsHindered m m' → Stays m' m'' → IsQuiet m' m'' → IsHindered m m''
hindered_then m m' m'' x s q = record { idles = idles_then m m' m'' x.idles s; stops = subst (λ k. Rises m.stops k) (sym q.stops) x.stops }

pub refuses_then : (m m' m'' : Meaning) (e : Stop) → Refuses m m' e → Stays m' m'' → Refuses m m'' e
refuses_then m m' m'' Full x s = (idles_then m m' m'' x.0 s, x.1)
refuses_then m m' m'' Memory x s = (idles_then m m' m'' x.0 s, x.1)

pub hindered : (m m' m'' : Meaning) → Looks m m' → GivesUp m' m'' → IsHindered m m''
hindered m m' m'' l g = let all = gives_up m m' m'' l g in record { idles = idles m m'' all.stays; stops = all.stops }

pub enters_from : (m m' m'' : Meaning) (b : Bool) (r : Result (Option ℕ) Stop) → Stays m m' → m'.stops ≡ m.stops → Enters m' m'' b r → Enters m m'' b r
enters_from m m' m'' b (Ok (Some n)) s q x = one_from m m' m'' n b s x
enters_from m m' m'' b (Ok None) s q x = record { idles = idles_from m m' m'' s x.idles; stops = rises_then m.stops m'.stops m''.stops (sym q) x.stops }
enters_from m m' m'' b (Err Full) s q x = (idles_from m m' m'' s x.0, subst (λ l. most_entries ≤ length l) s.log x.1)
enters_from m m' m'' b (Err Memory) s q x = (idles_from m m' m'' s x.0, subst (λ l. length l < most_entries) s.log x.1)

pub acts_made : (m m' : Meaning) (b : Bool) (r : Result (Option ℕ) Stop) (t : Result (Option Turned) Stop) → t ≡ turn_of r b → Enters m m' b r → Acts m m' t
acts_made m m' b r t e x = subst (Acts m m') (sym e) (by b r x)
  where
    by : (b : Bool) (r : Result (Option ℕ) Stop) → Enters m m' b r → Acts m m' (turn_of r b)
    by true (Ok (Some n)) x = x
    by false (Ok (Some n)) x = x
    by b (Ok None) x = x
    by b (Err s) x = x

pub same_bit : (m m' : Meaning) (b d : Bool) (r : Result (Option ℕ) Stop) → d ≡ b → Enters m m' d r → Enters m m' b r
same_bit m m' b d r e x = subst (λ z. Enters m m' z r) e x

-- all homes are given back after it
pub answers_then : (m m' m'' : Meaning) (d : Option Turned) (passed : Bool) (a : Attempted) → a ≡ attempted_of d passed → Acts m m' (Ok d) → Stays m' m'' → IsQuiet m' m'' → Attempts m m'' a
answers_then m m' m'' d passed a e x s q = subst (Attempts m m'') (sym e) (by d x)
  where
    by : (d : Option Turned) → Acts m m' (Ok d) → Attempts m m'' (attempted_of d passed)
    by (Some t) x = turns_then m m' m'' t x s q
    by None x = hindered_then m m' m'' x s q

-- the gate stays passed
pub stays_passed : (before now : Bool) (d : Option Turned) (a : Attempted) → a ≡ attempted_of d now → (before ≡ true → now ≡ true) → StaysPassed before (Ok a)
stays_passed before now d a e stays = subst (λ (x : Attempted). StaysPassed before (Ok x)) (sym e) (by d)
  where
    by : (d : Option Turned) → StaysPassed before (Ok (attempted_of d now))
    by (Some t) = tt
    by None = stays

-- calls that leave what is held
pub looks_still : (m m' : Meaning) → Stays m m' → IsQuiet m m' → m'.acting ≡ m.acting → Looks m m'
looks_still m m' s q same = record { stays = s; quiet = q; narrows = λ h may. may_same m m' h s same may }
