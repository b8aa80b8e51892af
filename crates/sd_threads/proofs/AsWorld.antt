-- What the calls of the table do to a seat, as what the calls of a world do to the world.
use Rattle.std.proofs.Common.{◌≡◌, ◌≢◌, ◌⊎◌, ℕ, ◌+◌, ◌<◌, ◌≤◌, true, false, List, [], ◌∷◌, ◌++◌, length, refl, sym, ap, ◌∙◌, subst, inl, inr, ⊎_elim, arith, append_assoc}
use Rattle.std.proofs.lemmas.Bool.{cases_lt, false≢true}
use Rattle.atomic_table.specs.Seated.{TableId}
use Rattle.sd_types.specs.declared.numbers.CpuId.{CpuId}
use Rattle.sd_types.specs.declared.numbers.HomeId.{HomeId}
use Rattle.sd_types.specs.declared.numbers.ThreadId.{ThreadId}
use Rattle.sd_types.specs.declared.events.Which.{Which}
use Rattle.sd_types.specs.declared.works.Work.{Work}
use Rattle.sd_homes.specs.declared.home.Home.{Home}
use Rattle.sd_hand.specs.declared.acting.Acting.{Acting}
use Rattle.sd_hand.specs.Hands.{has_thread, held as held_in}
use Rattle.sd_hand.proofs.SlotLemmas.{held_has}
use Rattle.sd_world.specs.Worlds.{AllHinted, Gains, Gets, IsBehind, IsQuiet, IsStopped, Locks, Meaning, ReadsCounts, Rises, Stays, Takes, actor_of, note}
use Rattle.sd_world.proofs.WorldLemmas.{stays_then}
use Rattle.sd_world.specs.declared.world.Take.TheVariants.{Taken, Busy}
use Rattle.sd_world.specs.declared.world.ThreadLock.TheVariants as thread
use Rattle.sd_shared_rule.proofs.Bridge.{reached}
use Rattle.sd_shared_table.specs.declared.seat.Seat.{Seat}
use Rattle.sd_invariants.proofs.Whole.{fit_reached}
use Rattle.sd_shared_rule.specs.Places.{now}
use Rattle.sd_shared_rule.specs.Words.{thread_count}
use Rattle.sd_shared_table.specs.Seats.{Fits, SeatCounts, SeatQuiet, SeatStays, SeatTakes, desk, seat_meaning, table_meaning, work_of}
use Rattle.sd_threads.specs.declared.world.TableWorld.{TableWorld}
use Rattle.sd_threads.specs.Locks.{HasLocked, IsTaken, SeatLocks, WasHeld}
use Rattle.sd_threads.specs.Tables.{IsLevel, ReadsCount, world_meaning}

module _ (w : Work) (s s' : Seat) where
  pub stays_as : (a b : ℕ) → SeatStays w s s' → Stays (table_meaning w s a) (table_meaning w s' b)
  stays_as a b x = record { table = x.table; work = x.work; alone = x.alone; all = x.all; actor = x.actor; log = x.log; begins = x.begins; still = x.still; hinted = x.hinted; counted = x.counted }

  pub quiet_as : (a : ℕ) → SeatQuiet w s s' → IsQuiet (table_meaning w s a) (table_meaning w s' a)
  quiet_as a q = record { stops = refl; notes = q.notes; misses = q.misses }

  gains_as : (a : ℕ) (x : Home) → Gains (seat_meaning w s) (seat_meaning w s') x → Gains (table_meaning w s a) (table_meaning w s' a) x
  gains_as a x g = record { stays = stays_as a a g.stays; quiet = quiet_as a g.quiet; more = g.more; count = g.count }

  gets_as : (a : ℕ) (x : Home) → Gains (seat_meaning w s) (seat_meaning w s') x → Gets (table_meaning w s a) (table_meaning w s' a) x
  gets_as a x g = record { gains = λ few. gains_as a x g; had = λ all. absurd (false≢true all) }

  pub takes_as : (a : ℕ) (k : HomeId) → SeatTakes w s s' k Taken → Takes (table_meaning w s a) (table_meaning w s' a) k Taken
  takes_as a k (x, number, g) = (x, number, gets_as a x g)

  -- the home of a thread that was in no home of the hand was taken
  pub locks_as : (a : ℕ) (t : ThreadId) (k : HomeId) → HasLocked w s s' t k → has_thread t.0 s.acting.hand.slots ≡ false → Locks (table_meaning w s a) (table_meaning w s' a) t (thread.Held k)
  locks_as a t k locked fresh =
      let took : IsTaken w s s' t.0 k locked.home = ⊎_elim
      (λ (was : WasHeld w s s' t.0 k). absurd (false≢true (sym fresh ∙ held_has k t.0 locked.home s.acting.hand.slots (ap (λ (v : Acting). held_in k v.hand.slots) (sym was.acting) ∙ locked.here) locked.listed.1.there)))
      (λ (is : IsTaken w s s' t.0 k locked.home). is)
      locked.gains in
      (locked.home, locked.number, locked.listed, gets_as a locked.home took.gains, (λ shared. record { homes = (locked.named, (locked.named, tt)); glances = took.glances }))

-- ---- somebody was in the way, which is counted
module _ (x y : TableWorld) (s : Seat) (is : y ≡ record x { seat = s; stops = y.stops }) (rises : Rises x.stops y.stops) where
  abbrev w : Work
  w = work_of x.shared.now

  abbrev m : Meaning
  m = world_meaning x

  abbrev stopped : TableWorld
  stopped = record x { seat = s; stops = y.stops }

  is_stopped : SeatStays w x.seat s → s.acting ≡ x.seat.acting → IsStopped m (world_meaning stopped)
  is_stopped stays acting = record { stays = stays_as w x.seat s x.stops y.stops stays; acting = acting; stops = rises }

  pub busy_as : (k : HomeId) (holder : CpuId) → SeatTakes w x.seat s k (Busy holder) → Takes m (world_meaning y) k (Busy holder)
  busy_as k holder missed = subst (λ z. Takes m (world_meaning z) k (Busy holder)) (sym is) (is_stopped missed.stays missed.acting, (λ shared. missed.misses))

  pub lock_busy_as : (t : ThreadId) (k : HomeId) (holder : CpuId) → SeatLocks w x.seat s t (thread.Busy k holder) → Locks m (world_meaning y) t (thread.Busy k holder)
  lock_busy_as t k holder busy =
      subst (λ z. Locks m (world_meaning z) t (thread.Busy k holder)) (sym is)
      (is_stopped busy.missed.stays busy.missed.acting, (λ shared. busy.missed.misses), (λ shared. record { homes = (busy.named, tt); glances = busy.glances }))

  pub moved_as : (t : ThreadId) (from to : HomeId) → SeatLocks w x.seat s t (thread.Moved from to) → Locks m (world_meaning y) t (thread.Moved from to)
  moved_as t from to moved =
      subst (λ z. Locks m (world_meaning z) t (thread.Moved from to)) (sym is)
      (is_stopped moved.stays moved.acting, moved.apart, (λ shared. record { homes = (moved.named.1, (moved.named.0, tt)); glances = moved.glances }))

-- ---- numbers that were read
pub hinted_still : (m m' : Meaning) (which : Which) (cs : List CpuId) (ns : List ℕ) → ((c : ℕ) (k : Which) (n : ℕ) → m.hinted c k n ≡ true → m'.hinted c k n ≡ true) → AllHinted m which cs ns → AllHinted m' which cs ns
hinted_still m m' which [] [] still x = tt
hinted_still m m' which (c ∷ cs) (n ∷ ns) still x = (still c.0 which n x.0, hinted_still m m' which cs ns still x.1)
hinted_still m m' which [] (n ∷ ns) still x = x
hinted_still m m' which (c ∷ cs) [] still x = x

pub hinted_more : (m : Meaning) (which : Which) (cs : List CpuId) (ns : List ℕ) (c : CpuId) (n : ℕ) → AllHinted m which cs ns → m.hinted c.0 which n ≡ true → AllHinted m which (cs ++ c ∷ []) (ns ++ n ∷ [])
hinted_more m which [] [] c n x is = (is, tt)
hinted_more m which (d ∷ cs) (k ∷ ns) c n x is = (x.0, hinted_more m which cs ns c n x.1 is)
hinted_more m which [] (k ∷ ns) c n x is = absurd x
hinted_more m which (d ∷ cs) [] c n x is = absurd x

-- ---- counts that were read
pub counts_then : (m m' m'' : Meaning) → ReadsCounts m m' → ReadsCounts m' m'' → ReadsCounts m m''
counts_then m m' m'' x y =
    let (before, is) = x.notes in
    let (after, on) = y.notes in
    record {
      stays = stays_then m m' m'' x.stays y.stays;
      stops = y.stops ∙ x.stops;
      misses = y.misses ∙ x.misses;
      notes = (after ++ before, on ∙ (ap (λ l. after ++ l) is ∙ sym (append_assoc after before m.notes)));
      acting = y.acting ∙ x.acting;
    }

-- a count was read, where others make entries too
pub count_as : (w : Work) (s s' : Seat) (a c n : ℕ) → SeatCounts w s s' c n → ReadsCount (table_meaning w s a) (table_meaning w s' a) c n
count_as w s s' a c n x = record {
  reads = record { stays = stays_as w s s' a a x.stays; stops = refl; misses = x.misses; notes = (note c n ∷ [], x.noted); acting = x.acting };
  noted = x.noted;
  counted = x.counted;
}

-- it is below the own count
pub behind_as : (m m' : Meaning) (c n : ℕ) → m.alone ≡ false → ReadsCount m m' c n → n < m.acting.actor.count → c < m.work.cpus → c ≢ (actor_of m).0 → IsBehind m m' c n
behind_as m m' c n shared x less there other = record { less = less; there = there; other = other; reached = x.counted; own = λ alone. absurd (false≢true (sym shared ∙ alone)); newest = λ e. ([], x.noted) }

-- other counts were read before it
pub behind_then : (m m' m'' : Meaning) (c n : ℕ) → m.alone ≡ false → ReadsCounts m m' → IsBehind m' m'' c n → IsBehind m m'' c n
behind_then m m' m'' c n shared x b =
    let (before, is) = x.notes in
    let (more, on) = b.newest (x.stays.alone ∙ shared) in
    record {
      less = subst (λ (y : Acting). n < y.actor.count) x.acting b.less;
      there = subst (λ (v : Work). c < v.cpus) x.stays.work b.there;
      other = subst (λ (y : Acting). c ≢ y.actor.cpu.0) x.acting b.other;
      reached = b.reached;
      own = λ alone. absurd (false≢true (sym shared ∙ alone));
      newest = λ e. (more ++ before, on ∙ ap (λ l. note c n ∷ l) (ap (λ l. more ++ l) is ∙ sym (append_assoc more before m.notes)));
    }

pub level_still : (m m' : Meaning) (d : ℕ) → ReadsCounts m m' → IsLevel m d → IsLevel m' d
level_still m m' d x is other =
    let n = is (λ e. other (e ∙ ap (λ (y : Acting). y.actor.cpu.0) (sym x.acting))) in
    (n.0, subst (λ (y : Acting). y.actor.count ≤ n.0) (sym x.acting) n.1, x.stays.counted d n.0 n.2)

-- so many processors were read, and none of them was behind
pub record AreLevel (m m' : Meaning) (d : ℕ) : Type 0 where
  pub reads : ReadsCounts m m'
  pub level : (e : ℕ) → e < d → IsLevel m' e

pub level_more : (m m' m'' : Meaning) (d : ℕ) → AreLevel m m' d → ReadsCounts m' m'' → IsLevel m'' d → AreLevel m m'' (d + 1)
level_more m m' m'' d x y is = record {
  reads = counts_then m m' m'' x.reads y;
  level = λ e i. by e i (cases_lt e d);
}
  where
    by : (e : ℕ) → e < d + 1 → (e < d) ⊎ (d ≤ e) → IsLevel m'' e
    by e below (inl less) = level_still m' m'' e y (x.level e less)
    by e below (inr most) = let same : d ≡ e = omega (arith, below, most) in subst (IsLevel m'') same is

-- ---- a thread of the run is one of the workload's
pub thread_inside : (w : Work) (t : TableId) (s : Seat) (u : ℕ) → Fits t w s → u < length (now w (desk s).seen).threads → u < thread_count w
thread_inside w t s u f inside =
    let h = (desk s).seen in
    let many = (fit_reached w (length h) (now w h) (reached w h f.run)).fits.threads in
    omega (arith, inside, many)
