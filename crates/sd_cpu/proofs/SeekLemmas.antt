-- What a processor knows and holds while it seeks its event.
use Rattle.std.proofs.Common.{◌≡◌, ℕ, ◌+◌, ◌<◌, Bool, true, false, ◌&&◌, List, [], ◌∷◌, length, Option, Some, None, Result, Ok, Err, IfOk, sym, ap, ◌∙◌, subst, inl, inr, arith, option_map, if◌then◌else◌}
use Rattle.std.specs.Prelude.{nat_lt, not, ◌||◌}
use Rattle.sd_types.specs.Events.{ticks}
use Rattle.sd_types.specs.declared.numbers.ChanId.{ChanId}
use Rattle.sd_types.specs.declared.numbers.CpuId.{CpuId}
use Rattle.sd_types.specs.declared.numbers.HomeId.{HomeId}
use Rattle.sd_types.specs.declared.events.Entry.{Entry}
use Rattle.sd_types.specs.declared.events.Event.{Event}
use Rattle.sd_types.specs.declared.events.Hints.{Hints}
use Rattle.sd_types.specs.declared.works.Work.{Work}
use Rattle.sd_state.specs.declared.states.State.{State}
use Rattle.sd_machine.specs.declared.plans.Plan.{Plan}
use Rattle.sd_machine.specs.Events.{allowed, may_tick, next, plan_event, wish}
use Rattle.sd_machine.specs.Hints.{hints_fit, plan_reads, reads}
use Rattle.sd_machine.specs.Needs.{CanCount}
use Rattle.sd_machine.specs.Plans.{plan}
use Rattle.sd_invariants.proofs.Whole.{fit_reached}
use Rattle.sd_store.specs.declared.parts.Part.{Part}
use Rattle.sd_store.specs.declared.parts.Part.TheVariants as part
use Rattle.sd_store.specs.Parts.{IsAmong}
use Rattle.sd_store.specs.Words.{Lacks, LacksIf}
use Rattle.sd_store.proofs.Among.{among_right}
use Rattle.sd_dispatcher.specs.Reading.{parts}
use Rattle.sd_step.specs.Needed.{choice_parts, needed, plan_parts, read_parts, reads_parts}
use Rattle.sd_step.specs.Touched.{after_parts}
use Rattle.sd_hand.specs.declared.acting.Acting.{Acting}
use Rattle.sd_hand.specs.Acting.{IsShown, has_part, the_part}
use Rattle.sd_homes.specs.declared.home.Home.{Home}
use Rattle.sd_hand.specs.Hands.{IsHeld, held, how_many_held}
use Rattle.sd_footprint.specs.Homes.{home_in}
use Rattle.sd_world.specs.Worlds.{Holds, IsGood, MayStand, Meaning, Stays, actor_of, after_run, now, slots_of}
use Rattle.sd_cpu.specs.Has.{HasAll, ShowsOne}
use Rattle.sd_cpu.specs.declared.seeking.Course.{Course}
use Rattle.sd_cpu.specs.Seeking.{CanFetch, Fetches, GivesUp, HoldsFor, HoldsToMake, HoldsToRead, IsCourse, IsOnItsWay, IsReady, IsSought, IsWish, Looks, TellsCourse}
use Rattle.sd_cpu.proofs.AttemptLemmas.{makes_later}
use Rattle.sd_cpu.proofs.MeaningLemmas.{gives_up, looks_same, looks_then, may_gain, may_same, same_cpu}
use Rattle.sd_cpu.proofs.RoomLemmas.{can_fetch, holds_more, reached_by, there_to_make, there_to_read, there_to_wish}

abbrev pub ReadKind : Work → CpuId → State → Part → Type 0
ReadKind w c s p = IsAmong p (reads_parts w s c)

abbrev pub MakeKind : Option Hints → Work → CpuId → State → Part → Type 0
MakeKind hints w c s p = IsSought w s c hints p

-- the same work and the same processor
kind_same : (m m' : Meaning) (Kind : Work → CpuId → State → Part → Type 0) → Stays m m' → HoldsFor m' (Kind m.work (actor_of m)) → HoldsFor m' (Kind m'.work (actor_of m'))
kind_same m m' Kind s h = subst (λ w. HoldsFor m' (Kind w (actor_of m'))) (sym s.work) (subst (λ c. HoldsFor m' (Kind m.work c)) (sym (same_cpu m'.acting.actor m.acting.actor s.actor)) h)

more : (m m' : Meaning) (p : Part) (Kind : Work → CpuId → State → Part → Type 0) → IsGood m → Fetches m m' p true
    → ((h : List Entry) → MayStand m h → Kind m.work (actor_of m) (after_run m h) p) → HoldsFor m (Kind m.work (actor_of m)) → HoldsFor m' (Kind m'.work (actor_of m'))
more m m' p Kind good (x, is, g) kind holds = kind_same m m' Kind g.stays (holds_more m m' x p (Kind m.work (actor_of m)) good g is kind holds)

pub more_to_read : (m m' : Meaning) (p : Part) → IsGood m → Fetches m m' p true → ((h : List Entry) → MayStand m h → IsAmong p (reads_parts m.work (after_run m h) (actor_of m)))
    → HoldsToRead m → HoldsToRead m'
more_to_read m m' p good f kind holds = more m m' p ReadKind good f kind holds

pub more_to_make : (m m' : Meaning) (p : Part) (hints : Option Hints) → IsGood m → Fetches m m' p true
    → ((h : List Entry) → MayStand m h → IsSought m.work (after_run m h) (actor_of m) hints p) → HoldsToMake m hints → HoldsToMake m' hints
more_to_make m m' p hints good f kind holds = more m m' p (MakeKind hints) good f kind holds

pub looks_more : (m m' m'' : Meaning) (p : Part) → IsGood m' → Looks m m' → Fetches m' m'' p true → Looks m m''
looks_more m m' m'' p good l (x, is, g) = looks_then m m' m'' l (record { stays = g.stays; quiet = g.quiet; narrows = λ h may. may_gain m' m'' x h good g may })

pub stopped_more : (m m' m'' : Meaning) (p : Part) → Looks m m' → Fetches m' m'' p false → GivesUp m m''
stopped_more m m' m'' p l s = gives_up m m' m'' l (record { stays = s.stays; stops = s.stops })

pub counts_more : (m m' : Meaning) (p : Part) → Fetches m m' p true → how_many_held (slots_of m') ≡ how_many_held (slots_of m) + 1
counts_more m m' p (x, is, g) = g.count

-- homes that are held to read are held to make as well
pub read_is_sought : (m : Meaning) (hints : Option Hints) → HoldsToRead m → HoldsToMake m hints
read_is_sought m hints holds = λ few h may k there. let want = holds few h may k there in record { part = want.part; kind = inl want.kind; lies = want.lies }

-- in the state of a run every count of a semaphore may be raised
pub can_count : (m : Meaning) (h : List Entry) → IsGood m → MayStand m h → (k : ChanId) → CanCount (after_run m h) k
can_count m h good may k = (fit_reached m.work (length h) (after_run m h) (reached_by m good h may)).counts k.0

pub shows_one : (m : Meaning) → IsGood m → ShowsOne m.acting
shows_one m good = record { number = length m.seen; state = now m; shown = good.stands.shown }

-- what an event touches that may come is sought
wished : (m : Meaning) (good : IsGood m) (e : Event) (hints : Option Hints) (q : Part) (h : List Entry) → MayStand m h → next m.work (after_run m h) (actor_of m) hints ≡ Some e
    → IsAmong q (after_parts m.work (after_run m h) (actor_of m) e) → IsAmong q (after_parts m.work (after_run m h) (actor_of m) (wish m.work (after_run m h) (actor_of m).0 hints))
unfolding next
wished m good e hints q h may makes is = subst (λ z. IsAmong q (after_parts m.work (after_run m h) (actor_of m) z)) (sym (by (nat_lt (actor_of m).0 m.work.cpus && hints_fit (reads m.work (after_run m h) (actor_of m).0) hints) makes)) is
  where
    e' : Event
    e' = wish m.work (after_run m h) (actor_of m).0 hints

    inner : (b : Bool) → (if b then Some e' else None) ≡ Some e → e' ≡ e
    inner true is = cc
    inner false is = cc

    by : (b : Bool) → (if b then allowed m.work (after_run m h) (actor_of m).0 e' else None) ≡ Some e → e' ≡ e
    by true is = inner (not (ticks e') || may_tick m.work (after_run m h) (actor_of m).0) is
    by false is = cc

-- a plan and what is read for it
pub course_value : (w : Work) (x : Acting) (p : Plan) (r : Result Course Part) → ((n : ℕ) (s : State) → IsShown x n s → ((ch : ChanId) → CanCount s ch) → p ≡ plan w s x.actor.cpu.0)
    → IfOk r (λ k. (n : ℕ) (s : State) → IsShown x n s → (k.plan ≡ p) × (option_map parts k.reading ≡ plan_reads w s x.actor.cpu.0 p)) → TellsCourse w x r
course_value w x p (Ok k) is read = λ n s shown can. let y = read n s shown in (y.0 ∙ is n s shown can, y.1 ∙ ap (plan_reads w s x.actor.cpu.0) (sym y.0))
course_value w x p (Err q) is read = tt

pub course_lack : (w : Work) (x : Acting) (p : Plan) (r : Result Course Part) → ((n : ℕ) (s : State) → IsShown x n s → ((ch : ChanId) → CanCount s ch) → p ≡ plan w s x.actor.cpu.0)
    → Lacks the_part (IsShown x) (has_part x) r (λ s. read_parts w s x.actor.cpu p) → LacksIf the_part (IsShown x) (has_part x) r (λ s. (ch : ChanId) → CanCount s ch) (λ s. reads_parts w s x.actor.cpu)
course_lack w x p (Ok k) is lack = tt
course_lack w x p (Err q) is lack = (
  (λ n s shown can.
      among_right q (plan_parts w s x.actor.cpu) (read_parts w s x.actor.cpu (plan w s x.actor.cpu.0)) (subst (λ z. IsAmong q (read_parts w s x.actor.cpu z)) (is n s shown can) (lack.0 n s shown))),
  lack.1,
)

module _ (m : Meaning) (good : IsGood m) (w : Work) (same : w ≡ m.work) (x : Acting) (here : x ≡ m.acting) where
  shown_by : (h : List Entry) → MayStand m h → IsShown x (length h) (after_run m h)
  shown_by h may = subst (λ a. IsShown a (length h) (after_run m h)) (sym here) may.shown

  at_state : (h : List Entry) → {A : Type 0} (f : Work → State → CpuId → A) → f w (after_run m h) x.actor.cpu ≡ f m.work (after_run m h) (actor_of m)
  at_state h f = ap (λ v. f v (after_run m h) x.actor.cpu) same ∙ ap (λ (a : Acting). f m.work (after_run m h) a.actor.cpu) here

  pub lacks_now : (q : Part) → has_part x q ≡ false → has_part m.acting q ≡ false
  lacks_now q lacks = ap (λ a. has_part a q) (sym here) ∙ lacks

  pub course_found : (k : Course) → ((n : ℕ) (s : State) → IsShown x n s → ((ch : ChanId) → CanCount s ch) → (k.plan ≡ plan w s x.actor.cpu.0) × (option_map parts k.reading ≡ plan_reads w s x.actor.cpu.0 k.plan))
      → IsCourse m k.plan k.reading
  course_found k tells = λ h may.
      let y = tells (length h) (after_run m h) (shown_by h may) (can_count m h good may) in
      (y.0 ∙ at_state h (λ v s c. plan v s c.0), y.1 ∙ at_state h (λ v s c. plan_reads v s c.0 k.plan))

  pub read_among : (q : Part) → ((n : ℕ) (s : State) → IsShown x n s → ((ch : ChanId) → CanCount s ch) → IsAmong q (reads_parts w s x.actor.cpu)) → (h : List Entry) → MayStand m h
      → IsAmong q (reads_parts m.work (after_run m h) (actor_of m))
  read_among q among h may = subst (IsAmong q) (at_state h (λ v s c. reads_parts v s c)) (among (length h) (after_run m h) (shown_by h may) (can_count m h good may))

  pub fetch_to_read : (q : Part) → ((n : ℕ) (s : State) → IsShown x n s → ((ch : ChanId) → CanCount s ch) → IsAmong q (reads_parts w s x.actor.cpu)) → has_part x q ≡ false → HoldsToRead m → CanFetch m q
  fetch_to_read q among lacks holds =
      let is = read_among q among m.seen good.stands in
      can_fetch m good None q (read_is_sought m None holds) (inl is) (there_to_read m good m.seen good.stands q is) (lacks_now q lacks)

  -- with the numbers that were read
  fits : (p : Plan) (hints : Option Hints) (h : List Entry) → MayStand m h → IsReady m p hints → hints_fit (plan_reads w (after_run m h) x.actor.cpu.0 p) hints ≡ true
  fits p hints h may ready = ap (λ o. hints_fit o hints) (at_state h (λ v s c. plan_reads v s c.0 p)) ∙ (ready h may).1

  pub event_found : (p : Plan) (hints : Option Hints) (e : Event) → IsReady m p hints
      → ((n : ℕ) (s : State) → IsShown x n s → hints_fit (plan_reads w s x.actor.cpu.0 p) hints ≡ true → e ≡ plan_event w s x.actor.cpu.0 hints p) → IsWish m e hints
  unfolding wish
  event_found p hints e ready tells = λ h may.
      sym (tells (length h) (after_run m h) (shown_by h may) (fits p hints h may ready) ∙ at_state h (λ v s c. plan_event v s c.0 hints p) ∙ ap (plan_event m.work (after_run m h) (actor_of m).0 hints) (ready h may).0)

  pub choice_among : (p : Plan) (hints : Option Hints) (q : Part) → IsReady m p hints
      → ((n : ℕ) (s : State) → IsShown x n s → hints_fit (plan_reads w s x.actor.cpu.0 p) hints ≡ true → IsAmong q (choice_parts w s x.actor.cpu hints p)) → (h : List Entry) → MayStand m h
      → IsAmong q (needed m.work (after_run m h) (actor_of m) hints)
  choice_among p hints q ready among h may =
      let s = after_run m h in
      let c = actor_of m in
      let is = subst (IsAmong q) (at_state h (λ v z d. choice_parts v z d hints p)) (among (length h) s (shown_by h may) (fits p hints h may ready)) in
      among_right q (plan_parts m.work s c) (choice_parts m.work s c hints (plan m.work s c.0)) (subst (λ z. IsAmong q (choice_parts m.work s c hints z)) (ready h may).0 is)

  pub fetch_to_choose : (p : Plan) (hints : Option Hints) (q : Part) → IsReady m p hints
      → ((n : ℕ) (s : State) → IsShown x n s → hints_fit (plan_reads w s x.actor.cpu.0 p) hints ≡ true → IsAmong q (choice_parts w s x.actor.cpu hints p)) → has_part x q ≡ false → HoldsToMake m hints → CanFetch m q
  fetch_to_choose p hints q ready among lacks holds =
      let is = choice_among p hints q ready among m.seen good.stands in
      can_fetch m good hints q holds (inr (inl is)) (there_to_wish m good m.seen good.stands hints q is) (lacks_now q lacks)

  -- for the event
  pub has_touched : (e : Event) → ((n : ℕ) (s : State) → IsShown x n s → HasAll x (after_parts w s x.actor.cpu e)) → Holds m e
  has_touched e all = λ h may p among.
      ap (λ a. has_part a p) (sym here) ∙ each p (after_parts w (after_run m h) x.actor.cpu e) (all (length h) (after_run m h) (shown_by h may)) (subst (IsAmong p) (sym (at_state h (λ v s c. after_parts v s c e))) among)
    where
      each : (p : Part) (ps : List Part) → HasAll x ps → IsAmong p ps → has_part x p ≡ true
      each p [] all is = absurd is
      each p (q ∷ ps) all (inl is) = ap (has_part x) is ∙ all.0
      each p (q ∷ ps) all (inr is) = each p ps all.1 is

  pub touch_among : (e : Event) (q : Part) → ((n : ℕ) (s : State) → IsShown x n s → IsAmong q (after_parts w s x.actor.cpu e) × (has_part x q ≡ false)) → (h : List Entry) → MayStand m h
      → IsAmong q (after_parts m.work (after_run m h) (actor_of m) e)
  touch_among e q lack h may = subst (IsAmong q) (at_state h (λ v s c. after_parts v s c e)) (lack (length h) (after_run m h) (shown_by h may)).0

  pub fetch_to_touch : (e : Event) (q : Part) → ((n : ℕ) (s : State) → IsShown x n s → IsAmong q (after_parts w s x.actor.cpu e) × (has_part x q ≡ false)) → IsOnItsWay m e → CanFetch m q
  fetch_to_touch e q lack way =
      let is = touch_among e q lack m.seen good.stands in
      can_fetch m good way.hints q way.holds (inr (inr (wished m good e way.hints q m.seen good.stands (way.makes m.seen good.stands) is)))
      (there_to_make m good m.seen good.stands way.hints e q (way.makes m.seen good.stands) is) (lacks_now q (lack (length m.seen) (now m) (shown_by m.seen good.stands)).1)

  pub shows_acting : ShowsOne x
  shows_acting = subst ShowsOne (sym here) (shows_one m good)

-- on the way with one home more
pub way_more : (m m' : Meaning) (e : Event) (q : Part) → IsGood m → Fetches m m' q true → ((h : List Entry) → MayStand m h → IsAmong q (after_parts m.work (after_run m h) (actor_of m) e)) → IsOnItsWay m e → IsOnItsWay m' e
way_more m m' e q good f among way = record {
  hints = way.hints;
  makes = makes_later m m' e way.hints (looks_more m m m' q good (looks_same m) f) way.makes;
  holds = more_to_make m m' q way.hints good f (λ h may. inr (inr (wished m good e way.hints q h may (way.makes h may) (among h may)))) way.holds;
}

pub room_of : (m : Meaning) (p : Part) → CanFetch m p → how_many_held (slots_of m) < 4
room_of m (part.Home k) can = can.0.room can.1
room_of m (part.Thread t) can = can.0.room can.1
room_of m (part.Actor d) can = absurd can

-- a world that has all has what the event touches
pub has_everything : (m : Meaning) (e : Event) → IsGood m → m.all ≡ true → IsOnItsWay m e → Holds m e
has_everything m e good all way = λ h may p among. good.everything all h may p (there_to_make m good h may way.hints e p (way.makes h may) among)

-- no home is held
pub none_held : (m : Meaning) → (m.all ≡ false → how_many_held (slots_of m) ≡ 0) → HoldsToRead m
none_held m empty = λ few h may k there. absurd (by (slots_of m) k there (empty few))
  where
    by : (slots : List (Option Home)) (k : HomeId) → IsHeld k slots → how_many_held slots ≡ 0 → ⊥
    by [] k (x, e) none = cc
    by (None ∷ hs) k there none = by hs k there none
    by (Some y ∷ hs) k there none = omega (arith, none)

-- the same homes
pub holds_still : (m m' : Meaning) → Stays m m' → m'.acting ≡ m.acting → HoldsToRead m → HoldsToRead m'
holds_still m m' s same holds = kind_same m m' ReadKind s (λ few h may k (x, e).
    let before : held k (slots_of m) ≡ Some x = ap (λ (a : Acting). held k a.hand.slots) (sym same) ∙ e in
    let want = holds (sym s.all ∙ few) h (may_same m m' h s same may) k (x, before) in record {
      part = want.part;
      kind = subst (λ w. IsAmong want.part (reads_parts m.work (after_run (record m' { work = w }) h) (actor_of m))) (sym s.work) want.kind;
      lies = subst (λ w. home_in (after_run (record m' { work = w }) h) want.part ≡ Some k) (sym s.work) want.lies;
    })

pub make_still : (m m' : Meaning) (hints : Option Hints) → Stays m m' → m'.acting ≡ m.acting → HoldsToMake m hints → HoldsToMake m' hints
make_still m m' hints s same holds = kind_same m m' (MakeKind hints) s (λ few h may k (x, e).
    let before : held k (slots_of m) ≡ Some x = ap (λ (a : Acting). held k a.hand.slots) (sym same) ∙ e in
    let want = holds (sym s.all ∙ few) h (may_same m m' h s same may) k (x, before) in record {
      part = want.part;
      kind = subst (λ w. IsSought m.work (after_run (record m' { work = w }) h) (actor_of m) hints want.part) (sym s.work) want.kind;
      lies = subst (λ w. home_in (after_run (record m' { work = w }) h) want.part ≡ Some k) (sym s.work) want.lies;
    })
