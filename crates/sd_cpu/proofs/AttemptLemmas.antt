-- From what a processor found to the entry that it makes.
use Rattle.std.proofs.Common.{◌≡◌, ◌≢◌, ℕ, zero, suc, ◌<◌, ◌≤◌, Bool, true, false, ◌==◌, ◌&&◌, List, [], ◌∷◌, ◌++◌, length, get_or, slice_get, Option, Some, None, Result, Ok, Err, refl, sym, ap, ◌∙◌, subst, ⊎_elim, arith, option_map, if◌then◌else◌}
use Rattle.std.specs.Prelude.{nat_le, nat_lt, not, ◌||◌}
use Rattle.std.specs.List.{list_all}
use Rattle.std.proofs.lemmas.Bool.{cases_eq, eq-eqb}
use Rattle.std.proofs.lemmas.Bool.Decides.{nat_tests}
use Rattle.std.proofs.lemmas.Option.{get_or_from_slice_get, slice_get_within}
use Rattle.sd_basics.proofs.Truths.{and_never}
use Rattle.sd_types.specs.Events.{ticks}
use Rattle.sd_types.specs.declared.numbers.CpuId.{CpuId}
use Rattle.sd_types.specs.declared.events.Entry.{Entry}
use Rattle.sd_types.specs.declared.events.Event.{Event}
use Rattle.sd_types.specs.declared.events.Hints.{Hints}
use Rattle.sd_types.specs.declared.events.Which.{Which}
use Rattle.sd_types.specs.declared.works.Work.{Work}
use Rattle.sd_state.specs.declared.states.CpuState.{CpuState}
use Rattle.sd_state.specs.declared.states.State.{State}
use Rattle.sd_state.specs.States.{cpu_of, no_cpu}
use Rattle.sd_machine.specs.declared.plans.Plan.{Plan}
use Rattle.sd_machine.specs.Events.{allowed, may_tick, next, wish}
use Rattle.sd_machine.specs.Hints.{hints_fit, plan_reads, reads, same_which}
use Rattle.sd_machine.specs.Plans.{plan}
use Rattle.sd_machine.specs.Runs.{serial_hints, shown}
use Rattle.sd_invariants.proofs.Whole.{fit_reached}
use Rattle.sd_dispatcher.specs.declared.reading.Reading.{Reading}
use Rattle.sd_dispatcher.specs.Reading.{parts}
use Rattle.sd_hand.specs.declared.acting.Actor.{Actor}
use Rattle.sd_types.specs.Limits.{most_entries}
use Rattle.sd_world.specs.Worlds.{AllHinted, CanCommit, HasReserved, Holds, IsBehind, IsGood, Makes, MayStand, MayUse, Meaning, NoneBehind, ReadsCounts, Reserves, Stays, actor_of, after_run, note, now}
use Rattle.sd_types.specs.declared.events.Stop.{Stop}
use Rattle.sd_types.specs.declared.events.Stop.TheVariants.{Full, Memory}
use Rattle.sd_store.specs.Parts.{IsAmong}
use Rattle.sd_step.specs.Touched.{after_parts}
use Rattle.sd_hand.specs.declared.acting.Acting.{Acting}
use Rattle.sd_hand.specs.Acting.{has_part}
use Rattle.sd_world.proofs.WorldLemmas.{begins_same, begins_then}
use Rattle.sd_cpu.specs.declared.attempts.Turned.{Turned}
use Rattle.sd_cpu.specs.declared.attempts.Turned.TheVariants.{Acted, Ticked, Behind, Finished}
use Rattle.sd_cpu.specs.Attempts.{Acts, AreRead, Enters, Hinders, IsHindered, MayNotTick, MayTick, Refuses, AttemptTakesTurn}
use Rattle.sd_cpu.specs.Seeking.{Comes, FindsEvent, GivesUp, HoldsToMake, IsCourse, IsOnItsWay, IsReady, Looks}
use Rattle.sd_cpu.proofs.MeaningLemmas.{enters_from, hindered, idles, idles_from, looks_same, looks_still, may_same, one_from, rises_then}
use Rattle.sd_cpu.proofs.RoomLemmas.{reached_by}
use Rattle.sd_invariants.proofs.Complete.{same_kind}

hinted_length : (m : Meaning) (kind : Which) (cs : List CpuId) (ns : List ℕ) → AllHinted m kind cs ns → length ns ≡ length cs
hinted_length m kind [] [] all = refl
hinted_length m kind [] (n ∷ ns) all = absurd all
hinted_length m kind (c ∷ cs) [] all = absurd all
hinted_length m kind (c ∷ cs) (n ∷ ns) all = ap suc (hinted_length m kind cs ns all.1)

pub hinted_more : (m m' : Meaning) (kind : Which) (cs : List CpuId) (ns : List ℕ) → Stays m m' → AllHinted m kind cs ns → AllHinted m' kind cs ns
hinted_more m m' kind [] [] s all = all
hinted_more m m' kind [] (n ∷ ns) s all = absurd all
hinted_more m m' kind (c ∷ cs) [] s all = absurd all
hinted_more m m' kind (c ∷ cs) (n ∷ ns) s all = (s.hinted c.0 kind n all.0, hinted_more m m' kind cs ns s all.1)

-- numbers that were read for a reading fit it
pub read_fits : (m m' : Meaning) (r : Option Reading) (hints : Option Hints) → AreRead m m' r hints → hints_fit (option_map parts r) hints ≡ true
read_fits m m' None None is = refl
read_fits m m' None (Some hs) is = absurd is
read_fits m m' (Some r) None is = absurd is
read_fits m m' (Some r) (Some hs) is =
    ap (λ b. b && (length hs.numbers.items == length r.cpus.items)) (ap (same_which r.which) is.0 ∙ same_kind r.which)
    ∙ eq-eqb (length hs.numbers.items) (length r.cpus.items) (hinted_length m' r.which r.cpus.items hs.numbers.items is.1)

-- where nobody else makes entries, they are those of the state
pub read_shown : (m m' : Meaning) (r : Option Reading) (hints : Option Hints) → AreRead m m' r hints → m.alone ≡ true → hints ≡ shown (now m) (option_map parts r)
read_shown m m' None None is alone = refl
read_shown m m' None (Some hs) is alone = absurd is
read_shown m m' (Some r) None is alone = absurd is
read_shown m m' (Some r) (Some hs) is alone =
    ap (λ k. Some (record { which = k; numbers = hs.numbers })) is.0
    ∙ ap (λ l. Some (record { which = r.which; numbers = record { items = l } })) (is.2 alone)

pub ready : (m m' m'' : Meaning) (p : Plan) (r : Option Reading) (hints : Option Hints) → Looks m m' → IsCourse m p r → AreRead m m'' r hints → IsReady m' p hints
ready m m' m'' p r hints l course read = λ h may.
    let x = course h (l.narrows h may) in
    (x.0 ∙ same h, subst (λ o. hints_fit o hints ≡ true) (x.1 ∙ same_reads h) (read_fits m m'' r hints read))
  where
    same : (h : List Entry) → plan m.work (after_run m h) (actor_of m).0 ≡ plan m'.work (after_run m' h) (actor_of m').0
    same h = ap (λ w. plan w (after_run (record m { work = w }) h) (actor_of m).0) (sym l.stays.work) ∙ ap (λ (a : Actor). plan m'.work (after_run m' h) a.cpu.0) (sym l.stays.actor)

    same_reads : (h : List Entry) → plan_reads m.work (after_run m h) (actor_of m).0 p ≡ plan_reads m'.work (after_run m' h) (actor_of m').0 p
    same_reads h = ap (λ w. plan_reads w (after_run (record m { work = w }) h) (actor_of m).0 p) (sym l.stays.work) ∙ ap (λ (a : Actor). plan_reads m'.work (after_run m' h) a.cpu.0 p) (sym l.stays.actor)

-- the numbers of the state are those of a run that goes in rounds
pub course_given : (m m' : Meaning) (p : Plan) (r : Option Reading) (hints : Option Hints) → IsGood m → IsCourse m p r → AreRead m m' r hints → m.alone ≡ true → hints ≡ serial_hints m.work (now m) (actor_of m)
unfolding serial_hints reads
course_given m m' p r hints good course read alone =
    let x = course m.seen good.stands in
    read_shown m m' r hints read alone ∙ ap (shown (now m)) (x.1 ∙ ap (plan_reads m.work (now m) (actor_of m).0) x.0)

-- a processor that may tick, wherever the world may have come
all_least : (n : ℕ) (cs : List CpuState) → ((i : ℕ) (x : CpuState) → slice_get cs i ≡ Some x → n ≤ x.count) → list_all (λ (x : CpuState). nat_le n x.count) cs ≡ true
all_least n [] each = refl
all_least n (x ∷ cs) each =
    let here : nat_le n x.count ≡ true = (let z = each 0 x refl in grind (arith, nat_tests)) in
    ap (λ b. b && list_all (λ (y : CpuState). nat_le n y.count) cs) here ∙ all_least n cs (λ i y at. each (suc i) y at)

own_count : (m : Meaning) (h : List Entry) → MayStand m h → (cpu_of (after_run m h) (actor_of m).0).count ≡ m.acting.actor.count
own_count m h may = sym may.shown.count

pub may_tick_now : (m : Meaning) (h : List Entry) → IsGood m → MayStand m h → MayTick m → may_tick m.work (after_run m h) (actor_of m).0 ≡ true
unfolding may_tick
may_tick_now m h good may tick =
    let s = after_run m h in
    let c = (actor_of m).0 in
    let own = own_count m h may in
    let below = tick.below in
    let less : nat_lt m.acting.actor.count m.work.limit ≡ true = grind (arith, nat_tests) in
    ap (λ k. nat_lt k m.work.limit && list_all (λ (x : CpuState). nat_le k x.count) s.cpus) own
    ∙ ap (λ b. b && list_all (λ (x : CpuState). nat_le m.acting.actor.count x.count) s.cpus) less
    ∙ all_least m.acting.actor.count s.cpus each
  where
    many : length (after_run m h).cpus ≡ m.work.cpus
    many = (fit_reached m.work (length h) (after_run m h) (reached_by m good h may)).fits.cpus

    each : (i : ℕ) (x : CpuState) → slice_get (after_run m h).cpus i ≡ Some x → m.acting.actor.count ≤ x.count
    each i x at = ⊎_elim
        (λ (e : i ≡ (actor_of m).0). (let z = ap (λ (y : CpuState). y.count) is in let o = ap (λ k. (cpu_of (after_run m h) k).count) e ∙ own_count m h may in omega (arith, z, o)))
        (λ (n : i ≢ (actor_of m).0).
        let inside = slice_get_within (after_run m h).cpus i x at in
        let q = tick.none i (let e = many in omega (arith, inside, e)) n in
        let r = good.reached i q.0 q.2 h may in
        let o = q.1 in
        let z = ap (λ (y : CpuState). y.count) is in omega (arith, r, o, z))
        (cases_eq i (actor_of m).0)
      where
        is : cpu_of (after_run m h) i ≡ x
        is = get_or_from_slice_get (after_run m h).cpus i x no_cpu at

-- the event that a processor may make
pub next_is : (w : Work) (s : State) (c : CpuId) (hints : Option Hints) (e : Event) → c.0 < w.cpus → hints_fit (reads w s c.0) hints ≡ true → wish w s c.0 hints ≡ e → (ticks e ≡ true → may_tick w s c.0 ≡ true)
    → next w s c hints ≡ Some e
unfolding next
next_is w s c hints e inside fit is may =
    let there : nat_lt c.0 w.cpus ≡ true = grind (arith, nat_tests) in
    ap (λ b. if b && hints_fit (reads w s c.0) hints then allowed w s c.0 (wish w s c.0 hints) else None) there
    ∙ ap (λ b. if b then allowed w s c.0 (wish w s c.0 hints) else None) fit ∙ ap (allowed w s c.0) is ∙ by (ticks e) refl
  where
    by : (b : Bool) → ticks e ≡ b → allowed w s c.0 e ≡ Some e
    by true t = ap (λ b. if not b || may_tick w s c.0 then Some e else None) t ∙ ap (λ b. if b then Some e else None) (may t)
    by false t = ap (λ b. if not b || may_tick w s c.0 then Some e else None) t

-- one that ticks, and may not
pub next_not : (w : Work) (s : State) (c : CpuId) (hints : Option Hints) → ticks (wish w s c.0 hints) ≡ true → may_tick w s c.0 ≡ false → next w s c hints ≡ None
unfolding next
next_not w s c hints t may = by (nat_lt c.0 w.cpus && hints_fit (reads w s c.0) hints)
  where
    none : allowed w s c.0 (wish w s c.0 hints) ≡ None
    none = ap (λ b. if not b || may_tick w s c.0 then Some (wish w s c.0 hints) else None) t ∙ ap (λ b. if b then Some (wish w s c.0 hints) else None) may

    by : (b : Bool) → (if b then allowed w s c.0 (wish w s c.0 hints) else None) ≡ None
    by true = none
    by false = refl

pub limit_reached : (m : Meaning) (h : List Entry) → MayStand m h → m.work.limit ≤ m.acting.actor.count → may_tick m.work (after_run m h) (actor_of m).0 ≡ false
unfolding may_tick
limit_reached m h may high =
    let own = own_count m h may in
    let no : nat_lt m.acting.actor.count m.work.limit ≡ false = grind (arith, nat_tests) in
    ap (λ k. nat_lt k m.work.limit && list_all (λ (x : CpuState). nat_le k x.count) (after_run m h).cpus) own
    ∙ ap (λ b. b && list_all (λ (x : CpuState). nat_le m.acting.actor.count x.count) (after_run m h).cpus) no

not_all : (n : ℕ) (cs : List CpuState) (i : ℕ) → i < length cs → (get_or cs i no_cpu).count < n → list_all (λ (x : CpuState). nat_le n x.count) cs ≡ false
not_all n [] i inside less = absurd (omega (arith, inside))
not_all n (x ∷ cs) zero inside less =
    let no : nat_le n x.count ≡ false = grind (arith, nat_tests) in
    ap (λ b. b && list_all (λ (y : CpuState). nat_le n y.count) cs) no
not_all n (x ∷ cs) (suc i) inside less = ap (λ b. nat_le n x.count && b) (not_all n cs i (omega (arith, inside)) less) ∙ and_never (nat_le n x.count)

pub another_behind : (m : Meaning) (h : List Entry) (d : ℕ) → IsGood m → MayStand m h → d < m.work.cpus → (cpu_of (after_run m h) d).count < m.acting.actor.count → may_tick m.work (after_run m h) (actor_of m).0 ≡ false
unfolding may_tick
another_behind m h d good may there less =
    let own = own_count m h may in
    let many = (fit_reached m.work (length h) (after_run m h) (reached_by m good h may)).fits.cpus in
    ap (λ k. nat_lt k m.work.limit && list_all (λ (x : CpuState). nat_le k x.count) (after_run m h).cpus) own
    ∙ ap (λ b. nat_lt m.acting.actor.count m.work.limit && b) (not_all m.acting.actor.count (after_run m h).cpus d (omega (arith, there, many)) less) ∙ and_never (nat_lt m.acting.actor.count m.work.limit)

-- what was found is so wherever the world may have come since
same_state : (m m' : Meaning) (h : List Entry) → Stays m m' → {A : Type 0} (f : Work → State → CpuId → A) → f m.work (after_run m h) (actor_of m) ≡ f m'.work (after_run m' h) (actor_of m')
same_state m m' h s f = ap (λ w. f w (after_run (record m { work = w }) h) (actor_of m)) (sym s.work) ∙ ap (λ (a : Actor). f m'.work (after_run m' h) a.cpu) (sym s.actor)

pub ready_later : (m m' : Meaning) (p : Plan) (hints : Option Hints) → Looks m m' → IsReady m p hints → IsReady m' p hints
ready_later m m' p hints l is = λ h may.
    let x = is h (l.narrows h may) in
    (x.0 ∙ same_state m m' h l.stays (λ w s c. plan w s c.0), subst (λ o. hints_fit o hints ≡ true) (same_state m m' h l.stays (λ w s c. plan_reads w s c.0 p)) x.1)

pub makes_later : (m m' : Meaning) (e : Event) (hints : Option Hints) → Looks m m' → Makes m e hints → Makes m' e hints
makes_later m m' e hints l is = λ h may. sym (same_state m m' h l.stays (λ w s c. next w s c hints)) ∙ is h (l.narrows h may)

use_narrow : (m m' : Meaning) (hints : Option Hints) → Stays m m' → ((h : List Entry) → MayStand m' h → MayStand m h) → MayUse m hints → MayUse m' hints
use_narrow m m' None s narrows is = tt
use_narrow m m' (Some hs) s narrows (cpus, read, all) =
    (cpus, (λ h may. sym (same_state m m' h s (λ w z c. reads w z c.0)) ∙ read h (narrows h may)), hinted_more m m' hs.which cpus hs.numbers.items s all)

pub given_later : (m m' : Meaning) (hints : Option Hints) → Stays m m' → (m.alone ≡ true → hints ≡ serial_hints m.work (now m) (actor_of m)) → m'.alone ≡ true → hints ≡ serial_hints m'.work (now m') (actor_of m')
given_later m m' hints s is alone =
    let before = sym s.alone ∙ alone in
    is before ∙ same_state m m' m.seen s serial_hints ∙ ap (λ h. serial_hints m'.work (after_run m' h) (actor_of m')) (sym (s.still before))

pub use_read : (m m' : Meaning) (p : Plan) (r : Option Reading) (hints : Option Hints) → Looks m m' → IsCourse m p r → AreRead m m' r hints → MayUse m' hints
unfolding reads
use_read m m' p None None l course read = tt
use_read m m' p None (Some hs) l course read = absurd read
use_read m m' p (Some r) None l course read = absurd read
use_read m m' p (Some r) (Some hs) l course read = (
  r.cpus.items,
  (λ h may.
      let x = course h (l.narrows h may) in
      sym (same_state m m' h l.stays (λ w s c. reads w s c.0)) ∙ ap (plan_reads m.work (after_run m h) (actor_of m).0) (sym x.0) ∙ sym x.1 ∙ ap (λ k. Some (k, r.cpus.items)) (sym read.0)),
  subst (λ k. AllHinted m' k r.cpus.items hs.numbers.items) (sym read.0) read.1,
)

pub makes : (m : Meaning) (e : Event) (hints : Option Hints) → IsGood m → Comes m e hints → (ticks e ≡ true → MayTick m) → Makes m e hints
makes m e hints good comes may = λ h stand. next_is m.work (after_run m h) (actor_of m) hints e good.cpu (comes.fit h stand) (comes.wish h stand) (λ t. may_tick_now m h good stand (may t))

pub on_its_way : (m : Meaning) (e : Event) (hints : Option Hints) → HoldsToMake m hints → Makes m e hints → IsOnItsWay m e
on_its_way m e hints holds makes = record { hints = hints; makes = makes; holds = holds }

-- what it came to, it comes to after calls that leave what is held
pub comes_still : (m m' : Meaning) (e : Event) (hints : Option Hints) → Stays m m' → m'.acting ≡ m.acting → Comes m e hints → Comes m' e hints
comes_still m m' e hints s same comes = record {
  fit = λ h may. ap (λ o. hints_fit o hints) (sym (same_state m m' h s (λ w z c. reads w z c.0))) ∙ comes.fit h (may_same m m' h s same may);
  wish = λ h may. sym (same_state m m' h s (λ w z c. wish w z c.0 hints)) ∙ comes.wish h (may_same m m' h s same may);
  noted = use_narrow m m' hints s (λ h may. may_same m m' h s same may) comes.noted;
  given = given_later m m' hints s comes.given;
}

pub comes_found : (m m' : Meaning) (p : Plan) (e : Event) (hints : Option Hints) → IsReady m p hints → MayUse m hints → (m.alone ≡ true → hints ≡ serial_hints m.work (now m) (actor_of m)) → FindsEvent m m' hints e → Comes m' e hints
unfolding reads
comes_found m m' p e hints ready noted given found = record {
  fit = λ h may. (let x = ready_later m m' p hints found.looks ready h may in subst (λ q. hints_fit (plan_reads m'.work (after_run m' h) (actor_of m').0 q) hints ≡ true) x.0 x.1);
  wish = found.wish;
  noted = use_narrow m m' hints found.looks.stays found.looks.narrows noted;
  given = given_later m m' hints found.looks.stays given;
}

-- after homes were taken
pub comes_held : (m m' : Meaning) (e : Event) (hints : Option Hints) → Looks m m' → Comes m e hints → Comes m' e hints
comes_held m m' e hints l comes = record {
  fit = λ h may. ap (λ o. hints_fit o hints) (sym (same_state m m' h l.stays (λ w z c. reads w z c.0))) ∙ comes.fit h (l.narrows h may);
  wish = λ h may. sym (same_state m m' h l.stays (λ w z c. wish w z c.0 hints)) ∙ comes.wish h (l.narrows h may);
  noted = use_narrow m m' hints l.stays l.narrows comes.noted;
  given = given_later m m' hints l.stays comes.given;
}

pub can_commit : (m m' : Meaning) (w : Work) (e : Event) (hints : Option Hints) → w ≡ m.work → MayUse m hints → Makes m e hints → Holds m e → Reserves m m' → 1 ≤ m'.spare → length m.log < most_entries → CanCommit m' w e hints
can_commit m m' w e hints same noted makes holds r spare room = record {
  work = same ∙ sym r.stays.work;
  spare = spare;
  room = subst (λ l. length l < most_entries) (sym r.stays.log) room;
  makes = makes_later m m' e hints l makes;
  holds = λ h may p among. ap (λ (a : Acting). has_part a p) r.acting ∙ holds h (l.narrows h may) p (subst (IsAmong p) (sym (same_state m m' h r.stays (λ v z c. after_parts v z c e))) among);
  noted = use_narrow m m' hints r.stays l.narrows noted;
}
  where
    l : Looks m m'
    l = looks_still m m' r.stays r.quiet r.acting

-- a processor that would tick, and may not
rests : (m m' : Meaning) (e : Event) (hints : Option Hints) → IsGood m → Comes m e hints → ticks e ≡ true → ReadsCounts m m' → (m.alone ≡ true → may_tick m.work (now m) (actor_of m).0 ≡ false) → MayNotTick m m'
rests m m' e hints good comes t counts not =
    let would = ap ticks (comes.wish m.seen good.stands) ∙ t in record {
      idles = idles m m' counts.stays;
      run = m.seen;
      after = begins_same m.seen;
      before = counts.stays.begins;
      hints = hints;
      wish = would;
      none = λ alone. subst (λ h. next m.work (now m) (actor_of m) h ≡ None) (comes.given alone) (next_not m.work (now m) (actor_of m) hints would (not alone));
    }

pub hinders : (m m' : Meaning) (e : Event) (hints : Option Hints) (t : Turned) → IsGood m → Comes m e hints → ticks e ≡ true → ReadsCounts m m' → Hinders m m' (Some t) → AttemptTakesTurn m m' t
hinders m m' e hints (Acted n) good comes is counts h = absurd h
hinders m m' e hints (Ticked n) good comes is counts h = absurd h
hinders m m' e hints (Behind c n) good comes is counts h =
    (rests m m' e hints good comes is counts (λ alone. another_behind m m.seen c.0 good good.stands h.1.there (subst (λ k. k < m.acting.actor.count) (h.1.own alone) h.1.less)), h.0, h.1)
hinders m m' e hints Finished good comes is counts h = (rests m m' e hints good comes is counts (λ alone. limit_reached m m.seen good.stands h), h)

-- calls that made no entry, before a turn
rests_from : (m m' m'' : Meaning) → Stays m m' → MayNotTick m' m'' → MayNotTick m m''
rests_from m m' m'' s x = record {
  idles = idles_from m m' m'' s x.idles;
  run = x.run;
  after = begins_then m.seen m'.seen x.run s.begins x.after;
  before = x.before;
  hints = x.hints;
  wish = ap ticks (same_state m m' x.run s (λ w z c. wish w z c.0 x.hints)) ∙ x.wish;
  none = λ alone. same_state m m' m.seen s (λ w z c. next w z c (serial_hints w z c))
      ∙ ap (λ h. next m'.work (after_run m' h) (actor_of m') (serial_hints m'.work (after_run m' h) (actor_of m'))) (sym (s.still alone)) ∙ x.none (s.alone ∙ alone);
}

behind_from : (m m' m'' : Meaning) (c n : ℕ) → Looks m m' → IsBehind m' m'' c n → IsBehind m m'' c n
behind_from m m' m'' c n l x = record {
  less = subst (λ (a : Actor). n < a.count) l.stays.actor x.less;
  there = subst (λ w. c < w.cpus) l.stays.work x.there;
  other = subst (λ (a : Actor). c ≢ a.cpu.0) l.stays.actor x.other;
  reached = x.reached;
  own = λ alone. x.own (l.stays.alone ∙ alone) ∙ (ap (λ h. (cpu_of (after_run m' h) c).count) (l.stays.still alone) ∙ sym (same_state m m' m.seen l.stays (λ w s d. (cpu_of s c).count)));
  newest = λ shared.
      let (more, is) = x.newest (l.stays.alone ∙ shared) in
      (more, subst (λ ns. m''.notes ≡ note c n ∷ (more ++ ns)) l.quiet.notes is);
}

turns_from : (m m' m'' : Meaning) (t : Turned) → Looks m m' → AttemptTakesTurn m' m'' t → AttemptTakesTurn m m'' t
turns_from m m' m'' (Acted n) l x = one_from m m' m'' n false l.stays x
turns_from m m' m'' (Ticked n) l x = one_from m m' m'' n true l.stays x
turns_from m m' m'' (Behind c n) l x = (
  rests_from m m' m'' l.stays x.0,
  subst (λ w. m.acting.actor.count < w.limit) l.stays.work (subst (λ (a : Actor). a.count < m'.work.limit) l.stays.actor x.1),
  behind_from m m' m'' c.0 n l x.2,
)
turns_from m m' m'' Finished l x =
    (rests_from m m' m'' l.stays x.0, subst (λ w. w.limit ≤ m.acting.actor.count) l.stays.work (subst (λ (a : Actor). m'.work.limit ≤ a.count) l.stays.actor x.1))

pub acts_from : (m m' m'' : Meaning) (r : Result (Option Turned) Stop) → Looks m m' → Acts m' m'' r → Acts m m'' r
acts_from m m' m'' (Ok (Some t)) l x = turns_from m m' m'' t l x
acts_from m m' m'' (Ok None) l x = record { idles = idles_from m m' m'' l.stays x.idles; stops = rises_then m.stops m'.stops m''.stops (sym l.quiet.stops) x.stops }
acts_from m m' m'' (Err Full) l x = (idles_from m m' m'' l.stays x.0, subst (λ z. most_entries ≤ length z) l.stays.log x.1)
acts_from m m' m'' (Err Memory) l x = (idles_from m m' m'' l.stays x.0, subst (λ z. length z < most_entries) l.stays.log x.1)

-- by the count of the processor that acts
pub high : (m : Meaning) (w : Work) (x : Acting) → w ≡ m.work → x ≡ m.acting → w.limit ≤ x.actor.count → m.work.limit ≤ m.acting.actor.count
high m w x same here le = subst (λ (v : Work). v.limit ≤ m.acting.actor.count) same (subst (λ (a : Acting). w.limit ≤ a.actor.count) here le)

pub low : (m : Meaning) (w : Work) (x : Acting) → w ≡ m.work → x ≡ m.acting → x.actor.count < w.limit → m.acting.actor.count < m.work.limit
low m w x same here less = subst (λ (v : Work). m.acting.actor.count < v.limit) same (subst (λ (a : Acting). a.actor.count < w.limit) here less)

pub may_tick_of : (m m' : Meaning) (w : Work) (x : Acting) → w ≡ m.work → x ≡ m.acting → x.actor.count < w.limit → ReadsCounts m m' → NoneBehind m' → MayTick m'
may_tick_of m m' w x same here less counts none = record {
  below = subst (λ (v : Work). m'.acting.actor.count < v.limit) (sym counts.stays.work) (subst (λ (a : Acting). a.actor.count < m.work.limit) (sym counts.acting) (low m w x same here less));
  none = none;
}

pub refuses : (m m' : Meaning) (s : Stop) → Reserves m m' → HasReserved m m' (Err s) → Refuses m m' s
refuses m m' Full r room = (idles m m' r.stays, room)
refuses m m' Memory r room = (idles m m' r.stays, room)

-- once the homes are held
pub enters_held : (m m' m'' : Meaning) (b : Bool) (r : Result (Option ℕ) Stop) → Looks m m' → Enters m' m'' b r → Enters m m'' b r
enters_held m m' m'' b r l x = enters_from m m' m'' b r l.stays l.quiet.stops x

pub hindered_held : (m m' : Meaning) → GivesUp m m' → IsHindered m m'
hindered_held m m' g = hindered m m m' (looks_same m) g

pub same_work : (m m' : Meaning) (w : Work) → w ≡ m.work → Stays m m' → w ≡ m'.work
same_work m m' w same s = same ∙ sym s.work
