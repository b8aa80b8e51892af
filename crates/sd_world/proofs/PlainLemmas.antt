-- A run on homes, all of which are there: nothing that a processor needs is lacking, and what it makes is a step.
use Rattle.std.proofs.Common.{◌≡◌, ◌≢◌, ℕ, ◌+◌, ◌<◌, ◌≤◌, ◌⊎◌, true, ◌==◌, List, [], ◌∷◌, ◌++◌, length, is_some, set, slice_get, take, Option, Some, Result, Ok, Err, refl, sym, ap, ◌∙◌, subst, inl, inr, arith, length-append}
use Rattle.std.specs.Prelude.{IfOk}
use Rattle.std.proofs.lemmas.Bool.{cases_eq, cases_lt, eq-eqb, eqb-true}
use Rattle.std.proofs.lemmas.List.{get_or-set_same, get_or-set_other, length-set, take-append-le}
use Rattle.std.proofs.Math.Seq.{take-append_seam, take-length}
use Rattle.std.proofs.lemmas.Option.{slice_get-get_or, slice_get_within, get_or_from_slice_get}
use Rattle.sd_basics.proofs.Lists.{some_of}
use Rattle.sd_types.specs.declared.numbers.CpuId.{CpuId}
use Rattle.sd_types.specs.declared.numbers.HomeId.{HomeId}
use Rattle.sd_types.specs.declared.numbers.HomeId.TheVariants as home
use Rattle.sd_types.specs.declared.events.Entry.{Entry}
use Rattle.sd_types.specs.declared.events.Event.{Event}
use Rattle.sd_types.specs.declared.events.Hints.{Hints}
use Rattle.sd_types.specs.declared.works.Work.{Work}
use Rattle.sd_state.specs.declared.states.State.{State}
use Rattle.sd_state.specs.Opening.{opening}
use Rattle.sd_state.specs.States.{cpu_of, thread_of}
use Rattle.sd_machine.specs.Events.{after, next}
use Rattle.sd_machine.specs.Runs.{IsReached, IsRun, final, state_at}
use Rattle.sd_machine.proofs.RunLemmas.{IsRun-append, IsRunFrom-one, final-append, final-push}
use Rattle.sd_machine.proofs.ShapeLemmas.{after_shape}
use Rattle.sd_invariants.proofs.Whole.{fit_reached}
use Rattle.sd_store.specs.declared.parts.Part.{Part}
use Rattle.sd_store.specs.declared.parts.Part.TheVariants as part
use Rattle.sd_store.specs.Parts.{IsAmong, cpu_part}
use Rattle.sd_step.specs.Touched.{after_parts}
use Rattle.sd_homes.specs.Numbers.{IsHomeOf}
use Rattle.sd_homes.specs.Standing.{home_at, home_of, list_of}
use Rattle.sd_homes.specs.declared.home.Home.{Home}
use Rattle.sd_hand.specs.declared.acting.Acting.{Acting}
use Rattle.sd_hand.specs.declared.acting.Actor.{Actor}
use Rattle.sd_hand.specs.Acting.{IsShown, has_part}
use Rattle.sd_hand.specs.Hands.{has_thread, held}
use Rattle.sd_hand.specs.OneHome.{AreAllHomes, StandsInHomes}
use Rattle.sd_hand.proofs.GuideLemmas.{stands_guessed}
use Rattle.sd_hand.proofs.MoveLemmas.{taken}
use Rattle.sd_hand.proofs.SlotLemmas.{stands_has}
use Rattle.sd_footprint.specs.Changed.{SameActor}
use Rattle.sd_footprint.specs.There.{IsPartThere, PartsAreThere, StandsThere}
use Rattle.sd_footprint.proofs.ThereLemmas.{known_reached, stands_there}
use Rattle.sd_footprint.proofs.TouchedThere.{parts_there}
use Rattle.sd_footprint.proofs.RanLast.{reached_changes}
use Rattle.sd_world.specs.Told.{AreActorsOf, IsActorOf}
use Rattle.sd_world.specs.declared.plain.PlainWorld.{PlainWorld}
use Rattle.sd_world.specs.Entries.{CanEnter}
use Rattle.sd_world.specs.Plain.{HasStood, Stands, StandsInRun, told}
use Rattle.sd_types.specs.Limits.{most_entries}
use Rattle.sd_world.proofs.ComeLemmas.{one_list}

some_true : {A : Type 0} (o : Option A) (a : A) → o ≡ Some a → is_some o ≡ true
some_true o a e = ap is_some e

module _ (w : Work) (x : PlainWorld) (st : Stands w x) where
  pub reached : IsReached w (length x.entries.items) (told w x)
  reached = record { entries = x.entries.items; run = st.run; many = refl; ends = refl }

  pub shown : IsShown x.acting (length x.entries.items) (told w x)
  shown = record {
    homes = st.all.shown;
    apart = st.all.apart;
    inside = st.inside;
    count = st.acts.count;
    duty = st.acts.duty;
    locks = st.all.locks;
    chans = st.all.chans;
  }

  pub cpu_inside : x.acting.actor.cpu.0 < w.cpus
  cpu_inside = subst (λ m. x.acting.actor.cpu.0 < m) (fit_reached w (length x.entries.items) (told w x) reached).fits.cpus st.inside

  -- each part that is there it has
  pub has_home : (k : HomeId) → IsHomeOf (told w x) k → is_some (held k x.acting.hand.slots) ≡ true
  has_home k there = let (h, e) = st.all.all k there in some_true (held k x.acting.hand.slots) h e

  pub has_stander : (t : ℕ) → t < length (told w x).threads → IsHomeOf (told w x) (home_of (thread_of (told w x) t)) → has_thread t x.acting.hand.slots ≡ true
  has_stander t inside there =
      let at = list_of (thread_of (told w x) t) in
      let hs = x.acting.hand.slots in
      let e = taken (length x.entries.items) (told w x) t at hs (record { inside = inside; list = refl }) st.all.shown (st.all.all (home_at at) there) in
      stands_has t hs at (stands_guessed t at hs (ap is_some e))

  pub actor_inside : (c : CpuId) → c.0 < w.cpus → c.0 < length x.actors.items
  actor_inside c there =
      let many = (fit_reached w (length x.entries.items) (told w x) reached).fits.cpus in
      let actors = st.actors.many in
      omega (arith, there, many, actors)

  -- the state that is told
  pub told_ok : {E : Type 0} (r : Result State E) (actors : List Actor) → AreActorsOf (told w x) actors
      → IfOk r (λ z. (n : ℕ) (s : State) → IsReached w n s → AreAllHomes n s x.acting.hand.slots → AreActorsOf s actors → z ≡ s) → IfOk r (λ z. z ≡ told w x)
  told_ok (Ok z) actors are tells = tells (length x.entries.items) (told w x) reached st.all are
  told_ok (Err e) actors are tells = tt

  pub stood : (t : ℕ) → StandsThere (told w x) (thread_of (told w x) t)
  stood t = stands_there w (told w x) (known_reached w (length x.entries.items) (told w x) reached) t

  pub has_there : (p : Part) → IsPartThere (told w x) x.acting.actor.cpu p → has_part x.acting p ≡ true
  has_there (part.Home k) there = has_home k there
  has_there (part.Thread t) there = has_stander t.0 there (stood t.0).home
  has_there (part.Actor d) there = eq-eqb d.0 x.acting.actor.cpu.0 (ap (λ (c : CpuId). c.0) there)

  turn_there : (hints : Option Hints) → PartsAreThere w (told w x) x.acting.actor.cpu hints
  turn_there hints = parts_there w (length x.entries.items) (told w x) x.acting.actor.cpu hints reached cpu_inside

  pub in_run : StandsInRun x.acting
  in_run = record { work = w; number = length x.entries.items; state = told w x; reached = reached; shown = shown }

  -- the home of a processor
  pub has_cpu : (d : CpuId) → d.0 < w.cpus → has_part x.acting (cpu_part d) ≡ true
  has_cpu d there = has_home (home.Cpu d) (subst (λ m. d.0 < m) (sym (fit_reached w (length x.entries.items) (told w x) reached).fits.cpus) there)

  -- an entry may be made
  pub can_enter : (e : Event) (hints : Option Hints) → length x.entries.items < most_entries → next w (told w x) x.acting.actor.cpu hints ≡ Some e → CanEnter w x.acting x.actors.items x.entries.items e hints
  can_enter e hints few is = record {
    run = st.run;
    few = few;
    shown = shown;
    next = is;
    holds = λ p among. has_there p ((turn_there hints).touching e is p among);
    there = subst (λ m. x.acting.actor.cpu.0 < m) (sym st.actors.many) st.inside;
  }

-- the state to which more entries lead
pub told_more : (w : Work) (x y : PlainWorld) (es : List Entry) → y.entries.items ≡ x.entries.items ++ es → told w y ≡ final w (told w x) es
told_more w x y es e = ap (final w (opening w)) e ∙ final-append w (opening w) x.entries.items es

-- the state to which its entries lead stands in homes too
pub stands_in : (w : Work) (x : PlainWorld) → Stands w x → StandsInHomes (length x.entries.items) (told w x)
stands_in w x st = record { homes = x.acting.hand.slots; all = st.all; once = one_list w (length x.entries.items) (told w x) x.acting.hand.slots (reached w x st) st.all }

stood_one_more : (w : Work) (es : List Entry) (e : Entry) → HasStood w es → StandsInHomes (length es) (final w (opening w) es) → HasStood w (es ++ e ∷ [])
stood_one_more w es e before last k below = by (cases_lt k (length es))
  where
    by : (k < length es) ⊎ (length es ≤ k) → StandsInHomes k (state_at w (es ++ e ∷ []) k)
    by (inl earlier) = subst (λ fs. StandsInHomes k (final w (opening w) fs)) (sym (take-append-le k es (e ∷ []) (omega (arith, earlier)))) (before k earlier)
    by (inr later) =
        let many = length-append es (e ∷ []) in
        let is : k ≡ length es = omega (arith, below, later, many) in
        subst (λ j. StandsInHomes j (final w (opening w) (take j (es ++ e ∷ [])))) (sym is)
        (subst (λ fs. StandsInHomes (length es) (final w (opening w) fs)) (sym (take-append_seam es (e ∷ []))) last)

-- each state so far
pub all_stood : (w : Work) (x : PlainWorld) → Stands w x → (k : ℕ) → k ≤ length x.entries.items → StandsInHomes k (state_at w x.entries.items k)
all_stood w x st k most = by (cases_lt k (length x.entries.items))
  where
    by : (k < length x.entries.items) ⊎ (length x.entries.items ≤ k) → StandsInHomes k (state_at w x.entries.items k)
    by (inl earlier) = st.stood k earlier
    by (inr later) =
        let is : k ≡ length x.entries.items = omega (arith, most, later) in
        subst (λ j. StandsInHomes j (final w (opening w) (take j x.entries.items))) (sym is)
        (subst (λ fs. StandsInHomes (length x.entries.items) (final w (opening w) fs)) (sym (take-length x.entries.items)) (stands_in w x st))

-- ---- another processor acts
pub acts_now : (w : Work) (x : PlainWorld) (a : Actor) → Stands w x → slice_get x.actors.items a.cpu.0 ≡ Some a → Stands w (record x { acting = record x.acting { actor = a } })
acts_now w x a st at = record {
  run = st.run;
  all = st.all;
  actors = st.actors;
  inside = subst (λ m. a.cpu.0 < m) st.actors.many (slice_get_within x.actors.items a.cpu.0 a at);
  acts = st.actors.each a.cpu.0 a at;
  stood = st.stood;
}

-- a run that goes on from a state
module _ (w : Work) (s : State) (es : List Entry) (run : IsRun w es) (is : s ≡ final w (opening w) es) where
  begun : IsReached w (length es) s
  begun = record { entries = es; run = run; many = refl; ends = sym is }

  pub few_cpus : length s.cpus ≤ 64
  few_cpus = let many = (fit_reached w (length es) s begun).fits.cpus in let most = w.most_cpus in omega (arith, many, most)

  pub some_cpus : (actors : List Actor) → AreActorsOf s actors → 0 < length actors
  some_cpus actors are = let many = (fit_reached w (length es) s begun).fits.cpus in let some = w.some_cpu in let all = are.many in omega (arith, many, some, all)

  pub stands_begun : (x : PlainWorld) (hs : List (Option Home)) → HasStood w es → x.entries.items ≡ es → AreAllHomes (length es) s hs → x.acting.hand.slots ≡ hs → AreActorsOf s x.actors.items
      → slice_get x.actors.items 0 ≡ Some x.acting.actor → Stands w x
  stands_begun x hs stood same all slots actors first =
      let goes : told w x ≡ s = ap (final w (opening w)) same ∙ sym is in
      let zero_is = (actors.each 0 x.acting.actor first).cpu in
      let own = subst (λ i. IsActorOf s i x.acting.actor) (sym zero_is) (actors.each 0 x.acting.actor first) in
      let inside : x.acting.actor.cpu.0 < length s.cpus = let some = some_cpus x.actors.items actors in let many = actors.many in omega (arith, some, many, zero_is) in
      record {
        run = subst (IsRun w) (sym same) run;
        all = subst (λ n. AreAllHomes n (told w x) x.acting.hand.slots) (ap length (sym same))
            (subst (λ z. AreAllHomes (length es) z x.acting.hand.slots) (sym goes) (subst (AreAllHomes (length es) s) (sym slots) all));
        actors = subst (λ z. AreActorsOf z x.actors.items) (sym goes) actors;
        inside = subst (λ z. x.acting.actor.cpu.0 < length z.cpus) (sym goes) inside;
        acts = subst (λ z. IsActorOf z x.acting.actor.cpu.0 x.acting.actor) (sym goes) own;
        stood = subst (HasStood w) (sym same) stood;
      }

-- what has the same parts acts for the same processor
pub same_actor : (x y : Acting) → has_part y ≡ has_part x → y.actor.cpu ≡ x.actor.cpu
same_actor x y has =
    let own : (x.actor.cpu.0 == x.actor.cpu.0) ≡ true = eq-eqb x.actor.cpu.0 x.actor.cpu.0 refl in
    let e : (x.actor.cpu.0 == y.actor.cpu.0) ≡ true = ap (λ f. f (part.Actor x.actor.cpu)) has ∙ own in
    ap (λ n. record { 0 = n }) (sym (eqb-true x.actor.cpu.0 y.actor.cpu.0 e))

-- ---- one entry more
module _ (w : Work) (x y : PlainWorld) (e : Event) (hints : Option Hints) (st : Stands w x) where
  abbrev entry : Entry
  entry = record { number = length x.entries.items; cpu = x.acting.actor.cpu; event = e; hints = hints }

  abbrev before : State
  before = told w x

  abbrev new : State
  new = after w before (length x.entries.items) x.acting.actor.cpu e

  leads : y.entries.items ≡ x.entries.items ++ entry ∷ [] → told w y ≡ new
  leads es = ap (final w (opening w)) es ∙ final-push w (opening w) x.entries.items entry

  same_homes : (k : HomeId) → IsHomeOf new k ≡ IsHomeOf before k
  same_homes (home.Cpu c) = ap (λ m. c.0 < m) (after_shape w before (length x.entries.items) x.acting.actor.cpu e).cpus
  same_homes (home.RealTime p) = ap (λ m. p.0 < m) (after_shape w before (length x.entries.items) x.acting.actor.cpu e).sets
  same_homes (home.Chain i) = refl
  same_homes (home.Sleepers i) = refl

  -- it has the parts that it had
  abbrev pub HasAsBefore : Type 0
  HasAsBefore = (p : Part) → has_part y.acting p ≡ has_part x.acting p

  held_still : HasAsBefore → (k : HomeId) → is_some (held k y.acting.hand.slots) ≡ is_some (held k x.acting.hand.slots)
  held_still has k = has (part.Home k)

  all_still : IsShown y.acting (length x.entries.items + 1) new → HasAsBefore → AreAllHomes (length x.entries.items + 1) new y.acting.hand.slots
  all_still sh has = record {
    shown = sh.homes;
    apart = sh.apart;
    all = λ k there. let (h, is) = st.all.all k (subst (λ z. z) (same_homes k) there) in some_of (held k y.acting.hand.slots) (held_still has k ∙ ap is_some is);
    only = λ k there. let (h, is) = there in subst (λ z. z) (sym (same_homes k)) (st.all.only k (some_of (held k x.acting.hand.slots) (sym (held_still has k) ∙ ap is_some is)));
    locks = sh.locks;
    chans = sh.chans;
  }

  -- the counts and the duties of the others stay
  own_alone : (d : ℕ) → d ≢ x.acting.actor.cpu.0 → next w before x.acting.actor.cpu hints ≡ Some e → SameActor (cpu_of before d) (cpu_of new d)
  own_alone d other is = by ((reached_changes w (length x.entries.items) before x.acting.actor.cpu hints e (reached w x st) is).actors d)
    where
      by : SameActor (cpu_of before d) (cpu_of new d) ⊎ IsAmong (part.Actor (record { 0 = d })) (after_parts w before x.acting.actor.cpu e) → SameActor (cpu_of before d) (cpu_of new d)
      by (inl same) = same
      by (inr among) = absurd (other (ap (λ (c : CpuId). c.0) ((turn_there w x st hints).touching e is (part.Actor (record { 0 = d })) among)))

  actors_now : next w before x.acting.actor.cpu hints ≡ Some e → IsShown y.acting (length x.entries.items + 1) new → y.acting.actor.cpu ≡ x.acting.actor.cpu
      → y.actors.items ≡ set x.actors.items x.acting.actor.cpu.0 y.acting.actor → AreActorsOf new y.actors.items
  actors_now is sh cpu list = subst (AreActorsOf new) (sym list) (record {
    many = length-set x.actors.items x.acting.actor.cpu.0 y.acting.actor ∙ (st.actors.many ∙ sym (after_shape w before (length x.entries.items) x.acting.actor.cpu e).cpus);
    each = λ d a at. by d a at (cases_eq d x.acting.actor.cpu.0);
  })
    where
      by : (d : ℕ) (a : Actor) → slice_get (set x.actors.items x.acting.actor.cpu.0 y.acting.actor) d ≡ Some a → (d ≡ x.acting.actor.cpu.0) ⊎ (d ≢ x.acting.actor.cpu.0) → IsActorOf new d a
      by d a at (inl own) =
          let inside = slice_get_within (set x.actors.items x.acting.actor.cpu.0 y.acting.actor) d a at in
          let there : x.acting.actor.cpu.0 < length x.actors.items = subst (λ j. j < length x.actors.items) own (subst (λ m. d < m) (length-set x.actors.items x.acting.actor.cpu.0 y.acting.actor) inside) in
          let one : y.acting.actor ≡ a =
          sym (get_or-set_same x.actors.items x.acting.actor.cpu.0 y.acting.actor a there)
          ∙ get_or_from_slice_get (set x.actors.items x.acting.actor.cpu.0 y.acting.actor) x.acting.actor.cpu.0 a a (subst (λ j. slice_get (set x.actors.items x.acting.actor.cpu.0 y.acting.actor) j ≡ Some a) own at) in
          let number : y.acting.actor.cpu.0 ≡ d = ap (λ (c : CpuId). c.0) cpu ∙ sym own in
          subst (IsActorOf new d) one (record {
            cpu = number;
            count = subst (λ j. y.acting.actor.count ≡ (cpu_of new j).count) number sh.count;
            duty = subst (λ j. y.acting.actor.duty ≡ (cpu_of new j).duty) number sh.duty;
          })
      by d a at (inr other) =
          let inside = slice_get_within (set x.actors.items x.acting.actor.cpu.0 y.acting.actor) d a at in
          let there : d < length x.actors.items = subst (λ m. d < m) (length-set x.actors.items x.acting.actor.cpu.0 y.acting.actor) inside in
          let kept : slice_get x.actors.items d ≡ Some a =
          slice_get-get_or x.actors.items d a there
          ∙ ap Some (sym (get_or-set_other x.actors.items x.acting.actor.cpu.0 d y.acting.actor a other) ∙ get_or_from_slice_get (set x.actors.items x.acting.actor.cpu.0 y.acting.actor) d a a at) in
          let old = st.actors.each d a kept in
          let same = own_alone d other is in
          record { cpu = old.cpu; count = old.count ∙ sym same.0; duty = old.duty ∙ sym same.1 }

  -- a step was made
  pub steps : next w before x.acting.actor.cpu hints ≡ Some e → IsShown y.acting (length x.entries.items + 1) new → HasAsBefore → y.acting.actor.cpu ≡ x.acting.actor.cpu
      → y.actors.items ≡ set x.actors.items x.acting.actor.cpu.0 y.acting.actor → y.entries.items ≡ x.entries.items ++ entry ∷ [] → Stands w y
  steps is sh has cpu list es =
      let goes = leads es in
      let many : length y.entries.items ≡ length x.entries.items + 1 = ap length es ∙ length-append x.entries.items (entry ∷ []) in
      record {
        run = subst (IsRun w) (sym es) (IsRun-append w x.entries.items (entry ∷ []) st.run (IsRunFrom-one w before (length x.entries.items) entry refl is));
        all = subst (λ m. AreAllHomes m (told w y) y.acting.hand.slots) (sym many) (subst (λ s. AreAllHomes (length x.entries.items + 1) s y.acting.hand.slots) (sym goes) (all_still sh has));
        actors = subst (λ s. AreActorsOf s y.actors.items) (sym goes) (actors_now is sh cpu list);
        inside = subst (λ s. y.acting.actor.cpu.0 < length s.cpus) (sym goes) sh.inside;
        acts = subst (λ s. IsActorOf s y.acting.actor.cpu.0 y.acting.actor) (sym goes) (record { cpu = refl; count = sh.count; duty = sh.duty });
        stood = subst (HasStood w) (sym es) (stood_one_more w x.entries.items entry st.stood (stands_in w x st));
      }
