-- That there is room for one home more while something is lacking: all for which homes are held lies in four.
use Rattle.std.proofs.Common.{◌≡◌, ℕ, ◌+◌, ◌<◌, Bool, true, false, List, [], ◌∷◌, length, Option, Some, None, is_some, refl, sym, ap, ◌∙◌, subst, inl, inr, arith, if◌then◌else◌}
use Rattle.std.proofs.lemmas.Bool.{false≢true, eq-eqb}
use Rattle.sd_types.specs.declared.numbers.HomeId.{HomeId}
use Rattle.sd_types.specs.declared.events.Entry.{Entry}
use Rattle.sd_types.specs.declared.events.Event.{Event}
use Rattle.sd_types.specs.declared.events.Hints.{Hints}
use Rattle.sd_state.specs.declared.states.State.{State}
use Rattle.sd_state.specs.States.{cpu_of, thread_of}
use Rattle.sd_machine.specs.Events.{next}
use Rattle.sd_machine.specs.Runs.{IsReached}
use Rattle.sd_invariants.proofs.Ready.{reached_ready, serves_of}
use Rattle.sd_store.specs.declared.parts.Part.{Part}
use Rattle.sd_store.specs.declared.parts.Part.TheVariants as part
use Rattle.sd_store.specs.Parts.{IsAmong, actor_part}
use Rattle.sd_step.specs.Needed.{needed, reads_parts}
use Rattle.sd_step.specs.Touched.{after_parts}
use Rattle.sd_homes.specs.Standing.{home_at, home_of, list_of}
use Rattle.sd_homes.specs.declared.home.Home.{Home}
use Rattle.sd_homes.specs.Families.{home_id, same_home}
use Rattle.sd_hand.specs.Acting.{has_part}
use Rattle.sd_hand.specs.Hands.{AreApart, IsHeld, has_thread, held, how_many_held}
use Rattle.sd_hand.proofs.GuideLemmas.{stands_guessed, held_in}
use Rattle.sd_hand.proofs.MoveLemmas.{stands_at, taken}
use Rattle.sd_hand.proofs.SlotLemmas.{same_home_self, same_home_true, stands_has}
use Rattle.sd_footprint.specs.Homes.{IsOneOf, LiesIn, TakesFour, home_in}
use Rattle.sd_footprint.specs.There.{IsPartThere}
use Rattle.sd_footprint.proofs.FewHomes.{takes_four}
use Rattle.sd_footprint.proofs.TouchedThere.{parts_there}
use Rattle.sd_world.specs.Worlds.{Gains, IsGood, MayStand, Meaning, actor_of, after_run, now, slots_of}
use Rattle.sd_cpu.specs.Seeking.{CanFetch, HoldsFor, HoldsToMake, HomeHas, IsSought, IsWanted}
use Rattle.sd_cpu.proofs.MeaningLemmas.{may_gain}

-- a list without one of its homes
abbrev dropped : (k : HomeId) (hs : List HomeId) → IsOneOf (Some k) hs → List HomeId
dropped k [] is = absurd is
dropped k (h ∷ hs) (inl e) = hs
dropped k (h ∷ hs) (inr is) = h ∷ dropped k hs is

dropped_length : (k : HomeId) (hs : List HomeId) (is : IsOneOf (Some k) hs) → length (dropped k hs is) + 1 ≡ length hs
dropped_length k [] is = absurd is
dropped_length k (h ∷ hs) (inl e) = omega arith
dropped_length k (h ∷ hs) (inr is) = let e = dropped_length k hs is in omega (arith, e)

dropped_other : (k j : HomeId) (hs : List HomeId) (is : IsOneOf (Some k) hs) → (j ≡ k → ⊥) → IsOneOf (Some j) hs → IsOneOf (Some j) (dropped k hs is)
dropped_other k j [] is other one = absurd is
dropped_other k j (h ∷ hs) (inl e) other (inl f) = absurd (other (let z : Some j ≡ Some k = f ∙ sym e in cc))
dropped_other k j (h ∷ hs) (inl e) other (inr one) = one
dropped_other k j (h ∷ hs) (inr is) other (inl f) = inl f
dropped_other k j (h ∷ hs) (inr is) other (inr one) = inr (dropped_other k j hs is other one)

some_none : (o : Option Home) (h : Home) → o ≡ Some h → o ≡ None → ⊥
some_none None h e n = cc
some_none (Some g) h e n = cc

-- fewer homes are held than a list has that has them all and one that is not held
pub fewer : (slots : List (Option Home)) (hs : List HomeId) (k : HomeId) → AreApart slots → ((j : HomeId) → IsHeld j slots → IsOneOf (Some j) hs) → IsOneOf (Some k) hs → held k slots ≡ None
    → how_many_held slots < length hs
fewer [] [] k apart all one none = absurd one
fewer [] (h ∷ hs) k apart all one none = omega arith
fewer (None ∷ slots) hs k apart all one none = fewer slots hs k apart all one none
fewer (Some x ∷ slots) hs k apart all one none =
    let is = all (home_id x) own in
    let rest = fewer slots (dropped (home_id x) hs is) k apart.1
    (λ j held_j. dropped_other (home_id x) j hs is (not_own j held_j) (all j (later j held_j)))
    (dropped_other (home_id x) k hs is (not_same (same_home k (home_id x)) refl) one) (not_here (same_home k (home_id x)) refl none) in
    let e = dropped_length (home_id x) hs is in
    omega (arith, rest, e)
  where
    own : IsHeld (home_id x) (Some x ∷ slots)
    own = (x, ap (λ b. if b then Some x else held (home_id x) slots) (same_home_self (home_id x)))

    not_own : (j : HomeId) → IsHeld j slots → j ≡ home_id x → ⊥
    not_own j (y, e) is = some_none (held j slots) y e (ap (λ z. held z slots) is ∙ apart.0)

    later : (j : HomeId) → IsHeld j slots → IsHeld j (Some x ∷ slots)
    later j (y, e) = by (same_home j (home_id x)) refl
      where
        by : (b : Bool) → same_home j (home_id x) ≡ b → IsHeld j (Some x ∷ slots)
        by true same = absurd (not_own j (y, e) (same_home_true j (home_id x) same))
        by false other = (y, ap (λ b. if b then Some x else held j slots) other ∙ e)

    not_same : (b : Bool) → same_home k (home_id x) ≡ b → k ≡ home_id x → ⊥
    not_same true same is = some_none (if same_home k (home_id x) then Some x else held k slots) x (ap (λ b. if b then Some x else held k slots) same) none
    not_same false other is = false≢true (sym other ∙ (ap (λ z. same_home z (home_id x)) is ∙ same_home_self (home_id x)))

    not_here : (b : Bool) → same_home k (home_id x) ≡ b → (if same_home k (home_id x) then Some x else held k slots) ≡ None → held k slots ≡ None
    not_here true same none = absurd (some_none (if same_home k (home_id x) then Some x else held k slots) x (ap (λ b. if b then Some x else held k slots) same) none)
    not_here false other none = sym (ap (λ b. if b then Some x else held k slots) other) ∙ none

module _ (m : Meaning) (good : IsGood m) (h : List Entry) (may : MayStand m h) where
  pub reached_by : IsReached m.work (length h) (after_run m h)
  reached_by = record { entries = h; run = may.run; many = refl; ends = refl }

  -- where a home is held, so is each thread that stands in it
  has_stander : (t : ℕ) → t < length (after_run m h).threads → IsHeld (home_of (thread_of (after_run m h) t)) (slots_of m) → has_thread t (slots_of m) ≡ true
  has_stander t inside there =
      let at = list_of (thread_of (after_run m h) t) in
      let e = taken (length h) (after_run m h) t at (slots_of m) (record { inside = inside; list = refl }) may.shown.homes there in
      stands_has t (slots_of m) at (stands_guessed t at (slots_of m) (ap is_some e))

  -- the home is not held in which a part lies that is lacking
  not_held : (p : Part) (k : HomeId) → IsPartThere (after_run m h) (actor_of m) p → home_in (after_run m h) p ≡ Some k → has_part m.acting p ≡ false → held k (slots_of m) ≡ None
  not_held (part.Home j) k there lies lacks = subst (λ z. held z (slots_of m) ≡ None) (let z : j ≡ k = cc in z) (by (held j (slots_of m)) lacks)
    where
      by : (o : Option Home) → is_some o ≡ false → o ≡ None
      by None e = refl
      by (Some x) e = absurd (false≢true (sym e))
  not_held (part.Thread t) k there lies lacks = by (held k (slots_of m)) refl
    where
      is : home_of (thread_of (after_run m h) t.0) ≡ k
      is = cc

      by : (o : Option Home) → held k (slots_of m) ≡ o → held k (slots_of m) ≡ None
      by None e = e
      by (Some x) e = absurd (false≢true (sym lacks ∙ has_stander t.0 there (x, ap (λ z. held z (slots_of m)) is ∙ e)))
  not_held (part.Actor d) k there lies lacks = absurd (let z : None ≡ Some k = lies in cc)

  -- the acting processor's count and duty are never lacking
  not_actor : (p : Part) → p ≡ actor_part (actor_of m) → has_part m.acting p ≡ false → ⊥
  not_actor p e lacks = false≢true (sym lacks ∙ ap (has_part m.acting) e ∙ eq-eqb (actor_of m).0 (actor_of m).0 refl)

  lies_in : (p : Part) (k : HomeId) (hs : List HomeId) → home_in (after_run m h) p ≡ Some k → IsOneOf (home_in (after_run m h) p) hs → IsOneOf (Some k) hs
  lies_in p k hs e one = subst (λ o. IsOneOf o hs) e one

  some_home : (p : Part) → (p ≡ actor_part (actor_of m) → ⊥) → IsPartThere (after_run m h) (actor_of m) p → (k : HomeId) × (home_in (after_run m h) p ≡ Some k)
  some_home (part.Home k) other there = (k, refl)
  some_home (part.Thread t) other there = (home_of (thread_of (after_run m h) t.0), refl)
  some_home (part.Actor d) other there = absurd (other (ap part.Actor there))

  in_four : (hints : Option Hints) (p : Part) → (four : TakesFour m.work (after_run m h) (actor_of m) hints) → IsSought m.work (after_run m h) (actor_of m) hints p → LiesIn (after_run m h) (actor_of m) four.needs.homes p
  in_four hints p four (inl among) = four.needs.reading p among
  in_four hints p four (inr (inl among)) = four.needs.wishing p among
  in_four hints p four (inr (inr among)) = four.touching p among

  lies_by : (p : Part) (k : HomeId) (hs : List HomeId) → home_in (after_run m h) p ≡ Some k → LiesIn (after_run m h) (actor_of m) hs p → IsOneOf (Some k) hs
  lies_by (part.Home j) k hs e (inl is) = absurd (let z : part.Home j ≡ part.Actor (actor_of m) = is in cc)
  lies_by (part.Thread t) k hs e (inl is) = absurd (let z : part.Thread t ≡ part.Actor (actor_of m) = is in cc)
  lies_by (part.Actor d) k hs e is = absurd (let z : None ≡ Some k = e in cc)
  lies_by p k hs e (inr one) = lies_in p k hs e one

  pub room : (hints : Option Hints) (p : Part) → m.all ≡ false → HoldsToMake m hints → IsSought m.work (after_run m h) (actor_of m) hints p → IsPartThere (after_run m h) (actor_of m) p → has_part m.acting p ≡ false
      → how_many_held (slots_of m) < 4
  room hints p few holds sought there lacks =
      let s = after_run m h in
      let c = actor_of m in
      let ready = reached_ready m.work (length h) s reached_by in
      let four = takes_four m.work s c hints (serves_of m.work s (cpu_of s c.0).duty ready.scripted (ready.serves c.0)) in
      let (k, lies) = some_home p (λ e. not_actor p e lacks) there in
      let less = fewer (slots_of m) four.needs.homes k may.shown.apart
      (λ j is. let want = holds few h may j is in lies_by want.part j four.needs.homes want.lies (in_four hints want.part four want.kind))
      (lies_by p k four.needs.homes lies (in_four hints p four sought)) (not_held p k there lies lacks) in
      let most = four.needs.few in
      omega (arith, less, most)

  -- what is sought is there
  pub there_to_read : (p : Part) → IsAmong p (reads_parts m.work (after_run m h) (actor_of m)) → IsPartThere (after_run m h) (actor_of m) p
  there_to_read p among = (parts_there m.work (length h) (after_run m h) (actor_of m) None reached_by good.cpu).reading p among

  pub there_to_wish : (hints : Option Hints) (p : Part) → IsAmong p (needed m.work (after_run m h) (actor_of m) hints) → IsPartThere (after_run m h) (actor_of m) p
  there_to_wish hints p among = (parts_there m.work (length h) (after_run m h) (actor_of m) hints reached_by good.cpu).wishing p among

  pub there_to_make : (hints : Option Hints) (e : Event) (p : Part) → next m.work (after_run m h) (actor_of m) hints ≡ Some e → IsAmong p (after_parts m.work (after_run m h) (actor_of m) e)
      → IsPartThere (after_run m h) (actor_of m) p
  there_to_make hints e p makes among = (parts_there m.work (length h) (after_run m h) (actor_of m) hints reached_by good.cpu).touching e makes p among

-- what is lacking of what is sought can be fetched
pub can_fetch : (m : Meaning) (good : IsGood m) (hints : Option Hints) (p : Part) → HoldsToMake m hints → IsSought m.work (now m) (actor_of m) hints p → IsPartThere (now m) (actor_of m) p → has_part m.acting p ≡ false
    → CanFetch m p
can_fetch m good hints p holds sought there lacks = by p there lacks not_all (room m good m.seen good.stands hints p not_all holds sought there lacks)
  where
    few : (b : Bool) → m.all ≡ b → m.all ≡ false
    few true e = absurd (false≢true (sym lacks ∙ good.everything e m.seen good.stands p there))
    few false e = e

    not_all : m.all ≡ false
    not_all = few m.all refl

    by : (q : Part) → IsPartThere (now m) (actor_of m) q → has_part m.acting q ≡ false → m.all ≡ false → how_many_held (slots_of m) < 4 → CanFetch m q
    by (part.Home k) there lacks few less = (record { there = there; room = λ _. less; fresh = λ _. lacks }, few)
    by (part.Thread t) there lacks few less = (record { there = there; room = λ _. less; fresh = λ _. lacks }, few)
    by (part.Actor d) there lacks few less = not_actor m good m.seen good.stands (part.Actor d) (ap part.Actor there) lacks

-- the home lies there in which a part was fetched
pub fetched_home : (m : Meaning) (x : Home) (p : Part) (h : List Entry) → MayStand m h → held (home_id x) (slots_of m) ≡ Some x → HomeHas x p → home_in (after_run m h) p ≡ Some (home_id x)
fetched_home m x (part.Home k) h may here is = ap Some (sym is)
fetched_home m x (part.Thread t) h may here (sp, l) =
    let at = stands_at (length h) (after_run m h) t.0 sp (slots_of m) may.shown.apart may.shown.homes (record { home = x; inside = held_in (home_id x) x (slots_of m) here; listed = l }) in
    ap Some (ap home_at at.list ∙ l.home)
fetched_home m x (part.Actor d) h may here is = absurd is

-- what is held is held for what was sought, with one home more
pub holds_more : (m m' : Meaning) (x : Home) (p : Part) (Kind : State → Part → Type 0) → IsGood m → Gains m m' x → HomeHas x p
    → ((h : List Entry) → MayStand m h → Kind (after_run m h) p) → HoldsFor m Kind → HoldsFor m' Kind
holds_more m m' x p Kind good g is kind holds = λ few h may k there. by k there (same_home k (home_id x)) refl few h may
  where
    by : (k : HomeId) → IsHeld k (slots_of m') → (b : Bool) → same_home k (home_id x) ≡ b → m'.all ≡ false → (h : List Entry) → MayStand m' h → IsWanted m' (after_run m' h) (Kind (after_run m' h)) k
    by k there true same few h may = record {
      part = p;
      kind = subst (λ w. Kind (after_run (record m' { work = w }) h) p) (sym g.stays.work) (kind h (may_gain m m' x h good g may));
      lies = fetched_home m' x p h may g.more.here is ∙ ap Some (sym (same_home_true k (home_id x) same));
    }
    by k (y, e) false other few h may =
        let before : held k (slots_of m) ≡ Some y = sym (g.more.others k (λ q. false≢true (sym other ∙ (ap (λ z. same_home z (home_id x)) q ∙ same_home_self (home_id x))))) ∙ e in
        let want = holds (sym g.stays.all ∙ few) h (may_gain m m' x h good g may) k (y, before) in record {
          part = want.part;
          kind = subst (λ w. Kind (after_run (record m' { work = w }) h) want.part) (sym g.stays.work) want.kind;
          lies = subst (λ w. home_in (after_run (record m' { work = w }) h) want.part ≡ Some k) (sym g.stays.work) want.lies;
        }
