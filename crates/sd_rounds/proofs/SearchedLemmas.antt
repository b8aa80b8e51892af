-- Where a set shows nothing to steal, it shows nothing after an entry that puts nobody on a queue; and the numbers that are read in it.
use Rattle.std.proofs.Common.{◌≡◌, ℕ, zero, suc, ◌+◌, ◌-◌, ◌==◌, ◌<◌, Bool, true, false, ◌&&◌, List, [], ◌∷◌, ◌++◌, length, Option, Some, None, is_none, refl, sym, ap, ◌∙◌, subst, arith, inl, inr, not, if◌then◌else◌, map, filter, replicate}
use Rattle.std.specs.Prelude.{◌||◌, slice_index_or, ⊤}
use Rattle.std.specs.List.{list_all}
use Rattle.std.proofs.lemmas.Bool.{and_parts, eq-eqb, eqb-true, false≢true, ne_eqb, or_from, or_parts}
use Rattle.std.proofs.lemmas.List.Folds.{list_all-append}
use Rattle.sd_types.specs.declared.numbers.CpuId.{CpuId}
use Rattle.sd_types.specs.declared.numbers.SetId.{SetId}
use Rattle.sd_types.specs.declared.events.Event.{Event}
use Rattle.sd_types.specs.declared.events.Which.TheVariants.{Queued}
use Rattle.sd_types.specs.declared.works.Work.{Work}
use Rattle.sd_types.specs.Events.{ticks}
use Rattle.sd_state.specs.declared.states.Place.{Place}
use Rattle.sd_state.specs.declared.states.State.{State}
use Rattle.sd_state.specs.declared.states.ThreadState.{ThreadState}
use Rattle.sd_state.specs.Best.{beats}
use Rattle.sd_state.specs.Opening.{opening}
use Rattle.sd_state.specs.States.{cpu_of, is_queued, is_ready, is_real_time, no_thread, thread_of}
use Rattle.sd_state.proofs.OrderLemmas.{beats_order}
use Rattle.sd_machine.specs.Choosing.{neighbours}
use Rattle.sd_machine.specs.Hints.{hint_of, hint_shown}
use Rattle.sd_machine.specs.Events.{after, allowed, may_tick, next}
use Rattle.sd_machine.specs.Runs.{IsReached, final, made, serial_hints, turn}
use Rattle.sd_machine.specs.Threads.{best_queued, best_ready, best_unbound, no_cpus, open_of, priority_of}
use Rattle.sd_machine.proofs.ShapeLemmas.{after_shape}
use Rattle.sd_frames.specs.Moves.{Step, step_of}
use Rattle.sd_frames.specs.Moves.Step.{Stay, Go}
use Rattle.sd_frames.proofs.Found.{ready_found, unbound_found}
use Rattle.sd_frames.proofs.PlaceTable.{IsMoverThere, StepNeeds, Stepped, after_steps}
use Rattle.sd_frames.proofs.Searches.{none_stands}
use Rattle.sd_machine.proofs.Moves.{put_cases}
use Rattle.sd_invariants.specs.Laws.{IsRising, is_in}
use Rattle.sd_invariants.proofs.BoundLemmas.{is_unbinding, threads_same}
use Rattle.sd_invariants.proofs.OpenLemmas.{is_setless, open_same}
use Rattle.sd_invariants.proofs.Places.{inside_reached}
use Rattle.sd_laws.proofs.Joins.{nobody_queued}
use Rattle.sd_laws.proofs.OpenLists.{are_listed}
use Rattle.sd_world.specs.declared.plain.PlainWorld.{PlainWorld}
use Rattle.sd_world.specs.Plain.{told}
use Rattle.sd_world.proofs.PlainLemmas.{told_more}
use Rattle.sd_rounds.specs.Searched.{HasNothing, HasNoUrgent, IsSearched, all_show_zero}
use Rattle.sd_rounds.specs.declared.sight.Searched.{Searched}

-- it stands on the queue of processor d and is bound to none
abbrev may_be_stolen : ℕ → ThreadState → Bool
may_be_stolen d x = is_queued d x.place && is_none x.body.bound

-- nobody on the queue of processor d may be stolen
abbrev HasNone : State → ℕ → Type 0
HasNone s d = (t : ℕ) → t < length s.threads → may_be_stolen d (thread_of s t) ≡ false

none_stolen : (s : State) (d : CpuId) → hint_shown s Queued d ≡ 0 → HasNone s d.0
unfolding hint_shown best_unbound
none_stolen s d none = λ t inside. none_stands (may_be_stolen d.0) beats no_thread beats_order s.threads (nobody (best_unbound s d.0) none) t inside
  where
    nobody : (o : Option ℕ) → hint_of (priority_of s o) ≡ 0 → o ≡ None
    nobody None e = refl
    nobody (Some t) e = absurd (omega (arith, e))

none_shown : (s : State) (d : CpuId) → HasNone s d.0 → hint_shown s Queued d ≡ 0
unfolding hint_shown
none_shown s d none = by (best_unbound s d.0) refl
  where
    by : (o : Option ℕ) → best_unbound s d.0 ≡ o → hint_of (priority_of s o) ≡ 0
    by None e = refl
    by (Some t) e = let found = unbound_found s d.0 t e in absurd (false≢true (sym (none t found.inside) ∙ found.stands))

-- no thread comes to a queue by it
abbrev QueuesNobody : Step → Type 0
QueuesNobody Stay = ⊤
QueuesNobody (Go t place) = ((d : ℕ) → is_queued d place ≡ false) × ((p : ℕ) → is_real_time p place ≡ false)

stays_put : (d : ℕ) (x y : ThreadState) → y.place ≡ x.place → y.body.bound ≡ x.body.bound → may_be_stolen d y ≡ may_be_stolen d x
stays_put d x y place bound = (λ j. is_queued d (place j) && is_none (bound j))

not_queued : (d : ℕ) (y : ThreadState) (place : Place) → y.place ≡ place → is_queued d place ≡ false → may_be_stolen d y ≡ false
not_queued d y place e off = ap (λ q. is_queued d q && is_none y.body.bound) e ∙ ap (λ b. b && is_none y.body.bound) off

stepped_none : (s r : State) (step : Step) (d : ℕ) → Stepped step s r → QueuesNobody step → ((t : ℕ) → (thread_of r t).body.bound ≡ (thread_of s t).body.bound) → length r.threads ≡ length s.threads → HasNone s d → HasNone r d
stepped_none s r Stay d places nobody bound many none = λ t inside. stays_put d (thread_of s t) (thread_of r t) (places t) (bound t) ∙ none t (subst (λ m. t < m) many inside)
stepped_none s r (Go u place) d put nobody bound many none = λ t inside. elim (put_cases u place (λ v. (thread_of s v).place) (λ v. (thread_of r v).place) put t) [
  | inl came ↦ not_queued d (thread_of r t) place came.1 (nobody.0 d)
  | inr other ↦ stays_put d (thread_of s t) (thread_of r t) other.1 (bound t) ∙ none t (subst (λ m. t < m) many inside)
]

stepped_urgent : (s r : State) (step : Step) (p : ℕ) → Stepped step s r → QueuesNobody step → length r.threads ≡ length s.threads → HasNoUrgent s p → HasNoUrgent r p
stepped_urgent s r Stay p places nobody many none = λ t inside. ap (is_real_time p) (places t) ∙ none t (subst (λ m. t < m) many inside)
stepped_urgent s r (Go u place) p put nobody many none = λ t inside. elim (put_cases u place (λ v. (thread_of s v).place) (λ v. (thread_of r v).place) put t) [
  | inl came ↦ ap (is_real_time p) came.1 ∙ nobody.1 p
  | inr other ↦ ap (is_real_time p) other.1 ∙ none t (subst (λ m. t < m) many inside)
]

-- nobody is ready where nobody stands in either queue
pub none_ready : (s : State) (c : ℕ) (p : SetId) → (cpu_of s c).set ≡ p → best_queued s c ≡ None → HasNoUrgent s p.0 → best_ready s c ≡ None
none_ready s c p is queued urgent = by (best_ready s c) refl
  where
    by : (o : Option ℕ) → best_ready s c ≡ o → best_ready s c ≡ None
    by None e = e
    by (Some t) e =
        let found = ready_found s c t e in
        let place = (thread_of s t).place in
        let here : is_real_time (cpu_of s c).set.0 place ≡ false = ap (λ (q : SetId). is_real_time q.0 place) is ∙ urgent t found.inside in
        absurd (false≢true (sym (or_from (is_queued c place) (is_real_time (cpu_of s c).set.0 place) (nobody_queued s c queued t found.inside) here) ∙ found.stands))

pub none_urgent : (s : State) (c : ℕ) → best_ready s c ≡ None → HasNoUrgent s (cpu_of s c).set.0
unfolding best_ready
none_urgent s c none = λ t inside.
    let place = (thread_of s t).place in
    (or_parts (is_queued c place) (is_real_time (cpu_of s c).set.0 place) (none_stands (λ (x : ThreadState). is_ready c (cpu_of s c).set.0 x.place) beats no_thread beats_order s.threads none t inside)).1

zeros_later : (s r : State) (cpus : List CpuId) → ((d : CpuId) → hint_shown s Queued d ≡ 0 → hint_shown r Queued d ≡ 0) → all_show_zero s cpus ≡ true → all_show_zero r cpus ≡ true
zeros_later s r [] later e = refl
zeros_later s r (d ∷ ds) later e =
    let parts = and_parts (hint_shown s Queued d == 0) (all_show_zero s ds) e in
    let here : (hint_shown r Queued d == 0) ≡ true = eq-eqb (hint_shown r Queued d) 0 (later d (eqb-true (hint_shown s Queued d) 0 parts.0)) in
    let rest = zeros_later s r ds later parts.1 in
    (λ j. here j && rest j)

module _ (w : Work) (s : State) (n : ℕ) (c : CpuId) (e : Event) (needs : StepNeeds w s e) (mover : IsMoverThere s (step_of w s n c e)) (nobody : QueuesNobody (step_of w s n c e))
    (bound : is_unbinding e ≡ true) (sets : is_setless e ≡ true) where
  later_zero : (d : CpuId) → hint_shown s Queued d ≡ 0 → hint_shown (after w s n c e) Queued d ≡ 0
  later_zero d none =
      none_shown (after w s n c e) d
      (stepped_none s (after w s n c e) (step_of w s n c e) d.0 (after_steps w s n c e needs mover) nobody (threads_same w s n c e bound).each (after_shape w s n c e).threads (none_stolen s d none))

  pub searched_after : (known : Option Searched) → IsSearched s known → IsSearched (after w s n c e) known
  searched_after None is = tt
  searched_after (Some found) is =
      let same : open_of (after w s n c e) found.set.0 ≡ open_of s found.set.0 = ap (λ cs. (slice_index_or cs found.set.0 no_cpus).items) (open_same w s n c e sets) in
      record {
        zero = subst (λ cs. all_show_zero (after w s n c e) cs ≡ true) (sym same) (zeros_later s (after w s n c e) (open_of s found.set.0) later_zero is.zero);
        urgent = stepped_urgent s (after w s n c e) (step_of w s n c e) found.set.0 (after_steps w s n c e needs mover) nobody (after_shape w s n c e).threads is.urgent;
        count = is.count ∙ ap length (sym same);
        most = is.most;
      }

-- ---- a turn
its_event : (b : Bool) (e event : Event) → (if b then Some e else None) ≡ Some event → e ≡ event
its_event true e event is = cc
its_event false e event is = absurd cc

module _ (w : Work) (x y : PlainWorld) (e : Event) (known : Option Searched)
    (kept : (s : State) (n : ℕ) (c : CpuId) → IsSearched s known → IsSearched (after w s n c e) known)
    (will : next w (told w x) x.acting.actor.cpu (serial_hints w (told w x) x.acting.actor.cpu) ≡ allowed w (told w x) x.acting.actor.cpu.0 e) (is : IsSearched (told w x) known) where
  turn_searched : IsSearched (final w (told w x) (turn w (told w x) (length x.entries.items) x.acting.actor.cpu)) known
  unfolding final
  turn_searched = by (next w (told w x) x.acting.actor.cpu (serial_hints w (told w x) x.acting.actor.cpu)) refl
    where
      by : (o : Option Event) → next w (told w x) x.acting.actor.cpu (serial_hints w (told w x) x.acting.actor.cpu) ≡ o
          → IsSearched (final w (told w x) (made (length x.entries.items) x.acting.actor.cpu (serial_hints w (told w x) x.acting.actor.cpu) o)) known
      by None f = is
      by (Some event) f =
          let same = its_event (not (ticks e) || may_tick w (told w x) x.acting.actor.cpu.0) e event (sym will ∙ f) in
          subst (λ v. IsSearched (after w (told w x) (length x.entries.items) x.acting.actor.cpu v) known) same (kept (told w x) (length x.entries.items) x.acting.actor.cpu is)

  pub turned_searched : y.entries.items ≡ x.entries.items ++ turn w (told w x) (length x.entries.items) x.acting.actor.cpu → IsSearched (told w y) known
  turned_searched entries = subst (λ s. IsSearched s known) (sym (told_more w x y (turn w (told w x) (length x.entries.items) x.acting.actor.cpu) entries)) turn_searched

-- no entry was made
pub kept_searched : (w : Work) (x y : PlainWorld) (known : Option Searched) → IsSearched (told w x) known → y.entries.items ≡ x.entries.items → IsSearched (told w y) known
kept_searched w x y known is same = subst (λ es. IsSearched (final w (opening w) es) known) (sym same) is

pub zero_more : (s : State) (cpus : List CpuId) (d : CpuId) → all_show_zero s cpus ≡ true → hint_shown s Queued d ≡ 0 → all_show_zero s (cpus ++ d ∷ []) ≡ true
zero_more s cpus d before none =
    list_all-append (λ z. hint_shown s Queued z == 0) cpus (d ∷ [])
    ∙ (λ j. before j && ((eq-eqb (hint_shown s Queued d) 0 none) j && true))

-- ---- the numbers that are read in a set that was searched
abbrev but : ℕ → List CpuId → List CpuId
but c cpus = filter (λ d. not (d.0 == c)) cpus

zeros_are : (s : State) (c : ℕ) (cpus : List CpuId) → all_show_zero s cpus ≡ true → map (hint_shown s Queued) (but c cpus) ≡ replicate (length (but c cpus)) 0
zeros_are s c [] e = refl
zeros_are s c (d ∷ ds) e =
    let parts = and_parts (hint_shown s Queued d == 0) (all_show_zero s ds) e in
    one (not (d.0 == c)) (eqb-true (hint_shown s Queued d) 0 parts.0) (zeros_are s c ds parts.1)
  where
    one : (b : Bool) → hint_shown s Queued d ≡ 0 → map (hint_shown s Queued) (but c ds) ≡ replicate (length (but c ds)) 0
        → map (hint_shown s Queued) (if b then d ∷ but c ds else but c ds) ≡ replicate (length (if b then d ∷ but c ds else but c ds)) 0
    one false none same = same
    one true none same = (λ j. none j ∷ same j)

all_zero : (n : ℕ) → list_all (λ k. k == 0) (replicate n 0) ≡ true
all_zero zero = refl
all_zero (suc n) = all_zero n

-- of a rising list one is left out that stands in it
all_past : (c n : ℕ) (cpus : List CpuId) → c < n → IsRising n cpus → length (but c cpus) ≡ length cpus
all_past c n [] past rising = refl
all_past c n (d ∷ ds) past rising =
    let from = rising.0 in
    let other : (d.0 == c) ≡ false = ne_eqb d.0 c (λ same. let e : d.0 ≡ c = same in absurd (omega (arith, e, past, from))) in
    let rest = all_past c (d.0 + 1) ds (omega (arith, past, from)) rising.1 in
    ap (λ b. length (if not b then d ∷ but c ds else but c ds)) other ∙ ap suc rest

others_many : (c n : ℕ) (cpus : List CpuId) → IsRising n cpus → is_in c cpus ≡ true → suc (length (but c cpus)) ≡ length cpus
others_many c n [] rising among = absurd cc
others_many c n (d ∷ ds) rising among = by (d.0 == c) refl among (others_many c (d.0 + 1) ds rising.1)
  where
    by : (b : Bool) → (d.0 == c) ≡ b → (b || is_in c ds) ≡ true → (is_in c ds ≡ true → suc (length (but c ds)) ≡ length ds) → suc (length (if not b then d ∷ but c ds else but c ds)) ≡ length (d ∷ ds)
    by true is e more = let same : d.0 ≡ c = eqb-true d.0 c is in ap suc (all_past c (d.0 + 1) ds (omega (arith, same)) rising.1)
    by false is e more = ap suc (more e)

pub numbers_read : (w : Work) (n : ℕ) (s : State) (c : CpuId) (found : Searched) → IsReached w n s → c.0 < w.cpus → found.set ≡ (cpu_of s c.0).set → (cpu_of s c.0).closing ≡ None
    → HasNothing s found → replicate (found.cpus - 1) 0 ≡ map (hint_shown s Queued) (neighbours s c.0)
unfolding neighbours
numbers_read w n s c found reached inside its opened none =
    let cpus = open_of s (cpu_of s c.0).set.0 in
    let same : open_of s found.set.0 ≡ cpus = ap (λ (q : SetId). open_of s q.0) its in
    let more = others_many c.0 0 cpus ((inside_reached w n s reached).opened.rising (cpu_of s c.0).set.0) (are_listed w n s reached c.0 inside opened) in
    let whole : found.cpus ≡ length cpus = none.count ∙ ap length same in
    let left : found.cpus - 1 ≡ length (but c.0 cpus) = omega (arith, more, whole) in
    ap (λ k. replicate k 0) left ∙ sym (zeros_are s c.0 cpus (subst (λ cs. all_show_zero s cs ≡ true) same none.zero))

pub none_to_steal : (many : ℕ) (s : State) (c : ℕ) → replicate many 0 ≡ map (hint_shown s Queued) (neighbours s c) → list_all (λ k. k == 0) (map (hint_shown s Queued) (neighbours s c)) ≡ true
none_to_steal many s c read = ap (list_all (λ k. k == 0)) (sym read) ∙ all_zero many
