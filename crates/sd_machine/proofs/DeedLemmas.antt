-- An event does its deeds, one after another; and what is said of each deed is said of an event, once for all.
use Rattle.std.proofs.Common.{◌≡◌, ℕ, Bool, true, List, [], ◌∷◌, Option, Some, None, refl, ◌∙◌}
use Rattle.std.specs.Prelude.{⊤, is_none, if◌then◌else◌}
use Rattle.std.specs.List.{list_all}
use Rattle.std.proofs.lemmas.Bool.{and_parts}
use Rattle.sd_types.specs.declared.numbers.CpuId.{CpuId}
use Rattle.sd_types.specs.declared.events.AssignAnswer.TheVariants as assign
use Rattle.sd_types.specs.declared.events.BindAnswer.TheVariants as bind_answer
use Rattle.sd_types.specs.declared.events.Event.{Event}
use Rattle.sd_types.specs.declared.events.Event.TheVariants.{Wake, Prio, Assign, Bind}
use Rattle.sd_types.specs.declared.events.PrioAnswer.TheVariants.{Changed, Refused}
use Rattle.sd_types.specs.declared.works.Work.{Work}
use Rattle.sd_state.specs.declared.states.State.{State}
use Rattle.sd_machine.specs.Conditions.{cv_waited, sema_counted, sema_handed, sema_taken}
use Rattle.sd_machine.specs.Dispatching.{dispatched, done, idled, spun, stolen, ticked, yielded}
use Rattle.sd_machine.specs.Events.{effect}
use Rattle.sd_machine.specs.Locking.{blocked, exited, owned, read, released, unblocked}
use Rattle.sd_machine.specs.Prioritising.{reprioritised}
use Rattle.sd_machine.specs.SetChanges.{assigned, joined, moved, pbound}
use Rattle.sd_machine.specs.Sleeping.{fallen_asleep, napped, woke, woke_all}
use Rattle.sd_machine.specs.Walking.{walk_ended}
use Rattle.sd_machine.specs.Deeds.{Deed, did, all_did, deeds, or_first, first, at_most_one}

pub effect_did : (w : Work) (s : State) (n : ℕ) (c : CpuId) (e : Event) → effect w s n c e ≡ all_did w n c s (deeds e)
unfolding effect ticked spun idled dispatched stolen yielded done napped fallen_asleep woke woke_all owned read blocked exited released unblocked walk_ended reprioritised cv_waited sema_taken sema_counted sema_handed assigned moved joined pbound
effect_did w s n c (Wake t k None) = refl
effect_did w s n c (Wake t k (Some u)) = refl
effect_did w s n c (Prio t u (Changed p at)) = refl
effect_did w s n c (Prio t u (Refused denied)) = refl
effect_did w s n c (Assign t d to assign.Changed) = refl
effect_did w s n c (Assign t d to _) = refl
effect_did w s n c (Bind t u d (bind_answer.Changed at)) = refl
effect_did w s n c (Bind t u d _) = refl
effect_did w s n c _ = refl

none_is : {X : Type 0} (o : Option X) → is_none o ≡ true → o ≡ None
none_is None is = refl
none_is (Some x) is = cc

-- A relation that each deed keeps is kept by all of them.

module _ (w : Work) (n : ℕ) (c : CpuId) {R : State → State → Type 0} (stays : (s : State) → R s s) (joins : (s r q : State) → R s r → R r q → R s q) (keeps : (s : State) (d : Deed) → R s (did w n c s d)) where
  pub each_keeps : (s : State) (ds : List Deed) → R s (all_did w n c s ds)
  each_keeps s [] = stays s
  each_keeps s (d ∷ ds) = joins s (did w n c s d) _ (keeps s d) (each_keeps (did w n c s d) ds)

-- A relation that each deed of a kind keeps is kept by an event that does such deeds alone.

module _ (w : Work) (n : ℕ) (c : CpuId) {R : State → State → Type 0} (stays : (s : State) → R s s) (joins : (s r q : State) → R s r → R r q → R s q)
    (kind : Deed → Bool) (keeps : (s : State) (d : Deed) → kind d ≡ true → R s (did w n c s d)) where
  pub all_keep : (s : State) (ds : List Deed) → list_all kind ds ≡ true → R s (all_did w n c s ds)
  all_keep s [] is = stays s
  all_keep s (d ∷ ds) is =
      let both = and_parts (kind d) (list_all kind ds) is in
      joins s (did w n c s d) _ (keeps s d both.0) (all_keep (did w n c s d) ds both.1)

-- What each deed asks of the state in which it is done; and what holds of a state and is kept by each deed that has what it asks.

module _ (w : Work) (n : ℕ) (c : CpuId) where
  abbrev pub AllAlong : (State → Deed → Type 0) → State → List Deed → Type 0
  AllAlong Asks s [] = ⊤
  AllAlong Asks s (d ∷ ds) = Asks s d × AllAlong Asks (did w n c s d) ds

  pub quiet_along : (Asks : State → Deed → Type 0) (quiet : Deed → Bool) → ((s : State) (d : Deed) → quiet d ≡ true → Asks s d) → (s : State) (ds : List Deed) → list_all quiet ds ≡ true → AllAlong Asks s ds
  quiet_along Asks quiet asked s [] is = tt
  quiet_along Asks quiet asked s (d ∷ ds) is =
      let both = and_parts (quiet d) (list_all quiet ds) is in
      (asked s d both.0, quiet_along Asks quiet asked (did w n c s d) ds both.1)

  pub keeps_along : (Holds : State → Type 0) (Asks : State → Deed → Type 0) → ((s : State) (d : Deed) → Asks s d → Holds s → Holds (did w n c s d)) → (s : State) (ds : List Deed) → AllAlong Asks s ds → Holds s → Holds (all_did w n c s ds)
  keeps_along Holds Asks kept s [] asks h = h
  keeps_along Holds Asks kept s (d ∷ ds) asks h = keeps_along Holds Asks kept (did w n c s d) ds asks.1 (kept s d asks.0 h)

-- Where at most one deed is of a kind (f), what it does is what the event does, if all others leave that alone.

module _ (w : Work) (n : ℕ) (c : CpuId) {X : Type 0} (f : Deed → Option X) {R : State → State → Type 0} {T : State → State → X → Type 0} (stays : (s : State) → R s s) (joins : (s r q : State) → R s r → R r q → R s q)
    (before : (s r q : State) (x : X) → R s r → T r q x → T s q x) (behind : (s r q : State) (x : X) → T s r x → R r q → T s q x) {Fit : State → X → Type 0} (fits : (s : State) (d : Deed) (x : X) → Fit s x → Fit (did w n c s d) x)
    (same : (s : State) (d : Deed) → f d ≡ None → R s (did w n c s d)) (does : (s : State) (d : Deed) (x : X) → f d ≡ Some x → Fit s x → T s (did w n c s d) x) where
  none_does : (s : State) (ds : List Deed) → list_all (λ d. is_none (f d)) ds ≡ true → R s (all_did w n c s ds)
  none_does s ds quiet = all_keep w n c stays joins (λ d. is_none (f d)) (λ r d is. same r d (none_is (f d) is)) s ds quiet

  pub none_first : (s : State) (ds : List Deed) → at_most_one f ds ≡ true → first f ds ≡ None → R s (all_did w n c s ds)
  none_first s [] one is = stays s
  none_first s (d ∷ ds) one is = by (none_first (did w n c s d) ds) (f d) refl one is
    where
      by : (at_most_one f ds ≡ true → first f ds ≡ None → R (did w n c s d) (all_did w n c (did w n c s d) ds)) → (o : Option X) → f d ≡ o
          → (if is_none o then at_most_one f ds else list_all (λ x. is_none (f x)) ds) ≡ true → or_first o (first f ds) ≡ None → R s (all_did w n c (did w n c s d) ds)
      by later None none one is = joins s (did w n c s d) _ (same s d none) (later one is)
      by later (Some x) some one is = cc

  pub one_first : (s : State) (ds : List Deed) (x : X) → at_most_one f ds ≡ true → first f ds ≡ Some x → Fit s x → T s (all_did w n c s ds) x
  one_first s [] x one is fit = cc
  one_first s (d ∷ ds) x one is fit = by (one_first (did w n c s d) ds x) (f d) refl one is
    where
      by : (at_most_one f ds ≡ true → first f ds ≡ Some x → Fit (did w n c s d) x → T (did w n c s d) (all_did w n c (did w n c s d) ds) x) → (o : Option X) → f d ≡ o
          → (if is_none o then at_most_one f ds else list_all (λ x. is_none (f x)) ds) ≡ true → or_first o (first f ds) ≡ Some x → T s (all_did w n c (did w n c s d) ds) x
      by later None none one is = before s (did w n c s d) _ x (same s d none) (later one is (fits s d x fit))
      by later (Some y) some one is = behind s (did w n c s d) _ x (does s d x (some ∙ is) fit) (none_does (did w n c s d) ds one)
