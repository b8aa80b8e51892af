-- An event alters one thread at most: every part of all others that looks at no operation and at no lock that is held stays.
use Rattle.std.proofs.Common.{◌≡◌, ◌≢◌, ℕ, Bool, true, false, List, Option, Some, None, refl, ap, ◌∙◌, sym, subst}
use Rattle.std.specs.Prelude.{⊤}
use Rattle.std.specs.List.{list_all}
use Rattle.std.proofs.lemmas.List.{get_or-set_other}
use Rattle.sd_types.specs.declared.numbers.CpuId.{CpuId}
use Rattle.sd_types.specs.declared.events.Event.{Event}
use Rattle.sd_types.specs.declared.events.Event.TheVariants.{Wake, Rouse, CvWait}
use Rattle.sd_types.specs.declared.works.Work.{Work}
use Rattle.sd_state.specs.declared.states.ThreadState.{ThreadState}
use Rattle.sd_state.specs.declared.states.State.{State}
use Rattle.sd_state.specs.States.{no_thread, thread_of, cpu_of, with_thread}
use Rattle.sd_machine.specs.Changes.{finish_op, run_tick, set_class, send_back, hold, let_go, set_number, set_looped, set_duty, count_tick, run_on, leave, close, join, bind, unbind}
use Rattle.sd_machine.specs.Sleeping.{roused}
use Rattle.sd_machine.specs.Events.{drop_ageing, effect, after}
use Rattle.sd_machine.specs.Deeds.{Deed, Whither, RunsTick, CountsClass, ComesHere, GoesTo, GoesBack, GoesAway, WakesUp, WakesIf, PutsThread, EndsOp, HoldsLock, FreesLock, LetsGo, GrantsLock, WalksOn, Rouses, Lifts, Reclasses, BindsThread, did, all_did, deeds, first, at_most_one}
use Rattle.sd_machine.proofs.DeedLemmas.{effect_did, none_first, one_first}
use Rattle.sd_frames.specs.Altered.{alters, altered, thread_in, written_by}
use Rattle.sd_frames.proofs.Made.{Kind, Keeps, Of, kinds, deed_made, deed_theirs, Over, Ran, Classed, Back, Held, Given, Numbered, Looped, Comes, Gone, Placed, Marked, Dutied, Ticked, Locked, Counted, Closed, Joins, Bound}
use Rattle.sd_frames.proofs.ThreadParts.{Leaves, same_keeps}
use Rattle.sd_frames.proofs.Words.{Same, all_same, then_same, set_duty_same}

-- two deeds of this event alter its thread: it gives up the mutex, and falls asleep
abbrev alters_twice : Event → Bool
alters_twice (CvWait t k l) = true
alters_twice _ = false

alters_one : (e : Event) → alters_twice e ≡ false → at_most_one alters (deeds e) ≡ true
alters_one (Wake t k None) once = refl
alters_one (Wake t k (Some u)) once = refl
alters_one (Rouse k None) once = refl
alters_one (Rouse k (Some u)) once = refl
alters_one (CvWait t k l) once = cc
alters_one _ once = refl

-- this thread
abbrev Is : ℕ → ℕ → Type 0
Is t u = u ≡ t

of_is : (t : ℕ) (o : Option ℕ) → o ≡ Some t → Of (Is t) o
of_is t None is = tt
of_is t (Some u) is = cc

writes_altered : (d : Deed) (t : ℕ) → alters d ≡ Some t → Of (Is t) (written_by d)
writes_altered (RunsTick u) t is = cc
writes_altered (EndsOp u) t is = cc
writes_altered (HoldsLock u l) t is = cc
writes_altered d t is = of_is t (written_by d) is

-- the changes of a deed that alters no thread
abbrev is_quiet : Kind → Bool
is_quiet Classed = false
is_quiet Back = false
is_quiet Given = false
is_quiet Numbered = false
is_quiet Looped = false
is_quiet Comes = false
is_quiet Gone = false
is_quiet Placed = false
is_quiet Bound = false
is_quiet _ = true

module _ {X : Type 0} (part : ThreadState → X) where
  -- the part of each thread but this one is as it was
  pub record But (o : Option ℕ) (s r : State) : Type 0 where
    pub each : (u : ℕ) → (o ≡ Some u → ⊥) → part (thread_of r u) ≡ part (thread_of s u)

  but_same : (o : Option ℕ) (s r : State) → Same part s r → But o s r
  but_same o s r a = record { each = λ u other. a.each u }

  but_but : (o : Option ℕ) (s r q : State) → But o s r → But o r q → But o s q
  but_but o s r q a b = record { each = λ u other. b.each u other ∙ a.each u other }

  same_but : (o : Option ℕ) (s r q : State) → Same part s r → But o r q → But o s q
  same_but o s r q a b = but_but o s r q (but_same o s r a) b

  but_then : (o : Option ℕ) (s r q : State) → But o s r → Same part r q → But o s q
  but_then o s r q a b = but_but o s r q a (but_same o r q b)

  written_but : (s : State) (t u : ℕ) (x : ThreadState) → Is t u → But (Some t) s (with_thread s u x)
  written_but s t u x is = record { each = λ v other. ap part (get_or-set_other s.threads u v x no_thread (λ e. other (ap Some (sym (e ∙ is))))) }

  -- whatever is written of this thread
  but_keeps : (w : Work) (t : ℕ) (k : Kind) → Keeps w (Is t) (But (Some t)) k
  unfolding finish_op run_tick set_class send_back hold let_go set_number set_looped run_on leave set_duty count_tick close join bind unbind
  but_keeps w t Over = λ s u is. written_but s t u _ is
  but_keeps w t Ran = λ s u is. written_but s t u _ is
  but_keeps w t Classed = λ s u is k. written_but s t u _ is
  but_keeps w t Back = λ s u is. written_but s t u _ is
  but_keeps w t Held = λ s u is l. written_but s t u _ is
  but_keeps w t Given = λ s u is l. written_but s t u _ is
  but_keeps w t Numbered = λ s u is l o. written_but s t u _ is
  but_keeps w t Looped = λ s u is b. written_but s t u _ is
  but_keeps w t Comes = λ s u is c. written_but s t u _ is
  but_keeps w t Gone = λ s c u is p. record { each = (written_but s t u _ is).each }
  but_keeps w t Placed = λ s u is p. written_but s t u _ is
  but_keeps w t Bound = (λ s u is d. record { each = (written_but s t u _ is).each }, λ s u is b. record { each = (written_but s t u _ is).each })
  but_keeps w t Marked = λ s c u k. record { each = λ v other. refl }
  but_keeps w t Dutied = λ s c d. record { each = λ v other. refl }
  but_keeps w t Ticked = λ s c. record { each = λ v other. refl }
  but_keeps w t Locked = λ s l x. record { each = λ v other. refl }
  but_keeps w t Counted = λ s k n. record { each = λ v other. refl }
  but_keeps w t Closed = λ s d to. record { each = λ v other. refl }
  but_keeps w t Joins = λ s c to. record { each = λ v other. refl }

  -- a part that looks at no operation and at no lock that is held
  module _ (over : Leaves part Over) (ran : Leaves part Ran) (held : Leaves part Held) where
    quiet_left : (k : Kind) → is_quiet k ≡ true → Leaves part k
    quiet_left Over is = over
    quiet_left Ran is = ran
    quiet_left Held is = held
    quiet_left Classed is = cc
    quiet_left Back is = cc
    quiet_left Given is = cc
    quiet_left Numbered is = cc
    quiet_left Looped is = cc
    quiet_left Comes is = cc
    quiet_left Gone is = cc
    quiet_left Placed is = cc
    quiet_left Bound is = cc
    quiet_left _ is = λ x y. refl

    module _ (w : Work) (n : ℕ) (c : CpuId) where
      deed_quiet : (s : State) (d : Deed) → list_all is_quiet (kinds d) ≡ true → Same part s (did w n c s d)
      deed_quiet s d is = deed_made w (all_same part) (then_same part) is_quiet (λ k kind. same_keeps part w k (quiet_left k kind)) n c s d is

      deed_same : (s : State) (d : Deed) → alters d ≡ None → Same part s (did w n c s d)
      unfolding roused
      deed_same s (CountsClass t) none = cc
      deed_same s (ComesHere t) none = cc
      deed_same s (GoesTo t whither) none = cc
      deed_same s (GoesBack t end) none = cc
      deed_same s (GoesAway t d) none = cc
      deed_same s (WakesUp t at) none = cc
      deed_same s (WakesIf None) none = all_same part s
      deed_same s (WakesIf (Some u)) none = cc
      deed_same s (PutsThread t at) none = cc
      deed_same s (LetsGo t l) none = cc
      deed_same s (GrantsLock l u at) none = cc
      deed_same s (WalksOn l o at) none = cc
      deed_same s (Rouses k None) none = set_duty_same part s c.0 _
      deed_same s (Rouses k (Some u)) none = cc
      deed_same s (Lifts t) none = cc
      deed_same s (Reclasses t u answer) none = cc
      deed_same s (BindsThread u d answer) none = cc
      deed_same s d none = deed_quiet s d refl

      does_but : (s : State) (d : Deed) (t : ℕ) → alters d ≡ Some t → ⊤ → But (Some t) s (did w n c s d)
      does_but s d t is fit = deed_theirs w (Is t) {R = But (Some t)} (λ r. but_same (Some t) r r (all_same part r)) (but_but (Some t)) (but_keeps w t) n c s d (writes_altered d t is)

      -- its thread gives up the mutex and leaves
      cv_but : (s : State) (t : ℕ) (x y z : Deed) → alters x ≡ Some t → alters y ≡ Some t → alters z ≡ None → But (Some t) s (did w n c (did w n c (did w n c s x) y) z)
      cv_but s t x y z one two none =
          but_then (Some t) s _ _ (but_but (Some t) s _ _ (does_but s x t one tt) (does_but _ y t two tt)) (deed_same _ z none)

    once_but : (w : Work) (s : State) (n : ℕ) (c : CpuId) (e : Event) → alters_twice e ≡ false → But (altered e) s (effect w s n c e)
    once_but w s n c e once = subst (λ r. But (altered e) s r) (sym (effect_did w s n c e)) (by (first alters (deeds e)) refl)
      where
        by : (o : Option ℕ) → first alters (deeds e) ≡ o → But o s (all_did w n c s (deeds e))
        by None none = but_same None s _ (none_first w n c alters (all_same part) (then_same part) (λ r q x t. same_but (Some t) r q x) (λ r q x t. but_then (Some t) r q x) {Fit = λ r t. ⊤} (λ r d t fit. tt) (deed_same w n c) (does_but w n c) s (deeds e) (alters_one e once) none)
        by (Some t) some = one_first w n c alters (all_same part) (then_same part) (λ r q x t. same_but (Some t) r q x) (λ r q x t. but_then (Some t) r q x) {Fit = λ r t. ⊤} (λ r d t fit. tt) (deed_same w n c) (does_but w n c) s (deeds e) t (alters_one e once) some tt

    effect_but : (w : Work) (s : State) (n : ℕ) (c : CpuId) (e : Event) → But (altered e) s (effect w s n c e)
    effect_but w s n c (CvWait t k l) =
        subst (λ r. But (Some t.0) s r) (sym (effect_did w s n c (CvWait t k l)))
        (same_but (Some t.0) s _ _ (deed_same w n c s (FreesLock l) refl) (cv_but w n c _ t.0 (LetsGo t.0 l) (GoesTo t.0 (Whither.ToSleep k)) (EndsOp t.0) refl refl refl))
    effect_but w s n c e = once_but w s n c e refl

    pub after_but : (w : Work) (s : State) (n : ℕ) (c : CpuId) (e : Event) → But (altered e) s (after w s n c e)
    unfolding after drop_ageing
    after_but w s n c e = same_but (altered e) s (set_duty s c.0 _) _ (set_duty_same part s c.0 _) (effect_but w _ n c e)
