-- A field of the state that is neither its threads nor its processors, as the locks, the counts of channels and the lists of open
-- processors, stays through every event that does not write it.
use Rattle.std.proofs.Common.{◌≡◌, ℕ, Bool, true, false, Option, Some, None, refl, ◌∙◌}
use Rattle.sd_frames.proofs.Frames as F
use Rattle.sd_frames.proofs.Frames.{IsFrame, KeepsRest, Rest, rest_of}
use Rattle.sd_types.specs.declared.numbers.CpuId.{CpuId}
use Rattle.sd_types.specs.declared.classes.ClassState.{ClassState}
use Rattle.sd_types.specs.declared.events.Event.{Event}
use Rattle.sd_types.specs.declared.works.Work.{Work}
use Rattle.sd_state.specs.declared.states.CpuState.{CpuState}
use Rattle.sd_state.specs.declared.states.ThreadState.{ThreadState}
use Rattle.sd_state.specs.declared.states.State.{State}
use Rattle.sd_state.specs.States.{with_thread, with_cpu}
use Rattle.sd_machine.specs.Changes.{set_class, count_tick, set_kernel_mark, bind, unbind}
use Rattle.sd_machine.specs.SetChanges.{cleared}
use Rattle.sd_machine.specs.Events.{after}

abbrev leaves_fields : Rest → Bool
leaves_fields Rest.nothing = true
leaves_fields Rest.ticks = true
leaves_fields Rest.bindings = true
leaves_fields _ = false

-- the event writes no lock, no count and no list of open processors
abbrev pub keeps_fields : Event → Bool
keeps_fields e = leaves_fields (rest_of e)

module _ {X : Type 0} (field : State → X) (on_thread : (s : State) (t : ℕ) (x : ThreadState) → field (with_thread s t x) ≡ field s) (on_cpu : (s : State) (c : ℕ) (x : CpuState) → field (with_cpu s c x) ≡ field s) where
  pub record Kept (s r : State) : Type 0 where
    pub same : field r ≡ field s

  class_kept : (s : State) (t : ℕ) (class : ClassState) → Kept s (set_class s t class)
  unfolding set_class
  class_kept s t class = record { same = on_thread s t _ }

  pub frame : (w : Work) → IsFrame w Kept
  frame w = record {
    stays = λ s. record { same = refl };
    joins = λ s r q a b. record { same = b.same ∙ a.same };
    thread = λ s t x same. record { same = on_thread s t x };
    ticks = λ s t. class_kept s t _;
    wakes = λ s t. class_kept s t _;
    ages = λ s t. class_kept s t _;
    requeues = λ s t b. class_kept s t _;
    enters = λ s t u r p is. class_kept s u _;
    marks = λ s c u k. record { same = on_cpu s c _ };
    duty = λ s c d. record { same = on_cpu s c _ };
  }

  tick_kept : (w : Work) (s : State) (c : ℕ) → Kept s (count_tick w s c)
  unfolding count_tick
  tick_kept w s c = record { same = on_cpu s c _ }

  bind_kept : (s : State) (t : ℕ) (d : CpuId) → Kept s (bind s t d)
  unfolding bind
  bind_kept s t d = record { same = on_cpu _ d.0 _ ∙ on_thread s t _ }

  unbind_kept : (s : State) (t : ℕ) (b : CpuId) → Kept s (unbind s t b)
  unfolding unbind
  unbind_kept s t b = record { same = on_cpu _ b.0 _ ∙ on_thread s t _ }

  pub rest : (w : Work) (x : Rest) → leaves_fields x ≡ true → KeepsRest w Kept x
  rest w Rest.nothing quiet = tt
  rest w Rest.ticks quiet = record { tick = tick_kept w }
  rest w Rest.bindings quiet = record { binds = bind_kept; unbinds = unbind_kept }
  rest w Rest.locks quiet = cc
  rest w Rest.counts quiet = cc
  rest w Rest.sets quiet = cc

  pub cleared_kept : (s : State) (d : CpuId) (r : Option ℕ) → Kept s (cleared s d r)
  unfolding set_kernel_mark
  cleared_kept s d None = record { same = refl }
  cleared_kept s d (Some r) = record { same = on_cpu s d.0 _ }

  pub after_kept : (w : Work) (s : State) (n : ℕ) (c : CpuId) (e : Event) → keeps_fields e ≡ true → Kept s (after w s n c e)
  after_kept w s n c e quiet = F.after_kept w (frame w) s n c e (rest w (rest_of e) quiet)
