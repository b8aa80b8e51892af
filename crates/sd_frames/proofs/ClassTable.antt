-- What is true of the class state of each thread, and kept by what the classes make of it, is kept by every event.
use Rattle.std.proofs.Common.{◌≡◌, ℕ, Bool, List, length, get_or, set, Some, None, sym, ap, ◌∙◌, subst, inl, inr}
use Rattle.std.specs.Prelude.{Ok}
use Rattle.std.proofs.lemmas.Bool.{cases_lt, cases_eq}
use Rattle.std.proofs.lemmas.List.{set_past}
use Rattle.sd_frames.proofs.Frames.{IsFrame, KeepsRest, Rest, rest_of, after_kept}
use Rattle.sd_frames.proofs.Parts.{put_item}
use Rattle.sd_types.specs.declared.numbers.CpuId.{CpuId}
use Rattle.sd_types.specs.declared.numbers.SetId.{SetId}
use Rattle.sd_types.specs.declared.classes.ClassParms.{ClassParms}
use Rattle.sd_types.specs.declared.classes.ClassState.{ClassState}
use Rattle.sd_types.specs.declared.events.Event.{Event}
use Rattle.sd_types.specs.declared.scripts.Request.{Request}
use Rattle.sd_types.specs.declared.works.Work.{Work}
use Rattle.sd_rules.specs.ClassRules.{class_requeue}
use Rattle.sd_state.specs.declared.states.ThreadState.{ThreadState}
use Rattle.sd_state.specs.declared.states.State.{State}
use Rattle.sd_state.specs.States.{no_thread, thread_of, with_thread}
use Rattle.sd_machine.specs.Bodies.{ticked_class, woken_class, aged_class}
use Rattle.sd_machine.specs.Changes.{set_class, count_tick, close, join, bind, unbind}
use Rattle.sd_machine.specs.Prioritising.{answer_to, new_class}
use Rattle.sd_machine.specs.Events.{after}

-- each thread's class state keeps what P says of it
pub record Fit (P : ClassState → Type 0) (s r : State) : Type 0 where
  pub each : (u : ℕ) → P (thread_of s u).body.class → P (thread_of r u).body.class

-- what P says is kept by what classes do
pub record IsClosed (P : ClassState → Type 0) (w : Work) : Type 0 where
  pub ticks : (k : ClassState) → P k → P (ticked_class w k)
  pub wakes : (k : ClassState) → P k → P (woken_class w k)
  pub ages : (k : ClassState) → P k → P (aged_class w k)
  pub requeues : (b : Bool) (k : ClassState) → P k → P (class_requeue b k)
  pub enters : (s : State) (t u : ℕ) (r : Request) (p : ClassParms) → answer_to w s t u r ≡ Ok p → P (new_class w s u p)

module _ (P : ClassState → Type 0) (w : Work) (k : IsClosed P w) where
  written : (s : State) (t : ℕ) (x : ThreadState) → (P (thread_of s t).body.class → P x.body.class) → Fit P s (with_thread s t x)
  written s t x keeps = record {
    each = λ u h. elim (cases_lt t (length s.threads)) [
      | inl here ↦
          let put = put_item (λ (y : ThreadState). y.body.class) s.threads no_thread t x here in
          elim (cases_eq u t) [
            | inl is ↦ subst P (sym (ap (λ v. (get_or (set s.threads t x) v no_thread).body.class) is ∙ put.at)) (keeps (subst (λ v. P (thread_of s v).body.class) is h))
            | inr other ↦ subst P (sym (put.others u other)) h
          ]
      | inr past ↦ subst P (sym (ap (λ (ys : List ThreadState). (get_or ys u no_thread).body.class) (set_past s.threads t x past))) h
    ];
  }

  class_fit : (s : State) (t : ℕ) (class : ClassState) → (P (thread_of s t).body.class → P class) → Fit P s (set_class s t class)
  unfolding set_class
  class_fit s t class keeps = written s t _ keeps

  frame : IsFrame w (Fit P)
  frame = record {
    stays = λ s. record { each = λ u h. h };
    joins = λ s r q a b. record { each = λ u h. b.each u (a.each u h) };
    thread = λ s t x same. written s t x (λ h. subst P (sym same) h);
    ticks = λ s t. class_fit s t _ (k.ticks (thread_of s t).body.class);
    wakes = λ s t. class_fit s t _ (k.wakes (thread_of s t).body.class);
    ages = λ s t. class_fit s t _ (k.ages (thread_of s t).body.class);
    requeues = λ s t b. class_fit s t _ (k.requeues b (thread_of s t).body.class);
    enters = λ s t u r p is. class_fit s u _ (λ h. k.enters s t u r p is);
    marks = λ s c u m. record { each = λ v h. h };
    duty = λ s c d. record { each = λ u h. h };
  }

  tick_fit : (s : State) (c : ℕ) → Fit P s (count_tick w s c)
  unfolding count_tick
  tick_fit s c = record { each = λ u h. h }

  close_fit : (s : State) (d : CpuId) (to : SetId) → Fit P s (close s d to)
  unfolding close
  close_fit s d to = record { each = λ u h. h }

  join_fit : (s : State) (c : CpuId) (to : SetId) → Fit P s (join s c to)
  unfolding join
  join_fit s c to = record { each = λ u h. h }

  bind_fit : (s : State) (t : ℕ) (d : CpuId) → Fit P s (bind s t d)
  unfolding bind
  bind_fit s t d = record { each = λ u h. (written s t (record (thread_of s t) { body = record (thread_of s t).body { bound = Some d } }) (λ x. x)).each u h }

  unbind_fit : (s : State) (t : ℕ) (b : CpuId) → Fit P s (unbind s t b)
  unfolding unbind
  unbind_fit s t b = record { each = λ u h. (written s t (record (thread_of s t) { body = record (thread_of s t).body { bound = None } }) (λ x. x)).each u h }

  rest : (x : Rest) → KeepsRest w (Fit P) x
  rest Rest.nothing = tt
  rest Rest.locks = record { lock = λ s l x. record { each = λ u h. h } }
  rest Rest.counts = record { count = λ s k n. record { each = λ u h. h } }
  rest Rest.ticks = record { tick = tick_fit }
  rest Rest.sets = record { closes = close_fit; enters_set = join_fit }
  rest Rest.bindings = record { binds = bind_fit; unbinds = unbind_fit }

  pub after_fit : (s : State) (n : ℕ) (c : CpuId) (e : Event) → Fit P s (after w s n c e)
  after_fit s n c e = after_kept w frame s n c e (rest (rest_of e))
