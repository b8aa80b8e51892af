-- Where a thread is bound, or bound no more: the operation at which a thread stands and the place of the thread are kept.
use Rattle.std.proofs.Common.{◌≡◌, ℕ, ◌+◌, ◌<◌, ◌^◌, Bool, true, false, length, Option, Some, None, refl, ◌∙◌}
use Rattle.std.specs.Prelude.{◌==◌, if◌then◌else◌, IfSome}
use Rattle.sd_types.specs.declared.numbers.CpuId.{CpuId}
use Rattle.sd_types.specs.declared.events.BindAnswer.TheVariants.{Changed}
use Rattle.sd_types.specs.declared.events.Put.{Put}
use Rattle.sd_types.specs.declared.works.Work.{Work}
use Rattle.sd_state.specs.declared.states.Place.{Place}
use Rattle.sd_state.specs.declared.states.Place.TheVariants.{Running}
use Rattle.sd_state.specs.declared.states.State.{State}
use Rattle.sd_state.specs.States.{cpu_of, thread_of}
use Rattle.sd_state.specs.Operations.{script_of}
use Rattle.sd_machine.specs.Changes.{bind, put_where, set_kernel_mark, unbind}
use Rattle.sd_machine.specs.Needs.{CanBind}
use Rattle.sd_machine.specs.SetChanges.{called_back, rebound}
use Rattle.sd_machine.proofs.PlaceLemmas.{kept_place}
use Rattle.sd_dispatcher.proofs.Kept.{Keeps, inside, kept_op, where_op}

-- Operations.

called_op : (s : State) (d : CpuId) (place : Place) → Keeps s (called_back s d place)
unfolding set_kernel_mark
called_op s d (Running c) t = by (c.0 == d.0) t
  where
    by : (b : Bool) → Keeps s (if b then s else set_kernel_mark s c.0)
    by true t = refl
    by false t = refl
called_op s d _ t = refl

rebound_op : (s : State) (u : ℕ) (d b : Option CpuId) → Keeps s (rebound s u d b)
unfolding bind unbind
rebound_op s u (Some d) b t = called_op (bind s u d) d (thread_of s u).place t ∙ kept_op s u t (record (thread_of s u) { body = record (thread_of s u).body { bound = Some d } }) refl
rebound_op s u None (Some b) t = kept_op s u t (record (thread_of s u) { body = record (thread_of s u).body { bound = None } }) refl
rebound_op s u None None t = refl

pub rebound_inside : (w : Work) (s : State) (n u t : ℕ) (d b : Option CpuId) (at : Option Put) → (thread_of s t).body.op < length (script_of w t)
    → (thread_of (put_where w (rebound s u d b) n u at) t).body.op < length (script_of w t)
rebound_inside w s n u t d b at here =
    inside w s (put_where w (rebound s u d b) n u at) t (where_op w (rebound s u d b) n u at t ∙ rebound_op s u d b t) here

-- The place.

pub bound_place : (s : State) (u : ℕ) (d : CpuId) → (thread_of (bind s u d) u).place ≡ (thread_of s u).place
unfolding bind
bound_place s u d = kept_place s u u (record (thread_of s u) { body = record (thread_of s u).body { bound = Some d } }) refl

pub can_bind : (s : State) (d : Option CpuId) (at : Option Put) → CanBind s d (Changed at) → IfSome d (λ e. (cpu_of s e.0).bound + 1 < 2 ^ 16)
can_bind s None at h = tt
can_bind s (Some d) at h = h
