-- A thread whose operation is over leaves for a sleep queue or for its nap.
use Rattle.std.proofs.Common.{◌≡◌, ℕ, ◌+◌, ap, ◌∙◌}
use Rattle.sd_types.specs.declared.numbers.ChanId.{ChanId}
use Rattle.sd_types.specs.declared.numbers.CpuId.{CpuId}
use Rattle.sd_types.specs.declared.works.Work.{Work}
use Rattle.sd_state.specs.declared.states.Place.TheVariants.{Asleep, Napping}
use Rattle.sd_state.specs.declared.states.State.{State}
use Rattle.sd_state.specs.States.{cpu_of, thread_of}
use Rattle.sd_state.specs.Operations.{op_of}
use Rattle.sd_machine.specs.Changes.{back_key, finish_op, leave}
use Rattle.sd_machine.specs.Needs.{IsChan}
use Rattle.sd_machine.specs.Sleeping.{fallen_asleep, nap_ticks, napped}
use Rattle.sd_dispatcher.proofs.Finished.{finished_left}

-- the channel is there all the same
pub finished_chan : (w : Work) (s : State) (t : ℕ) (k : ChanId) → IsChan s k → IsChan (finish_op w s t) k
unfolding finish_op
finished_chan w s t k there = there

pub left_asleep : (w : Work) (s : State) (n : ℕ) (c : CpuId) (t : ℕ) (k : ChanId) → leave (finish_op w s t) c.0 t (Asleep k (back_key n)) ≡ fallen_asleep w s n c t k
unfolding fallen_asleep
left_asleep w s n c t k = finished_left w s c.0 t (Asleep k (back_key n))

pub left_napping : (w : Work) (s : State) (c : CpuId) (t due : ℕ) → due ≡ (cpu_of s c.0).count + nap_ticks (op_of w t (thread_of s t).body)
    → leave (finish_op w s t) c.0 t (Napping c due) ≡ napped w s c t
unfolding napped
left_napping w s c t due is = ap (λ (d : ℕ). leave (finish_op w s t) c.0 t (Napping c d)) is ∙ finished_left w s c.0 t (Napping c ((cpu_of s c.0).count + nap_ticks (op_of w t (thread_of s t).body)))
