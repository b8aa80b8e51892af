-- Homes that a change does not name.
use Rattle.std.proofs.Common.{◌≡◌, ℕ, ◌<◌, List, length, ap, ◌∙◌, le_refl}
use Rattle.sd_types.specs.declared.bodies.ThreadBody.{ThreadBody}
use Rattle.sd_types.specs.declared.numbers.CpuId.{CpuId}
use Rattle.sd_types.specs.declared.numbers.HomeId.TheVariants as id
use Rattle.sd_types.specs.declared.numbers.SetId.{SetId}
use Rattle.sd_state.specs.declared.states.CpuState.{CpuState}
use Rattle.sd_state.specs.declared.states.State.{State}
use Rattle.sd_state.specs.States.{thread_of, with_cpu}
use Rattle.sd_machine.specs.Changes.{with_body}
use Rattle.sd_machine.specs.Threads.{with_open}
use Rattle.sd_homes.specs.Standing.{home_of, home_of_place, look_of}
use Rattle.sd_homes.specs.declared.home.Home.{Home}
use Rattle.sd_hand.specs.Frames.{IsNot, Stays}
use Rattle.sd_hand.proofs.MoveLemmas.{frame_thread, of_state}
use Rattle.sd_hand.proofs.PartLemmas.{cpu_beside, open_beside}

pub cpu_stays : (n : ℕ) (s : State) (c : CpuId) (z : CpuState) (h : Home) → IsNot (id.Cpu c) h → Stays n n s (with_cpu s c.0 z) h
cpu_stays n s c z h apart is = of_state n s (with_cpu s c.0 z) (look_of s) h (cpu_beside s c z h apart) is

pub open_stays : (n : ℕ) (s : State) (p : SetId) (cpus : List CpuId) (h : Home) → IsNot (id.RealTime p) h → Stays n n s (with_open s p.0 cpus) h
open_stays n s p cpus h apart is = of_state n s (with_open s p.0 cpus) (look_of s) h (open_beside s p cpus h apart) is

pub body_stays : (n : ℕ) (s : State) (t : ℕ) (b : ThreadBody) (h : Home) → t < length s.threads → b.last ≡ (thread_of s t).body.last → IsNot (home_of (thread_of s t)) h
    → Stays n n s (with_body s t b) h
body_stays n s t b h inside last apart =
    frame_thread n n s t (record (thread_of s t) { body = b }) h (le_refl n) inside apart (λ e. apart (e ∙ ap (home_of_place (thread_of s t).place) last))
