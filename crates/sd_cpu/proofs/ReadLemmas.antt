-- The processors that are read are there.
use Rattle.std.proofs.Common.{◌≡◌, ℕ, Bool, true, false, List, [], ◌∷◌, length, Option, Some, None, IfSome, option_map, sym, ap, ◌∙◌, subst, if◌then◌else◌}
use Rattle.sd_types.specs.declared.numbers.CpuId.{CpuId}
use Rattle.sd_types.specs.declared.events.Which.{Which}
use Rattle.sd_types.specs.declared.events.Which.TheVariants.{Running as OfRunning}
use Rattle.sd_types.specs.declared.works.Work.{Work}
use Rattle.sd_state.specs.declared.states.State.{State}
use Rattle.sd_state.specs.States.{thread_of}
use Rattle.sd_machine.specs.declared.plans.Plan.{Plan}
use Rattle.sd_machine.specs.declared.plans.Plan.TheVariants.{Make, Place, Search}
use Rattle.sd_machine.specs.Choosing.{cpus_for, is_warm, is_settled, neighbours}
use Rattle.sd_machine.specs.Hints.{placed_thread, plan_reads, read_of, reads_for}
use Rattle.sd_machine.specs.Plans.{plan}
use Rattle.sd_machine.specs.Runs.{IsReached}
use Rattle.sd_dispatcher.specs.declared.reading.Reading.{Reading}
use Rattle.sd_dispatcher.specs.Reading.{parts}
use Rattle.sd_invariants.proofs.Places.{cpus_there, inside_reached}
use Rattle.sd_invariants.proofs.Range.{neighbours_there}
use Rattle.sd_world.specs.Plain.{AreCpus}
use Rattle.sd_world.specs.Worlds.{IsGood, Meaning, actor_of, now}
use Rattle.sd_cpu.specs.Seeking.{IsCourse}
use Rattle.sd_cpu.proofs.RoomLemmas.{reached_by}

pub read_there : (w : Work) (n : ℕ) (s : State) (c : ℕ) → IsReached w n s → IfSome (plan_reads w s c (plan w s c)) (λ r. AreCpus w r.1)
unfolding reads_for
read_there w n s c reached = by (plan w s c)
  where
    among_open : (t : ℕ) → AreCpus w (cpus_for w s t)
    among_open t d has = cpus_there w s (inside_reached w n s reached) t d has

    if_read : (cpus : List CpuId) (b : Bool) (which : Which) → AreCpus w cpus → IfSome {T = Which × List CpuId} (if b then None else Some (which, cpus)) (λ r. AreCpus w r.1)
    if_read cpus true which there = tt
    if_read cpus false which there = there

    of_thread : (t : ℕ) → IfSome (reads_for w s c t) (λ r. AreCpus w r.1)
    of_thread t = if_read (cpus_for w s t) (is_settled (cpus_for w s t) (thread_of s t).body.last (is_warm s c t)) OfRunning (among_open t)

    of_neighbours : (cpus : List CpuId) → AreCpus w cpus → IfSome (read_of cpus) (λ r. AreCpus w r.1)
    of_neighbours [] there = tt
    of_neighbours (d ∷ ds) there = there

    by : (p : Plan) → IfSome (plan_reads w s c p) (λ r. AreCpus w r.1)
    by (Make e) = tt
    by (Place placement p) = of_thread (placed_thread placement)
    by Search = of_neighbours (neighbours s c) (λ d near. neighbours_there w n s c d reached near)

-- the same of a reading
pub reading_there : (w : Work) (o : Option Reading) (q : Option (Which × List CpuId)) → option_map parts o ≡ q → IfSome q (λ r. AreCpus w r.1) → IfSome o (λ r. AreCpus w r.cpus.items)
reading_there w None q e there = tt
reading_there w (Some r) q e there = subst (λ z. IfSome {T = Which × List CpuId} z (λ y. AreCpus w y.1)) (sym e) there

pub course_there : (m : Meaning) (w : Work) (p : Plan) (r : Option Reading) → IsGood m → w ≡ m.work → IsCourse m p r → IfSome r (λ x. AreCpus w x.cpus.items)
course_there m w p r good same course =
    let x = course m.seen good.stands in
    subst (λ v. IfSome r (λ y. AreCpus v y.cpus.items)) (sym same)
    (reading_there m.work r (plan_reads m.work (now m) (actor_of m).0 (plan m.work (now m) (actor_of m).0)) (x.1 ∙ ap (plan_reads m.work (now m) (actor_of m).0) x.0)
    (read_there m.work (length m.seen) (now m) (actor_of m).0 (reached_by m good m.seen good.stands)))
