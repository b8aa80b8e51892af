-- In the initial state each thread is in its own set, in a place that the workload has.
use Rattle.std.proofs.Common.{◌≡◌, ℕ, ◌<◌, ◌%◌, Bool, true, false, cond, length, get_or, Some, pos, sym, ap, ◌∙◌, arith}
use Rattle.std.specs.Prelude.{slice_get}
use Rattle.std.proofs.lemmas.List.{get_or_default}
use Rattle.std.proofs.lemmas.List.FromFn.{get_or-map-range_with_len}
use Rattle.std.proofs.Math.Nat.{mod-lt}
use Rattle.sd_types.specs.declared.numbers.CpuId.{CpuId}
use Rattle.sd_types.specs.declared.numbers.SetId.{SetId}
use Rattle.sd_types.specs.declared.works.ThreadDecl.{ThreadDecl}
use Rattle.sd_types.specs.declared.works.Work.{Work}
use Rattle.sd_types.specs.Partitions.{set_of_cpu, cpus_of_set}
use Rattle.sd_state.specs.declared.states.Place.TheVariants.{Queued, RealTime}
use Rattle.sd_state.specs.declared.states.CpuState.{CpuState}
use Rattle.sd_state.specs.States.{cpu_of, no_cpu}
use Rattle.sd_state.specs.Opening.{opening, first_thread, first_cpu, dealt_cpu, dealt_before, is_urgent, first_cpu_state}
use Rattle.sd_state.specs.Invariants.{IsInItsSet, IsPlaceThere}
use Rattle.sd_state.proofs.Chosen.{places}
use Rattle.sd_rules.proofs.PartitionLemmas.{some_cpu, in_no_other}
use Rattle.sd_state.proofs.Declared.{decl_set, decl_set_there, opening_each}

-- a processor of the initial state is in the set that the workload gives it
pub opening_set : (w : Work) (c : ℕ) → c < w.cpus → (cpu_of (opening w) c).set.0 ≡ set_of_cpu w c
unfolding opening first_cpu_state
opening_set w c here = ap (λ (x : CpuState). x.set.0) (get_or-map-range_with_len (first_cpu_state w) 0 w.cpus c c no_cpu here (omega arith))

pub same_set : (p q : SetId) → p.0 ≡ q.0 → p ≡ q
same_set p q e = ap (λ (n : ℕ). let r : SetId = record { 0 = n } in r) e

module _ (w : Work) (t : ℕ) (d : ThreadDecl) (is : slice_get w.threads t ≡ Some d) where
  -- the processor on whose queue a thread stands in the initial state
  first_cpu_well : (k : ℕ) → ((dealt_cpu (cpus_of_set w d.set.0) k).0 < w.cpus) × ((cpu_of (opening w) (dealt_cpu (cpus_of_set w d.set.0) k).0).set ≡ d.set)
  first_cpu_well k =
      let some = some_cpu w d.set.0 (decl_set_there w t d is) in
      let cpus = cpus_of_set w d.set.0 in
      let inside = mod-lt k some in
      let none : CpuId = record { 0 = 0 } in
      let one = get_or cpus (k % length cpus) none in
      let member = in_no_other w one d.set.0 (k % length cpus, inside, get_or_default cpus (k % length cpus) one none inside) in
      (member.0, same_set _ d.set (opening_set w (dealt_cpu (cpus_of_set w d.set.0) k).0 member.0 ∙ member.1))

  first_well : (k : ℕ) → IsInItsSet w (opening w) t (first_thread w k d).place × IsPlaceThere w (first_thread w k d).place
  unfolding first_thread first_cpu
  first_well k = by (is_urgent d)
    where
      by : (v : Bool) → IsInItsSet w (opening w) t (cond v (RealTime d.set (pos k)) (Queued (dealt_cpu (cpus_of_set w d.set.0) (cond v 0 (dealt_before w d.set.0 k))) (pos k)))
          × IsPlaceThere w (cond v (RealTime d.set (pos k)) (Queued (dealt_cpu (cpus_of_set w d.set.0) (cond v 0 (dealt_before w d.set.0 k))) (pos k)))
      by true = (sym (decl_set w t d is), decl_set_there w t d is)
      by false = let cpu = first_cpu_well (dealt_before w d.set.0 k) in (cpu.1 ∙ sym (decl_set w t d is), cpu.0)

-- a thread of the initial state stands in its set, in a place that is there
pub opening_well : (w : Work) (t : ℕ) → IsInItsSet w (opening w) t (places (opening w) t) × IsPlaceThere w (places (opening w) t)
opening_well w t = opening_each w t (λ x. IsInItsSet w (opening w) t x.place × IsPlaceThere w x.place) (tt, tt) (λ d is. first_well w t d is t)
