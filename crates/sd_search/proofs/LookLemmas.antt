-- The state that a turn leads to, found again by its bytes.
use Rattle.std.proofs.Common.{◌≡◌, ℕ, ◌<◌, List, Option, Some, None, sym, ap, ◌∙◌, subst}
use Rattle.std.specs.Prelude.{slice_get}
use Rattle.sd_types.specs.declared.numbers.CpuId.{CpuId}
use Rattle.sd_types.specs.declared.events.Event.{Event}
use Rattle.sd_types.specs.declared.works.Work.{Work}
use Rattle.sd_state.specs.declared.states.State.{State}
use Rattle.sd_machine.specs.Events.{after, next}
use Rattle.sd_machine.specs.Runs.{serial_hints}
use Rattle.sd_encoding.specs.Order.{IsSameOrder}
use Rattle.sd_encoding.specs.Ranks.{ranked}
use Rattle.sd_encoding.proofs.OrderRankLemmas.{ranked_order, ranked_same}
use Rattle.sd_encoding.specs.Encoding.{IsHeld, encoded}
use Rattle.sd_search.specs.declared.graph.Step.{Step}
use Rattle.sd_search.specs.Graphs.{IsAt, IsGathered}
use Rattle.sd_search.specs.Stored.{IsIndex}
use Rattle.sd_search.specs.Turns.{LeadsTo}

module _ (w : Work) (bs : List (List ℕ)) (steps : List Step) (done : ℕ) (g : IsGathered w bs steps done) (i : ℕ) (x : State) (at : IsAt bs i x) (c : CpuId) (e : Event) (y : State) (b : List ℕ)
    (is : y ≡ ranked (after w x 0 c e)) (own : IsHeld y) (bytes : b ≡ encoded y) where
  -- the bytes stand there
  pub stands_there : i < done → next w x c (serial_hints w x c) ≡ Some e → (j : ℕ) × (slice_get bs j ≡ Some b)
  stands_there less makes =
      let has = g.expanded i less x at c e makes in
      let z = has.state in
      let same : z ≡ y = sym (g.ranks has.among.index z has.among.at) ∙ ranked_same z (after w x 0 c e) has.same ∙ sym is in
      (has.among.index, has.among.at.bytes ∙ ap (λ (v : List ℕ). Some v) (ap encoded same ∙ sym bytes))

  pub never_missing : i < done → next w x c (serial_hints w x c) ≡ Some e → (o : Option ℕ) → o ≡ None → IsIndex bs b o → ⊥
  never_missing less makes None none index = let there = stands_there less makes in index there.0 there.1
  never_missing less makes (Some j) some index = cc

  -- and what stands there is the state
  pub leads_there : (j : ℕ) → IsIndex bs b (Some j) → LeadsTo w bs x c e j
  leads_there j index = record {
    state = y;
    at = record { bytes = index ∙ ap (λ (v : List ℕ). Some v) bytes; held = own };
    same = subst (λ z. IsSameOrder z (after w x 0 c e)) (sym is) (ranked_order (after w x 0 c e));
  }
