-- A state of a run, and the state of the graph that stands for it: each makes a turn with the other.
use Rattle.std.proofs.Common.{◌≡◌, ℕ, ◌+◌, List, Option, Some, refl, sym, ap, ◌∙◌}
use Rattle.sd_types.specs.declared.numbers.CpuId.{CpuId}
use Rattle.sd_types.specs.declared.events.Event.{Event}
use Rattle.sd_types.specs.declared.events.Hints.{Hints}
use Rattle.sd_types.specs.declared.works.Work.{Work}
use Rattle.sd_state.specs.declared.states.State.{State}
use Rattle.sd_state.specs.States.{cpu_of}
use Rattle.sd_machine.specs.Events.{after, next}
use Rattle.sd_machine.specs.Runs.{IsReached, serial_hints}
use Rattle.sd_invariants.proofs.Induction.{reached_more}
use Rattle.sd_invariants.proofs.Range.{needs_reached}
use Rattle.sd_encoding.specs.Order.{IsSameOrder}
use Rattle.sd_encoding.proofs.AfterLemmas.{after_alike}
use Rattle.sd_encoding.proofs.NextLemmas.{next_same, serial_same}
use Rattle.sd_encoding.proofs.SourceLemmas.{AreAlike}
use Rattle.sd_encoding.proofs.TellLemmas.{count_same}
use Rattle.sd_search.proofs.RunLemmas.{alike, joined}
use Rattle.sd_search.specs.declared.graph.Step.{Step}
use Rattle.sd_search.specs.Graphs.{IsAt, IsGathered}
use Rattle.sd_search.specs.Turns.{LeadsTo}
use Rattle.sd_search.proofs.KeyLemmas.{keys_reached}

-- state number i stands for a state that n entries made
pub record IsNear (w : Work) (bs : List (List ℕ)) (n : ℕ) (s : State) (i : ℕ) : Type 0 where
  pub state : State
  pub at : IsAt bs i state
  pub same : IsSameOrder state s
  pub reached : IsReached w n s

module _ (w : Work) (bs : List (List ℕ)) (steps : List Step) (done : ℕ) (g : IsGathered w bs steps done) (n : ℕ) (s : State) (i : ℕ) (near : IsNear w bs n s i) where
  both : AreAlike 0 n near.state s
  both = alike 0 n near.state s near.same (g.fits i near.state near.at) (keys_reached w n s near.reached)

  pub count_there : (c : CpuId) → (cpu_of near.state c.0).count ≡ (cpu_of s c.0).count
  count_there c = count_same near.state s near.same c.0

  -- what the one makes the other makes
  pub makes_there : (c : CpuId) (hints : Option Hints) (e : Event) → hints ≡ serial_hints w s c → next w s c hints ≡ Some e → next w near.state c (serial_hints w near.state c) ≡ Some e
  makes_there c hints e shown step = ap (next w near.state c) (serial_same 0 n near.state s both w c ∙ sym shown) ∙ next_same 0 n near.state s both w c hints ∙ step

  pub makes_here : (c : CpuId) (e : Event) → next w near.state c (serial_hints w near.state c) ≡ Some e → next w s c (serial_hints w s c) ≡ Some e
  makes_here c e makes = sym (next_same 0 n near.state s both w c (serial_hints w s c)) ∙ ap (next w near.state c) (sym (serial_same 0 n near.state s both w c)) ∙ makes

  -- and the states after it are near again
  pub near_next : (c : CpuId) (hints : Option Hints) (e : Event) (j : ℕ) → next w s c hints ≡ Some e → LeadsTo w bs near.state c e j → IsNear w bs (n + 1) (after w s n c e) j
  near_next c hints e j step leads =
      let kept : AreAlike 1 (n + 1) (after w near.state 0 c e) (after w s n c e) = after_alike 0 n near.state s both w c e (needs_reached w n s c hints e near.reached step) in
      record {
        state = leads.state;
        at = leads.at;
        same = joined leads.state (after w near.state 0 c e) (after w s n c e) leads.same kept.same;
        reached = reached_more w n s (record { number = n; cpu = c; event = e; hints = hints }) near.reached refl step;
      }
