-- What holds in the initial state and is kept by each entry of a run holds in every state of every run. Of the state before
-- an entry everything is known that holds in every state of a run.
use Rattle.std.proofs.Common.{◌≡◌, ℕ, ◌+◌, ◌<◌, List, [], ◌∷◌, ◌++◌, length, refl, sym, ap, ◌∙◌, subst, arith}
use Rattle.std.proofs.lemmas.List.{length-append}
use Rattle.sd_types.specs.declared.numbers.CpuId.{CpuId}
use Rattle.sd_types.specs.declared.events.Entry.{Entry}
use Rattle.sd_types.specs.declared.events.Event.{Event}
use Rattle.sd_types.specs.declared.works.Work.{Work}
use Rattle.sd_state.specs.declared.states.State.{State}
use Rattle.sd_state.specs.Opening.{opening}
use Rattle.sd_machine.specs.Events.{after}
use Rattle.sd_machine.specs.Runs.{final, IsStep, IsRunFrom, IsReached}
use Rattle.sd_machine.proofs.RunLemmas.{final-nil, final-push, IsRun-from, from-IsRun, IsRun-nil, IsRunFrom-push}
use Rattle.sd_frames.specs.Causes.{IsCause}
use Rattle.sd_invariants.specs.Laws.{HoldsWhenReached}
use Rattle.sd_invariants.proofs.Ready.{ready_cause, maker_inside, reached_ready}

pub opening_reached : (w : Work) → IsReached w 0 (opening w)
opening_reached w = record { entries = []; run = IsRun-nil w; many = refl; ends = final-nil w (opening w) }

-- one entry more
pub reached_more : (w : Work) (n : ℕ) (s : State) (e : Entry) → IsReached w n s → e.number ≡ n → IsStep w s e → IsReached w (n + 1) (after w s e.number e.cpu e.event)
reached_more w n s e reached number step =
    let there : IsStep w (final w (opening w) reached.entries) e = subst (λ x. IsStep w x e) (sym reached.ends) step in
    let many : e.number ≡ 0 + length reached.entries = let a = reached.many in omega (arith, number, a) in
    record {
      entries = reached.entries ++ e ∷ [];
      run = from-IsRun w (reached.entries ++ e ∷ []) (IsRunFrom-push w (opening w) 0 reached.entries e (IsRun-from w reached.entries reached.run) many there);
      many = let one : length (reached.entries ++ e ∷ []) ≡ length reached.entries + 1 = length-append reached.entries (e ∷ []) in let a = reached.many in omega (arith, one, a);
      ends = final-push w (opening w) reached.entries e ∙ ap (λ x. after w x e.number e.cpu e.event) reached.ends;
    }

-- what is kept by each entry: its processor is there, and the event has its cause
pub record IsHeld (P : Work → State → Type 0) : Type 0 where
  pub start : (w : Work) → P w (opening w)
  pub step : (w : Work) (s : State) (n : ℕ) (c : CpuId) (e : Event) → IsReached w n s → c.0 < w.cpus → IsCause w s c.0 e → P w s → P w (after w s n c e)

held_from : (P : Work → State → Type 0) → IsHeld P → (w : Work) (s : State) (n : ℕ) (es : List Entry) → IsReached w n s → P w s → IsRunFrom w s n es → P w (final w s es)
unfolding final IsRunFrom
held_from P k w s n [] reached holds run = holds
held_from P k w s n (e ∷ es) reached holds (number, step, run) =
    let here : P w (after w s e.number e.cpu e.event) =
    k.step w s e.number e.cpu e.event (subst (λ m. IsReached w m s) (sym number) reached) (maker_inside w s e.cpu e.hints e.event step) (ready_cause w s e.cpu e.hints e.event (reached_ready w n s reached) step) holds in
    held_from P k w (after w s e.number e.cpu e.event) (n + 1) es (reached_more w n s e reached number step) here run

pub held_reached : (P : Work → State → Type 0) → IsHeld P → HoldsWhenReached P
held_reached P k w n s reached =
    subst (λ x. P w x) reached.ends (held_from P k w (opening w) 0 reached.entries (opening_reached w) (k.start w) (IsRun-from w reached.entries reached.run))
