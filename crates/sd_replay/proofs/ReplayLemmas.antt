-- A list of entries, replayed one entry after another.
use Rattle.std.proofs.Common.{◌≡◌, ℕ, ◌+◌, ◌<◌, ◌≤◌, List, [], ◌∷◌, ◌++◌, length, take, get_or, sym, ap, subst, ◌∙◌, arith}
use Rattle.std.proofs.lemmas.List.{take_more, length-take-le}
use Rattle.sd_types.specs.declared.events.Entry.{Entry}
use Rattle.sd_types.specs.declared.works.Work.{Work}
use Rattle.sd_state.specs.declared.states.State.{State}
use Rattle.sd_machine.specs.Events.{after}
use Rattle.sd_state.specs.Opening.{opening}
use Rattle.sd_machine.specs.Runs.{final, IsStep, IsRunFrom, IsReached}
use Rattle.sd_machine.proofs.RunLemmas.{IsRunFrom-push, final-push, last_number, last_step, IsRunFrom-take, from-IsRun, IsRun-from}
use Rattle.sd_replay.specs.Replays.{IsIllegalFrom, IsIllegal}

module _ (w : Work) (s₀ s : State) (es : List Entry) (i : ℕ) (e : Entry) (here : i < length es) (is : e ≡ get_or es i e) where
  one_more : take (i + 1) es ≡ take i es ++ e ∷ []
  one_more = take_more es i e here ∙ ap (λ (x : Entry). take i es ++ x ∷ []) (sym is)

  so_far : length (take i es) ≡ i
  so_far = length-take-le i es (omega arith)

  pub run_more : IsRunFrom w s₀ 0 (take i es) → s ≡ final w s₀ (take i es) → e.number ≡ i → IsStep w s e → IsRunFrom w s₀ 0 (take (i + 1) es)
  run_more run state number step =
      subst (λ xs. IsRunFrom w s₀ 0 xs) (sym one_more)
      (IsRunFrom-push w s₀ 0 (take i es) e run (let n = so_far in omega arith) (subst (λ x. IsStep w x e) state step))

  pub state_more : (s' : State) → s ≡ final w s₀ (take i es) → s' ≡ after w s e.number e.cpu e.event → s' ≡ final w s₀ (take (i + 1) es)
  state_more s' state made =
      made ∙ ap (λ x. after w x e.number e.cpu e.event) state ∙ sym (final-push w s₀ (take i es) e) ∙ ap (final w s₀) (sym one_more)

  pub is_illegal : IsRunFrom w s₀ 0 (take i es) → s ≡ final w s₀ (take i es) → (e.number ≡ i → IsStep w s e → ⊥) → IsIllegalFrom w s₀ es i
  is_illegal run state refused = record {
    inside = here;
    before = run;
    illegal = λ r.
        let q = subst (λ xs. IsRunFrom w s₀ 0 xs) one_more r in
        let n = so_far in
        let m = last_number w s₀ 0 (take i es) e q in
        refused (omega arith) (subst (λ x. IsStep w x e) (sym state) (last_step w s₀ 0 (take i es) e q));
  }

-- the whole list is then no run
pub from_illegal : (w : Work) (s : State) (es : List Entry) (k : ℕ) → s ≡ opening w → IsIllegalFrom w s es k → IsIllegal w es k
from_illegal w s es k is f = record {
  inside = f.inside;
  before = from-IsRun w (take k es) (subst (λ x. IsRunFrom w x 0 (take k es)) is f.before);
  illegal = λ r. f.illegal (subst (λ x. IsRunFrom w x 0 (take (k + 1) es)) (sym is) (IsRun-from w (take (k + 1) es) r));
  no_run = λ r. f.illegal (subst (λ x. IsRunFrom w x 0 (take (k + 1) es)) (sym is) (IsRunFrom-take w (opening w) 0 (k + 1) es (IsRun-from w es r)));
}

-- after the first entries of a run, the state is one of a run with so many
pub reached_at : (w : Work) (s : State) (es : List Entry) (i : ℕ) → i ≤ length es → s ≡ final w (opening w) (take i es) → IsRunFrom w (opening w) 0 (take i es) → IsReached w i s
reached_at w s es i h state run = record {
  entries = take i es;
  run = from-IsRun w (take i es) run;
  many = length-take-le i es h;
  ends = sym state;
}
