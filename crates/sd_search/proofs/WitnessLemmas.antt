-- The entries that a list of processors makes, one after another.
use Rattle.std.proofs.Common.{◌≡◌, ℕ, ◌+◌, ◌<◌, ◌≤◌, List, [], ◌++◌, length, get_or, drop, sym, ap, subst, ◌∙◌}
use Rattle.std.proofs.lemmas.List.{append-nil, drop_all}
use Rattle.sd_types.specs.declared.numbers.CpuId.{CpuId}
use Rattle.sd_types.specs.declared.events.Entry.{Entry}
use Rattle.sd_types.specs.declared.works.Work.{Work}
use Rattle.sd_state.specs.declared.states.State.{State}
use Rattle.sd_state.specs.Opening.{opening}
use Rattle.sd_machine.specs.Runs.{IsReached, final, round, turn}
use Rattle.sd_machine.proofs.RoundLemmas.{round-nil, round_more}
use Rattle.sd_machine.proofs.RunLemmas.{final-nil}
use Rattle.sd_invariants.proofs.Induction.{opening_reached}

module _ (w : Work) where
  -- a turn that makes no entry leaves the state
  pub stays : (n : ℕ) (s s' : State) (es : List Entry) → [] ≡ es → s' ≡ final w s es → IsReached w n s → IsReached w n s'
  stays n s s' es none is reached = subst (λ x. IsReached w n x) (sym (is ∙ ap (final w s) (sym none) ∙ final-nil w s)) reached

  pub starts : (s : State) (es : List Entry) → s ≡ opening w → es ≡ [] → IsReached w (length es) s
  starts s es is none = subst (λ x. IsReached w (length es) x) (sym is) (subst (λ (xs : List Entry). IsReached w (length xs) (opening w)) (sym none) (opening_reached w))

  module _ (path : List CpuId) where
    pub whole : (s : State) (es : List Entry) → s ≡ opening w → es ≡ [] → es ++ round w s (length es) path ≡ round w (opening w) 0 path
    whole s es is none = ap (λ (xs : List Entry). xs ++ round w s (length xs) path) none ∙ ap (λ x. round w x 0 path) is

    pub one_turn : (i : ℕ) (d : CpuId) (s s' : State) (es es' : List Entry) → i < length path
        → es' ≡ es ++ turn w s (length es) (get_or path i d) → s' ≡ final w s (turn w s (length es) (get_or path i d))
        → es' ++ round w s' (length es') (drop (i + 1) path) ≡ es ++ round w s (length es) (drop i path)
    one_turn i d s s' es es' h e f =
        ap (λ (xs : List Entry). xs ++ round w s' (length xs) (drop (i + 1) path)) e
        ∙ ap (λ (x : State). (es ++ turn w s (length es) (get_or path i d)) ++ round w x (length (es ++ turn w s (length es) (get_or path i d))) (drop (i + 1) path)) f
        ∙ round_more w path i d s es h

    pub is_over : (i : ℕ) (s : State) (es xs : List Entry) → length path ≤ i → es ++ round w s (length es) (drop i path) ≡ xs → es ≡ xs
    is_over i s es xs h e =
        sym (ap (λ (cs : List CpuId). es ++ round w s (length es) cs) (drop_all i path h) ∙ ap (λ (ys : List Entry). es ++ ys) (round-nil w s (length es)) ∙ append-nil es) ∙ e
