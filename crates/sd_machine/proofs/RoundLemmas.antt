-- Rounds: that they are runs, that an empty one shows that the run is complete, and how a round is made.
use Rattle.std.proofs.Common.{◌≡◌, ℕ, zero, suc, ◌+◌, ◌<◌, List, [], ◌∷◌, ◌++◌, length, get_or, drop, Option, Some, None, refl, sym, ap, subst, ◌∙◌, arith}
use Rattle.std.proofs.lemmas.List.{append_assoc, length-append, drop_more}
use Rattle.sd_types.specs.declared.numbers.CpuId.{CpuId}
use Rattle.sd_types.specs.declared.events.Event.{Event}
use Rattle.sd_types.specs.declared.events.Entry.{Entry}
use Rattle.sd_types.specs.declared.events.Hints.{Hints}
use Rattle.sd_types.specs.declared.works.Work.{Work}
use Rattle.sd_state.specs.declared.states.State.{State}
use Rattle.sd_machine.specs.Events.{next}
use Rattle.sd_machine.specs.Runs.{final, IsRunFrom, serial_hints, made, turn, round, round_after, rounds}
use Rattle.sd_machine.proofs.RunLemmas.{IsRunFrom-append, IsRunFrom-one, IsRunFrom-nil, final-nil}

nil_left : {X : Type 0} (xs ys : List X) → xs ++ ys ≡ [] → xs ≡ []
nil_left [] ys e = refl
nil_left (x ∷ xs) ys e = cc

nil_right : {X : Type 0} (xs ys : List X) → xs ++ ys ≡ [] → ys ≡ []
nil_right [] ys e = e
nil_right (x ∷ xs) ys e = cc

module _ (w : Work) where
  pub round-nil : (s : State) (n : ℕ) → round w s n [] ≡ []
  unfolding round
  round-nil s n = refl

  pub round-cons : (s : State) (n : ℕ) (c : CpuId) (cs : List CpuId) → round w s n (c ∷ cs) ≡ turn w s n c ++ round w (final w s (turn w s n c)) (n + length (turn w s n c)) cs
  unfolding round
  round-cons s n c cs = refl

  pub turn_run : (s : State) (n : ℕ) (c : CpuId) (h : Option Hints) (o : Option Event) → next w s c h ≡ o → IsRunFrom w s n (made n c h o)
  turn_run s n c h None e = IsRunFrom-nil w s n
  turn_run s n c h (Some x) e = IsRunFrom-one w s n (record { number = n; cpu = c; event = x; hints = h }) refl e

  -- a round is a run from where it begins
  pub round_run : (s : State) (n : ℕ) (cs : List CpuId) → IsRunFrom w s n (round w s n cs)
  unfolding round
  round_run s n [] = IsRunFrom-nil w s n
  round_run s n (c ∷ cs) =
      IsRunFrom-append w s n (turn w s n c) (round w (final w s (turn w s n c)) (n + length (turn w s n c)) cs)
      (turn_run s n c (serial_hints w s c) (next w s c (serial_hints w s c)) refl) (round_run (final w s (turn w s n c)) (n + length (turn w s n c)) cs)

  no_turn : (s : State) (n : ℕ) (c : CpuId) (h : Option Hints) (o : Option Event) → next w s c h ≡ o → made n c h o ≡ [] → next w s c h ≡ None
  no_turn s n c h None e m = e
  no_turn s n c h (Some x) e m = cc

  -- in an empty round no processor of its order has an entry
  pub empty_round : (d : CpuId) (s : State) (n : ℕ) (cs : List CpuId) → round w s n cs ≡ [] → (k : ℕ) → k < length cs → next w s (get_or cs k d) (serial_hints w s (get_or cs k d)) ≡ None
  unfolding round
  empty_round d s n [] e k h = absurd (omega arith)
  empty_round d s n (c ∷ cs) e zero h = no_turn s n c (serial_hints w s c) (next w s c (serial_hints w s c)) refl (nil_left (turn w s n c) _ e)
  empty_round d s n (c ∷ cs) e (suc k) h =
      let none = nil_left (turn w s n c) _ e in
      let rest = nil_right (turn w s n c) _ e in
      empty_round d s n cs
      (subst (λ m. round w s m cs ≡ []) (let z : n + 0 ≡ n = omega arith in z)
      (subst (λ x. round w x (n + 0) cs ≡ []) (final-nil w s)
      (subst (λ (t : List Entry). round w (final w s t) (n + length t) cs ≡ []) none rest)))
      k (omega arith)

  -- what was made, and what is left of the round from here
  pub round_more : (order : List CpuId) (i : ℕ) (d : CpuId) (s : State) (es : List Entry) → i < length order
      → (es ++ turn w s (length es) (get_or order i d)) ++ round w (final w s (turn w s (length es) (get_or order i d))) (length (es ++ turn w s (length es) (get_or order i d))) (drop (i + 1) order)
      ≡ es ++ round w s (length es) (drop i order)
  round_more order i d s es h =
      let t = turn w s (length es) (get_or order i d) in
      append_assoc es t (round w (final w s t) (length (es ++ t)) (drop (i + 1) order))
      ∙ ap (λ k. es ++ (t ++ round w (final w s t) k (drop (i + 1) order))) (length-append es t)
      ∙ ap (λ (xs : List Entry). es ++ xs) (sym (round-cons s (length es) (get_or order i d) (drop (i + 1) order)))
      ∙ ap (λ (cs : List CpuId). es ++ round w s (length es) cs) (sym (drop_more order i d h))

  pub rounds-zero : (orders : ℕ → List CpuId) → rounds w orders 0 ≡ []
  unfolding rounds
  rounds-zero orders = refl

  pub rounds-more : (orders : ℕ → List CpuId) (k : ℕ) → rounds w orders (suc k) ≡ rounds w orders k ++ round_after w (orders k) (rounds w orders k)
  unfolding rounds
  rounds-more orders k = refl
