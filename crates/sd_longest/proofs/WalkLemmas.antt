-- The way back from the end of a wait to the edge that opened it.
use Rattle.std.proofs.Common.{◌≡◌, ℕ, ◌-◌, ◌<◌, ◌≤◌, List, [], ◌∷◌, ◌++◌, map, Option, Some, refl, sym, ap, ◌∙◌, subst, arith}
use Rattle.std.specs.Prelude.{reverse}
use Rattle.std.proofs.lemmas.List.{reverse-append}
use Rattle.sd_types.specs.declared.numbers.CpuId.{CpuId}
use Rattle.sd_longest.specs.declared.edges.Edge.{Edge}
use Rattle.sd_longest.specs.declared.edges.Effect.TheVariants.{Ends}
use Rattle.sd_longest.specs.declared.labels.Label.{Label}
use Rattle.sd_longest.specs.declared.longest.Candidate.{Candidate}
use Rattle.sd_longest.specs.declared.longest.Wait.{Wait}
use Rattle.sd_longest.specs.Candidates.{IsCandidate}
use Rattle.sd_longest.specs.Edges.{IsEdge, IsFound, Lead}
use Rattle.sd_longest.specs.Labels.{IsLabelled, IsLabelling}
use Rattle.sd_longest.proofs.LabelLemmas.{opened_there, passed_there}

module _ (rows : List (List Edge)) (labels : List (Option Label)) where
  -- from a state with this label the turns of these processors lead to the end of its wait of so many ticks
  pub record IsTail (i : ℕ) (l : Label) (cs : List CpuId) (n : ℕ) : Type 0 where
    pub labelled : IsLabelled labels i l
    pub between : List Edge
    pub state : ℕ
    pub lead : Lead rows i between state
    pub ending : Edge
    pub ending_at : IsEdge rows state ending
    pub ends : ending.effect ≡ Ends
    pub cpus : cs ≡ map (λ e. e.cpu) between ++ ending.cpu ∷ []
    pub ticks : ending.tick - l.since ≡ n

  -- of some state
  pub record IsWayTo (l : Label) (cs : List CpuId) (n : ℕ) : Type 0 where
    pub index : ℕ
    pub tail : IsTail index l cs n

  nowhere : (i : ℕ) → Lead rows i [] i
  unfolding Lead
  nowhere i = refl

  -- one edge further back
  further : (i j : ℕ) (e : Edge) (es : List Edge) (k : ℕ) → IsEdge rows i e → (e.effect ≡ Ends → ⊥) → e.to ≡ j → Lead rows j es k → Lead rows i (e ∷ es) k
  unfolding Lead
  further i j e es k at passes to lead = (at, passes, subst (λ n. Lead rows n es k) (sym to) lead)

  pub tail_first : (c : Candidate) (l : Label) (cpus : List CpuId) → IsCandidate rows labels c → IsLabelled labels c.state l → cpus ≡ [] ++ c.cpu ∷ [] → IsTail c.state l (reverse cpus) c.ticks
  tail_first c l cpus is own one =
      let same : is.label ≡ l = same_label c.state is.label l is.labelled own in
      record {
        labelled = own;
        between = [];
        state = c.state;
        lead = nowhere c.state;
        ending = is.edge;
        ending_at = is.at;
        ends = is.ends;
        cpus = ap reverse one ∙ ap (λ (x : CpuId). x ∷ []) (sym is.cpu);
        ticks = ap (λ (x : Label). is.edge.tick - x.since) (sym same) ∙ is.ticks;
      }
    where
      same_label : (i : ℕ) (x y : Label) → IsLabelled labels i x → IsLabelled labels i y → x ≡ y
      same_label i x y a b = let both : Some (Some x) ≡ Some (Some y) = sym a ∙ b in cc

  module _ (is : IsLabelling rows labels) where
    -- the state before has a label
    pub before_there : (i : ℕ) (l : Label) → IsLabelled labels i l → 0 < l.steps → (m : Label) × IsLabelled labels l.before m
    before_there i l own some = let p = passed_there rows labels i l some (is.sourced i l own) in (p.from, p.labelled)

    same_before : (i : ℕ) (x y : Label) → IsLabelled labels i x → IsLabelled labels i y → x ≡ y
    same_before i x y a b = let both : Some (Some x) ≡ Some (Some y) = sym a ∙ b in cc

    pub fewer_steps : (i : ℕ) (l m : Label) → IsLabelled labels i l → 0 < l.steps → IsLabelled labels l.before m → m.steps < l.steps
    fewer_steps i l m own some before =
        let p = passed_there rows labels i l some (is.sourced i l own) in
        let same = ap (λ (x : Label). x.steps) (same_before l.before p.from m p.labelled before) in
        let steps = p.steps in
        omega (arith, same, steps)

    pub tail_further : (i : ℕ) (l m : Label) (old new : List CpuId) (ticks : ℕ) → 0 < l.steps → IsLabelled labels l.before m → new ≡ old ++ l.cpu ∷ [] → IsTail i l (reverse old) ticks → IsTail l.before m (reverse new) ticks
    tail_further i l m old new ticks some before more t =
        let p = passed_there rows labels i l some (is.sourced i l t.labelled) in
        let same = same_before l.before p.from m p.labelled before in
        let since : m.since ≡ l.since = ap (λ (x : Label). x.since) (sym same) ∙ p.since in
        record {
          labelled = before;
          between = p.edge ∷ t.between;
          state = t.state;
          lead = further l.before i p.edge t.between t.state p.at p.passes p.to t.lead;
          ending = t.ending;
          ending_at = t.ending_at;
          ends = t.ends;
          cpus = ap reverse more ∙ reverse-append old (l.cpu ∷ []) ∙ ap (λ (xs : List CpuId). l.cpu ∷ xs) t.cpus ∙ ap (λ (x : CpuId). x ∷ (map (λ e. e.cpu) t.between ++ t.ending.cpu ∷ [])) (sym p.cpu);
          ticks = ap (λ n. t.ending.tick - n) since ∙ t.ticks;
        }

    -- the edge that opened the wait
    pub whole : (i : ℕ) (l : Label) (old all : List CpuId) (x : Wait) → l.steps ≤ 0 → all ≡ old ++ l.cpu ∷ [] → x.cpus.items ≡ reverse all → x.from ≡ l.before → IsTail i l (reverse old) x.ticks → IsFound rows x
    whole i l old all x none more turned from t =
        let o = opened_there rows labels i l none (is.sourced i l t.labelled) in
        record {
          opening = o.edge;
          between = t.between;
          ending = t.ending;
          wait = record {
            opening_at = subst (λ n. IsEdge rows n o.edge) (sym from) o.at;
            opens = o.opens;
            state = t.state;
            lead = subst (λ n. Lead rows n t.between t.state) (sym o.to) t.lead;
            ending_at = t.ending_at;
            ends = t.ends;
          };
          cpus = turned ∙ ap reverse more ∙ reverse-append old (l.cpu ∷ []) ∙ ap (λ (xs : List CpuId). l.cpu ∷ xs) t.cpus ∙ ap (λ (y : CpuId). y ∷ (map (λ e. e.cpu) t.between ++ t.ending.cpu ∷ [])) (sym o.cpu);
          ticks = ap (λ n. t.ending.tick - n) o.tick ∙ t.ticks;
        }
