-- What is asked of a state does not depend on its keys beyond their order.
use Rattle.std.proofs.Common.{◌≡◌, ℕ, zero, suc, ◌<◌, not, ◌&&◌, ◌++◌, length, refl, sym, ap, ◌∙◌, subst}
use Rattle.std.specs.Prelude.{nat_lt}
use Rattle.sd_types.specs.declared.works.Work.{Work}
use Rattle.sd_machine.specs.Cycles.{ahead, cycles, cycles_below, joined, lap, none_or_one, owner_at}
use Rattle.sd_machine.specs.Graphs.{Graph}
use Rattle.sd_state.specs.declared.states.Place.{Place}
use Rattle.sd_state.specs.declared.states.Place.TheVariants.{Running, Waiting}
use Rattle.sd_state.specs.declared.states.State.{State}
use Rattle.sd_state.specs.Operations.{script_of}
use Rattle.sd_state.specs.States.{thread_of}
use Rattle.sd_machine.specs.LockGraph.{cycles_of, graph, owner_of, wait_of}
use Rattle.sd_machine.specs.Runs.{IsComplete}
use Rattle.sd_encoding.specs.Order.{IsSameOrder}
use Rattle.sd_encoding.proofs.AfterLemmas.{ended_same}
use Rattle.sd_encoding.proofs.AlikeLemmas.{IsBlind, blind_place, body_same, place_alike, threads_many}
use Rattle.sd_encoding.proofs.NextLemmas.{next_same}
use Rattle.sd_encoding.proofs.SourceLemmas.{AreAlike}
use Rattle.sd_encoding.proofs.TellLemmas.{lock_same}
use Rattle.sd_search.specs.declared.questions.Question.{Question}
use Rattle.sd_search.specs.declared.questions.Question.TheVariants.{Blocked, Stuck}
use Rattle.sd_search.specs.Questions.{HasPart, IsBlocked, IsStuck, Meets, is_left}

-- ---- blocking cycles

ahead_blind : (g : Graph) → IsBlind (λ p. owner_at g (wait_of p))
ahead_blind g (Running c) = refl
ahead_blind g _ = refl

module _ (x s : State) (h : IsSameOrder x s) where
  owner_same : (p : Place) → owner_at (graph x) (wait_of p) ≡ owner_at (graph s) (wait_of p)
  owner_same (Waiting l side key) = ap owner_of (lock_same x s h l.0)
  owner_same p = refl

  ahead_same : (t : ℕ) → ahead (graph x) t ≡ ahead (graph s) t
  ahead_same t =
      owner_same (thread_of x t).place
      ∙ blind_place (λ p. owner_at (graph s) (wait_of p)) (ahead_blind (graph s)) (thread_of x t).place (thread_of s t).place (place_alike x s h.bare t)

  lap_same : (first n t : ℕ) → lap (graph x) first n t ≡ lap (graph s) first n t
  unfolding lap
  lap_same first zero t = refl
  lap_same first (suc n) t = λ i. joined first t (ahead_same t i) (λ u. lap_same first n u i)

  below_same : (count k : ℕ) → cycles_below (graph x) count k ≡ cycles_below (graph s) count k
  unfolding cycles_below
  below_same count zero = refl
  below_same count (suc k) = λ i. below_same count k i ++ none_or_one (lap_same k count k i)

  pub cycles_same : cycles_of x ≡ cycles_of s
  unfolding cycles_of
  cycles_same = below_same (length x.threads) (length x.threads) ∙ ap (λ n. cycles (graph s) n) (threads_many x s h.bare)

-- ---- the questions

module _ (n m : ℕ) (x s : State) (h : AreAlike n m x s) (w : Work) where
  complete_same : IsComplete w x → IsComplete w s
  complete_same complete c hints = sym (next_same n m x s h w c hints) ∙ complete c hints

  blocked_same : IsBlocked x → IsBlocked s
  blocked_same blocked none = blocked (cycles_same x s h.same ∙ none)

  left_same : (t : ℕ) → is_left w t (thread_of x t) ≡ is_left w t (thread_of s t)
  left_same t = λ i. nat_lt (body_same x s h.same.bare t i).op (length (script_of w t)) && not (ended_same n m x s h t i)

  stuck_same : IsStuck w x → IsStuck w s
  stuck_same stuck = record {
    thread = stuck.thread;
    inside = subst (λ k. stuck.thread < k) (threads_many x s h.same.bare) stuck.inside;
    left = sym (left_same stuck.thread) ∙ stuck.left;
  }

  part_same : (q : Question) → HasPart w q x → HasPart w q s
  part_same Blocked part = blocked_same part
  part_same Stuck part = stuck_same part

  pub meets_same : (q : Question) → Meets w q x → Meets w q s
  meets_same q meets = record { complete = complete_same meets.complete; part = part_same q meets.part }
