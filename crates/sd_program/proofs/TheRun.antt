-- A complete legal run, and what holds of it.
use Rattle.std.proofs.Common.{◌≡◌, ℕ, ◌<◌, ◌≤◌, ◌^◌, List, [], ◌∷◌, ◌++◌, length, take, drop, append_assoc, refl, sym, ap, subst, ◌∙◌, arith}
use Rattle.std.specs.List.{Contains}
use Rattle.std.proofs.lemmas.List.{take-append-drop}
use Rattle.sd_types.specs.declared.events.Entry.{Entry}
use Rattle.sd_types.specs.declared.works.Work.{Work}
use Rattle.sd_machine.specs.Cycles.{IsCycle}
use Rattle.sd_machine.specs.Listing.{ListsCycles}
use Rattle.sd_state.specs.Opening.{opening}
use Rattle.sd_state.specs.declared.states.State.{State}
use Rattle.sd_machine.specs.LockGraph.{graph, cycles_of}
use Rattle.sd_machine.specs.Runs.{state_at, IsComplete, IsRun, IsReached, final_state}
use Rattle.sd_machine.proofs.RunLemmas.{IsRun-from, from-IsRun, IsRunFrom-front}
use Rattle.sd_invariants.proofs.Complete.{complete_at_limit}
use Rattle.sd_laws.proofs.All.{threads_belong}
use Rattle.sd_laws.proofs.Marks.{marks_stand}
use Rattle.sd_laws.proofs.OnePlace.{one_place}
use Rattle.sd_laws.proofs.Runs.{cycles_law, maxima_law, without_law}
use Rattle.sd_laws.proofs.Runnable.{runnable_law}
use Rattle.std.specs.List.{All}
use Rattle.sd_program.specs.Certified.{HasBytes}
use Rattle.sd_program.proofs.HintLemmas.{run_journal}
use Rattle.sd_machine.proofs.CycleLemmas.{lists_cycles}
use Rattle.sd_accounts.proofs.StateGraphs.{waits_inside}
use Rattle.sd_program.specs.declared.forms.Mode.{Mode}
use Rattle.sd_hand.specs.OneHome.{StandsInHomes}
use Rattle.sd_program.specs.TheRun.{Goes, WokenStayRunnableIn, IsTheRun, IsCycleFree}

-- a run leads to its final state
reached_end : (w : Work) (es : List Entry) → IsRun w es → IsReached w (length es) (final_state w es)
reached_end w es run = record { entries = es; run = run; many = refl; ends = refl }

run_front : (w : Work) (es fs : List Entry) → IsRun w (es ++ fs) → IsRun w es
run_front w es fs run = from-IsRun w es (IsRunFrom-front w (opening w) 0 es fs (IsRun-from w (es ++ fs) run))

run_split : (w : Work) (es : List Entry) (k : ℕ) → IsRun w es → IsRun w (take k es ++ drop k es)
run_split w es k run = subst (λ (xs : List Entry). IsRun w xs) (sym (take-append-drop k es)) run

-- and its first entries to the states on the way
reached_at : (w : Work) (es : List Entry) (k : ℕ) → IsRun w es → IsReached w (length (take k es)) (state_at w es k)
reached_at w es k run = reached_end w (take k es) (run_front w (take k es) (drop k es) (run_split w es k run))

-- woken threads, on the way
woken_on : (w : Work) (es : List Entry) → IsRun w es → WokenStayRunnableIn w es
woken_on w es run before more rest e t is wakes none =
    let parts : before ++ e ∷ (more ++ rest) ≡ (before ++ e ∷ more) ++ rest = sym (append_assoc before (e ∷ more) rest) in
    runnable_law w before more e t (run_front w (before ++ e ∷ more) rest (subst (λ (xs : List Entry). IsRun w xs) (is ∙ parts) run)) wakes none

pub is_the_run : (w : Work) (mode : Mode) (es : List Entry) → length es < 2 ^ 40 → Goes w mode es → IsRun w es → IsComplete w (final_state w es) → All HasBytes es
    → ((k : ℕ) → k ≤ length es → StandsInHomes k (state_at w es k)) → IsTheRun w mode es
is_the_run w mode es short goes run complete bytes homes = record {
  goes = goes;
  run = run;
  complete = complete;
  limit = complete_at_limit w (length es) (final_state w es) (reached_end w es run) complete;
  places = λ k. one_place w (length (take k es)) (state_at w es k) (reached_at w es k run);
  homes = homes;
  belong = λ k. threads_belong w (length (take k es)) (state_at w es k) (reached_at w es k run);
  marks = λ k. marks_stand w (length (take k es)) (state_at w es k) (reached_at w es k run);
  woken = woken_on w es run;
  priorities = λ k. maxima_law w (length (take k es)) (state_at w es k) (reached_at w es k run);
  certified = run_journal w es run complete bytes short;
}

cycles_listed : (s : State) → ListsCycles (graph s) (cycles_of s)
unfolding cycles_of
cycles_listed s = lists_cycles (graph s) (length s.threads) (waits_inside s)

-- a cycle of a state would be one of the final state
no_cycle : (s r : State) → ((ts : List ℕ) → IsCycle (graph s) ts → IsCycle (graph r) ts) → cycles_of r ≡ [] → cycles_of s ≡ []
no_cycle s r stay none = by (cycles_of s) refl
  where
    in_none : (ts : List ℕ) → Contains {X = List ℕ} [] ts → ⊥
    in_none ts h = let inside = h.1 in absurd (omega (arith, inside))

    by : (xs : List (List ℕ)) → cycles_of s ≡ xs → xs ≡ []
    by [] e = refl
    by (ts ∷ xs) e =
        let here : Contains (cycles_of s) ts = subst (λ ys. Contains ys ts) (sym e) (0, omega arith, refl) in
        let found = ((cycles_listed s).listed ts).0 here in
        let there = ((cycles_listed r).listed ts).1 (stay ts found.0, found.1) in
        absurd (in_none ts (subst (λ ys. Contains ys ts) none there))

final_split : (w : Work) (es : List Entry) (k : ℕ) → final_state w (take k es ++ drop k es) ≡ final_state w es
final_split w es k = ap (final_state w) (take-append-drop k es)

pub is_open : (w : Work) (es : List Entry) → IsRun w es → cycles_of (final_state w es) ≡ [] → IsCycleFree w es
is_open w es run none = record {
  cycles = λ k.
      no_cycle (state_at w es k) (final_state w (take k es ++ drop k es)) (λ ts is. cycles_law w (take k es) (drop k es) ts (run_split w es k run) is)
      (ap cycles_of (final_split w es k) ∙ none);
  maxima = λ k still o. without_law w (take k es) (drop k es) (run_split w es k run) (ap cycles_of (final_split w es k) ∙ none) still o;
}
