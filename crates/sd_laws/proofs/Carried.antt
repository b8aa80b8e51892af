-- What an entry of a run leaves true is true after the entries that follow it, as long as each of them keeps it.
use Rattle.std.proofs.Common.{◌≡◌, ℕ, zero, suc, ◌+◌, List, [], ◌∷◌, ◌++◌, length, refl, subst, arith}
use Rattle.std.specs.List.{All}
use Rattle.sd_types.specs.declared.numbers.CpuId.{CpuId}
use Rattle.sd_types.specs.declared.events.Entry.{Entry}
use Rattle.sd_types.specs.declared.events.Event.{Event}
use Rattle.sd_types.specs.declared.works.Work.{Work}
use Rattle.sd_state.specs.declared.states.State.{State}
use Rattle.sd_state.specs.Opening.{opening}
use Rattle.sd_machine.specs.Events.{after}
use Rattle.sd_machine.specs.Runs.{final, IsRun, IsRunFrom, IsReached}
use Rattle.sd_machine.proofs.RunLemmas.{final-append, IsRun-from, from-IsRun, IsRunFrom-front, IsRunFrom-rest}
use Rattle.sd_frames.specs.Causes.{IsCause}
use Rattle.sd_invariants.proofs.AgreedAfter.{IsReady}
use Rattle.sd_invariants.proofs.Ready.{ready_cause, next_ready, reached_ready}

-- P holds after each event of which Q holds, where it held before
pub record IsCarried (w : Work) (P : State → Type 0) (Q : Event → Type 0) : Type 0 where
  pub step : (s : State) (n : ℕ) (c : CpuId) (e : Event) → IsReady w s → IsCause w s c.0 e → Q e → P s → P (after w s n c e)

-- an event of a state in which P holds is one of which R holds
abbrev pub IsMet : Work → (State → Type 0) → (Event → Type 0) → Type 0
IsMet w P R = (s : State) (c : CpuId) (e : Event) → IsReady w s → IsCause w s c.0 e → P s → R e

all_rest : (Q : Event → Type 0) (x : Entry) (xs : List Entry) → All (λ y. Q y.event) (x ∷ xs) → All (λ y. Q y.event) xs
all_rest Q x xs all = λ k d inside. all (suc k) d (omega (arith, inside))

all_more : (Q : Event → Type 0) (x : Entry) (xs : List Entry) → Q x.event → All (λ y. Q y.event) xs → All (λ y. Q y.event) (x ∷ xs)
all_more Q x xs here all zero d inside = here
all_more Q x xs here all (suc k) d inside = all k d (omega (arith, inside))

all_first : (Q : Event → Type 0) (x : Entry) (xs : List Entry) → All (λ y. Q y.event) (x ∷ xs) → Q x.event
all_first Q x xs all = all 0 x (omega arith)

module _ (w : Work) (P : State → Type 0) (Q : Event → Type 0) (carried : IsCarried w P Q) where
  pub carried_from : (s : State) (n : ℕ) (es : List Entry) → IsReady w s → P s → IsRunFrom w s n es → All (λ x. Q x.event) es → P (final w s es)
  unfolding final IsRunFrom
  carried_from s n [] ready holds run all = holds
  carried_from s n (x ∷ xs) ready holds (number, step, run) all =
      carried_from (after w s x.number x.cpu x.event) (n + 1) xs (next_ready w s x.number x.cpu x.hints x.event ready step)
      (carried.step s x.number x.cpu x.event ready (ready_cause w s x.cpu x.hints x.event ready step) (all_first Q x xs all) holds) run (all_rest Q x xs all)

  pub met_from : (R : Event → Type 0) → IsMet w P R → (s : State) (n : ℕ) (es : List Entry) → IsReady w s → P s → IsRunFrom w s n es → All (λ x. Q x.event) es → All (λ x. R x.event) es
  unfolding IsRunFrom
  met_from R met s n [] ready holds run all = λ k d inside. absurd (omega (arith, inside))
  met_from R met s n (x ∷ xs) ready holds (number, step, run) all =
      let cause = ready_cause w s x.cpu x.hints x.event ready step in
      all_more R x xs (met s x.cpu x.event ready cause holds)
      (met_from R met (after w s x.number x.cpu x.event) (n + 1) xs (next_ready w s x.number x.cpu x.hints x.event ready step)
      (carried.step s x.number x.cpu x.event ready cause (all_first Q x xs all) holds) run (all_rest Q x xs all))

-- A run with an entry in it: the state before that entry, its cause there, and the run that follows.
pub record IsSplit (w : Work) (es more : List Entry) (e : Entry) : Type 0 where
  pub run : IsRun w es
  pub ready : IsReady w (final w (opening w) es)
  pub cause : IsCause w (final w (opening w) es) e.cpu.0 e.event
  pub there : IsReady w (after w (final w (opening w) es) e.number e.cpu e.event)
  pub rest : IsRunFrom w (after w (final w (opening w) es) e.number e.cpu e.event) (length es + 1) more
  pub ends : final w (opening w) (es ++ e ∷ more) ≡ final w (after w (final w (opening w) es) e.number e.cpu e.event) more

-- the state after a run
pub reached_at : (w : Work) (es : List Entry) → IsRun w es → IsReached w (length es) (final w (opening w) es)
reached_at w es run = record { entries = es; run = run; many = refl; ends = refl }

pub split : (w : Work) (es more : List Entry) (e : Entry) → IsRun w (es ++ e ∷ more) → IsSplit w es more e
unfolding final IsRunFrom
split w es more e run =
    let whole = IsRun-from w (es ++ e ∷ more) run in
    let front = IsRunFrom-front w (opening w) 0 es (e ∷ more) whole in
    let ready = reached_ready w (length es) (final w (opening w) es) (reached_at w es (from-IsRun w es front)) in
    let (number, step, rest) = IsRunFrom-rest w (opening w) 0 es (e ∷ more) whole in
    record {
      run = from-IsRun w es front;
      ready = ready;
      cause = ready_cause w (final w (opening w) es) e.cpu e.hints e.event ready step;
      there = next_ready w (final w (opening w) es) e.number e.cpu e.hints e.event ready step;
      rest = subst (λ k. IsRunFrom w (after w (final w (opening w) es) e.number e.cpu e.event) k more) (let q : 0 + length es + 1 ≡ length es + 1 = omega arith in q) rest;
      ends = final-append w (opening w) es (e ∷ more);
    }
