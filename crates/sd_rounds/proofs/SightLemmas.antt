-- What one look at the home of a processor tells of its plan.
use Rattle.std.proofs.Common.{◌≡◌, ◌⊎◌, inl, inr, ℕ, ◌==◌, ◌&&◌, ◌||◌, false, not, List, [], ◌∷◌, length, Some, None, option_map, slice_get, is_some, refl, sym, ap, ◌∙◌, if◌then◌else◌, true, Option, subst}
use Rattle.std.proofs.lemmas.Bool.{eq-eqb}
use Rattle.sd_types.specs.declared.events.Duty.TheVariants.{Age, Nothing}
use Rattle.sd_types.specs.declared.events.Event.TheVariants.{Tick}
use Rattle.sd_types.specs.declared.bodies.ThreadBody.{ThreadBody}
use Rattle.sd_types.specs.declared.numbers.SetId.{SetId}
use Rattle.sd_types.specs.declared.numbers.ThreadId.{ThreadId}
use Rattle.sd_types.specs.declared.numbers.HomeId.TheVariants.{Cpu}
use Rattle.sd_types.specs.declared.scripts.Op.TheVariants.{Run}
use Rattle.sd_types.specs.declared.works.Work.{Work}
use Rattle.sd_state.specs.declared.states.CpuState.{CpuState}
use Rattle.sd_state.specs.declared.states.State.{State}
use Rattle.sd_state.specs.Operations.{op_of}
use Rattle.sd_state.specs.States.{cpu_of, thread_of}
use Rattle.sd_machine.specs.declared.plans.Plan.{Plan}
use Rattle.sd_machine.specs.declared.plans.Plan.TheVariants.{Make, Search}
use Rattle.sd_machine.specs.Dispatching.{dispatch_plan, leave_event, leave_plan}
use Rattle.sd_machine.specs.Plans.{ageing_plan, ageing_plan_of, cpu_plan, cpu_plan_of, duty_plan, duty_plan_of, first_of, free_plan_of, nap_plan, op_plan, or_plan, plan, run_plan, run_plan_of}
use Rattle.sd_machine.specs.Prioritising.{age_plan}
use Rattle.sd_machine.specs.Sleeping.{napend_plan}
use Rattle.sd_machine.specs.Threads.{best_queued, best_ready, first_due, is_sys, next_to_age, open_of, runner}
use Rattle.sd_record.specs.Records.{ThreadRecord}
use Rattle.sd_rules.specs.ClassRules.{class_expires}
use Rattle.sd_boxq.specs.Order.{find_id}
use Rattle.sd_homes.specs.declared.list_id.ListId.TheVariants.{Naps, Queues, Runs, Urgent}
use Rattle.sd_homes.specs.Standing.{better, due_of_first, id_of, record_of}
use Rattle.sd_homes.specs.declared.home.Home.{Home}
use Rattle.sd_homes.specs.Families.{list_in, open_in, taken_from, view_in}
use Rattle.sd_store.specs.declared.parts.CpuView.{CpuView}
use Rattle.sd_store.specs.Parts.{view_of}
use Rattle.sd_hand.specs.declared.acting.Acting.{Acting}
use Rattle.sd_hand.specs.Acting.{IsShown}
use Rattle.sd_hand.specs.Hands.{held}
use Rattle.sd_hand.proofs.GuideLemmas.{stands_guessed}
use Rattle.sd_hand.proofs.TellLemmas.{due_told, found_record, open_told, queued_told, ready_told, runner_told, view_is}
use Rattle.sd_rounds.specs.declared.sight.Sight.{Sight}
use Rattle.sd_rounds.specs.declared.sight.Sight.TheVariants as sight
use Rattle.sd_rounds.specs.Searched.{HasNothing, HasNoUrgent, IsSearched, all_show_zero}
use Rattle.sd_rounds.specs.declared.sight.Searched.{Searched}
use Rattle.sd_rounds.specs.Sights.{FindsNoUrgent, FindsNothing, Sees, SeesQuiet, SeesRunner, noted}
use Rattle.sd_rounds.proofs.SearchedLemmas.{none_ready, none_urgent}

-- a processor without a duty and without a nap that is over
quiet_plan : (w : Work) (s : State) (c : ℕ) → (cpu_of s c).duty ≡ Nothing → first_due s c ≡ None → plan w s c ≡ cpu_plan w s c
unfolding plan duty_plan nap_plan ageing_plan
quiet_plan w s c duty due =
    ap (λ d. or_plan (first_of (duty_plan_of w s d) (first_of (napend_plan w s (first_due s c)) (ageing_plan_of w s c d))) (cpu_plan w s c)) duty
    ∙ ap (λ o. or_plan (first_of None (first_of (napend_plan w s o) None)) (cpu_plan w s c)) due

pub same_plan : (p q : Plan) (o : Option Plan) → Some p ≡ o → o ≡ Some q → p ≡ q
same_plan p q o e f = let same : Some p ≡ Some q = e ∙ f in cc

-- one that is to age a thread of its queue
pub ages_next : (w : Work) (s : State) (c : ℕ) (u t : ThreadId) → (cpu_of s c).duty ≡ Age u → first_due s c ≡ None → next_to_age s c u.0 ≡ Some t.0 → age_plan w s (Some t.0) ≡ Some (plan w s c)
unfolding plan duty_plan nap_plan ageing_plan
ages_next w s c u t duty due next =
    sym (ap Some (
    ap (λ d. or_plan (first_of (duty_plan_of w s d) (first_of (napend_plan w s (first_due s c)) (ageing_plan_of w s c d))) (cpu_plan w s c)) duty
    ∙ ap (λ o. or_plan (first_of None (first_of (napend_plan w s o) (age_plan w s (next_to_age s c u.0)))) (cpu_plan w s c)) due
    ∙ ap (λ o. or_plan (first_of None (first_of None (age_plan w s o))) (cpu_plan w s c)) next))

-- with no mark the running thread stays
stays : (c t : ℕ) (x : CpuState) (b : ThreadBody) → x.user ≡ false → x.kernel ≡ false → leave_plan c x t b ≡ None
stays c t x b user kernel =
    ap (λ k. if (k || (x.user && not (is_sys b.class) && (length b.held.items == 0))) then Some (Make (leave_event c t b b.bound)) else None) kernel
    ∙ ap (λ u. if (u && not (is_sys b.class) && (length b.held.items == 0)) then Some (Make (leave_event c t b b.bound)) else None) user

acts_on : (w : Work) (s : State) (c t : ℕ) → runner s c ≡ Some t → (cpu_of s c).user ≡ false → (cpu_of s c).kernel ≡ false → cpu_plan w s c ≡ op_plan w s t (op_of w t (thread_of s t).body)
unfolding cpu_plan
acts_on w s c t runs user kernel = ap (cpu_plan_of w s c) runs ∙ ap (run_plan_of w s t) (stays c t (cpu_of s c) (thread_of s t).body user kernel)

decides : (w : Work) (s : State) (c t : ℕ) → runner s c ≡ Some t → cpu_plan w s c ≡ run_plan w s c t
unfolding cpu_plan
decides w s c t runs = ap (cpu_plan_of w s c) runs

runs_on : (w : Work) (s : State) (c t n : ℕ) → runner s c ≡ Some t → (cpu_of s c).user ≡ false → (cpu_of s c).kernel ≡ false → op_of w t (thread_of s t).body ≡ Some (Run n)
    → cpu_plan w s c ≡ Make (Tick (record { 0 = t }))
unfolding op_plan
runs_on w s c t n runs user kernel op = acts_on w s c t runs user kernel ∙ ap (op_plan w s t) op

frees : (w : Work) (s : State) (c : ℕ) → runner s c ≡ None → (cpu_of s c).closing ≡ None → cpu_plan w s c ≡ dispatch_plan s (best_ready s c)
unfolding cpu_plan
frees w s c runs closing = ap (cpu_plan_of w s c) runs ∙ ap (free_plan_of s c) closing

searches : (w : Work) (s : State) (c : ℕ) → runner s c ≡ None → (cpu_of s c).closing ≡ None → best_ready s c ≡ None → cpu_plan w s c ≡ Search
searches w s c runs closing ready = frees w s c runs closing ∙ ap (dispatch_plan s) ready

first_found : (r : ThreadRecord) (rs : List ThreadRecord) → slice_get rs 0 ≡ Some r → find_id id_of (id_of r) rs ≡ Some r
first_found r [] e = absurd cc
first_found r (q ∷ rs) e = let same : q ≡ r = cc in rw (ap (λ z. id_of z == id_of r) same ∙ eq-eqb (id_of r) (id_of r) refl) e

-- a look at a thread that runs tells nothing of a search
pub runner_noted : (w : Work) (v : CpuView) (r : ThreadRecord) (known : Option Searched) (seen : Sight) → SeesRunner w v r seen → known ≡ noted known seen
runner_noted w v r known (sight.Runs t expires) f = refl
runner_noted w v r known (sight.Acts t) f = refl
runner_noted w v r known (sight.Marked t) f = refl
runner_noted w v r known (sight.Ages t) f = absurd f
runner_noted w v r known (sight.Idles found) f = absurd f
runner_noted w v r known sight.Searches f = absurd f
runner_noted w v r known sight.Ready f = absurd f
runner_noted w v r known sight.Unclear f = refl

module _ (w : Work) (x : Acting) (n : ℕ) (s : State) (h : Home) (sh : IsShown x n s) (duty : x.actor.duty ≡ Nothing) (at : held (Cpu x.actor.cpu) x.hand.slots ≡ Some h)
    (due : due_of_first x.actor.count (slice_get (list_in h (Naps x.actor.cpu)) 0) ≡ None) (v : CpuView) (view : Some v ≡ view_in h) where
  no_duty : (cpu_of s x.actor.cpu.0).duty ≡ Nothing
  no_duty = sym sh.duty ∙ duty

  none_due : first_due s x.actor.cpu.0 ≡ None
  none_due = due_told x n s h sh x.actor.cpu x.actor.count at (sym sh.count) ∙ ap (option_map id_of) due

  viewed : v ≡ view_of (cpu_of s x.actor.cpu.0)
  viewed = view_is x n s x.actor.cpu v h sh at view

  runner_body : (r : ThreadRecord) → slice_get (list_in h (Runs x.actor.cpu)) 0 ≡ Some r → (thread_of s r.id.0).body ≡ r.body
  runner_body r e =
      let there : taken_from r.id.0 (Runs x.actor.cpu) (held (Cpu x.actor.cpu) x.hand.slots) ≡ Some r = ap (taken_from r.id.0 (Runs x.actor.cpu)) at ∙ first_found r (list_in h (Runs x.actor.cpu)) e in
      let stands = stands_guessed r.id.0 (Runs x.actor.cpu) x.hand.slots (ap is_some there) in
      let same : Some r ≡ Some (record_of r.id.0 (thread_of s r.id.0)) = sym there ∙ found_record x n s sh r.id.0 (Runs x.actor.cpu) stands in
      let is : r ≡ record_of r.id.0 (thread_of s r.id.0) = cc in
      sym (ap (λ (q : ThreadRecord). q.body) is)

  pub sees_runner : (r : ThreadRecord) (seen : Sight) → slice_get (list_in h (Runs x.actor.cpu)) 0 ≡ Some r → SeesRunner w v r seen → Sees w s x.actor.cpu.0 seen
  sees_runner r (sight.Runs t expires) e f =
      let (same, user, kernel, ends, k, op) = f in
      let runs : runner s x.actor.cpu.0 ≡ Some r.id.0 = runner_told x n s h sh x.actor.cpu at ∙ ap (option_map id_of) e in
      let plans = runs_on w s x.actor.cpu.0 r.id.0 k runs (ap (λ (q : CpuView). q.user) (sym viewed) ∙ user) (ap (λ (q : CpuView). q.kernel) (sym viewed) ∙ kernel)
      (ap (op_of w r.id.0) (runner_body r e) ∙ op) in
      let body : r.body ≡ (thread_of s r.id.0).body = sym (runner_body r e) in (
        no_duty,
        sym (quiet_plan w s x.actor.cpu.0 no_duty none_due ∙ plans ∙ ap (λ u. Make (Tick u)) (sym same)),
        ends ∙ ap (λ (b : ThreadBody). class_expires b.class) body ∙ ap (λ (u : ThreadId). class_expires (thread_of s u.0).body.class) (sym same),
      )
  sees_runner r (sight.Acts t) e f =
      let (same, user, kernel) = f in
      let runs : runner s x.actor.cpu.0 ≡ Some r.id.0 = runner_told x n s h sh x.actor.cpu at ∙ ap (option_map id_of) e in
      let plans = acts_on w s x.actor.cpu.0 r.id.0 runs (ap (λ (q : CpuView). q.user) (sym viewed) ∙ user) (ap (λ (q : CpuView). q.kernel) (sym viewed) ∙ kernel) in
      sym (quiet_plan w s x.actor.cpu.0 no_duty none_due ∙ plans ∙ ap (λ (u : ThreadId). op_plan w s u.0 (op_of w u.0 (thread_of s u.0).body)) (sym same))
  sees_runner r (sight.Marked t) e f =
      let runs : runner s x.actor.cpu.0 ≡ Some r.id.0 = runner_told x n s h sh x.actor.cpu at ∙ ap (option_map id_of) e in
      sym (quiet_plan w s x.actor.cpu.0 no_duty none_due ∙ decides w s x.actor.cpu.0 r.id.0 runs ∙ ap (λ (u : ThreadId). run_plan w s x.actor.cpu.0 u.0) (sym f))
  sees_runner r (sight.Ages t) e f = absurd f
  sees_runner r (sight.Idles found) e f = absurd f
  sees_runner r sight.Searches e f = absurd f
  sees_runner r sight.Ready e f = absurd f
  sees_runner r sight.Unclear e f = tt

  -- nobody is ready where nobody stands in the queue, nor in the real-time queue of the set
  none_is_ready : (set : SetId) → (cpu_of s x.actor.cpu.0).set ≡ set → slice_get (list_in h (Queues x.actor.cpu)) 0 ≡ None → FindsNoUrgent x set → best_ready s x.actor.cpu.0 ≡ None
  none_is_ready set its queue f =
      ready_told x n s h sh x.actor.cpu set f.home at f.there its
      ∙ (ap (λ o. option_map id_of (better o (slice_get (list_in f.home (Urgent set)) 0))) queue ∙ ap (option_map id_of) f.urgent)

  module _ (found : Searched) (its : found.set ≡ v.set) (queue : slice_get (list_in h (Queues x.actor.cpu)) 0 ≡ None) where
    is_set : (cpu_of s x.actor.cpu.0).set ≡ found.set
    is_set = ap (λ (q : CpuView). q.set) (sym viewed) ∙ sym its

    queued : best_queued s x.actor.cpu.0 ≡ None
    queued = queued_told x n s h sh x.actor.cpu at ∙ ap (option_map id_of) queue

    -- what a search finds of the state
    nothing_found : FindsNothing x found → HasNothing s found
    nothing_found f =
        let ready = none_is_ready found.set is_set queue (record { home = f.home; there = f.there; urgent = f.urgent }) in
        let opened : open_in f.home ≡ open_of s found.set.0 = sym (open_told x n s f.home sh found.set f.there) in
        record {
          zero = subst (λ cs. all_show_zero s cs ≡ true) opened (f.zero n s sh);
          urgent = subst (λ (q : SetId). HasNoUrgent s q.0) is_set (none_urgent s x.actor.cpu.0 ready);
          count = f.count ∙ ap length opened;
          most = f.most;
        }

    nothing : (known : Option Searched) → IsSearched s known → (known ≡ Some found) ⊎ FindsNothing x found → HasNothing s found
    nothing known is (inl same) = subst (IsSearched s) same is
    nothing known is (inr f) = nothing_found f

    ready : HasNothing s found → best_ready s x.actor.cpu.0 ≡ None
    ready none = none_ready s x.actor.cpu.0 found.set is_set queued none.urgent

  pub sees_quiet : (known : Option Searched) (seen : Sight) → slice_get (list_in h (Runs x.actor.cpu)) 0 ≡ None → SeesQuiet x h v known seen → IsSearched s known → Sees w s x.actor.cpu.0 seen
  sees_quiet known (sight.Runs t expires) e f is = absurd f
  sees_quiet known (sight.Acts t) e f is = absurd f
  sees_quiet known (sight.Marked t) e f is = absurd f
  sees_quiet known (sight.Ages t) e f is = absurd f
  sees_quiet known (sight.Idles found) e f is =
      let (its, closing, queue, known_or_found) = f in
      let runs : runner s x.actor.cpu.0 ≡ None = runner_told x n s h sh x.actor.cpu at ∙ ap (option_map id_of) e in
      let none = nothing found its queue known is known_or_found in (
        no_duty,
        sym (quiet_plan w s x.actor.cpu.0 no_duty none_due ∙ searches w s x.actor.cpu.0 runs (ap (λ (q : CpuView). q.closing) (sym viewed) ∙ closing) (ready found its queue none)),
        sym (is_set found its queue),
        ap (λ (q : CpuView). q.closing) (sym viewed) ∙ closing,
        none,
      )
  sees_quiet known sight.Searches e f is =
      let (closing, queue, urgent) = f in
      let runs : runner s x.actor.cpu.0 ≡ None = runner_told x n s h sh x.actor.cpu at ∙ ap (option_map id_of) e in
      let its : (cpu_of s x.actor.cpu.0).set ≡ v.set = ap (λ (q : CpuView). q.set) (sym viewed) in
      sym (quiet_plan w s x.actor.cpu.0 no_duty none_due ∙ searches w s x.actor.cpu.0 runs (ap (λ (q : CpuView). q.closing) (sym viewed) ∙ closing) (none_is_ready v.set its queue urgent))
  sees_quiet known sight.Ready e f is =
      let runs : runner s x.actor.cpu.0 ≡ None = runner_told x n s h sh x.actor.cpu at ∙ ap (option_map id_of) e in
      sym (quiet_plan w s x.actor.cpu.0 no_duty none_due ∙ frees w s x.actor.cpu.0 runs (ap (λ (q : CpuView). q.closing) (sym viewed) ∙ f))
  sees_quiet known sight.Unclear e f is = tt
