use Rattle.std.proofs.Common.{◌≡◌, ◌≢◌, List, ℕ, [], ◌∷◌, Err, refl, sym, subst, ◌∙◌}
use Rattle.std.proofs.lemmas.Bool.{false≢true}
use Rattle.sd_state.specs.declared.states.State.{State}
use Rattle.sd_machine.specs.LockGraph.{cycles_of}
use Rattle.sd_answers.specs.Answers.{unwritten_answer}
use Rattle.sd_answers.specs.StreamChanges.{change_of}
use Rattle.sd_program.proofs.TopLemmas.{unwritten_of, ran_exit}
use Rattle.sd_program.proofs.TheRun.{is_open}
use Rattle.sd_answers.proofs.HandingLemmas.{leaves_exit, leaves_unwritten}
use Rattle.sd_program.proofs.running.put_finished.Goals as goal

pub returns-in_err-print_run-clause-ran : goal.returns-in_err-print_run-clause-ran
returns-in_err-print_run-clause-ran g c =
    let held = g.K.Sink.contents in
    let faults = g.K.Sink.fault_count in
    let o = c.args.out.now in
    let p = c.print_run.new.out in
    let out = change_of (held o) (held p) (faults o) (faults p) in
    let w = c.args.work.now in
    let unwritten = c.in_err-print_run.field-0.0 in
    let es = c.args.run.now.entries.items in
    let is = c.requires.run in
    ran_exit w c.args.form out c.from_residual-in_err-print_run.result (unwritten_answer unwritten) c.from_residual-in_err-print_run.ensures.1
    (unwritten_of w c.args.form out es (Err unwritten) is c.in_err-print_run.ensures.puts)

-- a list of which it is not so that it has something
nothing_in : (xs : List (List ℕ)) → (xs ≢ [] → ⊥) → xs ≡ []
nothing_in [] none = refl
nothing_in (x ∷ xs) none = absurd (none (λ e. cc))

pub returns-clause-ran : goal.returns-clause-ran
returns-clause-ran g c =
    let w = c.args.work.now in
    let es = c.args.run.now.entries.items in
    let is = c.requires.run in
    let p = c.in_ok-print_run.ensures.puts in
    let ends = c.requires.state in
    let none = nothing_in (cycles_of c.args.run.now.state) (λ some. false≢true (sym c.if-blocked.false ∙ c.is_blocked-blocked.ensures.1 some)) in
    (es, is, p.ok, p.no_fault (λ e. cc), is_open w es is.run (subst (λ (s : State). cycles_of s ≡ []) ends none))

pub returns-in_err-print_run-clause-leaves : goal.returns-in_err-print_run-clause-leaves
returns-in_err-print_run-clause-leaves g c =
    let held = g.K.Sink.held_back in
    let unwritten = c.in_err-print_run.field-0.0 in
    leaves_exit c.from_residual-in_err-print_run.result (unwritten_answer unwritten) (held c.args.out.now) (held c.print_run.new.out) c.from_residual-in_err-print_run.ensures.1
    (leaves_unwritten unwritten (held c.args.out.now) (held c.print_run.new.out) c.in_err-print_run.ensures.leaves)
