use Rattle.std.proofs.Common.{ℕ, sym, subst}
use Rattle.sd_answers.specs.Handing.{IsHandedOn, LeavesHeldBy}
use Rattle.sd_answers.specs.declared.answers.Answer.{Answer}
use Rattle.sd_answers.specs.StreamChanges.{change_of}
use Rattle.sd_program.specs.declared.forms.Form.TheVariants.{Journal}
use Rattle.sd_program.specs.declared.forms.Mode.TheVariants.{Threads}
use Rattle.sd_program.specs.Headline.{CausedByInput}
use Rattle.sd_program.proofs.TopLemmas.{caused_of}
use Rattle.sd_program.proofs.Promises.{promises_of}
use Rattle.sd_answers.proofs.HandingLemmas.{handed_of}
use Rattle.sd_program.proofs.top.dispsim_on_threads.Goals as goal

pub returns-clause-promises : goal.returns-clause-promises
returns-clause-promises g c arguments known =
    let left = g.S.Source.remaining in
    let read = g.S.Source.fault_count in
    let held = g.K.Sink.contents in
    let written = g.K.Sink.fault_count in
    let shown = g.E.Sink.contents in
    let failed = g.E.Sink.fault_count in
    let i = c.args.input.now in
    let j = c.run_input_on_threads.new.input in
    let o = c.args.out.now in
    let p = c.run_input_on_threads.new.out in
    let e = c.args.err.now in
    let f = c.tell.new.err in
    let input = change_of (left i) (left j) (read i) (read j) in
    let out = change_of (held o) (held p) (written o) (written p) in
    let caused = subst (λ (a : Answer). CausedByInput (Journal Threads) input out a) (sym c.of-answer.ensures) c.run_input_on_threads.ensures.caused in
    promises_of arguments input out (change_of (shown e) (shown f) (failed e) (failed f)) c.of-answer.result c.tell.result c.tell.ensures.status
    (caused_of arguments (Journal Threads) input out c.of-answer.result known caused) c.tell.ensures.told

pub returns-clause-handed_on : goal.returns-clause-handed_on
returns-clause-handed_on g c =
    let held = g.K.Sink.held_back in
    let o = c.args.out.now in
    let p = c.run_input_on_threads.new.out in
    let left = subst (λ (a : Answer). LeavesHeldBy a (held o) (held p)) (sym c.of-answer.ensures) c.run_input_on_threads.ensures.leaves in
    subst (λ (n : ℕ). IsHandedOn n (held o) (held p)) (sym c.tell.ensures.status) (handed_of c.of-answer.result (held o) (held p) left)
