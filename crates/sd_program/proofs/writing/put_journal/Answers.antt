use Rattle.std.proofs.Common.{◌++◌, subst}
use Rattle.sd_state.specs.Opening.{opening}
use Rattle.sd_state.specs.Texts.{accounts_text}
use Rattle.sd_machine.specs.Runs.{final}
use Rattle.sd_machine.specs.Texts.{entries_text, cycles_text, journal}
use Rattle.sd_answers.specs.StreamChanges.{Puts}
use Rattle.sd_answers.proofs.PutLemmas.{Puts-then, Puts-err, Puts-exit, Puts-memory}
use Rattle.sd_program.proofs.writing.put_journal.Goals as goal

pub returns-in_err-accounts : goal.returns-in_err-accounts
unfolding journal
returns-in_err-accounts g c = Puts-exit _ _ _ _ _ _ _ c.from_residual.ensures.1 (Puts-memory _ _ _)

pub put_accounts-requires-clause-taken : goal.put_accounts-requires-clause-taken
put_accounts-requires-clause-taken g c = (c.args.entries.now.items, c.in_ok-put_entries.ensures.counted)

pub returns-in_err-put_entries : goal.returns-in_err-put_entries
unfolding journal
returns-in_err-put_entries g c =
    let held = g.K.Sink.contents in
    let faults = g.K.Sink.fault_count in
    let o = c.args.out.now in
    let p = c.put_entries.new.out in
    let w = c.args.work.now in
    let es = c.args.entries.now.items in
    let s = final w (opening w) es in
    Puts-exit _ _ _ _ _ _ _ c.from_residual-in_err-put_entries.ensures.1
    (Puts-err (held o) (held p) (held p) (faults o) (faults p) (faults p) (entries_text w es) (accounts_text w es s ++ cycles_text w s) _ c.in_err-put_entries.ensures.puts)

pub returns : goal.returns
unfolding journal
returns g c =
    let held = g.K.Sink.contents in
    let faults = g.K.Sink.fault_count in
    let o = c.args.out.now in
    let p = c.put_entries.new.out in
    let q = c.put_accounts.new.out in
    let w = c.args.work.now in
    let es = c.args.entries.now.items in
    let s = final w (opening w) es in
    Puts-then (held o) (held p) (held q) (faults o) (faults p) (faults q) (entries_text w es) (accounts_text w es s ++ cycles_text w s) c.put_accounts.result c.in_ok-put_entries.ensures.puts
    (subst (λ x. Puts (held p) (held q) (faults p) (faults q) (accounts_text w es x ++ cycles_text w x) c.put_accounts.result) c.requires.state (c.put_accounts.ensures es c.in_ok-put_entries.ensures.counted))
