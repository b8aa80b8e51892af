use Rattle.std.proofs.Common.{◌≡◌, ◌++◌, List, ℕ, sym, ap, subst, ◌∙◌}
use Rattle.sd_text.specs.Lines.{EndsLine}
use Rattle.sd_text.proofs.PieceLemmas.{EndsLine-append}
use Rattle.sd_state.specs.Texts.{accounts_text}
use Rattle.sd_machine.specs.Texts.{cycles_text}
use Rattle.sd_answers.specs.StreamChanges.{Puts}
use Rattle.sd_answers.proofs.PutLemmas.{Puts-memory, Puts-exit}
use Rattle.sd_program.proofs.ClosingLemmas.{accounts-ends, cycles-ends}
use Rattle.sd_program.proofs.writing.put_accounts.Goals as goal

pub returns-in_err-write_accounts_with : goal.returns-in_err-write_accounts_with
returns-in_err-write_accounts_with g c es taken = Puts-exit _ _ _ _ _ _ _ c.from_residual.ensures.1 (Puts-memory _ _ _)

pub put_text-requires : goal.put_text-requires
put_text-requires g c =
    let w = c.args.work.now in
    let es = c.requires.taken.0 in
    let s = c.args.s.now in
    let accounts = accounts_text w es s ++ cycles_text w s in
    let text = c.deref.ensures.value ∙ c.in_ok-write_accounts_with.ensures.ok es c.requires.taken.1 ∙ ap (λ (xs : List ℕ). xs ++ accounts) c.new-text.ensures.items in
    subst EndsLine (sym text) (EndsLine-append (accounts_text w es s) (cycles_text w s) (accounts-ends w es s) (cycles-ends w s))

pub returns : goal.returns
returns g c es taken =
    let held = g.K.Sink.contents in
    let faults = g.K.Sink.fault_count in
    let o = c.args.out.now in
    let p = c.put_text.new.out in
    let w = c.args.work.now in
    let s = c.args.s.now in
    let accounts = accounts_text w es s ++ cycles_text w s in
    let text : c.deref.result.now ≡ accounts =
    c.deref.ensures.value ∙ c.in_ok-write_accounts_with.ensures.ok es taken ∙ ap (λ (xs : List ℕ). xs ++ accounts) c.new-text.ensures.items in
    subst (λ (xs : List ℕ). Puts (held o) (held p) (faults o) (faults p) xs c.put_text.result) text c.put_text.ensures.puts
