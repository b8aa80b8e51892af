use Rattle.std.proofs.Common.{◌≡◌, ◌++◌, Some, slice_get, sym, ap, ◌∙◌, subst}
use Rattle.std.proofs.lemmas.Option.{slice_get-get_or}
use Rattle.sd_state.specs.Opening.{first_threads}
use Rattle.sd_opening.proofs.start.first_threads.Goals as goal

pub loop-t-init : goal.loop-t-init
loop-t-init c =
    (ap (λ xs. xs ++ first_threads c.args.work.now 0 c.items-decls.result.now) c.new-threads.ensures.items, c.new-dealing.ensures c.args.work.now)

pub pass-requires-clause-there : goal.pass-requires-clause-there
pass-requires-clause-there c =
    let ds = c.items-decls.result.now in
    let d = c.index-decls-t-in-loop-t.result in
    subst (λ xs. slice_get xs c.loop-t.t ≡ Some d) c.items-decls.ensures
    (slice_get-get_or ds c.loop-t.t d c.loop-t-test.true ∙ ap Some (sym c.index-decls-t-in-loop-t.is))
