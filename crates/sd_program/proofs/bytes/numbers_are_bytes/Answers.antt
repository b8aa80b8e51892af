use Rattle.std.proofs.Common.{◌≡◌, ◌+◌, ◌<◌, List, [], ◌∷◌, ◌++◌, true, take, ap, sym, subst, ◌∙◌}
use Rattle.std.specs.List.{list_all}
use Rattle.std.proofs.lemmas.List.{take_more}
use Rattle.std.proofs.lemmas.Option.{get_or_from_slice_get}
use Rattle.sd_types.specs.declared.events.Entry.{Entry}
use Rattle.sd_workload.proofs.LineLemmas.{all-push}
use Rattle.sd_entries.specs.Fitting.{hints_in_range}
use Rattle.sd_program.proofs.bytes.numbers_are_bytes.Goals as goal

pub loop-i-preserved : goal.loop-i-preserved
loop-i-preserved c =
    let es = c.args.entries.now.items in
    let i = c.loop-i.i in
    let x = c.entry-entry.result in
    let p = λ (e : Entry). hints_in_range e.hints in
    let inside = subst (λ n. i < n) c.len-i-end.ensures c.loop-i-test.true in
    let one : take (i + 1) es ≡ take i es ++ x ∷ [] =
    take_more es i x inside ∙ ap (λ (y : Entry). take i es ++ y ∷ []) (get_or_from_slice_get es i x x c.entry-entry.ensures) in
    subst (λ (xs : List Entry). list_all p xs ≡ true) (sym one) (all-push p (take i es) x c.loop-i.invariant c.has_bytes.ensures)
