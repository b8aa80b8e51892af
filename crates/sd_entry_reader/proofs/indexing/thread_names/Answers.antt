use Rattle.std.proofs.Common.{◌≡◌, ℕ, List, false, sym, subst, arith}
use Rattle.std.specs.List.{list_any}
use Rattle.sd_types.specs.declared.works.ThreadDecl.{ThreadDecl}
use Rattle.sd_types.specs.Works.{same_bytes}
use Rattle.sd_entry_reader.proofs.IndexLemmas.{name-new}
use Rattle.sd_entry_reader.proofs.indexing.thread_names.Goals as goal

pub push-requires-clause-new : goal.push-requires-clause-new
push-requires-clause-new c =
    let name = λ (d : ThreadDecl). d.name.text.items in
    let x = c.thread-item.result in
    let new = name-new name c.args.threads.now c.loop-thread.thread-index x (omega (arith, c.loop-thread-test.true)) c.thread-item.is c.requires in
    let listed = subst (λ (names : List (List ℕ)). list_any (λ n. same_bytes n (name x)) names ≡ false) (sym c.loop-thread.invariant) new in
    subst (λ (w : List ℕ). list_any (λ n. same_bytes n w) c.loop-thread.names ≡ false) (sym c.bytes.ensures) listed
