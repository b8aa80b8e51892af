use Rattle.std.proofs.Common.{◌≡◌, ℕ, List, false, sym, subst, arith}
use Rattle.std.specs.List.{list_any}
use Rattle.sd_types.specs.declared.names.Name.{Name}
use Rattle.sd_types.specs.declared.works.LockKind.{LockKind}
use Rattle.sd_types.specs.Works.{same_bytes}
use Rattle.sd_entry_reader.proofs.IndexLemmas.{name-new}
use Rattle.sd_entry_reader.proofs.indexing.lock_names.Goals as goal

pub push-requires-clause-new : goal.push-requires-clause-new
push-requires-clause-new c =
    let name = λ (d : Name × LockKind). d.0.text.items in
    let x = c.lock-item.result in
    let new = name-new name c.args.locks.now c.loop-lock.lock-index x (omega (arith, c.loop-lock-test.true)) c.lock-item.is c.requires in
    let listed = subst (λ (names : List (List ℕ)). list_any (λ n. same_bytes n (name x)) names ≡ false) (sym c.loop-lock.invariant) new in
    subst (λ (w : List ℕ). list_any (λ n. same_bytes n w) c.loop-lock.names ≡ false) (sym c.bytes.ensures) listed
