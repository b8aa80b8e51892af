use Rattle.std.proofs.Common.{arith}
use Rattle.sd_types.specs.declared.works.LockKind.{LockKind}
use Rattle.sd_lines.specs.Words.{Word}
use Rattle.sd_declare.specs.Kept.{lock_kept}
use Rattle.sd_declare.proofs.PlaceLemmas.{get_kept}
use Rattle.sd_declare.proofs.lookups.lock_and_kind.Goals as goal

pub returns-clause-kind : goal.returns-clause-kind
returns-clause-kind c =
    let kept = get_kept lock_kept (λ (x : Word × LockKind). x.1) c.args.d.now.locks.items c.lock_number-number.result in
    grind (arith, kept)
