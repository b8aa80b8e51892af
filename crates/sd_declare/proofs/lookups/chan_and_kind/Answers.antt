use Rattle.std.proofs.Common.{arith}
use Rattle.sd_types.specs.declared.works.ChanKind.{ChanKind}
use Rattle.sd_lines.specs.Words.{Word}
use Rattle.sd_declare.specs.Kept.{chan_kept}
use Rattle.sd_declare.proofs.PlaceLemmas.{get_kept}
use Rattle.sd_declare.proofs.lookups.chan_and_kind.Goals as goal

pub returns-clause-kind : goal.returns-clause-kind
returns-clause-kind c =
    let kept = get_kept chan_kept (λ (x : Word × ChanKind). x.1) c.args.d.now.chans.items c.chan_number-number.result in
    grind (arith, kept)
