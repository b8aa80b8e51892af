use Rattle.std.proofs.Common.{take}
use Rattle.sd_stretches.specs.SpinPieces.{spells_on}
use Rattle.sd_stretches.specs.declared.spin_pieces.Track.TheVariants.{Thread}
use Rattle.sd_stretches.proofs.PartLemmas.{spells_more, spells_none}
use Rattle.sd_stretches.proofs.by_thread.spell_rows.Goals as goal

pub loop-x-init : goal.loop-x-init
loop-x-init c = spells_none _ c.in_ok-rows.ensures

pub loop-x-preserved : goal.loop-x-preserved
loop-x-preserved c =
    spells_more c.args.happenings.now c.loop-x.x-index _ _ c.loop-x-test.true
    (c.in_ok-put_spell.ensures (λ t. spells_on (Thread t) (take c.loop-x.x-index c.args.happenings.now)) c.loop-x.invariant)
