use Rattle.std.proofs.Common.{◌∷◌, []}
use Rattle.std.specs.Prelude.{◌==◌}
use Rattle.sd_stretches.proofs.PartLemmas.{if_append, same_rows}
use Rattle.sd_stretches.proofs.by_thread.put_spell.Goals as goal

pub returns-in_ok-put : goal.returns-in_ok-put
returns-in_ok-put c = λ f are. rw c.in-Spin.is (same_rows _ _ _ (λ u. if_append (c.in-Spin.t.0 == u) (f u) (_ ∷ [])) (rw c.spell_at.ensures at (c.in_ok-put.ensures f are)))
