use Rattle.sd_text.proofs.PieceLemmas.{pieces-one_lines, pieces-text, pieces-ends, pieces-only}
use Rattle.sd_text.proofs.laws.pieces_are_lines.Goals as goal

pub returns : goal.returns
returns c = record { lines = pieces-one_lines; text = pieces-text; ends = pieces-ends; only = pieces-only }
