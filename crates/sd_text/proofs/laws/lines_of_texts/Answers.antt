use Rattle.sd_text.proofs.LineLemmas.{are_lines, whole, lines_of-text}
use Rattle.sd_text.proofs.laws.lines_of_texts.Goals as goal

pub returns : goal.returns
returns c = record { lines = are_lines; text = whole; again = lines_of-text }
