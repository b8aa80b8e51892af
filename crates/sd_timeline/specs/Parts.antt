-- The parts of which texts are put together.
-- Source: this project's own.
use Rattle.std.specs.Prelude.{ℕ, List, decimal}
use Rattle.sd_timeline.specs.declared.parts.Part.{Part}
use Rattle.sd_timeline.specs.declared.parts.Part.TheVariants.{Text, Number}

abbrev pub part_text : Part → List ℕ
part_text (Text text) = text.now
part_text (Number n) = decimal n
