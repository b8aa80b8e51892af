-- What the reader takes a line for.
use Rattle.std.specs.Prelude.{◌≡◌, [], true, false}
use Rattle.sd_dispadmin.specs.declared.resolution.Kind.{Kind}
use Rattle.sd_dispadmin.specs.declared.resolution.Kind.TheVariants.{Blank, Resolution, Row}
use Rattle.sd_dispadmin.specs.TableText.{Line, is_res_line, is_row_line, res_of_line}

abbrev pub IsKind : Kind → Line → Type 0
IsKind Blank line = line ≡ []
IsKind (Resolution res) line = (is_res_line line ≡ true) × (is_row_line line ≡ false) × (res_of_line line ≡ res)
IsKind Row line = (is_res_line line ≡ false) × (is_row_line line ≡ true)
