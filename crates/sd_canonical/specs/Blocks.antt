-- The text of the three dispatch tables of a workload, each as a block of the workload text.
-- Source: dispadmin(1M); that they come as blocks is this project's own.
use Rattle.std.specs.Prelude.{ℕ, List, ◌++◌, codes}
use Rattle.sd_types.specs.declared.works.Work.{Work}
use Rattle.sd_dispadmin.specs.TableSpelling.{ts_text, fixed_text}

abbrev pub block_text : List ℕ → List ℕ → List ℕ
block_text name table = codes "table " ++ (name ++ (codes "\n" ++ (table ++ codes "end\n")))

unfoldable pub tables_text : Work → List ℕ
tables_text w = block_text (codes "ts") (ts_text w.ts) ++ (block_text (codes "fx") (fixed_text w.fx) ++ block_text (codes "rt") (fixed_text w.rt))
