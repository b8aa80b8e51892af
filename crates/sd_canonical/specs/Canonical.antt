-- The canonical spelling of a workload: the settings, the sets, the three tables as blocks, the locks and the channels in
-- order of number, the threads, and the scripts that are not empty. Single blanks stand between the words of a line, each
-- line ends with a newline, and but for the levels of the tables' rows there is no comment.
-- Source: this project's own.
use Rattle.std.specs.Prelude.{ℕ, List, [], ◌∷◌, ◌++◌, flat_map, codes}
use Rattle.sd_types.specs.declared.numbers.CpuId.{CpuId}
use Rattle.sd_types.specs.declared.names.Name.{Name}
use Rattle.sd_types.specs.declared.works.LockKind.{LockKind}
use Rattle.sd_types.specs.declared.works.ChanKind.{ChanKind}
use Rattle.sd_types.specs.declared.works.ThreadDecl.{ThreadDecl}
use Rattle.sd_types.specs.declared.works.Work.{Work}
use Rattle.sd_lines.specs.Words.{Line}
use Rattle.sd_canonical.specs.Blocks.{tables_text}
use Rattle.sd_canonical.specs.Lines.{setting_line, set_line, lock_line, chan_line, thread_line, script_lines}

-- words with a blank before each
abbrev pub spaced : Line → List ℕ
spaced words = flat_map (λ word. 32 ∷ word) words

-- words with a blank between each two
abbrev pub words_text : Line → List ℕ
words_text [] = []
words_text (word ∷ words) = word ++ spaced words

-- the line of these words
abbrev pub line_text : Line → List ℕ
line_text words = words_text words ++ 10 ∷ []

abbrev pub lines_text : List Line → List ℕ
lines_text lines = flat_map line_text lines

abbrev pub settings_text : Work → List ℕ
settings_text w =
    line_text (setting_line (codes "cpus") w.cpus) ++ (line_text (setting_line (codes "hz") w.hz) ++ line_text (setting_line (codes "limit") w.limit))

abbrev pub set_text : Name × List CpuId → List ℕ
set_text s = line_text (set_line s)

abbrev pub lock_text : Name × LockKind → List ℕ
lock_text l = line_text (lock_line l)

abbrev pub chan_text : Name × ChanKind → List ℕ
chan_text k = line_text (chan_line k)

unfoldable pub thread_text : Work → ThreadDecl → List ℕ
thread_text w t = line_text (thread_line w t)

unfoldable pub script_text : Work → ThreadDecl → List ℕ
script_text w t = lines_text (script_lines w t.name.text.items t.script.ops)

unfoldable pub canonical : Work → List ℕ
canonical w =
    settings_text w ++ (flat_map set_text w.sets ++ (tables_text w ++ (flat_map lock_text w.locks ++ (flat_map chan_text w.chans
    ++ (flat_map (thread_text w) w.threads ++ flat_map (script_text w) w.threads)))))
