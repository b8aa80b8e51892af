-- What `disptask` prints of a set. Source: this project's own.
use Rattle.std.specs.Prelude.{ℕ, Bool, true, false, List, [], ◌∷◌, ◌++◌, flat_map, codes, decimal}
use Rattle.sd_tasks.specs.Written.{Written, text_of}

-- a line, with the line of the set from which it comes as a comment
abbrev pub mapped_line : Written → List ℕ
mapped_line w = w.text ++ (codes " # " ++ (decimal w.line ++ 10 ∷ []))

abbrev pub mapped_text : List Written → List ℕ
mapped_text lines = flat_map mapped_line lines

abbrev pub printed : Bool → List Written → List ℕ
printed true lines = mapped_text lines
printed false lines = text_of lines

abbrev pub help_text : List ℕ
help_text =
    codes "disptask reads a task set, and prints the workload to which it expands:\n"
    ++ (codes "disptask [--map] [FILE] | dispsim run\n"
    ++ (codes "FILE    the set; without it the standard input is read\n"
    ++ (codes "--map   each line with the line of the set from which it comes, as a comment\n"
    ++ (codes "--help  these lines\n"
    ++ codes "Exit status: 0 printed; 1 usage; 2 refused; 3 read fault; 4 write fault; 5 out of memory\n"))))
