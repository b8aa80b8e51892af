-- That what was printed of a run is found legal: two calls of the program, of which one prints a run and the other audits
-- what it printed. Source: this project's own.
use Rattle.std.specs.Prelude.{◌≡◌, ℕ, ◌≤◌, List, [], ◌++◌, codes, length, Some, ◌⊎◌}
use Rattle.sd_text.specs.Lines.{lines_of, text_of_lines}
use Rattle.sd_types.specs.Limits.{most_certificate_bytes}
use Rattle.sd_answers.specs.StreamChanges.{StreamChange, HasFault}
use Rattle.sd_program.specs.declared.forms.Mode.{Mode}
use Rattle.sd_program.specs.declared.forms.Form.TheVariants.{Journal}
use Rattle.sd_program.specs.declared.forms.Command.TheVariants.{Run, Audit}
use Rattle.sd_program.specs.Forms.{command_of}
use Rattle.sd_program.specs.Headline.{KeepsPromises}

-- the last line of a text has its newline
abbrev pub HasWholeLines : List ℕ → Type 0
HasWholeLines text = text_of_lines (lines_of text) ≡ text

-- a workload's text, the line `journal` and what was printed
abbrev pub certificate_of : List ℕ → List ℕ → List ℕ
certificate_of text printed = text ++ (codes "journal\n" ++ printed)

-- One call read the text and printed the whole journal of its run into an empty output. Another call audits the text, whose last
-- line has its newline, the line `journal` and what was printed, where they have no more bytes than an audit takes. Its status is 0, out of memory and faults aside.
abbrev pub RunsAreAudited : Type 0
RunsAreAudited =
    (mode : Mode) (arguments : List (List ℕ)) (input out err : StreamChange) (status : ℕ) (text printed : List ℕ)
    → KeepsPromises arguments input out err status → command_of arguments ≡ Some (Run (Journal mode)) → (status ≡ 0) ⊎ (status ≡ 6)
    → input.before ≡ Some text → out.before ≡ Some [] → out.after ≡ Some printed
    → HasWholeLines text → length (certificate_of text printed) ≤ most_certificate_bytes
    → (asked : List (List ℕ)) (read told failed : StreamChange) (found : ℕ)
    → KeepsPromises asked read told failed found → command_of asked ≡ Some Audit
    → (HasFault read → ⊥) → (HasFault told → ⊥) → read.before ≡ Some (certificate_of text printed)
    → (found ≡ 0) ⊎ (found ≡ 5)
