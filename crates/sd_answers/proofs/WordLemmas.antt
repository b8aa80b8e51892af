-- No line of an accepted workload is the word `journal`: no line has this form, in a block or outside.
use Rattle.std.proofs.Common.{◌≡◌, ◌≢◌, ℕ, ◌+◌, ◌<◌, List, [], ◌∷◌, length, get_or, Some, None, refl, sym, ap, subst, ◌∙◌, arith}
use Rattle.std.specs.Prelude.{codes}
use Rattle.std.proofs.lemmas.List.{get_or-map, length-map}
use Rattle.std.proofs.lemmas.List.Elements.{All-from_get_or}
use Rattle.sd_types.specs.declared.numbers.ThreadId.{ThreadId}
use Rattle.sd_types.specs.declared.scripts.Op.{Op}
use Rattle.sd_types.specs.declared.works.Work.{Work}
use Rattle.sd_text.specs.Lines.{lines_of}
use Rattle.sd_text.specs.Words.{words_of}
use Rattle.sd_text.specs.Numbers.{number_of}
use Rattle.sd_dispadmin.specs.TableText.{word_lines, is_res_word}
use Rattle.sd_dispadmin.specs.declared.fault.TableFault.TheVariants.{NotANumber}
use Rattle.sd_lines.specs.declared.statements.TableClass.{TableClass}
use Rattle.sd_lines.specs.declared.statements.TableClass.TheVariants.{Ts, Fx, Rt}
use Rattle.sd_lines.specs.Words.{Line, only_word}
use Rattle.sd_lines.specs.Statements.{statement_of, setting_statement, object_statement, thread_statement}
use Rattle.sd_lines.specs.Operations.{operation_of, lock_operation, chan_operation, thread_operation}
use Rattle.sd_declare.specs.declared.causes.WorkCause.{WorkCause}
use Rattle.sd_declare.specs.declared.causes.WorkCause.TheVariants.{Syntax, Table}
use Rattle.sd_declare.specs.Declarations.{Declarations}
use Rattle.sd_workload.specs.Accepted.{Accepted}
use Rattle.sd_workload.specs.First.{above}
use Rattle.sd_workload.specs.Texts.{Block, Outside, InTable, InScript, cause_of}
use Rattle.sd_workload.proofs.FirstLemmas.{taken-back}
use Rattle.sd_answers.specs.Cuts.{HasNoJournal}

-- the words of the line
abbrev journal_line : Line
journal_line = codes "journal" ∷ []

its_words : words_of (codes "journal") ≡ journal_line
unfolding words_of
its_words = refl

outside : (d : Declarations) → cause_of d Outside journal_line ≡ Some Syntax
unfolding cause_of statement_of setting_statement object_statement thread_statement
outside d = refl

in_script : (d : Declarations) (t : ThreadId) (ops : List Op) → cause_of d (InScript t ops) journal_line ≡ Some Syntax
unfolding cause_of operation_of lock_operation chan_operation thread_operation only_word
in_script d t ops = refl

in_table : (d : Declarations) (class : TableClass) (above : List Line) → cause_of d (InTable class above) journal_line ≡ Some (Table (NotANumber (length above + 1)))
unfolding cause_of only_word is_res_word number_of
in_table d Ts above = refl
in_table d Fx above = refl
in_table d Rt above = refl

no_cause : (c : WorkCause) → Some c ≡ None → ⊥
no_cause c e = cc

refused : (d : Declarations) (b : Block) → cause_of d b journal_line ≡ None → ⊥
refused d Outside e = no_cause Syntax (sym (outside d) ∙ e)
refused d (InTable class above) e = no_cause (Table (NotANumber (length above + 1))) (sym (in_table d class above) ∙ e)
refused d (InScript t ops) e = no_cause Syntax (sym (in_script d t ops) ∙ e)

pub no_journal_line : (text : List ℕ) (w : Work) → Accepted text w → HasNoJournal text
no_journal_line text w a = All-from_get_or (λ (line : List ℕ). line ≢ codes "journal") (lines_of text) [] each
  where
    each : (i : ℕ) → i < length (lines_of text) → get_or (lines_of text) i [] ≡ codes "journal" → ⊥
    each i inside is =
        let taken = (taken-back (word_lines text) a.declares a.accepted).lines_taken i (let same = length-map (lines_of text) words_of in omega (arith, same, inside)) in
        let line : get_or (word_lines text) i [] ≡ journal_line = get_or-map words_of (lines_of text) i [] [] inside ∙ ap words_of is ∙ its_words in
        refused (above (word_lines text) i).declared (above (word_lines text) i).block
        (subst (λ (l : Line). cause_of (above (word_lines text) i).declared (above (word_lines text) i).block l ≡ None) line taken)
