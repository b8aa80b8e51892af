-- Texts of which no line is at fault: what is declared above them, and below.
use Rattle.std.proofs.Common.{◌≡◌, ℕ, ◌+◌, true, List, [], ◌∷◌, ◌++◌, Some, None, refl, sym, ap, ◌∙◌, append_assoc}
use Rattle.sd_dispadmin.specs.TableText.{word_lines}
use Rattle.sd_lines.specs.Words.{Word, Line}
use Rattle.sd_lines.specs.Statements.{Statement, statement_of}
use Rattle.sd_declare.specs.Causes.{Causes, least}
use Rattle.sd_declare.specs.Declarations.{Declarations}
use Rattle.sd_declare.specs.Statements.{statement_causes, with_statement}
use Rattle.sd_declare.specs.Opened.{opened_by}
use Rattle.sd_workload.specs.Texts.{Block, Outside, block_of, stated_cause, stated, opened, cause_of, declared_after, block_after, judged}
use Rattle.sd_workload.proofs.ClearLemmas.{IsClear}
use Rattle.sd_workload.proofs.JudgedLemmas.{judged-on}
use Rattle.sd_canonical.specs.Canonical.{line_text}
use Rattle.sd_canonical.proofs.TextLemmas.{are_plain, line-again}

-- from these declarations and this block to those, whatever stands below
pub record Takes (text : List ℕ) (d : Declarations) (b : Block) (e : Declarations) (c : Block) : Type 0 where
  pub on : (n : ℕ) (rest : List ℕ) → (m : ℕ) × (judged n d b (word_lines (text ++ rest)) ≡ judged m e c (word_lines rest))

pub takes-nothing : (d : Declarations) (b : Block) → Takes [] d b d b
takes-nothing d b = record { on = λ n rest. (n, refl) }

pub takes-both : (s t : List ℕ) (d e f : Declarations) (b c g : Block) → Takes s d b e c → Takes t e c f g → Takes (s ++ t) d b f g
takes-both s t d e f b c g x y = record {
  on = λ n rest.
      let p = x.on n (t ++ rest) in
      let q = y.on (p.0) rest in
      (q.0, ap (λ l. judged n d b (word_lines l)) (append_assoc s t rest) ∙ p.1 ∙ q.1);
}

pub none-clear : (c : Causes) → IsClear c → least c ≡ None
none-clear c h = rw (h.syntax, h.unknown, h.twice, h.range, h.sets, h.limits) refl

-- a line outside blocks
pub takes-line : (word : Word) (words : Line) (s : Statement) (d : Declarations) → are_plain (word ∷ words) ≡ true → statement_of (word ∷ words) ≡ Some s
    → IsClear (statement_causes d s) → Takes (line_text (word ∷ words)) d Outside (with_statement d s) (block_of (opened_by d s))
unfolding cause_of declared_after block_after
takes-line word words s d plain form clear = record {
  on = λ n rest. (
    n + 1,
    judged-on n (n + 1) d (with_statement d s) Outside (block_of (opened_by d s)) (word_lines (line_text (word ∷ words) ++ rest)) (word_lines rest) (word ∷ words)
        (line-again (word ∷ words) rest plain)
        (ap (stated_cause d) form ∙ none-clear (statement_causes d s) clear)
        refl (sym (ap (stated d) form)) (sym (ap (opened d) form)),
  );
}
