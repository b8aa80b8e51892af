-- The least of responses, one after another.
use Rattle.std.proofs.Common.{◌≡◌, ℕ, List, [], ◌∷◌, Option, length, sym, ap, ◌∙◌, arith}
use Rattle.sd_statistics.specs.declared.spans.Span.{Span}
use Rattle.sd_statistics.specs.Spans.{ticks_of}
use Rattle.sd_deadlines.specs.TaskTable.{least_from, lesser}

pub least_more : (best next all : Option ℕ) (x : Span) (left rest : List Span) → left ≡ x ∷ rest → least_from best left ≡ all → next ≡ lesser best (ticks_of x)
    → least_from next rest ≡ all
least_more best next all x left rest now so_far is = ap (λ b. least_from b rest) is ∙ ap (least_from best) (sym now) ∙ so_far

pub least_all : (best all : Option ℕ) (left : List Span) → length left ≡ 0 → least_from best left ≡ all → best ≡ all
least_all best all [] none so_far = so_far
least_all best all (x ∷ xs) none so_far = absurd (omega (arith, none))
