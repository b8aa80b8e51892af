use Rattle.std.proofs.Common.{ℕ, List, Option, None, refl, sym, ap, ◌∙◌}
use Rattle.std.specs.Prelude.{replicate, Vec}
use Rattle.std.specs.declared.alloc.Global.{Global}
use Rattle.std.proofs.lemmas.List.{length-map}
use Rattle.sd_longest.specs.declared.edges.Edge.{Edge}
use Rattle.sd_longest.specs.declared.labels.Label.{Label}
use Rattle.sd_longest.specs.Edges.{rows_of}
use Rattle.sd_longest.proofs.SettledLemmas.{unmarked_is}
use Rattle.sd_longest.proofs.marking.unmarked.Goals as goal

items_of : Vec Edge Global → List Edge
items_of v = v.items

none_of : ℕ → List (Option Label)
none_of n = replicate n None

pub returns-clause-marking : goal.returns-clause-marking
unfolding items_of none_of
returns-clause-marking c =
    let many = length-map c.args.rows.now items_of in
    unmarked_is (rows_of c.args.rows.now) (record { labels = c.in_ok-no_labels.field-0; order = c.new.result; done = 0 }) (c.in_ok-no_labels.ensures ∙ ap none_of (sym many)) c.new.ensures.items refl
