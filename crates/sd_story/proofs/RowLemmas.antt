-- The rows of one entry more.
use Rattle.std.proofs.Common.{◌≡◌, ℕ, List, [], ◌∷◌, ◌++◌, append_assoc, sym, ap, ◌∙◌}
use Rattle.std.proofs.lemmas.List.{append-nil}
use Rattle.sd_types.specs.declared.events.Entry.{Entry}
use Rattle.sd_types.specs.declared.works.Work.{Work}
use Rattle.sd_state.specs.declared.states.State.{State}
use Rattle.sd_state.specs.Opening.{opening}
use Rattle.sd_machine.specs.Events.{after}
use Rattle.sd_machine.specs.Runs.{final}
use Rattle.sd_story.specs.declared.selections.Selection.{Selection}
use Rattle.sd_story.specs.Story.{row_if, rows_from}

pub rows_more : (w : Work) (sel : Selection) (s : State) (es : List Entry) (e : Entry)
    → rows_from w sel s (es ++ e ∷ []) ≡ rows_from w sel s es ++ row_if w sel (final w s es) e
unfolding rows_from final
rows_more w sel s [] e = append-nil (row_if w sel s e)
rows_more w sel s (x ∷ es) e =
    let next = after w s x.number x.cpu x.event in
    ap (λ (rows : List ℕ). row_if w sel s x ++ rows) (rows_more w sel next es e)
    ∙ sym (append_assoc (row_if w sel s x) (rows_from w sel next es) (row_if w sel (final w next es) e))

pub no_rows : (w : Work) (sel : Selection) (s : State) (out : List ℕ) → out ≡ out ++ rows_from w sel s []
unfolding rows_from
no_rows w sel s out = sym (append-nil out)

-- the row of one entry more
pub one_row : (w : Work) (sel : Selection) (s : State) (es : List Entry) (e : Entry) (before out out' : List ℕ)
    → s ≡ final w (opening w) es → out ≡ before ++ rows_from w sel (opening w) es → out' ≡ out ++ row_if w sel s e
    → out' ≡ before ++ rows_from w sel (opening w) (es ++ e ∷ [])
one_row w sel s es e before out out' state rows row =
    row
    ∙ ap (λ (text : List ℕ). text ++ row_if w sel s e) rows
    ∙ append_assoc before (rows_from w sel (opening w) es) (row_if w sel s e)
    ∙ ap (λ (x : State). before ++ (rows_from w sel (opening w) es ++ row_if w sel x e)) state
    ∙ ap (λ (text : List ℕ). before ++ text) (sym (rows_more w sel (opening w) es e))
