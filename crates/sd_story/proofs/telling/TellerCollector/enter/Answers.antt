use Rattle.std.proofs.Common.{Bool, true, false, Result, Ok, Err, sym, ap, ◌∙◌, ◌++◌, subst}
use Rattle.std.specs.Bool.{OnTrue}
use Rattle.std.specs.Prelude.{IfOk}
use Rattle.sd_types.specs.declared.works.Work.{Work}
use Rattle.sd_world.specs.Plain.{Stands, told}
use Rattle.sd_story.specs.declared.selections.Selection.{Selection}
use Rattle.sd_story.specs.Story.{row_if}
use Rattle.sd_story.proofs.RowLemmas.{one_row}
use Rattle.sd_story.proofs.telling.TellerCollector.enter.Goals as goal

pub put_row_if-requires : goal.put_row_if-requires
put_row_if-requires c = record { good = subst (λ (w : Work). Stands w c.args.world.now) (sym c.requires.work) c.requires.stands }

-- what holds in any case holds where the entry is a step
in_any_case : {E : Type 0} (r : Result Bool E) (P : Type 0) → P → IfOk r (λ b. OnTrue b P)
in_any_case (Ok true) P p = p
in_any_case (Ok false) P p = tt
in_any_case (Err e) P p = tt

pub returns-clause-takes : goal.returns-clause-takes
returns-clause-takes c =
    let w = c.args.work.now in
    let s = told w c.args.world.now in
    let e = c.args.entry.now in
    let out = c.args.self.now.told.items in
    in_any_case c.step.result _
    (λ first es ends had. (
      had.0,
      one_row w first.selection.now s es e first.told.items out _ ends had.1
          (c.in_ok-put_row_if.ensures ∙ ap (λ (v : Work). out ++ row_if w c.args.self.now.selection.now (told v c.args.world.now) e) c.requires.work ∙ ap (λ (sel : Selection). out ++ row_if w sel s e) had.0),
    ))
