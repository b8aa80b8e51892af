-- The journal of a run in which each processor reads the numbers of the state is one that the audit finds legal.
use Rattle.std.proofs.Common.{◌≤◌, ◌^◌, List, [], ◌∷◌, length, refl, arith}
use Rattle.sd_types.specs.declared.events.Entry.{Entry}
use Rattle.sd_types.specs.declared.works.Work.{Work}
use Rattle.sd_state.specs.Opening.{opening}
use Rattle.sd_machine.specs.Runs.{IsComplete, IsRun, final, IsFresh}
use Rattle.sd_machine.proofs.RunLemmas.{IsRun-from}
use Rattle.sd_search.specs.declared.questions.Question.{Question}
use Rattle.sd_search.specs.Questions.{IsWitness}
use Rattle.sd_program.proofs.HintLemmas.{all_spelled}
use Rattle.sd_invariants.proofs.Induction.{opening_reached}
use Rattle.sd_find.specs.Shown.{IsCertified, IsShown}

pub certified_of : (w : Work) (es : List Entry) → IsRun w es → IsFresh w (opening w) es → IsComplete w (final w (opening w) es) → length es ≤ 2 ^ 40 → IsCertified w es
certified_of w es run fresh complete short = record {
  entries = es;
  run = run;
  spelled = all_spelled w 0 (opening w) es (opening_reached w) (IsRun-from w es run) fresh (omega (arith, short));
  complete = complete;
  whole = refl;
  many = refl;
  ends = refl;
}

pub shown_of : (w : Work) (q : Question) (es : List Entry) → IsWitness w q es → length es ≤ 2 ^ 40 → IsShown w q es
shown_of w q es is short = record { witness = is; certified = certified_of w es is.run is.fresh is.ends.complete short }
