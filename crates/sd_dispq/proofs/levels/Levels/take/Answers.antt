use Rattle.std.proofs.Common.{◌≡◌, ◌+◌, length, length-set, set, [], sym, ap, ◌∙◌, subst}
use Rattle.std.proofs.lemmas.List.{set-get_or}
use Rattle.sd_boxq.specs.Order.{find_id, drop_id}
use Rattle.sd_dispq.specs.Levels.{all_of, level_at, IsLevelled}
use Rattle.sd_dispq.proofs.LevelLemmas.{drop-absent, levelled-drop_id}
use Rattle.sd_dispq.proofs.QueueLemmas.{AreWithout, holder_here, holder_is, without_past, without_all}
use Rattle.sd_dispq.proofs.levels.Levels.take.Goals as goal

pub returns-in-Some-take_first : goal.returns-in-Some-take_first
returns-in-Some-take_first g c =
    let id = g.T.Ranked.id in
    let same = c.loop-index.invariant.0 in
    let found = sym c.take_first.ensures.taken ∙ c.in-Some-take_first.is in
    let holder = holder_here id c.args.id c.loop-index.self c.loop-index.from c.in-Some.index c.in-Some-take_first.n c.loop-index.invariant.1 c.in-Some.ensures.next found in
    let both = holder_is id c.args.id c.loop-index.self c.in-Some.index holder in
    record {
      taken = sym (ap (λ ls. find_id id c.args.id (all_of ls)) (sym same) ∙ both.0 ∙ found);
      rest = ap all_of c.take_first.ensures.rest ∙ both.1 ∙ ap (λ ls. drop_id id c.args.id (all_of ls)) same;
      count = ap length c.take_first.ensures.rest ∙ length-set c.loop-index.self c.in-Some.index _ ∙ ap length same;
      levelled = λ s. subst (IsLevelled g.T.Ranked.rank) (sym c.take_first.ensures.rest)
          (levelled-drop_id g.T.Ranked.rank id c.args.id c.loop-index.self c.in-Some.index (subst (IsLevelled g.T.Ranked.rank) (sym same) s) c.in-Some.ensures.next.1);
    }

pub loop-index-preserved : goal.loop-index-preserved
loop-index-preserved g c =
    let id = g.T.Ranked.id in
    let none = sym c.take_first.ensures.taken ∙ c.in_default-take_first.is in
    let same : c.take_first.new.self ≡ c.loop-index.self =
    c.take_first.ensures.rest ∙ ap (set c.loop-index.self c.in-Some.index) (drop-absent id c.args.id (level_at c.loop-index.self c.in-Some.index) none) ∙ set-get_or c.loop-index.self c.in-Some.index [] in (
      same ∙ c.loop-index.invariant.0,
      subst (λ ls. AreWithout id c.args.id ls (c.in-Some.index + 1)) (sym same)
          (without_past id c.args.id c.loop-index.self c.loop-index.from c.in-Some.index c.loop-index.invariant.1 c.in-Some.ensures.next none),
    )

pub returns-clause-taken : goal.returns-clause-taken
returns-clause-taken g c =
    let id = g.T.Ranked.id in
    sym (ap (λ ls. find_id id c.args.id (all_of ls)) (sym c.loop-index.invariant.0) ∙ without_all id c.args.id c.loop-index.self c.loop-index.from c.loop-index.invariant.1 c.in_default.ensures.next)

pub returns-clause-rest : goal.returns-clause-rest
returns-clause-rest g c =
    let id = g.T.Ranked.id in
    let none = without_all id c.args.id c.loop-index.self c.loop-index.from c.loop-index.invariant.1 c.in_default.ensures.next in
    sym (drop-absent id c.args.id (all_of c.loop-index.self) none) ∙ ap (λ ls. drop_id id c.args.id (all_of ls)) c.loop-index.invariant.0
