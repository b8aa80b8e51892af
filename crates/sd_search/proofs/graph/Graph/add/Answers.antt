use Rattle.std.proofs.Common.{◌≡◌, List, ℕ, refl, ◌∙◌}
use Rattle.sd_encoding.specs.Ranks.{ranked}
use Rattle.sd_search.specs.Graphs.{packed, steps_of}
use Rattle.sd_search.proofs.GrowLemmas.{among_in, kept_in, put_in}
use Rattle.sd_search.proofs.StoreLemmas.{few_inserted}
use Rattle.sd_search.proofs.TurnLemmas.{ranked_once}
use Rattle.sd_search.proofs.graph.Graph.add.Goals as goal

pub returns-in_ok-push-clause-grown : goal.returns-in_ok-push-clause-grown
returns-in_ok-push-clause-grown c =
    let g = c.args.self.now in
    let w = c.args.work.now in
    let turn = c.requires.turn in
    let y = ranked c.args.room.now.state in
    let bs' = packed (record { states = c.insert.new.states; steps = c.push.new.self; done = g.done }) in
    let b = c.args.room.now.bytes.items in
    let put = rw c.deref.ensures.value at c.in_ok-is_new.ensures in
    record {
      gathered = put_in w (packed g) (steps_of g) g.done c.requires.gathered c.args.step turn.0 y turn.1 turn.2 c.requires.held (ranked_once c.args.room.now.state y refl) c.requires.last bs' c.push.new.self.items b c.in_ok-is_new.is_new c.requires.bytes
          c.if-is_new.true put c.in_ok-push.ensures.items;
      kept = kept_in (packed g) bs' b c.in_ok-is_new.is_new put;
      done = refl;
    }

pub returns-in_ok-push-clause-has : goal.returns-in_ok-push-clause-has
returns-in_ok-push-clause-has c =
    let g = c.args.self.now in
    let put = rw c.deref.ensures.value at c.in_ok-is_new.ensures in
    among_in (packed g) (packed (record { states = c.insert.new.states; steps = c.push.new.self; done = g.done })) c.args.room.now.bytes.items c.in_ok-is_new.is_new (ranked c.args.room.now.state) c.requires.held c.requires.bytes put

pub returns-in_ok-push-clause-few : goal.returns-in_ok-push-clause-few
returns-in_ok-push-clause-few c =
    let g = c.args.self.now in
    let put = rw c.deref.ensures.value at c.in_ok-is_new.ensures in
    few_inserted (packed g) (packed (record { states = c.insert.new.states; steps = c.push.new.self; done = g.done })) c.args.room.now.bytes.items c.in_ok-is_new.is_new put
