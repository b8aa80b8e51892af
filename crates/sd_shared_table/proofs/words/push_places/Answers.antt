use Rattle.sd_world.specs.Plain.{told}
use Rattle.sd_shared_table.proofs.WordLemmas.{places_next}
use Rattle.sd_shared_table.proofs.words.push_places.Goals as goal

pub loop-t-preserved : goal.loop-t-preserved
loop-t-preserved c =
    let w = c.args.work.now in
    places_next w (told w c.args.world.now) c.args.words.now.items c.loop-t.words.items c.push.new.self.items c.loop-t.t c.place_of.result c.loop-t.invariant c.place_of.ensures c.in_ok-push.ensures.items
