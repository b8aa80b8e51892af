use Rattle.std.proofs.Common.{◌++◌, ◌∷◌, [], refl, sym, ap, ◌∙◌}
use Rattle.sd_shared_table.proofs.seat.Seat.put_down.Goals as goal

pub returns : goal.returns
returns c =
    let some = c.in-Some-release.ensures.some in
    record {
      lowered = record {
        order = c.in-Some.ensures.items ∙ ap (λ j. c.pop.new.self.items ++ record { 0 = j } ∷ []) (sym some.0);
        more = some.1;
        apart = c.release.ensures.apart;
        count = c.in-Some-release.ensures.count.0;
        actor = refl;
        log = refl;
        place = refl;
      };
    }
