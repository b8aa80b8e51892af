use Rattle.std.proofs.Common.{◌≡◌, ◌++◌, length, take, drop, refl, sym, ap, ◌∙◌}
use Rattle.sd_types.proofs.lists.List.items_mut.Goals as goal

pub returns : goal.returns
returns g c =
    let same = c.as_mut_slice.ensures.value ∙ c.self.view_is in
    let n : c.self.inside.held.len ≡ length c.args.self.now = sym c.as_mut_slice.ensures.len ∙ ap length same in
    ((refl, λ w. λ i. take (n i) (w ++ drop (length w) (c.self.view_is i))), record { writes_back = tt; value = same })
