use Rattle.std.proofs.Common.{◌≡◌, sym, ap, ◌∙◌, subst}
use Rattle.std.proofs.lemmas.Option.{same_Some}
use Rattle.sd_encoding.specs.Encoding.{IsHeld, encoded}
use Rattle.sd_search.proofs.packing.unpack.Goals as goal

pub returns-clause-held : goal.returns-clause-held
returns-clause-held c =
    let s = c.requires.spelled in
    let same : s.0 ≡ c.in-Some.state = same_Some s.0 c.in-Some.state (sym (c.in_ok-state.ensures.again s.0 s.1 s.2) ∙ c.in-Some.is) in
    subst IsHeld same s.1

pub returns-clause-bytes : goal.returns-clause-bytes
returns-clause-bytes c =
    let s = c.requires.spelled in
    let same : s.0 ≡ c.in-Some.state = same_Some s.0 c.in-Some.state (sym (c.in_ok-state.ensures.again s.0 s.1 s.2) ∙ c.in-Some.is) in
    s.2 ∙ ap encoded same
