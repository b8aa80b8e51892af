-- Parts of lists that are joined: what is one of some parts is one of more.
use Rattle.std.proofs.Common.{List, [], ◌∷◌, ◌++◌, inl, inr}
use Rattle.sd_store.specs.declared.parts.Part.{Part}
use Rattle.sd_store.specs.Parts.{IsAmong}

pub among_left : (p : Part) (ps qs : List Part) → IsAmong p ps → IsAmong p (ps ++ qs)
among_left p [] qs among = absurd among
among_left p (x ∷ ps) qs (inl e) = inl e
among_left p (x ∷ ps) qs (inr later) = inr (among_left p ps qs later)

pub among_right : (p : Part) (ps qs : List Part) → IsAmong p qs → IsAmong p (ps ++ qs)
among_right p [] qs among = among
among_right p (x ∷ ps) qs among = inr (among_right p ps qs among)
