-- What a call that tells nothing leaves.
use Rattle.std.proofs.Common.{ℕ, Bool, true, false, refl, inl}
use Rattle.sd_answers.specs.StreamChanges.{StreamChange}
use Rattle.sd_find.specs.Progress.{IsWatchingUnless}

pub still : {W : Type 0} (quiet : Bool) (Noted : W → W → ℕ → ℕ → Type 0) (input : StreamChange) (x : W) → IsWatchingUnless quiet Noted input x x
still true Noted input x = refl
still false Noted input x = inl refl
