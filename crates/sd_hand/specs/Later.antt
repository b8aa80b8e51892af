-- What a hand shows after so many entries it shows after more.
-- Source: this project's own.
use Rattle.std.specs.Prelude.{ℕ, ◌+◌}
use Rattle.std.proofs.Math.Nat.{le-add_right}
use Rattle.sd_state.specs.declared.states.State.{State}
use Rattle.sd_homes.specs.Standing.{look_of}
use Rattle.sd_homes.proofs.StandingLemmas.{lists-more}
use Rattle.sd_homes.specs.Families.{list_in}
use Rattle.sd_hand.specs.declared.acting.Acting.{Acting}
use Rattle.sd_hand.specs.Acting.{IsShown}

pub shown_later : (x : Acting) (n : ℕ) (s : State) → IsShown x n s → IsShown x (n + 1) s
shown_later x n s sh = record {
  homes = λ k h e. record { lists = λ sp at. lists-more n (n + 1) sp (list_in h sp) (look_of s) (le-add_right n 1) ((sh.homes k h e).lists sp at); parts = (sh.homes k h e).parts };
  apart = sh.apart;
  inside = sh.inside;
  count = sh.count;
  duty = sh.duty;
  locks = sh.locks;
  chans = sh.chans;
}
