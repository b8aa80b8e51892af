-- A thread stands in one of the lists of the home in which the state has it.
use Rattle.std.proofs.Common.{◌≡◌, ℕ, ◌<◌, List, length, is_some, Option, Some, refl, sym, ap, ◌∙◌, subst}
use Rattle.sd_types.specs.declared.numbers.ThreadId.{ThreadId}
use Rattle.sd_state.specs.declared.states.State.{State}
use Rattle.sd_state.specs.States.{thread_of}
use Rattle.sd_homes.specs.Standing.{home_at, home_of, list_of}
use Rattle.sd_homes.specs.declared.home.Home.{Home}
use Rattle.sd_homes.specs.Families.{has, home_id, list_in}
use Rattle.sd_homes.specs.Kinds.{IsListed}
use Rattle.sd_hand.specs.Hands.{AreApart, StandsIn, held}
use Rattle.sd_hand.specs.Shown.{ShowsState}
use Rattle.sd_hand.proofs.GuideLemmas.{stands_guessed}
use Rattle.sd_hand.proofs.MoveLemmas.{held_by, taken}
use Rattle.sd_world.specs.Worlds.{IsListedIn}

one_of : (o : Option Home) (x y : Home) → o ≡ Some x → o ≡ Some y → x ≡ y
one_of o x y a b = let e : Some x ≡ Some y = sym a ∙ b in cc

pub listed_there : (n : ℕ) (s : State) (t : ThreadId) (hs : List (Option Home)) (x : Home) → AreApart hs → ShowsState n s hs → t.0 < length s.threads → held (home_of (thread_of s t.0)) hs ≡ Some x → IsListedIn t x
listed_there n s t hs x apart shows inside here =
    let at = list_of (thread_of s t.0) in
    let found = taken n s t.0 at hs (record { inside = inside; list = refl }) shows (x, here) in
    let st : StandsIn t.0 hs at = stands_guessed t.0 at hs (ap is_some found) in
    let same : st.home ≡ x = one_of (held (home_at at) hs) st.home x (held_by t.0 at hs st apart) here in
    (at, subst (λ y. IsListed t.0 (home_id y) (list_in y) (has t.0 y) at) same st.listed)
