-- Whether the home with which a processor passes the gate is in its hand.
use Rattle.std.proofs.Common.{◌≡◌, Bool, true, false, List, Option, refl, sym, ap, ◌∙◌, subst}
use Rattle.std.specs.Prelude.{◌||◌, is_some}
use Rattle.std.proofs.lemmas.Bool.{false≢true}
use Rattle.sd_types.specs.declared.numbers.HomeId.{HomeId}
use Rattle.sd_homes.specs.declared.home.Home.{Home}
use Rattle.sd_hand.specs.declared.acting.Acting.{Acting}
use Rattle.sd_hand.specs.declared.acting.Actor.{Actor}
use Rattle.sd_hand.specs.Hands.{HoldsMore, held}
use Rattle.sd_store.specs.declared.parts.Part.{Part}
use Rattle.sd_world.specs.Worlds.{Meaning, slots_of}
use Rattle.sd_cpu.specs.Gates.{first_home, holds_first}
use Rattle.sd_cpu.specs.Seeking.{Fetches}

-- a home that is held is held beside one more
held_still : (hs : List (Option Home)) (home : Home) (new : List (Option Home)) → HoldsMore hs home new → (k : HomeId) → is_some (held k hs) ≡ true → is_some (held k new) ≡ true
held_still hs home new more k is = ap is_some (more.others k (λ e. false≢true (sym (ap is_some (ap (λ j. held j hs) e ∙ more.before)) ∙ is))) ∙ is

first_still : (m m' : Meaning) (p : Part) → Fetches m m' p true → holds_first m.acting ≡ true → holds_first m'.acting ≡ true
first_still m m' p (x, has, gains) is =
    subst (λ (a : Actor). is_some (held (first_home a.cpu a.duty) (slots_of m')) ≡ true) (sym gains.stays.actor)
    (held_still (slots_of m) x (slots_of m') gains.more (first_home m.acting.actor.cpu m.acting.actor.duty) is)

passed_by : (before was is : Bool) → (was ≡ true → is ≡ true) → ((before || was) || is) ≡ (before || is)
passed_by true was is more = refl
passed_by false true is more = sym (more refl)
passed_by false false is more = refl

-- the gate was passed before, or by the home that was taken
pub passed_more : (m m' : Meaning) (p : Part) (before passed now : Bool) → Fetches m m' p true → passed ≡ (before || holds_first m.acting) → now ≡ (passed || holds_first m'.acting) → now ≡ (before || holds_first m'.acting)
passed_more m m' p before passed now f was is =
    is ∙ (ap (λ b. b || holds_first m'.acting) was ∙ passed_by before (holds_first m.acting) (holds_first m'.acting) (first_still m m' p f))

-- nothing was taken
pub passed_still : (x y : Acting) (before passed : Bool) → y ≡ x → passed ≡ (before || holds_first x) → passed ≡ (before || holds_first y)
passed_still x y before passed same was = was ∙ ap (λ a. before || holds_first a) (sym same)

-- once it was passed, it stays so
pub passed_once : (before passed here : Bool) → passed ≡ (before || here) → before ≡ true → passed ≡ true
passed_once before passed here is was = is ∙ ap (λ b. b || here) was
