use Rattle.std.proofs.Common.{◌≡◌, is_some, sym, ap, ◌∙◌, subst}
use Rattle.sd_homes.specs.Standing.{home_at}
use Rattle.sd_homes.specs.Families.{putting}
use Rattle.sd_hand.specs.Hands.{AreApart, edit, has_thread, held}
use Rattle.sd_hand.specs.Steps.{stepped}
use Rattle.sd_hand.proofs.HasLemmas.{left_apart, left_held, none_taken, taken_id, untaken, went_apart, went_has, went_held}
use Rattle.sd_hand.proofs.StepLemmas.{step_id}
use Rattle.sd_hand.proofs.hand.Hand.relocate.Goals as goal

pub returns-in-Some : goal.returns-in-Some
returns-in-Some c =
    let hs = c.args.self.now.slots in
    let t = c.args.t.0 in
    let from = c.args.from in
    let to = c.args.to in
    let old = c.in-Some.traveller in
    let taken = sym c.in-Some.is ∙ c.take.ensures.taken in
    let gone = c.put.ensures.rest ∙ ap (edit (home_at to) (putting c.take_step.new.traveller to)) c.take.ensures.rest in
    record {
      stood = ap is_some taken;
      untouched = λ no. absurd cc;
      moved = λ r e. (let same : old ≡ r = cc in
          c.put.ensures.rest ∙ (λ i. edit (home_at to) (putting ((c.take_step.ensures ∙ ap (stepped c.args.step.now) same) i) to) (c.take.ensures.rest i)));
      homes = λ k. ap (λ xs. is_some (held k xs)) gone ∙ went_held k t from to c.take_step.new.traveller hs;
      apart = λ a. subst AreApart (sym gone) (went_apart t from to c.take_step.new.traveller hs a);
      threads = λ is there room u.
          ap (has_thread u) (c.put.ensures.rest ∙ (λ i. edit (home_at to) (putting (c.take_step.ensures i) to) (c.take.ensures.rest i)))
          ∙ went_has u t from to old (stepped c.args.step.now old) hs taken (step_id c.args.step.now old ∙ taken_id t from (held (home_at from) hs) old taken) is there room
          (λ h e. c.put.ensures.whole h (ap (held (home_at to)) c.take.ensures.rest ∙ e));
    }

pub returns-in-None : goal.returns-in-None
returns-in-None c =
    let hs = c.args.self.now.slots in
    let t = c.args.t.0 in
    let from = c.args.from in
    let none = sym c.in-None.is ∙ c.take.ensures.taken in
    let gone = c.take.ensures.rest ∙ untaken t from hs none in
    record {
      stood = ap is_some none;
      untouched = λ no. gone;
      moved = λ r e. (let both = none ∙ sym e in absurd cc);
      homes = λ k. ap (λ xs. is_some (held k xs)) c.take.ensures.rest ∙ left_held k t from hs;
      apart = λ a. subst AreApart (sym c.take.ensures.rest) (left_apart t from hs a);
      threads = λ is there room u. ap (has_thread u) c.take.ensures.rest ∙ none_taken u t from hs none;
    }
