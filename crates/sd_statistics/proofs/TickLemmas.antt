-- The ticks of what a thread does are those of the run, with those that lie in two states.
use Rattle.std.proofs.Common.{◌≡◌, ℕ, ◌+◌, ◌-◌, ◌<◌, Bool, true, false, List, [], ◌∷◌, ◌++◌, length, take, drop, Some, refl, sym, ap, subst, ◌∙◌, arith}
use Rattle.std.specs.Prelude.{sum_by, if◌then◌else◌}
use Rattle.std.proofs.lemmas.List.{append-nil}
use Rattle.std.proofs.lemmas.List.Sums.{sum_by-append, sum_by-cons}
use Rattle.sd_types.specs.declared.events.Entry.{Entry}
use Rattle.sd_types.specs.declared.works.Work.{Work}
use Rattle.sd_stretches.specs.declared.changes.Onset.{Onset}
use Rattle.sd_stretches.specs.declared.histories.History.{History}
use Rattle.sd_stretches.specs.declared.rows.Stretch.{Stretch}
use Rattle.sd_stretches.specs.declared.sights.Doing.{Doing}
use Rattle.sd_stretches.specs.declared.sights.Doing.TheVariants as doing
use Rattle.sd_stretches.specs.declared.spin_pieces.Spell.{Spell}
use Rattle.sd_stretches.specs.declared.spin_pieces.Track.TheVariants as track
use Rattle.sd_stretches.specs.Histories.{IsHistory}
use Rattle.sd_stretches.specs.Rows.{own_onsets, stretch_to, stretches, stretches_of}
use Rattle.sd_stretches.specs.SpinPieces.{cut_all, pieces, pieces_of, spells_on, spells_within, Fills}
use Rattle.sd_stretches.proofs.ExactLemmas.{begins_at_0}
use Rattle.sd_stretches.proofs.SpinLemmas.{pieces_fill, fills_cons}
use Rattle.sd_statistics.specs.declared.activities.Activity.{Activity}
use Rattle.sd_statistics.specs.declared.activities.Activity.TheVariants.{Running, Spinning, Runnable, Waiting, Asleep, Napping, Ended}
use Rattle.sd_statistics.specs.Activities.{is_of, span_if, span_of, spans_of}
use Rattle.sd_statistics.specs.Spans.{ticks_of}
use Rattle.sd_statistics.specs.Threads.{ticks_behind}
use Rattle.sd_statistics.specs.Laws.{all_ticks, ticks_in, TicksAddUp}

-- Each stretch is of one activity.

abbrev stretch_ticks : Stretch → ℕ
stretch_ticks x = x.to - x.from

abbrev pub share : Activity → Stretch → ℕ
share a x = if is_of a x.doing then x.to - x.from else 0

share_if : (b : Bool) (x : Stretch) → sum_by ticks_of (if b then span_of x ∷ [] else []) ≡ (if b then x.to - x.from else 0)
share_if true x = omega (arith, sum_by-cons ticks_of (span_of x) [])
share_if false x = refl

pub ticks_cons : (a : Activity) (x : Stretch) (xs : List Stretch) → ticks_in a (x ∷ xs) ≡ share a x + ticks_in a xs
unfolding spans_of
ticks_cons a x xs =
    sum_by-append ticks_of (span_if a x) (spans_of a xs) ∙ ap (λ n. n + sum_by ticks_of (spans_of a xs)) (share_if (is_of a x.doing) x)

one_share : (d : Doing) (n : ℕ)
    → (if is_of Running d then n else 0) + (if is_of Spinning d then n else 0) + (if is_of Runnable d then n else 0) + (if is_of Waiting d then n else 0)
    + (if is_of Asleep d then n else 0) + (if is_of Napping d then n else 0) + (if is_of Ended d then n else 0) ≡ n
one_share (doing.Running c) n = omega arith
one_share d n = omega arith

all_is_sum : (xs : List Stretch) → all_ticks xs ≡ sum_by stretch_ticks xs
unfolding spans_of
all_is_sum [] = refl
all_is_sum (x ∷ xs) =
    omega (
      arith,
      ticks_cons Running x xs,
      ticks_cons Spinning x xs,
      ticks_cons Runnable x xs,
      ticks_cons Waiting x xs,
      ticks_cons Asleep x xs,
      ticks_cons Napping x xs,
      ticks_cons Ended x xs,
      one_share x.doing (x.to - x.from),
      all_is_sum xs,
      sum_by-cons stretch_ticks x xs,
    )

-- Stretches that fill a time.

fills_ticks : (from to : ℕ) (xs : List Stretch) → Fills from to xs → sum_by stretch_ticks xs + from ≡ to + sum_by ticks_behind xs
fills_ticks from to [] fills = absurd fills
fills_ticks from to (p ∷ []) fills =
    let begins : p.from ≡ from = fills.0 in
    let ends : p.to ≡ to = fills.1 in
    omega (arith, begins, ends, sum_by-cons (λ x. x.to - x.from) p [], sum_by-cons ticks_behind p [])
fills_ticks from to (p ∷ q ∷ ps) fills =
    let begins : p.from ≡ from = fills.0 in
    let rest : sum_by stretch_ticks (q ∷ ps) + p.to ≡ to + sum_by ticks_behind (q ∷ ps) = fills_ticks p.to to (q ∷ ps) fills.1 in
    omega (arith, begins, rest, sum_by-cons stretch_ticks p (q ∷ ps), sum_by-cons ticks_behind p (q ∷ ps))

fills_append : (a b c : ℕ) (xs ys : List Stretch) → Fills a b xs → Fills b c ys → Fills a c (xs ++ ys)
fills_append a b c [] ys first second = absurd first
fills_append a b c (p ∷ []) ys first second = fills_cons a c p ys first.0 (subst (λ n. Fills n c ys) (sym first.1) second)
fills_append a b c (p ∷ q ∷ ps) ys first second = fills_cons a c p ((q ∷ ps) ++ ys) first.0 (fills_append p.to b c (q ∷ ps) ys first.1 second)

fills_cut : (a b : ℕ) (xs : List Stretch) (spells : List Spell) → Fills a b xs → Fills a b (cut_all xs spells)
unfolding cut_all
fills_cut a b [] spells fills = absurd fills
fills_cut a b (x ∷ []) spells fills =
    let own : List Stretch = pieces_of x (take (spells_within spells x.last) spells) in
    subst (λ n. Fills n b (own ++ [])) fills.0
    (subst (λ n. Fills x.from n (own ++ [])) fills.1 (subst (Fills x.from x.to) (sym (append-nil own)) (pieces_fill x (take (spells_within spells x.last) spells))))
fills_cut a b (x ∷ y ∷ ys) spells fills =
    let ahead : List Spell = drop (spells_within spells x.last) spells in
    let own : List Stretch = pieces_of x (take (spells_within spells x.last) spells) in
    subst (λ n. Fills n b (own ++ cut_all (y ∷ ys) ahead)) fills.0
    (fills_append x.from x.to b own (cut_all (y ∷ ys) ahead) (pieces_fill x (take (spells_within spells x.last) spells)) (fills_cut x.to b (y ∷ ys) ahead fills.1))

fills_onsets : (entries end : ℕ) (x : Onset) (xs : List Onset) → Fills x.tick end (stretches_of entries end (x ∷ xs))
unfolding stretches_of
fills_onsets entries end x [] = (refl, refl)
fills_onsets entries end x (y ∷ ys) =
    fills_cons x.tick end (stretch_to entries end x (Some y)) (stretches_of entries end (y ∷ ys)) refl (fills_onsets entries end y ys)

module _ (w : Work) (es : List Entry) (h : History) (is : IsHistory w es h) (t end : ℕ) (here : t < length w.threads) where
  fills_run : Fills 0 end (stretches t h.onsets.items h.entries end)
  unfolding stretches
  fills_run =
      let begins = begins_at_0 w es t here in
      let own : own_onsets t h.onsets.items ≡ begins.0 ∷ begins.1 = ap (own_onsets t) is.onsets ∙ begins.2 in
      subst (λ n. Fills n end (stretches_of h.entries end (own_onsets t h.onsets.items))) begins.3
      (subst (λ xs. Fills begins.0.tick end (stretches_of h.entries end xs)) (sym own) (fills_onsets h.entries end begins.0 begins.1))

  pub fills_pieces : Fills 0 end (pieces (track.Thread t) h end)
  unfolding pieces
  fills_pieces = fills_cut 0 end (stretches t h.onsets.items h.entries end) (spells_on (track.Thread t) h.happenings.items) fills_run

pub ticks_add : TicksAddUp
ticks_add w es h is t end here =
    let own : List Stretch = pieces (track.Thread t) h end in
    let filled : sum_by stretch_ticks own + 0 ≡ end + sum_by ticks_behind own = fills_ticks 0 end own (fills_pieces w es h is t end here) in
    omega (arith, filled, all_is_sum own)
