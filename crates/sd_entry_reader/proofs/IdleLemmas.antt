-- A line whose third word is `idle` tells an idle tick.
use Rattle.std.proofs.Common.{◌≡◌, ℕ, true, ◌&&◌, List, [], ◌∷◌, codes, refl, sym, ap, subst, ◌∙◌}
use Rattle.std.specs.Prelude.{nat_eq}
use Rattle.std.specs.Cmp.Lexicographic.{pointwise, bytes_decides}
use Rattle.sd_types.specs.Works.{same_bytes}
use Rattle.sd_types.specs.declared.events.Event.TheVariants.{Idle}
use Rattle.sd_types.specs.declared.works.Work.{Work}
use Rattle.sd_entries.specs.Reading.{answering_event, at, event_of, handing_event, locking_event, or_else, placing_event, running_event, semaphore_event, sleeping_event}

same_pointwise : (xs ys : List ℕ) → same_bytes xs ys ≡ pointwise nat_eq xs ys
same_pointwise [] [] = refl
same_pointwise [] (y ∷ ys) = refl
same_pointwise (x ∷ xs) [] = refl
same_pointwise (x ∷ xs) (y ∷ ys) = ap (λ b. nat_eq x y && b) (same_pointwise xs ys)

same : (xs ys : List ℕ) → same_bytes xs ys ≡ true → xs ≡ ys
same xs ys is = (bytes_decides xs ys).0 (sym (same_pointwise xs ys) ∙ is)

named : (w : Work) (ws : List (List ℕ))
    → Idle ≡ or_else (running_event w (codes "idle") ws) (or_else (placing_event w (codes "idle") ws) (or_else (sleeping_event w (codes "idle") ws)
    (or_else (locking_event w (codes "idle") ws) (or_else (handing_event w (codes "idle") ws) (or_else (semaphore_event w (codes "idle") ws)
    (or_else (answering_event w (codes "idle") ws) Idle))))))
unfolding running_event placing_event sleeping_event locking_event handing_event semaphore_event answering_event
named w ws = refl

pub idle_first : (w : Work) (ws : List (List ℕ)) → same_bytes (at ws 2) (codes "idle") ≡ true → Idle ≡ event_of w ws
unfolding event_of
idle_first w ws is =
    subst (λ (k : List ℕ). Idle ≡ or_else (running_event w k ws) (or_else (placing_event w k ws) (or_else (sleeping_event w k ws)
    (or_else (locking_event w k ws) (or_else (handing_event w k ws) (or_else (semaphore_event w k ws) (or_else (answering_event w k ws) Idle)))))))
    (sym (same (at ws 2) (codes "idle") is)) (named w ws)
