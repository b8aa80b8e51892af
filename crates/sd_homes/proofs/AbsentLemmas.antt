-- A thread that does not stand on the queue of a processor: once it was sought there, all is as it was.
use Rattle.std.proofs.Common.{◌≡◌, ℕ, List, Option, Some, None, sym, ap, ◌∙◌}
use Rattle.std.specs.Prelude.{MatchOption}
use Rattle.sd_boxq.specs.Order.{drop_id, find_id}
use Rattle.sd_record.specs.Records.{ThreadRecord}
use Rattle.sd_homes.specs.Standing.{id_of}
use Rattle.sd_homes.specs.Homes.{OfCpu, with_queue}
use Rattle.sd_homes.proofs.IndexLemmas.{absent_same}

by_none : {A : Type 0} (o : Option A) (S : Type 0) (P : A → Type 0) → None ≡ o → S → MatchOption o S P
by_none None S P e same = same
by_none (Some x) S P e same = absurd cc

pub queue_kept : (h x : OfCpu) (t id : ℕ) (q : List ThreadRecord) (f : ThreadRecord → OfCpu → OfCpu) → h ≡ x → id ≡ t → None ≡ find_id id_of id h.queue → q ≡ drop_id id_of id h.queue
    → MatchOption (find_id id_of t x.queue) (with_queue q h ≡ x) (λ r. with_queue q h ≡ f r x)
queue_kept h x t id q f is same none rest =
    by_none (find_id id_of t x.queue) (with_queue q h ≡ x) (λ r. with_queue q h ≡ f r x) (none ∙ (λ i. find_id id_of (same i) (is i).queue))
    (ap (λ (rs : List ThreadRecord). with_queue rs h) (rest ∙ sym (absent_same id h.queue (sym none))) ∙ is)
