-- How many items a list has.
use Rattle.std.proofs.Common.{◌≡◌, ℕ, zero, suc, ◌+◌, ◌<◌, ◌==◌, set, get_or, Bool, true, false, List, [], ◌∷◌, length, Option, refl, sym, ap, ◌∙◌, arith}
use Rattle.sd_boxq.specs.Order.{insert_before, find_first, drop_first}
use Rattle.sd_homes.specs.Homes.{how_many, all_asleep, is_chan_of}
use Rattle.std.specs.Prelude.{◌/◌, ◌%◌, nat_lt}
use Rattle.std.proofs.Common.{length-set}
use Rattle.std.proofs.lemmas.Bool.{and_parts, ltb-true}
use Rattle.sd_sleepq.specs.Sleepers.{Sleepers, sleepers_of, with_sleepers}
use Rattle.sd_boxq.specs.Order.{find_id, drop_id, insert_ranked, precedes}
use Rattle.sd_record.specs.Records.{ThreadRecord}
use Rattle.sd_homes.specs.Standing.{id_of, key_in, rank_of}

pub length_dropped : {X : Type 0} (p : X → Bool) (xs : List X) → length (drop_first p xs) + how_many (find_first p xs) ≡ length xs
length_dropped p [] = refl
length_dropped p (x ∷ xs) = by (p x) refl (length_dropped p xs)
  where
    by : (b : Bool) → p x ≡ b → length (drop_first p xs) + how_many (find_first p xs) ≡ length xs
        → length (drop_first p (x ∷ xs)) + how_many (find_first p (x ∷ xs)) ≡ length (x ∷ xs)
    by true e r = rw e (omega arith)
    by false e r = rw e (omega arith)

pub length_inserted : {X : Type 0} (p : X → Bool) (x : X) (xs : List X) → length (insert_before p x xs) ≡ length xs + 1
length_inserted p x [] = refl
length_inserted p x (y ∷ ys) = by (p y) refl (length_inserted p x ys)
  where
    by : (b : Bool) → p y ≡ b → length (insert_before p x ys) ≡ length ys + 1 → length (insert_before p x (y ∷ ys)) ≡ length (y ∷ ys) + 1
    by true e r = rw e (omega arith)
    by false e r = rw e (omega arith)

asleep_set : (qs : List (List ThreadRecord)) (i : ℕ) (q : List ThreadRecord) → i < length qs → all_asleep (set qs i q) + length (get_or qs i []) ≡ all_asleep qs + length q
asleep_set [] i q h = absurd (omega arith)
asleep_set (x ∷ qs) zero q h = omega arith
asleep_set (x ∷ qs) (suc i) q h = let r = asleep_set qs i q (omega arith) in omega arith

pub asleep_dropped : (qs : List (List ThreadRecord)) (i t : ℕ) → i < length qs
    → all_asleep (set qs i (drop_id id_of t (get_or qs i []))) + how_many (find_id id_of t (get_or qs i [])) ≡ all_asleep qs
asleep_dropped qs i t h =
    let a = asleep_set qs i (drop_id id_of t (get_or qs i [])) h in
    let b = length_dropped (λ r. id_of r == t) (get_or qs i []) in
    omega arith

pub asleep_inserted : (qs : List (List ThreadRecord)) (i : ℕ) (r : ThreadRecord) → i < length qs
    → all_asleep (set qs i (insert_ranked rank_of key_in r (get_or qs i []))) ≡ all_asleep qs + 1
asleep_inserted qs i r h =
    let a = asleep_set qs i (insert_ranked rank_of key_in r (get_or qs i [])) h in
    let b = length_inserted (precedes rank_of key_in r) r (get_or qs i []) in
    omega arith

-- how many sleep once one has left, or come
pub left_count : (c new : Sleepers ThreadRecord) (k u rack : ℕ) (o : Option ThreadRecord) → is_chan_of c k ≡ true → length c.queues ≡ 4 → rack ≡ all_asleep c.queues
    → new ≡ with_sleepers c k (drop_id id_of u (sleepers_of c k)) → o ≡ find_id id_of u (sleepers_of c k) → (length new.queues ≡ 4) × (all_asleep new.queues + how_many o ≡ rack)
left_count c new k u rack o of four r e f =
    let low = ltb-true k 256 (and_parts (nat_lt k 256) ((k % 64) == c.chain) of).0 in
    let within : k / 64 < length c.queues = omega arith in (
      ap (λ z. length z.queues) e ∙ length-set c.queues (k / 64) (drop_id id_of u (sleepers_of c k)) ∙ four,
      (λ i. all_asleep (e i).queues + how_many (f i)) ∙ asleep_dropped c.queues (k / 64) u within ∙ sym r,
    )

pub come_count : (c new : Sleepers ThreadRecord) (k rack : ℕ) (r : ThreadRecord) → is_chan_of c k ≡ true → length c.queues ≡ 4 → rack ≡ all_asleep c.queues
    → new ≡ with_sleepers c k (insert_ranked rank_of key_in r (sleepers_of c k)) → (length new.queues ≡ 4) × (all_asleep new.queues ≡ rack + 1)
come_count c new k rack r of four a e =
    let low = ltb-true k 256 (and_parts (nat_lt k 256) ((k % 64) == c.chain) of).0 in
    let within : k / 64 < length c.queues = omega arith in (
      ap (λ z. length z.queues) e ∙ length-set c.queues (k / 64) (insert_ranked rank_of key_in r (sleepers_of c k)) ∙ four,
      ap (λ z. all_asleep z.queues) e ∙ asleep_inserted c.queues (k / 64) r within ∙ ap (λ n. n + 1) (sym a),
    )
