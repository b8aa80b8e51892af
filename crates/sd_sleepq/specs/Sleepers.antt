-- A chain of sleep queues (Solaris Internals, sleep queues), as contracts see it.
-- That chains have channels of one residue modulo 64 is this project's own.
use Rattle.std.specs.Prelude.{◌≡◌, ◌≢◌, ℕ, ◌<◌, ◌/◌, ◌%◌, List, get_or, set, [], true, is_some, Some, None}
use Rattle.sd_boxq.specs.Order.{find_id, drop_id}
use Rattle.sd_sleepq.specs.Among.{find_among}

-- its number, and the sleepers of its channels in the order of the channels
pub record Sleepers (T : Type 0) : Type 0 where
  pub chain : ℕ
  pub queues : List (List T)

-- the channel k is one of this chain
abbrev pub IsOfChain : {T : Type 0} → Sleepers T → ℕ → Type 0
IsOfChain c k = (k < 256) × (k % 64 ≡ c.chain)

-- who sleeps on the channel k
abbrev pub sleepers_of : {T : Type 0} → Sleepers T → ℕ → List T
sleepers_of c k = get_or c.queues (k / 64) []

-- the chain with these sleepers on the channel k
abbrev pub with_sleepers : {T : Type 0} → Sleepers T → ℕ → List T → Sleepers T
with_sleepers c k xs = record c { queues = set c.queues (k / 64) xs }

-- there is one with the id n, and the first sleeps on the channel k
pub record SleepsThere {T : Type 0} (id : T → ℕ) (n : ℕ) (c : Sleepers T) (k : ℕ) : Type 0 where
  pub of_chain : IsOfChain c k
  pub some : is_some (find_among id n c.queues) ≡ true
  pub here : find_id id n (sleepers_of c k) ≡ find_among id n c.queues

-- x, who sleeps on the channel k and is the first with the id n by channel, has left
pub record Leaves {T : Type 0} (id : T → ℕ) (n : ℕ) (old : Sleepers T) (k : ℕ) (x : T) (new : Sleepers T) : Type 0 where
  pub of_chain : IsOfChain old k
  pub first : find_among id n old.queues ≡ Some x
  pub here : find_id id n (sleepers_of old k) ≡ Some x
  pub before : (m : ℕ) → IsOfChain old m → m < k → find_id id n (sleepers_of old m) ≡ None
  pub rest : new ≡ with_sleepers old k (drop_id id n (sleepers_of old k))
  pub left : sleepers_of new k ≡ drop_id id n (sleepers_of old k)
  pub others : (m : ℕ) → IsOfChain old m → m ≢ k → sleepers_of new m ≡ sleepers_of old m

-- what stands on the channels of a chain once a channel has other sleepers
pub record AreApart {T : Type 0} (c : Sleepers T) : Type 0 where
  pub here : (k : ℕ) (xs : List T) → IsOfChain c k → sleepers_of (with_sleepers c k xs) k ≡ xs
  pub others : (k m : ℕ) (xs : List T) → IsOfChain c k → IsOfChain c m → m ≢ k → sleepers_of (with_sleepers c k xs) m ≡ sleepers_of c m
  pub same : (k : ℕ) → IsOfChain c k → with_sleepers c k (sleepers_of c k) ≡ c
  pub again : (k : ℕ) (xs ys : List T) → IsOfChain c k → with_sleepers (with_sleepers c k xs) k ys ≡ with_sleepers c k ys
