-- Which states a state with keys in some order shows: each in which the keys have the same order.
-- Source: this project's own.
use Rattle.std.specs.Prelude.{ℕ, ◌+◌, ◌≤◌, length, ℤ, Option, Some, None, IfSome}
use Rattle.std.proofs.Math.Nat.{le-add_right, le_trans}
use Rattle.sd_state.specs.declared.states.State.{State}
use Rattle.sd_encoding.specs.Order.{IsKeyBefore, IsSameOrder, KeysFit, key_held}
use Rattle.sd_encoding.specs.declared.ordered.Ordered.{Ordered}

-- both have keys of entries before entry n, in the same order, and the numbers of threads fit their type
pub record IsShown (x : Ordered) (n : ℕ) (s : State) : Type 0 where
  pub same : IsSameOrder x.state s
  pub own : KeysFit n x.state
  pub keys : KeysFit n s
  pub small : length x.state.threads ≤ 65536

key_later : (n : ℕ) (key : ℤ) → IsKeyBefore n key → IsKeyBefore (n + 1) key
key_later n key h = record {
  back = λ m l. h.back m (le_trans (le-add_right n 1) l);
  front = λ m l. h.front m (le_trans (le-add_right n 1) l);
}

pub if_later : (n : ℕ) (key : Option ℤ) → IfSome key (IsKeyBefore n) → IfSome key (IsKeyBefore (n + 1))
if_later n None h = h
if_later n (Some key) h = key_later n key h

pub fit_later : (n : ℕ) (s : State) → KeysFit n s → KeysFit (n + 1) s
fit_later n s fit = record { before = λ a. if_later n (key_held s a) (fit.before a); sleepers = fit.sleepers }

-- what stands for a state after n entries stands for it after more
pub shown_later : (x : Ordered) (n : ℕ) (s : State) → IsShown x n s → IsShown x (n + 1) s
shown_later x n s h = record { same = h.same; own = fit_later n x.state h.own; keys = fit_later n s h.keys; small = h.small }
