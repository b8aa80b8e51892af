-- What an answer, or the exit status of a call, says of the bytes that the output holds back.
-- Source: this project's own.
use Rattle.std.specs.Prelude.{◌≡◌, ◌≢◌, ℕ, ◌⊎◌, Bool, true, ◌||◌, ◌==◌, List, [], ⊤}
use Rattle.sd_answers.specs.declared.answers.Answer.{Answer}
use Rattle.sd_answers.specs.declared.answers.Answer.TheVariants.{Done, WriteFault, Blocked}

-- What an answer leaves held back: nothing where a text was printed, and no more than there was where none was. Where a write failed
-- nothing is said.
abbrev pub LeavesHeldBy : Answer → List ℕ → List ℕ → Type 0
LeavesHeldBy Done before after = after ≡ []
LeavesHeldBy Blocked before after = after ≡ []
LeavesHeldBy WriteFault before after = ⊤
LeavesHeldBy _ before after = (after ≡ before) ⊎ (after ≡ [])

-- the exit statuses by which a text was printed whole: that of a run, tables, a legal journal, a drawing or the forms, a run with a blocking
-- cycle, and what a search answers
abbrev pub is_printed : ℕ → Bool
is_printed status = (status == 0) || (status == 6) || (status == 9) || (status == 10) || (status == 11)

-- With a status by which a text was printed the output has handed on everything; with any other but 4, of a write that failed, it holds
-- back no more than before.
pub record IsHandedOn (status : ℕ) (before after : List ℕ) : Type 0 where
  pub printed : is_printed status ≡ true → after ≡ []
  pub others : status ≢ 4 → (after ≡ before) ⊎ (after ≡ [])
