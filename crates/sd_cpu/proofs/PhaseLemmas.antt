-- The end of a phase.
use Rattle.std.proofs.Common.{◌≡◌, ℕ, suc, ◌+◌, ◌-◌, ◌^◌, Result, refl, sym, ap, ◌∙◌, subst}
use Rattle.std.specs.Prelude.{min}
use Rattle.sd_types.specs.declared.events.Stop.{Stop}
use Rattle.sd_types.specs.declared.numbers.CpuId.{CpuId}
use Rattle.sd_world.specs.Worlds.{Meaning}
use Rattle.sd_cpu.specs.Attempts.{IsSameWorld}
use Rattle.sd_cpu.specs.declared.attempts.Turned.{Turned}
use Rattle.sd_cpu.specs.declared.attempts.Turned.TheVariants.{Acted, Ticked, Behind, Finished}
use Rattle.sd_cpu.specs.declared.phases.Phased.{Phased}
use Rattle.sd_cpu.specs.Phases.{ActsOften, Ends, PhaseAnswers, Stops, raised}
use Rattle.sd_cpu.specs.Turns.{TakesTurn}

pub world_same : (m : Meaning) → IsSameWorld m m
world_same m = record { table = refl; work = refl; alone = refl; all = refl; cpu = refl }

-- so many entries were made, as is counted, and the turns are counted too
pub record HasActed (m m' : Meaning) (first entries number : ℕ) : Type 0 where
  pub count : ℕ
  pub acts : ActsOften count m m'
  pub told : entries ≡ raised 0 count
  pub turns : number ≡ raised first count

pub none_acted : (m : Meaning) (first : ℕ) → HasActed m m first 0 first
none_acted m first = record { count = 0; acts = refl; told = refl; turns = refl }

-- one more of a count
more : (first n n' k : ℕ) → n' ≡ min (n + 1) (2 ^ 64 - 1) → n ≡ raised first k → n' ≡ raised first (suc k)
more first n n' k e is = e ∙ ap (λ i. min (i + 1) (2 ^ 64 - 1)) is

pub one_acted : (m between m' : Meaning) (t : Turned) (n first entries entries' number number' : ℕ) → t ≡ Acted n → TakesTurn between m' t → entries' ≡ min (entries + 1) (2 ^ 64 - 1)
    → number' ≡ min (number + 1) (2 ^ 64 - 1) → HasActed m between first entries number → HasActed m m' first entries' number'
one_acted m between m' t n first entries entries' number number' is turn made risen a = record {
  count = suc a.count;
  acts = (between, n, a.acts, subst (TakesTurn between m') is turn);
  told = more 0 entries entries' a.count made a.told;
  turns = more first number number' a.count risen a.turns;
}

-- the last turn ticked, made no entry, or was refused
pub answers : (m between m' : Meaning) (first entries number number' : ℕ) (r : Result Phased Stop) (a : HasActed m between first entries number) → number' ≡ min (number + 1) (2 ^ 64 - 1)
    → Stops between m' a.count r → PhaseAnswers m m' first number' r
answers m between m' first entries number number' r a risen stops = record { count = a.count; last = between; acts = a.acts; stops = stops; turns = more first number number' a.count risen a.turns }

pub ticked : (m between m' : Meaning) (first n entries entries' number : ℕ) (t : Turned) (a : HasActed m between first entries number) → t ≡ Ticked n → TakesTurn between m' t → entries' ≡ min (entries + 1) (2 ^ 64 - 1)
    → Ends between m' a.count entries' t
ticked m between m' first n entries entries' number t a is turn made = subst (Ends between m' a.count entries') (sym is) (subst (TakesTurn between m') is turn, more 0 entries entries' a.count made a.told)

pub was_behind : (m m' : Meaning) (k n entries : ℕ) (c : CpuId) (t : Turned) → t ≡ Behind c n → entries ≡ raised 0 k → TakesTurn m m' t → Ends m m' k entries t
was_behind m m' k n entries c t is same turn = subst (Ends m m' k entries) (sym is) (subst (TakesTurn m m') is turn, same)

pub was_over : (m m' : Meaning) (k entries : ℕ) (t : Turned) → t ≡ Finished → entries ≡ raised 0 k → TakesTurn m m' t → Ends m m' k entries t
was_over m m' k entries t is same turn = subst (Ends m m' k entries) (sym is) (subst (TakesTurn m m') is turn, same)
