-- What a step is about.
-- Source: this project's own.
use Rattle.std.specs.Prelude.{◌≡◌, ◌+◌, ◌++◌, [], ◌∷◌, Option, Some, None}
use Rattle.atomic_table.specs.Table.{Me}
use Rattle.sd_types.specs.declared.works.Work.{Work}
use Rattle.sd_shared_rule.specs.declared.views.View.{View}
use Rattle.sd_shared_rule.specs.declared.views.View.TheVariants.{Gathers, Maker, Works}
use Rattle.sd_shared_rule.specs.Plays.{Slot, desk_of, new_desk}

-- of this workload, where there is one
abbrev pub within : Option Work → (Work → Type 0) → Type 0
within None P = Unit {0}
within (Some w) P = P w

-- the seat is a processor's
abbrev pub IsDesk : Me Slot View → Type 0
IsDesk m = m.0 ≡ Works (desk_of m.0)

-- how the seat from which the others are cut sees one more
abbrev pub maker_next : View → View
maker_next (Maker n) = Maker (n + 1)
maker_next v = v

abbrev pub maker_cut : View → View
maker_cut (Maker n) = Works (new_desk n)
maker_cut v = v

-- and the one that gathers them
abbrev pub gathers_more : View → View → View
gathers_more (Gathers seens) (Works d) = Gathers (seens ++ d.seen ∷ [])
gathers_more v w = v
