use Rattle.std.proofs.Common.{Option, option_map, slice_get, inl, inr, refl, sym, ap, ◌∙◌}
use Rattle.std.specs.Prelude.{Result, Err}
use Rattle.sd_types.specs.declared.numbers.HomeId.TheVariants.{Cpu, RealTime}
use Rattle.sd_types.specs.declared.numbers.SetId.{SetId}
use Rattle.sd_record.specs.Records.{ThreadRecord}
use Rattle.sd_store.specs.declared.parts.Part.{Part}
use Rattle.sd_store.specs.Parts.{ready_parts, real_time_part}
use Rattle.sd_homes.specs.declared.list_id.ListId.TheVariants.{Queues, Urgent}
use Rattle.sd_homes.specs.Standing.{better}
use Rattle.sd_homes.specs.Families.{list_in}
use Rattle.sd_hand.specs.Ranked.{ranked_in, with_rank}
use Rattle.sd_hand.proofs.RankLemmas.{better_ranked}
use Rattle.sd_hand.proofs.ShownLemmas.{lacks_two, list_shown}
use Rattle.sd_hand.proofs.TellLemmas.{ready_told, view_is}
use Rattle.sd_hand.proofs.acting.Acting.best_ready_ranked.Goals as goal

pub returns-in-Ok-better_record-clause-value : goal.returns-in-Ok-better_record-clause-value
returns-in-Ok-better_record-clause-value c n s sh =
    let x = c.args.self.now in
    let a = c.in-Ok.ensures in
    let asked = c.in-Ok-better_record.ensures in
    let set : SetId = c.in-Ok.view.set in
    let view = view_is x n s c.args.c c.in-Ok.view a.0 sh a.1 a.2 in
    let queue = list_in asked.0 (Queues c.args.c) in
    let urgent = list_in asked.1 (Urgent set) in
    c.ranked.ensures ∙ ap (option_map with_rank) asked.4
    ∙ sym (ap (option_map (ranked_in s)) (ready_told x n s asked.0 sh c.args.c set asked.1 asked.2 asked.3 (sym (ap (λ v. v.set) view)))
    ∙ better_ranked n s (Queues c.args.c) (Urgent set) queue urgent (list_shown x n s (Queues c.args.c) asked.0 sh asked.2) (list_shown x n s (Urgent set) asked.1 sh asked.3))

pub returns-in-Err-better_record-clause-lack : goal.returns-in-Err-better_record-clause-lack
returns-in-Err-better_record-clause-lack c =
    let x = c.args.self.now in
    let a = c.in-Ok.ensures in
    let set : SetId = c.in-Ok.view.set in
    let answer : Result (Option ThreadRecord) Part = Err c.in-Err-better_record.q in
    lacks_two x (Cpu c.args.c) (RealTime set) (λ r. r) (λ h g. better (slice_get (list_in h (Queues c.args.c)) 0) (slice_get (list_in g (Urgent set)) 0))
    (λ s. ready_parts s c.args.c) answer c.in-Err-better_record.ensures (λ n s sh. inl refl)
    (λ n s sh. inr (inl (ap (λ v. real_time_part v.set) (view_is x n s c.args.c c.in-Ok.view a.0 sh a.1 a.2))))
