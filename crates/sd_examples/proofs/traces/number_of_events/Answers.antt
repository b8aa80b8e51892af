use Rattle.std.proofs.Common.{Some, option_map, option_and_then, sym, ap, ◌∙◌}
use Rattle.serde_json.specs.Events.{items_len}
use Rattle.serde_json.specs.Find.{as_array}
use Rattle.serde_json.proofs.Views.{items_len-items_view}
use Rattle.sd_examples.proofs.traces.number_of_events.Goals as goal

pub returns : goal.returns
returns c =
    let events = c.in_ok-as_array.field-0.now in
    ap Some (c.len.ensures ∙ events.ok.0 ∙ sym (items_len-items_view events.items))
    ∙ ap (option_map items_len) (c.in_ok-as_array.ensures ∙ ap (option_and_then as_array) c.in_ok-get.ensures)
