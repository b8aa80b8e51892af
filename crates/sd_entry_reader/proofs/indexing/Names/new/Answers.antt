use Rattle.std.proofs.Common.{map, ap, ◌∙◌}
use Rattle.sd_types.specs.declared.names.Name.{Name}
use Rattle.sd_types.specs.declared.works.ChanKind.{ChanKind}
use Rattle.sd_types.specs.declared.works.LockKind.{LockKind}
use Rattle.sd_types.specs.declared.works.ThreadDecl.{ThreadDecl}
use Rattle.sd_entry_reader.proofs.indexing.Names.new.Goals as goal

pub invariant_of-result : goal.invariant_of-result
invariant_of-result c = record {
  threads_named = c.in_ok-thread_names.ensures ∙ ap (map (λ (d : ThreadDecl). d.name.text.items)) c.items.ensures;
  locks_named = c.in_ok-lock_names.ensures ∙ ap (map (λ (d : Name × LockKind). d.0.text.items)) c.items-2.ensures;
  chans_named = c.in_ok-chan_names.ensures ∙ ap (map (λ (d : Name × ChanKind). d.0.text.items)) c.items-3.ensures;
}
