use Rattle.serial_model.proofs.MapLemmas.{rising_entries}
use Rattle.serial_model.proofs.object_maps.ObjectMap.into_list.Goals as goal

pub returns : goal.returns
returns c = rising_entries c.self.inside.entries.entries c.in_ok-entries_of.field-0.items c.args.self c.in_ok-entries_of.ensures.items c.in_ok-entries_of.ensures.rising c.self.view_is
