use Rattle.broker_core.proofs.Names.{◌∙◌, ap, sym, option_copied}
use Rattle.broker_core.proofs.AddLemmas.{act-there}
use Rattle.broker_core.proofs.owed.try_or_spent.Goals as goal

pub unreachable-requires : goal.unreachable-requires
unreachable-requires c = act-there c.args.ledger.now.acts c.args.ledger.now.notes c.requires c.notes-notes.ensures.are_notes.started (sym c.last_act.ensures.act ∙ ap option_copied c.in_default.is)
