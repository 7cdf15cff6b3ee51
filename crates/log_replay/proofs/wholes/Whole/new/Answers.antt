use Rattle.std.proofs.Common.{ap, reverse}
use Rattle.std.specs.BTreeMap.{get, is_at}
use Rattle.std.specs.Map.{lookup}
use Rattle.log_replay.specs.Whole.{start_cmp}
use Rattle.log_replay.specs.declared.wholes.Start.{Start}
use Rattle.log_replay.proofs.JoinLemmas.{met-none}
use Rattle.log_replay.proofs.wholes.Whole.new.Goals as goal

pub returns : goal.returns
returns c = record {
  log_is = ap reverse c.new.ensures.items;
  met = met-none (λ (q : Start). get start_cmp c.new-2.result q) (λ (q : Start). ap (λ es. lookup (is_at (start_cmp q)) es) c.new-2.ensures.empty);
}
