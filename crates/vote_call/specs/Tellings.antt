-- What is reported of votes.
use Rattle.std.specs.Prelude.{ℕ, Bool, List, ◌++◌}
use Rattle.std.specs.List.{list_any}
use Rattle.pseudo_time.specs.Nodes.{repository}
use Rattle.pseudo_time.specs.declared.nodes.NodeId.{NodeId}
use Rattle.report_writer.specs.declared.records.Down.{Down}
use Rattle.world_core.specs.Counts.{down_cause}
use Rattle.trace_report.specs.Reports.{down_shown, wire_shown}
use Rattle.vote_report.specs.Texts.{votes_text}
use Rattle.vote_report.specs.declared.standings.PollStanding.{PollStanding}
use Rattle.world_core.specs.declared.entries.Entry.{Entry}
use Rattle.world_core.specs.declared.traces.Trace.{Trace}
use Rattle.world_core.specs.Walks.{is_down}

-- the node, if it is down
abbrev pub down_at : List Entry → NodeId → List Down
down_at es n = down_shown n (down_cause n es)

-- the members that are down, in their order
abbrev pub members_down : List Entry → List Down
members_down es = down_at es (repository 1) ++ (down_at es (repository 2) ++ down_at es (repository 3))

abbrev pub some_down : List Entry → Bool
some_down es = list_any is_down es

-- the polls as they stand, the members that are down, and what the wire carried
abbrev pub told_text : Trace → List PollStanding → List ℕ
told_text t standings = votes_text standings (members_down t.entries) (wire_shown t)
