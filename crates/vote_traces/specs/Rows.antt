-- A worked trace: one poll that wishes to commit, and each message taken once.
use Rattle.std.specs.Prelude.{ℕ, List, [], ◌∷◌}
use Rattle.pseudo_time.specs.Nodes.{repository, broker}
use Rattle.pseudo_time.specs.StampParts.{StampParts}
use Rattle.pseudo_time.specs.declared.nodes.NodeId.{NodeId}
use Rattle.stream_port.specs.declared.fates.Fate.{Fate}
use Rattle.record_votes.specs.declared.ballots.Wish.TheVariants as wish
use Rattle.record_votes.specs.Voting.{Line}
use Rattle.world_core.specs.declared.entries.Entry.{Entry}
use Rattle.world_core.specs.declared.entries.Entry.TheVariants.{Take, Go, Gate, Tick}
use Rattle.world_core.specs.declared.traces.Opened.{Opened}
use Rattle.vote_traces.specs.Walks.{Base}

abbrev pub row_stamp : StampParts
row_stamp = record { clock = 1; broker = 1; home = 1 }

abbrev pub row_line : Line
row_line = record { stamp = row_stamp; timeout = 5; wish = wish.Commit }

abbrev pub blank : NodeId → Opened
blank n = record { node = n; effects = [] }

abbrev pub row_base : Base
row_base = record {
  start = 0;
  opened = blank (repository 1) ∷ blank (repository 2) ∷ blank (repository 3) ∷ blank (broker 1) ∷ [];
  lines = row_line ∷ [];
}

-- one copy, at once
abbrev pub plain : Fate
plain = record { copies = 1; overtake = 0; hold = 0 }

abbrev pub row_fates : List Fate
row_fates = plain ∷ plain ∷ plain ∷ plain ∷ plain ∷ plain ∷ plain ∷ plain ∷ plain ∷ plain ∷ plain ∷ plain ∷ []

-- each turn takes one message: members 1, 2, 3 and then the poll, round by round, until it holds a decision
abbrev pub row_entries : List Entry
row_entries =
    Go (broker 1) ∷ Gate (broker 1) ∷ Take (repository 1) 1 ∷ Gate (repository 1) ∷ Take (repository 2) 2 ∷ Gate (repository 2) ∷
    Take (repository 3) 3 ∷ Gate (repository 3) ∷ Take (broker 1) 4 ∷ Gate (broker 1) ∷ Take (repository 1) 7 ∷
    Gate (repository 1) ∷ Take (broker 1) 5 ∷ Gate (broker 1) ∷ Take (repository 2) 9 ∷ Gate (repository 2) ∷ Take (broker 1) 6 ∷
    Gate (broker 1) ∷ Take (repository 3) 11 ∷ Gate (repository 3) ∷ Take (broker 1) 8 ∷ Gate (broker 1) ∷ Take (broker 1) 10 ∷
    Gate (broker 1) ∷ []

-- a Tick before the poll has gone
abbrev pub early_tick : List Entry
early_tick = Tick 1 ∷ []

-- a message taken twice
abbrev pub taken_twice : List Entry
taken_twice = Go (broker 1) ∷ Gate (broker 1) ∷ Take (repository 1) 1 ∷ Gate (repository 1) ∷ Take (repository 1) 1 ∷ []
