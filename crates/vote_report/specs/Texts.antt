-- The text of polls.
use Rattle.std.specs.Prelude.{ℕ, suc, true, false, Bool, List, [], ◌∷◌, ◌++◌, codes, Option, Some, None}
use Rattle.std.specs.List.{flat_map}
use Rattle.report_writer.specs.declared.records.Down.{Down}
use Rattle.report_writer.specs.declared.records.Wire.{Wire}
use Rattle.report_writer.specs.Parts.{stamp_text}
use Rattle.report_writer.specs.Reports.{named, down_text, wire_line}
use Rattle.vote_report.specs.declared.standings.PollStanding.{PollStanding}

abbrev pub held_text : Option Bool → List ℕ
held_text (Some true) = codes "committed"
held_text (Some false) = codes "aborted"
held_text None = codes "open"

-- the line of the poll with this number
abbrev pub poll_line : ℕ → PollStanding → List ℕ
poll_line number p = named (codes "poll ") number ++ 32 ∷ (stamp_text p.stamp ++ 32 ∷ (held_text p.held ++ 10 ∷ []))

-- of polls with the numbers from this one on
abbrev pub poll_lines : ℕ → List PollStanding → List ℕ
poll_lines number [] = []
poll_lines number (p ∷ ps) = poll_line number p ++ poll_lines (suc number) ps

abbrev pub votes_text : List PollStanding → List Down → Wire → List ℕ
votes_text polls downs wire = codes "swallow votes 1\n" ++ (poll_lines 1 polls ++ (flat_map down_text downs ++ wire_line wire))

-- the line that refuses an input
abbrev pub fault_line : ℕ → List ℕ
fault_line line = named (codes "swallow: votes line ") line ++ 10 ∷ []
