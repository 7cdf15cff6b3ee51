use Rattle.std.proofs.Common.{◌≡◌, ◌++◌, ℕ, List, length, map, reverse}
use Rattle.pseudo_time.specs.StampParts.{StampParts}
use Rattle.serial_model.specs.Questions.{Tree}
use Rattle.world_core.specs.Deeds.{RunLogs, Try}
use Rattle.log_replay.specs.Drafts.{draft_parts, draft_try, read_off}
use Rattle.log_replay.specs.Folders.{Reads}
use Rattle.log_replay.specs.Tellers.{AllScripts, HasTold, KeysIn, Knows}
use Rattle.log_replay.specs.Telling.{told_at}
use Rattle.log_replay.specs.Unfit.{stamps_of}
use Rattle.log_replay.specs.declared.drafts.Draft.{Draft}
use Rattle.pseudo_time.specs.Lists.{Has}
use Rattle.log_replay.proofs.tells.Teller.tell_log.Given as goal

-- those that are done, newest first, and what was told of them; what is known of decisions stays
abbrev pub invariant-loop-draft : goal.invariant-loop-draft
invariant-loop-draft l = (done : List Draft) × (map draft_parts (l.tries.items ++ done) ≡ (read_off (reverse l.log)).tries) × (l.self.commits ≡ l.initial.self.commits)
    × ((script : List ℕ → Tree) (k : RunLogs) (ts : List Try) → ((d : Draft) → Has d (l.tries.items ++ done) → Reads script d.text) → Knows k l.initial.self → HasTold k ts l.initial.self → HasTold k (map (draft_try script) (map draft_parts done) ++ ts) l.self)
    × ((ss : List StampParts) → KeysIn ss l.initial.self → KeysIn (stamps_of (map draft_parts done) ++ ss) l.self)
    × (AllScripts (told_at l.initial.self.told) → AllScripts (told_at l.self.told))

abbrev pub decreases-loop-draft : goal.decreases-loop-draft
decreases-loop-draft l = length l.tries.items
