use Rattle.std.proofs.Common.{◌≡◌, take}
use Rattle.script_replay.specs.Attempts.{answers_of}
use Rattle.script_replay.specs.Works.{Agrees}
use Rattle.script_replay.proofs.answers.take_all.Given as goal

-- the run was given the replies so far, and they agree
abbrev pub invariant-loop-reply : goal.invariant-loop-reply
invariant-loop-reply l = (l.run.script ≡ l.initial.run.script) × (l.run.answers ≡ answers_of (take l.reply-index l.replies)) × Agrees l.map l.run l.writes
