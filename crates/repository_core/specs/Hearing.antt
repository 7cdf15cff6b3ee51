-- What a repository does when it hears a moment: records expire, and it asks again for what its reads wait for.
use Rattle.std.specs.Prelude.{ℕ, nat_le, false, List, [], ◌∷◌, Option, Some, None, if◌then◌else◌}
use Rattle.pseudo_time.specs.StampParts.{StampParts}
use Rattle.pseudo_time.specs.declared.decisions.Decision.{Decision}
use Rattle.pseudo_time.specs.declared.decisions.Decision.TheVariants as decision
use Rattle.repository_draft.specs.Effect.TheVariants as effect
use Rattle.commit_record.specs.declared.states.RecordState.{RecordState}
use Rattle.commit_record.specs.declared.states.RecordState.TheVariants as state
use Rattle.repository_log.specs.Logs.{record_of}
use Rattle.repository_log.specs.Expiries.{due}
use Rattle.repository_core.specs.Hands.{Hand, now, note}
use Rattle.repository_core.specs.Rows.{release, tell_askers}
pub use Rattle.repository_draft.specs.Replies.{waited, asks}
unfoldable pub use Rattle.repository_draft.specs.Replies.{ask_again}

-- one after the other expires, without being asked again
abbrev pub expired : List (StampParts × Decision) → Hand → Hand
expired [] h = h
expired (e ∷ more) h = expired more (release e.0 (tell_askers e.0 false (note (effect.Decide e.0 e.1) h)))

abbrev pub expire_as : ℕ → StampParts → Hand → Option RecordState → Hand
expire_as m s h None = h
expire_as m s h (Some (state.Unknown t)) =
    if nat_le t m then release s (tell_askers s false (note (effect.Decide s (decision.Expired t m)) h)) else h
expire_as m s h (Some (state.Decided d)) = h

-- where the record is still unknown and due: a Decide, then its Tells, then the reads that it sets free
unfoldable pub expire : ℕ → StampParts → Hand → Hand
expire m s h = expire_as m s h (record_of (now h) s)

abbrev pub expire_all : ℕ → List StampParts → Hand → Hand
expire_all m [] h = h
expire_all m (s ∷ more) h = expire_all m more (expire m s h)

-- a moment is heard
unfoldable pub on_moment : Hand → ℕ → Hand
on_moment h m = ask_again (expire_all m (due m (now h)) (record h { moment = m }))
