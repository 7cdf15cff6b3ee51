-- The books of a repository, in a call and beside its log.
use Rattle.std.specs.Prelude.{◌≡◌, ℕ, Bool, List, [], Result, OnOk}
use Rattle.pseudo_time.specs.StampParts.{StampParts}
use Rattle.pseudo_time.specs.declared.decisions.Decision.{Decision}
use Rattle.repository_draft.specs.Effect.{Effect}
use Rattle.repository_draft.specs.Mark.{Mark}
use Rattle.repository_draft.specs.HistoryFault.{HistoryFault}
use Rattle.repository_core.specs.declared.books.Books.{Books}
use Rattle.repository_core.specs.Hands.{Hand}
use Rattle.repository_core.specs.Calls.{Since, IsCaused, WentOn}
use Rattle.repository_log.specs.Lookups.{BooksShow}

-- what they look up agrees with the log, but for the records whose expiry isn't noted yet
abbrev pub AgreeBut : {H : Type 0} {g : _} → (H → List Mark) → List (StampParts × Decision) → List Effect → Books H g → Type 0
AgreeBut content pending log b = BooksShow pending log (content b.histories) b.records b.early.entries

-- what they look up agrees with the log
abbrev pub AgreeWith : {H : Type 0} {g : _} → (H → List Mark) → List Effect → Books H g → Type 0
AgreeWith content log b = AgreeBut content [] log b

-- the histories are what a call since its beginning may make of them
abbrev pub AreSince : {H B : Type 0} {g : _} → (H → List Mark) → (H → B) → (H → ℕ) → (H → ℕ) → Books H g → Type 0
AreSince content below faults damage b = Since content below faults damage b.first.value b.histories

abbrev pub HaveFault : {H : Type 0} {g : _} → Bool → (H → ℕ) → (H → ℕ) → Books H g → HistoryFault → Type 0
HaveFault tells faults damage b f = IsCaused tells faults damage b.first.value b.histories f

abbrev pub AreOfOneCall : {H : Type 0} {g : _} → Books H g → Books H g → Type 0
AreOfOneCall old new = new.first.value ≡ old.first.value

-- between two calls: nothing is added and nothing owed, and what the books look up agrees with the log
abbrev pub IsOpen : {H : Type 0} {g : _} → (H → List Mark) → Hand → Books H g → Type 0
IsOpen content h b = (h.added ≡ []) × (h.outs ≡ []) × AgreeWith content h.past b

-- what was pending still is, and beside it they still agree
abbrev pub StillAgree : {H T E : Type 0} {g k : _} → (H → List Mark) → List Effect → Books H g → List Effect → Books H k → Result T E → Type 0
StillAgree content before old after new result =
    (pending : List (StampParts × Decision)) → AgreeBut content pending before old → OnOk result (AgreeBut content pending after new)

-- the same of the books
abbrev pub HaveGoneOn : {H B T : Type 0} {g k : _} → Bool → (H → List Mark) → (H → B) → (H → ℕ) → (H → ℕ) → Books H g → Books H k → Result T HistoryFault → Type 0
HaveGoneOn tells content below faults damage old new result = WentOn tells content below faults damage old.first.value new.first.value new.histories result
