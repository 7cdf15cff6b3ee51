-- What a run of the laboratory keeps of the top call's promise.
use Rattle.laboratory.proofs.Names.{◌≡◌, ℕ, List, [], Some, inl, inr, subst, ◌⊎◌, Option, replicate, All, asked_of, divisor_of, fates_are, AreFor, IsLabShelf, Lab}
use Rattle.std.specs.String.{string_bytes}
use Rattle.stream_port.specs.declared.fates.Asked.{Asked}
use Rattle.medium_port.specs.declared.memory_media.MemoryMedium.{MemoryMedium}
use Rattle.medium_port.specs.declared.memory_shelves.MemoryShelf.{MemoryShelf}
use Rattle.swallow_top.specs.Finishes.{account_of, tellers}
use Rattle.swallow_top.specs.Promise.{Call, Promise}
use Rattle.laboratory.specs.Calls.{IsStarved, LabPromise, RanAs, call_made, cut}
use Rattle.laboratory.specs.Losses.{IsFated}
use Rattle.laboratory.specs.Runs.{LabRun}

-- the call that was made, with other words, and with what the fates and the clock had told before it
abbrev call_with : LabRun → Lab → (before after : MemoryShelf) → List (List ℕ) → List Asked → Option (List ℕ) → Call MemoryMedium
call_with r lab before after words asked answers = record (call_made r lab before after) {
  words = words;
  told = account_of r.trace (tellers asked (asked_of r.fates) answers (Some (replicate r.clock.calls r.clock.moment)));
}

-- a run over that shelf, with fates and a clock that are still what they were
pub ran_as : (r : LabRun) (lab : Lab) (before after : MemoryShelf) (words : List (List ℕ)) (asked : List Asked) (answers : Option (List ℕ)) → IsLabShelf lab before → words ≡ cut (string_bytes lab.text) → asked ≡ [] → answers ≡ Some []
    → divisor_of r.fates ≡ lab.lose → r.clock.moment ≡ 0 → Promise (call_with r lab before after words asked answers) → RanAs r lab
ran_as r lab before after words asked answers shelf words_are none_asked none_answered lose still promise =
    let one = subst (λ w. Promise (call_with r lab before after w asked answers)) words_are promise in
    let two = subst (λ a. Promise (call_with r lab before after (cut (string_bytes lab.text)) a answers)) none_asked one in
    record {
      before = before;
      after = after;
      shelf = shelf;
      promise = subst (λ a. Promise (call_with r lab before after (cut (string_bytes lab.text)) [] a)) none_answered two;
      lose = lose;
      fates = subst (λ n. All (IsFated n) (asked_of r.fates)) lose (fates_are r.fates);
      clock = still;
    }

-- what a run came to for words that are for it
pub done_as : (r : LabRun) (words : List (List ℕ)) (lab : Lab) → AreFor words lab → IsStarved r ⊎ RanAs r lab → LabPromise r words
done_as r words lab are (inl starved) = inr (inl starved)
done_as r words lab are (inr ran) = inr (inr (lab, are, ran))
