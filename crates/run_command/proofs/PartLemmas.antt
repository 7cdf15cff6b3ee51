-- The tests of a trace for a node that couldn't be opened.
use Rattle.std.proofs.Common.{◌≡◌, ◌⊎◌, true, List, [], ◌∷◌, ap, inl, inr, refl}
use Rattle.std.proofs.lemmas.Bool.{false≢true, or_cases}
use Rattle.std.specs.List.{list_all, list_any}
use Rattle.pseudo_time.specs.Lists.{Every, Has}
use Rattle.pseudo_time.specs.declared.down_causes.DownCause.{DownCause}
use Rattle.pseudo_time.specs.declared.nodes.NodeId.{NodeId}
use Rattle.message_core.proofs.NodeLemmas.{same_is, same_node-refl}
use Rattle.object_history.proofs.BoolLemmas.{and-both, and-left, and-right}
use Rattle.run_rounds.proofs.ListLemmas.{any-has}
use Rattle.world_core.specs.Pasts.{WasNotOpened}
use Rattle.world_core.specs.Walks.{is_down}
use Rattle.world_core.specs.declared.entries.Entry.{Entry}
use Rattle.world_core.specs.declared.entries.Entry.TheVariants.{Take, Go, Learn, Hear, Gate, Crash, Down, Tick}
use Rattle.run_command.specs.Parts.{falls, tells_unopened}

falls-is : (n : NodeId) (e : Entry) → falls n e ≡ true → (cause : DownCause) × (e ≡ Down n cause)
falls-is n (Down node cause) h = (cause, ap (λ (m : NodeId). Down m cause) (same_is node n h))
falls-is n (Take node number) h = absurd (false≢true h)
falls-is n (Go node) h = absurd (false≢true h)
falls-is n (Learn node stamp committed) h = absurd (false≢true h)
falls-is n (Hear node) h = absurd (false≢true h)
falls-is n (Gate node) h = absurd (false≢true h)
falls-is n (Crash node kept) h = absurd (false≢true h)
falls-is n (Tick moment) h = absurd (false≢true h)

some-down : (n : NodeId) (es : List Entry) → list_any (falls n) es ≡ true → (cause : DownCause) × Has (Down n cause) es
some-down n [] h = absurd (false≢true h)
some-down n (e ∷ es) h = by (λ k. some-down n es k) (or_cases (falls n e) (list_any (falls n) es) h)
  where
    by : (list_any (falls n) es ≡ true → (cause : DownCause) × Has (Down n cause) es) → (falls n e ≡ true) ⊎ (list_any (falls n) es ≡ true) → (cause : DownCause) × Has (Down n cause) (e ∷ es)
    by later (inl k) = let f = falls-is n e k in (f.0, inl f.1)
    by later (inr k) = let f = later k in (f.0, inr f.1)

every-down : (es : List Entry) → list_all is_down es ≡ true → Every (λ e. is_down e ≡ true) es
every-down [] h = tt
every-down (e ∷ es) h = (and-left (is_down e) (list_all is_down es) h, every-down es (and-right (is_down e) (list_all is_down es) h))

all-down : (es : List Entry) → Every (λ e. is_down e ≡ true) es → list_all is_down es ≡ true
all-down [] h = refl
all-down (e ∷ es) h = and-both (is_down e) (list_all is_down es) h.0 (all-down es h.1)

-- the test holds just if the node wasn't opened
pub unopened-is : (es : List Entry) (n : NodeId) → tells_unopened n es ≡ true → WasNotOpened es n
unopened-is es n h = (some-down n es (and-right (list_all is_down es) (list_any (falls n) es) h), every-down es (and-left (list_all is_down es) (list_any (falls n) es) h))

pub unopened-of : (es : List Entry) (n : NodeId) → WasNotOpened es n → tells_unopened n es ≡ true
unopened-of es n h = and-both (list_all is_down es) (list_any (falls n) es) (all-down es h.1) (any-has (falls n) es (Down n h.0.0) h.0.1 (same_node-refl n))
