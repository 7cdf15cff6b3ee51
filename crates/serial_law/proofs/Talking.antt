-- answers that agree with a map give what the script does alone
use Rattle.serial_law.proofs.Names.{StampParts, ObjectId, Value, Mark, left_after, Answer, Got, Over, Request, Stored, ToRead, ToWrite, asks, Ends, Reads, Says, Tree, Writes, after, left_by, talked, talked_alone, Objects, value_at, Ending, talked-stop, ◌≡◌, Bool, List, [], ◌∷◌, ◌++◌, refl, sym, ◌∙◌, ap, subst, Option, Some, None, AnswersOf, IsFrontOf, Talked}
use Rattle.serial_law.proofs.Own.{Kinds, Kind_fits, assoc}
use Rattle.serial_law.proofs.Lone.{Lone, Holds_below, value}
use Rattle.value_form.specs.declared.transcripts.Line.TheVariants as line
use Rattle.std.specs.FinMap as finite
use Rattle.serial_model.proofs.AgreeLemmas.{agrees-whole}

-- one answer is right at this request and this map
abbrev Right : Option Request → Answer → Objects → Type 0
Right None a m = ⊥
Right (Some (ToRead o)) (Got v) m = v ≡ value_at m o
Right (Some (ToRead o)) Stored m = ⊥
Right (Some (ToWrite o v)) Stored m = Unit {0}
Right (Some (ToWrite o v)) (Got w) m = ⊥

-- as far as the answers go, the script did what it does alone; once it ended, that is all of it, with the same ending and map
pub record Alike (t : Tree) (ans : List Answer) (m : Objects) : Type 0 where
  pub front : IsFrontOf (talked t ans).lines (talked_alone t m).lines
  pub whole : (e : Ending) → (talked t ans).stop ≡ Over e → ((talked t ans).lines ≡ (talked_alone t m).lines) × ((talked_alone t m).stop ≡ Over e) × (left_by t m ≡ left_after t ans m)

alike-front : (t : Tree) (ans : List Answer) (m : Objects) → AnswersOf t ans m → IsFrontOf (talked t ans).lines (talked_alone t m).lines
alike-front (Ends e) [] m h = ([], refl)
alike-front (Ends e) (a ∷ ans) m h = absurd h
alike-front (Says v t) ans m h = let r = alike-front t ans m h in (r.0, ap (λ xs. line.Print v ∷ xs) r.1)
alike-front (Reads o k) (Got v ∷ ans) m h =
    let P : Value → Type 0 = λ w. IsFrontOf (talked (Reads o k) (Got v ∷ ans)).lines (line.Read o w ∷ (talked_alone (k w) m).lines) in
    let r = alike-front (k v) ans m h.1 in
    subst P h.0 (r.0, ap (λ xs. line.Read o v ∷ xs) r.1)
alike-front (Reads o k) (Stored ∷ ans) m h = absurd h
alike-front _ [] m h = (_, refl)
alike-front (Writes o v t) (Stored ∷ ans) m h = let r = alike-front t ans (finite.insert m o v) h in (r.0, ap (λ xs. line.Wrote o v ∷ xs) r.1)
alike-front (Writes o v t) (Got w ∷ ans) m h = absurd h

pub alike : (t : Tree) (ans : List Answer) (m : Objects) → AnswersOf t ans m → Alike t ans m
alike t ans m h = record {
  front = alike-front t ans m h;
  whole = λ e k. let w = agrees-whole t ans m e h (sym (talked-stop t ans) ∙ k) in (ap (λ (x : Talked). x.lines) (sym w.0), ap (λ (x : Talked). x.stop) w.0 ∙ k, w.1);
}

-- answers that are right one by one agree
agrees : (t : Tree) (ans : List Answer) (m : Objects) →
    ((pre post : List Answer) (a : Answer) → ans ≡ pre ++ (a ∷ post) → Right (asks (after t pre)) a (left_after t pre m)) →
    AnswersOf t ans m
agrees (Ends e) (a ∷ ans) m h = h [] ans a refl
agrees (Says v t) ans m h = agrees t ans m h
agrees (Reads o k) (Got v ∷ ans) m h = (h [] ans (Got v) refl, agrees (k v) ans m (λ pre post a e. h (Got v ∷ pre) post a (ap (λ xs. Got v ∷ xs) e)))
agrees (Reads o k) (Stored ∷ ans) m h = h [] ans Stored refl
agrees _ [] m h = tt
agrees (Writes o v t) (Stored ∷ ans) m h = agrees t ans (finite.insert m o v) (λ pre post a e. h (Stored ∷ pre) post a (ap (λ xs. Stored ∷ xs) e))
agrees (Writes o v t) (Got w ∷ ans) m h = h [] ans (Got w) refl

kinds-of : (t : Tree) (ans : List Answer) → ((pre post : List Answer) (a : Answer) → ans ≡ pre ++ (a ∷ post) → Kind_fits (asks (after t pre)) a) → Kinds t ans
kinds-of (Ends e) (a ∷ ans) h = h [] ans a refl
kinds-of (Says v t) ans h = kinds-of t ans h
kinds-of (Reads o k) (Got v ∷ ans) h = kinds-of (k v) ans (λ pre post a e. h (Got v ∷ pre) post a (ap (λ xs. Got v ∷ xs) e))
kinds-of (Reads o k) (Stored ∷ ans) h = h [] ans Stored refl
kinds-of _ [] h = tt
kinds-of (Writes o v t) (Stored ∷ ans) h = kinds-of t ans (λ pre post a e. h (Stored ∷ pre) post a (ap (λ xs. Stored ∷ xs) e))
kinds-of (Writes o v t) (Got w ∷ ans) h = h [] ans (Got w) refl

kind-at : (t : Tree) (ans : List Answer) (s : StampParts) (marks : ObjectId → List Mark) (sure : StampParts → Bool) → Lone t ans s marks sure →
    (pre post : List Answer) (a : Answer) → ans ≡ pre ++ (a ∷ post) → Kind_fits (asks (after t pre)) a
kind-at t ans s marks sure f pre post (Got v) e = let g = f.got pre post v e in subst (λ r. Kind_fits r (Got v)) (sym g.1) tt
kind-at t ans s marks sure f pre post Stored e = let g = f.wrote pre post e in subst (λ r. Kind_fits r Stored) (sym g.2) tt

pub kinds-front : (t : Tree) (ans : List Answer) (s : StampParts) (marks : ObjectId → List Mark) (sure : StampParts → Bool) → Lone t ans s marks sure →
    (pre y : List Answer) → ans ≡ pre ++ y → Kinds t pre
kinds-front t ans s marks sure f pre y e = kinds-of t pre (λ p x a k. kind-at t ans s marks sure f p (x ++ y) a (e ∙ ap (λ xs. xs ++ y) k ∙ assoc p (a ∷ x) y))

pub kinds-all : (t : Tree) (ans : List Answer) (s : StampParts) (marks : ObjectId → List Mark) (sure : StampParts → Bool) → Lone t ans s marks sure → Kinds t ans
kinds-all t ans s marks sure f = kinds-of t ans (λ p x a k. kind-at t ans s marks sure f p x a k)

right-at : (t : Tree) (ans : List Answer) (s : StampParts) (marks : ObjectId → List Mark) (sure : StampParts → Bool) → Lone t ans s marks sure →
    (m : Objects) → Holds_below marks sure s m → (pre post : List Answer) (a : Answer) → ans ≡ pre ++ (a ∷ post) →
    Right (asks (after t pre)) a (left_after t pre m)
right-at t ans s marks sure f m before pre post (Got v) e =
    let g = f.got pre post v e in
    subst (λ r. Right r (Got v) (left_after t pre m)) (sym g.1)
    (value t ans s marks sure f m before pre post v g.0 (kinds-front t ans s marks sure f pre (Got v ∷ post) e) e g.1)
right-at t ans s marks sure f m before pre post Stored e = let g = f.wrote pre post e in subst (λ r. Right r Stored (left_after t pre m)) (sym g.2) tt

-- for every try, committed or not: its answers agree
pub answers-alone : (t : Tree) (ans : List Answer) (s : StampParts) (marks : ObjectId → List Mark) (sure : StampParts → Bool) → Lone t ans s marks sure →
    (m : Objects) → Holds_below marks sure s m → AnswersOf t ans m
answers-alone t ans s marks sure f m before = agrees t ans m (right-at t ans s marks sure f m before)

pub alone : (t : Tree) (ans : List Answer) (s : StampParts) (marks : ObjectId → List Mark) (sure : StampParts → Bool) → Lone t ans s marks sure →
    (m : Objects) → Holds_below marks sure s m → Alike t ans m
alone t ans s marks sure f m before = alike t ans m (answers-alone t ans s marks sure f m before)
