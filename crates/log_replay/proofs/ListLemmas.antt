-- The values of a map of stamps, in the order of its keys, tell all.
use Rattle.std.proofs.Common.{◌≡◌, inl, inr, Bool, true, false, List, [], ◌∷◌, refl, sym, ◌∙◌, ap, subst, Option, Some, None}
use Rattle.std.specs.Prelude.{cond}
use Rattle.std.proofs.lemmas.Bool.{false≢true, true≢false}
use Rattle.std.specs.Ordering.{is_eq, is_lt}
use Rattle.std.specs.declared.cmp.Ordering.TheVariants.{Less}
use Rattle.std.specs.BTreeMap.{is_at}
use Rattle.std.specs.Map.{keys_of, lookup, values_of}
use Rattle.std.specs.List.{AllByRecursion}
unfoldable use Rattle.std.specs.List.Sorted.{IsStrictlySortedBy}
use Rattle.std.specs.Global.{Vec}
use Rattle.pseudo_time.specs.Lists.{Every, Has}
use Rattle.pseudo_time.specs.Nodes.{broker}
use Rattle.pseudo_time.specs.StampParts.{StampParts, stamp_cmp}
use Rattle.pseudo_time.proofs.OrderLemmas.{same_stamp-is, same_stamp-self}
unfoldable use Rattle.pseudo_time.specs.Order.{same_stamp, stamp_lt}
use Rattle.world_core.specs.Deeds.{RunLogs, committed, find}
use Rattle.script_replay.specs.Attempts.{stamp_of}
use Rattle.script_replay.specs.Replays.{HasScript, HaveScripts}
use Rattle.script_replay.specs.declared.attempts.Put.{Put}
use Rattle.script_replay.specs.declared.attempts.Told.{Told}
use Rattle.script_replay.specs.declared.attempts.Told.TheVariants.{Tried}
use Rattle.log_replay.specs.Telling.{AreGiven}
use Rattle.log_replay.specs.Tellers.{AllScripts}
use Rattle.log_replay.specs.Tells.{AreRising, HasPut, IsTold, TellsAll}
use Rattle.log_replay.specs.Untold.{GaveAll, Tells, TellsTries}

abbrev Entry : Type 0
Entry = StampParts × Told

abbrev at_key : List Entry → StampParts → Option Told
at_key es s = lookup (is_at (stamp_cmp s)) es

is-key : (s t : StampParts) → is_eq (stamp_cmp s t) ≡ true → s ≡ t
unfolding same_stamp
is-key s t e = same_stamp-is s t e

self : (s : StampParts) → is_eq (stamp_cmp s s) ≡ true
unfolding same_stamp
self s = same_stamp-self s

-- ---- what is found is listed

found-by : (b : Bool) (e : Entry) (es : List Entry) (s : StampParts) (x : Told) → is_eq (stamp_cmp s e.0) ≡ b → (at_key es s ≡ Some x → Has (s, x) es) → at_key (e ∷ es) s ≡ Some x → Has (s, x) (e ∷ es)
found-by true e es s x q rest h =
    let c : Some e.1 ≡ Some x = sym (ap (λ (b : Bool). cond b (Some e.1) (at_key es s)) q) ∙ h in
    let d : e.1 ≡ x = cc c in
    inl (λ i. (sym (is-key s e.0 q) i, d i))
found-by false e es s x q rest h = inr (rest (sym (ap (λ (b : Bool). cond b (Some e.1) (at_key es s)) q) ∙ h))

found-has : (es : List Entry) (s : StampParts) (x : Told) → at_key es s ≡ Some x → Has (s, x) es
found-has [] s x h = absurd (cc h)
found-has (e ∷ es) s x h = found-by (is_eq (stamp_cmp s e.0)) e es s x refl (found-has es s x) h

value-has : (es : List Entry) (s : StampParts) (x : Told) → Has (s, x) es → Has x (values_of es)
value-has [] s x h = h
value-has (e ∷ es) s x (inl q) = inl (ap (λ (z : Entry). z.1) q)
value-has (e ∷ es) s x (inr h) = inr (value-has es s x h)

-- ---- what is listed is found

lesser : (s t : StampParts) → stamp_cmp s t ≡ Less → is_eq (stamp_cmp t s) ≡ true → ⊥
lesser s t l e = let q : t ≡ s = is-key t s e in false≢true (ap is_eq (sym l) ∙ (ap (λ z. is_eq (stamp_cmp s z)) q ∙ self s))

below-each : (s : StampParts) (es : List Entry) (e : Entry) → AllByRecursion (λ y. stamp_cmp s y ≡ Less) (keys_of es) → Has e es → stamp_cmp s e.0 ≡ Less
below-each s [] e h k = absurd k
below-each s (f ∷ es) e h (inl q) = subst (λ (z : Entry). stamp_cmp s z.0 ≡ Less) q h.0
below-each s (f ∷ es) e h (inr k) = below-each s es e h.1 k

here-by : (b : Bool) (f : Entry) (es : List Entry) (e : Entry) → is_eq (stamp_cmp e.0 f.0) ≡ b → stamp_cmp f.0 e.0 ≡ Less → at_key es e.0 ≡ Some e.1 → at_key (f ∷ es) e.0 ≡ Some e.1
here-by true f es e q l h = absurd (lesser f.0 e.0 l q)
here-by false f es e q l h = ap (λ (b : Bool). cond b (Some f.1) (at_key es e.0)) q ∙ h

has-found : (es : List Entry) (e : Entry) → IsStrictlySortedBy stamp_cmp (keys_of es) → Has e es → at_key es e.0 ≡ Some e.1
unfolding IsStrictlySortedBy
has-found [] e h k = absurd k
has-found (f ∷ es) e h (inl q) = subst (λ (z : Entry). at_key (f ∷ es) z.0 ≡ Some z.1) q (ap (λ (b : Bool). cond b (Some f.1) (at_key es f.0)) (self f.0))
has-found (f ∷ es) e h (inr k) = here-by (is_eq (stamp_cmp e.0 f.0)) f es e refl (below-each f.0 es e h.0 k) (has-found es e h.1 k)

-- ---- all of them

has-key : (es : List Entry) (x : Told) → Has x (values_of es) → (s : StampParts) × Has (s, x) es
has-key [] x h = absurd h
has-key (e ∷ es) x (inl q) = (e.0, inl (λ i. (e.0, q i)))
has-key (e ∷ es) x (inr h) = let w = has-key es x h in (w.0, inr w.1)

every-value : (P : Told → Type 0) (es : List Entry) → ((e : Entry) → Has e es → P e.1) → Every P (values_of es)
every-value P [] h = tt
every-value P (e ∷ es) h = (h e (inl refl), every-value P es (λ f k. h f (inr k)))

rising : (es : List Entry) → IsStrictlySortedBy stamp_cmp (keys_of es) → ((e : Entry) → Has e es → stamp_of e.1 ≡ e.0) → AreRising (values_of es)
unfolding IsStrictlySortedBy stamp_lt
rising [] h k = tt
rising (e ∷ es) h k = (
  every-value (λ (y : Told). is_lt (stamp_cmp (stamp_of e.1) (stamp_of y)) ≡ true) es
      (λ f j. ap is_lt (ap (λ z. stamp_cmp z (stamp_of f.1)) (k e (inl refl)) ∙ (ap (stamp_cmp e.0) (k f (inr j)) ∙ below-each e.0 es f h.0 j))),
  rising es h.1 (λ f j. k f (inr j)),
)

module _ (k : RunLogs) (es : List Entry) (sorted : IsStrictlySortedBy stamp_cmp (keys_of es)) where
  found : (e : Entry) → Has e es → at_key es e.0 ≡ Some e.1
  found e h = has-found es e sorted h

  listed : (s : StampParts) (x : Told) → at_key es s ≡ Some x → Has x (values_of es)
  listed s x h = value-has es s x (found-has es s x h)

  pub all-tried : (puts : StampParts → Option (Vec Put)) → AreGiven k (at_key es) puts → TellsTries k (values_of es)
  all-tried puts given = record {
    rising = rising es sorted (λ e h. (given.each e.0 e.1 (found e h)).0);
    each = every-value (IsTold k) es (λ e h. (given.each e.0 e.1 (found e h)).1);
    tried = λ t h. let w = given.tried t h in (w.0, listed t.stamp (Tried w.0) w.1, w.2);
  }

  pub all-told : AreGiven k (at_key es) (λ s. None) → TellsAll k (values_of es)
  all-told given = let tries = all-tried (λ s. None) given in record { rising = tries.rising; each = tries.each; tried = tries.tried; given = gifts; lost = gone }
    where
      gifts : (s : StampParts) → HasPut k s → committed k s ≡ true → (x : Told) × Has x (values_of es) × (stamp_of x ≡ s)
      gifts s p c = by (at_key es s) refl
        where
          by : (o : Option Told) → at_key es s ≡ o → (x : Told) × Has x (values_of es) × (stamp_of x ≡ s)
          by (Some x) e = (x, listed s x e, (given.each s x e).0)
          by None e = absurd (true≢false (sym c ∙ (given.done s e refl p).0))

      gone : (s : StampParts) → HasPut k s → find s k.tries ≡ None → k.logs (broker s.broker) ≡ []
      gone s p n = by (at_key es s) refl
        where
          by : (o : Option Told) → at_key es s ≡ o → k.logs (broker s.broker) ≡ []
          by (Some x) e = given.lost s x e n
          by None e = (given.done s e refl p).1

  -- what the code comes to
  pub tells-so : (untried : Option StampParts) → GaveAll k (at_key es) untried → Tells k (values_of es) untried
  tells-so None given = all-told given
  tells-so (Some s) given = (given.1, all-tried given.0.0 given.0.1)

-- all of them have scripts
pub scripts-so : (es : List Entry) → IsStrictlySortedBy stamp_cmp (keys_of es) → AllScripts (at_key es) → HaveScripts (values_of es)
scripts-so es sorted all = every-value HasScript es (λ e h. all e.0 e.1 (has-found es e sorted h))
