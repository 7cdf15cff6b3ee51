-- What the tests of a turn found.
use Rattle.node_inputs.specs.Lists.{Has}
use Rattle.node_turn.proofs.Names.{StampParts, NodeId, Effect, Out, is_for, decided_by, leaves, place_of, Decided, Sight, AreSought, stamp_asked, Trail, Seeks, HasTested, ◌≡◌, ℕ, ◌+◌, ◌<◌, ◌==◌, ◌||◌, not, Bool, true, false, List, [], ◌∷◌, ◌++◌, length, take, Option, Some, None, Result, Ok, Err, OnOk, IfSome, filter, refl, ap, sym, ◌∙◌, subst, cond, arith, inl, inr, ⊎_elim, get_or, eqb-true, append-nil, take_more, take-append-le, has-left, has-right, has-either, number_of, answer_of, IsMissed, IsFound, IsSought}
use Rattle.node_inputs.specs.Message.{Message}
use Rattle.node_inputs.specs.Message.TheVariants as message
use Rattle.node_inputs.specs.Logs.{knows}
use Rattle.node_inputs.proofs.TrailLemmas.{trail-none, trail-joins}

-- ---- one test

chosen : (t f c : Bool) (P : Bool → Type 0) → (t ≡ true → P true) → (f ≡ true → P false) → cond t (Some true) (cond f (Some false) None) ≡ Some c → P c
chosen true f true P here there e = here refl
chosen true f false P here there e = absurd (cc)
chosen false true true P here there e = absurd (cc)
chosen false true false P here there e = there refl
chosen false false c P here there e = absurd (cc)

answer-some : (s : StampParts) (number : ℕ) (c : Bool) → answer_of s number ≡ Some c → number ≡ number_of s c
answer-some s number c e =
    chosen (number == number_of s true) (number == number_of s false) c (λ d. number ≡ number_of s d) (eqb-true number (number_of s true)) (eqb-true number (number_of s false)) e

pub missed-one : (s : StampParts) (number : ℕ) → None ≡ answer_of s number → IsMissed ((place_of s, number) ∷ []) s
missed-one s number e = (number, inl refl, sym e)

pub found-one : (s : StampParts) (number : ℕ) (c : Bool) → Some c ≡ answer_of s number → IsFound ((place_of s, number) ∷ []) (s, c)
found-one s number c e = inl (ap (λ (n : ℕ). (place_of s, n)) (answer-some s number c (sym e)))

pub none-found : (tests : List (ℕ × ℕ)) (d : Decided) → Has {A = Decided} d [] → IsFound tests d
none-found tests d h = elim h [ ]

pub all-found : (tests : List (ℕ × ℕ)) (x : Decided) → IsFound tests x → (d : Decided) → Has d (x ∷ []) → IsFound tests d
all-found tests x f d (inl e) = subst (IsFound tests) e f
all-found tests x f d (inr h) = none-found tests d h

missed-left : (t u : List (ℕ × ℕ)) (s : StampParts) → IsMissed t s → IsMissed (t ++ u) s
missed-left t u s m = (m.0, has-left t u (place_of s, m.0) m.1, m.2)

missed-right : (t u : List (ℕ × ℕ)) (s : StampParts) → IsMissed u s → IsMissed (t ++ u) s
missed-right t u s m = (m.0, has-right t u (place_of s, m.0) m.1, m.2)

-- ---- a log that knows a stamp

or-more : (a b c : Bool) → (b ≡ true → c ≡ true) → (a || b) ≡ true → (a || c) ≡ true
or-more true b c f h = refl
or-more false b c f h = f h

pub knows-more : (log more : List Effect) (s : StampParts) → knows log s ≡ true → knows (log ++ more) s ≡ true
unfolding knows
knows-more [] more s h = absurd (cc h)
knows-more (f ∷ log) more s h = or-more (is_for s (decided_by f)) (knows log s) (knows (log ++ more) s) (knows-more log more s) h

-- the log is the same, or goes on
abbrev pub GoesOn : List Effect → List Effect → Type 0
GoesOn old new = (more : List Effect) × (new ≡ old ++ more)

sought-left : (log log' : List Effect) (s : StampParts) (t u : List (ℕ × ℕ)) → GoesOn log log' → IsSought log s t → IsSought log' s (t ++ u)
sought-left log log' s t u g (inl k) = inl (subst (λ l. knows l s ≡ true) (sym g.1) (knows-more log g.0 s k))
sought-left log log' s t u g (inr m) = inr (missed-left t u s m)

sought-right : (log : List Effect) (s : StampParts) (t u : List (ℕ × ℕ)) → IsSought log s u → IsSought log s (t ++ u)
sought-right log s t u (inl k) = inl k
sought-right log s t u (inr m) = inr (missed-right t u s m)

-- ---- messages, one after another

if-some : {A : Type 0} (o : Option A) (x : A) (P : A → Type 0) → o ≡ Some x → IfSome o P → P x
if-some {A} o x P e h = subst (λ (z : Option A). IfSome z P) e h

-- one message more was looked at, while the messages and the log grew
pub sought-next : (i : ℕ) (outs outs' : List Out) (d : Out) (asked : Option StampParts) (log log' : List Effect) (t u : List (ℕ × ℕ)) → i < length outs → asked ≡ stamp_asked (get_or outs i d)
    → (more : List Out) × (outs' ≡ outs ++ more) → GoesOn log log' → AreSought log (take i outs) t → IfSome asked (λ s. IsSought log' s u) → AreSought log' (take (i + 1) outs') (t ++ u)
sought-next i outs outs' d asked log log' t u lt at o g before this out s h ask =
    let e : take (i + 1) outs' ≡ take i outs ++ get_or outs i d ∷ [] = ap (take (i + 1)) o.1 ∙ (take-append-le (i + 1) outs o.0 (omega (arith, lt)) ∙ take_more outs i d lt) in
    ⊎_elim
    (λ was. sought-left log log' s t u g (before out s was ask))
    (λ is. ⊎_elim
    (λ same. sought-right log' s t u (if-some asked s (λ z. IsSought log' z u) (at ∙ (ap stamp_asked same ∙ ask)) this))
    (λ none. elim none [ ]) is)
    (has-either (take i outs) (get_or outs i d ∷ []) out (subst (Has out) e h))

pub sought-none : (log : List Effect) (outs : List Out) → AreSought log (take 0 outs) []
sought-none log outs out s h ask = elim h [ ]

-- ---- pieces that seek

module _ (n : NodeId) where
  pub seeks-none : (k : Sight) (P : List (ℕ × ℕ) → Type 0) → P [] → Seeks n k k P
  seeks-none k P p = record { learned = []; tested = []; trail = trail-none n k; found = none-found []; says = p }

  pub seeks-weaker : (a b : Sight) (P Q : List (ℕ × ℕ) → Type 0) → Seeks n a b P → ((t : List (ℕ × ℕ)) → P t → Q t) → Seeks n a b Q
  seeks-weaker a b P Q l f = record { learned = l.learned; tested = l.tested; trail = l.trail; found = l.found; says = f l.tested l.says }

  pub seeks-joins : {a b c : Sight} {P Q R : List (ℕ × ℕ) → Type 0} → Seeks n a b P → Seeks n b c Q → ((t u : List (ℕ × ℕ)) → P t → Q u → R (t ++ u)) → Seeks n a c R
  seeks-joins {a} {b} {c} {P} {Q} {R} p q f = record {
    learned = p.learned ++ q.learned;
    tested = p.tested ++ q.tested;
    trail = trail-joins p.trail q.trail;
    found = λ d h. ⊎_elim (λ i. has-left p.tested q.tested (place_of d.0, number_of d.0 d.1) (p.found d i)) (λ i. has-right p.tested q.tested (place_of d.0, number_of d.0 d.1) (q.found d i)) (has-either p.learned q.learned d h);
    says = f p.tested q.tested p.says q.says;
  }

  -- ---- what was tested in a turn

  pub tested-none : (a b : Sight) (cost : ℕ) → Trail n a b [] [] [] cost → HasTested n a b
  tested-none a b cost t = record { sent = []; learned = []; tested = []; cost = cost; trail = t; asks = λ out s h ask. elim h [ ]; found = none-found [] }

  pub tested-seeks : (a b : Sight) (P : List (ℕ × ℕ) → Type 0) → Seeks n a b P → HasTested n a b
  tested-seeks a b P l = record { sent = []; learned = l.learned; tested = l.tested; cost = 0; trail = l.trail; asks = λ out s h ask. elim h [ ]; found = l.found }

  -- what was done before without a test
  pub tested-after : (a b c : Sight) → Trail n a b [] [] [] 0 → HasTested n b c → HasTested n a c
  tested-after a b c t h = record {
    sent = h.sent;
    learned = h.learned;
    tested = h.tested;
    cost = 0 + h.cost;
    trail = trail-joins t h.trail;
    asks = h.asks;
    found = h.found;
  }

  -- and after it without a message
  pub tested-before : (a b c : Sight) (cost : ℕ) → HasTested n a b → Trail n b c [] [] [] cost → HasTested n a c
  tested-before a b c cost h t = record {
    sent = h.sent ++ [];
    learned = h.learned ++ [];
    tested = h.tested ++ [];
    cost = h.cost + cost;
    trail = trail-joins h.trail t;
    asks = λ out s i ask. missed-left h.tested [] s (h.asks out s (subst (Has out) (append-nil h.sent) i) ask);
    found = λ d i. has-left h.tested [] (place_of d.0, number_of d.0 d.1) (h.found d (subst (Has d) (append-nil h.learned) i));
  }

-- ---- what leaves at the gate

filter-has : {A : Type 0} (p : A → Bool) (xs : List A) (x : A) → Has x (filter p xs) → Has x xs × (p x ≡ true)
filter-has {A} p [] x h = elim h [ ]
filter-has {A} p (y ∷ xs) x h = go (p y) refl h (filter-has p xs x)
  where
    go : (t : Bool) → p y ≡ t → Has x (cond t (y ∷ filter p xs) (filter p xs)) → (Has x (filter p xs) → Has x xs × (p x ≡ true)) → Has x (y ∷ xs) × (p x ≡ true)
    go true e (inl same) rest = (inl same, sym (ap p same) ∙ e)
    go true e (inr k) rest = let r : Has x xs × (p x ≡ true) = rest k in (inr r.0, r.1)
    go false e k rest = let r : Has x xs × (p x ≡ true) = rest k in (inr r.0, r.1)

-- a message that asks and leaves asks for what the log doesn't know
asked-unknown : (log : List Effect) (out : Out) (s : StampParts) → stamp_asked out ≡ Some s → leaves log out ≡ true → knows log s ≡ true → ⊥
asked-unknown log out s ask lv k = go out.message ask lv
  where
    go : (m : Message) → elim m [ message.Ask z ↦ Some z | _ ↦ None ] ≡ Some s → elim m [ message.Ask z ↦ not (knows log z) | _ ↦ true ] ≡ true → ⊥
    go (message.Ask z) e l =
        let same : z ≡ s = cc e in
        let f : not true ≡ true = ap not (sym k) ∙ (ap (λ (x : StampParts). not (knows log x)) (sym same) ∙ l) in
        absurd (cc f)
    go (message.Begin z t) e l = absurd (cc e)
    go (message.Begun z) e l = absurd (cc e)
    go (message.Read at object) e l = absurd (cc e)
    go (message.Value at v) e l = absurd (cc e)
    go (message.Write at object v) e l = absurd (cc e)
    go (message.Stored at) e l = absurd (cc e)
    go (message.LaterRead at end) e l = absurd (cc e)
    go (message.LaterVersion at start) e l = absurd (cc e)
    go (message.Ended at) e l = absurd (cc e)
    go (message.Commit z) e l = absurd (cc e)
    go (message.Withdraw z) e l = absurd (cc e)
    go (message.Decided z d) e l = absurd (cc e)
    go (message.Tell z c) e l = absurd (cc e)

-- so each message that asks and leaves was missed by a test
pub leaving-missed : (log : List Effect) (outs : List Out) (tests : List (ℕ × ℕ)) → AreSought log outs tests → (out : Out) (s : StampParts) → Has out (filter (leaves log) outs) → stamp_asked out ≡ Some s → IsMissed tests s
leaving-missed log outs tests sought out s h ask =
    let f : Has out outs × (leaves log out ≡ true) = filter-has (leaves log) outs out h in
    ⊎_elim (λ k. absurd (asked-unknown log out s ask f.1 k)) (λ m. m) (sought out s f.0 ask)

-- tests, and then a gate that sends what leaves
pub tested-sent : (n : NodeId) (a b c : Sight) (log : List Effect) (outs sent : List Out) (cost : ℕ) → Seeks n a b (AreSought log outs) → Trail n b c sent [] [] cost
    → ((out : Out) → Has out sent → Has out (filter (leaves log) outs)) → HasTested n a c
tested-sent n a b c log outs sent cost l t from = record {
  sent = sent;
  learned = l.learned ++ [];
  tested = l.tested ++ [];
  cost = 0 + cost;
  trail = trail-joins l.trail t;
  asks = λ out s h ask. missed-left l.tested [] s (leaving-missed log outs l.tested l.says out s (from out h) ask);
  found = λ d h. has-left l.tested [] (place_of d.0, number_of d.0 d.1) (l.found d (subst (Has d) (append-nil l.learned) h));
}

-- what holds whatever was answered holds after Ok
pub sought-learnt : {T E : Type 0} {P : Type 0} (r : Result T E) → P → OnOk r P
sought-learnt (Ok v) p = p
sought-learnt (Err e) p = tt

pub none-of : {A : Type 0} (o : Option A) (P : A → Type 0) → o ≡ None → IfSome o P
none-of {A} o P e = subst (λ (z : Option A). IfSome z P) (sym e) tt
