-- The copies of a flight stay copies of messages that were sent to their nodes.
use Rattle.message_core.proofs.Names.{◌≡◌, ℕ, zero, suc, ◌+◌, ◌-◌, ◌==◌, Bool, true, false, cond, List, [], ◌∷◌, ◌++◌, length, take, drop, map, replicate, refl, ap, ◌∙◌, subst, arith, Option, Some, None, slice_get, if◌then◌else◌, option_map, filter, list_any, same_Some, NodeId, Fate, copies_of, Letter, HeldCopy, same_node, State, put, puts, next_number, sent_at_once, sent_later, sent, taken, going_to, passed, was_shut, start, WentTo, AllWentTo, AllWent, HasText, IsSound}
use Rattle.pseudo_time.proofs.ListLemmas.{every-map, every-append}
use Rattle.message_core.proofs.NodeLemmas.{same_is}

-- ---- the messages sent

got_still : {A : Type 0} (xs ys : List A) (i : ℕ) (x : A) → slice_get xs i ≡ Some x → slice_get (xs ++ ys) i ≡ Some x
got_still [] ys i x got = absurd (let never : ⊥ = cc got in never)
got_still (y ∷ xs) ys zero x got = got
got_still (y ∷ xs) ys (suc i) x got = got_still xs ys i x got

got_last : {A : Type 0} (xs : List A) (x : A) → slice_get (xs ++ x ∷ []) (length xs) ≡ Some x
got_last [] x = refl
got_last (y ∷ xs) x = got_last xs x

went_still : (ls more : List Letter) (node : NodeId) (k : ℕ) → WentTo ls node k → WentTo (ls ++ more) node k
went_still ls more node k went = record { letter = went.letter; from_one = went.from_one; there = got_still ls more (k - 1) went.letter went.there; to = went.to }

all_still : (ls more : List Letter) (node : NodeId) (queue : List ℕ) → AllWentTo ls node queue → AllWentTo (ls ++ more) node queue
all_still ls more node = every-map (WentTo ls node) (WentTo (ls ++ more) node) (went_still ls more node)

held_still : (ls more : List Letter) (held : List HeldCopy) → AllWent ls held → AllWent (ls ++ more) held
held_still ls more = every-map (λ (h : HeldCopy). WentTo ls h.to h.number) (λ (h : HeldCopy). WentTo (ls ++ more) h.to h.number) (λ h. went_still ls more h.to h.number)

less_one : (n : ℕ) → n + 1 - 1 ≡ n
less_one n = omega arith

-- the new message went to its node
just_went : (ls : List Letter) (letter : Letter) → WentTo (ls ++ letter ∷ []) letter.to (length ls + 1)
just_went ls letter = record { letter = letter; from_one = omega arith; there = ap (λ n. slice_get (ls ++ letter ∷ []) n) (less_one (length ls)) ∙ got_last ls letter; to = refl }

-- ---- queues

all_taken : (ls : List Letter) (node : NodeId) (n : ℕ) (queue : List ℕ) → AllWentTo ls node queue → AllWentTo ls node (take n queue)
all_taken ls node zero queue went = tt {0}
all_taken ls node (suc n) [] went = tt {0}
all_taken ls node (suc n) (k ∷ queue) went = (went.0, all_taken ls node n queue went.1)

all_dropped : (ls : List Letter) (node : NodeId) (n : ℕ) (queue : List ℕ) → AllWentTo ls node queue → AllWentTo ls node (drop n queue)
all_dropped ls node zero queue went = went
all_dropped ls node (suc n) [] went = tt {0}
all_dropped ls node (suc n) (k ∷ queue) went = all_dropped ls node n queue went.1

all_put : (ls : List Letter) (node : NodeId) (number overtake : ℕ) (queue : List ℕ) → WentTo ls node number → AllWentTo ls node queue → AllWentTo ls node (put number overtake queue)
all_put ls node number overtake queue new went =
    let at = length queue - overtake in
    every-append (WentTo ls node) (take at queue) (number ∷ drop at queue) (all_taken ls node at queue went) (new, all_dropped ls node at queue went)

all_puts : (ls : List Letter) (node : NodeId) (n number overtake : ℕ) (queue : List ℕ) → WentTo ls node number → AllWentTo ls node queue → AllWentTo ls node (puts n number overtake queue)
all_puts ls node zero number overtake queue new went = went
all_puts ls node (suc n) number overtake queue new went = all_puts ls node n number overtake (put number overtake queue) new (all_put ls node number overtake queue new went)

-- ---- held copies

held_repeated : (ls : List Letter) (n : ℕ) (h : HeldCopy) → WentTo ls h.to h.number → AllWent ls (replicate n h)
held_repeated ls zero h went = tt {0}
held_repeated ls (suc n) h went = (went, held_repeated ls n h went)

going_on : (ls : List Letter) (node : NodeId) (h : HeldCopy) (b : Bool) (rest : List HeldCopy) → same_node h.to node ≡ b → WentTo ls h.to h.number → AllWentTo ls node (map (λ (k : HeldCopy). k.number) rest)
    → AllWentTo ls node (map (λ (k : HeldCopy). k.number) (cond b (h ∷ rest) rest))
going_on ls node h true rest same went all = (subst (λ (n : NodeId). WentTo ls n h.number) (same_is h.to node same) went, all)
going_on ls node h false rest same went all = all

all_going : (ls : List Letter) (node : NodeId) (held : List HeldCopy) → AllWent ls held → AllWentTo ls node (going_to node held)
all_going ls node [] went = tt {0}
all_going ls node (h ∷ held) went = going_on ls node h (same_node h.to node) (filter (λ (k : HeldCopy). same_node k.to node) held) refl went.0 (all_going ls node held went.1)

-- ---- a queue after a call, by the queue before

-- what holds of a queue, where there is one
abbrev pub Of : (List ℕ → Type 0) → Option (List ℕ) → Type 0
Of P None = Unit {0}
Of P (Some queue) = P queue

pub of_all : (P : List ℕ → Type 0) (o : Option (List ℕ)) → ((queue : List ℕ) → o ≡ Some queue → P queue) → Of P o
of_all P None all = tt {0}
of_all P (Some queue) all = all queue refl

pub all_of : (P : List ℕ → Type 0) (o : Option (List ℕ)) (queue : List ℕ) → Of P o → o ≡ Some queue → P queue
all_of P o queue of is = subst (λ (x : Option (List ℕ)). Of P x) is of

pub of_map : (P Q : List ℕ → Type 0) (F : List ℕ → List ℕ) (o : Option (List ℕ)) → ((queue : List ℕ) → P queue → Q (F queue)) → Of P o → Of Q (option_map F o)
of_map P Q F None step of = tt {0}
of_map P Q F (Some queue) step of = step queue of

pub of_weaker : (P Q : List ℕ → Type 0) (o : Option (List ℕ)) → ((queue : List ℕ) → P queue → Q queue) → Of P o → Of Q o
of_weaker P Q None step of = tt {0}
of_weaker P Q (Some queue) step of = step queue of

of_either : (Q : List ℕ → Type 0) (b : Bool) (x y : Option (List ℕ)) → (b ≡ true → Of Q x) → Of Q y → Of Q (if b then x else y)
of_either Q true x y one two = one refl
of_either Q false x y one two = two

-- ---- the calls

module _ (s : State) (sound : IsSound s) where
  queued_of : (node : NodeId) → Of (AllWentTo s.letters node) (s.queues node)
  queued_of node = of_all (AllWentTo s.letters node) (s.queues node) (sound.queued node)

  sound_at_once : (letter : Letter) (fate : Fate) → HasText letter → IsSound (sent_at_once s letter fate)
  sound_at_once letter fate text =
      let ls = s.letters ++ letter ∷ [] in
      record {
        queued = λ node queue is. all_of (AllWentTo ls node) _ queue (of_either (AllWentTo ls node) (same_node letter.to node) _ _
            (λ same. of_map (AllWentTo s.letters node) (AllWentTo ls node) (puts (copies_of fate) (next_number s) fate.overtake) (s.queues node)
            (λ q went. all_puts ls node (copies_of fate) (next_number s) fate.overtake q (subst (λ (n : NodeId). WentTo ls n (next_number s)) (same_is letter.to node same) (just_went s.letters letter)) (all_still s.letters (letter ∷ []) node q went))
            (queued_of node))
            (of_weaker (AllWentTo s.letters node) (AllWentTo ls node) (s.queues node) (all_still s.letters (letter ∷ []) node) (queued_of node))) is;
        held = λ d. held_still s.letters (letter ∷ []) (s.held d) (sound.held d);
        texts = every-append HasText s.letters (letter ∷ []) sound.texts (text, tt {0});
      }

  held_either : (ls : List Letter) (b : Bool) (x y : List HeldCopy) → AllWent ls x → AllWent ls y → AllWent ls (if b then x else y)
  held_either ls true x y one two = one
  held_either ls false x y one two = two

  sound_later : (letter : Letter) (fate : Fate) → HasText letter → IsSound (sent_later s letter fate)
  sound_later letter fate text =
      let ls = s.letters ++ letter ∷ [] in
      record {
        queued = λ node queue is. all_still s.letters (letter ∷ []) node queue (sound.queued node queue is);
        held = λ d.
            let old = held_still s.letters (letter ∷ []) (s.held d) (sound.held d) in
            held_either ls (s.ticks + fate.hold == d) _ _ (every-append (λ (h : HeldCopy). WentTo ls h.to h.number) (s.held d) _ old (held_repeated ls (copies_of fate) (record { number = next_number s; to = letter.to }) (just_went s.letters letter))) old;
        texts = every-append HasText s.letters (letter ∷ []) sound.texts (text, tt {0});
      }

  sound_either : (b : Bool) (x y : State) → IsSound x → IsSound y → IsSound (if b then x else y)
  sound_either true x y one two = one
  sound_either false x y one two = two

  pub sound_sent : (letter : Letter) (fate : Fate) → HasText letter → IsSound (sent s letter fate)
  sound_sent letter fate text = sound_either (fate.hold == 0) (sent_at_once s letter fate) (sent_later s letter fate) (sound_at_once letter fate text) (sound_later letter fate text)

  pub sound_taken : (node : NodeId) → IsSound (taken s node)
  sound_taken node = record {
    queued = λ n queue is. all_of (AllWentTo s.letters n) _ queue (of_either (AllWentTo s.letters n) (same_node node n) _ _ (λ _. of_map (AllWentTo s.letters n) (AllWentTo s.letters n) (drop 1) (s.queues n) (all_dropped s.letters n 1) (queued_of n)) (queued_of n)) is;
    held = sound.held;
    texts = sound.texts;
  }

  pub sound_passed : IsSound (passed s)
  sound_passed = record {
    queued = λ n queue is. all_of (AllWentTo s.letters n) _ queue (of_map (AllWentTo s.letters n) (AllWentTo s.letters n) (λ q. q ++ going_to n (s.held (s.ticks + 1))) (s.queues n)
        (λ q went. every-append (WentTo s.letters n) q (going_to n (s.held (s.ticks + 1))) went (all_going s.letters n (s.held (s.ticks + 1)) (sound.held (s.ticks + 1)))) (queued_of n)) is;
    held = λ d. held_either s.letters (s.ticks + 1 == d) [] (s.held d) (tt {0}) (sound.held d);
    texts = sound.texts;
  }

  pub sound_shut : (node : NodeId) → IsSound (was_shut s node)
  sound_shut node = record {
    queued = λ n queue is. all_of (AllWentTo s.letters n) _ queue (of_either (AllWentTo s.letters n) (same_node node n) None (s.queues n) (λ _. tt {0}) (queued_of n)) is;
    held = sound.held;
    texts = sound.texts;
  }

pub sound_start : (nodes : List NodeId) → IsSound (start nodes)
sound_start nodes = record {
  queued = λ n queue is. all_of (AllWentTo [] n) _ queue (of_either (AllWentTo [] n) (list_any (λ m. same_node m n) nodes) (Some []) None (λ _. tt {0}) (tt {0})) is;
  held = λ d. tt {0};
  texts = tt {0};
}

-- ---- the front of a queue

pub front_went : (ls : List Letter) (node : NodeId) (queue : List ℕ) (k : ℕ) → AllWentTo ls node queue → slice_get queue 0 ≡ Some k → WentTo ls node k
front_went ls node [] k went is = absurd (let never : ⊥ = cc is in never)
front_went ls node (n ∷ queue) k went is = subst (WentTo ls node) (same_Some n k is) went.0
