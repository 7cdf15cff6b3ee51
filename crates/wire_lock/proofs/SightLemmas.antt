-- What a pass has seen of its node is so in what a visit finds, and what a visit leaves.
use Rattle.std.proofs.Math.ListN.{get_or-map as get_or-f}
use Rattle.wire_lock.proofs.Names.{◌≡◌, ℕ, ◌+◌, ◌==◌, Bool, true, false, List, [], ◌∷◌, ◌++◌, map, length, ◌<◌, Some, None, IsTrue, if◌then◌else◌, filter-append, StampParts, NodeId, same_node, same_is, same_node-refl, CarriesOn, knows, base_of, Begins, entries_of, Entry, Take, Go, Learn, Hear, Gate, Crash, Down, Tick, Base, Life, Flags, World, numbered, gated_life, sent_by, walk, IsDecidedAs, Idle, is_behind, fates_of, walk-more, Trace, Origin, WireParts, base_from, trace_of, world_of, owner_for, owner_of, place_of, number_of, Decided, posted, answer_of, end_of, Sight, base_at, world_at, life_at, flags_at, ◌↔◌, ◌&&◌, take, Option, Result, Ok, Err, IfOk, OnErr, refl, ap, ap₂, sym, ◌∙◌, subst, cond, eq-eqb, get_or, append_assoc, map-append, get_or-map, take_more, IsPassOf, fresh, base_in, board_size, Sending, took, after_input, names, own, lives_on, flagged, is_down, step, start_world, walk_from, walk-append, same-life, stands-stays, IsLeft, HasNoneDue, IsIdle, origin_in, origin_at, IsOf, Owns, IsWirePass, IsAsBefore, Looked, Visited, Gated, Tested, TicksOn, HasNothingOpen, closed}
use Rattle.std.specs.declared.snapshot.Snapshot.{Snapshot}
use Rattle.atomic_table.specs.declared.shared.Seat.{Seat}
use Rattle.pseudo_time.specs.declared.nodes.NodeKind.{NodeKind}
use Rattle.pseudo_time.specs.declared.nodes.NodeKind.TheVariants.{Repository, Broker}
use Rattle.seat_lock.specs.declared.views.View.{View}
use Rattle.seat_lock.specs.declared.views.Founding.{Founding}
use Rattle.seat_lock.specs.declared.locks.LockTable.{LockTable}
use Rattle.message_form.specs.Posts.{Post}
use Rattle.world_core.specs.Nodes.Input.{Taking}
use Rattle.world_core.proofs.Others.{same-flags, same-behind}
use Rattle.message_core.specs.declared.letters.Arrival.{Arrival}
use Rattle.wire_core.specs.Changes.{IsCopyOf, IsQuiet, TookAll}
use Rattle.wire_core.proofs.DueLemmas.{numbered-from}

-- ---- a node's entries are among those of its owner

owner-same : (a n : NodeId) → same_node a n ≡ true → owner_for a ≡ owner_for n
owner-same a n h = ap owner_for (same_is a n h)

names-owner : (n : NodeId) (e : Entry) → names n e ≡ true → owner_of e ≡ owner_for n
names-owner n (Take node number) h = owner-same node n h
names-owner n (Go node) h = owner-same node n h
names-owner n (Learn node stamp committed) h = owner-same node n h
names-owner n (Hear node) h = owner-same node n h
names-owner n (Gate node) h = owner-same node n h
names-owner n (Crash node kept) h = owner-same node n h
names-owner n (Down node cause) h = owner-same node n h
names-owner n (Tick moment) h = absurd (cc h)

own-among : (n : NodeId) (es : List Entry) → own n (entries_of owner_of (owner_for n) es) ≡ own n es
own-among n [] = refl
own-among n (e ∷ es) = go (own-among n es) (owner_of e == owner_for n) (names n e) refl refl
  where
    go : own n (entries_of owner_of (owner_for n) es) ≡ own n es → (t s : Bool) → (owner_of e == owner_for n) ≡ t → names n e ≡ s
        → own n (cond t (e ∷ entries_of owner_of (owner_for n) es) (entries_of owner_of (owner_for n) es)) ≡ cond s (e ∷ own n es) (own n es)
    go rest true true p q = ap (λ b. cond b (e ∷ own n (entries_of owner_of (owner_for n) es)) (own n (entries_of owner_of (owner_for n) es))) q ∙ ap (λ l. e ∷ l) rest
    go rest true false p q = ap (λ b. cond b (e ∷ own n (entries_of owner_of (owner_for n) es)) (own n (entries_of owner_of (owner_for n) es))) q ∙ rest
    go rest false true p q = absurd (let h : true ≡ false = sym (eq-eqb (owner_of e) (owner_for n) (names-owner n e q)) ∙ p in cc h)
    go rest false false p q = rest

pub own-same : (k : Sight) (n : NodeId) (l : List Entry) → IsOf n k → Owns k → CarriesOn owner_of k l → own n l ≡ own n k.story
own-same k n l is owns car =
    let e : entries_of owner_of (owner_for n) l ≡ entries_of owner_of (owner_for n) k.story =
    subst (λ o. entries_of owner_of o l ≡ entries_of owner_of o k.story) is (car.own ∙ sym owns) in
    sym (own-among n l) ∙ ap (own n) e ∙ own-among n k.story

-- ---- lists that go on by entries of others

pub as-before : (k : Sight) (l : List Entry) → Owns k → CarriesOn owner_of k l → IsAsBefore k l
as-before k l owns car = record {
  carries = car;
  flags = λ n is. subst (λ es. (walk (base_at k) es).flags n ≡ flags_at k n) car.begins.1 (same-flags (base_at k) k.story car.begins.0 n (here n is));
  life = λ n is. subst (λ es. (walk (base_at k) es).life n ≡ life_at k n) car.begins.1 (same-life (base_at k) k.story car.begins.0 n (here n is));
  behind = λ n is h. subst (λ es. is_behind (walk (base_at k) es) n ≡ true) car.begins.1 (same-behind (base_at k) k.story car.begins.0 n (here n is) h);
}
  where
    here : (n : NodeId) → IsOf n k → own n (k.story ++ car.begins.0) ≡ own n k.story
    here n is = ap (own n) car.begins.1 ∙ own-same k n l is owns car

pub stands-later : (b : Base) (l l' : List Entry) (s : StampParts) (committed : Bool) → Begins l l' → IsDecidedAs (walk b l) s committed → IsDecidedAs (walk b l') s committed
stands-later b l l' s committed begins h = subst (λ es. IsDecidedAs (walk b es) s committed) begins.1 (stands-stays b l begins.0 s committed h)

moved-on : (b : Base) (w : World) (es : List Entry) → w.moved ≡ true → (walk_from b w es).moved ≡ true
unfolding walk_from
moved-on b w [] h = h
moved-on b w (e ∷ es) h = moved-on b (step b w e) es (go (is_down e))
  where
    go : (t : Bool) → (if t then w.moved else true) ≡ true
    go true = h
    go false = refl

-- before anything but downs happened, nothing but downs was seen
pub moved-before : (b : Base) (l l' : List Entry) → Begins l l' → (walk b l').moved ≡ false → (walk b l).moved ≡ false
moved-before b l l' begins h = go (walk b l).moved refl
  where
    go : (t : Bool) → (walk b l).moved ≡ t → t ≡ false
    go false q = refl
    go true q =
        let m : (walk b (l ++ begins.0)).moved ≡ true = ap (λ (w : World). w.moved) (walk-append b (start_world b) l begins.0) ∙ moved-on b (walk b l) begins.0 q in
        let z : true ≡ false = sym m ∙ ap (λ es. (walk b es).moved) begins.1 ∙ h in
        absurd (cc z)

-- ---- a node that is up is known

abbrev UpKnown : Flags → Type 0
UpKnown f = f.up ≡ true → f.known ≡ true

up-flagged : (last : Option ℕ) (kind : NodeKind) (f : Flags) (e : Entry) → UpKnown f → UpKnown (flagged last kind f e)
up-flagged last kind f (Take node number) h = h
up-flagged last Repository f (Go node) h = h
up-flagged last Broker f (Go node) h = h
up-flagged last Repository f (Learn node stamp committed) h = h
up-flagged last Broker f (Learn node stamp committed) h = h
up-flagged None kind f (Hear node) h = h
up-flagged (Some m) kind f (Hear node) h = h
up-flagged last kind f (Gate node) h = h
up-flagged last kind f (Crash node kept) h = h
up-flagged last kind f (Down node cause) h = λ z. absurd (cc z)
up-flagged last kind f (Tick moment) h = h

up-from : (b : Base) (w : World) (es : List Entry) (n : NodeId) → UpKnown (w.flags n) → UpKnown ((walk_from b w es).flags n)
unfolding walk_from
up-from b w [] n h = h
up-from b w (e ∷ es) n h = up-from b (step b w e) es n (go (names n e && (w.flags n).known))
  where
    go : (t : Bool) → UpKnown (if t then flagged w.last n.kind (w.flags n) e else w.flags n)
    go true = up-flagged w.last n.kind (w.flags n) e h
    go false = h

pub up-known : (b : Base) (es : List Entry) (n : NodeId) → ((walk b es).flags n).up ≡ true → ((walk b es).flags n).known ≡ true
up-known b es n = up-from b (start_world b) es n (λ h. h)

-- ---- one entry of the node's own

both-true : (a b : Bool) → a ≡ true → b ≡ true → (a && b) ≡ true
both-true a b p q = ap (λ t. t && b) p ∙ q

module _ (b : Base) (l : List Entry) (e : Entry) (n : NodeId) (named : names n e ≡ true) (known : ((walk b l).flags n).known ≡ true) where
  here : (names n e && ((walk b l).flags n).known) ≡ true
  here = both-true (names n e) ((walk b l).flags n).known named known

  pub life-own : (walk b (l ++ e ∷ [])).life n ≡ lives_on b (walk b l) n ((walk b l).life n) e
  life-own = ap (λ (w : World). w.life n) (walk-more b l e) ∙ ap (λ t. if t then lives_on b (walk b l) n ((walk b l).life n) e else (walk b l).life n) here

  pub flags-own : (walk b (l ++ e ∷ [])).flags n ≡ flagged (walk b l).last n.kind ((walk b l).flags n) e
  flags-own = ap (λ (w : World). w.flags n) (walk-more b l e) ∙ ap (λ t. if t then flagged (walk b l).last n.kind ((walk b l).flags n) e else (walk b l).flags n) here

-- ---- what a visit finds

-- what a pass of the node knows of the wire that a visit finds
pub record Finds (k : Sight) (w : WireParts) (l : List Entry) : Type 0 where
  pub world : world_of w ≡ walk (base_at k) l
  pub origin : w.origin ≡ origin_at k
  pub before : IsAsBefore k l

pub finds-of : (k : Sight) (w : WireParts) (l : List Entry) → Owns k → w.origin ≡ origin_at k → w.entries ≡ l → CarriesOn owner_of k l → Finds k w l
finds-of k w l owns origin entries car = record {
  world = ap (λ (o : Origin). walk (base_from o) w.entries) origin ∙ ap (walk (base_at k)) entries;
  origin = origin;
  before = as-before k l owns car;
}

module _ {Q A : Type 0} where
  pub pass-origin : (lock : LockTable WireParts (View WireParts Entry) (Founding WireParts) Q A) (pass : Seat WireParts (View WireParts Entry)) → IsPassOf lock pass → (base_of lock).origin ≡ origin_at (knows pass)
  pass-origin lock pass is =
      let b = is.based in
      sym (ap (λ (o : Option (Snapshot WireParts)). origin_in (base_in o)) b.1 ∙ ap (λ (w : WireParts). w.origin) b.2)

  pub lock-origin : {a b : LockTable WireParts (View WireParts Entry) (Founding WireParts) Q A} → a ≡ b → (base_of a).origin ≡ (base_of b).origin
  lock-origin e = ap (λ (l : LockTable WireParts (View WireParts Entry) (Founding WireParts) Q A). (base_of l).origin) e

  pub lock-size : {a b : LockTable WireParts (View WireParts Entry) (Founding WireParts) Q A} → a ≡ b → board_size a ≡ board_size b
  lock-size e = ap (λ (l : LockTable WireParts (View WireParts Entry) (Founding WireParts) Q A). board_size l) e

  -- `now` is the value x that the lock lent
  pub finds : (lock : LockTable WireParts (View WireParts Entry) (Founding WireParts) Q A) (pass : Seat WireParts (View WireParts Entry)) (x now : WireParts) (l : List Entry)
      → IsWirePass lock pass → x.origin ≡ (base_of lock).origin → x.entries ≡ l → CarriesOn owner_of (knows pass) l → now ≡ x → Finds (knows pass) now l
  finds lock pass x now l wp origin entries car at =
      finds-of (knows pass) now l wp.own (ap (λ (w : WireParts). w.origin) at ∙ origin ∙ pass-origin lock pass wp.of_lock) (ap (λ (w : WireParts). w.entries) at ∙ entries) car

pub origin-of : {a b : WireParts} → a ≡ b → a.origin ≡ b.origin
origin-of e = ap (λ (w : WireParts). w.origin) e

pub entries-in : {a b : WireParts} → a ≡ b → a.entries ≡ b.entries
entries-in e = ap (λ (w : WireParts). w.entries) e

pub story-of : {a b : Sight} → a ≡ b → a.story ≡ b.story
story-of e = ap (λ (k : Sight). k.story) e

-- ---- what a visit leaves

-- an entry was noted in a visit that saw this much
pub noted-kept : (s k : Sight) (e : Entry) → s ≡ record k { story = s.story } → record s { story = s.story ++ e ∷ []; own = s.own ++ e ∷ [] } ≡ record k { story = s.story ++ e ∷ []; own = k.own ++ e ∷ [] }
noted-kept s k e is = subst (λ (z : Sight). record z { story = s.story ++ e ∷ []; own = z.own ++ e ∷ [] } ≡ record k { story = s.story ++ e ∷ []; own = k.own ++ e ∷ [] }) (sym is) refl

pub looked-of : (k k' : Sight) (l : List Entry) → Owns k → k' ≡ record k { story = l } → CarriesOn owner_of k l → Looked k k'
looked-of k k' l owns is car = subst (Looked k) (sym is) (record { before = as-before k l owns car; kept = refl })

pub visited-of : (told : Bool) (n : NodeId) (k k' : Sight) (l : List Entry) (e : Entry) (life : Life) (flags : Flags) → Owns k → IsOf n k → names n e ≡ true → (flags_at k n).up ≡ true
    → k' ≡ record k { story = l ++ e ∷ []; own = k.own ++ e ∷ [] } → CarriesOn owner_of k l
    → (IsTrue told → lives_on (base_at k) (walk (base_at k) l) n (life_at k n) e ≡ life) → flagged (walk (base_at k) l).last n.kind (flags_at k n) e ≡ flags → Visited told n k k' e life flags
visited-of told n k k' l e life flags owns is named up made car lives stands =
    let b : IsAsBefore k l = as-before k l owns car in
    let f : (walk (base_at k) l).flags n ≡ flags_at k n = b.flags n is in
    let known : ((walk (base_at k) l).flags n).known ≡ true = up-known (base_at k) l n (ap (λ (g : Flags). g.up) f ∙ up) in
    subst (λ (z : Sight). Visited told n k z e life flags) (sym made) (record {
      added = record { found = l; before = b; kept = refl };
      lives = λ t. life-own (base_at k) l e n named known ∙ ap (λ (x : Life). lives_on (base_at k) (walk (base_at k) l) n x e) (b.life n is) ∙ lives t;
      stands = flags-own (base_at k) l e n named known ∙ ap (λ (g : Flags). flagged (walk (base_at k) l).last n.kind g e) f ∙ stands;
    })

pub tested-of : (k k' : Sight) (s : StampParts) (word number : ℕ) (answer : Option Bool) → Owns k → word ≡ place_of s → k' ≡ record k { story = k'.story; tests = k.tests ++ (word, number) ∷ [] }
    → CarriesOn owner_of k k'.story → answer ≡ answer_of s number → Tested k k' s answer
tested-of k k' s word number answer owns at is car tells = record {
  number = number;
  before = as-before k k'.story owns car;
  kept = is ∙ ap (λ w. record k { story = k'.story; tests = k.tests ++ (w, number) ∷ [] }) at;
  tells = tells;
}

-- ---- taking

-- what was taken is the message with this number
pub took-copy : (b : Base) (n : NodeId) (l : Life) (sendings : List Sending) (number : ℕ) (p : Post) → numbered (map (λ (s : Sending). s.post) sendings) number ≡ Some p
    → took b n l (numbered sendings number) ≡ after_input b n l (Taking p.from p.message)
took-copy b n l sendings number p h =
    let f : (x : Sending) × (numbered sendings number ≡ Some x) × (x.post ≡ p) = numbered-from (λ (s : Sending). s.post) sendings number p h in
    ap (took b n l) f.1 ∙ ap (λ (q : Post). after_input b n l (Taking q.from q.message)) f.2

-- it is so too after the taking
pub copy-left : (k k' : Sight) (l : List Entry) (own : List Entry) (w : World) (n : NodeId) (a : Arrival) → k' ≡ record k { story = l ++ Take n a.number ∷ []; own = own } → w ≡ walk (base_at k) l
    → IsCopyOf (sent_by w) n a → IsCopyOf (sent_by (world_at k')) n a
copy-left k k' l own w n a is here h =
    subst (λ (z : Sight). IsCopyOf (sent_by (world_at z)) n a) (sym is)
    (subst (λ (ps : List Post). IsCopyOf ps n a) (ap sent_by here ∙ sym (ap sent_by (walk-more (base_at k) l (Take n a.number)))) h)

pub behind-is : (k k' : Sight) (l : List Entry) (w : World) (n : NodeId) (t : Bool) → k' ≡ record k { story = l } → w ≡ walk (base_at k) l → is_behind w n ≡ t → is_behind (world_at k') n ≡ t
behind-is k k' l w n t is here h = ap (λ (z : Sight). is_behind (world_at z) n) is ∙ sym (ap (λ (x : World). is_behind x n) here) ∙ h

-- ---- rest

pub quiet-rest : (w : WireParts) → IsQuiet w → HasNothingOpen (world_of w)
quiet-rest w q = λ n up. ((q n up).closed, (q n up).heard, (q n up).gone)

pub rest-found : (w : WireParts) (v : World) → world_of w ≡ v → IsQuiet w → HasNothingOpen v
rest-found w v here q = subst HasNothingOpen here (quiet-rest w q)

pub rest-left : (k k' : Sight) (l : List Entry) (w : WireParts) → k' ≡ record k { story = l } → world_of w ≡ walk (base_at k) l → IsQuiet w → HasNothingOpen (world_at k')
rest-left k k' l w is here q = subst (λ (z : Sight). HasNothingOpen (world_at z)) (sym is) (rest-found w (walk (base_at k) l) here q)

pub ticked-of : (k k' : Sight) (l : List Entry) (moment : ℕ) → Owns k → k' ≡ record k { story = l ++ Tick moment ∷ []; own = k.own ++ Tick moment ∷ [] } → CarriesOn owner_of k l → HasNothingOpen (walk (base_at k) l) → TicksOn k k' (Some moment)
ticked-of k k' l moment owns is car rest = (record { found = l; before = as-before k l owns car; kept = is }, rest)

pub sent-left : (k k' : Sight) (l : List Entry) (w : World) (n : ℕ) → k' ≡ record k { story = l } → w ≡ walk (base_at k) l → n ≡ length (sent_by w) → n ≡ length (sent_by (world_at k'))
sent-left k k' l w n is here h = subst (λ (z : Sight). n ≡ length (sent_by (world_at z))) (sym is) (h ∙ ap (λ (x : World). length (sent_by x)) here)

-- The closed wire is idle just where its trace is.
pub idle-closed : (w : WireParts) (o : Origin) (t : Trace) (idle : Bool) → t ≡ trace_of w → w.origin ≡ o → w.broken ≡ false → (IsTrue idle ↔ ((w.broken ≡ false) × Idle (fates_of w.sent) (world_of w)))
    → IsTrue idle ↔ Idle (fates_of t.sent) (end_of o t)
idle-closed w o t idle is origin whole h = subst (λ (x : Trace). IsTrue idle ↔ Idle (fates_of x.sent) (end_of o x)) (sym is)
    (subst (λ (q : Origin). IsTrue idle ↔ Idle (fates_of w.sent) (walk (base_from q) w.entries)) origin (λ i. (h.0 i).1, λ d. h.1 (whole, d)))

pub rest-closed : (w : WireParts) (o : Origin) (t : Trace) → t ≡ trace_of w → w.origin ≡ o → IsQuiet w → HasNothingOpen (end_of o t)
rest-closed w o t is origin q = rest-found w (end_of o t) (ap (λ (x : Origin). walk (base_from x) w.entries) origin ∙ ap (end_of o) (sym is)) q

-- ---- the start

pub owns-new : (b : WireParts) (ps : List (Seat WireParts (View WireParts Entry))) (os : List ℕ) → map knows ps ≡ map (fresh b) os → (k : ℕ) (d : Seat WireParts (View WireParts Entry)) → k < length ps → Owns (knows (get_or ps k d))
owns-new b ps os e k d lt =
    let none : Sight = fresh b 0 in
    let here : knows (get_or ps k d) ≡ fresh b (get_or os k 0) = sym (get_or-map knows ps k d none lt) ∙ ap (λ (l : List Sight). get_or l k none) e ∙ get_or-f (fresh b) os k 0 in
    subst Owns (sym here) refl

-- ---- gates

pub gated-of : (told : Bool) (n : NodeId) (k k' : Sight) (l : List Entry) (ds : List Decided) → Owns k → IsOf n k → (flags_at k n).up ≡ true
    → k' ≡ record k { story = l ++ Gate n ∷ []; own = k.own ++ Gate n ∷ []; posts = k.posts ++ posted ds } → CarriesOn owner_of k l
    → Gated told n k k' (Gate n) (gated_life (life_at k n)) (closed (flags_at k n)) ds
gated-of told n k k' l ds owns is up made car =
    let b : IsAsBefore k l = as-before k l owns car in
    let f : (walk (base_at k) l).flags n ≡ flags_at k n = b.flags n is in
    let known : ((walk (base_at k) l).flags n).known ≡ true = up-known (base_at k) l n (ap (λ (g : Flags). g.up) f ∙ up) in
    subst (λ (z : Sight). Gated told n k z (Gate n) (gated_life (life_at k n)) (closed (flags_at k n)) ds) (sym made) (record {
      found = l;
      before = b;
      kept = refl;
      lives = λ t. life-own (base_at k) l (Gate n) n (same_node-refl n) known ∙ ap gated_life (b.life n is);
      stands = flags-own (base_at k) l (Gate n) n (same_node-refl n) known ∙ ap closed f;
    })

pub gate-kept : (s k : Sight) (e : Entry) (ps : List (ℕ × ℕ)) → s ≡ record k { story = s.story }
    → record s { story = s.story ++ e ∷ []; own = s.own ++ e ∷ []; posts = s.posts ++ ps } ≡ record k { story = s.story ++ e ∷ []; own = k.own ++ e ∷ []; posts = k.posts ++ ps }
gate-kept s k e ps is = subst (λ (z : Sight). record z { story = s.story ++ e ∷ []; own = z.own ++ e ∷ []; posts = z.posts ++ ps } ≡ record k { story = s.story ++ e ∷ []; own = k.own ++ e ∷ []; posts = k.posts ++ ps }) (sym is) refl

pub posts-kept : (s k : Sight) (ps qs : List (ℕ × ℕ)) (w n : ℕ) → s ≡ record k { posts = k.posts ++ ps } → ps ++ (w, n) ∷ [] ≡ qs → record s { posts = s.posts ++ (w, n) ∷ [] } ≡ record k { posts = k.posts ++ qs }
posts-kept s k ps qs w n is more =
    subst (λ (z : Sight). record z { posts = z.posts ++ (w, n) ∷ [] } ≡ record k { posts = k.posts ++ qs }) (sym is)
    (ap (λ (x : List (ℕ × ℕ)). record k { posts = x }) (append_assoc k.posts ps ((w, n) ∷ []) ∙ ap (λ (x : List (ℕ × ℕ)). k.posts ++ x) more))

pub all-posted : {s z : Sight} (ps : List (ℕ × ℕ)) → s ≡ z → record s { posts = s.posts ++ ps } ≡ record z { posts = z.posts ++ ps }
all-posted ps e = ap (λ (k : Sight). record k { posts = k.posts ++ ps }) e

pub posted-more : (ds : List Decided) (i : ℕ) (d : Decided) (w n : ℕ) → i < length ds → d ≡ get_or ds i d → w ≡ place_of d.0 → n ≡ number_of d.0 d.1 → posted (take i ds) ++ (w, n) ∷ [] ≡ posted (take (i + 1) ds)
posted-more ds i d w n low at a b =
    let step : take (i + 1) ds ≡ take i ds ++ d ∷ [] = take_more ds i d low ∙ ap (λ (x : Decided). take i ds ++ x ∷ []) (sym at) in
    ap (λ (x : ℕ). posted (take i ds) ++ (x, n) ∷ []) a ∙ ap (λ (x : ℕ). posted (take i ds) ++ (place_of d.0, x) ∷ []) b
    ∙ sym (map-append (λ (e : Decided). (place_of e.0, number_of e.0 e.1)) (take i ds) (d ∷ [])) ∙ ap posted (sym step)

-- ---- passes

pub owns-left : (k k' : Sight) (l : List Entry) → k' ≡ record k { story = l } → CarriesOn owner_of k l → Owns k'
owns-left k k' l is car = subst Owns (sym is) car.own

owned-more : (o : ℕ) (l : List Entry) (e : Entry) (own : List Entry) → owner_of e ≡ o → entries_of owner_of o l ≡ own → entries_of owner_of o (l ++ e ∷ []) ≡ own ++ e ∷ []
owned-more o l e own mine is =
    filter-append (λ (x : Entry). owner_of x == o) l (e ∷ [])
    ∙ ap (λ (t : Bool). entries_of owner_of o l ++ cond t (e ∷ []) []) (eq-eqb (owner_of e) o mine) ∙ ap (λ (es : List Entry). es ++ e ∷ []) is

pub owns-noted : (k k' : Sight) (l : List Entry) (e : Entry) → k' ≡ record k { story = l ++ e ∷ []; own = k.own ++ e ∷ [] } → owner_of e ≡ k.owner → CarriesOn owner_of k l → Owns k'
owns-noted k k' l e is mine car = subst Owns (sym is) (owned-more k.owner l e k.own mine car.own)

module _ {Q A : Type 0} where
  pub pass-at : (lock lock' : LockTable WireParts (View WireParts Entry) (Founding WireParts) Q A) (pass : Seat WireParts (View WireParts Entry)) → lock' ≡ lock → IsPassOf lock' pass → Owns (knows pass) → IsWirePass lock pass
  pass-at lock lock' pass same is owns = subst (λ (l : LockTable WireParts (View WireParts Entry) (Founding WireParts) Q A). IsWirePass l pass) same (record { of_lock = is; own = owns })

-- ---- the wire as a visit left it

pub if-gave : {A E : Type 0} (P : A → Type 0) (r : Result A E) (x : A) → r ≡ Ok x → IfOk r P → P x
if-gave {A} {E} P r x is h = subst (λ (z : Result A E). IfOk z P) is h

pub if-failed : {A E P : Type 0} (r : Result A E) (e : E) → r ≡ Err e → OnErr r P → P
if-failed {A} {E} {P} r e is h = subst (λ (z : Result A E). OnErr z P) is h

pub left-of : (k k' : Sight) (l own : List Entry) (w : WireParts) → w.origin ≡ origin_at k → w.entries ≡ l → k' ≡ record k { story = l; own = own } → IsLeft w k'
left-of k k' l own w origin entries is = record { origin = origin ∙ ap origin_at (sym is); entries = entries ∙ sym (story-of is) }

left-world : (w : WireParts) (k : Sight) → IsLeft w k → world_of w ≡ world_at k
left-world w k h = ap₂ (λ (o : Origin) (l : List Entry). walk (base_from o) l) h.origin h.entries

pub none-due : (w old : WireParts) (k : Sight) (n : NodeId) → IsLeft w k → w ≡ old → TookAll (fates_of old.sent) (world_of old) n → HasNoneDue w k n
none-due w old k n left same h =
    subst (λ (v : World). TookAll (fates_of w.sent) v n) (left-world w k left) (subst (λ (x : WireParts). TookAll (fates_of x.sent) (world_of x) n) (sym same) h)

pub still-busy : (w old : WireParts) (k : Sight) → IsLeft w k → w ≡ old → (Idle (fates_of old.sent) (world_of old) → ⊥) → IsIdle w k → ⊥
still-busy w old k left same busy idle =
    busy (subst (λ (x : WireParts). Idle (fates_of x.sent) (world_of x)) same (subst (λ (v : World). Idle (fates_of w.sent) v) (sym (left-world w k left)) idle))

pub idle-left : (w : WireParts) (k : Sight) (idle : Bool) → IsLeft w k → (IsTrue idle ↔ ((w.broken ≡ false) × Idle (fates_of w.sent) (world_of w))) → (IsTrue idle ↔ ((w.broken ≡ false) × IsIdle w k))
idle-left w k idle left h = subst (λ (v : World). IsTrue idle ↔ ((w.broken ≡ false) × Idle (fates_of w.sent) v)) (left-world w k left) h
