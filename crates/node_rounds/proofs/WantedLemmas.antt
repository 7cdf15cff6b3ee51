-- Each Tick of the conductor's story stands where some node isn't done.
use Rattle.node_rounds.proofs.Names.{◌≡◌, ◌⊎◌, ◌+◌, ◌≤◌, ◌==◌, ℕ, Bool, true, false, IsTrue, List, [], ◌∷◌, ◌++◌, inl, inr, refl, ap, sym, subst, ◌∙◌, append_assoc, arith, cond, if◌then◌else◌, append-nil, filter-append, sum_by-append, sum_by-cons, NodeId, View, Founding, LockTable, Begins, entries_of, CarriesOn, lock_base, Entry, Take, Go, Learn, Hear, Gate, Crash, Down, Tick, Base, Life, walk, WireParts, base_from, owner_of, Sight, IsOf, Owns, Looked, Added, base_at, life_at, as-before, pass-origin, is_tick, tick_count, NodeParts, sight, Shares, EachNode, EachPlace, SomeNode, HasAllOf, HasMet, HasPass, HasSeen, HasTicked, IsLate, IsLateAfter, SeesMore, TicksAreWanted, is_done_after, is_done_at}
use Rattle.std.proofs.lemmas.Bool.Decides.{nat_tests}
use Rattle.pseudo_time.specs.Nodes.{is_broker}
use Rattle.broker_node.specs.Logs.{is_over}
use Rattle.node_rounds.proofs.RoundLemmas.{begins-joins, looked-own, looked-owner}
use Rattle.node_rounds.proofs.ShareLemmas.{each-both, some-both, some-through}

-- ---- Ticks

-- Ticks are the conductor's
tick-owner : (e : Entry) → is_tick e ≡ true → owner_of e ≡ 0
tick-owner (Take node number) h = absurd cc
tick-owner (Go node) h = absurd cc
tick-owner (Learn node stamp committed) h = absurd cc
tick-owner (Hear node) h = absurd cc
tick-owner (Gate node) h = absurd cc
tick-owner (Crash node kept) h = absurd cc
tick-owner (Down node cause) h = absurd cc
tick-owner (Tick moment) h = refl

tick-cons : (e : Entry) (es : List Entry) → tick_count (e ∷ es) ≡ cond (is_tick e) 1 0 + tick_count es
tick-cons e es = sum_by-cons (λ (x : Entry). cond (is_tick x) 1 0) e es

pub ticks-append : (es fs : List Entry) → tick_count (es ++ fs) ≡ tick_count es + tick_count fs
ticks-append es fs = sum_by-append (λ (x : Entry). cond (is_tick x) 1 0) es fs

-- all Ticks of a list are among the conductor's entries
ticks-among : (es : List Entry) → tick_count (entries_of owner_of 0 es) ≡ tick_count es
ticks-among [] = refl
ticks-among (e ∷ es) = step (ticks-among es) (owner_of e == 0) (is_tick e) refl refl
  where
    step : tick_count (entries_of owner_of 0 es) ≡ tick_count es → (t s : Bool) → (owner_of e == 0) ≡ t → is_tick e ≡ s → tick_count (cond t (e ∷ entries_of owner_of 0 es) (entries_of owner_of 0 es)) ≡ tick_count (e ∷ es)
    step rest true s p q = tick-cons e (entries_of owner_of 0 es) ∙ (ap (λ (n : ℕ). cond (is_tick e) 1 0 + n) rest ∙ sym (tick-cons e es))
    step rest false true p q = let o = tick-owner e q in absurd (grind (arith, nat_tests))
    step rest false false p q = let z : tick_count es ≡ 0 + tick_count es = omega arith in rest ∙ (z ∙ (ap (λ (b : Bool). cond b 1 0 + tick_count es) (sym q) ∙ sym (tick-cons e es)))

pub ticks-whole : (k : Sight) (es : List Entry) → k.owner ≡ 0 → CarriesOn owner_of k es → tick_count es ≡ tick_count k.own
ticks-whole k es conductor car = sym (ticks-among es) ∙ ap tick_count (subst (λ (o : ℕ). entries_of owner_of o es ≡ k.own) conductor car.own)

-- the conductor's story has the Ticks that it made
pub story-ticks : (k : Sight) → k.owner ≡ 0 → Owns k → tick_count k.story ≡ tick_count k.own
story-ticks k conductor owns = sym (ticks-among k.story) ∙ ap tick_count (subst (λ (o : ℕ). entries_of owner_of o k.story ≡ k.own) conductor owns)

-- ---- lists with Ticks

some-tick : (front : List Entry) (moment : ℕ) (rest : List Entry) → 1 ≤ tick_count (front ++ Tick moment ∷ rest)
some-tick front moment rest =
    let a = ticks-append front (Tick moment ∷ rest) in
    let b : tick_count (Tick moment ∷ rest) ≡ 1 + tick_count rest = tick-cons (Tick moment) rest in
    omega (arith, a, b)

-- a Tick of a list that goes on without any stands in the list
pub tick-before : (a b front : List Entry) (moment : ℕ) (rest : List Entry) → Begins a b → tick_count b ≡ tick_count a → b ≡ front ++ Tick moment ∷ rest → (more : List Entry) × (a ≡ front ++ Tick moment ∷ more)
tick-before a b front moment rest begins same is = go a front (begins.1 ∙ is)
  where
    none : tick_count begins.0 ≡ 0
    none = let s = ticks-append a begins.0 in let e = ap tick_count begins.1 in omega (arith, s, e, same)

    go : (l front : List Entry) → l ++ begins.0 ≡ front ++ Tick moment ∷ rest → (more : List Entry) × (l ≡ front ++ Tick moment ∷ more)
    go [] front e = absurd (let s = some-tick front moment rest in let k = ap tick_count e in omega (arith, s, k, none))
    go (x ∷ l) [] e = let h : x ≡ Tick moment = cc in (l, ap (λ (z : Entry). z ∷ l) h)
    go (x ∷ l) (y ∷ front) e =
        let h : x ≡ y = cc in
        let t : l ++ begins.0 ≡ front ++ Tick moment ∷ rest = cc in
        let k = go l front t in
        (k.0, ap (λ (z : Entry). z ∷ l) h ∙ ap (λ (m : List Entry). y ∷ m) k.1)

-- an entry that is followed by others is the last one, or stands before it
tick-last : (found front : List Entry) (last : Entry) (moment : ℕ) (rest : List Entry) → found ++ last ∷ [] ≡ front ++ Tick moment ∷ rest → (front ≡ found) ⊎ ((more : List Entry) × (found ≡ front ++ Tick moment ∷ more))
tick-last [] [] last moment rest e = inl refl
tick-last [] (y ∷ []) last moment rest e = absurd cc
tick-last [] (y ∷ z ∷ front) last moment rest e = absurd cc
tick-last (x ∷ found) [] last moment rest e = let h : x ≡ Tick moment = cc in inr (found, ap (λ (z : Entry). z ∷ found) h)
tick-last (x ∷ found) (y ∷ front) last moment rest e =
    let h : x ≡ y = cc in
    let t : found ++ last ∷ [] ≡ front ++ Tick moment ∷ rest = cc in
    by h (tick-last found front last moment rest t)
  where
    by : x ≡ y → (front ≡ found) ⊎ ((more : List Entry) × (found ≡ front ++ Tick moment ∷ more)) → (y ∷ front ≡ x ∷ found) ⊎ ((more : List Entry) × (x ∷ found ≡ y ∷ front ++ Tick moment ∷ more))
    by h (inl q) = inl (ap (λ (z : Entry). z ∷ front) (sym h) ∙ ap (λ (l : List Entry). x ∷ l) q)
    by h (inr k) = inr (k.0, ap (λ (z : Entry). z ∷ found) h ∙ ap (λ (l : List Entry). y ∷ l) k.1)

-- ---- lists between two in which an owner has the same entries

no-more : (xs ys : List Entry) → xs ++ ys ≡ xs → ys ≡ []
no-more [] ys h = h
no-more (x ∷ xs) ys h = no-more xs ys (cc h)

front-none : (xs ys : List Entry) → xs ++ ys ≡ [] → xs ≡ []
front-none [] ys h = refl
front-none (x ∷ xs) ys h = absurd cc

between : (o : ℕ) (a c m own : List Entry) → Begins a c → Begins c m → entries_of owner_of o a ≡ own → entries_of owner_of o m ≡ own → entries_of owner_of o c ≡ own
between o a c m own p q first last =
    let whole : a ++ (p.0 ++ q.0) ≡ m = sym (append_assoc a p.0 q.0) ∙ (ap (λ l. l ++ q.0) p.1 ∙ q.1) in
    let all : own ++ entries_of owner_of o (p.0 ++ q.0) ≡ own =
    ap (λ l. l ++ entries_of owner_of o (p.0 ++ q.0)) (sym first) ∙ (sym (filter-append (λ e. owner_of e == o) a (p.0 ++ q.0)) ∙ (ap (entries_of owner_of o) whole ∙ last)) in
    let none : entries_of owner_of o p.0 ++ entries_of owner_of o q.0 ≡ [] = sym (filter-append (λ e. owner_of e == o) p.0 q.0) ∙ no-more own (entries_of owner_of o (p.0 ++ q.0)) all in
    ap (entries_of owner_of o) (sym p.1) ∙ (filter-append (λ e. owner_of e == o) a p.0
    ∙ (ap (λ l. entries_of owner_of o a ++ l) (front-none (entries_of owner_of o p.0) (entries_of owner_of o q.0) none) ∙ (append-nil (entries_of owner_of o a) ∙ first)))

-- ---- lives

-- in a list that carries on what its pass has seen the node has the life that it has seen
pub life-whole : (k : Sight) (n : NodeId) (es : List Entry) (b : Base) → IsOf n k → Owns k → CarriesOn owner_of k es → base_at k ≡ b → (walk b es).life n ≡ life_at k n
life-whole k n es b is owns car at = subst (λ (x : Base). (walk x es).life n ≡ life_at k n) at ((as-before k es owns car).life n is)

done-whole : (k : Sight) (n : NodeId) (es : List Entry) (b : Base) → IsOf n k → Owns k → CarriesOn owner_of k es → base_at k ≡ b → is_done_after b es n ≡ is_done_at k n
done-whole k n es b is owns car at =
    ap (λ (l : Life). if is_broker n.kind then is_over b n.number l else true) (life-whole k n es b is owns car at)
    ∙ sym (ap (λ (x : Base). if is_broker n.kind then is_over x n.number (life_at k n) else true) at)

-- ---- a visit that ticked

pub ticked-of : (a b c : Sight) (moment : ℕ) → Looked a b → Added b c (Tick moment) → HasTicked a c
ticked-of a b c moment look p = record {
  found = p.found;
  moment = moment;
  carries = record {
    begins = begins-joins a.story b.story p.found look.before.carries.begins p.before.carries.begins;
    own = subst (λ (o : ℕ). entries_of owner_of o p.found ≡ a.own) (looked-owner look) (p.before.carries.own ∙ looked-own look);
  };
  begins = ([], append-nil (p.found ++ Tick moment ∷ []) ∙ sym (ap (λ (k : Sight). k.story) p.kept));
}

module _ {M : Type 0} where
  abbrev pub SameName : NodeParts M → NodeParts M → Type 0
  SameName old new = new.node ≡ old.node

  module _ (b : Base) where
    -- where no Tick was added
    pub wanted-same : (old new : List Entry) (nodes after : Shares M) → Begins old new → tick_count new ≡ tick_count old → EachPlace SameName nodes after → TicksAreWanted b old nodes → TicksAreWanted b new after
    wanted-same old new nodes after begins same names wanted front moment rest is =
        let h = tick-before old new front moment rest begins same is in
        some-through (IsLateAfter b front) SameName (IsLateAfter b front) (λ x y late n. subst (λ (m : NodeId). is_done_after b front m ≡ false) (sym n) late) nodes after (wanted front moment h.0 h.1) names

    wanted-none : (story : List Entry) (nodes : Shares M) → tick_count story ≡ 0 → TicksAreWanted b story nodes
    wanted-none story nodes none front moment rest is = absurd (let s = some-tick front moment rest in let e = ap tick_count is in omega (arith, s, e, none))

    -- where one was added behind this, in which some node isn't done
    wanted-ticked : (old found new : List Entry) (at : ℕ) (nodes after : Shares M) → Begins old found → tick_count found ≡ tick_count old → Begins (found ++ Tick at ∷ []) new → tick_count new ≡ tick_count found + 1
        → EachPlace SameName nodes after → TicksAreWanted b old nodes → SomeNode (IsLateAfter b found) after → TicksAreWanted b new after
    wanted-ticked old found new at nodes after begins same more count names wanted late front moment rest is = by (tick-last found front (Tick at) moment h.0 h.1)
      where
        one : tick_count (found ++ Tick at ∷ []) ≡ tick_count found + 1
        one = ticks-append found (Tick at ∷ [])

        h : (l : List Entry) × (found ++ Tick at ∷ [] ≡ front ++ Tick moment ∷ l)
        h = tick-before (found ++ Tick at ∷ []) new front moment rest more (omega (arith, count, one)) is

        by : (front ≡ found) ⊎ ((l : List Entry) × (found ≡ front ++ Tick moment ∷ l)) → SomeNode (IsLateAfter b front) after
        by (inl e) = subst (λ (l : List Entry). SomeNode (IsLateAfter b l) after) (sym e) late
        by (inr p) = wanted-same old found nodes after begins same names wanted front moment p.0 p.1

-- what a walk over the entries of a lock's wire begins with
abbrev pub wire_base : {Q A : Type 0} → LockTable WireParts (View WireParts Entry) (Founding WireParts) Q A → Base
wire_base lock = base_from (lock_base lock).origin

module _ {M Q A : Type 0} (lock : LockTable WireParts (View WireParts Entry) (Founding WireParts) Q A) where
  -- before the first Tick
  pub first-wanted : (k : Sight) (nodes : Shares M) → k.owner ≡ 0 → Owns k → tick_count k.own ≡ 0 → TicksAreWanted (wire_base lock) k.story nodes
  first-wanted k nodes conductor owns none = let s = story-ticks k conductor owns in wanted-none (wire_base lock) k.story nodes (omega (arith, s, none))

  -- where the conductor only looked
  pub still-wanted : (old new : Sight) (nodes after : Shares M) → old.owner ≡ 0 → Owns old → Owns new → SeesMore 0 old new → EachPlace SameName nodes after → TicksAreWanted (wire_base lock) old.story nodes → TicksAreWanted (wire_base lock) new.story after
  still-wanted old new nodes after conductor first last more names wanted =
      let a = story-ticks old conductor first in
      let c = story-ticks new (more.owner ∙ conductor) last in
      let t = more.ticked in
      wanted-same (wire_base lock) old.story new.story nodes after more.begins (omega (arith, a, c, t)) names wanted

  module _ (tells : Bool) (told : IsTrue tells) where
    -- a node that wasn't done when a Tick was added, and met the conductor before and behind it, isn't done where the Tick stands
    abbrev WasLate : List Entry → NodeParts M → NodeParts M → Type 0
    WasLate met x y = (IsLate tells x × HasPass lock x × HasAllOf met x) × HasMet x y

    late-at : (met found asked : List Entry) (x y : NodeParts M) → Begins met found → Begins found asked → WasLate met x y → HasSeen asked y → IsLateAfter (wire_base lock) found y
    late-at met found asked x y front back (late, h) seen =
        let k = sight x in
        let own = between k.owner k.story found (sight y).story k.own (begins-joins k.story met found late.2.begins front) (begins-joins found asked (sight y).story back seen) late.2.all h.looked.before.carries.own in
        let car : CarriesOn owner_of k found = record { begins = begins-joins k.story met found late.2.begins front; own = own } in
        let at : base_at k ≡ (wire_base lock) = ap base_from (sym (pass-origin lock x.pass late.1.of_lock)) in
        subst (λ (m : NodeId). is_done_after (wire_base lock) found m ≡ false) (sym h.node) (done-whole k x.node found (wire_base lock) late.0.0 late.1.own car at ∙ late.0.1 told)

    late-after : (met found asked : List Entry) (mid after : Shares M) → Begins met found → Begins found asked → SomeNode (IsLate tells) mid → EachNode (HasPass lock) mid → EachNode (HasAllOf met) mid → EachPlace HasMet mid after
        → EachNode (HasSeen asked) after → SomeNode (IsLateAfter (wire_base lock) found) after
    late-after met found asked mid after front back late passes all meets seen =
        some-both (λ y. (x : NodeParts M) × WasLate met x y) (HasSeen asked) (IsLateAfter (wire_base lock) found) (λ y w s. late-at met found asked w.0 y front back w.1 s) after
        (some-through (λ x. IsLate tells x × HasPass lock x × HasAllOf met x) HasMet (λ y. (x : NodeParts M) × WasLate met x y) (λ x y p m. (x, (p, m))) mid after
        (some-both (IsLate tells) (λ x. HasPass lock x × HasAllOf met x) (λ x. IsLate tells x × HasPass lock x × HasAllOf met x) (λ x l p. (l, p.0, p.1)) mid late (each-both (HasPass lock) (HasAllOf met) (λ x. HasPass lock x × HasAllOf met x) (λ x p h. (p, h)) mid passes all)) meets)
        seen

    -- a round with a Tick
    pub round-wanted : (old met asked new : Sight) (begun mid after : Shares M) → old.owner ≡ 0 → Owns old → Owns new → Looked old met → HasTicked met asked → SeesMore 1 met asked → Looked asked new
        → SomeNode (IsLate tells) mid → EachNode (HasPass lock) mid → EachNode (HasAllOf met.story) mid → EachPlace HasMet mid after → EachNode (HasSeen asked.story) after
        → EachPlace SameName begun after → TicksAreWanted (wire_base lock) old.story begun → TicksAreWanted (wire_base lock) new.story after
    round-wanted old met asked new begun mid after conductor first last look t more again late passes all meets seen names wanted =
        let a = story-ticks old conductor first in
        let found = ticks-whole met t.found (looked-owner look ∙ conductor) t.carries in
        let own = ap tick_count (looked-own look) in
        let c = story-ticks new (looked-owner again ∙ (more.owner ∙ (looked-owner look ∙ conductor))) last in
        let d = ap tick_count (looked-own again) in
        let one = more.ticked in
        wanted-ticked (wire_base lock) old.story t.found new.story t.moment begun after
        (begins-joins old.story met.story t.found look.before.carries.begins t.carries.begins) (omega (arith, a, found, own))
        (begins-joins (t.found ++ Tick t.moment ∷ []) asked.story new.story t.begins again.before.carries.begins) (omega (arith, c, d, one, found)) names wanted
        (late-after met.story t.found asked.story mid after t.carries.begins (front-of t.found t.moment asked.story t.begins) late passes all meets seen)
      where
        front-of : (l : List Entry) (m : ℕ) (s : List Entry) → Begins (l ++ Tick m ∷ []) s → Begins l s
        front-of l m s b = begins-joins l (l ++ Tick m ∷ []) s (Tick m ∷ [], refl) b
