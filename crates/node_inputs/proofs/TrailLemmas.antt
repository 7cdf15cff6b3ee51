-- What visits and tests leave of a trail.
use Rattle.node_inputs.proofs.Names.{StampParts, NodeId, same_node-refl, Out, CarriesOn, Entry, Take, Go, Learn, Hear, Gate, Crash, Down, Tick, leaves, Base, Life, Flags, World, names, own, all_effects, start_world, step, walk_from, walk, owner_of, place_of, owed, Decided, Sight, origin_in, base_at, world_at, IsOf, Owns, Looked, Added, Gated, Tested, WireParts, base_from, own-same, costs, Adds, Grew, Trail, ◌≡◌, ℕ, ◌+◌, Bool, false, List, [], ◌∷◌, ◌++◌, Option, if◌then◌else◌, filter, refl, ap, sym, ◌∙◌, arith, append_assoc, append-nil, walk-append, cost_of, gates, sent_from, learned_by, learned_in}
use Rattle.world_core.proofs.Others.{Silent, silent-more}

-- ---- what is sent

gates-other : (n : NodeId) (e : Entry) → names n e ≡ false → gates n e ≡ false
gates-other n (Take node number) h = refl
gates-other n (Go node) h = refl
gates-other n (Learn node stamp committed) h = refl
gates-other n (Hear node) h = refl
gates-other n (Gate node) h = h
gates-other n (Crash node kept) h = refl
gates-other n (Down node cause) h = refl
gates-other n (Tick moment) h = refl

abbrev at_gate : Bool → World → NodeId → List Out
at_gate t w n = if t then owed w n else []

sent-others : (b : Base) (n : NodeId) (w : World) (es : List Entry) → Silent n es → sent_from b n w es ≡ []
unfolding sent_from
sent-others b n w [] h = refl
sent-others b n w (e ∷ es) h = ap (λ t. at_gate t w n ++ sent_from b n (step b w e) es) (gates-other n e h.0) ∙ sent-others b n (step b w e) es h.1

sent-append : (b : Base) (n : NodeId) (w : World) (xs ys : List Entry) → sent_from b n w (xs ++ ys) ≡ sent_from b n w xs ++ sent_from b n (walk_from b w xs) ys
unfolding sent_from walk_from
sent-append b n w [] ys = refl
sent-append b n w (e ∷ xs) ys =
    ap (λ l. at_gate (gates n e) w n ++ l) (sent-append b n (step b w e) xs ys)
    ∙ sym (append_assoc (at_gate (gates n e) w n) (sent_from b n (step b w e) xs) (sent_from b n (walk_from b (step b w e) xs) ys))

-- an entry after entries of others
sent-last : (b : Base) (n : NodeId) (w : World) (xs : List Entry) (e : Entry) → Silent n xs → sent_from b n w (xs ++ e ∷ []) ≡ at_gate (gates n e) (walk_from b w xs) n ++ []
unfolding sent_from
sent-last b n w xs e h = sent-append b n w xs (e ∷ []) ∙ ap (λ l. l ++ (at_gate (gates n e) (walk_from b w xs) n ++ [])) (sent-others b n w xs h)

-- ---- what is learned and paid

learned-append : (xs ys : List Entry) → learned_in (xs ++ ys) ≡ learned_in xs ++ learned_in ys
learned-append [] ys = refl
learned-append (e ∷ xs) ys = ap (λ l. learned_by e ++ l) (learned-append xs ys) ∙ sym (append_assoc (learned_by e) (learned_in xs) (learned_in ys))

pub costs-append : (xs ys : List Entry) → costs (xs ++ ys) ≡ costs xs + costs ys
costs-append [] ys = omega arith
costs-append (e ∷ xs) ys = let h = costs-append xs ys in omega (arith, h)

-- ---- pieces of a trail

pub silent-seen : (k : Sight) (n : NodeId) (l : List Entry) → IsOf n k → Owns k → (car : CarriesOn owner_of k l) → Silent n car.begins.0
silent-seen k n l is owns car = silent-more (base_at k) k.story car.begins.0 n (ap (own n) car.begins.1 ∙ own-same k n l is owns car)

pub trail-none : (n : NodeId) (k : Sight) → Trail n k k [] [] [] 0
unfolding sent_from
trail-none n k = record {
  base = refl;
  names = refl;
  rest = [];
  story = sym (append-nil k.story);
  sends = refl;
  own = [];
  adds = sym (append-nil k.own);
  learns = refl;
  paid = refl;
  tests = sym (append-nil k.tests);
}

pub trail-looked : (n : NodeId) {old new : Sight} → IsOf n old → Owns old → Looked old new → Trail n old new [] [] [] 0
trail-looked n {old} {new} is owns look = record {
  base = ap (λ (k : Sight). k.base) look.kept;
  names = ap (λ (k : Sight). k.owner) look.kept;
  rest = look.before.carries.begins.0;
  story = sym look.before.carries.begins.1;
  sends = sent-others (base_at old) n (world_at old) look.before.carries.begins.0 (silent-seen old n new.story is owns look.before.carries);
  own = [];
  adds = ap (λ (k : Sight). k.own) look.kept ∙ sym (append-nil old.own);
  learns = refl;
  paid = refl;
  tests = ap (λ (k : Sight). k.tests) look.kept ∙ sym (append-nil old.tests);
}

pub trail-added : (n : NodeId) {old new : Sight} {e : Entry} (learned : List Decided) (cost : ℕ) → IsOf n old → Owns old → gates n e ≡ false → learned_by e ++ [] ≡ learned → cost_of e + 0 ≡ cost
    → Added old new e → Trail n old new [] learned [] cost
trail-added n {old} {new} {e} learned cost is owns quiet ls cs a = record {
  base = ap (λ (k : Sight). k.base) a.kept;
  names = ap (λ (k : Sight). k.owner) a.kept;
  rest = a.before.carries.begins.0 ++ e ∷ [];
  story = ap (λ (k : Sight). k.story) a.kept ∙ (ap (λ l. l ++ e ∷ []) (sym a.before.carries.begins.1) ∙ append_assoc old.story a.before.carries.begins.0 (e ∷ []));
  sends = sent-last (base_at old) n (world_at old) a.before.carries.begins.0 e (silent-seen old n a.found is owns a.before.carries)
      ∙ ap (λ t. at_gate t (walk_from (base_at old) (world_at old) a.before.carries.begins.0) n ++ []) quiet;
  own = e ∷ [];
  adds = ap (λ (k : Sight). k.own) a.kept;
  learns = ls;
  paid = cs;
  tests = ap (λ (k : Sight). k.tests) a.kept ∙ sym (append-nil old.tests);
}

abbrev owed_by : Life → List Out
owed_by l = filter (leaves (all_effects l)) l.outs

-- what a gate sends is what was owed
pub trail-gated : {tells : Bool} (n : NodeId) {old new : Sight} {life : Life} {flags : Flags} {ds : List Decided} → IsOf n old → Owns old → Gated tells n old new (Gate n) life flags ds
    → Trail n old new (owed (world_at old) n) [] [] 0
trail-gated {tells} n {old} {new} {life} {flags} {ds} is owns g =
    let rest : List Entry = g.before.carries.begins.0 in
    let w : walk_from (base_at old) (world_at old) rest ≡ walk (base_at old) g.found =
    sym (walk-append (base_at old) (start_world (base_at old)) old.story rest) ∙ ap (walk (base_at old)) g.before.carries.begins.1 in
    record {
      base = ap (λ (k : Sight). k.base) g.kept;
      names = ap (λ (k : Sight). k.owner) g.kept;
      rest = rest ++ Gate n ∷ [];
      story = ap (λ (k : Sight). k.story) g.kept ∙ (ap (λ l. l ++ Gate n ∷ []) (sym g.before.carries.begins.1) ∙ append_assoc old.story rest (Gate n ∷ []));
      sends = sent-last (base_at old) n (world_at old) rest (Gate n) (silent-seen old n g.found is owns g.before.carries)
          ∙ (ap (λ t. at_gate t (walk_from (base_at old) (world_at old) rest) n ++ []) (same_node-refl n)
          ∙ (append-nil (owed (walk_from (base_at old) (world_at old) rest) n) ∙ (ap (λ (x : World). owed x n) w ∙ ap owed_by (g.before.life n is))));
      own = Gate n ∷ [];
      adds = ap (λ (k : Sight). k.own) g.kept;
      learns = refl;
      paid = refl;
      tests = ap (λ (k : Sight). k.tests) g.kept ∙ sym (append-nil old.tests);
    }

pub trail-tested : (n : NodeId) {old new : Sight} {stamp : StampParts} {answer : Option Bool} → IsOf n old → Owns old → (t : Tested old new stamp answer) → Trail n old new [] [] ((place_of stamp, t.number) ∷ []) 0
trail-tested n {old} {new} {stamp} {answer} is owns t = record {
  base = ap (λ (k : Sight). k.base) t.kept;
  names = ap (λ (k : Sight). k.owner) t.kept;
  rest = t.before.carries.begins.0;
  story = sym t.before.carries.begins.1;
  sends = sent-others (base_at old) n (world_at old) t.before.carries.begins.0 (silent-seen old n new.story is owns t.before.carries);
  own = [];
  adds = ap (λ (k : Sight). k.own) t.kept ∙ sym (append-nil old.own);
  learns = refl;
  paid = refl;
  tests = ap (λ (k : Sight). k.tests) t.kept;
}

-- ---- one piece, and then another

sends-on : (n : NodeId) (a b : Sight) (rest es : List Entry) → b.base ≡ a.base → b.story ≡ a.story ++ rest
    → sent_from (base_at a) n (walk_from (base_at a) (world_at a) rest) es ≡ sent_from (base_at b) n (world_at b) es
sends-on n a b rest es eb el =
    let w : walk_from (base_at a) (world_at a) rest ≡ walk (base_at a) b.story = sym (walk-append (base_at a) (start_world (base_at a)) a.story rest) ∙ ap (walk (base_at a)) (sym el) in
    ap (λ (x : World). sent_from (base_at a) n x es) w ∙ ap (λ (o : Option WireParts). sent_from (base_from (origin_in o)) n (walk (base_from (origin_in o)) b.story) es) (sym eb)

pub trail-joins : {n : NodeId} {a b c : Sight} {s1 s2 : List Out} {l1 l2 : List Decided} {t1 t2 : List (ℕ × ℕ)} {c1 c2 : ℕ}
    → Trail n a b s1 l1 t1 c1 → Trail n b c s2 l2 t2 c2 → Trail n a c (s1 ++ s2) (l1 ++ l2) (t1 ++ t2) (c1 + c2)
trail-joins {n} {a} {b} {c} {s1} {s2} {l1} {l2} {t1} {t2} {c1} {c2} p q = record {
  base = q.base ∙ p.base;
  names = q.names ∙ p.names;
  rest = p.rest ++ q.rest;
  story = q.story ∙ (ap (λ l. l ++ q.rest) p.story ∙ append_assoc a.story p.rest q.rest);
  sends = sent-append (base_at a) n (world_at a) p.rest q.rest
      ∙ (ap (λ l. l ++ sent_from (base_at a) n (walk_from (base_at a) (world_at a) p.rest) q.rest) p.sends ∙ ap (λ l. s1 ++ l) (sends-on n a b p.rest q.rest p.base p.story ∙ q.sends));
  own = p.own ++ q.own;
  adds = q.adds ∙ (ap (λ l. l ++ q.own) p.adds ∙ append_assoc a.own p.own q.own);
  learns = learned-append p.own q.own ∙ (ap (λ l. l ++ learned_in q.own) p.learns ∙ ap (λ l. l1 ++ l) q.learns);
  paid = let h = costs-append p.own q.own in omega (arith, h, p.paid, q.paid);
  tests = q.tests ∙ (ap (λ l. l ++ t2) p.tests ∙ append_assoc a.tests t1 t2);
}

pub trail-cost : {n : NodeId} {a b : Sight} {s : List Out} {l : List Decided} {t : List (ℕ × ℕ)} {c : ℕ} → Trail n a b s l t c → costs b.own ≡ costs a.own + c
trail-cost {n} {a} {b} {s} {l} {t} {c} p = let h = costs-append a.own p.own in ap costs p.adds ∙ omega (arith, h, p.paid)

-- an entry was added
pub grew-added : {old new : Sight} {e : Entry} → Added old new e → Grew old.own new.own
grew-added {old} {new} {e} a = (e, [], ap (λ (k : Sight). k.own) a.kept)

-- none, and then more
pub adds-none : (a : List Entry) → Adds a a
adds-none a = ([], sym (append-nil a))

pub adds-more : (a b c : List Entry) → Adds a b → Adds b c → Adds a c
adds-more a b c m k = (m.0 ++ k.0, k.1 ∙ (ap (λ l. l ++ k.0) m.1 ∙ append_assoc a m.0 k.0))

-- and then maybe more
pub grew-more : (a b c : List Entry) → Grew a b → Adds b c → Grew a c
grew-more a b c g m = (g.0, g.1 ++ m.0, m.1 ∙ (ap (λ l. l ++ m.0) g.2 ∙ append_assoc a (g.0 ∷ g.1) m.0))

-- or before
pub more-grew : (a b c : List Entry) → Adds a b → Grew b c → Grew a c
more-grew a b c m g = go m.0 m.1
  where
    go : (more : List Entry) → b ≡ a ++ more → Grew a c
    go [] e = (g.0, g.1, g.2 ∙ ap (λ l. l ++ g.0 ∷ g.1) (e ∙ append-nil a))
    go (x ∷ more) e = (x, more ++ g.0 ∷ g.1, g.2 ∙ (ap (λ l. l ++ g.0 ∷ g.1) e ∙ append_assoc a (x ∷ more) (g.0 ∷ g.1)))
