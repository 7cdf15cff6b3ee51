-- Seats that are split and joined keep the rule.
use Rattle.seat_lock.proofs.Names.{◌≡◌, ℕ, ◌+◌, ◌<◌, ◌≤◌, ◌≢◌, zero, suc, List, [], ◌∷◌, ◌++◌, length, set, sym, refl, ap, ◌∙◌, subst, inl, inr, ⊎_elim, arith, Some, All, Snapshot, State, step, keeps, Allows, Splits, Joins, opening, Final, Seen, at_set, at_snoc, Stage, Idle, Waiting, Holding, Part, View, Meaning, Begins, HasOwn, longer, total, same, ticket_at, waits, holding, holds_slot, has_ticket, at_ticket, weight, AtStage, Fits, AtHome, IsOut, IsOneOf, Kept, Seated, founder, all_parts, nobody, dealing, dealt_out, note, informed, gathered, learned, All-nil}
use mathlib.Core.Option.{Option, none, some, some-injective, some-ne-none}
use lib.ListN.{get_elem?}
use Rattle.seat_lock.proofs.Sums.{total-append, total-set, total-one, terms_le, some_term, some_is, each_set}
use Rattle.seat_lock.proofs.Beginnings.{longer_is, squeeze, own_append, own_first, own_others, total-parts}
use Rattle.seat_lock.proofs.Looking.{unmoved}

heard_is : {E : Type 0} (a l : List E) → (let some_a : Option (List E) = some a in some_a ≡ some l) → a ≡ l
heard_is a l e = some-injective a l e

some_value : {T : Type 0} (a b : T) → Some a ≡ Some b → a ≡ b
some_value a b e = cc e

holding_waits : (stage : Stage) → 0 < holding stage → 1 ≤ waits stage
holding_waits Idle h = omega arith
holding_waits (Waiting t) h = omega arith
holding_waits (Holding t) h = omega arith

founder_alone : {A : Type 0} (F : A → Type 0) (v : A) → F v → (j : ℕ) (u : A) → get_elem? (v ∷ []) j ≡ some u → F u
founder_alone F v f zero u e = subst F (some-injective v u e) f
founder_alone F v f (suc j) u e = absurd (some-ne-none u (sym e))

module _ {T E : Type 0} (m : Meaning T E) (base : T) (owners : List ℕ) where
  abbrev V : Type 0
  V = View T E

  abbrev St : Type 0
  St = State T V

  resting : (longest story : List E) (served : ℕ) (stage : Stage) → stage ≡ Idle → AtStage m base longest served story stage
  resting longest story served stage is = subst (AtStage m base longest served story) (sym is) tt

  each_snoc : (F : V → Type 0) (l : List V) (w : V) → F w → ((j : ℕ) (v : V) → get_elem? l j ≡ some v → F v) → (j : ℕ) (v : V) → get_elem? (l ++ w ∷ []) j ≡ some v → F v
  each_snoc F l w here all j v e = ⊎_elim (all j v) (λ (is : w ≡ v). subst F is here) (at_snoc l w v j e)

  -- a view is cut in two: the second has no ticket, and the owners of both are those of the view
  pub cut : (s : St) (r : Kept m base owners s) (id : ℕ) (v left right : V) → get_elem? s.views id ≡ some v → left.stage ≡ v.stage → right.stage ≡ Idle
      → ((h : ℕ → ℕ) → weight h left + weight h right ≡ weight h v) → Fits m base r.longest r.served left → Fits m base r.longest r.served right
      → Kept m base owners (record { words = s.words; homes = s.homes; views = set s.views id left ++ right ∷ [] })
  cut s r id v left right at stage_is idle parts fits others =
      let vs : List V = set s.views id left in
      let waits_is : waits left.stage ≡ waits v.stage = ap waits stage_is in
      let holding_is : holding left.stage ≡ holding v.stage = ap holding stage_is in
      let waits_not : waits right.stage ≡ 0 = ap waits idle in
      let holding_not : holding right.stage ≡ 0 = ap holding idle in
      let held_now : total holds_slot (vs ++ right ∷ []) ≡ total holds_slot s.views = omega (arith, total-set holds_slot s.views id v left at, total-append holds_slot vs (right ∷ [])) in record {
        longest = r.longest;
        drawn = r.drawn;
        served = r.served;
        board = r.board;
        words = r.words;
        allowed = r.allowed;
        few = r.few;
        differ = r.differ;
        owned = r.owned;
        count = omega (arith, r.count, total-set has_ticket s.views id v left at, total-append has_ticket vs (right ∷ []));
        tickets = λ t. let ticket_is : ticket_at t left.stage ≡ ticket_at t v.stage = ap (ticket_at t) stage_is in let ticket_not : ticket_at t right.stage ≡ 0 = ap (ticket_at t) idle in
            omega (arith, r.tickets t, total-set (at_ticket t) s.views id v left at, total-append (at_ticket t) vs (right ∷ []));
        dealt = λ h. omega (arith, r.dealt h, parts h, total-set (weight h) s.views id v left at, total-append (weight h) vs (right ∷ []));
        each = each_snoc (Fits m base r.longest r.served) vs right others (each_set (Fits m base r.longest r.served) (Fits m base r.longest r.served) s.views id left (λ j u _ _ f. f) fits r.each);
        shelf = ⊎_elim (λ (h : AtHome m base s r.longest). inl (h.0, h.1, h.2, omega (arith, h.3, held_now))) (λ (o : IsOut m base s). inr (o.0, omega (arith, o.1, held_now))) r.shelf;
      }

  no_heard : (F : List E → Type 0) (k : ℕ) (l : List E) → (let none_heard : List (List E) = [] in get_elem? none_heard k ≡ some l) → F l
  no_heard F k l e = absurd (some-ne-none l (sym e))

  pub deals : (id : ℕ) (v : V) → v.stage ≡ Idle → Splits (Kept m base owners) id v (dealing v) (dealt_out v)
  deals id v idle s r at = let old = r.each id v at in let waits_not : waits v.stage ≡ 0 = ap waits idle in
      cut s r id v (dealing v) (dealt_out v) at refl refl (λ h. total-parts (λ (p : Part E). h p.owner) v.parts)
      (record { base_is = old.base_is; begins = old.begins; staged = old.staged; seated = omega arith; own_seen = own_others m.owner v.parts v.story old.own_seen; own_all = own_others m.owner v.parts r.longest old.own_all; heard = old.heard })
      (record { base_is = old.base_is; begins = old.begins; staged = tt; seated = omega arith; own_seen = own_first m.owner v.parts v.story old.own_seen; own_all = own_first m.owner v.parts r.longest old.own_all; heard = no_heard (λ l. Begins l r.longest) })

  pub tells : (id : ℕ) (v : V) → Splits (Kept m base owners) id v v (note v)
  tells id v s r at = let old = r.each id v at in
      cut s r id v v (note v) at refl refl (λ h. omega arith) old
      (record { base_is = old.base_is; begins = old.begins; staged = tt; seated = omega arith; own_seen = tt; own_all = tt; heard = no_heard (λ l. Begins l r.longest) })

  nobody_fits : (longest : List E) (served : ℕ) → Fits m base longest served nobody
  nobody_fits longest served = record { base_is = λ b e. absurd (cc e); begins = (longest, refl); staged = tt; seated = omega arith; own_seen = tt; own_all = tt; heard = no_heard (λ l. Begins l longest) }

  -- two views are made one, and nobody is left at the second
  pub merge : (s : St) (r : Kept m base owners s) (id : ℕ) (v : V) (other : ℕ) (w both : V) → get_elem? s.views id ≡ some v → get_elem? (set s.views id both) other ≡ some w
      → both.stage ≡ v.stage → w.stage ≡ Idle → ((h : ℕ → ℕ) → weight h both ≡ weight h v + weight h w) → Fits m base r.longest r.served both
      → Kept m base owners (record { words = s.words; homes = s.homes; views = set (set s.views id both) other nobody })
  merge s r id v other w both at there stage_is idle parts fits =
      let vs : List V = set s.views id both in
      let waits_is : waits both.stage ≡ waits v.stage = ap waits stage_is in
      let holding_is : holding both.stage ≡ holding v.stage = ap holding stage_is in
      let waits_not : waits w.stage ≡ 0 = ap waits idle in
      let holding_not : holding w.stage ≡ 0 = ap holding idle in
      let held_now : total holds_slot (set vs other nobody) ≡ total holds_slot s.views = omega (arith, total-set holds_slot s.views id v both at, total-set holds_slot vs other w nobody there) in record {
        longest = r.longest;
        drawn = r.drawn;
        served = r.served;
        board = r.board;
        words = r.words;
        allowed = r.allowed;
        few = r.few;
        differ = r.differ;
        owned = r.owned;
        count = omega (arith, r.count, total-set has_ticket s.views id v both at, total-set has_ticket vs other w nobody there);
        tickets = λ t. let ticket_is : ticket_at t both.stage ≡ ticket_at t v.stage = ap (ticket_at t) stage_is in let ticket_not : ticket_at t w.stage ≡ 0 = ap (ticket_at t) idle in
            omega (arith, r.tickets t, total-set (at_ticket t) s.views id v both at, total-set (at_ticket t) vs other w nobody there);
        dealt = λ h. omega (arith, r.dealt h, parts h, total-set (weight h) s.views id v both at, total-set (weight h) vs other w nobody there);
        each = each_set (Fits m base r.longest r.served) (Fits m base r.longest r.served) vs other nobody (λ j u _ _ f. f) (nobody_fits r.longest r.served)
            (each_set (Fits m base r.longest r.served) (Fits m base r.longest r.served) s.views id both (λ j u _ _ f. f) fits r.each);
        shelf = ⊎_elim (λ (h : AtHome m base s r.longest). inl (h.0, h.1, h.2, omega (arith, h.3, held_now))) (λ (o : IsOut m base s). inr (o.0, omega (arith, o.1, held_now))) r.shelf;
      }

  -- another seat's view is as it was
  other_at : (s : St) (id : ℕ) (both : V) (other : ℕ) (w : V) → ¬ (other ≡ id) → get_elem? (set s.views id both) other ≡ some w → get_elem? s.views other ≡ some w
  other_at s id both other w apart e = ⊎_elim (λ (t : (other ≡ id) × (both ≡ w)). absurd (apart t.0)) (λ (t : (other ≢ id) × (get_elem? s.views other ≡ some w)). t.1) (at_set s.views id other both w e)

  two_heard : (F : List E → Type 0) (a b : List E) (hs : List (List E)) → F a → F b → ((k : ℕ) (l : List E) → get_elem? hs k ≡ some l → F l) → (k : ℕ) (l : List E) → get_elem? (a ∷ b ∷ hs) k ≡ some l → F l
  two_heard F a b hs fa fb rest zero l e = subst F (heard_is a l e) fa
  two_heard F a b hs fa fb rest (suc zero) l e = subst F (heard_is b l e) fb
  two_heard F a b hs fa fb rest (suc (suc k)) l e = rest k l e

  pub informs : (id : ℕ) (v : V) (other : ℕ) (w : V) → v.stage ≡ Idle → w.stage ≡ Idle → w.parts ≡ [] → Joins (Kept m base owners) id v other w (informed v w) nobody
  informs id v other w idle idle' none_owned s r at apart there =
      let old = r.each id v at in let new = r.each other w (other_at s id (informed v w) other w apart there) in
      let long = longer_is v.story w.story r.longest old.begins new.begins in
      merge s r id v other w (informed v w) at there refl idle' (λ h. let none_weighed : weight h w ≡ 0 = ap (λ (ps : List (Part E)). total (λ (p : Part E). h p.owner) ps) none_owned in omega arith)
      (record {
        base_is = old.base_is;
        begins = long.2;
        staged = resting r.longest (longer v.story w.story) r.served v.stage idle;
        seated = old.seated;
        own_seen = squeeze m.owner v.parts v.story (longer v.story w.story) r.longest long.0 long.2 old.own_seen old.own_all;
        own_all = old.own_all;
        heard = two_heard (λ l. Begins l r.longest) v.story w.story [] old.begins new.begins (no_heard (λ l. Begins l r.longest));
      })

  pub gathers : (id : ℕ) (v : V) (other : ℕ) (w : V) → v.stage ≡ Idle → w.stage ≡ Idle → Joins (Kept m base owners) id v other w (gathered v w) nobody
  gathers id v other w idle idle' s r at apart there =
      let old = r.each id v at in let new = r.each other w (other_at s id (gathered v w) other w apart there) in
      let long = longer_is v.story w.story r.longest old.begins new.begins in
      let story : List E = longer v.story w.story in
      let waits_not : waits v.stage ≡ 0 = ap waits idle in
      merge s r id v other w (gathered v w) at there refl idle' (λ h. total-append (λ (p : Part E). h p.owner) v.parts w.parts)
      (record {
        base_is = old.base_is;
        begins = long.2;
        staged = resting r.longest story r.served v.stage idle;
        seated = omega arith;
        own_seen = own_append m.owner v.parts w.parts story (squeeze m.owner v.parts v.story story r.longest long.0 long.2 old.own_seen old.own_all) (squeeze m.owner w.parts w.story story r.longest long.1 long.2 new.own_seen new.own_all);
        own_all = own_append m.owner v.parts w.parts r.longest old.own_all new.own_all;
        heard = two_heard (λ l. Begins l r.longest) v.story w.story v.heard old.begins new.begins old.heard;
      })

  -- a load shows what the two stories that were heard last are to the story
  pub learns : (slots id : ℕ) (me : Seated T E) → Allows (Kept m base owners) slots id me 0 (λ n. n) (learned m (step slots 0 0 0 none) me)
  learns slots id me s r len at small = let old = r.each id me.0 at in (
    me.0,
    keeps,
    tt,
    unmoved m base owners s r 0 id me at,
    (
      refl,
      λ a b hs heard_is story_is. let a_in = old.heard 0 a (ap (λ l. get_elem? l 0) heard_is) in let b_in = old.heard 1 b (ap (λ l. get_elem? l 1) heard_is) in
          let long = longer_is a b r.longest a_in b_in in
          (subst (Begins a) (sym story_is) long.0, subst (Begins b) (sym story_is) long.1, old.own_seen),
    ),
  )

  weight-all : (h : ℕ → ℕ) (os : List ℕ) → total (λ (p : Part E). h p.owner) (all_parts os) ≡ total h os
  weight-all h [] = refl
  weight-all h (o ∷ os) = omega (arith, weight-all h os)

  own_none : (os : List ℕ) → HasOwn m.owner (all_parts os) []
  own_none [] = tt
  own_none (o ∷ os) = (refl, own_none os)

  pub founds : (found : Snapshot T) → found.value ≡ base → (board : List ℕ) → ((k n : ℕ) → get_elem? board k ≡ some n → n ≡ 0) → ((b : T) (l : List E) (j : ℕ) → m.may_hold b l j 0) → length owners < 18446744073709551616 → ((o : ℕ) → total (same o) owners ≤ 1)
      → m.stands base base → m.story base ≡ [] → Kept m base owners (opening (0 ∷ 0 ∷ 0 ∷ board) (base ∷ []) (founder found owners))
  founds found found_is board zeros none_held few differ stands empty = record {
    longest = [];
    drawn = 0;
    served = 0;
    board = board;
    words = refl;
    allowed = λ k n e. subst (m.may_hold base [] k) (sym (zeros k n e)) (none_held base [] k);
    few = few;
    differ = differ;
    owned = All-nil (λ e. IsOneOf owners (m.owner e));
    count = refl;
    tickets = λ t. omega arith;
    dealt = λ h. omega (arith, weight-all h owners);
    each = founder_alone (Fits m base [] 0) (founder found owners)
        record { base_is = λ b e. ap (λ (z : Snapshot T). z.value) (sym (some_value found b e)) ∙ found_is; begins = ([], refl); staged = tt; seated = omega arith; own_seen = own_none owners; own_all = own_none owners; heard = no_heard (λ l. Begins l []) };
    shelf = inl (base, refl, (stands, empty), refl);
  }

  -- the table at the end, where one seat has as many owners as there are
  pub closes : (ws : List ℕ) (xs : List T) (id : ℕ) (v : V) → v.stage ≡ Idle → length v.parts ≡ length owners → Final (Seen (Kept m base owners) id v) ws xs
      → (x : T) × (l : List E) × (get_elem? xs 0 ≡ some x) × (m.stands base x × (m.story x ≡ l)) × Begins v.story l × HasOwn m.owner v.parts l × ((k : ℕ) (h : List E) → get_elem? v.heard k ≡ some h → Begins h l)
      × All (λ e. IsOneOf owners (m.owner e)) l
  closes ws xs id v idle all f =
      let s = f.0 in let r = f.1.0 in let at = f.1.1 in let old = r.each id v at in
      let home : AtHome m base s r.longest = ⊎_elim (λ (h : AtHome m base s r.longest). h) (λ (o : IsOut m base s).
      let t = some_term holds_slot s.views (omega (arith, o.1)) in let j : ℕ = t.0 in let u : V = t.1.0 in
      let fits = r.each j u t.1.1.0 in let has : 1 ≤ waits u.stage = holding_waits u.stage t.1.1.1 in
      let apart : j ≢ id = (λ e. let is : get_elem? s.views id ≡ some u = subst (λ (n : ℕ). get_elem? s.views n ≡ some u) e t.1.1.0 in let eq : holding v.stage ≡ holding u.stage = ap (λ (z : V). holding z.stage) (some_is v u (sym at ∙ is)) in let free : holding v.stage ≡ 0 = ap holding idle in let pos = t.1.1.1 in omega arith) in
      let two = terms_le (weight (λ _. 1)) s.views id j v u apart at t.1.1.0 in absurd (omega (arith, r.dealt (λ _. 1), total-one owners, total-one v.parts, total-one u.parts, fits.seated, all))) r.shelf in
      (home.0, r.longest, f.4 0 home.0 (ap (λ l. get_elem? l 0) home.1), home.2, old.begins, old.own_all, old.heard, r.owned)
