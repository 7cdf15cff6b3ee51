-- A visit's steps keep the rule.
use Rattle.seat_lock.proofs.Names.{◌≡◌, ℕ, ◌+◌, ◌-◌, ◌%◌, ◌≤◌, ◌≢◌, List, [], ◌∷◌, ◌++◌, length, get_or, set, sym, refl, ap, ◌∙◌, subst, inl, inr, ⊎_elim, arith, length-append, append-nil, slice_index_or, Some, mod-add-mod, Snapshot, State, step, keeps, gives, put_back, Allows, at_set, Stage, Idle, Waiting, Holding, Part, View, Meaning, HasOwn, owned_in, total, same, ticket_at, waits, holding, holds_slot, has_ticket, at_ticket, weight, AtStage, Fits, AtHome, IsOut, IsOneOf, Kept, Seated, staged, noted, left, posted, tested}
use mathlib.Core.Option.{none, some}
use lib.ListN.{get_elem?}
use Rattle.seat_lock.proofs.Sums.{total-set, term_le, terms_le, each_set, set_same_word, begins_self, set_board, get_board, on_board}
use Rattle.seat_lock.proofs.Beginnings.{begins_more, own_other}
use Rattle.seat_lock.proofs.Gathering.{all_after}

module _ {E : Type 0} (owner : E → ℕ) where
  -- owners with their entries of a list have them
  own_in : (l : List E) (ps : List (Part E)) → HasOwn owner (owned_in owner l ps) l
  own_in l [] = tt
  own_in l (p ∷ ps) = (refl, own_in l ps)

  weight-owned_in : (h : ℕ → ℕ) (l : List E) (ps : List (Part E)) → total (λ (q : Part E). h q.owner) (owned_in owner l ps) ≡ total (λ (q : Part E). h q.owner) ps
  weight-owned_in h l [] = refl
  weight-owned_in h l (p ∷ ps) = omega (arith, weight-owned_in h l ps)

  pub length-owned_in : (l : List E) (ps : List (Part E)) → length (owned_in owner l ps) ≡ length ps
  length-owned_in l [] = refl
  length-owned_in l (p ∷ ps) = omega (arith, length-owned_in l ps)

module _ {T E : Type 0} (m : Meaning T E) (base : T) (owners : List ℕ) where
  abbrev V : Type 0
  V = View T E

  abbrev St : Type 0
  St = State T V

  -- at most one seat holds the slot
  one_holds : (s : St) (r : Kept m base owners s) → total holds_slot s.views ≤ 1
  one_holds s r = ⊎_elim (λ (h : AtHome m base s r.longest). omega (arith, h.3)) (λ (o : IsOut m base s). omega (arith, o.1)) r.shelf

  -- a seat that does not hold the slot knows nothing of the longest story
  not_held : (longest story : List E) (served : ℕ) (stage : Stage) → holding stage ≡ 0 → AtStage m base longest served story stage
  not_held longest story served Idle h = tt
  not_held longest story served (Waiting t) h = tt
  not_held longest story served (Holding t) h = absurd (omega arith)

  held : (longest story : List E) (served : ℕ) (stage : Stage) → holding stage ≡ 1 → AtStage m base longest served story stage → (stage ≡ Holding served) × (story ≡ longest)
  held longest story served Idle h a = absurd (omega arith)
  held longest story served (Waiting t) h a = absurd (omega arith)
  held longest story served (Holding t) h a = (ap (λ n. Holding n) a.0, a.1)

  at_holding : (longest story : List E) (served : ℕ) (stage : Stage) → stage ≡ Holding served → story ≡ longest → AtStage m base longest served story stage
  at_holding longest story served stage is e = subst (AtStage m base longest served story) (sym is) (refl, e)

  module _ (s : St) (r : Kept m base owners s) (id : ℕ) (v : V) (at : get_elem? s.views id ≡ some v) (holds : holding v.stage ≡ 1) where
    others_idle : (j : ℕ) (u : V) → j ≢ id → get_elem? s.views j ≡ some u → holding u.stage ≡ 0
    others_idle j u apart e = let two = terms_le holds_slot s.views id j v u apart at e in let one = one_holds s r in omega arith

    slot_out : IsOut m base s
    slot_out = ⊎_elim (λ (h : AtHome m base s r.longest). let le = term_le holds_slot s.views id v at in absurd (omega (arith, h.3))) (λ (o : IsOut m base s). o) r.shelf

  pub notes : (slots id : ℕ) (me : Seated T E) (x : T) (d : E) (p : Part E) → ((b : T) (l : List E) (e : E) (k n : ℕ) → m.may_hold b l k n → m.may_hold b (l ++ e ∷ []) k n)
      → holding me.0.stage ≡ 1 → me.1 ≡ (0, x) ∷ [] → m.story x ≡ me.0.story ++ d ∷ [] → me.0.parts ≡ p ∷ [] → m.owner d ≡ p.owner
      → Allows (Kept m base owners) slots id me 2 (λ n. (n + 1) % 18446744073709551616) (noted m (step slots 2 1 0 none) me)
  notes slots id me x d p grows holds carried more parts_is mine s r len at small =
      let old = r.each id me.0 at in
      let here = held r.longest me.0.story r.served me.0.stage holds old.staged in
      let next : List E = r.longest ++ d ∷ [] in
      let story_is : m.story x ≡ next = more ∙ ap (λ l. l ++ d ∷ []) here.1 in
      let w : V = record me.0 { story = m.story x; parts = owned_in m.owner (m.story x) me.0.parts } in
      let word : get_or s.words 2 0 ≡ length r.longest % 18446744073709551616 = ap (λ l. get_or l 2 0) r.words in
      let long : length next ≡ length r.longest + 1 = length-append r.longest (d ∷ []) in
      let one_more : (get_or s.words 2 0 + 1) % 18446744073709551616 ≡ length next % 18446744073709551616 =
      ap (λ n. (n + 1) % 18446744073709551616) word ∙ (mod-add-mod (length r.longest) 18446744073709551616 1 ∙ ap (λ n. n % 18446744073709551616) (sym long)) in
      let my_weight : weight (same (m.owner d)) me.0 ≡ 1 = ap (λ (ps : List (Part E)). total (λ (q : Part E). same (m.owner d) q.owner) ps) parts_is ∙ omega arith in
      let none_else : (j : ℕ) (u : V) → j ≢ id → get_elem? s.views j ≡ some u → weight (same (m.owner d)) u ≡ 0 =
      (λ j u apart there. let two = terms_le (weight (same (m.owner d))) s.views id j me.0 u apart at there in omega (arith, r.dealt (same (m.owner d)), r.differ (m.owner d))) in
      let others : (j : ℕ) (u : V) → j ≢ id → get_elem? s.views j ≡ some u → Fits m base r.longest r.served u → Fits m base next r.served u =
      (λ j u apart there f. record {
        base_is = f.base_is;
        begins = begins_more u.story r.longest (d ∷ []) f.begins;
        staged = not_held next u.story r.served u.stage (others_idle s r id me.0 at holds j u apart there);
        seated = f.seated;
        own_seen = f.own_seen;
        own_all = own_other m.owner d u.parts r.longest (none_else j u apart there) f.own_all;
        heard = λ k l h. begins_more l r.longest (d ∷ []) (f.heard k l h);
      }) in
      let owns : HasOwn m.owner w.parts (m.story x) = own_in m.owner (m.story x) me.0.parts in (
        w,
        keeps,
        tt,
        record {
          longest = next;
          drawn = r.drawn;
          served = r.served;
          board = r.board;
          words = ap (λ l. set l 2 ((get_or s.words 2 0 + 1) % 18446744073709551616)) r.words ∙ ap (λ n. r.drawn % 18446744073709551616 ∷ r.served % 18446744073709551616 ∷ n ∷ r.board) one_more;
          allowed = λ k n h. grows base r.longest d k n (r.allowed k n h);
          few = r.few;
          differ = r.differ;
          owned = all_after (λ e. IsOneOf owners (m.owner e)) r.longest d r.owned (let le = term_le (weight (same (m.owner d))) s.views id me.0 at in omega (arith, r.dealt (same (m.owner d))));
          count = omega (arith, r.count, total-set has_ticket s.views id me.0 w at);
          tickets = λ t. omega (arith, r.tickets t, total-set (at_ticket t) s.views id me.0 w at);
          dealt = λ h. omega (arith, r.dealt h, total-set (weight h) s.views id me.0 w at, weight-owned_in m.owner h (m.story x) me.0.parts);
          each = each_set (Fits m base r.longest r.served) (Fits m base next r.served) s.views id w others
              record {
                base_is = old.base_is;
                begins = ([], append-nil (m.story x) ∙ story_is);
                staged = at_holding next (m.story x) r.served me.0.stage here.0 story_is;
                seated = omega (arith, old.seated, length-owned_in m.owner (m.story x) me.0.parts);
                own_seen = owns;
                own_all = subst (HasOwn m.owner w.parts) story_is owns;
                heard = λ k l h. begins_more l r.longest (d ∷ []) (old.heard k l h);
              } r.each;
          shelf = let o = slot_out s r id me.0 at holds in inr (o.0, omega (arith, o.1, total-set holds_slot s.views id me.0 w at));
        },
        λ y is. (
          let eq : x ≡ y = ap (λ (c : List (ℕ × T)). (slice_index_or c 0 (0, x)).1) (sym carried ∙ is) in
              ap (λ (z : T). let v : V = record me.0 { story = m.story z; parts = owned_in m.owner (m.story z) me.0.parts } in v) eq,
          refl,
          old.own_seen,
        ),
      )

  pub leaves : (slots id : ℕ) (me : Seated T E) (x : T) (b : Snapshot T) → holding me.0.stage ≡ 1 → me.1 ≡ (0, x) ∷ [] → me.0.base ≡ Some b → m.stands b.value x → m.story x ≡ me.0.story
      → Allows (Kept m base owners) slots id me 1 (λ n. (n + 1) % 18446744073709551616) (left (step slots 1 1 0 none) me)
  leaves slots id me x b holds carried base_is stands story_is s r len at small =
      let old = r.each id me.0 at in
      let here = held r.longest me.0.story r.served me.0.stage holds old.staged in
      let w : V = staged Idle me.0 in
      let word : get_or s.words 1 0 ≡ r.served % 18446744073709551616 = ap (λ l. get_or l 1 0) r.words in
      let one_more : (get_or s.words 1 0 + 1) % 18446744073709551616 ≡ (r.served + 1) % 18446744073709551616 =
      ap (λ n. (n + 1) % 18446744073709551616) word ∙ mod-add-mod r.served 18446744073709551616 1 in
      let waited : waits me.0.stage ≡ 1 = ap waits here.0 in
      let o = slot_out s r id me.0 at holds in
      let back : put_back s.homes me.1 ≡ some x ∷ [] = ap (put_back s.homes) carried ∙ ap (λ hs. set hs 0 (some x)) o.0 in
      let stands_now : m.stands base x = subst (λ (z : T). m.stands z x) (old.base_is b base_is) stands in (
        w,
        gives,
        tt,
        record {
          longest = r.longest;
          drawn = r.drawn;
          served = r.served + 1;
          board = r.board;
          words = ap (λ l. set l 1 ((get_or s.words 1 0 + 1) % 18446744073709551616)) r.words ∙ ap (λ n. r.drawn % 18446744073709551616 ∷ n ∷ length r.longest % 18446744073709551616 ∷ r.board) one_more;
          allowed = r.allowed;
          few = r.few;
          differ = r.differ;
          owned = r.owned;
          count = omega (arith, r.count, total-set has_ticket s.views id me.0 w at);
          tickets = λ t. let mine : ticket_at t me.0.stage ≡ same t r.served = ap (ticket_at t) here.0 in
              let my_own = r.tickets r.served in let le = term_le (at_ticket r.served) s.views id me.0 at in let at_mine : ticket_at r.served me.0.stage ≡ 1 = ap (ticket_at r.served) here.0 ∙ omega arith in
              omega (arith, r.tickets t, total-set (at_ticket t) s.views id me.0 w at);
          dealt = λ h. omega (arith, r.dealt h, total-set (weight h) s.views id me.0 w at);
          each = each_set (Fits m base r.longest r.served) (Fits m base r.longest (r.served + 1)) s.views id w
              (λ j u apart there f. record { base_is = f.base_is; begins = f.begins; staged = not_held r.longest u.story (r.served + 1) u.stage (others_idle s r id me.0 at holds j u apart there); seated = f.seated; own_seen = f.own_seen; own_all = f.own_all; heard = f.heard })
              record { base_is = old.base_is; begins = old.begins; staged = tt; seated = omega arith; own_seen = old.own_seen; own_all = old.own_all; heard = old.heard } r.each;
          shelf = inl (x, back, (stands_now, story_is ∙ here.1), omega (arith, o.1, total-set holds_slot s.views id me.0 w at));
        },
        (refl, refl),
      )

  -- a change of what was tested and posted
  pub logged : (s : St) (r : Kept m base owners s) (id : ℕ) (v w : V) → get_elem? s.views id ≡ some v → w.stage ≡ v.stage → w.parts ≡ v.parts → Fits m base r.longest r.served w
      → (board : List ℕ) → ((k n : ℕ) → get_elem? board k ≡ some n → m.may_hold base r.longest k n) → (words : List ℕ)
      → words ≡ r.drawn % 18446744073709551616 ∷ r.served % 18446744073709551616 ∷ length r.longest % 18446744073709551616 ∷ board
      → Kept m base owners (record { words = words; homes = s.homes; views = set s.views id w })
  logged s r id v w at stage_is parts_is fits board allowed words words_is =
      let waits_is : waits w.stage ≡ waits v.stage = ap waits stage_is in
      let holding_is : holding w.stage ≡ holding v.stage = ap holding stage_is in record {
        longest = r.longest;
        drawn = r.drawn;
        served = r.served;
        board = board;
        words = words_is;
        allowed = allowed;
        few = r.few;
        differ = r.differ;
        owned = r.owned;
        count = omega (arith, r.count, total-set has_ticket s.views id v w at);
        tickets = λ t. let ticket_is : ticket_at t w.stage ≡ ticket_at t v.stage = ap (ticket_at t) stage_is in omega (arith, r.tickets t, total-set (at_ticket t) s.views id v w at);
        dealt = λ h. let weight_is : weight h w ≡ weight h v = ap (λ (ps : List (Part E)). total (λ (q : Part E). h q.owner) ps) parts_is in omega (arith, r.dealt h, total-set (weight h) s.views id v w at);
        each = each_set (Fits m base r.longest r.served) (Fits m base r.longest r.served) s.views id w (λ j u _ _ f. f) fits r.each;
        shelf = ⊎_elim (λ (h : AtHome m base s r.longest). inl (h.0, h.1, h.2, omega (arith, h.3, total-set holds_slot s.views id v w at))) (λ (o : IsOut m base s). inr (o.0, omega (arith, o.1, total-set holds_slot s.views id v w at))) r.shelf;
      }

  -- the board's word k is word k + 3
  pub posts : (slots id : ℕ) (me : Seated T E) (k n : ℕ) (b : Snapshot T) → holding me.0.stage ≡ 1 → me.0.base ≡ Some b → m.may_hold b.value me.0.story k n
      → Allows (Kept m base owners) slots id me (k + 3) (λ _. n) (λ _. posted (step slots (k + 3) n 0 none) me n)
  posts slots id me k n b holds base_is may s r len at small =
      let old = r.each id me.0 at in
      let here = held r.longest me.0.story r.served me.0.stage holds old.staged in
      let w : V = record me.0 { posts = me.0.posts ++ ((k + 3) - 3, n) ∷ [] } in
      let may_now : m.may_hold base r.longest k n = subst (λ (z : T × List E). m.may_hold z.0 z.1 k n) (λ i. (old.base_is b base_is i, here.1 i)) may in
      let allowed : (j x : ℕ) → get_elem? (set r.board k n) j ≡ some x → m.may_hold base r.longest j x =
      (λ j x e. ⊎_elim (λ (t : (j ≡ k) × (n ≡ x)). subst (λ (z : ℕ × ℕ). m.may_hold base r.longest z.0 z.1) (λ i. (sym t.0 i, t.1 i)) may_now) (λ (t : (j ≢ k) × (get_elem? r.board j ≡ some x)). r.allowed j x t.1) (at_set r.board k j n x e)) in (
        w,
        keeps,
        tt,
        logged s r id me.0 w at refl refl (record { base_is = old.base_is; begins = old.begins; staged = old.staged; seated = old.seated; own_seen = old.own_seen; own_all = old.own_all; heard = old.heard })
            (set r.board k n) allowed (set s.words (k + 3) n) (ap (λ l. set l (k + 3) n) r.words ∙ set_board _ _ _ r.board k n),
        (refl, refl),
      )

  -- a word of the board, or 0 past its end
  pub tests : (slots id : ℕ) (me : Seated T E) (k : ℕ) → ((b : T) (l : List E) (j : ℕ) → m.may_hold b l j 0) → holding me.0.stage ≡ 0
      → Allows (Kept m base owners) slots id me (k + 3) (λ n. n) (tested m (step slots (k + 3) 0 0 none) me)
  tests slots id me k none_held free s r len at small =
      let old = r.each id me.0 at in
      let x : ℕ = get_or s.words (k + 3) 0 in
      let w : V = record me.0 { story = r.longest; tests = me.0.tests ++ ((k + 3) - 3, x) ∷ [] } in
      let may : m.may_hold base r.longest k x = subst (λ (z : ℕ). m.may_hold base r.longest k z) (sym (ap (λ l. get_or l (k + 3) 0) r.words ∙ get_board _ _ _ r.board k)) (on_board r.board k (m.may_hold base r.longest) (none_held base r.longest) r.allowed) in
      let back : k ≡ (k + 3) - 3 = omega arith in (
        w,
        keeps,
        tt,
        logged s r id me.0 w at refl refl (record { base_is = old.base_is; begins = begins_self r.longest; staged = not_held r.longest r.longest r.served me.0.stage free; seated = old.seated; own_seen = old.own_all; own_all = old.own_all; heard = old.heard })
            r.board r.allowed (set s.words (k + 3) x) (set_same_word s.words (k + 3) ∙ r.words),
        (r.longest, refl, refl, (old.begins, old.own_all), λ b e. subst (λ (z : T × ℕ). m.may_hold z.0 r.longest z.1 x) (λ i. (sym (old.base_is b e) i, back i)) may),
      )
