-- Looking at the ticket served keeps the rule.
use Rattle.seat_lock.proofs.Names.{◌≡◌, ℕ, ◌%◌, ◌<◌, ◌≤◌, ◌≢◌, List, length, get_or, set, sym, refl, ap, ◌∙◌, subst, inr, ⊎_elim, arith, State, step, keeps, takes, stepped, Allows, set_again, one_turn, Stage, Idle, Waiting, Holding, View, Meaning, total, same, ticket_at, waits, holding, holds_slot, has_ticket, at_ticket, weight, AtStage, Fits, AtHome, IsOut, Kept, Seated, ticket_of, looked}
use mathlib.Core.Logic.{dite}
use mathlib.Core.Option.{none, some}
use native.Mathlib.Decide.{ℕ_discrete}
use lib.ListN.{get_elem?}
use Rattle.seat_lock.proofs.Sums.{some_is, total-set, total-le, total-one, term_le, terms_le, some_term, each_set, set_same_word, begins_self}

module _ {T E : Type 0} (m : Meaning T E) (base : T) (owners : List ℕ) where
  abbrev V : Type 0
  V = View T E

  abbrev St : Type 0
  St = State T V

  -- a step that changes nothing
  pub unmoved : (s : St) → Kept m base owners s → (i id : ℕ) (me : Seated T E) → get_elem? s.views id ≡ some me.0 → Kept m base owners (stepped s i (get_or s.words i 0) id me.1 me.0 keeps)
  unmoved s r i id me at = let P : List ℕ × List V → Type 0 = λ z. Kept m base owners (record { words = z.0; homes = s.homes; views = z.1 }) in
      subst P (λ k. (sym (set_same_word s.words i) k, sym (set_again s.views id me.0 at) k)) r

  -- fewer tickets are out than there are owners
  pub few_out : (s : St) (r : Kept m base owners s) → total has_ticket s.views ≤ length owners
  few_out s r = let le = total-le has_ticket (weight (λ _. 1)) s.views (λ j v e. let f = (r.each j v e).seated in omega (arith, total-one v.parts)) in
      omega (arith, r.dealt (λ _. 1), total-one owners)

  holder : (longest story : List E) (served : ℕ) (stage : Stage) → 0 < holding stage → AtStage m base longest served story stage → ticket_at served stage ≡ 1
  holder longest story served Idle h a = absurd (omega arith)
  holder longest story served (Waiting t) h a = absurd (omega arith)
  holder longest story served (Holding t) h a = omega (arith, a.0)

  module _ (s : St) (r : Kept m base owners s) (id k : ℕ) (v : V) (at : get_elem? s.views id ≡ some v) where
    -- a ticket lies between the one served and the last drawn
    pub ticket_range : ticket_at k v.stage ≡ 1 → (r.served ≤ k) × (k < r.drawn)
    ticket_range has = let le = term_le (at_ticket k) s.views id v at in let all = r.tickets k in (omega arith, omega arith)

    -- the word shows that it is this ticket's turn
    pub turn_is : ticket_at k v.stage ≡ 1 → r.served % 18446744073709551616 ≡ k % 18446744073709551616 → r.served ≡ k
    turn_is has e = let range = ticket_range has in let out = few_out s r in let few = r.few in let c = r.count in
        one_turn r.served k 18446744073709551616 range.0 (omega arith) e

    -- no other seat has the slot
    pub slot_free : ticket_at r.served v.stage ≡ 1 → holding v.stage ≡ 0 → AtHome m base s r.longest
    slot_free has free = ⊎_elim (λ (h : AtHome m base s r.longest). h)
        (λ (o : IsOut m base s). let t = some_term holds_slot s.views (omega (arith, o.1)) in let j : ℕ = t.0 in let u : V = t.1.0 in
        let theirs : ticket_at r.served u.stage ≡ 1 = holder r.longest u.story r.served u.stage t.1.1.1 (r.each j u t.1.1.0).staged in
        let apart : j ≢ id = (λ e. let is : get_elem? s.views id ≡ some u = subst (λ (n : ℕ). get_elem? s.views n ≡ some u) e t.1.1.0 in let eq = ap (λ (z : V). holding z.stage) (some_is v u (sym at ∙ is)) in let pos = t.1.1.1 in omega arith) in
        let two = terms_le (at_ticket r.served) s.views id j v u apart at t.1.1.0 in let all = r.tickets r.served in absurd (omega arith)) r.shelf

  pub looks : (slots id : ℕ) (me : Seated T E) → me.0.stage ≡ Waiting (ticket_of me.0.stage)
      → Allows (Kept m base owners) slots id me 1 (λ n. n) (looked m (step slots 1 0 0 none) me)
  looks slots id me is s r len at small =
      let k : ℕ = ticket_of me.0.stage in
      let word : get_or s.words 1 0 ≡ r.served % 18446744073709551616 = ap (λ l. get_or l 1 0) r.words in
      let mine : ticket_at k me.0.stage ≡ 1 = ap (ticket_at k) is ∙ omega arith in
      let free : holding me.0.stage ≡ 0 = ap holding is in
      let out : waits me.0.stage ≡ 1 = ap waits is in
      let old = r.each id me.0 at in
      dite (ℕ_discrete (get_or s.words 1 0) (k % 18446744073709551616))
      (λ hit. let turn = turn_is s r id k me.0 at mine (sym word ∙ hit) in
      let home = slot_free s r id k me.0 at (subst (λ (n : ℕ). ticket_at n me.0.stage ≡ 1) (sym turn) mine) free in
      let w : V = record me.0 { stage = Holding k; story = r.longest } in (
        w,
        takes 0 home.0,
        ap (λ l. get_elem? l 0) home.1,
        record {
          longest = r.longest;
          drawn = r.drawn;
          served = r.served;
          board = r.board;
          words = set_same_word s.words 1 ∙ r.words;
          allowed = r.allowed;
          few = r.few;
          differ = r.differ;
          owned = r.owned;
          count = omega (arith, r.count, total-set has_ticket s.views id me.0 w at);
          tickets = λ t. let same_ticket : ticket_at t me.0.stage ≡ same t k = ap (ticket_at t) is in omega (arith, r.tickets t, total-set (at_ticket t) s.views id me.0 w at);
          dealt = λ h. omega (arith, r.dealt h, total-set (weight h) s.views id me.0 w at);
          each = each_set (Fits m base r.longest r.served) (Fits m base r.longest r.served) s.views id w (λ j v _ _ f. f)
              record { base_is = old.base_is; begins = begins_self r.longest; staged = (sym turn, refl); seated = omega (arith, old.seated); own_seen = old.own_all; own_all = old.own_all; heard = old.heard } r.each;
          shelf = inr (ap (λ l. set l 0 none) home.1, omega (arith, home.3, total-set holds_slot s.views id me.0 w at));
        },
        ((λ _. (home.0, r.longest, refl, refl, home.2.1, (old.begins, old.own_all), λ b e. subst (λ (z : T). m.stands z home.0) (sym (old.base_is b e)) home.2.0)), λ miss. absurd (miss hit)),
      ))
      (λ miss. (me.0, keeps, tt, unmoved s r 1 id me at, ((λ hit. absurd (miss hit)), λ _. refl)))
