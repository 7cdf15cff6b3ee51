-- Drawing a ticket keeps the rule.
use Rattle.seat_lock.proofs.Names.{◌≡◌, ℕ, ◌+◌, ◌%◌, ◌<◌, List, ◌∷◌, length, get_or, set, refl, ap, ◌∙◌, inl, inr, ⊎_elim, arith, mod-add-mod, State, step, keeps, Allows, Idle, Waiting, View, Meaning, ticket_at, waits, holding, holds_slot, has_ticket, at_ticket, weight, Fits, AtHome, IsOut, Kept, Seated, staged, drew}
use mathlib.Core.Option.{none}
use Rattle.seat_lock.proofs.Sums.{total-set, each_set}

module _ {T E : Type 0} (m : Meaning T E) (base : T) (owners : List ℕ) where
  abbrev V : Type 0
  V = View T E

  abbrev St : Type 0
  St = State T V

  pub draws : (slots id : ℕ) (me : Seated T E) → me.0.stage ≡ Idle → 0 < length me.0.parts
      → Allows (Kept m base owners) slots id me 0 (λ n. (n + 1) % 18446744073709551616) (drew (step slots 0 1 0 none) me)
  draws slots id me idle has s r len at small =
      let w : V = staged (Waiting r.drawn) me.0 in
      let old = r.each id me.0 at in
      let word : get_or s.words 0 0 ≡ r.drawn % 18446744073709551616 = ap (λ l. get_or l 0 0) r.words in
      let next : (get_or s.words 0 0 + 1) % 18446744073709551616 ≡ (r.drawn + 1) % 18446744073709551616 = ap (λ n. (n + 1) % 18446744073709551616) word ∙ mod-add-mod r.drawn 18446744073709551616 1 in
      let idle_holds : holding me.0.stage ≡ 0 = ap holding idle in
      let idle_waits : waits me.0.stage ≡ 0 = ap waits idle in
      let holds_same = total-set holds_slot s.views id me.0 w at in (
        w,
        keeps,
        tt,
        record {
          longest = r.longest;
          drawn = r.drawn + 1;
          served = r.served;
          board = r.board;
          words = ap (λ l. set l 0 ((get_or s.words 0 0 + 1) % 18446744073709551616)) r.words ∙ ap (λ n. n ∷ r.served % 18446744073709551616 ∷ length r.longest % 18446744073709551616 ∷ r.board) next;
          allowed = r.allowed;
          few = r.few;
          differ = r.differ;
          owned = r.owned;
          count = omega (arith, r.count, total-set has_ticket s.views id me.0 w at);
          tickets = λ t. let none_yet : ticket_at t me.0.stage ≡ 0 = ap (ticket_at t) idle in let c = r.count in
              omega (arith, r.tickets t, total-set (at_ticket t) s.views id me.0 w at);
          dealt = λ h. omega (arith, r.dealt h, total-set (weight h) s.views id me.0 w at);
          each = each_set (Fits m base r.longest r.served) (Fits m base r.longest r.served) s.views id w (λ j v _ _ f. f)
              record { base_is = old.base_is; begins = old.begins; staged = tt; seated = omega arith; own_seen = old.own_seen; own_all = old.own_all; heard = old.heard } r.each;
          shelf = ⊎_elim (λ (h : AtHome m base s r.longest). inl (h.0, h.1, h.2, omega arith)) (λ (o : IsOut m base s). inr (o.0, omega arith)) r.shelf;
        },
        (r.drawn, word, refl, refl),
      )
