-- Drawing the ticket that is served keeps the rule, and so does finding another.
use Rattle.seat_lock.proofs.Names.{◌≡◌, ◌==◌, ℕ, ◌+◌, ◌%◌, ◌<◌, List, length, get_or, sym, refl, ap, ◌∙◌, subst, Act, step, keeps, Valid, stepped, carried_after, Allows, exchanged, Idle, View, Meaning, Kept, Seated, drew_if}
use mathlib.Core.Option.{none}
use prog.Atomic.{either}
use Rattle.seat_lock.proofs.Drawing.{draws}
use Rattle.seat_lock.proofs.Looking.{unmoved}

module _ {T E : Type 0} (m : Meaning T E) (base : T) (owners : List ℕ) where
  abbrev V : Type 0
  V = View T E

  pub draws_served : (slots id served next : ℕ) (me : Seated T E) → next ≡ (served + 1) % 18446744073709551616 → me.0.stage ≡ Idle → 0 < length me.0.parts
      → Allows (Kept m base owners) slots id me 0 (λ n. either (n == served) next n) (drew_if (step slots 0 served next none) me)
  draws_served slots id served next me is idle has s r len at small =
      let n : ℕ = get_or s.words 0 0 in
      let After : ℕ → Type 0 = λ k. (w : V) × (a : Act T) × Valid s.homes me.1 a × Kept m base owners (stepped s 0 k id me.1 w a) × drew_if (step slots 0 served next none) me n (w, carried_after me.1 a) in
      exchanged n served next After
      (λ hit. let told = draws m base owners slots id me idle has s r len at small in
      let word : (n + 1) % 18446744073709551616 ≡ next = ap (λ k. (k + 1) % 18446744073709551616) hit ∙ sym is in
      (told.0, told.1, told.2, subst (λ k. Kept m base owners (stepped s 0 k id me.1 told.0 told.1)) word told.3, ((λ _. told.4), λ miss. absurd (miss hit))))
      (λ miss. (me.0, keeps, tt, unmoved m base owners s r 0 id me at, ((λ hit. absurd (miss hit)), λ _. refl)))
