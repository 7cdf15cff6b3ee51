-- What the notes count stays in range, and each answer of the last try is to what its script asks.
use Rattle.broker_ledger.proofs.Names.{ActSpec, block, StampParts, Effect, Answer, RunParts, AreAsked, Given, Last, Notes, answer_of, answers_given, answered_in, act_at, tree_of, answer_noted, try_begun, LedgerParts, AreNotes, IsAskedFor, IsLedger, MayAdd, StepperFits, kept, lines_of, ◌≡◌, ◌≢◌, ℕ, max, ◌+◌, ◌≤◌, ◌<◌, length, take, List, [], ◌∷◌, ◌++◌, refl, sym, ◌∙◌, ap, subst, Option, Some, None, arith, common_steps, length-append, length-map, length-take-le, map-append, take-length, option_map, asked-none, asked-next, asked-few}
use Rattle.effect_form.specs.declared.effects.Effect.TheVariants as effect

-- a try has at most 10,000 answers
few-asked : (a : Option ActSpec) (ans : List Answer) → AreAsked (tree_of a) ans → length ans ≤ 10000
few-asked None [] h = omega arith
few-asked None (x ∷ ans) h = absurd h
few-asked (Some a) ans h = asked-few (block a.script.lines) ans h

kept-length : (n : Notes) (raw : List Given) → answered_in n.last ≤ length raw → length (kept n raw) ≡ answered_in n.last
kept-length n raw h = length-take-le (answered_in n.last) raw h

module _ (acts : List ActSpec) (n : Notes) (raw : List Given) where
  -- with one answer more
  noted-one : (o : Option Last) → n.last ≡ o → n.last ≢ None → answered_in (answer_noted n).last ≡ answered_in n.last + 1
  noted-one None e a = absurd (a e)
  noted-one (Some l) e a =
      ap (λ (x : Option Last). answered_in (option_map (λ (y : Last). record y { answered = y.answered + 1 }) x)) e ∙ sym (ap (λ (x : Option Last). answered_in x + 1) e)

  given-length : (g : Given) → AreNotes acts n raw → n.last ≢ None → length (kept n raw ++ g ∷ []) ≡ answered_in (answer_noted n).last
  given-length g k a = length-append (kept n raw) (g ∷ []) ∙ (ap (λ (x : ℕ). x + 1) (kept-length n raw k.answered) ∙ sym (noted-one n.last refl a))

  pub given-kept : (g : Given) → AreNotes acts n raw → n.last ≢ None → kept (answer_noted n) (kept n raw ++ g ∷ []) ≡ kept n raw ++ g ∷ []
  given-kept g k a = subst (λ (x : ℕ). take x (kept n raw ++ g ∷ []) ≡ kept n raw ++ g ∷ []) (given-length g k a) (take-length (kept n raw ++ g ∷ []))

  pub answer-are : (g : Given) → AreNotes acts n raw → IsAskedFor acts n (kept n raw) g → AreNotes acts (answer_noted n) (kept n raw ++ g ∷ [])
  answer-are g k a =
      let long : length (kept n raw ++ g ∷ []) ≡ answered_in (answer_noted n).last = given-length g k a.last in
      let asked1 : AreAsked (tree_of (act_at acts n)) (answers_given (kept n raw) ++ answer_of g ∷ []) = asked-next (tree_of (act_at acts n)) (answers_given (kept n raw)) (answer_of g) (k.asked a.tried) a.asks in
      let asked2 : AreAsked (tree_of (act_at acts n)) (answers_given (kept n raw ++ g ∷ [])) = subst (AreAsked (tree_of (act_at acts n))) (sym (map-append answer_of (kept n raw) (g ∷ []))) asked1 in
      let few1 : length (answers_given (kept n raw ++ g ∷ [])) ≤ 10000 = few-asked (act_at acts n) _ asked2 in
      let few2 : length (answers_given (kept n raw ++ g ∷ [])) ≡ length (kept n raw ++ g ∷ []) = length-map (kept n raw ++ g ∷ []) answer_of in
      record {
        started = k.started;
        tries = k.tries;
        clock = k.clock;
        answered = omega arith;
        few = omega arith;
        asked = λ t. subst (λ (xs : List Given). AreAsked (tree_of (act_at acts n)) (answers_given xs)) (sym (given-kept g k a.last)) asked2;
      }

  -- with one try more
  try-above : (s c t : ℕ) → t ≤ c → c < s → t + 1 ≤ max c s
  try-above s c t h l = grind (arith, common_steps)

  most-of : (c s : ℕ) → c ≤ 1099511627775 → s ≤ 1099511627775 → max c s ≤ 1099511627775
  most-of c s h l = grind (arith, common_steps)

  pub try-are : (s : StampParts) → AreNotes acts n raw → n.clock < s.clock → s.clock ≤ 1099511627775 → AreNotes acts (try_begun s n) raw
  try-are s k l h = record {
    started = k.started;
    tries = try-above s.clock n.clock n.tries k.tries l;
    clock = most-of n.clock s.clock k.clock h;
    answered = omega arith;
    few = omega arith;
    asked = λ t. asked-none (tree_of (act_at acts n));
  }

-- a try that may be added has a greater clock than the notes
pub may-above : (l v : LedgerParts) (f : Effect) (i : ℕ) (s : StampParts) → v ≡ l → MayAdd l.acts l.notes (kept l.notes l.answers) f → f ≡ effect.Try i s → v.notes.clock < s.clock
may-above l v f i s view h e =
    subst (λ (x : LedgerParts). x.notes.clock < s.clock) (sym view) (subst (MayAdd l.acts l.notes (kept l.notes l.answers)) e h)

-- an answer that may be added is asked for
pub asked-viewed : (l v : LedgerParts) (g : Given) → v ≡ l → IsAskedFor l.acts l.notes (kept l.notes l.answers) g → IsAskedFor v.acts v.notes (kept v.notes v.answers) g
asked-viewed l v g view h = subst (λ (x : LedgerParts). IsAskedFor x.acts x.notes (kept x.notes x.answers) g) (sym view) h

-- ---- the ledger once an answer was added

module _ (number : ℕ) (acts : List ActSpec) (n m : Notes) (raw items : List Given) (g : Given) where
  stepped-by : (r s : RunParts) → (r.script ≡ lines_of (act_at acts n)) × (r.answers ≡ answers_given (kept n raw)) → s.script ≡ r.script → s.answers ≡ r.answers ++ answer_of g ∷ [] →
      (s.script ≡ lines_of (act_at acts n)) × (s.answers ≡ answers_given (kept n raw ++ g ∷ []))
  stepped-by r s f e q = (e ∙ f.0, q ∙ (ap (λ (xs : List Answer). xs ++ answer_of g ∷ []) f.1 ∙ sym (map-append answer_of (kept n raw) (g ∷ []))))

  ledger-by : (o : Option RunParts) → IsLedger number acts n raw None → IsAskedFor acts n (kept n raw) g → m ≡ answer_noted n → items ≡ kept n raw ++ g ∷ [] →
      StepperFits acts (answer_noted n) (kept n raw ++ g ∷ []) o → IsLedger number acts m items o
  ledger-by o k a e q f =
      subst (λ (x : Notes). IsLedger number acts x items o) (sym e) (subst (λ (xs : List Given). IsLedger number acts (answer_noted n) xs o) (sym q) (record {
        number_low = k.number_low;
        number_high = k.number_high;
        are_acts = k.are_acts;
        are_notes = answer-are acts n raw g k.are_notes a;
        stepper_fits = f;
      }))

  without : (o : Option RunParts) → IsLedger number acts n raw o → IsLedger number acts n raw None
  without o k = record { number_low = k.number_low; number_high = k.number_high; are_acts = k.are_acts; are_notes = k.are_notes; stepper_fits = tt }

  -- with a run at hand that was given it
  pub ledger-run : (o : Option RunParts) (r s : RunParts) → IsLedger number acts n raw o → o ≡ Some r → IsAskedFor acts n (kept n raw) g → m ≡ answer_noted n → items ≡ kept n raw ++ g ∷ [] →
      s.script ≡ r.script → s.answers ≡ r.answers ++ answer_of g ∷ [] → IsLedger number acts m items (Some s)
  ledger-run o r s k is a e q b d =
      let f = stepped-by r s (subst (StepperFits acts n raw) is k.stepper_fits) b d in
      ledger-by (Some s) (without o k) a e q (f.0, f.1 ∙ ap answers_given (sym (given-kept acts n raw g k.are_notes a.last)))

  -- without one
  pub ledger-none : (o : Option RunParts) → IsLedger number acts n raw o → ((r : RunParts) → o ≡ Some r → ⊥) → IsAskedFor acts n (kept n raw) g → m ≡ answer_noted n → items ≡ kept n raw ++ g ∷ [] → IsLedger number acts m items o
  ledger-none None k not a e q = ledger-by None k a e q tt
  ledger-none (Some r) k not a e q = absurd (not r refl)
