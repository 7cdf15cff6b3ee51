-- Settling, effect by effect.
use Rattle.broker_core.proofs.Names.{ActSpec, Effect, Given, Heard, Notes, Phase, changed, phase_at, owed_at, LedgerParts, kept, most_steps, owed_now, settle_on, settled, ◌≡◌, ℕ, zero, suc, ◌+◌, ◌-◌, ◌*◌, ◌<◌, List, [], ◌∷◌, ◌++◌, length, reverse, Option, Some, None, refl, ap, subst, sym, arith, ◌∙◌, reverse-append}

module _ (me run : ℕ) (acts : List ActSpec) (answers : List Given) (h : Heard) where
  -- nothing is owed
  pub settled-none : (k : ℕ) (fresh : List Effect) (n : Notes) → owed_now me run acts answers h n ≡ None → settled me run acts answers h k fresh n ≡ (fresh, n)
  unfolding settled
  settled-none zero fresh n e = refl
  settled-none (suc k) fresh n e = ap (λ (o : Option Effect). settle_on me run acts answers h (settled me run acts answers h k) o fresh n) e

  pub settled-over : (k : ℕ) (fresh : List Effect) (n : Notes) → k ≡ 0 → settled me run acts answers h k fresh n ≡ (fresh, n)
  unfolding settled
  settled-over zero fresh n e = refl
  settled-over (suc k) fresh n e = cc

  -- an effect is owed
  some-on : (k : ℕ) (fresh : List Effect) (n : Notes) (f : Effect) → owed_now me run acts answers h n ≡ Some f →
      settled me run acts answers h (suc k) fresh n ≡ settled me run acts answers h k (f ∷ fresh) (changed acts f n)
  unfolding settled
  some-on k fresh n f e = ap (λ (o : Option Effect). settle_on me run acts answers h (settled me run acts answers h k) o fresh n) e

  pub settled-some : (most i : ℕ) (fresh : List Effect) (n : Notes) (f : Effect) → i < most → owed_now me run acts answers h n ≡ Some f →
      settled me run acts answers h (most - (i + 1)) (f ∷ fresh) (changed acts f n) ≡ settled me run acts answers h (most - i) fresh n
  settled-some most i fresh n f l e =
      let k : most - i ≡ suc (most - (i + 1)) = omega arith in
      sym (ap (λ (m : ℕ). settled me run acts answers h m fresh n) k ∙ some-on (most - (i + 1)) fresh n f e)

-- a ledger on the way, with k of the steps left
abbrev pub OnTheWay : (a b : LedgerParts) (h : Heard) (k most : ℕ) (first items : List Effect) → Type 0
OnTheWay a b h k most first items =
    (settled a.number a.run a.acts a.answers h k (reverse items) b.notes ≡ settled a.number a.run a.acts a.answers h most (reverse first) a.notes)
    × (b.answers ≡ a.answers) × (b.number ≡ a.number) × (b.run ≡ a.run) × (b.acts ≡ a.acts)

-- what is owed on the way
owed-there : (a b c : LedgerParts) (h : Heard) (p : Phase) (o : Option Effect) → c ≡ b → p ≡ phase_at b.acts b.run b.notes (kept b.notes b.answers) h →
    owed_at c.number c.acts c.run c.notes h p ≡ o → b.answers ≡ a.answers → b.number ≡ a.number → b.run ≡ a.run → b.acts ≡ a.acts →
    owed_now a.number a.run a.acts a.answers h b.notes ≡ o
owed-there a b c h p o same is owes e1 e2 e3 e4 =
    let k1 : owed_at b.number b.acts b.run b.notes h p ≡ o = subst (λ (l : LedgerParts). owed_at l.number l.acts l.run l.notes h p ≡ o) same owes in
    let k2 : owed_now b.number b.run b.acts b.answers h b.notes ≡ o = subst (λ (q : Phase). owed_at b.number b.acts b.run b.notes h q ≡ o) is k1 in
    let k3 = subst (λ (xs : List Given). owed_now b.number b.run b.acts xs h b.notes ≡ o) e1 k2 in
    let k4 = subst (λ (m : ℕ). owed_now m b.run b.acts a.answers h b.notes ≡ o) e2 k3 in
    let k5 = subst (λ (r : ℕ). owed_now a.number r b.acts a.answers h b.notes ≡ o) e3 k4 in
    subst (λ (xs : List ActSpec). owed_now a.number a.run xs a.answers h b.notes ≡ o) e4 k5

pub on-the-way : (a b c d : LedgerParts) (h : Heard) (most i : ℕ) (first items more : List Effect) (f : Effect) (p : Phase) →
    i < most → OnTheWay a b h (most - i) most first items → c ≡ b → p ≡ phase_at b.acts b.run b.notes (kept b.notes b.answers) h →
    owed_at c.number c.acts c.run c.notes h p ≡ Some f → d ≡ record c { notes = changed c.acts f c.notes } → more ≡ items ++ f ∷ [] →
    OnTheWay a d h (most - (i + 1)) most first more
on-the-way a b c d h most i first items more f p l k same is owes after more-is =
    let o = owed-there a b c h p (Some f) same is owes k.1 k.2 k.3 k.4 in
    let n : d.notes ≡ changed a.acts f b.notes =
    ap (λ (x : LedgerParts). x.notes) after ∙ (ap (λ (x : LedgerParts). changed x.acts f x.notes) same ∙ ap (λ (xs : List ActSpec). changed xs f b.notes) k.4) in
    let r : reverse more ≡ f ∷ reverse items = ap reverse more-is ∙ reverse-append items (f ∷ []) in
    let s = settled-some a.number a.run a.acts a.answers h most i (reverse items) b.notes f l o in (
      ap (λ (xs : List Effect). settled a.number a.run a.acts a.answers h (most - (i + 1)) xs d.notes) r
          ∙ (ap (λ (m : Notes). settled a.number a.run a.acts a.answers h (most - (i + 1)) (f ∷ reverse items) m) n ∙ (s ∙ k.0)),
      ap (λ (x : LedgerParts). x.answers) after ∙ (ap (λ (x : LedgerParts). x.answers) same ∙ k.1),
      ap (λ (x : LedgerParts). x.number) after ∙ (ap (λ (x : LedgerParts). x.number) same ∙ k.2),
      ap (λ (x : LedgerParts). x.run) after ∙ (ap (λ (x : LedgerParts). x.run) same ∙ k.3),
      ap (λ (x : LedgerParts). x.acts) after ∙ (ap (λ (x : LedgerParts). x.acts) same ∙ k.4),
    )

-- nothing more is owed
pub at-rest : (a b c : LedgerParts) (h : Heard) (k count : ℕ) (first items : List Effect) (p : Phase) → OnTheWay a b h k (3 * count + 3) first items → c ≡ b →
    p ≡ phase_at b.acts b.run b.notes (kept b.notes b.answers) h → owed_at c.number c.acts c.run c.notes h p ≡ None → count ≡ length a.acts →
    settled a.number a.run a.acts a.answers h (most_steps a.acts) (reverse first) a.notes ≡ (reverse items, c.notes)
at-rest a b c h k count first items p way same is owes e =
    subst (λ (m : ℕ). settled a.number a.run a.acts a.answers h (3 * m + 3) (reverse first) a.notes ≡ (reverse items, c.notes)) e
    (sym way.0 ∙ (settled-none a.number a.run a.acts a.answers h k (reverse items) b.notes (owed-there a b c h p None same is owes way.1 way.2 way.3 way.4)
    ∙ ap (λ (x : LedgerParts). (reverse items, x.notes)) (sym same)))

-- no step is left
pub at-last : (a b c : LedgerParts) (h : Heard) (k count : ℕ) (first items : List Effect) → OnTheWay a b h k (3 * count + 3) first items → c ≡ b → k ≡ 0 → count ≡ length a.acts →
    settled a.number a.run a.acts a.answers h (most_steps a.acts) (reverse first) a.notes ≡ (reverse items, c.notes)
at-last a b c h k count first items way same over e =
    subst (λ (m : ℕ). settled a.number a.run a.acts a.answers h (3 * m + 3) (reverse first) a.notes ≡ (reverse items, c.notes)) e
    (sym way.0 ∙ (settled-over a.number a.run a.acts a.answers h k (reverse items) b.notes over ∙ ap (λ (x : LedgerParts). (reverse items, x.notes)) (sym same)))
