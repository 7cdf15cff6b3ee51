-- An expression is kept, exactly while it is no deeper than 16.
use Rattle.expression_form.proofs.Names.{◌≡◌, ℕ, ◌+◌, ◌<◌, ◌≤◌, ◌⊎◌, inl, inr, max, refl, sym, ap, ◌∙◌, subst, arith, if◌then◌else◌, le-ltb, lt-ltb, cases_lt, Expr, Term, Number, Text, Nothing, Name, Before, Between, Applied, Given, made, Operand, Built, Deep, depth, kept, before, between, applied, given, operand_of}
use Rattle.value_form.specs.declared.expressions.Expr.TheVariants as e

-- kept whole with its depth, or too deep
abbrev pub Keeps : Operand → Expr → ℕ → Type 0
Keeps h x n = ((n ≤ 16) × (h ≡ Built x n)) ⊎ ((16 < n) × (h ≡ Deep))

kept_keeps : (x : Expr) (n : ℕ) → Keeps (kept x n) x (n + 1)
kept_keeps x n = at (cases_lt n 16)
  where
    at : (n < 16) ⊎ (16 ≤ n) → Keeps (kept x n) x (n + 1)
    at (inl h) = inl (omega arith, ap (λ b. if b then Built x (n + 1) else Deep) (lt-ltb n 16 h))
    at (inr h) = inr (omega arith, ap (λ b. if b then Built x (n + 1) else Deep) (le-ltb n 16 h))

one_keeps : (f : Operand → Operand) (g : Expr → Expr) (h : Operand) (x : Expr) (n : ℕ) → ((y : Expr) (m : ℕ) → f (Built y m) ≡ kept (g y) m) → f Deep ≡ Deep → Keeps h x n → Keeps (f h) (g x) (n + 1)
one_keeps f g h x n keeps deep (inl c) = subst (λ z. Keeps z (g x) (n + 1)) (sym (ap f c.1 ∙ keeps x n)) (kept_keeps (g x) n)
one_keeps f g h x n keeps deep (inr c) = inr (omega arith, ap f c.1 ∙ deep)

two_keeps : (f : Operand → Operand → Operand) (g : Expr → Expr → Expr) (h k : Operand) (x y : Expr) (n m : ℕ)
    → ((x y : Expr) (n m : ℕ) → f (Built x n) (Built y m) ≡ kept (g x y) (max n m)) → ((x : Expr) (n : ℕ) → f (Built x n) Deep ≡ Deep) → ((k : Operand) → f Deep k ≡ Deep)
    → Keeps h x n → Keeps k y m → Keeps (f h k) (g x y) (max n m + 1)
two_keeps f g h k x y n m keeps right left (inl c) (inl d) = subst (λ z. Keeps z (g x y) (max n m + 1)) (sym (ap (λ z. f z k) c.1 ∙ ap (f (Built x n)) d.1 ∙ keeps x y n m)) (kept_keeps (g x y) (max n m))
two_keeps f g h k x y n m keeps right left (inl c) (inr d) = inr (omega arith, ap (λ z. f z k) c.1 ∙ ap (f (Built x n)) d.1 ∙ right x n)
two_keeps f g h k x y n m keeps right left (inr c) d = inr (omega arith, ap (λ z. f z k) c.1 ∙ left k)

pub operand_keeps : (x : Term) → Keeps (operand_of x) (made x) (depth x)
operand_keeps (Number n) = inl (omega arith, refl)
operand_keeps (Text b) = inl (omega arith, refl)
operand_keeps Nothing = inl (omega arith, refl)
operand_keeps (Name n) = inl (omega arith, refl)
operand_keeps (Before o x) = one_keeps (before o) (e.Prefix o) (operand_of x) (made x) (depth x) (λ y m. refl) refl (operand_keeps x)
operand_keeps (Applied c x) = one_keeps (applied c) (e.Call c) (operand_of x) (made x) (depth x) (λ y m. refl) refl (operand_keeps x)
operand_keeps (Between o x y) = two_keeps (between o) (e.Infix o) (operand_of x) (operand_of y) (made x) (made y) (depth x) (depth y) (λ x y n m. refl) (λ x n. refl) (λ k. refl) (operand_keeps x) (operand_keeps y)
operand_keeps (Given x y) = two_keeps given e.Given (operand_of x) (operand_of y) (made x) (made y) (depth x) (depth y) (λ x y n m. refl) (λ x n. refl) (λ k. refl) (operand_keeps x) (operand_keeps y)
