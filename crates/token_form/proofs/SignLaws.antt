-- Signs are read as they are spelled.
use Rattle.token_form.proofs.Names.{◌≡◌, ℕ, false, cond, List, [], ◌∷◌, ◌++◌, Option, Some, None, refl, sym, ap, ◌∙◌, subst, arith, ◌==◌, ◌||◌, nat_tests, Token, sign_spelling, Ends, sign_of, longer_or, longest, sign_then, sign_found, sign_token, first_token}
use Rattle.token_form.specs.declared.tokens.Sign.{Sign}
use Rattle.token_form.specs.declared.tokens.Sign.TheVariants as g
use Rattle.token_form.specs.declared.tokens.Token.TheVariants as t
use Rattle.token_form.proofs.Runs.{by_test, if_false, neither, some_is, by_option, Fronted}

-- ---- what is spelled is read

less_alone : (b : ℕ) (bs : List ℕ) → (b == 61 || b == 62) ≡ false → longest g.Less (b ∷ bs) ≡ (g.Less, b ∷ bs)
less_alone b bs e = let k = neither (b == 61) (b == 62) e in ap (longer_or g.Less b bs) (if_false _ _ _ k.0 ∙ if_false _ _ _ k.1)

greater_alone : (b : ℕ) (bs : List ℕ) → (b == 61) ≡ false → longest g.Greater (b ∷ bs) ≡ (g.Greater, b ∷ bs)
greater_alone b bs e = ap (longer_or g.Greater b bs) (if_false _ _ _ e)

ended_is_longest : (sign : Sign) (rest : List ℕ) → Ends (t.Sign sign) rest → longest sign rest ≡ (sign, rest)
ended_is_longest sign [] ends = refl
ended_is_longest g.Less (b ∷ bs) ends = less_alone b bs ends
ended_is_longest g.Greater (b ∷ bs) ends = greater_alone b bs ends
ended_is_longest sign (b ∷ bs) ends = refl

pub spelled_sign_is_read : (sign : Sign) (rest : List ℕ) → Ends (t.Sign sign) rest → first_token (sign_spelling sign ++ rest) ≡ Some (t.Sign sign, rest)
spelled_sign_is_read g.NotEqual rest ends = refl
spelled_sign_is_read g.LessEqual rest ends = refl
spelled_sign_is_read g.GreaterEqual rest ends = refl
spelled_sign_is_read sign rest ends = ap (λ p. Some (t.Sign p.0, p.1)) (ended_is_longest sign rest ends)

-- ---- what is read is spelled so

pick : (b k : ℕ) (sign : Sign) (more : Option Sign) (found : Sign) → sign_spelling sign ≡ k ∷ [] → (more ≡ Some found → sign_spelling found ≡ b ∷ []) → cond (b == k) (Some sign) more ≡ Some found → sign_spelling found ≡ b ∷ []
pick b k sign more found spelled others =
    by_test (b == k) (λ p. cond p (Some sign) more ≡ Some found → sign_spelling found ≡ b ∷ [])
    (λ same e. ap sign_spelling (sym (some_is _ _ e)) ∙ spelled ∙ ap (λ z. z ∷ []) (let m : k ≡ b = grind (arith, nat_tests) in m))
    (λ other e. others e)

single : (b : ℕ) (sign : Sign) → sign_of b ≡ Some sign → sign_spelling sign ≡ b ∷ []
single b sign =
    pick b 61 g.Equal _ sign refl (pick b 60 g.Less _ sign refl (pick b 62 g.Greater _ sign refl (pick b 43 g.Plus _ sign refl (pick b 45 g.Minus _ sign refl
    (pick b 42 g.Star _ sign refl (pick b 47 g.Slash _ sign refl (pick b 38 g.Ampersand _ sign refl (pick b 40 g.Open _ sign refl (pick b 41 g.Close _ sign refl
    (pick b 91 g.OpenBracket _ sign refl (pick b 93 g.CloseBracket _ sign refl (pick b 46 g.Dot _ sign refl (pick b 44 g.Comma _ sign refl (λ e. absurd (cc)))))))))))))))

abbrev Found : ℕ → List ℕ → Sign × List ℕ → Type 0
Found b after found = (b ∷ after ≡ sign_spelling found.0 ++ found.1) × Ends (t.Sign found.0) found.1

two_bytes_end : (bs : List ℕ) → Ends (t.Sign g.LessEqual) bs
two_bytes_end [] = tt
two_bytes_end (b ∷ bs) = refl

different_ends : (bs : List ℕ) → Ends (t.Sign g.NotEqual) bs
different_ends [] = tt
different_ends (b ∷ bs) = refl

greater_equal_ends : (bs : List ℕ) → Ends (t.Sign g.GreaterEqual) bs
greater_equal_ends [] = tt
greater_equal_ends (b ∷ bs) = refl

longest_is_spelled : (sign : Sign) (b : ℕ) (after : List ℕ) → sign_spelling sign ≡ b ∷ [] → Found b after (longest sign after)
longest_is_spelled sign b [] e = (sym (ap (λ z. z ++ []) e), tt)
longest_is_spelled g.Less b (c ∷ bs) e =
    by_test (c == 61) (λ p. Found b (c ∷ bs) (longer_or g.Less c bs (cond p (Some g.LessEqual) (cond (c == 62) (Some g.NotEqual) None))))
    (λ f. let k : c ≡ 61 = grind (arith, nat_tests) in (sym (ap (λ z. z ++ c ∷ bs) e) ∙ ap (λ z. 60 ∷ z ∷ bs) k, two_bytes_end bs))
    (λ f. by_test (c == 62) (λ p. Found b (c ∷ bs) (longer_or g.Less c bs (cond p (Some g.NotEqual) None)))
    (λ h. let k : c ≡ 62 = grind (arith, nat_tests) in (sym (ap (λ z. z ++ c ∷ bs) e) ∙ ap (λ z. 60 ∷ z ∷ bs) k, different_ends bs))
    (λ h. (sym (ap (λ z. z ++ c ∷ bs) e), rw (f, h) refl)))
longest_is_spelled g.Greater b (c ∷ bs) e =
    by_test (c == 61) (λ p. Found b (c ∷ bs) (longer_or g.Greater c bs (cond p (Some g.GreaterEqual) None)))
    (λ f. let k : c ≡ 61 = grind (arith, nat_tests) in (sym (ap (λ z. z ++ c ∷ bs) e) ∙ ap (λ z. 62 ∷ z ∷ bs) k, greater_equal_ends bs))
    (λ f. (sym (ap (λ z. z ++ c ∷ bs) e), f))
longest_is_spelled sign b (c ∷ bs) e = (sym (ap (λ z. z ++ c ∷ bs) e), refl)

-- what a sign at the front is
pub read_sign_is_spelled : (b : ℕ) (bs : List ℕ) (token : Token) (rest : List ℕ) → sign_token b bs ≡ Some (token, rest) → Fronted (b ∷ bs) token rest
read_sign_is_spelled b bs token rest = by_option (sign_of b) (λ o. sign_found (sign_then o bs) ≡ Some (token, rest) → Fronted (b ∷ bs) token rest) (λ e. absurd (cc))
    (λ sign is e. subst (λ p. Fronted (b ∷ bs) p.0 p.1) (some_is _ _ e)
    (let k = longest_is_spelled sign b bs (single b sign is) in (sign_spelling (longest sign bs).0, k.0, refl, k.1)))
