-- Texts that are put together.
use Rattle.std.proofs.Common.{◌≡◌, ℕ, List, [], ◌∷◌, ◌++◌, ap, ◌∙◌, append_assoc}

-- a tag and two texts
pub tag_and_two : (old one two three a b : List ℕ) (tag : ℕ) → one ≡ old ++ tag ∷ [] → two ≡ one ++ a → three ≡ two ++ b → three ≡ old ++ (tag ∷ (a ++ b))
tag_and_two old one two three a b tag p q r =
    r ∙ ap (λ t. t ++ b) q ∙ append_assoc one a b ∙ ap (λ t. t ++ (a ++ b)) p ∙ append_assoc old (tag ∷ []) (a ++ b)

-- a tag and four texts
pub tag_and_four : (old one two three four five a b c d : List ℕ) (tag : ℕ) → one ≡ old ++ tag ∷ [] → two ≡ one ++ a → three ≡ two ++ b → four ≡ three ++ c → five ≡ four ++ d → five ≡ old ++ (tag ∷ (a ++ (b ++ (c ++ d))))
tag_and_four old one two three four five a b c d tag p q r s t =
    t ∙ ap (λ x. x ++ d) s ∙ append_assoc three c d ∙ ap (λ x. x ++ (c ++ d)) r ∙ append_assoc two b (c ++ d)
    ∙ ap (λ x. x ++ (b ++ (c ++ d))) q ∙ append_assoc one a (b ++ (c ++ d)) ∙ ap (λ x. x ++ (a ++ (b ++ (c ++ d)))) p ∙ append_assoc old (tag ∷ []) (a ++ (b ++ (c ++ d)))

-- two texts
pub two_texts : (old one two a b : List ℕ) → one ≡ old ++ a → two ≡ one ++ b → two ≡ old ++ (a ++ b)
two_texts old one two a b p q = q ∙ ap (λ t. t ++ b) p ∙ append_assoc old a b
