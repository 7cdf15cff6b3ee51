-- Texts that are put together.
use Rattle.std.proofs.Common.{◌≡◌, ℕ, List, ◌++◌, ap, ◌∙◌, append_assoc}

pub three_pieces : (old one two three a b c : List ℕ) → one ≡ old ++ a → two ≡ one ++ b → three ≡ two ++ c → three ≡ old ++ (a ++ (b ++ c))
three_pieces old one two three a b c p q r =
    r ∙ ap (λ t. t ++ c) q ∙ append_assoc one b c ∙ ap (λ t. t ++ (b ++ c)) p ∙ append_assoc old a (b ++ c)

pub four_pieces : (old one two three four a b c d : List ℕ) → one ≡ old ++ a → two ≡ one ++ b → three ≡ two ++ c → four ≡ three ++ d → four ≡ old ++ (a ++ (b ++ (c ++ d)))
four_pieces old one two three four a b c d p q r s =
    three_pieces one two three four b c d q r s ∙ ap (λ t. t ++ (b ++ (c ++ d))) p ∙ append_assoc old a (b ++ (c ++ d))
