-- Names and reserved names are read as they are spelled.
use Rattle.token_form.proofs.Names.{◌≡◌, ℕ, Bool, true, false, cond, List, [], ◌∷◌, ◌++◌, Option, Some, None, refl, ap, ◌∙◌, ◌&&◌, codes, list_all, word_spelling, is_letter, is_name_byte, AllPass, IsName, IsReserved, Spells, Ends, front_of, rest_of, words, word_in, word_or_name, name_token, first_token}
use Rattle.std.specs.Str.{bytes_eq}
use Rattle.std.proofs.lemmas.Slice.Eq.{bytes_eq-Decides}
use Rattle.token_form.specs.declared.tokens.Word.{Word}
use Rattle.token_form.specs.declared.tokens.Word.TheVariants as w
use Rattle.token_form.specs.declared.tokens.Token.TheVariants as t
use Rattle.token_form.proofs.Runs.{by_test, if_true, both, AllPass-from, Stops, front_of-run, rest_of-run, front_of-passes, rest_of-stops}

is_name : List ℕ → Bool
is_name [] = false
is_name (b ∷ bs) = is_letter b && list_all is_name_byte bs

IsName-from : (name : List ℕ) → is_name name ≡ true → IsName name
unfolding is_name
IsName-from [] e = absurd (cc)
IsName-from (b ∷ bs) e = let k = both (is_letter b) (list_all is_name_byte bs) e in (k.0, AllPass-from is_name_byte bs k.1)

pub word_is_name : (word : Word) → IsName (word_spelling word)
unfolding is_name
word_is_name w.Let = IsName-from (codes "let") refl
word_is_name w.Read = IsName-from (codes "read") refl
word_is_name w.Write = IsName-from (codes "write") refl
word_is_name w.Print = IsName-from (codes "print") refl
word_is_name w.If = IsName-from (codes "if") refl
word_is_name w.Else = IsName-from (codes "else") refl
word_is_name w.End = IsName-from (codes "end") refl
word_is_name w.Repeat = IsName-from (codes "repeat") refl
word_is_name w.Withdraw = IsName-from (codes "withdraw") refl
word_is_name w.Done = IsName-from (codes "done") refl
word_is_name w.Nothing = IsName-from (codes "nothing") refl
word_is_name w.And = IsName-from (codes "and") refl
word_is_name w.Or = IsName-from (codes "or") refl
word_is_name w.Not = IsName-from (codes "not") refl
word_is_name w.Mod = IsName-from (codes "mod") refl
word_is_name w.Len = IsName-from (codes "len") refl
word_is_name w.Text = IsName-from (codes "text") refl
word_is_name w.Given = IsName-from (codes "given") refl

word_is_found : (word : Word) → word_in words (word_spelling word) ≡ Some word
word_is_found w.Let = refl
word_is_found w.Read = refl
word_is_found w.Write = refl
word_is_found w.Print = refl
word_is_found w.If = refl
word_is_found w.Else = refl
word_is_found w.End = refl
word_is_found w.Repeat = refl
word_is_found w.Withdraw = refl
word_is_found w.Done = refl
word_is_found w.Nothing = refl
word_is_found w.And = refl
word_is_found w.Or = refl
word_is_found w.Not = refl
word_is_found w.Mod = refl
word_is_found w.Len = refl
word_is_found w.Text = refl
word_is_found w.Given = refl

bytes_equal : (xs ys : List ℕ) → bytes_eq xs ys ≡ true → xs ≡ ys
bytes_equal xs ys e = (bytes_eq-Decides xs ys).0 e

found_is_spelled : (table : List Word) (name : List ℕ) (word : Word) → word_in table name ≡ Some word → name ≡ word_spelling word
found_is_spelled [] name word e = absurd (cc)
found_is_spelled (first ∷ more) name word e =
    by_test (bytes_eq name (word_spelling first)) (λ p. cond p (Some first) (word_in more name) ≡ Some word → name ≡ word_spelling word)
    (λ same is. bytes_equal name (word_spelling first) same ∙ ap word_spelling (let k : first ≡ word = cc in k))
    (λ other is. found_is_spelled more name word is)
    e

-- ---- what is spelled is read

name_is_token : (name : List ℕ) → (IsReserved name → ⊥) → name_token name ≡ t.Name name
name_is_token name free = at (word_in words name) refl
  where
    at : (o : Option Word) → word_in words name ≡ o → word_or_name name o ≡ t.Name name
    at None e = refl
    at (Some word) e = absurd (free (word, found_is_spelled words name word e))

letter_is_name_byte : (b : ℕ) → is_letter b ≡ true → is_name_byte b ≡ true
letter_is_name_byte b e = rw e refl

letter_first : (b : ℕ) (bs : List ℕ) → is_letter b ≡ true → first_token (b ∷ bs) ≡ Some (name_token (front_of is_name_byte (b ∷ bs)), rest_of is_name_byte (b ∷ bs))
letter_first b bs e = if_true _ _ _ e

pub name_is_read : (name rest : List ℕ) → IsName name → Stops is_name_byte rest → first_token (name ++ rest) ≡ Some (name_token name, rest)
name_is_read [] rest is stops = absurd is
name_is_read (b ∷ bs) rest is stops =
    let pass : AllPass is_name_byte (b ∷ bs) = (letter_is_name_byte b is.0, is.1) in
    letter_first b (bs ++ rest) is.0
    ∙ ap (λ z. Some (name_token z, rest_of is_name_byte (b ∷ (bs ++ rest)))) (front_of-run is_name_byte (b ∷ bs) rest pass stops)
    ∙ ap (λ z. Some (name_token (b ∷ bs), z)) (rest_of-run is_name_byte (b ∷ bs) rest pass stops)

pub spelled_name_is_read : (name rest : List ℕ) → IsName name → (IsReserved name → ⊥) → Stops is_name_byte rest → first_token (name ++ rest) ≡ Some (t.Name name, rest)
spelled_name_is_read name rest is free stops = name_is_read name rest is stops ∙ ap (λ z. Some (z, rest)) (name_is_token name free)

pub spelled_word_is_read : (word : Word) (rest : List ℕ) → Stops is_name_byte rest → first_token (word_spelling word ++ rest) ≡ Some (t.Word word, rest)
spelled_word_is_read word rest stops = name_is_read (word_spelling word) rest (word_is_name word) stops ∙ ap (λ z. Some (word_or_name (word_spelling word) z, rest)) (word_is_found word)

-- ---- what is read is spelled so

name_spells : (name : List ℕ) → IsName name → Spells (name_token name) name
name_spells name is = at (word_in words name) refl
  where
    free : word_in words name ≡ None → IsReserved name → ⊥
    free e (word, spelled) = let k : word_in words name ≡ Some word = ap (word_in words) spelled ∙ word_is_found word in cc

    at : (o : Option Word) → word_in words name ≡ o → Spells (word_or_name name o) name
    at None e = (refl, is, free e)
    at (Some word) e = found_is_spelled words name word e

name_ends : (o : Option Word) (name rest : List ℕ) → Stops is_name_byte rest → Ends (word_or_name name o) rest
name_ends None name [] stops = tt
name_ends None name (b ∷ bs) stops = stops
name_ends (Some word) name [] stops = tt
name_ends (Some word) name (b ∷ bs) stops = stops

front_is_name : (b : ℕ) (bs : List ℕ) → is_letter b ≡ true → IsName (front_of is_name_byte (b ∷ bs))
front_is_name b bs e = rw (letter_is_name_byte b e) (e, front_of-passes is_name_byte bs)

-- what a name at the front is
pub read_name_is_spelled : (b : ℕ) (bs : List ℕ) → is_letter b ≡ true
    → Spells (name_token (front_of is_name_byte (b ∷ bs))) (front_of is_name_byte (b ∷ bs)) × Ends (name_token (front_of is_name_byte (b ∷ bs))) (rest_of is_name_byte (b ∷ bs))
read_name_is_spelled b bs e =
    let name = front_of is_name_byte (b ∷ bs) in
    (name_spells name (front_is_name b bs e), name_ends (word_in words name) name (rest_of is_name_byte (b ∷ bs)) (rest_of-stops is_name_byte (b ∷ bs)))
