-- Lists that are read item by item.
use Rattle.std.proofs.Common.{◌≡◌, ◌<◌, ◌+◌, ℕ, suc, List, [], ◌∷◌, ◌++◌, length, get_or, reverse, take, arith, sym, ◌∙◌, ap, refl}
use Rattle.std.proofs.lemmas.List.{map-append, reverse-append}
use Rattle.std.proofs.Math.Seq.{take-suc}
use Rattle.std.specs.Global.{Vec}
use Rattle.effect_form.specs.declared.effects.Effect.{Effect}
use Rattle.log_replay.specs.Folders.{items_of}

module _ {A : Type 0} where
  pub take-next : (xs : List A) (i : ℕ) (x : A) → i < length xs → x ≡ get_or xs i x → take (i + 1) xs ≡ take i xs ++ x ∷ []
  take-next xs i x low is = let one : i + 1 ≡ suc i = omega arith in ap (λ n. take n xs) one ∙ (take-suc xs i x low ∙ ap (λ z. take i xs ++ z ∷ []) (sym is))

  pub back-next : (xs : List A) (i : ℕ) (x : A) → i < length xs → x ≡ get_or xs i x → reverse (take (i + 1) xs) ≡ x ∷ reverse (take i xs)
  back-next xs i x low is = ap reverse (take-next xs i x low is) ∙ reverse-append (take i xs) (x ∷ [])

-- the last of several logs is the first from behind
pub turned : (logs : List (Vec Effect)) (log : Vec Effect) → reverse (items_of (logs ++ log ∷ [])) ≡ log.items ∷ reverse (items_of logs)
turned [] log = refl
turned (l ∷ logs) log =
    reverse-append (l.items ∷ []) (items_of (logs ++ log ∷ [])) ∙ ap (λ z. z ++ l.items ∷ []) (turned logs log) ∙ ap (λ z. log.items ∷ z) (sym (reverse-append (l.items ∷ []) (items_of logs)))

pub items-next : (logs : List (Vec Effect)) (i : ℕ) (log : Vec Effect) → i < length logs → log ≡ get_or logs i log → items_of (take (i + 1) logs) ≡ items_of (take i logs) ++ log.items ∷ []
items-next logs i log low is = ap items_of (take-next logs i log low is) ∙ map-append (λ (l : Vec Effect). l.items) (take i logs) (log ∷ [])
