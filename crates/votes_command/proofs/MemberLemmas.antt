-- The members' media are taken one after another, and handed back.
use Rattle.std.proofs.Common.{◌≡◌, inl, inr, ℕ, [], ◌∷◌, Option, Some, None, ap, sym, ◌∙◌, arith}
use Rattle.pseudo_time.specs.Lists.{Has}
use Rattle.pseudo_time.specs.Nodes.{repository}
use Rattle.medium_port.specs.declared.shelves.MediumName.{MediumName}
use Rattle.run_volumes.specs.Media.{IsUsable, Media}
use Rattle.run_volumes.specs.Shelves.{IsGiven, ShelfSight, TakesOne, WereTaken, volume_name}
use Rattle.run_volumes.proofs.ShelfLemmas.{taken-both, taken-one}
use Rattle.vote_call.specs.Media.{AreUsable}
use Rattle.vote_call.specs.declared.member_media.MemberMedia.{MemberMedia}
use Rattle.votes_command.specs.Members.{in_order, member_names}

-- the name of a member's medium
abbrev pub member_name : ℕ → MediumName
member_name number = volume_name (repository number) 1010

number-of : (a b : ℕ) → member_name a ≡ member_name b → a ≡ b
number-of a b e = ap (λ (x : MediumName). x.number) e

second-apart : (name : MediumName) → Has name (member_name 2 ∷ []) → Has name (member_name 1 ∷ []) → ⊥
second-apart name (inl e) (inl f) = let same = number-of 2 1 (e ∙ sym f) in absurd (omega (arith, same))
second-apart name (inl e) (inr none) = none
second-apart name (inr none) h = none

third-apart : (name : MediumName) → Has name (member_name 3 ∷ []) → Has name (member_name 1 ∷ member_name 2 ∷ []) → ⊥
third-apart name (inl e) (inl f) = let same = number-of 3 1 (e ∙ sym f) in absurd (omega (arith, same))
third-apart name (inl e) (inr (inl f)) = let same = number-of 3 2 (e ∙ sym f) in absurd (omega (arith, same))
third-apart name (inl e) (inr (inr none)) = none
third-apart name (inr none) h = none

module _ {M : Type 0} (w : Media M) where
  pub members-taken : (a b c d : ShelfSight) (x y z : Option M) → TakesOne w a b (member_name 1) x → TakesOne w b c (member_name 2) y → TakesOne w c d (member_name 3) z → WereTaken w a d member_names (x ∷ y ∷ z ∷ [])
  members-taken a b c d x y z p q r =
      taken-both w a c d (member_name 1 ∷ member_name 2 ∷ []) (x ∷ y ∷ []) (member_name 3 ∷ []) (z ∷ [])
      (taken-both w a b c (member_name 1 ∷ []) (x ∷ []) (member_name 2 ∷ []) (y ∷ []) (taken-one w a b (member_name 1) x p) (taken-one w b c (member_name 2) y q) second-apart)
      (taken-one w c d (member_name 3) z r) third-apart

  given-usable : (a : ShelfSight) (name : MediumName) (m : Option M) → IsGiven w a name m → IsUsable w m
  given-usable a name None h = tt
  given-usable a name (Some m) h = h.sound

  -- a medium that stood on a shelf hasn't failed
  pub members-usable : (a b : ShelfSight) (media : MemberMedia M) → WereTaken w a b member_names (in_order media) → AreUsable w media
  members-usable a b media h = record {
    first = given-usable a (member_name 1) media.first h.are.0;
    second = given-usable a (member_name 2) media.second h.are.1.0;
    third = given-usable a (member_name 3) media.third h.are.1.1.0;
  }
