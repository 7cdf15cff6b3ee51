-- What a shelf over held media has under names that nobody touched.
use Rattle.held_shelf.proofs.Names.{◌≡◌, ◌↔◌, Option, Some, None, refl, sym, subst}
use Rattle.medium_port.specs.Image.{Image}
use Rattle.medium_port.specs.Names.{IsJustSo}
use Rattle.held_shelf.specs.Held.{IsOut, image_in, left_in}

pub just-self : (image : Image) (left : Image → Type 0) → IsJustSo image image left left
just-self image left = record { reads_same = refl; no_more = λ c is. is; no_fewer = λ c is. is }

-- what the shelf below keeps is kept
pub content-kept : {M : Type 0} → (reads : M → Image) (may_leave : M → Image → Type 0) (slot : Option (Option M)) (old new : Image) (may_old may_new : Image → Type 0) → IsJustSo old new may_old may_new
    → IsJustSo (image_in reads old slot) (image_in reads new slot) (left_in may_leave may_old slot) (left_in may_leave may_new slot)
content-kept reads may_leave None old new may_old may_new is = record { reads_same = is.reads_same; no_more = is.no_more; no_fewer = is.no_fewer }
content-kept reads may_leave (Some None) old new may_old may_new is = record { reads_same = is.reads_same; no_more = is.no_more; no_fewer = is.no_fewer }
content-kept reads may_leave (Some (Some m)) old new may_old may_new is = record { reads_same = refl; no_more = λ c left. left; no_fewer = λ c left. left }

pub out-kept : {M : Type 0} → (slot : Option (Option M)) (old new : Type 0) → (new ↔ old) → (IsOut slot new ↔ IsOut slot old)
out-kept None old new is = is
out-kept (Some None) old new is = (λ k. k, λ k. k)
out-kept (Some (Some m)) old new is = (λ k. k, λ k. k)

-- and so it is where slots and the shelf below are then as they were
pub content-moved : {M B : Type 0} → (reads : M → Image) (may_leave : M → Image → Type 0) (holds : B → Image) (may_hold : B → Image → Type 0) (slot new_slot : Option (Option M)) (old new now : B) → new_slot ≡ slot → now ≡ new
    → IsJustSo (holds old) (holds new) (may_hold old) (may_hold new)
    → IsJustSo (image_in reads (holds old) slot) (image_in reads (holds now) new_slot) (left_in may_leave (may_hold old) slot) (left_in may_leave (may_hold now) new_slot)
content-moved {M} {B} reads may_leave holds may_hold slot new_slot old new now e b is =
    subst (λ (x : Option (Option M)). IsJustSo (image_in reads (holds old) slot) (image_in reads (holds now) x) (left_in may_leave (may_hold old) slot) (left_in may_leave (may_hold now) x)) (sym e)
    (subst (λ (y : B). IsJustSo (image_in reads (holds old) slot) (image_in reads (holds y) slot) (left_in may_leave (may_hold old) slot) (left_in may_leave (may_hold y) slot)) (sym b)
    (content-kept reads may_leave slot (holds old) (holds new) (may_hold old) (may_hold new) is))
