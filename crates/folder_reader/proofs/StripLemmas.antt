-- One page more is told.
use Rattle.std.proofs.Common.{◌≡◌, ℕ, ◌+◌, ◌≤◌, Bool, true, false, List, [], ◌∷◌, ◌++◌, ◌∙◌, ap, if◌then◌else◌, arith}
use Prim.Native.Nat.{suc}
use Rattle.medium_port.specs.Image.{Image, page_of}
use Rattle.page_gate.specs.States.{state_of}
use Rattle.page_gate.specs.declared.pages.PageState.{PageState}
use Rattle.folder_reader.specs.Strips.{gated_below, is_gated, is_spoiled, spoiled_below}

plus-one : (n : ℕ) → suc n ≡ n + 1
plus-one n = omega arith

pub few-next : (b : Bool) (n count next : ℕ) → count ≤ n → next ≡ (if b then count + 1 else count) → next ≤ n + 1
few-next true n count next h e = omega arith
few-next false n count next h e = omega arith

pub gated-next : (image read : Image) (n count next : ℕ) (s : PageState) → read ≡ image → s ≡ state_of (page_of read n) → count ≡ gated_below image n → next ≡ (if is_gated s then count + 1 else count) → next ≡ gated_below image (n + 1)
gated-next image read n count next s same is so e =
    e ∙ ap (λ k. if is_gated s then k + 1 else k) so
    ∙ ap (λ z. if is_gated z then gated_below image n + 1 else gated_below image n) (is ∙ ap (λ im. state_of (page_of im n)) same) ∙ ap (gated_below image) (plus-one n)

pub spoiled-next : (image read : Image) (n : ℕ) (pages next : List ℕ) (s : PageState) → read ≡ image → s ≡ state_of (page_of read n) → pages ≡ spoiled_below image n → next ≡ (if is_spoiled s then pages ++ n ∷ [] else pages) →
    next ≡ spoiled_below image (n + 1)
spoiled-next image read n pages next s same is so e =
    e ∙ ap (λ ps. if is_spoiled s then ps ++ n ∷ [] else ps) so
    ∙ ap (λ z. if is_spoiled z then spoiled_below image n ++ n ∷ [] else spoiled_below image n) (is ∙ ap (λ im. state_of (page_of im n)) same) ∙ ap (spoiled_below image) (plus-one n)
