-- What a page with its gate does to a reading.
use Rattle.version_store.proofs.Names.{Effect, Heads, IsFound, HeldFit, reading_of, state_with, PageState, Blank, Spoiled, Gated, Content, content_of, Going, next, ◌≡◌, ℕ, List, length, take, drop, Bool, true, false, None, refl, arith, length-drop, take_all}
use Rattle.page_form.specs.Gate.{Gate}
use Rattle.page_form.specs.Gate.TheVariants as gates

-- a spoiled page is skipped, and what was begun is given up
pub spoiled_goes : (c : Content) (page : ℕ) (ended : Bool) (state : PageState) (heads : Heads) (effects : List Effect) → ended ≡ false → state ≡ Spoiled → IsFound heads effects c.log
    → (more : Content) × (next (reading_of ended c) page state ≡ reading_of ended more) × IsFound heads effects more.log × HeldFit None more.held
spoiled_goes c page false Spoiled heads effects off is found = (content_of c.log, refl, found, tt)
spoiled_goes c page false Blank heads effects off is found = absurd (cc is)
spoiled_goes c page false (Gated body) heads effects off is found = absurd (cc is)
spoiled_goes c page true state heads effects off is found = absurd (cc off)

-- a page with an open gate is what stands behind it
pub opened_page : (gate : Gate) (c : Content) (page : ℕ) (ended : Bool) (body : List ℕ) → ended ≡ false → gate ≡ gates.Open → next (reading_of ended c) page (state_with gate body) ≡ next (Going c) page (Gated body)
opened_page gates.Open c page false body off is = refl
opened_page gates.Blank c page false body off is = absurd (cc is)
opened_page gates.Spoiled c page false body off is = absurd (cc is)
opened_page gate c page true body off is = absurd (cc off)

-- what stands behind a page's first byte, as a slice
pub behind_gate : (bytes : List ℕ) → length bytes ≡ 4096 → take 4095 (drop 1 bytes) ≡ drop 1 bytes
behind_gate bytes size = take_all 4095 (drop 1 bytes) (omega (arith, size, length-drop 1 bytes))
