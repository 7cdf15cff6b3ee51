-- Pages that are kept, and clean ones, over two runs.
use Rattle.version_store.proofs.Names.{Image, page_of, is_blank, state_of, Spoiled, KeepsPages, StaysClean, ◌≢◌, List, ℕ, sym, ◌∙◌, ap, subst, inl, inr, cases_Bool}

pub keeps-joins : (a b c : Image) → KeepsPages a b → KeepsPages b c → KeepsPages a c
keeps-joins a b c first second page marked =
    let same = first page marked in
    second page (ap is_blank same ∙ marked) ∙ same

pub clean-joins : (a b c : Image) → StaysClean a b → KeepsPages b c → StaysClean b c → StaysClean a c
clean-joins a b c first kept second page blank = elim (cases_Bool (is_blank (page_of b page))) [
  | inl still ↦ second page still
  | inr marked ↦ subst (λ (p : List ℕ). state_of p ≢ Spoiled) (sym (kept page marked)) (first page blank)
]
