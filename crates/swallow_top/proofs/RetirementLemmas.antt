-- How a retirement is told, and what is handed back of it.
use Rattle.swallow_top.proofs.Names.{AllZip-long, IsBack, Media, Kept, AllKept, kept_under, ShelfSight, first_names, all-kept, Retired, AskedNothing, TellsRetired, TellsRetirement, mark_at, Sinking, ◌≡◌, ◌⊎◌, inl, inr, ℕ, List, length, ap, sym, subst, ◌∙◌, named}
use Rattle.pseudo_time.specs.TimeParts.{TimeParts}
use Rattle.retire_command.specs.Retires.{RetiresOver, TookNothing}
use Rattle.retire_command.proofs.RetireLemmas.{comes-back}
use Rattle.swallow_top.proofs.PastLemmas.{has-pasts}

pub tells-retirement : {M : Type 0} (w : Media M) (old new : ShelfSight) (repository clock : ℕ) (kept : List (Kept M)) (s : Sinking) (status : ℕ) (at : TimeParts) (r : Retired) → at ≡ mark_at clock →
    TookNothing w old new kept r ⊎ RetiresOver w old new (named repository) at kept r → TellsRetired r status s → AskedNothing w old new kept s status ⊎ TellsRetirement w old new repository clock kept s status
tells-retirement w old new repository clock kept s status at r is (inl none) told = let short = subst (λ x. TellsRetired x status s) none.wanting told in inl (record { wanting = short.0; unwritten = short.1; none = none.none; unasked = none.unasked; left = none.left })
tells-retirement w old new repository clock kept s status at r is (inr over) told =
    let o = subst (λ m. RetiresOver w old new (named repository) m kept r) is over in
    inr (record { retired = r; over = o; pasts = λ tells. has-pasts w tells repository (mark_at clock) o.openings o.left r o.volumes.ends o.came; told = told })

-- each medium that was taken is handed back
pub retirement-kept : {M : Type 0} (w : Media M) (old new : ShelfSight) (repository clock : ℕ) (kept : List (Kept M)) (s : Sinking) (status : ℕ) → TellsRetirement w old new repository clock kept s status → AllKept old new kept
retirement-kept w old new repository clock kept s status h =
    let over = h.over in
    let back = comes-back w (named repository) (mark_at clock) over.media over.openings over.left h.retired over.volumes.opened over.came in
    subst (AllKept old new) (ap (λ k. kept_under (first_names (named repository) k) over.left) (sym (AllZip-long IsBack over.media over.left back)) ∙ sym over.handed)
    (all-kept w old new (first_names (named repository) (length over.media)) over.media over.left over.volumes.taken back)
