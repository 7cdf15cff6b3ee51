-- An object among those that moved, as the code looks for it from the front.
use Rattle.std.proofs.Common.{◌≡◌, Bool, false, List, [], ◌∷◌, sym, ◌∙◌, ap, None, Some, ◌==◌, ◌&&◌, if◌then◌else◌}
use Rattle.value_form.specs.declared.objects.ObjectId.{ObjectId}
use Rattle.commit_watch.specs.declared.moved.Moved.{Moved}
use Rattle.commit_watch.specs.Lists.{moved_at}
use Rattle.commit_watch.proofs.ListLemmas.{same-parts}

module _ {T : Type 0} where
  -- another object stands first
  pub among-on : (o : ObjectId) (w : Moved T) (ws rest : List (Moved T)) (b : Bool) → rest ≡ w ∷ ws →
      b ≡ (w.object.repository == o.repository && w.object.number == o.number) → b ≡ false → moved_at o rest ≡ moved_at o ws
  unfolding moved_at
  among-on o w ws rest b e is h = ap (moved_at o) e ∙ ap (λ t. if t then Some w else moved_at o ws) (sym (same-parts w.object o) ∙ sym is ∙ h)

  pub among-none : (o : ObjectId) (rest : List (Moved T)) → rest ≡ [] → moved_at o rest ≡ None
  unfolding moved_at
  among-none o rest e = ap (moved_at o) e
