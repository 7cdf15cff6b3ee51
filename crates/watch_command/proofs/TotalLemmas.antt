-- What a watch is given of the totals that a log has.
use Rattle.watch_command.proofs.Names.{is_some, true≢false, false≢true, TimeParts, ObjectId, Effect, Mark, same_object, same_object-is, Moved, Version, advanced, cursor_of, moved_at, or_before, with_moved, if_of, last_total, total_put, AreRestored, ◌≡◌, ℤ, Bool, true, false, cond, List, [], ◌∷◌, length, drop, refl, sym, ◌∙◌, ap, subst, Option, Some, None, if◌then◌else◌}
use Rattle.std.specs.Ordering.{is_eq}
use Rattle.value_form.specs.Objects.{object_cmp}
use Rattle.object_history.proofs.MapLemmas.{found_at, Puts}
use Rattle.commit_watch.proofs.ListLemmas.{moved-with}

-- ---- one effect more, at the front

or-none : {A : Type 0} (r : Option A) → or_before r None ≡ r
or-none None = refl
or-none (Some a) = refl

or-some : {A : Type 0} (r s : Option A) → is_some r ≡ true → or_before r s ≡ r
or-some None s h = absurd (false≢true h)
or-some (Some a) s h = refl

pub restored-none : (f : Effect) (log : List Effect) (list : List (Moved ℤ)) → None ≡ total_put f → AreRestored log list → AreRestored (f ∷ log) list
unfolding last_total
restored-none f log list none h o = h o ∙ sym (or-none (last_total log o)) ∙ ap (λ t. or_before (last_total log o) (if_of o t)) none

-- a later one of its object was restored
before-if : (b : Bool) (t : Moved ℤ) (r : Option (Moved ℤ)) → (b ≡ true → is_some r ≡ true) → or_before r (if b then Some t else None) ≡ r
before-if true t r h = or-some r (Some t) (h refl)
before-if false t r h = or-none r

pub restored-before : (f : Effect) (t : Moved ℤ) (log : List Effect) (list : List (Moved ℤ)) → Some t ≡ total_put f → is_some (moved_at t.object list) ≡ true → AreRestored log list → AreRestored (f ∷ log) list
unfolding last_total
restored-before f t log list is there h o =
    h o
    ∙ sym (before-if (same_object t.object o) t (last_total log o) (λ e. ap is_some (sym (h o)) ∙ subst (λ a. is_some (moved_at a list) ≡ true) (same_object-is t.object o e) there))
    ∙ ap (λ u. or_before (last_total log o) (if_of o u)) is

-- it is the last one of its object
new-if : (b : Bool) (t : Moved ℤ) (r : Option (Moved ℤ)) → (b ≡ true → r ≡ None) → (if b then Some t else r) ≡ or_before r (if b then Some t else None)
new-if true t r h = sym (ap (λ z. or_before z (Some t)) (h refl))
new-if false t r h = sym (or-none r)

pub restored-new : (f : Effect) (t : Moved ℤ) (log : List Effect) (list new : List (Moved ℤ)) → Some t ≡ total_put f → moved_at t.object list ≡ None → new ≡ with_moved t list → AreRestored log list → AreRestored (f ∷ log) new
unfolding last_total
restored-new f t log list new is none e h o =
    ap (moved_at o) e
    ∙ moved-with t list o
    ∙ ap (λ r. if same_object t.object o then Some t else r) (h o)
    ∙ new-if (same_object t.object o) t (last_total log o) (λ k. sym (h o) ∙ subst (λ a. moved_at a list ≡ None) (same_object-is t.object o k) none)
    ∙ ap (λ u. or_before (last_total log o) (if_of o u)) is

-- ---- how far it was folded

cursor-if : (b : Bool) (t : Moved ℤ) (r : Option (Moved ℤ)) (found : Option TimeParts) → found ≡ cursor_of r → cond b (Some t.cursor) found ≡ cursor_of (if b then Some t else r)
cursor-if true t r found h = refl
cursor-if false t r found h = h

pub cursors-new : (es fs : List (ObjectId × TimeParts)) (t : Moved ℤ) (list new : List (Moved ℤ)) → Puts object_cmp t.object t.cursor es fs → new ≡ with_moved t list →
    ((o : ObjectId) → found_at object_cmp es o ≡ cursor_of (moved_at o list)) → (o : ObjectId) → found_at object_cmp fs o ≡ cursor_of (moved_at o new)
unfolding same_object
cursors-new es fs t list new puts e h o =
    puts o
    ∙ cursor-if (is_eq (object_cmp t.object o)) t (moved_at o list) (found_at object_cmp es o) (h o)
    ∙ ap cursor_of (sym (ap (moved_at o) e ∙ moved-with t list o))

pub some-cursor : (r : Option (Moved ℤ)) (found : Option TimeParts) → found ≡ cursor_of r → is_some found ≡ true → is_some r ≡ true
some-cursor None found h k = absurd (false≢true (sym (ap is_some h) ∙ k))
some-cursor (Some t) found h k = refl

pub no-cursor : (r : Option (Moved ℤ)) (found : Option TimeParts) → found ≡ cursor_of r → is_some found ≡ false → r ≡ None
no-cursor None found h k = refl
no-cursor (Some t) found h k = absurd (true≢false (sym (ap is_some h) ∙ k))

-- ---- nothing was restored yet

pub cursors-none : (es : List (ObjectId × TimeParts)) (list : List (Moved ℤ)) → es ≡ [] → list ≡ [] → (o : ObjectId) → found_at object_cmp es o ≡ cursor_of (moved_at o list)
unfolding moved_at
cursors-none es list none empty o = ap (λ z. found_at object_cmp z o) none ∙ sym (ap (λ z. cursor_of (moved_at o z)) empty)

drop-all : (log : List Effect) → drop (length log) log ≡ []
drop-all [] = refl
drop-all (f ∷ log) = drop-all log

pub restored-end : (log : List Effect) (list : List (Moved ℤ)) → list ≡ [] → AreRestored (drop (length log) log) list
unfolding moved_at last_total
restored-end log list empty o = ap (moved_at o) empty ∙ sym (ap (λ z. last_total z o) (drop-all log))

-- ---- what comes of the totals that were restored

module _ (first : ℤ) (next : ℤ → Version → Option ℤ) (m : List Mark) (log : List Effect) where
  from-restored : (restored : List (Moved ℤ)) → AreRestored log restored → (o : ObjectId) → advanced first next o m None (moved_at o restored) ≡ advanced first next o m None (last_total log o)
  from-restored restored h o = ap (advanced first next o m None) (h o)
