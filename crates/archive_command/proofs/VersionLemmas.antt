-- Versions that are put in rising order of start.
use Rattle.archive_command.proofs.Names.{◌≡◌, ℕ, suc, Bool, true, false, List, [], ◌∷◌, ◌++◌, map, take, drop, refl, sym, ◌∙◌, ap, if◌then◌else◌, ◌&&◌, not, ◌==◌, Result, Ok, Err, OnOk, TimeParts, Mark, count_until, versions_of, with_version}
use Rattle.std.proofs.lemmas.Bool.{true≢false, false≢true}
use Rattle.pseudo_time.specs.Order.{lt}
use Rattle.value_form.specs.declared.objects.ObjectId.{ObjectId}
use Rattle.value_form.specs.declared.values.Value.{Value}
use Rattle.object_history.specs.declared.marks.Mark.TheVariants.{Put}
use Rattle.object_history.specs.Objects.{same_object}
use Rattle.object_history.specs.History.{Seen, version_count}
use Rattle.object_history.specs.Settled.{insert, listed}
use Rattle.commit_watch.specs.declared.versions.Version.{Version}
use Rattle.commit_watch.specs.Folds.{version_of}
use Rattle.commit_watch.proofs.ListLemmas.{same-parts}

-- ---- by place

place-if : (b : Bool) (n : ℕ) (v w : Version) (ws us : List Version) → take n ws ++ v ∷ drop n ws ≡ us →
    take (if b then 0 else suc n) (w ∷ ws) ++ v ∷ drop (if b then 0 else suc n) (w ∷ ws) ≡ (if b then v ∷ w ∷ ws else w ∷ us)
place-if true n v w ws us h = refl
place-if false n v w ws us h = ap (λ z. w ∷ z) h

put-behind : (v : Version) (ws : List Version) → take (count_until v.start ws) ws ++ v ∷ drop (count_until v.start ws) ws ≡ with_version v ws
put-behind v [] = refl
put-behind v (w ∷ ws) = place-if (lt v.start w.start) (count_until v.start ws) v w ws (with_version v ws) (put-behind v ws)

pub put-at : (v : Version) (ws shown new : List Version) (n : ℕ) → shown ≡ ws → n ≡ count_until v.start shown → new ≡ take n ws ++ v ∷ drop n ws → new ≡ with_version v ws
put-at v ws shown new n same at e =
    let here = at ∙ ap (count_until v.start) same in
    e ∙ ap (λ k. take k ws ++ v ∷ drop k ws) here ∙ put-behind v ws

-- ---- by the marks

map-if : (o : ObjectId) (b : Bool) (q p : Seen) (ps qs : List Seen) (us : List Version) → us ≡ map (version_of o) qs →
    (if b then version_of o q ∷ version_of o p ∷ map (version_of o) ps else version_of o p ∷ us) ≡ map (version_of o) (if b then q ∷ p ∷ ps else p ∷ qs)
map-if o true q p ps qs us h = refl
map-if o false q p ps qs us h = ap (λ z. version_of o p ∷ z) h

with-inserted : (o : ObjectId) (q : Seen) (ps : List Seen) → with_version (version_of o q) (map (version_of o) ps) ≡ map (version_of o) (insert q ps)
unfolding insert
with-inserted o q [] = refl
with-inserted o q (p ∷ ps) = map-if o (lt q.start p.start) q p ps (insert q ps) (with_version (version_of o q) (map (version_of o) ps)) (with-inserted o q ps)

mine-if : (b : Bool) (o : ObjectId) (xs ys : List Seen) → b ≡ true → map (version_of o) xs ≡ map (version_of o) (if b && true then xs else ys)
mine-if true o xs ys h = refl
mine-if false o xs ys h = absurd (false≢true h)

other-if : (b : Bool) (o : ObjectId) (xs ys : List Seen) → b ≡ false → map (version_of o) ys ≡ map (version_of o) (if b && true then xs else ys)
other-if true o xs ys h = absurd (true≢false h)
other-if false o xs ys h = refl

not-no : (b : Bool) → false ≡ not b → b ≡ true
not-no true h = refl
not-no false h = absurd (false≢true h)

not-yes : (b : Bool) → true ≡ not b → b ≡ false
not-yes true h = absurd (true≢false h)
not-yes false h = refl

on-ok : {A E P Q : Type 0} (r : Result A E) → (P → Q) → OnOk r P → OnOk r Q
on-ok (Ok a) f h = f h
on-ok (Err e) f h = h

version-more : (f : Mark) (a o : ObjectId) (x : TimeParts) (v : Value) (m : List Mark) (old new : List Version) → f ≡ Put a x v → same_object a o ≡ true → old ≡ versions_of o m →
    new ≡ with_version (record { object = o; start = x; value = v }) old → new ≡ versions_of o (f ∷ m)
unfolding listed
version-more f a o x v m old new is mine h e =
    let q : Seen = record { place = version_count o m; start = x; value = v } in
    e
    ∙ ap (with_version (version_of o q)) h
    ∙ with-inserted o q (listed (λ y. true) o m)
    ∙ mine-if (same_object a o) o (insert q (listed (λ y. true) o m)) (listed (λ y. true) o m) mine
    ∙ ap (λ (g : Mark). versions_of o (g ∷ m)) (sym is)

-- a put of the object
pub version-put : {A E : Type 0} (f : Mark) (a o : ObjectId) (x : TimeParts) (v w : Value) (b : Bool) (m : List Mark) (old new : List Version) (r : Result A E) → f ≡ Put a x v → w ≡ v →
    b ≡ not (a.repository == o.repository && a.number == o.number) → b ≡ false → OnOk r (new ≡ with_version (record { object = o; start = x; value = w }) old) → old ≡ versions_of o m → OnOk r (new ≡ versions_of o (f ∷ m))
version-put f a o x v w b m old new r is same e k put h =
    on-ok r (version-more f a o x w m old new (is ∙ ap (Put a x) (sym same)) (sym (same-parts a o) ∙ not-no (a.repository == o.repository && a.number == o.number) (sym k ∙ e)) h) put

-- and one of another
pub version-other : (f : Mark) (a o : ObjectId) (x : TimeParts) (v : Value) (b : Bool) (m : List Mark) (old : List Version) → f ≡ Put a x v → b ≡ not (a.repository == o.repository && a.number == o.number) → b ≡ true →
    old ≡ versions_of o m → old ≡ versions_of o (f ∷ m)
unfolding listed
version-other f a o x v b m old is e k h =
    h
    ∙ other-if (same_object a o) o (insert (record { place = version_count o m; start = x; value = v }) (listed (λ y. true) o m)) (listed (λ y. true) o m)
    (sym (same-parts a o) ∙ not-yes (a.repository == o.repository && a.number == o.number) (sym k ∙ e))
    ∙ ap (λ (g : Mark). versions_of o (g ∷ m)) (sym is)
