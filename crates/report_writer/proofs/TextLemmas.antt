-- The lines of versions.
use Rattle.report_writer.proofs.Names.{◌≡◌, List, [], ◌∷◌, ◌++◌, map, reverse, refl, sym, ◌∙◌, ap, Some, None, flat_map, ObjectId, TimeParts, Mark, Seen, top, floor_of, latest, stretched, Settled, Version, falling, version_line, version_text, versions, head_text, marks_text, told_of, told_line, Holds}
use Rattle.std.proofs.lemmas.List.{reverse-append}
use Rattle.std.specs.Prelude.{ℕ, Option}

map-append : (f : Seen → Version) (xs ys : List Seen) → map f (xs ++ ys) ≡ map f xs ++ map f ys
map-append f [] ys = refl
map-append f (x ∷ xs) ys = ap (λ z. f x ∷ z) (map-append f xs ys)

reverse-map : (f : Seen → Version) (xs : List Seen) → reverse (map f xs) ≡ map f (reverse xs)
reverse-map f [] = refl
reverse-map f (x ∷ xs) =
    reverse-append (f x ∷ []) (map f xs) ∙ ap (λ z. z ++ f x ∷ []) (reverse-map f xs) ∙ sym (map-append f (reverse xs) (x ∷ [])) ∙ ap (map f) (sym (reverse-append (x ∷ []) xs))

lines-map : (o : ObjectId) (m : List Mark) (settled : Settled) (origin : Option TimeParts) (vs : List Version) → Holds o m origin vs settled → (ps : List Seen) →
    flat_map (told_line settled (floor_of m)) (map (told_of m o) ps) ≡ flat_map (version_text o m) ps
lines-map o m settled origin vs h [] = refl
lines-map o m settled origin vs h (p ∷ ps) =
    λ i. version_line p.start (h.settles p.start.stamp i) p.value (latest (floor_of m) (top p.start (stretched m o (Some p.place)))) ++ lines-map o m settled origin vs h ps i

-- told over the floor of the marks
pub text-is : (o : ObjectId) (m : List Mark) (settled : Settled) (origin end floor : Option TimeParts) (vs : List Version) (head all : List ℕ) → Holds o m origin vs settled → floor ≡ floor_of m → end ≡ latest floor origin →
    head ≡ [] ++ head_text o end → all ≡ head ++ flat_map (told_line settled floor) (reverse vs) → all ≡ marks_text o m
text-is o m settled origin end floor vs head all h floors ends front is =
    let origin_end : end ≡ latest (floor_of m) (stretched m o None) = ends ∙ ap (λ f. latest f origin) floors ∙ ap (latest (floor_of m)) h.origin_is in
    is ∙ ap (λ f. head ++ flat_map (told_line settled f) (reverse vs)) floors
    ∙ ap (λ z. z ++ flat_map (told_line settled (floor_of m)) (reverse vs)) front ∙ ap (λ e. head_text o e ++ flat_map (told_line settled (floor_of m)) (reverse vs)) origin_end
    ∙ ap (λ ws. head_text o (latest (floor_of m) (stretched m o None)) ++ flat_map (told_line settled (floor_of m)) ws) (ap reverse h.versions_are ∙ reverse-map (told_of m o) (falling o m))
    ∙ ap (λ t. head_text o (latest (floor_of m) (stretched m o None)) ++ t) (lines-map o m settled origin vs h (versions o m))
