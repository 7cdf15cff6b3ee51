-- The rows that the code makes of what it keeps are those of the marks.
use Rattle.folder_look.proofs.Names.{filter, BTreeSet, contains, reverse-append, TimeParts, time_cmp, ObjectId, Value, Mark, Seen, floor_of, falling, versions, Choice, VersionRow, Version, has_start, row_of, is_shown, whole_row, rows_with, starts_at, told_of, Holds, told_row, is_told_in, ◌≡◌, ℕ, Bool, true, false, List, [], ◌∷◌, ◌++◌, map, reverse, refl, sym, ◌∙◌, ap, Option, Some, None, if◌then◌else◌, ◌&&◌, not, top, latest, stretched}
use Rattle.object_history.specs.Kept.{Settled}

map-append : (f : Seen → Version) (xs ys : List Seen) → map f (xs ++ ys) ≡ map f xs ++ map f ys
map-append f [] ys = refl
map-append f (x ∷ xs) ys = ap (λ z. f x ∷ z) (map-append f xs ys)

reverse-map : (f : Seen → Version) (xs : List Seen) → reverse (map f xs) ≡ map f (reverse xs)
reverse-map f [] = refl
reverse-map f (x ∷ xs) =
    reverse-append (f x ∷ []) (map f xs) ∙ ap (λ z. z ++ f x ∷ []) (reverse-map f xs) ∙ sym (map-append f (reverse xs) (x ∷ [])) ∙ ap (map f) (sym (reverse-append (x ∷ []) xs))

abbrev row-with : Option ℕ → TimeParts → Option TimeParts → Value → Option Bool → VersionRow
row-with older start end value state = record { start = start; end = end; state = state; settled = true; value = value; older = older }

-- one that is kept is shown as that of the marks
told-row : (o : ObjectId) (m : List Mark) (older : Option ℕ) (origin : Option TimeParts) (vs : List Version) (settled : Settled) → Holds o m origin vs settled → (p : Seen) → told_row older settled (floor_of m) (told_of m o p) ≡ row_of older o m p
told-row o m older origin vs settled h p = ap (row-with older p.start (latest (floor_of m) (top p.start (stretched m o (Some p.place)))) p.value) (h.settles p.start.stamp)

row-if : (f : Version → VersionRow) (g : Seen → VersionRow) (b : Bool) (t : Version) (p : Seen) (ts : List Version) (ps : List Seen) → f t ≡ g p → map f ts ≡ map g ps → map f (if b then t ∷ ts else ts) ≡ map g (if b then p ∷ ps else ps)
row-if f g true t p ts ps e h = ap (λ r. r ∷ map f ts) e ∙ ap (λ rs. g p ∷ rs) h
row-if f g false t p ts ps e h = h

told-rows : (c : Choice) (o : ObjectId) (m : List Mark) (older : Option ℕ) (next : BTreeSet TimeParts) (qs : List Seen) → ((x : TimeParts) → contains time_cmp next x ≡ starts_at qs x) →
    (origin : Option TimeParts) (vs : List Version) (settled : Settled) → Holds o m origin vs settled → (ps : List Seen) →
    map (told_row older settled (floor_of m)) (filter (is_told_in c next) (map (told_of m o) ps)) ≡ map (row_of older o m) (filter (is_shown c qs) ps)
told-rows c o m older next qs has origin vs settled h [] = refl
told-rows c o m older next qs has origin vs settled h (p ∷ ps) =
    row-if (told_row older settled (floor_of m)) (row_of older o m) (has_start c p.start && not (contains time_cmp next p.start)) (told_of m o p) p (filter (is_told_in c next) (map (told_of m o) ps)) (filter (is_shown c qs) ps)
    (told-row o m older origin vs settled h p) (told-rows c o m older next qs has origin vs settled h ps)
    ∙ ap (λ b. map (row_of older o m) (if has_start c p.start && not b then p ∷ filter (is_shown c qs) ps else filter (is_shown c qs) ps)) (has p.start)

-- those of them that are shown, in rising order
pub rows-are : (c : Choice) (o : ObjectId) (m : List Mark) (older : Option ℕ) (next : BTreeSet TimeParts) (qs : List Seen) → ((x : TimeParts) → contains time_cmp next x ≡ starts_at qs x) →
    (origin floor : Option TimeParts) (vs : List Version) (settled : Settled) → Holds o m origin vs settled → floor ≡ floor_of m →
    map (told_row older settled floor) (filter (is_told_in c next) (reverse vs)) ≡ rows_with c older qs o m
rows-are c o m older next qs has origin floor vs settled h floors =
    ap (λ f. map (told_row older settled f) (filter (is_told_in c next) (reverse vs))) floors
    ∙ ap (λ ws. map (told_row older settled (floor_of m)) (filter (is_told_in c next) (reverse ws))) h.versions_are
    ∙ ap (λ ws. map (told_row older settled (floor_of m)) (filter (is_told_in c next) ws)) (reverse-map (told_of m o) (falling o m))
    ∙ told-rows c o m older next qs has origin vs settled h (versions o m)

-- how far the origin was read
pub origin-is : (o : ObjectId) (m : List Mark) (origin floor end : Option TimeParts) (vs : List Version) (settled : Settled) → Holds o m origin vs settled → floor ≡ floor_of m → end ≡ latest floor origin → end ≡ latest (floor_of m) (stretched m o None)
origin-is o m origin floor end vs settled h floors ends = ends ∙ ap (λ f. latest f origin) floors ∙ ap (latest (floor_of m)) h.origin_is

-- a row by its parts
pub row-is : (o : ObjectId) (origin origin' floor floor' : Option TimeParts) (rows rows' : List VersionRow) → origin ≡ origin' → floor ≡ floor' → rows ≡ rows' → whole_row o origin floor rows ≡ whole_row o origin' floor' rows'
row-is o origin origin' floor floor' rows rows' a b c = λ i. whole_row o (a i) (b i) (c i)
