-- A map of objects by the entries of a `BTreeMap`.
use Rattle.serial_model.proofs.Names.{◌≡◌, List, [], ◌∷◌, ◌++◌, cond, sym, refl, ap, ◌∙◌, Some, T, Bool, true, false, ◌&&◌, map, subst, Option, empty, find, get, insert, entries, from_entries, from_sorted, is_sorted, get-from_entries, get-from_sorted, get-insert, entries-from_sorted, same_map, ObjectId, Value, is_lt, AllByRecursion, object_cmp, Objects, object_cmp-total, object_cmp-exact, onto}
use Rattle.std.specs.BTreeMap.{is_at}
use Rattle.std.specs.Map.{lookup}
use Rattle.std.proofs.lemmas.Cmp.{eq_by_cmp_equiv}
use Rattle.std.specs.declared.cmp.Ordering.TheVariants.{Less}
use Rattle.std.specs.FinMap.Entries.{below_all}
use Rattle.std.specs.List.Sorted.{IsStrictlySortedBy}

-- what a `BTreeMap` with these entries has
abbrev pub found_at : List (ObjectId × Value) → ObjectId → Option Value
found_at entries object = lookup (is_at (object_cmp object)) entries

find-found_at : (es : List (ObjectId × Value)) (q : ObjectId) → find object_cmp q es ≡ found_at es q
find-found_at [] q = refl
find-found_at (e ∷ es) q = ap (cond (is_at (object_cmp q) e.0) (Some e.1)) (find-found_at es q)

pub get-entries_of : (es : List (ObjectId × Value)) (q : ObjectId) → get (from_entries {R = object_cmp} es) q ≡ found_at es q
get-entries_of es q = get-from_entries object_cmp-total es q ∙ find-found_at es q

pub insert-entries_of : (es fs : List (ObjectId × Value)) (o : ObjectId) (v : Value) → ((q : ObjectId) → found_at fs q ≡ cond (is_at (object_cmp o) q) (Some v) (found_at es q)) → from_entries {R = object_cmp} fs ≡ insert (from_entries es) o v
insert-entries_of es fs o v h = same_map object_cmp-total object_cmp-exact _ _ (λ q.
    get-entries_of fs q ∙ h q ∙ ap (λ b. cond b (Some v) (found_at es q)) ((eq_by_cmp_equiv object_cmp-total).symm o q)
    ∙ sym (get-insert object_cmp-total (from_entries es) o v q ∙ ap (cond (is_at (object_cmp q) o) (Some v)) (get-entries_of es q)))

-- a map keeps entries that rise
pub entries-entries_of : (es : List (ObjectId × Value)) → T (is_sorted object_cmp es) → entries (from_entries {R = object_cmp} es) ≡ es
entries-entries_of es rising =
    ap entries (same_map object_cmp-total object_cmp-exact (from_entries es) (from_sorted es) (λ q. get-from_entries object_cmp-total es q ∙ sym (get-from_sorted object_cmp es q rising)))
    ∙ entries-from_sorted object_cmp es rising

both : (p q : Bool) → T p → T q → T (p && q)
both true q a b = b
both false q a b = absurd a

below_all-rising : (o : ObjectId) (es : List (ObjectId × Value)) → AllByRecursion (λ q. object_cmp o q ≡ Less) (map (λ e. e.0) es) → T (below_all object_cmp o es)
below_all-rising o [] h = tt
below_all-rising o (e ∷ es) h = both _ _ (subst (λ r. T (is_lt r)) (sym h.0) tt) (below_all-rising o es h.1)

is_sorted-rising : (es : List (ObjectId × Value)) → IsStrictlySortedBy object_cmp (map (λ e. e.0) es) → T (is_sorted object_cmp es)
unfolding IsStrictlySortedBy
is_sorted-rising [] h = tt
is_sorted-rising (e ∷ es) h = both _ _ (below_all-rising e.0 es h.0) (is_sorted-rising es h.1)

pub rising_entries : (es listed : List (ObjectId × Value)) (m : Objects) → listed ≡ es → IsStrictlySortedBy object_cmp (map (λ e. e.0) es) → from_entries es ≡ m → listed ≡ entries m
rising_entries es listed m same rising is = same ∙ sym (entries-entries_of es (is_sorted-rising es rising)) ∙ ap entries is

pub onto-last : (m : Objects) (es : List (ObjectId × Value)) (e : ObjectId × Value) → onto m (es ++ e ∷ []) ≡ onto (insert m e.0 e.1) es
onto-last m [] e = refl
onto-last m (f ∷ es) e = ap (λ n. insert n f.0 f.1) (onto-last m es e)

pub onto-empty : (es : List (ObjectId × Value)) → onto empty es ≡ from_entries {R = object_cmp} es
onto-empty [] = refl
onto-empty (e ∷ es) = ap (λ n. insert n e.0 e.1) (onto-empty es)

pub onto-more : (map new : Objects) (left rest : List (ObjectId × Value)) (o : ObjectId) (v : Value) (all : Objects) → left ≡ rest ++ (o, v) ∷ [] → new ≡ insert map o v → onto map left ≡ all → onto new rest ≡ all
onto-more map new left rest o v all is next h = ap (λ z. onto z rest) next ∙ sym (onto-last map rest (o, v)) ∙ sym (ap (onto map) is) ∙ h
