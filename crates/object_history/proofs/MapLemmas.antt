-- A finite map by the entries of an ordered map.
use Rattle.object_history.proofs.Names.{◌≡◌, List, [], ◌∷◌, cond, sym, refl, ap, ◌∙◌, Some, Option, Ordering, IsTotalOrder, find, get, insert, from_entries, get-from_entries, get-insert, same_map, eq_by_cmp_equiv}
use Rattle.std.specs.BTreeMap.{is_at}
use Rattle.std.specs.Map.{lookup}
use Rattle.std.proofs.lemmas.Map.Lookups.{CmpEqualImpliesEq}

-- what an ordered map with these entries has
abbrev pub found_at : {K X : Type 0} → (K → K → Ordering) → List (K × X) → K → Option X
found_at R entries q = lookup (is_at (R q)) entries

-- the entries after are those before, but for this key
abbrev pub Puts : {K X : Type 0} → (K → K → Ordering) → K → X → List (K × X) → List (K × X) → Type 0
Puts R k v before after = (q : _) → found_at R after q ≡ cond (is_at (R k) q) (Some v) (found_at R before q)

module _ {K X : Type 0} {R : K → K → Ordering} (total : IsTotalOrder R) (exact : CmpEqualImpliesEq R) where
  find-found_at : (es : List (K × X)) (q : K) → find R q es ≡ found_at R es q
  find-found_at [] q = refl
  find-found_at (e ∷ es) q = ap (cond (is_at (R q) e.0) (Some e.1)) (find-found_at es q)

  pub get-entries_of : (es : List (K × X)) (q : K) → get (from_entries {R = R} es) q ≡ found_at R es q
  get-entries_of es q = get-from_entries total es q ∙ find-found_at es q

  pub insert-entries_of : (es fs : List (K × X)) (k : K) (v : X) → Puts R k v es fs → from_entries {R = R} fs ≡ insert (from_entries es) k v
  insert-entries_of es fs k v h = same_map total exact _ _ (λ q.
      get-entries_of fs q ∙ h q ∙ ap (λ b. cond b (Some v) (found_at R es q)) ((eq_by_cmp_equiv total).symm k q)
      ∙ sym (get-insert total (from_entries es) k v q ∙ ap (cond (is_at (R q) k) (Some v)) (get-entries_of es q)))
