-- What a visit and a meeting are for the windows of a node: a step over its own entry, and entries of others.
use Rattle.node_turn.proofs.Names.{NodeId, Image, Entry, names, own, walk, CarriesOn, owner_of, Sight, IsOf, Owns, IsAsBefore, Looked, base_at, life_at, own-same, Stage, LeftNow, Goes, IsKept, Passes, ◌≡◌, true, List, [], ◌∷◌, ◌++◌, sym, ap, subst, ◌∙◌, append_assoc, filter-append}
use Rattle.node_turn.proofs.StepLemmas.{passes-between, passes-visit}

nothing-added : {X : Type 0} (xs ys : List X) → xs ++ ys ≡ xs → ys ≡ []
nothing-added [] ys h = h
nothing-added (x ∷ xs) ys h = nothing-added xs ys (cc h)

module _ (n : NodeId) (k : Sight) (is : IsOf n k) (owns : Owns k) where
  -- behind what the pass had seen stands no entry of the node
  none-behind : (l : List Entry) (car : CarriesOn owner_of k l) → own n car.begins.0 ≡ []
  none-behind l car = nothing-added (own n k.story) (own n car.begins.0) (sym (filter-append (names n) k.story car.begins.0) ∙ ap (own n) car.begins.1 ∙ own-same k n l is owns car)

  -- the node's own entry was added behind what a visit found, while its medium stood still
  pub passes-found : (k' : Sight) (found : List Entry) (e : Entry) (s : List Stage) → names n e ≡ true → IsAsBefore k found → k'.story ≡ found ++ e ∷ [] → ((c : Image) → LeftNow s c → IsKept (life_at k n) c)
      → ((c : Image) → LeftNow s c → IsKept ((walk (base_at k) k'.story).life n) c) → Passes (base_at k) n k.story k'.story s s
  passes-found k' found e s named before kept was behind =
      let car = before.carries in
      let others = car.begins.0 in
      let here : k.story ++ (others ++ e ∷ []) ≡ k'.story = sym (append_assoc k.story others (e ∷ [])) ∙ ap (λ l. l ++ e ∷ []) car.begins.1 ∙ sym kept in
      subst (λ l. Passes (base_at k) n k.story l s s) here
      (passes-visit (base_at k) n k.story others e s (none-behind found car) named was (subst (λ l. (c : Image) → LeftNow s c → IsKept ((walk (base_at k) l).life n) c) (sym here) behind))

  -- no entry was added, and the medium went on
  pub passes-looked : (k' : Sight) (from to : List Stage) → Looked k k' → Goes from to (IsKept (life_at k n)) → Passes (base_at k) n k.story k'.story from to
  passes-looked k' from to looked kept =
      let car = looked.before.carries in
      subst (λ l. Passes (base_at k) n k.story l from to) car.begins.1 (passes-between (base_at k) n k.story car.begins.0 from to (none-behind k'.story car) kept)
