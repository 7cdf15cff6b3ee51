-- The committed versions that the code keeps are those with the greatest starts, and what they hold are the finals.
use Rattle.trace_report.proofs.Names.{option_map, unwrap_or, is_eq, is_at, true≢false, false≢true, eq_by_cmp_equiv, StampParts, TimeParts, lt, ObjectId, Value, Nothing, Effect, Mark, pick, scan, version_count, same_object, value_of, RunLogs, committed, last_put, AreLast, final_last, ◌≡◌, Bool, true, false, List, [], ◌∷◌, ◌++◌, map, refl, sym, ◌∙◌, ap, subst, Option, Some, None, ◌&&◌, not, if◌then◌else◌, cond, option_to_list, Seen, starts_above, all_marks, holding, last_values, is_above, last_at, last_parts, seen_parts, mark_of, final_of}
use Rattle.std.specs.declared.cmp.Ordering.{Ordering}
use Rattle.std.specs.declared.cmp.Ordering.TheVariants.{Less, Equal, Greater}
use Rattle.std.specs.FinMap as finite
use Rattle.std.specs.List.Sorted.{IsStrictlySortedBy}
use Rattle.value_form.specs.Objects.{object_cmp, value_at}
use Rattle.value_form.proofs.ObjectLemmas.{object_cmp-total, object_cmp-exact}
use Rattle.effect_form.specs.declared.effects.Effect.TheVariants as effect
use Rattle.object_history.specs.declared.marks.Mark.TheVariants.{Put, Stretch, Settle, Floor}
use Rattle.object_history.proofs.ObjectLemmas.{same_object-is}
use Rattle.serial_model.proofs.MapLemmas.{rising_entries}
use Rattle.trace_report.specs.declared.last_versions.Last.{Last}
use Rattle.trace_report.specs.declared.last_versions.LastVersions.{LastVersions}

-- ---- one put more

parts_above : Option (TimeParts × Value) → TimeParts → Bool
parts_above None x = false
parts_above (Some p) x = lt x p.0

last-above : (l : Option Last) (x : TimeParts) → is_above l x ≡ parts_above (option_map last_parts l) x
unfolding parts_above
last-above None x = refl
last-above (Some l) x = refl

seen-above : (r : Option Seen) (x : TimeParts) → starts_above r x ≡ parts_above (option_map seen_parts r) x
unfolding parts_above
seen-above None x = refl
seen-above (Some q) x = refl

pick-out : (b : Bool) (p : Seen) (r : Option Seen) → b ≡ false → pick b p r ≡ r
unfolding pick
pick-out true p r e = absurd (true≢false e)
pick-out false p r e = refl

pick-above : (b : Bool) (p : Seen) (r : Option Seen) → starts_above r p.start ≡ true → pick b p r ≡ r
unfolding pick
pick-above true p r e = ap (λ c. if not c then Some p else r) e
pick-above false p r e = refl

pick-in : (b : Bool) (p : Seen) (r : Option Seen) → b ≡ true → starts_above r p.start ≡ false → pick b p r ≡ Some p
unfolding pick
pick-in true p r e f = ap (λ c. if not c then Some p else r) f
pick-in false p r e f = absurd (false≢true e)

and-out : (a b : Bool) → b ≡ false → (a && b) ≡ false
and-out true b e = e
and-out false b e = refl

module _ (k : RunLogs) (m : List Mark) where
  abbrev found : ObjectId → Option Seen
  found q = scan (λ x. committed k x.stamp) q m

  abbrev put : TimeParts → Value → ObjectId → Seen
  put x v q = record { place = version_count q m; start = x; value = v }

  -- one that isn't committed
  pub put-out : (d : LastVersions) (o : ObjectId) (x : TimeParts) (v : Value) → committed k x.stamp ≡ false → AreLast k m d → AreLast k (Put o x v ∷ m) d
  unfolding scan
  put-out d o x v c h = record { each = λ q. h.each q ∙ ap (option_map seen_parts) (sym (pick-out (same_object o q && committed k x.stamp) (put x v q) (found q) (and-out (same_object o q) (committed k x.stamp) c))) }

  -- the version that is known starts above it, or doesn't
  known-above : (d : LastVersions) (q : ObjectId) (x : TimeParts) → AreLast k m d → is_above (last_at d.versions.entries q) x ≡ starts_above (found q) x
  known-above d q x h = last-above (last_at d.versions.entries q) x ∙ ap (λ p. parts_above p x) (h.each q) ∙ sym (seen-above (found q) x)

  pub put-below : (d : LastVersions) (o : ObjectId) (x : TimeParts) (v : Value) → is_above (last_at d.versions.entries o) x ≡ true → AreLast k m d → AreLast k (Put o x v ∷ m) d
  unfolding scan
  put-below d o x v above h = record { each = λ q. h.each q ∙ ap (option_map seen_parts) (sym (same q (same_object o q) refl)) }
    where
      same : (q : ObjectId) (b : Bool) → same_object o q ≡ b → pick (b && committed k x.stamp) (put x v q) (found q) ≡ found q
      same q true e = pick-above (committed k x.stamp) (put x v q) (found q) (sym (known-above d q x h) ∙ ap (λ p. is_above (last_at d.versions.entries p) x) (sym (same_object-is o q e)) ∙ above)
      same q false e = pick-out false (put x v q) (found q) refl

  pub put-in : (d new : LastVersions) (o : ObjectId) (x : TimeParts) (v : Value) (l : Last) → committed k x.stamp ≡ true → is_above (last_at d.versions.entries o) x ≡ false → l.start ≡ x → l.value ≡ v →
      ((q : ObjectId) → last_at new.versions.entries q ≡ cond (is_at (object_cmp o) q) (Some l) (last_at d.versions.entries q)) → AreLast k m d → AreLast k (Put o x v ∷ m) new
  unfolding scan same_object
  put-in d new o x v l c low start value puts h = record { each = λ q. ap (option_map last_parts) (puts q) ∙ same q (is_eq (object_cmp o q)) refl }
    where
      same : (q : ObjectId) (b : Bool) → is_eq (object_cmp o q) ≡ b → option_map last_parts (cond b (Some l) (last_at d.versions.entries q)) ≡ option_map seen_parts (pick (b && committed k x.stamp) (put x v q) (found q))
      same q true e = (λ i. Some (start i, value i)) ∙ ap (option_map seen_parts) (sym (pick-in (committed k x.stamp) (put x v q) (found q) c
          (sym (known-above d q x h) ∙ ap (λ p. is_above (last_at d.versions.entries p) x) (sym (same_object-is o q e)) ∙ low)))
      same q false e = h.each q ∙ ap (option_map seen_parts) (sym (pick-out false (put x v q) (found q) refl))

-- nothing was read
pub last-none : (k : RunLogs) (d : LastVersions) → d.versions.entries ≡ [] → AreLast k [] d
unfolding scan
last-none k d e = record { each = λ o. ap (λ es. option_map last_parts (last_at es o)) e }

-- an effect that isn't a put
pub other-effect : (k : RunLogs) (m : List Mark) (d : LastVersions) (f : Effect) → ((o : ObjectId) (x : TimeParts) (v : Value) → f ≡ effect.Put o x v → ⊥) → AreLast k m d → AreLast k (option_to_list (mark_of f) ++ m) d
unfolding scan
other-effect k m d (effect.Put o x v) other h = absurd (other o x v refl)
other-effect k m d (effect.Stretch o x) other h = record { each = h.each }
other-effect k m d (effect.Decide s e) other h = record { each = h.each }
other-effect k m d (effect.Learn s c) other h = record { each = h.each }
other-effect k m d (effect.Mark at) other h = record { each = h.each }
other-effect k m d f other h = h

-- ---- what objects hold

module _ (ok : StampParts → Bool) (held : ObjectId → Value) where
  abbrev holds_at : ObjectId → Option Seen → Option Value
  holds_at o r = option_map (λ q. held o) r

  picked-same : (c : Bool) (o : ObjectId) (p : Seen) (r : Option Seen) → (starts_above r p.start ≡ c) → holds_at o (if not c then Some p else r) ≡ Some (held o)
  picked-same false o p r e = refl
  picked-same true o p None e = absurd (false≢true e)
  picked-same true o p (Some q) e = refl

  pub held-at : (m : List Mark) (o : ObjectId) → finite.get (holding ok held m) o ≡ holds_at o (scan (λ x. ok x.stamp) o m)
  unfolding holding scan pick same_object
  held-at [] o = finite.get-empty object_cmp o
  held-at (Put a x v ∷ m) o = put (ok x.stamp) refl (held-at m o)
    where
      equal : (r : Ordering) → is_eq r ≡ true → r ≡ Equal
      equal Less k = absurd (false≢true k)
      equal Equal k = refl
      equal Greater k = absurd (false≢true k)

      entry : (b : Bool) → is_eq (object_cmp o a) ≡ b → finite.get (holding ok held m) o ≡ holds_at o (scan (λ y. ok y.stamp) o m) →
          cond b (Some (held a)) (finite.get (holding ok held m) o) ≡ holds_at o (pick (b && true) (record { place = version_count o m; start = x; value = v }) (scan (λ y. ok y.stamp) o m))
      entry true e rest =
          ap (λ z. Some (held z)) (sym (object_cmp-exact o a (equal (object_cmp o a) e)))
          ∙ sym (picked-same (starts_above (scan (λ y. ok y.stamp) o m) x) o (record { place = version_count o m; start = x; value = v }) (scan (λ y. ok y.stamp) o m) refl)
      entry false e rest = rest

      put : (c : Bool) → ok x.stamp ≡ c → finite.get (holding ok held m) o ≡ holds_at o (scan (λ y. ok y.stamp) o m) →
          finite.get (if c then finite.insert (holding ok held m) a (held a) else holding ok held m) o ≡ holds_at o (pick (same_object a o && c) (record { place = version_count o m; start = x; value = v }) (scan (λ y. ok y.stamp) o m))
      put true e rest =
          finite.get-insert object_cmp-total (holding ok held m) a (held a) o
          ∙ entry (is_eq (object_cmp o a)) refl rest
          ∙ ap (λ b. holds_at o (pick (b && true) (record { place = version_count o m; start = x; value = v }) (scan (λ y. ok y.stamp) o m))) ((eq_by_cmp_equiv object_cmp-total).symm o a)
      put false e rest = rest ∙ ap (holds_at o) (sym (pick-out (same_object a o && false) (record { place = version_count o m; start = x; value = v }) (scan (λ y. ok y.stamp) o m) (and-out (same_object a o) false refl)))
  held-at (Stretch a x ∷ m) o = held-at m o
  held-at (Settle s c ∷ m) o = held-at m o
  held-at (Floor z ∷ m) o = held-at m o

module _ (k : RunLogs) where
  value-of : (r : Option Seen) → option_map (λ (q : Seen). value_of r) r ≡ option_map (λ (q : Seen). q.value) r
  value-of None = refl
  value-of (Some q) = refl

  value-or : (r : Option Seen) → unwrap_or (option_map (λ (q : Seen). q.value) r) Nothing ≡ value_of r
  value-or None = refl
  value-or (Some q) = refl

  last-get : (o : ObjectId) → finite.get (last_values k) o ≡ option_map (λ (q : Seen). q.value) (last_put k o)
  last-get o = held-at (committed k) (λ p. value_of (last_put k p)) (all_marks k) o ∙ value-of (last_put k o)

  -- an object has the value of its committed put with the greatest start, and Nothing where it has none
  pub last-value : (o : ObjectId) → value_at (last_values k) o ≡ value_of (last_put k o)
  last-value o = ap (λ r. unwrap_or r Nothing) (last-get o) ∙ value-or (last_put k o)

-- ---- the finals of a report

abbrev held_by : ObjectId × Last → ObjectId × Value
held_by e = (e.0, e.1.value)

find-held : (es : List (ObjectId × Last)) (q : ObjectId) → finite.find object_cmp q (map held_by es) ≡ option_map (λ (l : Last). l.value) (last_at es q)
find-held [] q = refl
find-held (e ∷ es) q = step (is_eq (object_cmp q e.0)) (find-held es q)
  where
    step : (b : Bool) → finite.find object_cmp q (map held_by es) ≡ option_map (λ (l : Last). l.value) (last_at es q) →
        cond b (Some e.1.value) (finite.find object_cmp q (map held_by es)) ≡ option_map (λ (l : Last). l.value) (cond b (Some e.1) (last_at es q))
    step true h = refl
    step false h = h

parts-value : (l : Option Last) (r : Option Seen) → option_map last_parts l ≡ option_map seen_parts r → option_map (λ (x : Last). x.value) l ≡ option_map (λ (q : Seen). q.value) r
parts-value l r h = last l ∙ ap (option_map (λ (p : TimeParts × Value). p.1)) h ∙ sym (seen r)
  where
    last : (l : Option Last) → option_map (λ (x : Last). x.value) l ≡ option_map (λ (p : TimeParts × Value). p.1) (option_map last_parts l)
    last None = refl
    last (Some x) = refl

    seen : (r : Option Seen) → option_map (λ (q : Seen). q.value) r ≡ option_map (λ (p : TimeParts × Value). p.1) (option_map seen_parts r)
    seen None = refl
    seen (Some q) = refl

same-keys : (es : List (ObjectId × Last)) → map (λ e. e.0) (map held_by es) ≡ map (λ e. e.0) es
same-keys [] = refl
same-keys (e ∷ es) = ap (λ z. e.0 ∷ z) (same-keys es)

same-finals : (es : List (ObjectId × Last)) → map final_last es ≡ map final_of (map held_by es)
same-finals [] = refl
same-finals (e ∷ es) = ap (λ z. final_last e ∷ z) (same-finals es)

pub finals-are : (k : RunLogs) (d : LastVersions) → AreLast k (all_marks k) d → IsStrictlySortedBy object_cmp (map (λ e. e.0) d.versions.entries) → map final_last d.versions.entries ≡ map final_of (finite.entries (last_values k))
finals-are k d h rising =
    let es = d.versions.entries in
    same-finals es
    ∙ ap (map final_of) (rising_entries (map held_by es) (map held_by es) (last_values k) refl (subst (IsStrictlySortedBy object_cmp) (sym (same-keys es)) rising)
    (finite.same_map object_cmp-total object_cmp-exact (finite.from_entries (map held_by es)) (last_values k)
    (λ q. finite.get-from_entries object_cmp-total (map held_by es) q ∙ find-held es q ∙ parts-value (last_at es q) (last_put k q) (h.each q) ∙ sym (last-get k q))))
