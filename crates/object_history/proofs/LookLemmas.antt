-- What is looked up among the versions that are kept is what the definitions see.
use Rattle.std.specs.FinMap as finite
use Rattle.std.proofs.lemmas.Option.{unwrap_or-slice_get, slice_get_past}
use Rattle.std.proofs.Math.ListN.{get_or-append}
use Rattle.std.proofs.Math.Seq.{get_or-append_seam}
use Rattle.object_history.proofs.Names.{TimeParts, same_time, lt, lt-trans, lt-split, ObjectId, Value, Nothing, IsValue, Mark, Put, Stretch, Settle, Floor, Version, same_object, same_value, settle_of, is_alive, is_committed, alive, version_count, Seen, starts_above, pick, scan, stretched, is_over, some_put, settled_over, has_put, value_of, AreMarks, Settled, Tracked, TrackParts, empty_track, IsKept, versions_in, value_under, takes_over, joined, last_of, is_living, is_past, is_firm, some_version, ◌≡◌, ℕ, suc, ◌≤◌, ◌<◌, Bool, true, false, List, [], ◌∷◌, ◌++◌, length, reverse, refl, sym, ◌∙◌, ap, subst, Option, Some, None, ◌==◌, ◌&&◌, ◌||◌, not, if◌then◌else◌, nat_lt, slice_index_or, arith, option_map, push, unwrap_or, reverse-append, length-reverse, reverse-reverse, true≢false, common_steps, IsMark, value_put, seen_in, is_below, HasEnd}
use Rattle.pseudo_time.proofs.ListLemmas.{every-has}
use Rattle.object_history.proofs.BoolLemmas.{not-false}
use Rattle.object_history.proofs.ObjectLemmas.{eqb-yes, eq-from}
use Rattle.object_history.proofs.ScanLemmas.{Standing, standing, stands-has}

-- ---- values

-- the value of each Put of m is found under its place among all marks
abbrev Values : List Mark → List Mark → Type 0
Values all [] = Unit {0}
Values all (f ∷ m) = (value_under all (length m) ≡ value_put f) × Values all m

not_last : (k n : ℕ) (v w : Value) → k < n → (if k == n then v else w) ≡ w
not_last k n v w lt = ap (λ b. if b then v else w) (differ k n lt)
  where
    differ : (k n : ℕ) → k < n → (k == n) ≡ false
    differ k n lt = grind (arith, common_steps)

values-more : (f : Mark) (all m : List Mark) → length m ≤ length all → Values all m → Values (f ∷ all) m
values-more f all [] le h = tt
values-more f all (g ∷ m) le h = (not_last (length m) (length all) (value_put f) (value_under all (length m)) (omega arith) ∙ h.0, values-more f all m (omega arith) h.1)

here : (k : ℕ) (v w : Value) → (if k == k then v else w) ≡ v
here k v w = ap (λ b. if b then v else w) (eqb-yes k k refl)

pub values-all : (m : List Mark) → Values m m
values-all [] = tt
values-all (f ∷ m) = (here (length m) (value_put f) (value_under m (length m)), values-more f m m (omega arith) (values-all m))

-- ---- the last version that passes

picked : (passes : Bool) (all : List Mark) (v : Version) (p : Seen) (r : Option Version) → seen_in all v ≡ p → option_map (seen_in all) (joined (if passes then Some v else None) r)
    ≡ (if passes && not (starts_above (option_map (seen_in all) r) p.start) then Some p else option_map (seen_in all) r)
picked false all v p r h = refl
picked true all v p None h = ap (λ z. Some z) h
picked true all v p (Some w) h = ap (λ z. option_map (seen_in all) (if lt z w.start then Some w else Some v)) (ap (λ z. z.start) h) ∙ taken (lt p.start w.start)
  where
    taken : (b : Bool) → option_map (seen_in all) (if b then Some w else Some v) ≡ (if true && not b then Some p else Some (seen_in all w))
    taken true = refl
    taken false = ap (λ z. Some z) h

scan_if : (same passes : Bool) (all : List Mark) (v : Version) (vs : List Version) (p : Seen) (ok : TimeParts → Bool) (r : Option Seen) → ok v.start ≡ passes → seen_in all v ≡ p → option_map (seen_in all) (last_of ok vs) ≡ r →
    option_map (seen_in all) (last_of ok (if same then v ∷ vs else vs)) ≡ (if (same && passes) && not (starts_above r p.start) then Some p else r)
unfolding last_of
scan_if false passes all v vs p ok r is at h = h
scan_if true passes all v vs p ok r is at h =
    ap (λ b. option_map (seen_in all) (joined (if b then Some v else None) (last_of ok vs))) is
    ∙ picked passes all v p (last_of ok vs) at
    ∙ ap (λ z. if passes && not (starts_above z p.start) then Some p else z) h

pub scan-last : (all : List Mark) (ok : TimeParts → Bool) (o : ObjectId) (m : List Mark) → Values all m → option_map (seen_in all) (last_of ok (versions_in all o m)) ≡ scan ok o m
unfolding scan pick versions_in last_of
scan-last all ok o [] h = refl
scan-last all ok o (Put a x v ∷ m) h =
    scan_if (same_object a o) (ok x) all (record { place = version_count o m; mark = length m; start = x; end = stretched all o (Some (version_count o m)) }) (versions_in all o m)
    (record { place = version_count o m; start = x; value = v }) ok (scan ok o m) refl
    (ap (λ z. record { place = version_count o m; start = x; value = z }) h.0) (scan-last all ok o m h.1)
scan-last all ok o (Stretch a x ∷ m) h = scan-last all ok o m h.1
scan-last all ok o (Settle s c ∷ m) h = scan-last all ok o m h.1
scan-last all ok o (Floor z ∷ m) h = scan-last all ok o m h.1

end-joined : (all : List Mark) (o : ObjectId) (p r : Option Version) → HasEnd all o p → HasEnd all o r → HasEnd all o (joined p r)
end-joined all o None r h k = k
end-joined all o (Some v) None h k = h
end-joined all o (Some v) (Some w) h k = either (lt v.start w.start)
  where
    either : (b : Bool) → HasEnd all o (if b then Some w else Some v)
    either true = k
    either false = h

end-if : (all : List Mark) (o : ObjectId) (b : Bool) (v : Version) → HasEnd all o (Some v) → HasEnd all o (if b then Some v else None)
end-if all o true v h = h
end-if all o false v h = tt

end-versions : (all : List Mark) (o : ObjectId) (ok : TimeParts → Bool) (b : Bool) (v : Version) (vs : List Version) → HasEnd all o (Some v) → HasEnd all o (last_of ok vs) → HasEnd all o (last_of ok (if b then v ∷ vs else vs))
unfolding last_of
end-versions all o ok true v vs h k = end-joined all o (if ok v.start then Some v else None) (last_of ok vs) (end-if all o (ok v.start) v h) k
end-versions all o ok false v vs h k = k

pub end-last : (all : List Mark) (ok : TimeParts → Bool) (o : ObjectId) (m : List Mark) → HasEnd all o (last_of ok (versions_in all o m))
unfolding versions_in last_of
end-last all ok o [] = tt
end-last all ok o (Put a x v ∷ m) =
    end-versions all o ok (same_object a o) (record { place = version_count o m; mark = length m; start = x; end = stretched all o (Some (version_count o m)) }) (versions_in all o m) refl (end-last all ok o m)
end-last all ok o (Stretch a x ∷ m) = end-last all ok o m
end-last all ok o (Settle s c ∷ m) = end-last all ok o m
end-last all ok o (Floor z ∷ m) = end-last all ok o m

-- the order of joining doesn't matter
joined_three : (u v : Version) (r : Option Version) → joined (joined (Some u) (Some v)) r ≡ joined (Some u) (joined (Some v) r)
joined_three u v None = once (lt u.start v.start)
  where
    once : (b : Bool) → joined (if b then Some v else Some u) None ≡ (if b then Some v else Some u)
    once true = refl
    once false = refl
joined_three u v (Some w) = cases (lt u.start v.start) (lt v.start w.start) (lt u.start w.start) refl refl refl
  where
    cases : (a b c : Bool) → lt u.start v.start ≡ a → lt v.start w.start ≡ b → lt u.start w.start ≡ c → joined (if a then Some v else Some u) (Some w) ≡ joined (Some u) (if b then Some w else Some v)
    cases true true c p q r = ap (λ z. if z then Some w else Some v) q ∙ sym (ap (λ z. if z then Some w else Some u) (lt-trans u.start v.start w.start p q))
    cases true false c p q r = ap (λ z. if z then Some w else Some v) q ∙ sym (ap (λ z. if z then Some v else Some u) p)
    cases false true c p q r = refl
    cases false false true p q r = absurd (true≢false (sym (lt-split u.start v.start w.start r q) ∙ p))
    cases false false false p q r = ap (λ z. if z then Some w else Some u) r ∙ sym (ap (λ z. if z then Some v else Some u) p)

pub joined-assoc : (p q r : Option Version) → joined (joined p q) r ≡ joined p (joined q r)
joined-assoc None q r = refl
joined-assoc (Some u) None r = refl
joined-assoc (Some u) (Some v) r = joined_three u v r

-- ---- the last version, looked for from the newest on

pub reverse-push : (vs : List Version) (v : Version) → reverse (push vs v) ≡ v ∷ reverse vs
reverse-push vs v = reverse-append vs (v ∷ [])

joined-none : (last : Option Version) → joined last None ≡ last
joined-none None = refl
joined-none (Some u) = refl

-- what is left, where one more was looked at
looked : (takes passes : Bool) (last : Option Version) (v : Version) → takes_over last v.start ≡ takes → joined last (if passes then Some v else None) ≡ (if takes && passes then Some v else last)
looked true false last v h = joined-none last
looked false false last v h = joined-none last
looked takes true None v h = ap (λ b. if b && true then Some v else None) h
looked takes true (Some u) v h = ap (λ b. if b then Some v else Some u) h ∙ plain takes
  where
    plain : (b : Bool) → (if b then Some v else Some u) ≡ (if b && true then Some v else Some u)
    plain true = refl
    plain false = refl

pub last-step : (ok : TimeParts → Bool) (takes passes : Bool) (last : Option Version) (v : Version) (rest left : List Version) (all : Option Version) → rest ≡ push left v → takes_over last v.start ≡ takes → ok v.start ≡ passes →
    joined last (last_of ok (reverse rest)) ≡ all → joined (if takes && passes then Some v else last) (last_of ok (reverse left)) ≡ all
unfolding last_of
last-step ok takes passes last v rest left all is over at h =
    ap (λ z. joined z (last_of ok (reverse left))) (sym (looked takes passes last v over))
    ∙ joined-assoc last (if passes then Some v else None) (last_of ok (reverse left))
    ∙ ap (λ b. joined last (joined (if b then Some v else None) (last_of ok (reverse left)))) (sym at)
    ∙ ap (λ vs. joined last (last_of ok vs)) (sym (ap reverse is ∙ reverse-push left v)) ∙ h

empty : (vs : List Version) → length vs ≡ 0 → vs ≡ []
empty [] h = refl
empty (v ∷ vs) h = absurd (omega arith)

pub last-done : (ok : TimeParts → Bool) (last : Option Version) (rest : List Version) (all : Option Version) → length rest ≡ 0 → joined last (last_of ok (reverse rest)) ≡ all → last ≡ all
unfolding last_of
last-done ok last rest all none h = sym (joined-none last) ∙ ap (λ vs. joined last (last_of ok (reverse vs))) (sym (empty rest none)) ∙ h

-- ---- some version

pub some-step : (ok : Version → Bool) (v : Version) (rest left : List Version) (all : Bool) → rest ≡ push left v → ok v ≡ false → some_version ok (reverse rest) ≡ all → some_version ok (reverse left) ≡ all
unfolding some_version
some-step ok v rest left all is fails h = ap (λ b. b || some_version ok (reverse left)) (sym fails) ∙ ap (some_version ok) (sym (ap reverse is ∙ reverse-push left v)) ∙ h

pub some-found : (ok : Version → Bool) (v : Version) (rest left : List Version) (all : Bool) → rest ≡ push left v → ok v ≡ true → some_version ok (reverse rest) ≡ all → true ≡ all
unfolding some_version
some-found ok v rest left all is passes h = ap (λ b. b || some_version ok (reverse left)) (sym passes) ∙ ap (some_version ok) (sym (ap reverse is ∙ reverse-push left v)) ∙ h

pub some-done : (ok : Version → Bool) (rest : List Version) (all : Bool) → length rest ≡ 0 → some_version ok (reverse rest) ≡ all → false ≡ all
unfolding some_version
some-done ok rest all none h = ap (λ vs. some_version ok (reverse vs)) (sym (empty rest none)) ∙ h

some_if : (same passes : Bool) (ok : Version → Bool) (v : Version) (vs : List Version) (b : Bool) → ok v ≡ passes → some_version ok vs ≡ b → some_version ok (if same then v ∷ vs else vs) ≡ ((same && passes) || b)
unfolding some_version
some_if false passes ok v vs b is h = h
some_if true passes ok v vs b is h = ap (λ z. z || some_version ok vs) is ∙ ap (λ z. passes || z) h

pub some-versions : (all : List Mark) (ok : TimeParts → Bool) (o : ObjectId) (m : List Mark) → some_version (λ v. ok v.start) (versions_in all o m) ≡ some_put ok o m
unfolding some_put versions_in some_version
some-versions all ok o [] = refl
some-versions all ok o (Put a x v ∷ m) =
    some_if (same_object a o) (ok x) (λ v. ok v.start) (record { place = version_count o m; mark = length m; start = x; end = stretched all o (Some (version_count o m)) }) (versions_in all o m) (some_put ok o m) refl (some-versions all ok o m)
some-versions all ok o (Stretch a x ∷ m) = some-versions all ok o m
some-versions all ok o (Settle s c ∷ m) = some-versions all ok o m
some-versions all ok o (Floor z ∷ m) = some-versions all ok o m

abbrev pub is_written : List Mark → TimeParts → Value → Version → Bool
is_written all t w v = same_time v.start t && same_value (value_under all v.mark) w

pub has-versions : (all : List Mark) (o : ObjectId) (t : TimeParts) (w : Value) (m : List Mark) → Values all m → some_version (is_written all t w) (versions_in all o m) ≡ has_put o t w m
unfolding has_put versions_in some_version
has-versions all o t w [] h = refl
has-versions all o t w (Put a x v ∷ m) h =
    some_if (same_object a o) (same_time x t && same_value v w) (is_written all t w) (record { place = version_count o m; mark = length m; start = x; end = stretched all o (Some (version_count o m)) }) (versions_in all o m) (has_put o t w m)
    (ap (λ z. same_time x t && same_value z w) h.0) (has-versions all o t w m h.1)
has-versions all o t w (Stretch a x ∷ m) h = has-versions all o t w m h.1
has-versions all o t w (Settle s c ∷ m) h = has-versions all o t w m h.1
has-versions all o t w (Floor z ∷ m) h = has-versions all o t w m h.1

-- ---- the value of a mark

beyond : (xs : List Mark) (k : ℕ) (d : Mark) → length xs ≤ k → slice_index_or xs k d ≡ d
beyond xs k d le = sym (unwrap_or-slice_get xs k d) ∙ ap (λ z. unwrap_or z d) (slice_get_past xs k le)

apart : (k n : ℕ) → (k ≡ n → ⊥) → (k == n) ≡ false
apart k n h = not-false (k == n) (λ e. h (eq-from k n e))

under_put : (m : List Mark) (f d : Mark) (k : ℕ) → value_put d ≡ Nothing → value_under m k ≡ value_put (slice_index_or (reverse m) k d) → (less here : Bool) → nat_lt k (length m) ≡ less → (k == length m) ≡ here →
    (if here then value_put f else value_under m k) ≡ value_put (slice_index_or (reverse m ++ f ∷ []) k d)
under_put m f d k none h less true l e =
    let at : k ≡ length (reverse m) = eq-from k (length m) e ∙ sym (length-reverse m) in
    sym (ap value_put (ap (λ n. slice_index_or (reverse m ++ f ∷ []) n d) at ∙ get_or-append_seam (reverse m) f [] d))
under_put m f d k none h true false l e = h ∙ sym (ap value_put (get_or-append (reverse m) (f ∷ []) d k (subst (λ n. k < n) (sym (length-reverse m)) (below k (length m) l))))
  where
    below : (k n : ℕ) → nat_lt k n ≡ true → k < n
    below k n h = grind (arith, common_steps)
under_put m f d k none h false false l e =
    let past : suc (length m) ≤ k = over k (length m) l e in
    h ∙ ap value_put (beyond (reverse m) k d (subst (λ n. n ≤ k) (sym (length-reverse m)) (omega arith)))
    ∙ sym (ap value_put (beyond (reverse m ++ f ∷ []) k d (subst (λ n. n ≤ k) (sym (ap length (sym (reverse-append (f ∷ []) m)) ∙ length-reverse (f ∷ m))) past)))
  where
    over : (k n : ℕ) → nat_lt k n ≡ false → (k == n) ≡ false → suc n ≤ k
    over k n h g = grind (arith, common_steps)

pub value-under : (d : Mark) → value_put d ≡ Nothing → (m : List Mark) (k : ℕ) → value_under m k ≡ value_put (slice_index_or (reverse m) k d)
value-under d none [] k = sym none
value-under d none (f ∷ m) k =
    under_put m f d k none (value-under d none m k) (nat_lt k (length m)) (k == length m) refl refl ∙ ap (λ xs. value_put (slice_index_or xs k d)) (sym (reverse-append (f ∷ []) m))

abbrev pub value_found : Option Mark → Value
value_found None = Nothing
value_found (Some f) = value_put f

abbrev no_put : Mark
no_put = Settle (record { clock = 0; broker = 0; home = 0 }) false

found_or : (r : Option Mark) → value_put (unwrap_or r no_put) ≡ value_found r
found_or None = refl
found_or (Some f) = refl

pub value-at : (items m : List Mark) (k : ℕ) (r : Option Mark) → reverse items ≡ m → ((d : Mark) → unwrap_or r d ≡ slice_index_or items k d) → value_found r ≡ value_under m k
value-at items m k r view h =
    sym (found_or r) ∙ ap value_put (h no_put ∙ ap (λ xs. slice_index_or xs k no_put) (sym (reverse-reverse items))) ∙ ap (λ z. value_put (slice_index_or (reverse z) k no_put)) view
    ∙ sym (value-under no_put refl m k)

-- ---- as the code goes

module _ (m : List Mark) (settled : Settled) (tracks : Tracked) (kept : IsKept m settled tracks) where
  living-is : (end : Option TimeParts) → is_living settled end ≡ (λ x. is_below end x && alive m x)
  living-is end = λ i x. is_below end x && is_alive (kept.keeps.settles x.stamp i)

  versions-are : (o : ObjectId) (r : Option TrackParts) → r ≡ finite.get tracks o → (unwrap_or r empty_track).versions ≡ versions_in m o m
  versions-are o r is = ap (λ z. (unwrap_or z empty_track).versions) is ∙ ap (λ t. t.versions) (kept.keeps.objects o)

  pub origin-is : (o : ObjectId) (r : Option TrackParts) → r ≡ finite.get tracks o → (unwrap_or r empty_track).origin ≡ stretched m o None
  origin-is o r is = ap (λ z. (unwrap_or z empty_track).origin) is ∙ ap (λ t. t.origin) (kept.keeps.objects o)

  pub seen-is : (o : ObjectId) (end : Option TimeParts) (r : Option TrackParts) (found : Option Version) → r ≡ finite.get tracks o → found ≡ last_of (is_living settled end) (unwrap_or r empty_track).versions →
      option_map (seen_in m) found ≡ scan (λ x. is_below end x && alive m x) o m
  seen-is o end r found is at =
      ap (option_map (seen_in m)) (at ∙ ap (last_of (is_living settled end)) (versions-are o r is) ∙ ap (λ ok. last_of ok (versions_in m o m)) (living-is end))
      ∙ scan-last m (λ x. is_below end x && alive m x) o m (values-all m)

  pub end-is : (o : ObjectId) (end : Option TimeParts) (r : Option TrackParts) (found : Option Version) → r ≡ finite.get tracks o → found ≡ last_of (is_living settled end) (unwrap_or r empty_track).versions → HasEnd m o found
  end-is o end r found is at =
      subst (HasEnd m o) (sym (at ∙ ap (last_of (is_living settled end)) (versions-are o r is))) (end-last m (is_living settled end) o m)

  over-past : (found : Option Version) (y : TimeParts) → is_past (option_map (λ v. v.start) found) y ≡ is_over (option_map (seen_in m) found) y
  over-past None y = refl
  over-past (Some v) y = refl

  firm-is : (found : Option Version) → ◌≡◌ {A = TimeParts → Bool} (λ y. is_firm settled (option_map (λ v. v.start) found) y) (λ y. is_committed (settle_of m y.stamp) && is_over (option_map (seen_in m) found) y)
  firm-is found = λ i y. is_committed (kept.keeps.settles y.stamp i) && over-past found y i

  pub over-is : (o : ObjectId) (r : Option TrackParts) (found : Option Version) → r ≡ finite.get tracks o →
      some_version (λ v. is_firm settled (option_map (λ v. v.start) found) v.start) (unwrap_or r empty_track).versions ≡ settled_over m o (option_map (seen_in m) found)
  over-is o r found is =
      ap (some_version (λ v. is_firm settled (option_map (λ v. v.start) found) v.start)) (versions-are o r is)
      ∙ ap (λ ok. some_version (λ v. ok v.start) (versions_in m o m)) (firm-is found)
      ∙ some-versions m (λ y. is_committed (settle_of m y.stamp) && is_over (option_map (seen_in m) found) y) o m

  pub put-is : (o : ObjectId) (t : TimeParts) (w : Value) (r : Option TrackParts) → r ≡ finite.get tracks o → some_version (is_written m t w) (unwrap_or r empty_track).versions ≡ has_put o t w m
  put-is o t w r is = ap (some_version (is_written m t w)) (versions-are o r is) ∙ has-versions m o t w m (values-all m)

-- the same, seen from the histories whose marks these are
pub seen-by : (items m : List Mark) (settled : Settled) (tracks : Tracked) (o : ObjectId) (end : Option TimeParts) (t : TrackParts) (found : Option Version) → IsKept (reverse items) settled tracks → reverse items ≡ m → Some t ≡ finite.get tracks o →
    found ≡ last_of (is_living settled end) t.versions → option_map (seen_in m) found ≡ scan (λ x. is_below end x && alive m x) o m
seen-by items m settled tracks o end t found kept view is at = seen-is m settled tracks (subst (λ z. IsKept z settled tracks) view kept) o end (Some t) found is at

pub seen-none : (items m : List Mark) (settled : Settled) (tracks : Tracked) (o : ObjectId) (end : Option TimeParts) (found : Option Version) → IsKept (reverse items) settled tracks → reverse items ≡ m → found ≡ None → None ≡ finite.get tracks o →
    option_map (seen_in m) found ≡ scan (λ x. is_below end x && alive m x) o m
unfolding last_of
seen-none items m settled tracks o end found kept view none is = seen-is m settled tracks (subst (λ z. IsKept z settled tracks) view kept) o end None found is none

pub end-by : (items m : List Mark) (settled : Settled) (tracks : Tracked) (o : ObjectId) (end : Option TimeParts) (t : TrackParts) (found : Option Version) → IsKept (reverse items) settled tracks → reverse items ≡ m → Some t ≡ finite.get tracks o →
    found ≡ last_of (is_living settled end) t.versions → HasEnd m o found
end-by items m settled tracks o end t found kept view is at = end-is m settled tracks (subst (λ z. IsKept z settled tracks) view kept) o end (Some t) found is at

pub over-by : (items m : List Mark) (settled : Settled) (tracks : Tracked) (o : ObjectId) (r : Option TrackParts) (found : Option Version) (start : Option TimeParts) → IsKept (reverse items) settled tracks → reverse items ≡ m → r ≡ finite.get tracks o →
    start ≡ option_map (λ v. v.start) found → some_version (λ v. is_firm settled start v.start) (unwrap_or r empty_track).versions ≡ settled_over m o (option_map (seen_in m) found)
over-by items m settled tracks o r found start kept view is at =
    ap (λ z. some_version (λ v. is_firm settled z v.start) (unwrap_or r empty_track).versions) at ∙ over-is m settled tracks (subst (λ z. IsKept z settled tracks) view kept) o r found is

pub over-some : (items m : List Mark) (settled : Settled) (tracks : Tracked) (o : ObjectId) (t : TrackParts) (found : Option Version) (start : Option TimeParts) → IsKept (reverse items) settled tracks → reverse items ≡ m → Some t ≡ finite.get tracks o →
    start ≡ option_map (λ v. v.start) found → some_version (λ v. is_firm settled start v.start) t.versions ≡ settled_over m o (option_map (seen_in m) found)
over-some items m settled tracks o t found start kept view is at = over-by items m settled tracks o (Some t) found start kept view is at

pub over-none : (items m : List Mark) (settled : Settled) (tracks : Tracked) (o : ObjectId) (found : Option Version) → IsKept (reverse items) settled tracks → reverse items ≡ m → None ≡ finite.get tracks o → false ≡ settled_over m o (option_map (seen_in m) found)
unfolding some_version
over-none items m settled tracks o found kept view is = over-by items m settled tracks o None found (option_map (λ v. v.start) found) kept view is refl

pub put-by : (items m : List Mark) (settled : Settled) (tracks : Tracked) (o : ObjectId) (t : TimeParts) (w : Value) (r : Option TrackParts) → IsKept (reverse items) settled tracks → reverse items ≡ m → r ≡ finite.get tracks o →
    some_version (is_written m t w) (unwrap_or r empty_track).versions ≡ has_put o t w m
put-by items m settled tracks o t w r kept view is = put-is m settled tracks (subst (λ z. IsKept z settled tracks) view kept) o t w r is

pub put-some : (items m : List Mark) (settled : Settled) (tracks : Tracked) (o : ObjectId) (t : TimeParts) (w : Value) (r : TrackParts) → IsKept (reverse items) settled tracks → reverse items ≡ m → Some r ≡ finite.get tracks o →
    some_version (is_written m t w) r.versions ≡ has_put o t w m
put-some items m settled tracks o t w r kept view is = put-by items m settled tracks o t w (Some r) kept view is

pub put-none : (items m : List Mark) (settled : Settled) (tracks : Tracked) (o : ObjectId) (t : TimeParts) (w : Value) → IsKept (reverse items) settled tracks → reverse items ≡ m → None ≡ finite.get tracks o → false ≡ has_put o t w m
unfolding some_version
put-none items m settled tracks o t w kept view is = put-by items m settled tracks o t w None kept view is

-- ---- values in range

seen-in_range : (o : ObjectId) (m : List Mark) (r : Option Seen) → AreMarks m → Standing o m r → IsValue (value_of r)
seen-in_range o m None all s = tt
seen-in_range o m (Some q) all s = (every-has IsMark m (Put o q.start q.value) all (stands-has o m q s)).1

pub value-in_range : (m : List Mark) (ok : TimeParts → Bool) (o : ObjectId) (v : Value) → AreMarks m → v ≡ value_of (scan ok o m) → IsValue v
value-in_range m ok o v all is = subst IsValue (sym is) (seen-in_range o m (scan ok o m) all (standing ok o m))
