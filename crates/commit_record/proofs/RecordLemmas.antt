-- A map of records by the entries of its two ordered maps.
use Rattle.std.proofs.Common.{◌≡◌, ◌≢◌, ℕ, Bool, true, false, List, [], ◌∷◌, cond, refl, sym, ap, ◌∙◌}
use Rattle.std.specs.Prelude.{Option, Some, None, Result, Ok, Err, OnOk, OnErr}
use Rattle.std.specs.BTreeMap.{is_at}
use Rattle.std.specs.Map.{lookup}
use Rattle.std.specs.FinMap.{find, get, insert, from_entries, get-from_entries, get-insert, same_map}
use Rattle.std.proofs.lemmas.Cmp.{eq_by_cmp_equiv}
use Rattle.pseudo_time.specs.StampParts.{StampParts, stamp_cmp}
use Rattle.pseudo_time.proofs.OrderLemmas.{stamp_cmp-total, stamp_cmp-exact, is_equal}
use Rattle.commit_record.specs.declared.states.RecordState.{RecordState}
use Rattle.commit_record.specs.States.{States, deadline_of, AreDeadlines}

-- what an ordered map with these entries has
abbrev pub found_at : {X : Type 0} → List (StampParts × X) → StampParts → Option X
found_at entries q = lookup (is_at (stamp_cmp q)) entries

pub same_stamp : (k q : StampParts) → is_at (stamp_cmp k) q ≡ true → k ≡ q
same_stamp k q is = stamp_cmp-exact k q (is_equal (stamp_cmp k q) is)

find-found_at : (es : List (StampParts × RecordState)) (q : StampParts) → find stamp_cmp q es ≡ found_at es q
find-found_at [] q = refl
find-found_at (e ∷ es) q = ap (cond (is_at (stamp_cmp q) e.0) (Some e.1)) (find-found_at es q)

pub get-entries_of : (es : List (StampParts × RecordState)) (q : StampParts) → get (from_entries {R = stamp_cmp} es) q ≡ found_at es q
get-entries_of es q = get-from_entries stamp_cmp-total es q ∙ find-found_at es q

-- ---- one entry more, or one fewer

-- the entries after are those before, but for this stamp
abbrev pub Puts : {X : Type 0} → StampParts → Option X → List (StampParts × X) → List (StampParts × X) → Type 0
Puts k w before after = (q : StampParts) → found_at after q ≡ cond (is_at (stamp_cmp k) q) w (found_at before q)

pub insert-entries_of : (es fs : List (StampParts × RecordState)) (k : StampParts) (r : RecordState) → Puts k (Some r) es fs → from_entries {R = stamp_cmp} fs ≡ insert (from_entries es) k r
insert-entries_of es fs k r h = same_map stamp_cmp-total stamp_cmp-exact _ _ (λ q.
    get-entries_of fs q ∙ h q ∙ ap (λ b. cond b (Some r) (found_at es q)) ((eq_by_cmp_equiv stamp_cmp-total).symm k q)
    ∙ sym (get-insert stamp_cmp-total (from_entries es) k r q ∙ ap (cond (is_at (stamp_cmp q) k) (Some r)) (get-entries_of es q)))

deadline_of-cond : (b : Bool) (d : Option ℕ) (r s : Option RecordState) → d ≡ deadline_of r → cond b d (deadline_of s) ≡ deadline_of (cond b r s)
deadline_of-cond true d r s is = is
deadline_of-cond false d r s is = refl

-- both maps change at one stamp
pub puts_both : (ds ds' : List (StampParts × ℕ)) (ss ss' : List (StampParts × RecordState)) (k : StampParts) (d : Option ℕ) (r : Option RecordState) → AreDeadlines ds ss → Puts k d ds ds' → Puts k r ss ss' → d ≡ deadline_of r → AreDeadlines ds' ss'
puts_both ds ds' ss ss' k d r are puts_d puts_s is = record {
  by = λ q. puts_d q ∙ ap (cond (is_at (stamp_cmp k) q) d) (are.by q) ∙ deadline_of-cond (is_at (stamp_cmp k) q) d r (found_at ss q) is ∙ ap deadline_of (sym (puts_s q));
}

-- a deadline that was put and taken away again
taken_back : (b : Bool) (d e : Option ℕ) → cond b None (cond b d e) ≡ cond b None e
taken_back true d e = refl
taken_back false d e = refl

none_there : (k q : StampParts) (b : Bool) (ss : List (StampParts × RecordState)) → is_at (stamp_cmp k) q ≡ b → found_at ss k ≡ None → cond b None (deadline_of (found_at ss q)) ≡ deadline_of (found_at ss q)
none_there k q true ss at none = ap deadline_of (sym (ap (found_at ss) (sym (same_stamp k q at)) ∙ none))
none_there k q false ss at none = refl

pub puts_back : (ds ds' ds'' : List (StampParts × ℕ)) (ss ss' : List (StampParts × RecordState)) (k : StampParts) (d : Option ℕ) → AreDeadlines ds ss → Puts k d ds ds' → Puts k None ds' ds'' → ss' ≡ ss → found_at ss k ≡ None → AreDeadlines ds'' ss'
puts_back ds ds' ds'' ss ss' k d are puts takes same none = record {
  by = λ q.
      let b = is_at (stamp_cmp k) q in
      takes q ∙ ap (cond b None) (puts q) ∙ taken_back b d (found_at ds q) ∙ ap (cond b None) (are.by q)
      ∙ none_there k q b ss refl none ∙ ap (λ z. deadline_of (found_at z q)) (sym same);
}

-- a record that is there can be put without memory
pub put_there : {T E P : Type 0} (r : Result T E) (m : States) (es : List (StampParts × RecordState)) (k : StampParts) → OnOk r P → OnErr r (found_at es k ≡ None) → from_entries {R = stamp_cmp} es ≡ m → deadline_of (get m k) ≢ None → P
put_there (Ok x) m es k ok full view there = ok
put_there (Err e) m es k ok full view there = absurd (there (ap deadline_of (ap (λ z. get z k) (sym view) ∙ get-entries_of es k ∙ full)))
