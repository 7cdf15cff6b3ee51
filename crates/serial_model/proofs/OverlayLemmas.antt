-- What a map over another has.
use Rattle.serial_model.proofs.Names.{◌≡◌, List, [], ◌∷◌, Some, None, Bool, true, false, cond, refl, sym, ap, ◌∙◌, Option, unwrap_or, eq_by_cmp, find, get, entries, get-entries, get-insert, ObjectId, Value, object_cmp, Objects, value_at, object_cmp-total, onto, overlaid}
use Rattle.value_form.specs.declared.values.Value.TheVariants.{Nothing}

-- the first, or the second where that is none
abbrev pub or_below : Option Value → Option Value → Option Value
or_below None r = r
or_below (Some v) r = Some v

or_below-cond : (b : Bool) (v : Value) (x r : Option Value) → cond b (Some v) (or_below x r) ≡ or_below (cond b (Some v) x) r
or_below-cond true v x r = refl
or_below-cond false v x r = refl

get-onto : (m : Objects) (es : List (ObjectId × Value)) (q : ObjectId) → get (onto m es) q ≡ or_below (find object_cmp q es) (get m q)
get-onto m [] q = refl
get-onto m (e ∷ es) q =
    get-insert object_cmp-total (onto m es) e.0 e.1 q ∙ ap (cond (eq_by_cmp object_cmp q e.0) (Some e.1)) (get-onto m es q)
    ∙ or_below-cond (eq_by_cmp object_cmp q e.0) e.1 (find object_cmp q es) (get m q)

pub get-overlaid : (w m : Objects) (q : ObjectId) → get (overlaid w m) q ≡ or_below (get w q) (get m q)
get-overlaid w m q = get-onto m (entries w) q ∙ ap (λ z. or_below z (get m q)) (sym (get-entries w q))

pub found_below : (w m : Objects) (q : ObjectId) → get w q ≡ None → value_at (overlaid w m) q ≡ value_at m q
found_below w m q is = ap (λ z. unwrap_or z Nothing) (get-overlaid w m q ∙ ap (λ z. or_below z (get m q)) is)
