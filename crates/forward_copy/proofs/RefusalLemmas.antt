-- What the code finds, in the words of the promise: the first undecided version, or that the log may be retired.
use Rattle.forward_copy.proofs.Names.{◌≡◌, ◌≢◌, true, List, reverse, length, sym, ◌∙◌, ap, subst, Some, None, not, TimeParts, lt, ObjectId, Effect, settle_of, Settled, MayRetire, marks, known, Version, FirmMap, AreFirm, stays_above, first_open, AreKnown, stays, sifted}
use Rattle.std.specs.FinMap as finite
use Rattle.object_history.proofs.StableLemmas.{starts-map}
use Rattle.forward_copy.specs.declared.faults.ForwardFault.TheVariants.{Undecided}
use Rattle.forward_copy.specs.Refusals.{IsFirstUndecided, IsNewMark}
use Rattle.forward_copy.proofs.FirmLemmas.{kept-same, dropped-same}
use Rattle.forward_copy.proofs.OpenLemmas.{found, none-open}

-- it is the first undecided one
first-is : (l : List Effect) (at : TimeParts) (settled : Settled) (v : Version) → AreKnown l settled → IsNewMark l at → first_open (λ s. finite.get settled s) at l ≡ Some v →
    IsFirstUndecided l at v.object v.start
first-is l at settled v known new is =
    let f = found (λ s. finite.get settled s) at l v is in
    record {
      above = new;
      undecided = record { value = f.stands.value; stands = f.stands.has; unknown = sym (known v.start.stamp) ∙ f.stands.unknown; below = f.stands.below };
      first = λ a y u. f.leads (record { object = a; start = y }) (record { value = u.value; has = u.stands; unknown = known y.stamp ∙ u.unknown; below = u.below });
    }

pub first-told : (l : List Effect) (at : TimeParts) (settled : Settled) (v : Version) (o : ObjectId) (x : TimeParts) → AreKnown l settled → IsNewMark l at →
    first_open (λ s. finite.get settled s) at l ≡ Some v → Undecided v.object v.start ≡ Undecided o x → IsFirstUndecided l at o x
first-told l at settled v o x known new is told =
    subst (λ z. IsFirstUndecided l at z x) (objects told) (subst (λ z. IsFirstUndecided l at v.object z) (starts told) (first-is l at settled v known new is))
  where
    objects : {a b : ObjectId} {y z : TimeParts} → Undecided a y ≡ Undecided b z → a ≡ b
    objects e = cc e

    starts : {a b : ObjectId} {y z : TimeParts} → Undecided a y ≡ Undecided b z → y ≡ z
    starts e = cc e

-- the log may be retired
pub may-retire : (l : List Effect) (at : TimeParts) (settled : Settled) → AreKnown l settled → at.step ≡ 1 → IsNewMark l at → first_open (λ s. finite.get settled s) at l ≡ None → MayRetire l at
may-retire l at settled known first new is = record {
  first = first;
  history = record {
    floor = new;
    decided = λ o. starts-map (λ x. lt x at ≡ true → finite.get settled x.stamp ≢ None) (λ x. lt x at ≡ true → settle_of (marks l) x.stamp ≢ None) o (marks l)
        (λ x h low e. h low (known x.stamp ∙ e)) (none-open (λ s. finite.get settled s) at o l is);
  };
}

-- ---- what was sifted

pub kept-is : (l : List Effect) (at : TimeParts) (settled : Settled) (firms : FirmMap) (kept : List Effect) → AreKnown l settled → AreFirm (λ s. finite.get settled s) at l firms →
    kept ≡ reverse (sifted (λ k f. stays_above firms at (length k) f) l) → kept ≡ reverse (sifted (stays l at) l)
kept-is l at settled firms kept known are is = is ∙ ap reverse (kept-same (λ s. finite.get settled s) at l firms known are)

pub dropped-is : (l : List Effect) (at : TimeParts) (settled : Settled) (firms : FirmMap) (dropped : List Effect) → AreKnown l settled → AreFirm (λ s. finite.get settled s) at l firms →
    dropped ≡ reverse (sifted (λ k f. not (stays_above firms at (length k) f)) l) → dropped ≡ reverse (sifted (λ k f. not (stays l at k f)) l)
dropped-is l at settled firms dropped known are is = is ∙ ap reverse (dropped-same (λ s. finite.get settled s) at l firms known are)
