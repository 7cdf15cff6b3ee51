-- A prefix of the puts of a watch leaves each object's old total, or the new one.
use Rattle.std.proofs.Common.{◌≡◌, ◌⊎◌, inl, inr, ℕ, zero, suc, Bool, true, false, List, [], ◌∷◌, ◌++◌, map, filter, take, refl, sym, ◌∙◌, ap, subst, Option, Some, None, if◌then◌else◌}
use Rattle.std.specs.Prelude.{ℤ, pos, Ok}
use Rattle.std.specs.Ordering.{is_eq, is_lt}
use Rattle.std.specs.declared.cmp.Ordering.{Ordering}
use Rattle.std.specs.declared.cmp.Ordering.TheVariants.{Less, Equal, Greater}
use Rattle.std.proofs.lemmas.Bool.{false≢true}
use Rattle.pseudo_time.specs.Lists.{Has}
use Rattle.pseudo_time.proofs.ListLemmas.{every-has}
use Rattle.value_form.specs.declared.objects.ObjectId.{ObjectId}
use Rattle.value_form.specs.Objects.{object_cmp}
use Rattle.effect_form.specs.declared.effects.Effect.{Effect}
use Rattle.object_history.specs.declared.marks.Mark.{Mark}
use Rattle.object_history.specs.Objects.{same_object}
use Rattle.object_history.proofs.ObjectLemmas.{same_object-is, same_object-of}
use Rattle.commit_watch.specs.declared.moved.Moved.{Moved}
use Rattle.commit_watch.specs.Folds.{advanced}
use Rattle.commit_watch.specs.Lists.{AreRising, cursor_of, moved_at, object_lt, or_before}
use Rattle.archive_law.proofs.Growths.{filter-has}
use Rattle.archive_law.specs.Totals.{archive_then, calls_of, totals_of}
use Rattle.archive_law.specs.Totals.Event.{Watching}
use Rattle.archive_law.proofs.TotalLemmas.{some-counted, whole-counted}
use Rattle.snapshot_command.specs.Archives.{if_of, last_total, newest_first, total_put}
use Rattle.command_words.specs.declared.rules.Rule.{Rule}
use Rattle.snapshot_command.specs.Totals.{AreTotals, new_puts, next_of, outcome_of, total_effect, went_on}
use Rattle.snapshot_command.specs.Watches.{IsReady}
use Rattle.archive_promise.specs.Watched.{CountsOn}
use Rattle.archive_promise.proofs.AnsweredLemmas.{archive-left}

-- ---- the last total of a log

before-none : (r : Option (Moved ℤ)) → r ≡ or_before r None
before-none None = refl
before-none (Some t) = refl

before-both : (y x t : Option (Moved ℤ)) → or_before (or_before y x) t ≡ or_before y (or_before x t)
before-both None x t = refl
before-both (Some z) x t = refl

last-append : (xs ys : List Effect) (o : ObjectId) → last_total (xs ++ ys) o ≡ or_before (last_total ys o) (last_total xs o)
unfolding last_total
last-append [] ys o = before-none (last_total ys o)
last-append (f ∷ xs) ys o = ap (λ r. or_before r (if_of o (total_put f))) (last-append xs ys o) ∙ before-both (last_total ys o) (last_total xs o) (if_of o (total_put f))

-- what a prefix of such puts has of an object is one of them
last-in : (k : ℕ) (ws : List (Moved ℤ)) (o : ObjectId) (t : Moved ℤ) → last_total (take k (map total_effect ws)) o ≡ Some t → Has t ws × (t.object ≡ o)
unfolding last_total
last-in zero [] o t e = absurd (cc e)
last-in zero (w ∷ ws) o t e = absurd (cc e)
last-in (suc k) [] o t e = absurd (cc e)
last-in (suc k) (w ∷ ws) o t e = go (last_total (take k (map total_effect ws)) o) refl (same_object w.object o) refl (λ h. last-in k ws o t h) e
  where
    go : (r : Option (Moved ℤ)) → last_total (take k (map total_effect ws)) o ≡ r → (b : Bool) → same_object w.object o ≡ b → (last_total (take k (map total_effect ws)) o ≡ Some t → Has t ws × (t.object ≡ o)) →
        or_before r (if b then Some w else None) ≡ Some t → Has t (w ∷ ws) × (t.object ≡ o)
    go (Some z) is b same rest h = let k = rest (is ∙ h) in (inr k.0, k.1)
    go None is true same rest h = let one : w ≡ t = cc h in (inl one, ap (λ (z : Moved ℤ). z.object) (sym one) ∙ same_object-is w.object o same)
    go None is false same rest h = absurd (cc h)

-- ---- rising lists

lesser-other : (a b : ObjectId) → object_lt a b ≡ true → same_object a b ≡ false
unfolding same_object
lesser-other a b h = go (object_cmp a b) h
  where
    go : (c : Ordering) → is_lt c ≡ true → is_eq c ≡ false
    go Less k = refl
    go Equal k = absurd (false≢true k)
    go Greater k = refl

rising-found : (ws : List (Moved ℤ)) (t : Moved ℤ) → AreRising ws → Has t ws → moved_at t.object ws ≡ Some t
unfolding moved_at
rising-found [] t a h = absurd h
rising-found (w ∷ ws) t a (inl e) = ap (λ b. if b then Some w else moved_at t.object ws) (same_object-of w.object t.object (ap (λ (z : Moved ℤ). z.object) e)) ∙ ap Some e
rising-found (w ∷ ws) t a (inr h) =
    ap (λ b. if b then Some w else moved_at t.object ws) (lesser-other w.object t.object (every-has (λ (v : Moved ℤ). object_lt w.object v.object ≡ true) ws t a.0 h)) ∙ rising-found ws t a.1 h

-- ---- old or new

old-or-new : (rule : Rule) (m : List Mark) (log : List Effect) (list : List (Moved ℤ)) → AreTotals rule m log list → (k : ℕ) (o : ObjectId) →
    (last_total (log ++ take k (new_puts log list)) o ≡ last_total log o) ⊎ (outcome_of rule m log o ≡ Ok (last_total (log ++ take k (new_puts log list)) o))
old-or-new rule m log list totals k o = by (last_total front o) refl
  where
    moved : List (Moved ℤ)
    moved = filter (λ (t : Moved ℤ). went_on (cursor_of (last_total log t.object)) t) list

    front : List Effect
    front = take k (new_puts log list)

    by : (r : Option (Moved ℤ)) → last_total front o ≡ r → (last_total (log ++ front) o ≡ last_total log o) ⊎ (outcome_of rule m log o ≡ Ok (last_total (log ++ front) o))
    by None e = inl (last-append log front o ∙ ap (λ z. or_before z (last_total log o)) e)
    by (Some t) e =
        let one = last-in k moved o t e in
        let found : moved_at o list ≡ Some t = subst (λ z. moved_at z list ≡ Some t) one.1 (rising-found list t totals.rising (filter-has _ list t one.0)) in
        inr (totals.each o ∙ ap Ok (found ∙ sym (last-append log front o ∙ ap (λ z. or_before z (last_total log o)) e)))

-- ---- a watch

pub counts-on : (rule : Rule) (r : ℕ) (logs : List (List Effect)) (log puts : List Effect) (text : List ℕ) → IsReady r rule (newest_first logs) log puts text → CountsOn rule r logs log puts text
counts-on rule r logs log puts text ready es left = (
  record {
    list = ready.list;
    is_text = ready.is_text;
    rising = ready.totals.rising;
    settled = λ o. whole-counted (pos 0) (next_of rule) r es left.volumes.past left.watches o (moved_at o ready.list) (advances o (moved_at o ready.list) (ready.totals.each o));
    counted = λ o w e. some-counted (pos 0) (next_of rule) r (Watching (λ z. moved_at z ready.list) ∷ es) left.volumes.past (left.watches, λ z. inr (advances z (moved_at z ready.list) (ready.totals.each z))) o w e;
  },
  λ k. record { volumes = left.volumes; watches = (left.watches, λ o. watched k o); totals = λ o. refl },
)
  where
    same : newest_first logs ≡ archive_then r es
    same = archive-left (calls_of es) r logs left.volumes

    advances : (o : ObjectId) (u : Option (Moved ℤ)) → outcome_of rule (newest_first logs) log o ≡ Ok u → advanced (pos 0) (next_of rule) o (archive_then r es) None (totals_of es o) ≡ Ok u
    advances o u h = subst (λ z. advanced (pos 0) (next_of rule) o (archive_then r es) None z ≡ Ok u) (left.totals o) (subst (λ m. advanced (pos 0) (next_of rule) o m None (last_total log o) ≡ Ok u) same h)

    watched : (k : ℕ) (o : ObjectId) → (last_total (log ++ take k puts) o ≡ totals_of es o) ⊎ (advanced (pos 0) (next_of rule) o (archive_then r es) None (totals_of es o) ≡ Ok (last_total (log ++ take k puts) o))
    watched k o =
        subst (λ ps. (last_total (log ++ take k ps) o ≡ totals_of es o) ⊎ (advanced (pos 0) (next_of rule) o (archive_then r es) None (totals_of es o) ≡ Ok (last_total (log ++ take k ps) o))) (sym ready.puts_are)
        (elim (old-or-new rule (newest_first logs) log ready.list ready.totals k o) [
          | inl e ↦ inl (e ∙ left.totals o)
          | inr e ↦ inr (advances o (last_total (log ++ take k (new_puts log ready.list)) o) e)
        ])
