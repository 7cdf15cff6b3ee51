-- Versions that no attempt has are given, and all is told.
use Rattle.std.proofs.Common.{◌≡◌, ◌⊎◌, inl, inr, ◌≤◌, ◌<◌, ◌-◌, ℕ, zero, suc, length, get_or, arith, Bool, true, false, List, [], ◌∷◌, ◌++◌, reverse, refl, sym, ◌∙◌, ap, subst, Option, Some, None}
use Rattle.std.specs.Prelude.{cond, IsSome, ◌==◌}
use Rattle.std.proofs.lemmas.Bool.{eqb-true, false≢true, true≢false}
use Rattle.std.proofs.lemmas.List.{length-append, reverse-append}
use Rattle.std.specs.BTreeMap.{is_at}
use Rattle.std.specs.Map.{lookup}
use Rattle.std.specs.Ordering.{is_eq, is_gt, ordering_reverse}
use Rattle.std.specs.Global.{Vec}
use Rattle.pseudo_time.specs.Lists.{Has}
use Rattle.pseudo_time.specs.Nodes.{broker}
use Rattle.pseudo_time.specs.StampParts.{StampParts, stamp_cmp}
use Rattle.pseudo_time.proofs.OrderLemmas.{is_less, same_stamp-is, same_stamp-self, stamp_cmp-total}
unfoldable use Rattle.pseudo_time.specs.Order.{same_stamp, stamp_lt}
use Rattle.effect_form.specs.declared.effects.Effect.{Effect}
use Rattle.world_core.specs.Deeds.{RunLogs, Try, committed, find, written}
use Rattle.log_replay.specs.Folders.{HaveBrokers, items_of, log_at}
use Rattle.script_replay.specs.Attempts.{stamp_of, versions_of}
use Rattle.script_replay.specs.Replays.{HasScript}
use Rattle.script_replay.specs.declared.attempts.Put.{Put}
use Rattle.script_replay.specs.declared.attempts.Told.{Told}
use Rattle.script_replay.specs.declared.attempts.Told.TheVariants.{Given, Tried}
use Rattle.log_replay.specs.Puts.{versions_in}
use Rattle.log_replay.specs.Telling.{AreGiven, AreTold, IsTried}
use Rattle.log_replay.specs.Tells.{HasPut, IsTold}
use Rattle.log_replay.specs.Untold.{Gave, IsFirstUntried, IsUntried}
use Rattle.log_replay.proofs.WrittenLemmas.{find-none, none-has, put-written, written-put}

-- ---- all attempts are told

module _ (k : RunLogs) (ts : List Try) (told : StampParts → Option Told) (puts : StampParts → Option (Vec Put)) (before : AreTold k ts told puts)
    (to : (t : Try) → Has t ts → Has t k.tries) (back : (t : Try) → Has t k.tries → Has t ts) where
  is-told : (x : Told) → IsTried k ts x → IsTold k x
  is-told (Tried a) h = (h.0, to h.0 h.1, h.2)
  is-told (Given s ps) h = absurd h

  untold : (s : StampParts) (ps : Vec Put) → puts s ≡ Some ps → told s ≡ None
  untold s ps h = by (told s) refl
    where
      by : (o : Option Told) → told s ≡ o → told s ≡ None
      by None e = e
      by (Some x) e = absurd (let c : ◌≡◌ {A = Option (Vec Put)} (Some ps) None = sym h ∙ before.gone s x e in cc c)

  tried-at : (s : StampParts) (x : Told) → (stamp_of x ≡ s) × IsTried k ts x → find s k.tries ≡ None → ⊥
  tried-at s (Tried a) w n = none-has s k.tries w.1.0 n (to w.1.0 w.1.1) (sym w.1.2.stamp ∙ w.0)
  tried-at s (Given t ps) w n = w.1

  pub begin-given : AreGiven k told puts
  begin-given = record {
    each = λ s x h. let w = before.each s x h in (w.0, is-told x w.1);
    scripts = before.scripts;
    tried = λ t h. before.tried t (back t h);
    left = λ s ps h. let n = untold s ps h in (n, ap versions_in (sym h) ∙ before.left s n);
    done = λ s n e p. absurd (put-written k s p (sym (before.left s n) ∙ ap versions_in e));
    lost = λ s x h n. absurd (tried-at s x (before.each s x h) n);
  }

-- ---- one stamp more

at-stamp : {X : Type 0} (s t : StampParts) (v w : Option X) → is_eq (stamp_cmp s t) ≡ true → cond (is_eq (stamp_cmp s t)) v w ≡ v
at-stamp s t v w e = ap (λ (b : Bool). cond b v w) e

off-stamp : {X : Type 0} (s t : StampParts) (v w : Option X) → is_eq (stamp_cmp s t) ≡ false → cond (is_eq (stamp_cmp s t)) v w ≡ w
off-stamp s t v w e = ap (λ (b : Bool). cond b v w) e

is-stamp : (s t : StampParts) → is_eq (stamp_cmp s t) ≡ true → s ≡ t
unfolding same_stamp
is-stamp s t e = same_stamp-is s t e

is-self : (s : StampParts) → is_eq (stamp_cmp s s) ≡ true
unfolding same_stamp
is-self s = same_stamp-self s

-- the versions `own` of this stamp are no longer left
module _ (k : RunLogs) (told : StampParts → Option Told) (puts rest : StampParts → Option (Vec Put)) (before : AreGiven k told puts)
    (stamp : StampParts) (own : Vec Put) (has : puts stamp ≡ Some own)
    (rests : (s : StampParts) → rest s ≡ cond (is_eq (stamp_cmp stamp s)) None (puts s)) where
  was-left : (s : StampParts) (ps : Vec Put) → rest s ≡ Some ps → puts s ≡ Some ps
  was-left s ps h = by (is_eq (stamp_cmp stamp s)) refl
    where
      by : (b : Bool) → is_eq (stamp_cmp stamp s) ≡ b → puts s ≡ Some ps
      by true e = absurd (let c : ◌≡◌ {A = Option (Vec Put)} None (Some ps) = sym (at-stamp stamp s None (puts s) e) ∙ (sym (rests s) ∙ h) in cc c)
      by false e = sym (off-stamp stamp s None (puts s) e) ∙ (sym (rests s) ∙ h)

  not-here : (s : StampParts) (ps : Vec Put) → rest s ≡ Some ps → is_eq (stamp_cmp stamp s) ≡ false
  not-here s ps h = by (is_eq (stamp_cmp stamp s)) refl
    where
      by : (b : Bool) → is_eq (stamp_cmp stamp s) ≡ b → is_eq (stamp_cmp stamp s) ≡ false
      by true e = absurd (let c : ◌≡◌ {A = Option (Vec Put)} None (Some ps) = sym (at-stamp stamp s None (puts s) e) ∙ (sym (rests s) ∙ h) in cc c)
      by false e = e

  -- it was here, or none was left before
  none-left : (s : StampParts) → rest s ≡ None → (stamp ≡ s) ⊎ (puts s ≡ None)
  none-left s h = by (is_eq (stamp_cmp stamp s)) refl
    where
      by : (b : Bool) → is_eq (stamp_cmp stamp s) ≡ b → (stamp ≡ s) ⊎ (puts s ≡ None)
      by true e = inl (is-stamp stamp s e)
      by false e = inr (sym (off-stamp stamp s None (puts s) e) ∙ (sym (rests s) ∙ h))

  own-is : versions_of own.items ≡ written k stamp
  own-is = (before.left stamp own has).1

  was-untold : told stamp ≡ None
  was-untold = (before.left stamp own has).0

  no-versions : (xs : List Put) → versions_of xs ≡ [] → xs ≡ []
  no-versions [] e = refl
  no-versions (x ∷ xs) e = absurd (cc e)

  untried : find stamp k.tries ≡ None
  untried = find-none stamp k.tries (λ u h e.
      let w = before.tried u h in
      let q : ◌≡◌ {A = Option Told} None (Some (Tried w.0)) = sym was-untold ∙ (ap told (sym e) ∙ w.1) in cc q)

  some-put : (own.items ≡ [] → ⊥) → HasPut k stamp
  some-put some = written-put k stamp (λ e. some (no-versions own.items (own-is ∙ e)))

  -- its broker has a log
  pub not-given : (own.items ≡ [] → ⊥) → (k.logs (broker stamp.broker) ≡ [] → ⊥) → IsUntried k stamp
  not-given some there = record { put = some-put some; none = untried; there = there }

  -- it isn't told
  pub passed : (HasPut k stamp → (committed k stamp ≡ false) × (k.logs (broker stamp.broker) ≡ [])) → AreGiven k told rest
  passed h = record {
    each = before.each;
    scripts = before.scripts;
    tried = before.tried;
    left = λ s ps e. before.left s ps (was-left s ps e);
    done = λ s n e p. elim (none-left s e) [
      | inl q ↦ subst (λ z. (committed k z ≡ false) × (k.logs (broker z.broker) ≡ [])) q (h (subst (HasPut k) (sym q) p))
      | inr q ↦ before.done s n q p
    ];
    lost = before.lost;
  }

  pub passed-empty : own.items ≡ [] → AreGiven k told rest
  passed-empty e = passed (λ p. absurd (put-written k stamp p (sym own-is ∙ ap versions_of e)))

  pub passed-other : committed k stamp ≡ false → k.logs (broker stamp.broker) ≡ [] → AreGiven k told rest
  passed-other c e = passed (λ p. (c, e))

  -- it is told
  module _ (new : StampParts → Option Told) (ps : List Put) (same : ps ≡ own.items) (some : own.items ≡ [] → ⊥) (c : committed k stamp ≡ true) (none : k.logs (broker stamp.broker) ≡ [])
      (news : (s : StampParts) → new s ≡ cond (is_eq (stamp_cmp stamp s)) (Some (Given stamp ps)) (told s)) where
    abbrev gift : Told
    gift = Given stamp ps

    is-gift : IsTold k gift
    is-gift = record {
      decided = c;
      untried = untried;
      lost = none;
      some = some-put some;
      puts = ap versions_of same ∙ own-is;
    }

    new-here : (s : StampParts) → is_eq (stamp_cmp stamp s) ≡ true → new s ≡ Some gift
    new-here s e = news s ∙ at-stamp stamp s (Some gift) (told s) e

    new-there : (s : StampParts) → is_eq (stamp_cmp stamp s) ≡ false → new s ≡ told s
    new-there s e = news s ∙ off-stamp stamp s (Some gift) (told s) e

    one : (s : StampParts) (x : Told) → new s ≡ Some x → ((gift ≡ x) × (stamp ≡ s)) ⊎ (told s ≡ Some x)
    one s x h = by (is_eq (stamp_cmp stamp s)) refl
      where
        by : (b : Bool) → is_eq (stamp_cmp stamp s) ≡ b → ((gift ≡ x) × (stamp ≡ s)) ⊎ (told s ≡ Some x)
        by true e = let q : Some gift ≡ Some x = sym (new-here s e) ∙ h in let d : gift ≡ x = cc q in inl (d, is-stamp stamp s e)
        by false e = inr (sym (new-there s e) ∙ h)

    kept : (s : StampParts) (x : Told) → told s ≡ Some x → new s ≡ Some x
    kept s x h = by (is_eq (stamp_cmp stamp s)) refl
      where
        by : (b : Bool) → is_eq (stamp_cmp stamp s) ≡ b → new s ≡ Some x
        by true e = absurd (let q : ◌≡◌ {A = Option Told} None (Some x) = sym was-untold ∙ (ap told (is-stamp stamp s e) ∙ h) in cc q)
        by false e = new-there s e ∙ h

    none-new : (s : StampParts) → new s ≡ None → (is_eq (stamp_cmp stamp s) ≡ false) × (told s ≡ None)
    none-new s h = by (is_eq (stamp_cmp stamp s)) refl
      where
        by : (b : Bool) → is_eq (stamp_cmp stamp s) ≡ b → (is_eq (stamp_cmp stamp s) ≡ false) × (told s ≡ None)
        by true e = absurd (let q : ◌≡◌ {A = Option Told} (Some gift) None = sym (new-here s e) ∙ h in cc q)
        by false e = (e, sym (new-there s e) ∙ h)

    pub given-more : AreGiven k new rest
    given-more = record {
      each = λ s x h. elim (one s x h) [ inl w ↦ subst (λ (z : Told). (stamp_of z ≡ s) × IsTold k z) w.0 (w.1, is-gift) | inr j ↦ before.each s x j ];
      scripts = λ s x h. elim (one s x h) [ inl w ↦ subst HasScript w.0 tt | inr j ↦ before.scripts s x j ];
      tried = λ t h. let w = before.tried t h in (w.0, kept t.stamp (Tried w.0) w.1, w.2);
      left = λ s qs e. let w = before.left s qs (was-left s qs e) in (new-there s (not-here s qs e) ∙ w.0, w.1);
      done = λ s n e p. let w = none-new s n in elim (none-left s e) [
        | inl q ↦ absurd (true≢false (sym (ap (λ z. is_eq (stamp_cmp stamp z)) (sym q) ∙ is-self stamp) ∙ w.0))
        | inr q ↦ before.done s w.1 q p
      ];
      lost = λ s x h n. elim (one s x h) [ inl w ↦ subst (λ z. k.logs (broker z.broker) ≡ []) w.1 none | inr j ↦ before.lost s x j n ];
    }

-- ---- what the code asks

pub no-items : (xs ys : List Put) (b : Bool) → b ≡ (length xs == 0) → b ≡ true → xs ≡ ys → ys ≡ []
no-items [] ys b e t q = sym q
no-items (x ∷ xs) ys b e t q = let l : length (x ∷ xs) ≡ 0 = eqb-true (length (x ∷ xs)) 0 (sym e ∙ t) in absurd (omega (arith, l))

pub some-items : (xs ys : List Put) (b : Bool) → b ≡ (length xs == 0) → b ≡ false → xs ≡ ys → ys ≡ [] → ⊥
some-items [] ys b e t q n = false≢true (sym t ∙ e)
some-items (x ∷ xs) ys b e t q n = cc (q ∙ n)

-- the log in this place
pub log-here : (logs : List (Vec Effect)) (n : ℕ) (log : Vec Effect) → n < length logs → log ≡ get_or logs n log → log_at (items_of logs) (suc n) ≡ log.items
log-here [] n log l is = absurd (omega (arith, l))
log-here (x ∷ logs) zero log l is = ap (λ (z : Vec Effect). z.items) (sym is)
log-here (x ∷ logs) (suc n) log l is = log-here logs n log (omega (arith, l)) is

pub empty-log : (logs : List (Vec Effect)) (n place : ℕ) (log : Vec Effect) (items : List Effect) (b : Bool) → 1 ≤ n → n ≤ length logs → place ≡ n - 1 → log ≡ get_or logs place log → items ≡ log.items → b ≡ (length items == 0) → b ≡ true →
    log_at (items_of logs) n ≡ []
empty-log logs n place log items b low high p is same e t =
    let next : n ≡ suc place = omega (arith, low, p) in
    ap (log_at (items_of logs)) next ∙ (log-here logs place log (omega (arith, low, high, p)) is ∙ (sym same ∙ none items (sym e ∙ t)))
  where
    none : (xs : List Effect) → (length xs == 0) ≡ true → xs ≡ []
    none [] q = refl
    none (x ∷ xs) q = let l : length (x ∷ xs) ≡ 0 = eqb-true (length (x ∷ xs)) 0 q in absurd (omega (arith, l))

pub lost-log : (k : RunLogs) (logs : List (List Effect)) (n m : ℕ) → HaveBrokers k logs → m ≡ n → log_at logs m ≡ [] → k.logs (broker n) ≡ []
lost-log k logs n m h e q = h n ∙ ap reverse (ap (log_at logs) (sym e) ∙ q)

none-back : (xs : List Effect) → reverse xs ≡ [] → xs ≡ []
none-back [] e = refl
none-back (x ∷ xs) e =
    let long = length-append (reverse xs) (x ∷ []) in
    let none : length (reverse xs ++ x ∷ []) ≡ 0 = ap length (sym (reverse-append (x ∷ []) xs) ∙ e) in
    absurd (omega (arith, long, none))

pub there-log : (k : RunLogs) (logs : List (List Effect)) (n m : ℕ) → HaveBrokers k logs → m ≡ n → (log_at logs m ≡ [] → ⊥) → k.logs (broker n) ≡ [] → ⊥
there-log k logs n m h e q z = q (ap (log_at logs) e ∙ none-back (log_at logs n) (sym (h n) ∙ z))

pub some-log : (logs : List (Vec Effect)) (n place : ℕ) (log : Vec Effect) (items : List Effect) (b : Bool) → 1 ≤ n → n ≤ length logs → place ≡ n - 1 → log ≡ get_or logs place log → items ≡ log.items → b ≡ (length items == 0) → b ≡ false →
    log_at (items_of logs) n ≡ [] → ⊥
some-log logs n place log items b low high p is same e f z =
    let next : n ≡ suc place = omega (arith, low, p) in
    some items (sym e ∙ f) (same ∙ (sym (log-here logs place log (omega (arith, low, high, p)) is) ∙ (ap (log_at (items_of logs)) (sym next) ∙ z)))
  where
    some : (xs : List Effect) → (length xs == 0) ≡ false → xs ≡ [] → ⊥
    some [] q w = true≢false q
    some (x ∷ xs) q w = absurd (cc w)

-- ---- the least of those that are left

none-above : (k : RunLogs) (told : StampParts → Option Told) (puts : StampParts → Option (Vec Put)) → AreGiven k told puts → (t : StampParts) → puts t ≡ None → IsUntried k t → (o : Option Told) → told t ≡ o → ⊥
none-above k told puts g t none v None e = v.there (g.done t e none v.put).1
none-above k told puts g t none v (Some x) e = v.there (g.lost t x e v.none)

pub first-untried : (k : RunLogs) (told : StampParts → Option Told) (puts : StampParts → Option (Vec Put)) → AreGiven k told puts → (s : StampParts) → ((t : StampParts) → stamp_lt t s ≡ true → puts t ≡ None) → IsUntried k s → IsFirstUntried k s
first-untried k told puts g s below u = record { is = u; least = λ t low v. none-above k told puts g t (below t low) v (told t) refl }

greater : (s t : StampParts) → stamp_lt t s ≡ true → is_gt (stamp_cmp s t) ≡ true
unfolding stamp_lt
greater s t low = ap is_gt (stamp_cmp-total.antisymm s t ∙ ap ordering_reverse (is_less (stamp_cmp t s) low))

pub none-below : (get : StampParts → Option (Vec Put)) (s : StampParts) → ((q : StampParts) → IsSome (get q) → is_gt (stamp_cmp s q) ≡ false) → (t : StampParts) → stamp_lt t s ≡ true → get t ≡ None
none-below get s bound t low = by (get t) refl
  where
    by : (o : Option (Vec Put)) → get t ≡ o → get t ≡ None
    by None e = e
    by (Some x) e = absurd (true≢false (sym (greater s t low) ∙ bound t (subst IsSome (sym e) refl)))

-- what was given of a stamp
pub gave-none : (k : RunLogs) (stamp : StampParts) (told : StampParts → Option Told) (old new : StampParts → Option (Vec Put)) (untried : Bool) → untried ≡ false → Gave k stamp told old new untried → AreGiven k told new
gave-none k stamp told old new true e h = absurd (true≢false e)
gave-none k stamp told old new false e h = h

pub gave-some : (k : RunLogs) (stamp : StampParts) (told : StampParts → Option Told) (old new : StampParts → Option (Vec Put)) (untried : Bool) → untried ≡ true → Gave k stamp told old new untried → AreGiven k told old × IsUntried k stamp
gave-some k stamp told old new true e h = h
gave-some k stamp told old new false e h = absurd (false≢true e)

-- nothing is left
pub given-none : (k : RunLogs) (told : StampParts → Option Told) (puts : StampParts → Option (Vec Put)) → ((s : StampParts) → puts s ≡ None) → AreGiven k told puts → AreGiven k told (λ s. None)
given-none k told puts none g = record {
  each = g.each;
  scripts = g.scripts;
  tried = g.tried;
  left = λ s ps e. absurd (let c : ◌≡◌ {A = Option (Vec Put)} None (Some ps) = e in cc c);
  done = λ s n e p. g.done s n (none s) p;
  lost = g.lost;
}

pub none-at : (es : List (StampParts × Vec Put)) → (0 < length es → false ≡ true) → (s : StampParts) → lookup (is_at (stamp_cmp s)) es ≡ None
none-at [] h s = refl
none-at (e ∷ es) h s = absurd (false≢true (h (omega arith)))
