-- What homes decided, effect by effect, and the least attempt on which logs disagree.
use Rattle.std.proofs.Common.{◌≡◌, ◌⊎◌, inl, inr, ℕ, zero, suc, ◌<◌, ◌+◌, Bool, true, false, List, [], ◌∷◌, ◌++◌, length, get_or, reverse, take, arith, refl, sym, ◌∙◌, ap, subst, Option, Some, None}
use Rattle.std.proofs.lemmas.Bool.{true≢false}
use Rattle.std.proofs.lemmas.List.{length-map, reverse-append}
use Rattle.std.specs.FinMap as finite
use Rattle.std.specs.FinMap.{get-empty, get-insert}
use Rattle.std.specs.Ordering.{is_eq, is_lt}
use Rattle.std.proofs.lemmas.Cmp.{tied_itself}
use Rattle.std.specs.Prelude.{cond}
use Rattle.std.specs.Global.{Vec}
use Rattle.pseudo_time.specs.Lists.{Every, Has}
use Rattle.pseudo_time.proofs.ListLemmas.{every-append, every-has, has-either, has-left, has-right}
use Rattle.pseudo_time.proofs.OrderLemmas.{is_less, same_stamp-is, same_stamp-self, stamp_cmp-total}
use Rattle.pseudo_time.specs.StampParts.{StampParts, stamp_cmp}
use Rattle.pseudo_time.specs.declared.decisions.Decision.{Decision}
unfoldable use Rattle.pseudo_time.specs.Order.{same_stamp, stamp_lt}
use Rattle.effect_form.specs.declared.effects.Effect.{Effect}
use Rattle.effect_form.specs.declared.effects.Effect.TheVariants as effect
use Rattle.object_history.specs.Kept.{Settled}
use Rattle.repository_log.specs.Logs.{is_commit}
use Rattle.world_core.specs.Deeds.{RunLogs, in_run, log_of}
use Rattle.log_replay.specs.Decisions.{AreKept, AreLearned, AtMost, HasDecided, HasGrown, HaveLogs, IsBased, IsFirstMisdecided, IsKept, IsLearned, IsMisdecided}
use Rattle.log_replay.specs.Folders.{items_of, log_at}
use Rattle.log_replay.specs.declared.decisions.Rulings.{Rulings}
use Rattle.log_replay.proofs.CommitLemmas.{inside-run}
use Rattle.log_replay.proofs.GiftLemmas.{log-here}
use Rattle.log_replay.proofs.ItemLemmas.{items-next, take-next}

-- ---- stamps

pub self-below : (s : StampParts) → stamp_lt s s ≡ false
unfolding stamp_lt
self-below s = ap is_lt (tied_itself stamp_cmp-total s)

lt-trans : (s t u : StampParts) → stamp_lt s t ≡ true → stamp_lt t u ≡ true → stamp_lt s u ≡ true
unfolding stamp_lt
lt-trans s t u h k = ap is_lt (stamp_cmp-total.trans s t u (is_less (stamp_cmp s t) h) (is_less (stamp_cmp t u) k))

-- what isn't below the greater one isn't below the lesser one
pub not-below : (s t u : StampParts) → stamp_lt s u ≡ false → stamp_lt t u ≡ true → stamp_lt s t ≡ false
not-below s t u h k = by (stamp_lt s t) refl
  where
    by : (b : Bool) → stamp_lt s t ≡ b → stamp_lt s t ≡ false
    by true e = absurd (true≢false (sym (lt-trans s t u e k) ∙ h))
    by false e = e

-- ---- what was kept stays kept

kept-on : (r : ℕ) (old new : Rulings) → HasGrown old new → (f : Effect) → IsKept r old.decided old.least f → IsKept r new.decided new.least f
kept-on r old new g (effect.Decide s d) (inl h) = inl (h.0, g.kept s (is_commit d) h.1)
kept-on r old new g (effect.Decide s d) (inr h) = inr (g.least s h)
kept-on r old new g (effect.Put o x v) h = tt
kept-on r old new g (effect.Stretch o x) h = tt
kept-on r old new g (effect.Begin s d) h = tt
kept-on r old new g (effect.Learn s c) h = tt
kept-on r old new g (effect.Run n) h = tt
kept-on r old new g (effect.Act i a t n c x) h = tt
kept-on r old new g (effect.Try i s) h = tt
kept-on r old new g (effect.Got k v) h = tt
kept-on r old new g (effect.Acked k) h = tt
kept-on r old new g (effect.End i o) h = tt
kept-on r old new g (effect.Mark at) h = tt
kept-on r old new g effect.Whole h = tt

pub all-kept-on : (r : ℕ) (old new : Rulings) → HasGrown old new → (log : List Effect) → Every (IsKept r old.decided old.least) log → Every (IsKept r new.decided new.least) log
all-kept-on r old new g [] h = tt
all-kept-on r old new g (f ∷ log) h = (kept-on r old new g f h.0, all-kept-on r old new g log h.1)

learned-on : (decided : Settled) (old new : Option StampParts) → ((s : StampParts) → AtMost old s → AtMost new s) → (f : Effect) → IsLearned decided old f → IsLearned decided new f
learned-on decided old new g (effect.Learn s c) (inl h) = inl h
learned-on decided old new g (effect.Learn s c) (inr h) = inr (g s h)
learned-on decided old new g (effect.Decide s d) h = tt
learned-on decided old new g (effect.Put o x v) h = tt
learned-on decided old new g (effect.Stretch o x) h = tt
learned-on decided old new g (effect.Begin s d) h = tt
learned-on decided old new g (effect.Run n) h = tt
learned-on decided old new g (effect.Act i a t n c x) h = tt
learned-on decided old new g (effect.Try i s) h = tt
learned-on decided old new g (effect.Got k v) h = tt
learned-on decided old new g (effect.Acked k) h = tt
learned-on decided old new g (effect.End i o) h = tt
learned-on decided old new g (effect.Mark at) h = tt
learned-on decided old new g effect.Whole h = tt

pub all-learned-on : (decided : Settled) (old new : Option StampParts) → ((s : StampParts) → AtMost old s → AtMost new s) → (log : List Effect) → Every (IsLearned decided old) log → Every (IsLearned decided new) log
all-learned-on decided old new g [] h = tt
all-learned-on decided old new g (f ∷ log) h = (learned-on decided old new g f h.0, all-learned-on decided old new g log h.1)

pub same-grown : (old new : Rulings) → new.decided ≡ old.decided → ((s : StampParts) → AtMost old.least s → AtMost new.least s) → HasGrown old new
same-grown old new same least = record { kept = λ s c e. ap (λ z. finite.get z s) same ∙ e; least = least }

pub grown-same : (r : Rulings) → HasGrown r r
grown-same r = record { kept = λ s c h. h; least = λ s h. h }

pub grown-more : (a b c : Rulings) → HasGrown a b → HasGrown b c → HasGrown a c
grown-more a b c g h = record { kept = λ s x e. h.kept s x (g.kept s x e); least = λ s e. h.least s (g.least s e) }

-- ---- one decision more

module _ (old new : Rulings) (stamp : StampParts) where
  -- logs disagree on it
  pub blamed : (k : RunLogs) → new.decided ≡ old.decided → ((new.least ≡ Some stamp) × (AtMost old.least stamp → ⊥)) ⊎ (new.least ≡ old.least) → ((AtMost old.least stamp → ⊥) → IsMisdecided k stamp) → IsBased k old → IsBased k new
  blamed k same (inl one) wrong based = record {
    kept = λ s c e. based.kept s c (ap (λ z. finite.get z s) (sym same) ∙ e);
    least = λ s e. let f : Some stamp ≡ Some s = sym one.0 ∙ e in subst (IsMisdecided k) (cc f) (wrong one.1);
  }
  blamed k same (inr one) wrong based = record { kept = λ s c e. based.kept s c (ap (λ z. finite.get z s) (sym same) ∙ e); least = λ s e. based.least s (sym one ∙ e) }

  -- it was kept
  entry : (committed : Bool) → new.decided ≡ finite.insert old.decided stamp committed → (s : StampParts) → finite.get new.decided s ≡ cond (is_eq (stamp_cmp s stamp)) (Some committed) (finite.get old.decided s)
  entry committed put s = ap (λ z. finite.get z s) put ∙ get-insert stamp_cmp-total old.decided stamp committed s

  entry-by : (committed c : Bool) (s : StampParts) (b : Bool) → is_eq (stamp_cmp s stamp) ≡ b → cond b (Some committed) (finite.get old.decided s) ≡ Some c → ((s ≡ stamp) × (committed ≡ c)) ⊎ (finite.get old.decided s ≡ Some c)
  unfolding same_stamp
  entry-by committed c s true e h = inl (same_stamp-is s stamp e, cc h)
  entry-by committed c s false e h = inr h

  pub put-based : (k : RunLogs) (d : Decision) (committed : Bool) → new.decided ≡ finite.insert old.decided stamp committed → new.least ≡ old.least → Has (effect.Decide stamp d) (log_of k stamp.home) → committed ≡ is_commit d → IsBased k old → IsBased k new
  put-based k d committed put same there is based = record {
    kept = λ s c e. by s c (entry-by committed c s (is_eq (stamp_cmp s stamp)) refl (sym (entry committed put s) ∙ e));
    least = λ s e. based.least s (sym same ∙ e);
  }
    where
      by : (s : StampParts) (c : Bool) → ((s ≡ stamp) × (committed ≡ c)) ⊎ (finite.get old.decided s ≡ Some c) → (e : Decision) × Has (effect.Decide s e) (log_of k s.home) × (c ≡ is_commit e)
      by s c (inl w) = (d, subst (λ z. Has (effect.Decide z d) (log_of k z.home)) (sym w.0) there, sym w.1 ∙ is)
      by s c (inr e) = based.kept s c e

  still : (committed c : Bool) (s : StampParts) (b : Bool) → is_eq (stamp_cmp s stamp) ≡ b → finite.get old.decided stamp ≡ None → finite.get old.decided s ≡ Some c → cond b (Some committed) (finite.get old.decided s) ≡ Some c
  unfolding same_stamp
  still committed c s true e none h = let f : ◌≡◌ {A = Option Bool} None (Some c) = sym none ∙ (ap (finite.get old.decided) (sym (same_stamp-is s stamp e)) ∙ h) in absurd (cc f)
  still committed c s false e none h = h

  pub put-grown : (committed : Bool) → new.decided ≡ finite.insert old.decided stamp committed → new.least ≡ old.least → finite.get old.decided stamp ≡ None → HasGrown old new
  put-grown committed put same none = record {
    kept = λ s c e. entry committed put s ∙ still committed c s (is_eq (stamp_cmp s stamp)) refl none e;
    least = λ s m. subst (λ o. AtMost o s) (sym same) m;
  }

  pub put-kept : (committed : Bool) → new.decided ≡ finite.insert old.decided stamp committed → finite.get new.decided stamp ≡ Some committed
  unfolding same_stamp
  put-kept committed put = entry committed put stamp ∙ ap (λ b. cond b (Some committed) (finite.get old.decided stamp)) (same_stamp-self stamp)

-- why logs disagree
pub twofold : (k : RunLogs) (old : Rulings) (s : StampParts) (d : Decision) (before committed : Bool) → IsBased k old → finite.get old.decided s ≡ Some before → (before ≡ committed → ⊥) → Has (effect.Decide s d) (log_of k s.home) → committed ≡ is_commit d → IsMisdecided k s
twofold k old s d before committed based e differ there is =
    let w = based.kept s before e in inr (inl (record { one = w.0; other = d; there = (w.1, there); differ = λ q. differ (w.2 ∙ (q ∙ sym is)) }))

pub mislearned : (k : RunLogs) (old : Rulings) (r : ℕ) (s : StampParts) (c : Bool) → HasDecided k old → (finite.get old.decided s ≡ Some c → ⊥) → in_run k r ≡ true → Has (effect.Learn s c) (log_of k r) → (AtMost old.least s → ⊥) → IsMisdecided k s
mislearned k old r s c decided other inside there none =
    inr (inr (record { repository = r; committed = c; inside = inside; there = there; none = λ d h q. other (decided s d h none ∙ ap Some (sym q)) }))

-- ---- effects one after another

pub item-has : {A : Type 0} (xs : List A) (i : ℕ) (x : A) → i < length xs → x ≡ get_or xs i x → Has x xs
item-has [] i x low is = absurd (omega (arith, low))
item-has (y ∷ xs) zero x low is = inl (sym is)
item-has (y ∷ xs) (suc i) x low is = inr (item-has xs i x (omega (arith, low)) is)

pub kept-more : (r : ℕ) (old new : Rulings) (log : List Effect) (i : ℕ) (f : Effect) → i < length log → f ≡ get_or log i f → HasGrown old new → Every (IsKept r old.decided old.least) (take i log) → IsKept r new.decided new.least f →
    Every (IsKept r new.decided new.least) (take (i + 1) log)
kept-more r old new log i f low is g h k =
    subst (Every (IsKept r new.decided new.least)) (sym (take-next log i f low is)) (every-append (IsKept r new.decided new.least) (take i log) (f ∷ []) (all-kept-on r old new g (take i log) h) (k, tt))

pub learned-more : (before decided : Settled) (old new : Option StampParts) (log : List Effect) (i : ℕ) (f : Effect) → i < length log → f ≡ get_or log i f → decided ≡ before → ((s : StampParts) → AtMost old s → AtMost new s) → Every (IsLearned before old) (take i log) →
    IsLearned decided new f → Every (IsLearned decided new) (take (i + 1) log)
learned-more before decided old new log i f low is same g h k =
    subst (Every (IsLearned decided new)) (sym (take-next log i f low is))
    (every-append (IsLearned decided new) (take i log) (f ∷ []) (all-learned-on decided old new g (take i log) (subst (λ d. Every (IsLearned d old) (take i log)) (sym same) h)) (k, tt))

pub decided-on : (k : RunLogs) (old new : Rulings) → new.decided ≡ old.decided → ((s : StampParts) → AtMost old.least s → AtMost new.least s) → HasDecided k old → HasDecided k new
decided-on k old new same g h s d there none = ap (λ z. finite.get z s) same ∙ h s d there (λ m. none (g s m))

pub none-based : (k : RunLogs) (d : Settled) → d ≡ finite.empty → IsBased k (record { decided = d; least = None })
none-based k d e = record {
  kept = λ s c h. let f : ◌≡◌ {A = Option Bool} None (Some c) = sym (ap (λ z. finite.get z s) e ∙ get-empty stamp_cmp s) ∙ h in absurd (cc f);
  least = λ s h. let f : ◌≡◌ {A = Option StampParts} None (Some s) = h in absurd (cc f);
}

-- repository r is one of the sixteen
pub inside-logs : (k : RunLogs) (logs : List (List Effect)) (i r : ℕ) → HaveLogs k logs → i < 16 → r ≡ i + 1 → in_run k r ≡ true
inside-logs k logs i r have low e = let many = have.count in inside-run k r (omega (arith, e)) (omega (arith, low, e, many))

pub log-is : (k : RunLogs) (logs : List (Vec Effect)) (i r : ℕ) (log : Vec Effect) (effects : List Effect) → HaveLogs k (items_of logs) → i < length logs → log ≡ get_or logs i log → effects ≡ log.items → r ≡ i + 1 → log_of k r ≡ reverse effects
log-is k logs i r log effects have low is same e =
    let next : r ≡ suc i = omega (arith, e) in
    have.are r ∙ ap (λ n. reverse (log_at (items_of logs) n)) next ∙ ap reverse (log-here logs i log low is ∙ sym same)

-- ---- logs one after another

pub are-kept-on : (old new : Rulings) → HasGrown old new → (n : ℕ) (logs : List (List Effect)) → AreKept old.decided old.least n logs → AreKept new.decided new.least n logs
are-kept-on old new g n [] h = tt
are-kept-on old new g n (log ∷ logs) h = (all-kept-on (suc n) old new g log h.0, are-kept-on old new g (suc n) logs h.1)

pub are-learned-on : (decided : Settled) (old new : Option StampParts) → ((s : StampParts) → AtMost old s → AtMost new s) → (logs : List (List Effect)) → AreLearned decided old logs → AreLearned decided new logs
are-learned-on decided old new g [] h = tt
are-learned-on decided old new g (log ∷ logs) h = (all-learned-on decided old new g log h.0, are-learned-on decided old new g logs h.1)

kept-end : (decided : Settled) (least : Option StampParts) (n m : ℕ) (logs : List (List Effect)) (log : List Effect) → m ≡ n + length logs + 1 → AreKept decided least n logs → Every (IsKept m decided least) log → AreKept decided least n (logs ++ log ∷ [])
kept-end decided least n m [] log e h k = let one : m ≡ suc n = omega (arith, e) in (subst (λ z. Every (IsKept z decided least) log) one k, tt)
kept-end decided least n m (l ∷ logs) log e h k = (h.0, kept-end decided least (suc n) m logs log (omega (arith, e)) h.1 k)

learned-end : (decided : Settled) (least : Option StampParts) (logs : List (List Effect)) (log : List Effect) → AreLearned decided least logs → Every (IsLearned decided least) log → AreLearned decided least (logs ++ log ∷ [])
learned-end decided least [] log h k = (k, tt)
learned-end decided least (l ∷ logs) log h k = (h.0, learned-end decided least logs log h.1 k)

take-long : {A : Type 0} (xs : List A) (i : ℕ) → i < length xs → length (take i xs) ≡ i
take-long [] i low = absurd (omega (arith, low))
take-long (x ∷ xs) zero low = refl
take-long (x ∷ xs) (suc i) low = ap suc (take-long xs i (omega (arith, low)))

pub kept-next : (decided : Settled) (least : Option StampParts) (logs : List (Vec Effect)) (i m : ℕ) (log : Vec Effect) (effects : List Effect) → i < length logs → log ≡ get_or logs i log → effects ≡ log.items → m ≡ i + 1 →
    AreKept decided least 0 (items_of (take i logs)) → Every (IsKept m decided least) effects → AreKept decided least 0 (items_of (take (i + 1) logs))
kept-next decided least logs i m log effects low is same e h k =
    let long : length (items_of (take i logs)) ≡ i = length-map (take i logs) (λ (l : Vec Effect). l.items) ∙ take-long logs i low in
    subst (AreKept decided least 0) (sym (items-next logs i log low is)) (kept-end decided least 0 m (items_of (take i logs)) log.items (omega (arith, long, e)) h (subst (Every (IsKept m decided least)) same k))

pub learned-next : (decided : Settled) (least : Option StampParts) (logs : List (Vec Effect)) (i : ℕ) (log : Vec Effect) (effects : List Effect) → i < length logs → log ≡ get_or logs i log → effects ≡ log.items →
    AreLearned decided least (items_of (take i logs)) → Every (IsLearned decided least) effects → AreLearned decided least (items_of (take (i + 1) logs))
learned-next decided least logs i log effects low is same h k =
    subst (AreLearned decided least) (sym (items-next logs i log low is)) (learned-end decided least (items_of (take i logs)) log.items h (subst (Every (IsLearned decided least)) same k))

-- ---- what stands in a log

kept-at : (decided : Settled) (least : Option StampParts) (n r : ℕ) (logs : List (List Effect)) (f : Effect) → AreKept decided least n logs → Has f (log_at logs r) → IsKept (n + r) decided least f
kept-at decided least n zero logs f h k = absurd k
kept-at decided least n (suc r) [] f h k = absurd k
kept-at decided least n (suc zero) (log ∷ logs) f h k = let e : suc n ≡ n + 1 = omega arith in subst (λ m. IsKept m decided least f) e (every-has (IsKept (suc n) decided least) log f h.0 k)
kept-at decided least n (suc (suc r)) (log ∷ logs) f h k =
    let e : suc n + suc r ≡ n + suc (suc r) = omega arith in subst (λ m. IsKept m decided least f) e (kept-at decided least (suc n) (suc r) logs f h.1 k)

learned-at : (decided : Settled) (least : Option StampParts) (r : ℕ) (logs : List (List Effect)) (f : Effect) → AreLearned decided least logs → Has f (log_at logs r) → IsLearned decided least f
learned-at decided least zero logs f h k = absurd k
learned-at decided least (suc r) [] f h k = absurd k
learned-at decided least (suc zero) (log ∷ logs) f h k = every-has (IsLearned decided least) log f h.0 k
learned-at decided least (suc (suc r)) (log ∷ logs) f h k = learned-at decided least (suc r) logs f h.1 k

has-turned : (xs : List Effect) (f : Effect) → Has f (reverse xs) → Has f xs
has-turned [] f h = h
has-turned (x ∷ xs) f h = by (λ k. has-turned xs f k) (has-either (reverse xs) (x ∷ []) f (subst (Has f) (reverse-append (x ∷ []) xs) h))
  where
    by : (Has f (reverse xs) → Has f xs) → Has f (reverse xs) ⊎ Has f (x ∷ []) → Has f (x ∷ xs)
    by rest (inl k) = inr (rest k)
    by rest (inr (inl e)) = inl e
    by rest (inr (inr k)) = absurd k

pub turned-has : (xs : List Effect) (f : Effect) → Has f xs → Has f (reverse xs)
turned-has [] f h = h
turned-has (x ∷ xs) f h = subst (Has f) (sym (reverse-append (x ∷ []) xs)) (by (λ k. turned-has xs f k) h)
  where
    by : (Has f xs → Has f (reverse xs)) → Has f (x ∷ xs) → Has f (reverse xs ++ x ∷ [])
    by rest (inl e) = has-right (reverse xs) (x ∷ []) f (inl e)
    by rest (inr k) = has-left (reverse xs) (x ∷ []) f (rest k)

pub has-decided : (k : RunLogs) (logs : List (List Effect)) → HaveLogs k logs → (rulings : Rulings) → AreKept rulings.decided rulings.least 0 logs → HasDecided k rulings
has-decided k logs have rulings kept s d h none = by (kept-at rulings.decided rulings.least 0 s.home logs (effect.Decide s d) kept (has-turned (log_at logs s.home) (effect.Decide s d) (subst (Has (effect.Decide s d)) (have.are s.home) h)))
  where
    by : IsKept (0 + s.home) rulings.decided rulings.least (effect.Decide s d) → finite.get rulings.decided s ≡ Some (is_commit d)
    by (inl w) = w.1
    by (inr m) = absurd (none m)

-- ---- the least

module _ (k : RunLogs) (logs : List (List Effect)) (are : (r : ℕ) → log_of k r ≡ reverse (log_at logs r)) (rulings : Rulings) (least : Option StampParts)
    (based : IsBased k rulings) (kept : AreKept rulings.decided least 0 logs) (learned : AreLearned rulings.decided least logs) where
  there : (r : ℕ) (f : Effect) → Has f (log_of k r) → Has f (log_at logs r)
  there r f h = has-turned (log_at logs r) f (subst (Has f) (are r) h)

  decided-at : (r : ℕ) (s : StampParts) (d : Decision) → (AtMost least s → ⊥) → Has (effect.Decide s d) (log_of k r) → (r ≡ s.home) × (finite.get rulings.decided s ≡ Some (is_commit d))
  decided-at r s d none h = by (kept-at rulings.decided least 0 r logs (effect.Decide s d) kept (there r (effect.Decide s d) h))
    where
      by : IsKept (0 + r) rulings.decided least (effect.Decide s d) → (r ≡ s.home) × (finite.get rulings.decided s ≡ Some (is_commit d))
      by (inl w) = (let e = w.0 in omega (arith, e), w.1)
      by (inr m) = absurd (none m)

  same-commit : (a b : Bool) (o : Option Bool) → o ≡ Some a → o ≡ Some b → a ≡ b
  same-commit a b o e f = let c : Some a ≡ Some b = sym e ∙ f in cc c

  none-misdecided : (s : StampParts) → (AtMost least s → ⊥) → IsMisdecided k s → ⊥
  none-misdecided s none (inl away) = away.away (decided-at away.repository s away.decision none away.there).0
  none-misdecided s none (inr (inl two)) =
      two.differ (same-commit (is_commit two.one) (is_commit two.other) (finite.get rulings.decided s) (decided-at s.home s two.one none two.there.0).1 (decided-at s.home s two.other none two.there.1).1)
  none-misdecided s none (inr (inr wrong)) = by (learned-at rulings.decided least wrong.repository logs (effect.Learn s wrong.committed) learned (there wrong.repository (effect.Learn s wrong.committed) wrong.there))
    where
      by : IsLearned rulings.decided least (effect.Learn s wrong.committed) → ⊥
      by (inl e) = let w = based.kept s wrong.committed e in wrong.none w.0 w.1 w.2
      by (inr m) = none m

  pub first-misdecided : ((s : StampParts) → least ≡ Some s → IsMisdecided k s) → IsFirstMisdecided k least
  first-misdecided is = by least refl
    where
      by : (o : Option StampParts) → least ≡ o → IsFirstMisdecided k o
      by None e = λ s wrong. none-misdecided s (λ m. subst (λ o. AtMost o s) e m) wrong
      by (Some w) e = (is w e, λ t low wrong. none-misdecided t (λ m. true≢false (sym low ∙ subst (λ o. AtMost o t) e m)) wrong)
