-- The records that expire at a moment.
use Rattle.std.proofs.Common.{◌≡◌, ◌≤◌, ℕ, Bool, true, false, List, [], ◌∷◌, length, drop, map, cond, refl, sym, ap, ◌∙◌, subst}
use Rattle.std.specs.Prelude.{Option, Some, None, nat_le, if◌then◌else◌}
use Rattle.std.specs.Ordering.{is_eq}
use Rattle.std.specs.declared.cmp.Ordering.TheVariants.{Less}
use Rattle.std.specs.BTreeMap.{is_at}
use Rattle.std.specs.List.{AllByRecursion}
use Rattle.std.specs.List.Sorted.{IsStrictlySortedBy}
use Rattle.std.specs.FinMap.{get, from_entries, get-insert}
use Rattle.std.proofs.lemmas.List.{drop_all}
use Rattle.pseudo_time.specs.StampParts.{StampParts, stamp_cmp}
use Rattle.pseudo_time.specs.declared.decisions.Decision.{Decision}
use Rattle.pseudo_time.specs.declared.decisions.Decision.TheVariants as decision
use Rattle.commit_record.specs.declared.states.RecordState.{RecordState}
use Rattle.commit_record.specs.declared.states.RecordState.TheVariants as state
use Rattle.commit_record.specs.States.{States, settled, settled_at, heard, expiry, expiring, listed_at, deadline_of, AreDeadlines}
use Rattle.commit_record.proofs.RecordLemmas.{found_at, get-entries_of, same_stamp}
use Rattle.pseudo_time.proofs.OrderLemmas.{stamp_cmp-total}

-- ---- the list

abbrev Above : StampParts → List StampParts → Type 0
Above s ks = AllByRecursion (λ q. stamp_cmp s q ≡ Less) ks

-- what is filtered out of the entries stays above, and in order
above_head : (b : Bool) (s : StampParts) (e : StampParts × Decision) (es : List (StampParts × Decision)) → stamp_cmp s e.0 ≡ Less → Above s (map (λ e. e.0) es) → Above s (map (λ e. e.0) (if b then e ∷ es else es))
above_head true s e es h rest = (h, rest)
above_head false s e es h rest = rest

above_expiring : (moment : ℕ) (s : StampParts) (es : List (StampParts × ℕ)) → Above s (map (λ e. e.0) es) → Above s (map (λ e. e.0) (expiring moment es))
above_expiring moment s [] h = tt
above_expiring moment s (e ∷ es) h = above_head (nat_le e.1 moment) s (e.0, decision.Expired e.1 moment) (expiring moment es) h.0 (above_expiring moment s es h.1)

rising_head : (b : Bool) (e : StampParts × Decision) (es : List (StampParts × Decision)) → Above e.0 (map (λ e. e.0) es) → IsStrictlySortedBy stamp_cmp (map (λ e. e.0) es) → IsStrictlySortedBy stamp_cmp (map (λ e. e.0) (if b then e ∷ es else es))
unfolding IsStrictlySortedBy
rising_head true e es h rest = (h, rest)
rising_head false e es h rest = rest

pub expiring_rises : (moment : ℕ) (es : List (StampParts × ℕ)) → IsStrictlySortedBy stamp_cmp (map (λ e. e.0) es) → IsStrictlySortedBy stamp_cmp (map (λ e. e.0) (expiring moment es))
unfolding IsStrictlySortedBy
expiring_rises moment [] h = tt
expiring_rises moment (e ∷ es) h = rising_head (nat_le e.1 moment) (e.0, decision.Expired e.1 moment) (expiring moment es) (above_expiring moment e.0 es h.0) (expiring_rises moment es h.1)

-- below all that are listed is none
absent : {X : Type 0} (q : StampParts) (es : List (StampParts × X)) → Above q (map (λ e. e.0) es) → found_at es q ≡ None
absent q [] h = refl
absent q (e ∷ es) h = ap (λ o. cond (is_eq o) (Some e.1) (found_at es q)) h.0 ∙ absent q es h.1

-- the decision for a deadline
abbrev at_deadline : ℕ → Option ℕ → Option Decision
at_deadline moment None = None
at_deadline moment (Some d) = if nat_le d moment then Some (decision.Expired d moment) else None

expiry-deadline : (moment : ℕ) (r : Option RecordState) → at_deadline moment (deadline_of r) ≡ expiry moment r
expiry-deadline moment None = refl
expiry-deadline moment (Some (state.Unknown d)) = refl
expiry-deadline moment (Some (state.Decided x)) = refl

head_listed : (moment : ℕ) (q : StampParts) (e : StampParts × ℕ) (es : List (StampParts × ℕ)) (b c : Bool) → is_at (stamp_cmp q) e.0 ≡ b → nat_le e.1 moment ≡ c → Above e.0 (map (λ e. e.0) es) → listed_at (expiring moment es) q ≡ at_deadline moment (found_at es q)
    → listed_at (if c then (e.0, decision.Expired e.1 moment) ∷ expiring moment es else expiring moment es) q ≡ at_deadline moment (cond b (Some e.1) (found_at es q))
head_listed moment q e es true true at due above rest =
    ap (λ z. cond z (Some (decision.Expired e.1 moment)) (listed_at (expiring moment es) q)) at
    ∙ ap (λ z. if z then Some (decision.Expired e.1 moment) else None) (sym due)
head_listed moment q e es true false at due above rest =
    absent q (expiring moment es) (above_expiring moment q es (subst (λ z. Above z (map (λ e. e.0) es)) (sym (same_stamp q e.0 at)) above))
    ∙ ap (λ z. if z then Some (decision.Expired e.1 moment) else None) (sym due)
head_listed moment q e es false true at due above rest = ap (λ z. cond z (Some (decision.Expired e.1 moment)) (listed_at (expiring moment es) q)) at ∙ rest
head_listed moment q e es false false at due above rest = rest

pub listed-expiring : (moment : ℕ) (q : StampParts) (es : List (StampParts × ℕ)) → IsStrictlySortedBy stamp_cmp (map (λ e. e.0) es) → listed_at (expiring moment es) q ≡ at_deadline moment (found_at es q)
unfolding IsStrictlySortedBy
listed-expiring moment q [] h = refl
listed-expiring moment q (e ∷ es) h = head_listed moment q e es (is_at (stamp_cmp q) e.0) (nat_le e.1 moment) refl refl h.0 (listed-expiring moment q es h.1)

-- those listed are those that are due
pub due_listed : (moment : ℕ) (ds : List (StampParts × ℕ)) (ss : List (StampParts × RecordState)) (q : StampParts) → AreDeadlines ds ss → IsStrictlySortedBy stamp_cmp (map (λ e. e.0) ds) → listed_at (expiring moment ds) q ≡ expiry moment (found_at ss q)
due_listed moment ds ss q are rises = listed-expiring moment q ds rises ∙ ap (at_deadline moment) (are.by q) ∙ expiry-deadline moment (found_at ss q)

-- ---- what becomes of the records

abbrev pub settle_each : States → List (StampParts × Decision) → States
settle_each m [] = m
settle_each m (e ∷ es) = settle_each (settled m e.0 e.1) es

abbrev settled_state : Option RecordState → Option Decision → Option RecordState
settled_state None x = None
settled_state (Some (state.Unknown d)) None = Some (state.Unknown d)
settled_state (Some (state.Unknown d)) (Some x) = Some (state.Decided x)
settled_state (Some (state.Decided y)) x = Some (state.Decided y)

unsettled : (r : Option RecordState) → settled_state r None ≡ r
unsettled None = refl
unsettled (Some (state.Unknown d)) = refl
unsettled (Some (state.Decided y)) = refl

settled_once : (r : Option RecordState) (x : Decision) (y : Option Decision) → settled_state (settled_state r (Some x)) y ≡ settled_state r (Some x)
settled_once None x y = refl
settled_once (Some (state.Unknown d)) x y = refl
settled_once (Some (state.Decided z)) x y = refl

-- a state at the stamp is that of the stamp
at_stamp : (m : States) (s q : StampParts) (x : Decision) (r : Option RecordState) (b : Bool) → is_at (stamp_cmp q) s ≡ b → get m s ≡ r → cond b (settled_state r (Some x)) (get m q) ≡ cond b (settled_state (get m q) (Some x)) (get m q)
at_stamp m s q x r true at is = ap (λ z. settled_state z (Some x)) (sym is ∙ ap (get m) (sym (same_stamp q s at)))
at_stamp m s q x r false at is = refl

stays_at : (b : Bool) (r p : Option RecordState) → (b ≡ true → p ≡ r) → p ≡ cond b r p
stays_at true r p h = h refl
stays_at false r p h = refl

get-settled_at : (m : States) (s q : StampParts) (x : Decision) (r : Option RecordState) → get m s ≡ r → get (settled_at r m s x) q ≡ cond (is_at (stamp_cmp q) s) (settled_state r (Some x)) (get m q)
get-settled_at m s q x None is = stays_at (is_at (stamp_cmp q) s) None (get m q) (λ at. ap (get m) (same_stamp q s at) ∙ is)
get-settled_at m s q x (Some (state.Unknown d)) is = get-insert stamp_cmp-total m s (state.Decided x) q
get-settled_at m s q x (Some (state.Decided y)) is = stays_at (is_at (stamp_cmp q) s) (Some (state.Decided y)) (get m q) (λ at. ap (get m) (same_stamp q s at) ∙ is)

get-settled : (m : States) (s q : StampParts) (x : Decision) → get (settled m s x) q ≡ cond (is_at (stamp_cmp q) s) (settled_state (get m q) (Some x)) (get m q)
get-settled m s q x = get-settled_at m s q x (get m s) refl ∙ at_stamp m s q x (get m s) (is_at (stamp_cmp q) s) refl refl

head_settled : (b : Bool) (r : Option RecordState) (x : Decision) (y : Option Decision) → settled_state (cond b (settled_state r (Some x)) r) y ≡ settled_state r (cond b (Some x) y)
head_settled true r x y = settled_once r x y
head_settled false r x y = refl

get-settle_each : (m : States) (es : List (StampParts × Decision)) (q : StampParts) → get (settle_each m es) q ≡ settled_state (get m q) (listed_at es q)
get-settle_each m [] q = sym (unsettled (get m q))
get-settle_each m (e ∷ es) q =
    get-settle_each (settled m e.0 e.1) es q ∙ ap (λ r. settled_state r (listed_at es q)) (get-settled m e.0 q e.1)
    ∙ head_settled (is_at (stamp_cmp q) e.0) (get m q) e.1 (listed_at es q)

settled-expiry : (moment : ℕ) (r : Option RecordState) → settled_state r (expiry moment r) ≡ heard moment r
settled-expiry moment None = refl
settled-expiry moment (Some (state.Decided x)) = refl
settled-expiry moment (Some (state.Unknown d)) = at (nat_le d moment)
  where
    at : (b : Bool) → settled_state (Some (state.Unknown d)) (if b then Some (decision.Expired d moment) else None) ≡ (if b then Some (state.Decided (decision.Expired d moment)) else Some (state.Unknown d))
    at true = refl
    at false = refl

-- the records once those that are due are settled
pub all_heard : (moment : ℕ) (m : States) (es : List (StampParts × Decision)) (q : StampParts) → listed_at es q ≡ expiry moment (get m q) → get (settle_each m es) q ≡ heard moment (get m q)
all_heard moment m es q is = get-settle_each m es q ∙ ap (settled_state (get m q)) is ∙ settled-expiry moment (get m q)

-- ---- as the code goes

pub all_listed : (moment : ℕ) (ds : List (StampParts × ℕ)) (ss : List (StampParts × RecordState)) (due : List (StampParts × Decision)) (old : States) (q : StampParts) → AreDeadlines ds ss → IsStrictlySortedBy stamp_cmp (map (λ e. e.0) ds) → due ≡ expiring moment ds → from_entries ss ≡ old → listed_at due q ≡ expiry moment (get old q)
all_listed moment ds ss due old q are rises is view =
    ap (λ z. listed_at z q) is ∙ due_listed moment ds ss q are rises ∙ ap (expiry moment) (sym (get-entries_of ss q) ∙ ap (λ m. get m q) view)

pub due_rises : (moment : ℕ) (ds : List (StampParts × ℕ)) (due : List (StampParts × Decision)) → IsStrictlySortedBy stamp_cmp (map (λ e. e.0) ds) → due ≡ expiring moment ds → IsStrictlySortedBy stamp_cmp (map (λ e. e.0) due)
due_rises moment ds due rises is = subst (λ z. IsStrictlySortedBy stamp_cmp (map (λ e. e.0) z)) (sym is) (expiring_rises moment ds rises)

pub all_settled : (m old : States) (items : List (StampParts × Decision)) (index : ℕ) → length items ≤ index → settle_each m (drop index items) ≡ settle_each old items → m ≡ settle_each old items
all_settled m old items index past same = ap (settle_each m) (sym (drop_all index items past)) ∙ same
