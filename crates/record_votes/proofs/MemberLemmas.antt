-- What a member's turn adds and says, by its log.
use Rattle.record_votes.proofs.Names.{◌≡◌, ℕ, Bool, true, false, List, [], ◌∷◌, ◌++◌, map, inl, inr, refl, sym, ◌∙◌, ap, subst, cond, Option, Some, None, T, if◌then◌else◌, filter, append-nil, true≢false, false≢true, Has, StampParts, stamp_cmp, Decision, NodeId, Effect, Message, Out, RecordState, Unknown, Decided, is_broker, is_due, expiry_of, expiries, from-unknown, from-decided, book, Given, quiet, owed, begin_by, close_by, row, on_message, on_moment, decides, sorted-expiries, same_stamp, same_stamp-is, same_stamp-self, is_sorted, below_all, is_lt}
use Rattle.pseudo_time.specs.declared.decisions.Decision.TheVariants.{Committed, Withdrawn}
use Rattle.effect_form.specs.declared.effects.Effect.TheVariants as effect
use Rattle.message_form.specs.declared.messages.Message.TheVariants as message
use Rattle.repository_log.specs.Logs.{record_of, record_from, first_begin, decision_of, begun}
use Rattle.record_votes.proofs.LogLemmas.{voted, book-voted, IsNew, new-voted, Single}
use Rattle.record_votes.proofs.BookLemmas.{first-of, second-of, apart-stamps}

abbrev pub said : NodeId → StampParts → Decision → Out
said to x d = record { to = to; message = message.Decided x d }

pub record Says (log : List Effect) (g : Given) : Type 0 where
  pub fits : IsNew log g.effects
  pub answers : (to : NodeId) (x : StampParts) (d : Decision) → Has (said to x d) g.outs → voted (log ++ g.effects) x ≡ Some d

-- ---- what the record says

pub unknown-open : (log : List Effect) (s : StampParts) (t : ℕ) → record_of (book log) s ≡ Some (Unknown t) → voted log s ≡ None
unknown-open log s t h = sym (book-voted log s) ∙ from-unknown (first_begin (book log) s) (decision_of (book log) s) t h

pub decided-voted : (log : List Effect) (s : StampParts) (d : Decision) → record_of (book log) s ≡ Some (Decided d) → voted log s ≡ Some d
decided-voted log s d h = sym (book-voted log s) ∙ from-decided (first_begin (book log) s) (decision_of (book log) s) d h

-- ---- effects

nothing-new : (log : List Effect) → IsNew log []
nothing-new log = record { by = λ s. Withdrawn; open_before = λ s d h. absurd h; one_way = λ s d h. absurd h; single = tt }

begin-new : (log : List Effect) (x : StampParts) (t : ℕ) → IsNew log (effect.Begin x t ∷ [])
begin-new log x t = record {
  by = λ s. Withdrawn;
  open_before = λ s d h. elim h [ inl e ↦ absurd (cc e) | inr k ↦ absurd k ];
  one_way = λ s d h. elim h [ inl e ↦ absurd (cc e) | inr k ↦ absurd k ];
  single = (tt, tt);
}

decide-new : (log : List Effect) (x : StampParts) (y : Decision) → voted log x ≡ None → IsNew log (effect.Decide x y ∷ [])
decide-new log x y none = record {
  by = λ s. y;
  open_before = λ s d h. elim h [ inl e ↦ (let k : x ≡ s = cc e in subst (λ z. voted log z ≡ None) k none) | inr k ↦ absurd k ];
  one_way = λ s d h. elim h [ inl e ↦ (let k : y ≡ d = cc e in k) | inr k ↦ absurd k ];
  single = (refl, tt);
}

-- ---- answers

no-decided : (from to : NodeId) (s x : StampParts) (d : Decision) (A : Type 0) → Has (said to x d) (owed from (message.Begun s)) → A
no-decided from to s x d A (inl e) = let k : message.Begun s ≡ message.Decided x d = ap (λ o. o.message) e in absurd (cc k)
no-decided from to s x d A (inr k) = absurd k

is-decided : (log : List Effect) (from to : NodeId) (s x : StampParts) (y d : Decision) → voted log s ≡ Some y → Has (said to x d) (owed from (message.Decided s y)) → voted log x ≡ Some d
is-decided log from to s x y d h (inl e) =
    let k : message.Decided s y ≡ message.Decided x d = ap (λ o. o.message) e in
    let a : s ≡ x = cc k in
    let b : y ≡ d = cc k in
    subst (λ z. voted log z ≡ Some d) a (h ∙ ap (λ z. Some z) b)
is-decided log from to s x y d h (inr k) = absurd k

unchanged : (log : List Effect) (s : StampParts) (d : Decision) → voted log s ≡ Some d → voted (log ++ []) s ≡ Some d
unchanged log s d h = subst (λ z. voted z s ≡ Some d) (sym (append-nil log)) h

quiet-says : (log : List Effect) → Says log quiet
quiet-says log = record { fits = nothing-new log; answers = λ to x d h. absurd h }

begin-says : (log : List Effect) (moment : ℕ) (from : NodeId) (s : StampParts) (timeout : ℕ) (r : Option RecordState)
    → ((d : Decision) → r ≡ Some (Decided d) → voted log s ≡ Some d) → Says log (begin_by moment from s timeout r)
begin-says log moment from s timeout None f = record { fits = begin-new log s _; answers = λ to x d h. no-decided from to s x d _ h }
begin-says log moment from s timeout (Some (Unknown t)) f = record { fits = nothing-new log; answers = λ to x d h. no-decided from to s x d _ h }
begin-says log moment from s timeout (Some (Decided y)) f =
    record { fits = nothing-new log; answers = λ to x d h. unchanged log x d (is-decided log from to s x y d (f y refl) h) }

close-says : (log : List Effect) (from : NodeId) (s : StampParts) (y : Decision) (r : Option RecordState)
    → ((t : ℕ) → r ≡ Some (Unknown t) → voted log s ≡ None) → ((d : Decision) → r ≡ Some (Decided d) → voted log s ≡ Some d) → Says log (close_by from s y r)
close-says log from s y None f g = quiet-says log
close-says log from s y (Some (Unknown t)) f g =
    let fits : IsNew log (effect.Decide s y ∷ []) = decide-new log s y (f t refl) in
    record { fits = fits; answers = λ to x d h. is-decided (log ++ effect.Decide s y ∷ []) from to s x y d (new-voted log (effect.Decide s y ∷ []) fits s y (inl refl)) h }
close-says log from s y (Some (Decided e)) f g =
    record { fits = nothing-new log; answers = λ to x d h. unchanged log x d (is-decided log from to s x e d (g e refl) h) }

row-says : (log : List Effect) (moment : ℕ) (from : NodeId) (m : Message) → Says log (row log moment from m)
row-says log moment from (message.Begin s timeout) = begin-says log moment from s timeout (record_of (book log) s) (decided-voted log s)
row-says log moment from (message.Commit s) = close-says log from s Committed (record_of (book log) s) (unknown-open log s) (decided-voted log s)
row-says log moment from (message.Withdraw s) = close-says log from s Withdrawn (record_of (book log) s) (unknown-open log s) (decided-voted log s)
row-says log moment from m = quiet-says log

row-if : (b : Bool) (log : List Effect) (g : Given) → Says log g → Says log (if b then g else quiet)
row-if true log g h = h
row-if false log g h = quiet-says log

-- ---- a message is taken

pub message-says : (log : List Effect) (moment : ℕ) (from : NodeId) (m : Message) → Says log (on_message log moment from m)
unfolding on_message
message-says log moment from m = row-if (is_broker from.kind) log (row log moment from m) (row-says log moment from m)

-- ---- a moment is heard

module _ (p : StampParts → Bool) (f : StampParts → Decision) where
  abbrev Chosen : StampParts → Decision → Type 0
  Chosen s d = (p s ≡ true) × (f s ≡ d)

  chosen-if : (b : Bool) (k : StampParts) (ks : List StampParts) (s : StampParts) (d : Decision) → p k ≡ b
      → (Has (effect.Decide s d) (decides (map (λ x. (x, f x)) ks)) → Chosen s d)
      → Has (effect.Decide s d) (decides (map (λ x. (x, f x)) (cond b (k ∷ ks) ks))) → Chosen s d
  chosen-if true k ks s d e g (inl h) =
      let a : k ≡ s = cc h in
      let b : f k ≡ d = cc h in
      (subst (λ z. p z ≡ true) a e, subst (λ z. f z ≡ d) a b)
  chosen-if true k ks s d e g (inr h) = g h
  chosen-if false k ks s d e g h = g h

  pub chosen : (ks : List StampParts) (s : StampParts) (d : Decision) → Has (effect.Decide s d) (decides (map (λ x. (x, f x)) (filter p ks))) → Chosen s d
  chosen [] s d h = absurd h
  chosen (k ∷ ks) s d h = chosen-if (p k) k (filter p ks) s d refl (chosen ks s d) h

due-open : (m : ℕ) (t : Option ℕ) (d : Option Decision) → is_due m (record_from t d) ≡ true → d ≡ None
due-open m None d h = absurd (false≢true h)
due-open m (Some t) None h = refl
due-open m (Some t) (Some d) h = absurd (false≢true h)

below-if : (b : Bool) (s q : StampParts) (d : Decision) (u : Option Decision) → (b ≡ true → q ≡ s) → T (is_lt (stamp_cmp s q)) → u ≡ None → (if b then Some d else u) ≡ None
below-if true s q d u e h none = absurd (true≢false (sym (same_stamp-self s) ∙ apart-stamps s s (subst (λ z. T (is_lt (stamp_cmp s z))) (e refl) h)))
below-if false s q d u e h none = none

below-unvoted : (s : StampParts) (es : List (StampParts × Decision)) → T (below_all stamp_cmp s es) → voted (decides es) s ≡ None
below-unvoted s [] h = refl
below-unvoted s (e ∷ es) h =
    below-if (same_stamp e.0 s) s e.0 e.1 (voted (decides es) s) (same_stamp-is e.0 s) (first-of (is_lt (stamp_cmp s e.0)) (below_all stamp_cmp s es) h)
    (below-unvoted s es (second-of (is_lt (stamp_cmp s e.0)) (below_all stamp_cmp s es) h))

rising-single : (es : List (StampParts × Decision)) → T (is_sorted stamp_cmp es) → Single (decides es)
rising-single [] h = tt
rising-single (e ∷ es) h = (below-unvoted e.0 es (first-of (below_all stamp_cmp e.0 es) (is_sorted stamp_cmp es) h), rising-single es (second-of (below_all stamp_cmp e.0 es) (is_sorted stamp_cmp es) h))

abbrev by_expiry : List Effect → ℕ → StampParts → Decision
by_expiry log m s = expiry_of m (record_of (book log) s)

expiries-new : (log : List Effect) (m : ℕ) → IsNew log (decides (expiries m (book log)))
expiries-new log m =
    let all : (s : StampParts) (d : Decision) → Has (effect.Decide s d) (decides (expiries m (book log))) → (is_due m (record_of (book log) s) ≡ true) × (by_expiry log m s ≡ d)
    = chosen (λ s. is_due m (record_of (book log) s)) (by_expiry log m) (begun (book log)) in
    record {
      by = by_expiry log m;
      open_before = λ s d h. sym (book-voted log s) ∙ due-open m (first_begin (book log) s) (decision_of (book log) s) (all s d h).0;
      one_way = λ s d h. (all s d h).1;
      single = rising-single (expiries m (book log)) (sorted-expiries m (book log));
    }

pub moment-says : (log : List Effect) (moment : ℕ) → Says log (on_moment log moment)
unfolding on_moment
moment-says log moment = record { fits = expiries-new log moment; answers = λ to x d h. absurd h }
