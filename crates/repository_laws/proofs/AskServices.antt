-- An Ask that is taken is kept or told, where its attempt has begun.
use Rattle.repository_laws.proofs.Names.{Has, has-right, StampParts, same_stamp, same_stamp-of, Decision, RecordState, Effect, or_else, Asker, Hand, asker_cmp, now, repository, is_commit, record_of, ask_as, on_ask, on_message, tell_of, ◌≡◌, ◌⊎◌, ℕ, Bool, true, false, List, [], ◌∷◌, refl, sym, ◌∙◌, subst, Option, Some, None, if◌then◌else◌, inl, inr, arith, common_steps, eq-eqb, false≢true, insert_key, match_ordering, nat_cmp, ordering_then, Ordering, Less, Equal, Greater, stamp_cmp, stamp_cmp-exact, decision_of, first_begin, record_from}
use Rattle.commit_record.specs.declared.states.RecordState.TheVariants as state
use Rattle.effect_form.specs.declared.effects.Effect.TheVariants as effect
use Rattle.message_form.specs.declared.messages.Message.TheVariants as message

-- a Begin makes a record
begins-first : (l : List Effect) (s : StampParts) (d : ℕ) → Has (effect.Begin s d) l → first_begin l s ≡ None → ⊥
unfolding first_begin
begins-first [] s d h n = h
begins-first (effect.Begin p x ∷ l) s d h n = go (λ i z. begins-first l s d i z) (same_stamp p s) refl (first_begin l s) refl n h
  where
    first : effect.Begin p x ≡ effect.Begin s d → p ≡ s
    first e = cc e

    go : (Has (effect.Begin s d) l → first_begin l s ≡ None → ⊥) → (b : Bool) → same_stamp p s ≡ b → (u : Option ℕ) → first_begin l s ≡ u → (if b then or_else u x else u) ≡ None → Has (effect.Begin s d) (effect.Begin p x ∷ l) → ⊥
    go again true e None q n h = absurd (cc n)
    go again true e (Some y) q n h = absurd (cc n)
    go again false e u q n (inl i) = false≢true (sym e ∙ same_stamp-of p s (first i))
    go again false e u q n (inr i) = again i (q ∙ n)
begins-first (_ ∷ l) s d (inr h) n = begins-first l s d h n
begins-first (_ ∷ l) s d (inl e) n = absurd (cc e)

pub has-record : (l : List Effect) (s : StampParts) (d : ℕ) → Has (effect.Begin s d) l → record_of l s ≡ None → ⊥
has-record l s d h n = go (first_begin l s) refl (decision_of l s) n
  where
    go : (u : Option ℕ) → first_begin l s ≡ u → (v : Option Decision) → record_from u v ≡ None → ⊥
    go None q v n = begins-first l s d h q
    go (Some t) q None n = absurd (cc n)
    go (Some t) q (Some x) n = absurd (cc n)

-- what is inserted stands in the set
asker-exact : (a b : Asker) → asker_cmp a b ≡ Equal → a ≡ b
asker-exact a b e = go (nat_cmp a.repository b.repository) refl e
  where
    same : (m n : ℕ) → nat_cmp m n ≡ Equal → m ≡ n
    same m n e = grind (arith, common_steps)

    both : (m n : ℕ) (s t : StampParts) → m ≡ n → s ≡ t → (let x : Asker = record { repository = m; stamp = s } in let y : Asker = record { repository = n; stamp = t } in x ≡ y)
    both m n s t p q = λ i. record { repository = p i; stamp = q i }

    go : (o : Ordering) → nat_cmp a.repository b.repository ≡ o → ordering_then o (stamp_cmp a.stamp b.stamp) ≡ Equal → a ≡ b
    go Equal q e = both a.repository b.repository a.stamp b.stamp (same a.repository b.repository q) (stamp_cmp-exact a.stamp b.stamp e)
    go _ q e = absurd (cc e)

set-has : (xs : List Asker) (a : Asker) → Has a (insert_key asker_cmp xs a)
set-has [] a = inl refl
set-has (x ∷ xs) a = go (set-has xs a) (asker_cmp a x) refl
  where
    go : Has a (insert_key asker_cmp xs a) → (o : Ordering) → asker_cmp a x ≡ o → Has a (match_ordering o (a ∷ x ∷ xs) (x ∷ xs) (x ∷ insert_key asker_cmp xs a))
    go again Less q = inl refl
    go again Equal q = inl (sym (asker-exact a x q))
    go again Greater q = inr again

ask-as-serves : (h : Hand) (r : ℕ) (s : StampParts) (u : Option RecordState) → (u ≡ None → ⊥) → Has (record { repository = r; stamp = s }) (ask_as h (repository r) s u).askers ⊎ ((c : Bool) × Has (tell_of (record { repository = r; stamp = s }) c) (ask_as h (repository r) s u).outs)
ask-as-serves h r s None some = absurd (some refl)
ask-as-serves h r s (Some (state.Unknown t)) some = inl (set-has h.askers (record { repository = r; stamp = s }))
ask-as-serves h r s (Some (state.Decided d)) some = inr (is_commit d, has-right h.outs (tell_of (record { repository = r; stamp = s }) (is_commit d) ∷ []) (tell_of (record { repository = r; stamp = s }) (is_commit d)) (inl refl))

pub ask-serves : (h : Hand) (r : ℕ) (s : StampParts) → s.home ≡ h.number → (record_of (now h) s ≡ None → ⊥) →
    Has (record { repository = r; stamp = s }) (on_message h (repository r) (message.Ask s)).askers ⊎ ((c : Bool) × Has (tell_of (record { repository = r; stamp = s }) c) (on_message h (repository r) (message.Ask s)).outs)
unfolding on_message on_ask
ask-serves h r s home some = subst (λ t. Has (record { repository = r; stamp = s }) (if t then ask_as h (repository r) s (record_of (now h) s) else h).askers ⊎ ((c : Bool) × Has (tell_of (record { repository = r; stamp = s }) c) (if t then ask_as h (repository r) s (record_of (now h) s) else h).outs))
    (sym (eq-eqb s.home h.number home)) (ask-as-serves h r s (record_of (now h) s) some)
