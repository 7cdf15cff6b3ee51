-- A gate moves what is open: messages that were owed were sent, and all else stands as it stood.
use Rattle.complete_law.proofs.Names.{Has, StampParts, same_stamp, same_stamp-self, NodeId, Effect, Message, Out, Tree, or_else, settle_of, known, marks, Ignored, Heard, time_of, news, row, Stage, Refused, Opening, Asking, Finishing, Closing, standing, repository, ToRead, ToWrite, decide-settles, settled-log, leaves, numbered, ◌≡◌, ℕ, zero, suc, Bool, true, false, not, List, [], ◌∷◌, ◌++◌, reverse, refl, sym, ◌∙◌, subst, Option, Some, None, slice_get, if◌then◌else◌, inl, inr, false≢true, has-reverse, knows, Nothing_new, has-at, Known, knows-has}
use Rattle.effect_form.specs.declared.effects.Effect.TheVariants as effect
use Rattle.message_form.specs.declared.messages.Message.TheVariants as message

-- ---- places in a list

-- an element of what is added stands behind all that was there
pub at-end : {X : Type 0} (xs ys : List X) (x : X) → Has x ys → (k : ℕ) × (slice_get (xs ++ ys) k ≡ Some x) × (slice_get xs k ≡ None)
at-end [] ys x h = let k = has-at ys x h in (k.0, k.1, refl)
at-end (z ∷ xs) ys x h = let k = at-end xs ys x h in (suc k.0, k.1, k.2)

-- ---- which messages leave

-- a request leaves
pub request-leaves : (log : List Effect) (st : Stage) (o : Out) → standing st ≡ Some o → leaves log o ≡ true
request-leaves log (Refused t) o e = let q : record { to = repository t.stamp.home; message = message.Withdraw t.stamp } ≡ o = cc e in subst (λ z. leaves log z ≡ true) q refl
request-leaves log (Opening t) o e = let q : record { to = repository t.stamp.home; message = message.Begin t.stamp t.task.timeout } ≡ o = cc e in subst (λ z. leaves log z ≡ true) q refl
request-leaves log (Asking t (ToRead a)) o e = let q : record { to = repository a.repository; message = message.Read (time_of t) a } ≡ o = cc e in subst (λ z. leaves log z ≡ true) q refl
request-leaves log (Asking t (ToWrite a v)) o e = let q : record { to = repository a.repository; message = message.Write (time_of t) a v } ≡ o = cc e in subst (λ z. leaves log z ≡ true) q refl
request-leaves log (Finishing t) o e = let q : record { to = repository t.stamp.home; message = message.Commit t.stamp } ≡ o = cc e in subst (λ z. leaves log z ≡ true) q refl
request-leaves log (Closing t) o e = let q : record { to = repository t.stamp.home; message = message.Withdraw t.stamp } ≡ o = cc e in subst (λ z. leaves log z ≡ true) q refl
request-leaves log _ o e = absurd (cc e)

-- nothing new is ignored
nothing-new : (script : List ℕ → Tree) (st : Stage) (h : Heard) → row script st h Nothing_new ≡ Ignored
nothing-new script (Asking t (ToRead a)) h = refl
nothing-new script x h = refl

-- an answer that is heeded leaves
pub answer-leaves : (script : List ℕ → Tree) (st : Stage) (h : Heard) (log : List Effect) (to : NodeId) (m : Message) → (row script st h (news m) ≡ Ignored → ⊥) → leaves log (record { to = to; message = m }) ≡ true
answer-leaves script st h log to (message.Ask s) n = absurd (n (nothing-new script st h))
answer-leaves script st h log to _ n = refl

-- what a log learned of, it knows
pub learn-settles : (l : List Effect) (s : StampParts) (c : Bool) → Has (effect.Learn s c) l → (x : Bool) × (settle_of (marks l) s ≡ Some x)
unfolding settle_of
learn-settles [] s c h = absurd h
learn-settles (f ∷ l) s c (inr h) = let k = learn-settles l s c h in (k.0, settled-log l f s k.0 k.1)
learn-settles (f ∷ l) s c (inl e) = subst (λ g. (x : Bool) × (settle_of (marks (g ∷ l)) s ≡ Some x)) (sym e) (go (settle_of (marks l) s) (same_stamp s s) (same_stamp-self s))
  where
    go : (u : Option Bool) (b : Bool) → b ≡ true → (x : Bool) × ((if b then or_else u c else u) ≡ Some x)
    go None true q = (c, refl)
    go (Some y) true q = (y, refl)
    go u false q = absurd (false≢true q)

-- an Ask leaves where its stamp isn't known
pub ask-leaves : (l : List Effect) (s : StampParts) (to : NodeId) → known (reverse l) s ≡ None → leaves l (record { to = to; message = message.Ask s }) ≡ true
ask-leaves l s to none = (elim (knows l s) as (λ k. knows l s ≡ k → not k ≡ true) [ false ↦ λ e. refl | true ↦ λ e. absurd (by (knows-has l s e)) ]) refl
  where
    never : (x : Bool) → known (reverse l) s ≡ Some x → ⊥
    never x e = let no : Some x ≡ None = sym e ∙ none in cc no

    by : Known l s → ⊥
    by (inl (d, h)) = let k = decide-settles (reverse l) s d (has-reverse l (effect.Decide s d) h) in never k.0 k.1
    by (inr (c, h)) = let k = learn-settles (reverse l) s c (has-reverse l (effect.Learn s c) h) in never k.0 k.1

pub numbered-kept : {X : Type 0} (xs ys : List X) (k : ℕ) (x : X) → numbered xs k ≡ Some x → numbered (xs ++ ys) k ≡ Some x
numbered-kept xs ys zero x e = absurd (cc e)
numbered-kept [] ys (suc k) x e = absurd (cc e)
numbered-kept (y ∷ xs) ys (suc zero) x e = e
numbered-kept (y ∷ xs) ys (suc (suc k)) x e = numbered-kept xs ys (suc k) x e

pub numbered-before : {X : Type 0} (xs ys : List X) (k : ℕ) → numbered (xs ++ ys) k ≡ None → numbered xs k ≡ None
numbered-before xs ys zero e = refl
numbered-before [] ys (suc k) e = refl
numbered-before (y ∷ xs) ys (suc zero) e = absurd (cc e)
numbered-before (y ∷ xs) ys (suc (suc k)) e = numbered-before xs ys (suc k) e
