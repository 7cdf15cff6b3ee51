-- a turn depends on the whole log and on what was heard; what it gives is added
use Rattle.broker_laws.proofs.Names.{Task, Effect, Out, book, keep, owed, news, row, stage, standing, Desk, Go, Hear, Input, Take, desk_turn, fuel, hears, note, note_if, reply, say, send, settle_up, state, all_effects, Heard, Reply, Adds, Hears, Ignored, Tree, ◌≡◌, ℕ, zero, suc, true, List, [], ◌∷◌, ◌++◌, refl, sym, ◌∙◌, ap, subst, Option, Some, None, append_assoc, append-nil, afresh, joined}

module _ (script : List ℕ → Tree) (me run : ℕ) (acts : List Task) where
  -- x began at the whole log of d
  same-state : (d x : Desk) → x.past ≡ all_effects d → state script me run acts (joined d x) ≡ state script me run acts x
  same-state d x b = ap (λ l. book (keep script me run acts l)) (append_assoc x.added d.added d.past ∙ ap (λ l. x.added ++ l) (sym b))

  settle-past : (n : ℕ) (x : Desk) → (settle_up script me run acts n x).past ≡ x.past
  unfolding settle_up
  settle-past zero x = refl
  settle-past (suc n) x = by (owed script me run acts (state script me run acts x) x.heard) (λ y. settle-past n y)
    where
      by : (o : Option Effect) → ((y : Desk) → (settle_up script me run acts n y).past ≡ y.past) → (note_if (settle_up script me run acts n) o x).past ≡ x.past
      by None k = refl
      by (Some f) k = k (note f x)

  joined-if : (next : Desk → Desk) (d x : Desk) (o : Option Effect) → ((f : Effect) → next (joined d (note f x)) ≡ joined d (next (note f x))) →
      note_if next o (joined d x) ≡ joined d (note_if next o x)
  joined-if next d x None k = refl
  joined-if next d x (Some f) k = k f

  settle-joined : (n : ℕ) (d x : Desk) → x.past ≡ all_effects d → settle_up script me run acts n (joined d x) ≡ joined d (settle_up script me run acts n x)
  unfolding settle_up
  settle-joined zero d x b = refl
  settle-joined (suc n) d x b =
      subst (λ s. note_if (settle_up script me run acts n) (owed script me run acts s x.heard) (joined d x)
      ≡ joined d (note_if (settle_up script me run acts n) (owed script me run acts (state script me run acts x) x.heard) x))
      (sym (same-state d x b))
      (joined-if (settle_up script me run acts n) d x (owed script me run acts (state script me run acts x) x.heard) (λ f. settle-joined n d (note f x) b))

  send-joined : (d x : Desk) (o : Option Out) → send o (joined d x) ≡ joined d (send o x)
  send-joined d x None = refl
  send-joined d x (Some o) = ap (λ os. record { past = d.past; added = x.added ++ d.added; outs = os; heard = x.heard }) (append_assoc d.outs x.outs (o ∷ []))

  say-joined : (d x : Desk) → x.past ≡ all_effects d → say script me run acts (joined d x) ≡ joined d (say script me run acts x)
  say-joined d x b =
      subst (λ s. send (standing (stage script run s x.heard)) (joined d x) ≡ joined d (say script me run acts x))
      (sym (same-state d x b)) (send-joined d x _)

  both-joined : (d x : Desk) → x.past ≡ all_effects d →
      say script me run acts (settle_up script me run acts (fuel acts) (joined d x)) ≡ joined d (say script me run acts (settle_up script me run acts (fuel acts) x))
  both-joined d x b =
      subst (λ y. say script me run acts y ≡ joined d (say script me run acts (settle_up script me run acts (fuel acts) x)))
      (sym (settle-joined (fuel acts) d x b))
      (say-joined d (settle_up script me run acts (fuel acts) x) (settle-past (fuel acts) x ∙ b))

  same-outs : (d : Desk) (h : Heard) → record { past = d.past; added = d.added; outs = d.outs; heard = h } ≡ joined d (record { past = all_effects d; added = []; outs = []; heard = h })
  same-outs d h = ap (λ os. record { past = d.past; added = d.added; outs = os; heard = h }) (sym (append-nil d.outs))

  added-outs : (d : Desk) (f : Effect) → note f d ≡ joined d (note f (afresh d))
  added-outs d f = ap (λ os. record { past = d.past; added = f ∷ d.added; outs = os; heard = d.heard }) (sym (append-nil d.outs))

  reply-joined : (d : Desk) (r : Reply) → reply script me run acts d r ≡ joined d (reply script me run acts (afresh d) r)
  reply-joined d Ignored = same-outs d d.heard
  reply-joined d (Hears h) = ap (λ y. say script me run acts (settle_up script me run acts (fuel acts) y)) (same-outs d h) ∙ both-joined d (hears h (afresh d)) refl
  reply-joined d (Adds f) = ap (λ y. say script me run acts (settle_up script me run acts (fuel acts) y)) (added-outs d f) ∙ both-joined d (note f (afresh d)) refl

  pub parts : (d : Desk) (i : Input) → desk_turn script me run acts d i ≡ joined d (desk_turn script me run acts (afresh d) i)
  parts d Go =
      let h : Heard = record d.heard { gone = true } in
      ap (λ y. say script me run acts (settle_up script me run acts (fuel acts) y)) (same-outs d h) ∙ both-joined d (hears h (afresh d)) refl
  parts d (Hear m) = ap (λ y. say script me run acts y) (same-outs d d.heard) ∙ say-joined d (afresh d) refl
  parts d (Take from m) = reply-joined d (row script (stage script run (state script me run acts d) d.heard) d.heard (news m))
