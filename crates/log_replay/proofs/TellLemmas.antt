-- One try more is told.
use Rattle.std.proofs.Common.{◌≡◌, ◌⊎◌, inl, inr, ℕ, Bool, true, false, List, [], ◌∷◌, map, refl, sym, ◌∙◌, ap, subst, Option, Some, None}
use Rattle.std.specs.Prelude.{cond, is_some}
use Rattle.std.proofs.lemmas.Bool.{true≢false}
use Rattle.std.specs.Ordering.{is_eq}
use Rattle.std.specs.Global.{Vec}
use Rattle.pseudo_time.specs.Lists.{Has}
use Rattle.pseudo_time.specs.StampParts.{StampParts, stamp_cmp}
use Rattle.pseudo_time.proofs.OrderLemmas.{same_stamp-is, same_stamp-self}
unfoldable use Rattle.pseudo_time.specs.Order.{same_stamp}
use Rattle.effect_form.specs.declared.effects.Effect.{Effect}
use Rattle.serial_model.specs.Questions.{Tree}
use Rattle.broker_core.specs.Book as books
use Rattle.broker_core.specs.Book.{book, tries}
use Rattle.world_core.specs.Deeds.{RunLogs, Try, attempt, written}
use Rattle.script_replay.specs.Attempts.{stamp_of}
use Rattle.script_replay.specs.Replays.{HasScript}
use Rattle.script_replay.specs.declared.attempts.Attempt.{Attempt}
use Rattle.script_replay.specs.declared.attempts.Put.{Put}
use Rattle.script_replay.specs.declared.attempts.Told.{Told}
use Rattle.script_replay.specs.declared.attempts.Told.TheVariants.{Given, Tried}
use Rattle.log_replay.specs.Drafts.{DraftParts, draft_parts, draft_try, read_off, try_parts}
use Rattle.log_replay.specs.Folders.{Reads}
use Rattle.log_replay.specs.Puts.{versions_in}
use Rattle.log_replay.specs.declared.drafts.Draft.{Draft}
use Rattle.log_replay.specs.Telling.{AreTold, IsTried}
use Rattle.log_replay.specs.Tellers.{AllScripts}
use Rattle.log_replay.specs.Tells.{Says}
use Rattle.log_replay.proofs.DraftLemmas.{read-tries, try-attempts}

-- an entry of a map under a stamp, beside the others
at-stamp : {X : Type 0} (s t : StampParts) (v w : Option X) → is_eq (stamp_cmp s t) ≡ true → cond (is_eq (stamp_cmp s t)) v w ≡ v
at-stamp s t v w e = ap (λ (b : Bool). cond b v w) e

off-stamp : {X : Type 0} (s t : StampParts) (v w : Option X) → is_eq (stamp_cmp s t) ≡ false → cond (is_eq (stamp_cmp s t)) v w ≡ w
off-stamp s t v w e = ap (λ (b : Bool). cond b v w) e

more-tried : (k : RunLogs) (ts : List Try) (t : Try) (x : Told) → IsTried k ts x → IsTried k (t ∷ ts) x
more-tried k ts t (Tried a) h = (h.0, inr h.1, h.2)
more-tried k ts t (Given s ps) h = h

-- `t` is told by `a`, of which nothing was told before
module _ (k : RunLogs) (ts : List Try) (told new : StampParts → Option Told) (puts rest : StampParts → Option (Vec Put)) (before : AreTold k ts told puts)
    (t : Try) (a : Attempt) (stamp : StampParts) (same : t.stamp ≡ stamp) (says : Says k t a) (script : HasScript (Tried a)) (none : told stamp ≡ None)
    (news : (s : StampParts) → new s ≡ cond (is_eq (stamp_cmp stamp s)) (Some (Tried a)) (told s))
    (rests : (s : StampParts) → rest s ≡ cond (is_eq (stamp_cmp stamp s)) None (puts s)) where
  new-here : (s : StampParts) → is_eq (stamp_cmp stamp s) ≡ true → new s ≡ Some (Tried a)
  new-here s e = news s ∙ at-stamp stamp s (Some (Tried a)) (told s) e

  new-there : (s : StampParts) → is_eq (stamp_cmp stamp s) ≡ false → new s ≡ told s
  new-there s e = news s ∙ off-stamp stamp s (Some (Tried a)) (told s) e

  is-self : is_eq (stamp_cmp stamp stamp) ≡ true
  unfolding same_stamp
  is-self = same_stamp-self stamp

  is-stamp : (s : StampParts) → is_eq (stamp_cmp stamp s) ≡ true → stamp ≡ s
  unfolding same_stamp
  is-stamp s e = same_stamp-is stamp s e

  -- what was told before is told still
  kept : (s : StampParts) (x : Told) → told s ≡ Some x → new s ≡ Some x
  kept s x h = by (is_eq (stamp_cmp stamp s)) refl
    where
      by : (b : Bool) → is_eq (stamp_cmp stamp s) ≡ b → new s ≡ Some x
      by true e = absurd (let c : ◌≡◌ {A = Option Told} None (Some x) = sym none ∙ (ap told (is-stamp s e) ∙ h) in cc c)
      by false e = new-there s e ∙ h

  pub told-more : AreTold k (t ∷ ts) new rest
  told-more = record { each = each; scripts = scripts; tried = tried; left = left; gone = gone }
    where
      one : (b : Bool) (s : StampParts) (x : Told) → is_eq (stamp_cmp stamp s) ≡ b → new s ≡ Some x → ((Tried a ≡ x) × (stamp ≡ s)) ⊎ (told s ≡ Some x)
      one true s x e h = let c : Some (Tried a) ≡ Some x = sym (new-here s e) ∙ h in let d : Tried a ≡ x = cc c in inl (d, is-stamp s e)
      one false s x e h = inr (sym (new-there s e) ∙ h)

      each : (s : StampParts) (x : Told) → new s ≡ Some x → (stamp_of x ≡ s) × IsTried k (t ∷ ts) x
      each s x h = elim (one (is_eq (stamp_cmp stamp s)) s x refl h) [
        | inl w ↦ subst (λ (z : Told). (stamp_of z ≡ s) × IsTried k (t ∷ ts) z) w.0 (says.stamp ∙ (same ∙ w.1), (t, inl refl, says))
        | inr j ↦ (let w = before.each s x j in (w.0, more-tried k ts t x w.1))
      ]

      scripts : (s : StampParts) (x : Told) → new s ≡ Some x → HasScript x
      scripts s x h = elim (one (is_eq (stamp_cmp stamp s)) s x refl h) [
        | inl w ↦ subst HasScript w.0 script
        | inr j ↦ before.scripts s x j
      ]

      tried : (u : Try) → Has u (t ∷ ts) → (b : Attempt) × (new u.stamp ≡ Some (Tried b)) × Says k u b
      tried u (inl e) = (a, ap new (ap (λ (z : Try). z.stamp) (sym e) ∙ same) ∙ new-here stamp is-self, subst (λ (z : Try). Says k z a) e says)
      tried u (inr h) = let w = before.tried u h in (w.0, kept u.stamp (Tried w.0) w.1, w.2)

      left : (s : StampParts) → new s ≡ None → versions_in (rest s) ≡ written k s
      left s h = by (is_eq (stamp_cmp stamp s)) refl
        where
          by : (b : Bool) → is_eq (stamp_cmp stamp s) ≡ b → versions_in (rest s) ≡ written k s
          by true e = absurd (let c : ◌≡◌ {A = Option Told} (Some (Tried a)) None = sym (new-here s e) ∙ h in cc c)
          by false e = ap versions_in (rests s ∙ off-stamp stamp s None (puts s) e) ∙ before.left s (sym (new-there s e) ∙ h)

      gone : (s : StampParts) (x : Told) → new s ≡ Some x → rest s ≡ None
      gone s x h = by (is_eq (stamp_cmp stamp s)) refl
        where
          by : (b : Bool) → is_eq (stamp_cmp stamp s) ≡ b → rest s ≡ None
          by true e = rests s ∙ at-stamp stamp s None (puts s) e
          by false e = rests s ∙ (off-stamp stamp s None (puts s) e ∙ before.gone s x (sym (new-there s e) ∙ h))

-- nothing is told yet
pub told-none : (k : RunLogs) (told : StampParts → Option Told) (puts : StampParts → Option (Vec Put)) → ((s : StampParts) → told s ≡ None) → ((s : StampParts) → versions_in (puts s) ≡ written k s) → AreTold k [] told puts
told-none k told puts none all = record {
  each = λ s x h. absurd (let c : ◌≡◌ {A = Option Told} None (Some x) = sym (none s) ∙ h in cc c);
  scripts = λ s x h. absurd (let c : ◌≡◌ {A = Option Told} None (Some x) = sym (none s) ∙ h in cc c);
  tried = λ t h. absurd h;
  left = λ s h. all s;
  gone = λ s x h. absurd (let c : ◌≡◌ {A = Option Told} None (Some x) = sym (none s) ∙ h in cc c);
}

-- ---- the tries of a log

module _ (script : List ℕ → Tree) where
  same-text : (d : Draft) (t : books.Try) → try_parts t ≡ draft_parts d → Reads script t.task.script → Reads script d.text
  same-text d t e h = subst (Reads script) (ap (λ (z : DraftParts). z.text) e) h

  one-text : (parts : List DraftParts) (ts : List books.Try) → parts ≡ map try_parts ts → ((t : books.Try) → Has t ts → Reads script t.task.script) → (p : DraftParts) → Has p parts → Reads script p.text
  one-text parts ts e h p k = at ts h (subst (Has p) e k)
    where
      at : (us : List books.Try) → ((t : books.Try) → Has t us → Reads script t.task.script) → Has p (map try_parts us) → Reads script p.text
      at [] h k = absurd k
      at (t ∷ us) h (inl q) = subst (λ (z : DraftParts). Reads script z.text) q (h t (inl refl))
      at (t ∷ us) h (inr k) = at us (λ u j. h u (inr j)) k

  mapped : (items : List Draft) (d : Draft) → Has d items → Has (draft_parts d) (map draft_parts items)
  mapped [] d h = h
  mapped (x ∷ items) d (inl e) = inl (ap draft_parts e)
  mapped (x ∷ items) d (inr h) = inr (mapped items d h)

  pub reads-drafts : (ds : List Draft) (log : List Effect) → map draft_parts ds ≡ (read_off log).tries → ((t : books.Try) → Has t (tries (book log)) → Reads script t.task.script) → (d : Draft) → Has d ds → Reads script d.text
  reads-drafts ds log e h d k = one-text (map draft_parts ds) (tries (book log)) (e ∙ read-tries log) h (draft_parts d) (mapped ds d k)

  pub drafts-are : (ds : List Draft) (log : List Effect) → map draft_parts ds ≡ (read_off log).tries → map (draft_try script) (map draft_parts ds) ≡ map (attempt script) (tries (book log))
  drafts-are ds log e = ap (map (draft_try script)) (e ∙ read-tries log) ∙ try-attempts script (tries (book log))

-- nothing is told of it
pub not-told : {X : Type 0} (o : Option X) (b : Bool) → b ≡ is_some o → b ≡ false → o ≡ None
not-told None b e f = refl
not-told (Some x) b e f = absurd (true≢false (sym e ∙ f))

-- ---- all logs of brokers

pub told-same : (k : RunLogs) (ts us : List Try) (told : StampParts → Option Told) (puts : StampParts → Option (Vec Put)) → ts ≡ us → AreTold k ts told puts → AreTold k us told puts
told-same k ts us told puts e h = subst (λ (z : List Try). AreTold k z told puts) e h

-- ---- which stamps are told

-- one stamp more
pub key-more : (ss : List StampParts) (told new : StampParts → Option Told) (stamp : StampParts) (y : Told) → ((s : StampParts) (x : Told) → told s ≡ Some x → Has s ss) →
    ((s : StampParts) → new s ≡ cond (is_eq (stamp_cmp stamp s)) (Some y) (told s)) → (s : StampParts) (x : Told) → new s ≡ Some x → Has s (stamp ∷ ss)
unfolding same_stamp
key-more ss told new stamp y keys news s x h = by (is_eq (stamp_cmp stamp s)) refl
  where
    by : (b : Bool) → is_eq (stamp_cmp stamp s) ≡ b → Has s (stamp ∷ ss)
    by true e = inl (same_stamp-is stamp s e)
    by false e = inr (keys s x (sym (off-stamp stamp s (Some y) (told s) e) ∙ (sym (news s) ∙ h)))

-- and all have scripts
pub scripts-more : (told new : StampParts → Option Told) (stamp : StampParts) (y : Told) → AllScripts told → HasScript y → ((s : StampParts) → new s ≡ cond (is_eq (stamp_cmp stamp s)) (Some y) (told s)) → AllScripts new
scripts-more told new stamp y all has news s x h = by (is_eq (stamp_cmp stamp s)) refl
  where
    by : (b : Bool) → is_eq (stamp_cmp stamp s) ≡ b → HasScript x
    by true e = let c : Some y ≡ Some x = sym (at-stamp stamp s (Some y) (told s) e) ∙ (sym (news s) ∙ h) in let d : y ≡ x = cc c in subst HasScript d has
    by false e = all s x (sym (off-stamp stamp s (Some y) (told s) e) ∙ (sym (news s) ∙ h))

pub scripts-none : (told : StampParts → Option Told) → ((s : StampParts) → told s ≡ None) → AllScripts told
scripts-none told none s x h = absurd (let c : ◌≡◌ {A = Option Told} None (Some x) = sym (none s) ∙ h in cc c)

-- something is told of it
pub is-told : {X : Type 0} (o : Option X) (b : Bool) → b ≡ is_some o → b ≡ true → (x : X) × (o ≡ Some x)
is-told None b e f = absurd (true≢false (sym f ∙ e))
is-told (Some x) b e f = (x, refl)

no-key : {X : Type 0} (o p : Option X) (x : X) → o ≡ p → o ≡ Some x → p ≡ Some x
no-key o p x e f = sym e ∙ f
