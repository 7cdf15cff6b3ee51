-- A turn of a repository refuses nothing but the write that it takes, and this one only where its log says so.
use Rattle.std.specs.Cmp.{signed_Decides}
use Rattle.std.specs.Cmp.Lexicographic.{bytes_decides}
use Rattle.complete_law.proofs.Names.{Every, Has, every-append, every-map, StampParts, TimeParts, lt, same_time, same_time-of, NodeId, ObjectId, Value, Effect, Message, Out, WriteStep, stands_written, write_step, floor_of, is_settled, Hand, note, send, accepts, on_learn, on_message, on_write, write_as, hand_at, known, marks, HeldRead, every-of, IsRefusal, ◌≡◌, Bool, true, false, ◌&&◌, ℕ, List, [], ◌∷◌, refl, sym, ◌∙◌, ap, subst, Option, Some, None, if◌then◌else◌, inl, inr, true≢false, or_left, or_right, has_put, alive, is_alive, same_object-of, and-both, Mind}
use Rattle.value_form.specs.declared.values.Value.TheVariants.{Nothing, Number, Text}
use Rattle.effect_form.specs.declared.effects.Effect.TheVariants as effect
use Rattle.message_form.specs.declared.messages.Message.TheVariants as message
use Rattle.object_history.specs.declared.marks.Mark.{Mark}
use Rattle.object_history.specs.declared.marks.Mark.TheVariants as mark
use Rattle.object_history.specs.declared.steps.WriteStep.TheVariants as write
use Rattle.object_history.specs.Objects.{same_object, same_value}
use Rattle.world_core.proofs.Refusals.{Ok, OfRequest, OnFloor, Says, on-learn, on-message, refused-under}

-- ---- marks of a log

pub put-marked : (l : List Effect) (o : ObjectId) (x : TimeParts) (v : Value) → Has (effect.Put o x v) l → Has (mark.Put o x v) (marks l)
put-marked [] o x v h = absurd h
put-marked (effect.Put a y w ∷ l) o x v (inl q) = let e : a ≡ o = cc q in let f : y ≡ x = cc q in let g : w ≡ v = cc q in inl (ap (λ z. mark.Put z y w) e ∙ ap (λ z. mark.Put o z w) f ∙ ap (λ z. mark.Put o x z) g)
put-marked (effect.Put a y w ∷ l) o x v (inr h) = inr (put-marked l o x v h)
put-marked (effect.Stretch a y ∷ l) o x v (inr h) = inr (put-marked l o x v h)
put-marked (effect.Decide s d ∷ l) o x v (inr h) = inr (put-marked l o x v h)
put-marked (effect.Learn s c ∷ l) o x v (inr h) = inr (put-marked l o x v h)
put-marked (effect.Mark at ∷ l) o x v (inr h) = inr (put-marked l o x v h)
put-marked (f ∷ l) o x v (inl q) = absurd (cc q)
put-marked (f ∷ l) o x v (inr h) = put-marked l o x v h

-- ---- a version that stands

same_value-self : (v : Value) → same_value v v ≡ true
unfolding same_value
same_value-self Nothing = refl
same_value-self (Number a) = (signed_Decides a a).1 refl
same_value-self (Text a) = (bytes_decides a a).1 refl

has_put-has : (o : ObjectId) (t : TimeParts) (v : Value) (m : List Mark) → Has (mark.Put o t v) m → has_put o t v m ≡ true
unfolding has_put
has_put-has o t v [] h = absurd h
has_put-has o t v (mark.Put a x w ∷ m) (inl q) =
    let e : a ≡ o = cc q in let f : x ≡ t = cc q in let g : w ≡ v = cc q in
    or_left (same_object a o && (same_time x t && same_value w v)) (has_put o t v m)
    (and-both (same_object a o) (same_time x t && same_value w v) (same_object-of a o e) (and-both (same_time x t) (same_value w v) (same_time-of x t f) (subst (λ z. same_value w z ≡ true) g (same_value-self w))))
has_put-has o t v (mark.Put a x w ∷ m) (inr h) = or_right (same_object a o && (same_time x t && same_value w v)) (has_put o t v m) (has_put-has o t v m h)
has_put-has o t v (_ ∷ m) (inl q) = absurd (cc q)
has_put-has o t v (_ ∷ m) (inr h) = has_put-has o t v m h

-- a Put of an attempt that isn't known stands
pub put-written : (l : List Effect) (o : ObjectId) (t : TimeParts) (v : Value) → known l t.stamp ≡ None → Has (effect.Put o t v) l → stands_written (marks l) o t v ≡ true
put-written l o t v n h = and-both (alive (marks l) t) (has_put o t v (marks l)) (ap (λ u. is_alive u) n) (has_put-has o t v (marks l) (put-marked l o t v h))

-- ---- turns

abbrev pub IsRefusing : WriteStep → Type 0
IsRefusing write.Put = ⊥
IsRefusing write.Again = ⊥
IsRefusing _ = Unit {0}

-- none of these messages refuses a write
abbrev pub ArePlain : List Out → Type 0
ArePlain outs = Every (λ (o : Out). IsRefusal o.message → ⊥) outs

-- the message is no Write
abbrev IsNoWrite : Message → Type 0
IsNoWrite (message.Write t o v) = ⊥
IsNoWrite _ = Unit {0}

-- a step that refuses nothing
abbrev IsPlainStep : TimeParts → WriteStep → Type 0
IsPlainStep t w = IsRefusing w → ⊥

said-plain : (m : Message) → Says IsPlainStep m → IsRefusal m → ⊥
said-plain (message.LaterRead t e) h i = h tt
said-plain (message.LaterVersion t x) h i = h tt
said-plain _ h i = i

-- where there is no floor, all stand on it
on-none : (f : Option TimeParts) (t : TimeParts) → f ≡ None → (e : TimeParts) → f ≡ Some e → lt t e ≡ false
on-none f t none e q = let no : None ≡ Some e = sym none ∙ q in cc no

module _ (r : ℕ) (log : List Effect) (mind : Mind) (none : floor_of (marks log) ≡ None) where
  begun-plain : Ok IsPlainStep log (hand_at r log mind)
  begun-plain = record { past = refl; outs = tt; held = every-of (λ (e : TimeParts × HeldRead). OnFloor IsPlainStep log e.0) mind.held (λ e h. on-none (floor_of (marks log)) e.0 none); floors = refl }

  outs-plain : (h : Hand) → Ok IsPlainStep log h → ArePlain h.outs
  outs-plain h k = every-map (λ (o : Out). Says IsPlainStep o.message) (λ (o : Out). IsRefusal o.message → ⊥) (λ o s. said-plain o.message s) h.outs k.outs

  pub learn-plain : (s : StampParts) (c : Bool) → ArePlain (on_learn (hand_at r log mind) s c).outs
  learn-plain s c = outs-plain (on_learn (hand_at r log mind) s c) (on-learn IsPlainStep log (hand_at r log mind) s c begun-plain)

  of-other : (m : Message) → IsNoWrite m → OfRequest IsPlainStep log log m
  of-other (message.Write t o v) n = absurd n
  of-other (message.Read t o) n = λ e q. absurd (refused-under (floor_of (marks log)) (marks log) o t e q (on-none (floor_of (marks log)) t none))
  of-other _ n = tt

  other-plain : (from : NodeId) (m : Message) → IsNoWrite m → ArePlain (on_message (hand_at r log mind) from m).outs
  other-plain from m other = outs-plain (on_message (hand_at r log mind) from m) (on-message IsPlainStep log (hand_at r log mind) from m begun-plain (λ a. of-other m other))

send-plain : (h : Hand) (to : NodeId) (m : Message) → (IsRefusal m → ⊥) → ArePlain h.outs → ArePlain (send to m h).outs
send-plain h to m plain k = every-append (λ (o : Out). IsRefusal o.message → ⊥) h.outs (record { to = to; message = m } ∷ []) k (plain, tt)

write-as-plain : (h : Hand) (from : NodeId) (t : TimeParts) (o : ObjectId) (v : Value) (stands is_known : Bool) (s : WriteStep) → (stands ≡ false → is_known ≡ false → IsRefusing s → ⊥) → ArePlain h.outs →
    ArePlain (write_as h from t o v stands is_known s).outs
write-as-plain h from t o v true is_known s never k = send-plain h from (message.Stored t) (λ i. i) k
write-as-plain h from t o v false true s never k = send-plain h from (message.Ended t) (λ i. i) k
write-as-plain h from t o v false false write.Put never k = send-plain (note (effect.Put o t v) h) from (message.Stored t) (λ i. i) k
write-as-plain h from t o v false false write.Again never k = send-plain h from (message.Stored t) (λ i. i) k
write-as-plain h from t o v false false _ never k = absurd (never refl refl tt)

-- the log of repository r doesn't say that this write is refused
abbrev pub IsNotRefused : List Effect → TimeParts → ObjectId → Value → Type 0
IsNotRefused log t o v = stands_written (marks log) o t v ≡ false → known log t.stamp ≡ None → IsRefusing (write_step (marks log) o t v) → ⊥

unknown : (u : Option Bool) → is_settled u ≡ false → u ≡ None
unknown None e = refl
unknown (Some c) e = absurd (true≢false e)

on-write-plain : (r : ℕ) (log : List Effect) (mind : Mind) (from : NodeId) (t : TimeParts) (o : ObjectId) (v : Value) → IsNotRefused log t o v → ArePlain (on_write (hand_at r log mind) from t o v).outs
unfolding on_write
on-write-plain r log mind from t o v never =
    write-as-plain (hand_at r log mind) from t o v (stands_written (marks log) o t v) (is_settled (known log t.stamp)) (write_step (marks log) o t v) (λ s k. never s (unknown (known log t.stamp) k)) tt

write-plain : (r : ℕ) (log : List Effect) (mind : Mind) (from : NodeId) (t : TimeParts) (o : ObjectId) (v : Value) → (accepts r from (message.Write t o v) ≡ true → IsNotRefused log t o v) →
    ArePlain (on_message (hand_at r log mind) from (message.Write t o v)).outs
unfolding on_message
write-plain r log mind from t o v never = go (accepts r from (message.Write t o v)) never
  where
    go : (c : Bool) → (c ≡ true → IsNotRefused log t o v) → ArePlain (if c then on_write (hand_at r log mind) from t o v else hand_at r log mind).outs
    go true n = on-write-plain r log mind from t o v (n refl)
    go false n = tt

pub take-plain : (r : ℕ) (log : List Effect) (mind : Mind) → floor_of (marks log) ≡ None → (from : NodeId) (m : Message) → ((t : TimeParts) (o : ObjectId) (v : Value) → m ≡ message.Write t o v → accepts r from m ≡ true → IsNotRefused log t o v) →
    ArePlain (on_message (hand_at r log mind) from m).outs
take-plain r log mind none from (message.Write t o v) never = write-plain r log mind from t o v (never t o v refl)
take-plain r log mind none from m never = other-plain r log mind none from m tt
