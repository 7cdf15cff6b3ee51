-- A message that is read is the one that was written.
use Rattle.std.proofs.Common.{◌≡◌, ℕ, cond, List, [], ◌∷◌, ◌++◌, Option, Result, Ok, refl, sym, ap, subst, ◌∙◌, append_assoc, arith, inl, inr}
use Rattle.std.specs.Prelude.{◌==◌}
use Rattle.std.specs.Int.{w32, to_be_bytes}
use Rattle.std.proofs.lemmas.Bool.Decides.{nat_tests}
use Rattle.pseudo_time.specs.StampParts.{StampParts, IsStamp, stamp_bytes}
use Rattle.pseudo_time.specs.TimeParts.{TimeParts, IsTime, time_bytes}
use Rattle.field_form.specs.Decisions.{IsDecision, decision_text, decision_at}
use Rattle.field_form.specs.Forms.{IsBytes, Begins, IsForm}
use Rattle.field_form.specs.Numbers.{byte_at}
use Rattle.field_form.specs.Times.{stamp_at, time_at}
use Rattle.field_form.proofs.FormLaws.{Begins-then}
use Rattle.field_form.proofs.NumberLaws.{byte_form}
use Rattle.field_form.proofs.TimeLaws.{stamp_form, time_form}
use Rattle.field_form.proofs.DecisionLaws.{chosen, decision_form}
use Rattle.value_form.specs.declared.objects.ObjectId.{ObjectId}
use Rattle.value_form.specs.declared.values.Value.{Value}
use Rattle.value_form.specs.ObjectBytes.{IsObject, object_bytes, object_bytes_at}
use Rattle.value_form.specs.ValueBytes.{IsValue, value_bytes, ◌>>=◌, field}
use Rattle.value_form.proofs.ValueLaws.{field_ok, ok_is, object_form, value_form}
use Rattle.effect_form.specs.Effects.{learned_at, timeout_at}
use Rattle.effect_form.specs.Sequences.{whole_one, whole_two}
use Rattle.effect_form.proofs.EffectLaws.{AnyAnswer, learned_bytes, value_found, learned_form, timeout_form}
use Rattle.effect_form.proofs.SequenceLaws.{whole_one-takes, whole_one-again, whole_two-takes, whole_two-again}
use Rattle.message_form.specs.declared.messages.Message.{Message}
use Rattle.message_form.specs.declared.messages.Message.TheVariants as m
use Rattle.message_form.specs.Messages.{IsTimeout, message_bytes, IsMessage, write_at, message_of_tag, message_at}

-- what was read of a message, x, stands at the front of the bytes, and this follows it
abbrev Taken : List ℕ → Message → List ℕ → Type 0
Taken bytes x rest = Begins bytes (message_bytes x) rest × IsMessage x

module _ (bytes after : List ℕ) (x : Message) (rest : List ℕ) where
  -- the tag is k, or another
  tagged : (tag k : ℕ) (mine others : Result (Message × List ℕ) ℕ) → Begins bytes (tag ∷ []) after → cond (tag == k) mine others ≡ Ok (x, rest)
      → (Begins bytes (k ∷ []) after → mine ≡ Ok (x, rest) → Taken bytes x rest) → (others ≡ Ok (x, rest) → Taken bytes x rest) → Taken bytes x rest
  tagged tag k mine others front e here there = elim (chosen (tag == k) mine others (Ok (x, rest)) e) [
    | inl h ↦ let t = h.0 in let is : tag ≡ k = grind (arith, nat_tests) in here (subst (λ (n : ℕ). Begins bytes (n ∷ []) after) is front) h.1
    | inr h ↦ there h.1
  ]

  -- a message of one field
  one : {A : Type 0} (text : A → List ℕ) (InRange : A → Type 0) (f : List ℕ → Option (A × List ℕ)) → IsForm text InRange f → (make : A → Message) (k : ℕ)
      → ((a : A) → message_bytes (make a) ≡ k ∷ text a) → ((a : A) → InRange a → IsMessage (make a)) → Begins bytes (k ∷ []) after → whole_one 1 make f after ≡ Ok (x, rest) → Taken bytes x rest
  one text InRange f reads make k spelled in_range front e =
      let t = whole_one-takes text InRange f reads make 1 after x rest front.rest_is_bytes e in
      let whole = Begins-then bytes (k ∷ []) after (text t.0) rest front t.2 in
      subst (λ (y : Message). Taken bytes y rest) t.1 (subst (λ (s : List ℕ). Begins bytes s rest) (sym (spelled t.0)) whole, in_range t.0 t.3)

  -- a message of two fields
  two : {A B : Type 0} (text : A → List ℕ) (InRange : A → Type 0) (f : List ℕ → Option (A × List ℕ)) → IsForm text InRange f
      → (text' : B → List ℕ) (InRange' : B → Type 0) (g : List ℕ → Option (B × List ℕ)) → IsForm text' InRange' g → (make : A → B → Message) (k at : ℕ)
      → ((a : A) (b : B) → message_bytes (make a b) ≡ k ∷ (text a ++ text' b)) → ((a : A) (b : B) → InRange a → InRange' b → IsMessage (make a b))
      → Begins bytes (k ∷ []) after → whole_two 1 at make f g after ≡ Ok (x, rest) → Taken bytes x rest
  two text InRange f reads text' InRange' g reads' make k at spelled in_range front e =
      let t = whole_two-takes text InRange f reads text' InRange' g reads' make 1 at after x rest front.rest_is_bytes e in
      let whole = Begins-then bytes (k ∷ []) after (text t.0 ++ text' t.1) rest front t.3 in
      subst (λ (y : Message). Taken bytes y rest) t.2 (subst (λ (s : List ℕ). Begins bytes s rest) (sym (spelled t.0 t.1)) whole, in_range t.0 t.1 t.4 t.5)

  write_takes : Begins bytes (5 ∷ []) after → write_at after ≡ Ok (x, rest) → Taken bytes x rest
  unfolding write_at
  write_takes front e =
      let at = field_ok 1 (time_at after) (λ at. field 15 (object_bytes_at at.1) >>= λ object. field 20 (value_found object.1) >>= λ v. Ok (m.Write at.0 object.0 v.0, v.1)) (x, rest) e in
      let object = field_ok 15 (object_bytes_at at.0.1) (λ object. field 20 (value_found object.1) >>= λ v. Ok (m.Write at.0.0 object.0 v.0, v.1)) (x, rest) at.2 in
      let v = field_ok 20 (value_found object.0.1) (λ v. Ok (m.Write at.0.0 object.0.0 v.0, v.1)) (x, rest) object.2 in
      let made : Message × List ℕ = (m.Write at.0.0 object.0.0 v.0.0, v.0.1) in
      let ta = time_form.takes after at.0.0 at.0.1 front.rest_is_bytes at.1 in
      let to = object_form.takes at.0.1 object.0.0 object.0.1 ta.0.rest_is_bytes object.1 in
      let tv = value_form.takes object.0.1 v.0.0 v.0.1 to.0.rest_is_bytes v.1 in
      let late = Begins-then at.0.1 (object_bytes object.0.0) object.0.1 (value_bytes v.0.0) v.0.1 to.0 tv.0 in
      let more = Begins-then after (time_bytes at.0.0) at.0.1 (object_bytes object.0.0 ++ value_bytes v.0.0) v.0.1 ta.0 late in
      let whole = Begins-then bytes (5 ∷ []) after (time_bytes at.0.0 ++ (object_bytes object.0.0 ++ value_bytes v.0.0)) v.0.1 front more in
      subst (λ (y : Message × List ℕ). Taken bytes y.0 y.1) (ok_is made (x, rest) v.2) (whole, (ta.1, to.1, tv.1))

  stamped : (make : StampParts → Message) (k : ℕ) → ((a : StampParts) → message_bytes (make a) ≡ k ∷ stamp_bytes a) → ((a : StampParts) → IsStamp a → IsMessage (make a))
      → Begins bytes (k ∷ []) after → whole_one 1 make stamp_at after ≡ Ok (x, rest) → Taken bytes x rest
  stamped = one stamp_bytes IsStamp stamp_at stamp_form

  timed : (make : TimeParts → Message) (k : ℕ) → ((a : TimeParts) → message_bytes (make a) ≡ k ∷ time_bytes a) → ((a : TimeParts) → IsTime a → IsMessage (make a))
      → Begins bytes (k ∷ []) after → whole_one 1 make time_at after ≡ Ok (x, rest) → Taken bytes x rest
  timed = one time_bytes IsTime time_at time_form

  message_of_tag-takes : (tag : ℕ) → Begins bytes (tag ∷ []) after → message_of_tag tag after ≡ Ok (x, rest) → Taken bytes x rest
  unfolding message_of_tag
  message_of_tag-takes tag front e =
      tagged tag 1 _ _ front e (two stamp_bytes IsStamp stamp_at stamp_form (to_be_bytes w32) IsTimeout timeout_at timeout_form m.Begin 1 11 (λ a b. refl) (λ a b p q. (p, q))) λ e2.
      tagged tag 2 _ _ front e2 (stamped m.Begun 2 (λ a. refl) (λ a p. p)) λ e3.
      tagged tag 3 _ _ front e3 (two time_bytes IsTime time_at time_form object_bytes IsObject object_bytes_at object_form m.Read 3 15 (λ a b. refl) (λ a b p q. (p, q))) λ e4.
      tagged tag 4 _ _ front e4 (two time_bytes IsTime time_at time_form value_bytes IsValue value_found value_form m.Value 4 15 (λ a b. refl) (λ a b p q. (p, q))) λ e5.
      tagged tag 5 _ _ front e5 write_takes λ e6.
      tagged tag 6 _ _ front e6 (timed m.Stored 6 (λ a. refl) (λ a p. p)) λ e7.
      tagged tag 7 _ _ front e7 (two time_bytes IsTime time_at time_form time_bytes IsTime time_at time_form m.LaterRead 7 15 (λ a b. refl) (λ a b p q. (p, q))) λ e8.
      tagged tag 8 _ _ front e8 (two time_bytes IsTime time_at time_form time_bytes IsTime time_at time_form m.LaterVersion 8 15 (λ a b. refl) (λ a b p q. (p, q))) λ e9.
      tagged tag 9 _ _ front e9 (timed m.Ended 9 (λ a. refl) (λ a p. p)) λ e10.
      tagged tag 10 _ _ front e10 (stamped m.Commit 10 (λ a. refl) (λ a p. p)) λ e11.
      tagged tag 11 _ _ front e11 (stamped m.Withdraw 11 (λ a. refl) (λ a p. p)) λ e12.
      tagged tag 12 _ _ front e12 (two stamp_bytes IsStamp stamp_at stamp_form decision_text IsDecision decision_at decision_form m.Decided 12 11 (λ a b. refl) (λ a b p q. (p, q))) λ e13.
      tagged tag 13 _ _ front e13 (stamped m.Ask 13 (λ a. refl) (λ a p. p)) λ e14.
      tagged tag 14 _ _ front e14 (two stamp_bytes IsStamp stamp_at stamp_form learned_bytes AnyAnswer learned_at learned_form m.Tell 14 11 (λ a b. refl) (λ a b p q. (p, q))) λ e15. absurd (cc e15)

pub message_takes : (bytes : List ℕ) (x : Message) (rest : List ℕ) → IsBytes bytes → message_at bytes ≡ Ok (x, rest) → Begins bytes (message_bytes x) rest × IsMessage x
unfolding message_at
message_takes bytes x rest fits e =
    let a = field_ok 0 (byte_at bytes) (λ tag. message_of_tag tag.0 tag.1) (x, rest) e in
    message_of_tag-takes bytes a.0.1 x rest a.0.0 (byte_form.takes bytes a.0.0 a.0.1 fits a.1).0 a.2

write_again : (at : TimeParts) (object : ObjectId) (v : Value) (rest : List ℕ) → IsTime at → IsObject object → IsValue v
    → write_at ((time_bytes at ++ (object_bytes object ++ value_bytes v)) ++ rest) ≡ Ok (m.Write at object v, rest)
unfolding write_at
write_again at object v rest ha ho hv =
    let regrouped : (time_bytes at ++ (object_bytes object ++ value_bytes v)) ++ rest ≡ time_bytes at ++ (object_bytes object ++ (value_bytes v ++ rest))
    = append_assoc (time_bytes at) (object_bytes object ++ value_bytes v) rest ∙ ap (λ t. time_bytes at ++ t) (append_assoc (object_bytes object) (value_bytes v) rest) in
    ap write_at regrouped ∙ rw (time_form.again at (object_bytes object ++ (value_bytes v ++ rest)) ha, object_form.again object (value_bytes v ++ rest) ho, value_form.again v rest hv) refl

pub message_again : (x : Message) (rest : List ℕ) → IsMessage x → message_at (message_bytes x ++ rest) ≡ Ok (x, rest)
unfolding message_at message_of_tag
message_again (m.Begin stamp timeout) rest h = whole_two-again stamp_bytes IsStamp stamp_at stamp_form (to_be_bytes w32) IsTimeout timeout_at timeout_form m.Begin 1 11 stamp timeout rest h.0 h.1
message_again (m.Begun stamp) rest h = whole_one-again stamp_bytes IsStamp stamp_at stamp_form m.Begun 1 stamp rest h
message_again (m.Read at object) rest h = whole_two-again time_bytes IsTime time_at time_form object_bytes IsObject object_bytes_at object_form m.Read 1 15 at object rest h.0 h.1
message_again (m.Value at v) rest h = whole_two-again time_bytes IsTime time_at time_form value_bytes IsValue value_found value_form m.Value 1 15 at v rest h.0 h.1
message_again (m.Write at object v) rest h = write_again at object v rest h.0 h.1 h.2
message_again (m.Stored at) rest h = whole_one-again time_bytes IsTime time_at time_form m.Stored 1 at rest h
message_again (m.LaterRead at end) rest h = whole_two-again time_bytes IsTime time_at time_form time_bytes IsTime time_at time_form m.LaterRead 1 15 at end rest h.0 h.1
message_again (m.LaterVersion at start) rest h = whole_two-again time_bytes IsTime time_at time_form time_bytes IsTime time_at time_form m.LaterVersion 1 15 at start rest h.0 h.1
message_again (m.Ended at) rest h = whole_one-again time_bytes IsTime time_at time_form m.Ended 1 at rest h
message_again (m.Commit stamp) rest h = whole_one-again stamp_bytes IsStamp stamp_at stamp_form m.Commit 1 stamp rest h
message_again (m.Withdraw stamp) rest h = whole_one-again stamp_bytes IsStamp stamp_at stamp_form m.Withdraw 1 stamp rest h
message_again (m.Decided stamp decision) rest h = whole_two-again stamp_bytes IsStamp stamp_at stamp_form decision_text IsDecision decision_at decision_form m.Decided 1 11 stamp decision rest h.0 h.1
message_again (m.Ask stamp) rest h = whole_one-again stamp_bytes IsStamp stamp_at stamp_form m.Ask 1 stamp rest h
message_again (m.Tell stamp committed) rest h = whole_two-again stamp_bytes IsStamp stamp_at stamp_form learned_bytes AnyAnswer learned_at learned_form m.Tell 1 11 stamp committed rest h.0 h.1
