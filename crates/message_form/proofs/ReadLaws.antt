-- What the calls that read messages give.
use Rattle.std.proofs.Common.{◌≡◌, ℕ, List, [], ◌∷◌, ◌++◌, length, false, Result, Ok, Err, sym, ap, subst, ◌∙◌, arith}
use Rattle.std.specs.Prelude.{◌==◌, IfOk}
use Rattle.std.proofs.lemmas.Bool.Decides.{nat_tests}
use Rattle.std.proofs.lemmas.List.{append-nil}
use Rattle.field_form.specs.Forms.{IsBytes}
use Rattle.value_form.specs.ValueBytes.{◌>>=◌}
use Rattle.value_form.proofs.ValueLaws.{ok_is}
use Rattle.message_form.specs.declared.messages.Message.{Message}
use Rattle.message_form.specs.declared.faults.MessageFault.{MessageFault}
use Rattle.message_form.specs.Messages.{IsMessage, message_bytes, message_at, alone, whole_message}
use Rattle.message_form.specs.MessageReads.{Gives}
use Rattle.message_form.proofs.MessageLaws.{message_takes, message_again}

-- all of the bytes were read
whole_takes : (bytes : List ℕ) (r : Result (Message × List ℕ) ℕ) (x : Message) → (r >>= alone (length bytes)) ≡ Ok x → r ≡ Ok (x, [])
whole_takes bytes (Err at) x e = absurd (cc e)
whole_takes bytes (Ok (y, [])) x e = ap (λ (z : Message). Ok (z, [])) (ok_is y x e)
whole_takes bytes (Ok (y, b ∷ rest)) x e = let more : (length (b ∷ rest) == 0) ≡ false = grind (arith, nat_tests) in absurd (cc (e, more))

pub whole_found : (r : Result Message MessageFault) (bytes : List ℕ) → IsBytes bytes → Gives (λ x. x) r (whole_message bytes) → IfOk r (λ x. IsMessage x × (bytes ≡ message_bytes x))
whole_found (Err fault) bytes fits g = tt
whole_found (Ok x) bytes fits g =
    let t = message_takes bytes x [] fits (whole_takes bytes (message_at bytes) x g) in
    (t.1, t.0.parts ∙ append-nil (message_bytes x))

pub whole_again : (x : Message) → IsMessage x → whole_message (message_bytes x) ≡ Ok x
whole_again x h =
    let e : message_at (message_bytes x) ≡ Ok (x, []) = ap message_at (sym (append-nil (message_bytes x))) ∙ message_again x [] h in
    ap (λ (r : Result (Message × List ℕ) ℕ). r >>= alone (length (message_bytes x))) e

pub whole_only : (r : Result Message MessageFault) (bytes : List ℕ) → Gives (λ x. x) r (whole_message bytes) → (x : Message) → IsMessage x → bytes ≡ message_bytes x → Gives (λ y. y) r (Ok x)
whole_only r bytes g x h e = subst (λ (reading : Result Message ℕ). Gives (λ y. y) r reading) (ap whole_message e ∙ whole_again x h) g

pub message_bytes-apart : (a b : Message) (x y : List ℕ) → IsMessage a → IsMessage b → message_bytes a ++ x ≡ message_bytes b ++ y → (a ≡ b) × (x ≡ y)
message_bytes-apart a b x y ha hb e =
    let p : ◌≡◌ {A = Message × List ℕ} (a, x) (b, y) = ok_is (a, x) (b, y) (sym (message_again a x ha) ∙ ap message_at e ∙ message_again b y hb) in
    (ap (λ (q : Message × List ℕ). q.0) p, ap (λ (q : Message × List ℕ). q.1) p)
