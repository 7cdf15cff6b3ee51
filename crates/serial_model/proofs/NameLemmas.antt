-- Where the values of a script's names have bytes, so have those of its expressions.
use Rattle.serial_model.proofs.Names.{ℕ, cond, List, [], ◌∷◌, IfOk, ◌==◌, Every, Value, Term, Number, Text, Nothing, Name, Before, Between, Applied, Given, Spot, Fixed, At, IsObject, IsValue, Names, name_value, with_name, value, object_at, TermInRange, SpotInRange}
use Rattle.std.specs.Cmp.Lexicographic.{pointwise}
use Rattle.serial_model.proofs.TestLemmas.{by_test}
use Rattle.serial_model.proofs.OperationLemmas.{then-IfOk, infix_value-IsValue, prefix_value-IsValue, call_value-IsValue, given_value-IsValue, object_in-IsObject}

-- the value of each name has bytes
abbrev pub NamesHaveBytes : Names → Type 0
NamesHaveBytes = Every (λ entry. IsValue entry.1)

pub name_value-IsValue : (names : Names) (name : List ℕ) → NamesHaveBytes names → IsValue (name_value names name)
name_value-IsValue [] name h = tt
name_value-IsValue (entry ∷ names) name (first, more) =
    by_test (pointwise ◌==◌ entry.0 name) (λ p. IsValue (cond p entry.1 (name_value names name)))
    (λ e. first)
    (λ e. name_value-IsValue names name more)

pub with_name-HaveBytes : (names : Names) (name : List ℕ) (a : Value) → NamesHaveBytes names → IsValue a → NamesHaveBytes (with_name names name a)
with_name-HaveBytes [] name a h k = (k, tt)
with_name-HaveBytes (entry ∷ names) name a (first, more) k =
    by_test (pointwise ◌==◌ entry.0 name) (λ p. NamesHaveBytes (cond p ((name, a) ∷ names) (entry ∷ with_name names name a)))
    (λ e. (k, more))
    (λ e. (first, with_name-HaveBytes names name a more k))

pub value-IsValue : (names : Names) (x : Term) → NamesHaveBytes names → TermInRange x → IfOk (value names x) IsValue
value-IsValue names (Number n) h k = record { sfits = k }
value-IsValue names (Text bytes) h k = k
value-IsValue names Nothing h k = tt
value-IsValue names (Name name) h k = name_value-IsValue names name h
value-IsValue names (Before o x) h k = then-IfOk (value names x) _ IsValue IsValue (value-IsValue names x h k) (λ a a_is. prefix_value-IsValue o a a_is)
value-IsValue names (Between o x y) h k =
    then-IfOk (value names x) _ IsValue IsValue (value-IsValue names x h k.0) (λ a a_is.
    then-IfOk (value names y) _ IsValue IsValue (value-IsValue names y h k.1) (λ b b_is. infix_value-IsValue o a b a_is b_is))
value-IsValue names (Applied f x) h k = then-IfOk (value names x) _ IsValue IsValue (value-IsValue names x h k) (λ a a_is. call_value-IsValue f a a_is)
value-IsValue names (Given x y) h k =
    then-IfOk (value names x) _ IsValue IsValue (value-IsValue names x h k.0) (λ a a_is.
    then-IfOk (value names y) _ IsValue IsValue (value-IsValue names y h k.1) (λ b b_is. given_value-IsValue a b a_is b_is))

pub object_at-IsObject : (names : Names) (place : Spot) → NamesHaveBytes names → SpotInRange place → IfOk (object_at names place) IsObject
object_at-IsObject names (Fixed object) h k = k
object_at-IsObject names (At repository x) h k = then-IfOk (value names x) _ IsValue IsObject (value-IsValue names x h k.2) (λ a a_is. object_in-IsObject repository a k.0 k.1)
