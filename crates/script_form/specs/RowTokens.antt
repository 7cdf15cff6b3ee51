-- Which lists of tokens spell a row.
use Rattle.std.specs.Prelude.{◌≡◌, ℕ, ◌<◌, ◌≤◌, ◌^◌, List, [], ◌∷◌, ◌++◌}
use Rattle.token_form.specs.declared.tokens.Token.{Token}
use Rattle.token_form.specs.declared.tokens.Token.TheVariants as t
use Rattle.token_form.specs.declared.tokens.Word.{Word}
use Rattle.token_form.specs.declared.tokens.Word.TheVariants as w
use Rattle.token_form.specs.declared.tokens.Sign.TheVariants as g
use Rattle.value_form.specs.Mirror.{Spot, Fixed, At}
use Rattle.expression_form.specs.Grammar as expression
use Rattle.script_form.specs.Row.{Row}
use Rattle.script_form.specs.Row as r

abbrev pub IsRepository : ℕ → Type 0
IsRepository n = (1 ≤ n) × (n ≤ 16)

-- `R.N`, or `R[E]`
abbrev pub SpellsSpot : Spot → List Token → Type 0
SpellsSpot (Fixed object) ts =
    (ts ≡ t.Number object.repository ∷ t.Sign g.Dot ∷ t.Number object.number ∷ []) × IsRepository object.repository × (object.number < 2 ^ 32)
SpellsSpot (At n x) ts =
    (us : List Token) × (ts ≡ t.Number n ∷ t.Sign g.OpenBracket ∷ (us ++ t.Sign g.CloseBracket ∷ [])) × IsRepository n × expression.Spells x us

-- what follows the word with which a row begins
abbrev pub Follows : Word → Row → List Token → Type 0
Follows w.Let (r.Let name x) ts = (us : List Token) × (ts ≡ t.Name name ∷ t.Sign g.Equal ∷ us) × expression.Spells x us
Follows w.Read (r.Read name place) ts = (us : List Token) × (ts ≡ t.Name name ∷ us) × SpellsSpot place us
Follows w.Write (r.Write place x) ts = (us vs : List Token) × (ts ≡ us ++ vs) × SpellsSpot place us × expression.Spells x vs
Follows w.Print (r.Print x) ts = expression.Spells x ts
Follows w.If (r.If x) ts = expression.Spells x ts
Follows w.Else r.Else ts = ts ≡ []
Follows w.End r.End ts = ts ≡ []
Follows w.Repeat (r.Repeat x) ts = expression.Spells x ts
Follows w.Withdraw r.Withdraw ts = ts ≡ []
Follows _ _ ts = ⊥

-- the tokens of a line spell the row
abbrev pub SpellsRow : Row → List Token → Type 0
SpellsRow row (t.Word word ∷ ts) = Follows word row ts
SpellsRow row _ = ⊥
