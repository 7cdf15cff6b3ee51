-- The object at the front of tokens, and what is behind it.
use Rattle.std.specs.Prelude.{ℕ, suc, ◌^◌, Bool, ◌&&◌, nat_le, nat_lt, List, [], ◌∷◌, length, take, drop, Option, Some, None, if◌then◌else◌}
use Rattle.token_form.specs.declared.tokens.Token.{Token}
use Rattle.token_form.specs.declared.tokens.Token.TheVariants as t
use Rattle.token_form.specs.declared.tokens.Sign.TheVariants as g
use Rattle.value_form.specs.declared.objects.ObjectId.{ObjectId}

abbrev pub is_repository : ℕ → Bool
is_repository n = nat_le 1 n && nat_le n 16

abbrev pub object_at : ℕ → ℕ → ObjectId
object_at n m = record { repository = n; number = m }

-- `R.N`
abbrev pub fixed_of : List Token → Option (ObjectId × List Token)
fixed_of (t.Number n ∷ t.Sign g.Dot ∷ t.Number m ∷ rest) = if is_repository n && nat_lt m (2 ^ 32) then Some (object_at n m, rest) else None
fixed_of _ = None

-- the number of tokens before the first `]`
abbrev pub bracket_at : List Token → ℕ
bracket_at [] = 0
bracket_at (t.Sign g.CloseBracket ∷ ts) = 0
bracket_at (token ∷ ts) = suc (bracket_at ts)

-- `R[` and `]`, which is the first, since no expression has one
abbrev pub indexed_of : List Token → Option (ℕ × List Token × List Token)
indexed_of (t.Number n ∷ t.Sign g.OpenBracket ∷ ts) =
    if is_repository n && nat_lt (bracket_at ts) (length ts) then Some (n, take (bracket_at ts) ts, drop (suc (bracket_at ts)) ts) else None
indexed_of _ = None
