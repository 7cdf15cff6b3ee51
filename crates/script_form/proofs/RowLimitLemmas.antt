-- A row that tokens of scripts spell is in its limits, and its object up to the greatest repository.
use Rattle.script_form.proofs.Names.{◌≡◌, ℕ, true, List, [], ◌∷◌, ◌++◌, sym, subst, arith, append-nil, nat_tests, Token, AreTokens, next_fits, objects_fit, both, Spot, Fixed, At, AreTokens-append, spelled-in_limits, SpellsSpot, Follows, SpellsRow, Row, SpotInLimits, RowInLimits, SpotUpTo, RowUpTo}
use Rattle.token_form.specs.declared.tokens.Token.TheVariants as t
use Rattle.token_form.specs.declared.tokens.Word.{Word}
use Rattle.token_form.specs.declared.tokens.Word.TheVariants as w
use Rattle.token_form.specs.declared.tokens.Sign.TheVariants as g
use Rattle.script_form.specs.Row as r

-- ---- limits

spot_in_limits : (place : Spot) (ts : List Token) → SpellsSpot place ts → AreTokens ts → SpotInLimits place
spot_in_limits (Fixed object) ts (is, repository, number) a = (repository, number)
spot_in_limits (At n x) ts (us, is, repository, spells) a =
    (repository, spelled-in_limits x us spells (AreTokens-append us (t.Sign g.CloseBracket ∷ []) (subst AreTokens is a).1.1).0)

follows_in_limits : (word : Word) (row : Row) (ts : List Token) → Follows word row ts → AreTokens ts → RowInLimits row
follows_in_limits w.Let (r.Let name x) ts (us, is, spells) a = let k = subst AreTokens is a in (k.0, spelled-in_limits x us spells k.1.1)
follows_in_limits w.Read (r.Read name place) ts (us, is, spells) a = let k = subst AreTokens is a in (k.0, spot_in_limits place us spells k.1)
follows_in_limits w.Write (r.Write place x) ts (us, vs, is, spells, value) a =
    let k = AreTokens-append us vs (subst AreTokens is a) in (spot_in_limits place us spells k.0, spelled-in_limits x vs value k.1)
follows_in_limits w.Print (r.Print x) ts h a = spelled-in_limits x ts h a
follows_in_limits w.If (r.If x) ts h a = spelled-in_limits x ts h a
follows_in_limits w.Else r.Else ts h a = tt
follows_in_limits w.End r.End ts h a = tt
follows_in_limits w.Repeat (r.Repeat x) ts h a = spelled-in_limits x ts h a
follows_in_limits w.Withdraw r.Withdraw ts h a = tt
follows_in_limits _ _ ts h a = absurd h

pub spelled_row-in_limits : (row : Row) (ts : List Token) → SpellsRow row ts → AreTokens ts → RowInLimits row
spelled_row-in_limits row (t.Word word ∷ ts) h a = follows_in_limits word row ts h a.1
spelled_row-in_limits row _ h a = absurd h

-- ---- objects

-- what stands behind a token
fits_behind : (k : ℕ) (a : Token) (ts : List Token) → objects_fit k (a ∷ ts) ≡ true → objects_fit k ts ≡ true
fits_behind k a ts e = (both (next_fits k a ts) (objects_fit k ts) e).1

spot_up_to : (k : ℕ) (place : Spot) (ts us : List Token) → SpellsSpot place ts → objects_fit k (ts ++ us) ≡ true → SpotUpTo k place
spot_up_to k (Fixed object) ts us (is, repository, number) e =
    let here = subst (λ z. objects_fit k (z ++ us) ≡ true) is e in grind (arith, nat_tests, here)
spot_up_to k (At n x) ts us (vs, is, repository, spells) e =
    let here = subst (λ z. objects_fit k (z ++ us) ≡ true) is e in grind (arith, nat_tests, here)

follows_up_to : (k : ℕ) (word : Word) (row : Row) (ts : List Token) → Follows word row ts → objects_fit k ts ≡ true → RowUpTo k row
follows_up_to k w.Let (r.Let name x) ts h e = tt
follows_up_to k w.Read (r.Read name place) ts (us, is, spells) e =
    let behind = fits_behind k (t.Name name) us (subst (λ z. objects_fit k z ≡ true) is e) in
    spot_up_to k place us [] spells (subst (λ z. objects_fit k z ≡ true) (sym (append-nil us)) behind)
follows_up_to k w.Write (r.Write place x) ts (us, vs, is, spells, value) e = spot_up_to k place us vs spells (subst (λ z. objects_fit k z ≡ true) is e)
follows_up_to k w.Print (r.Print x) ts h e = tt
follows_up_to k w.If (r.If x) ts h e = tt
follows_up_to k w.Else r.Else ts h e = tt
follows_up_to k w.End r.End ts h e = tt
follows_up_to k w.Repeat (r.Repeat x) ts h e = tt
follows_up_to k w.Withdraw r.Withdraw ts h e = tt
follows_up_to k _ _ ts h e = absurd h

pub spelled_row-up_to : (k : ℕ) (row : Row) (ts : List Token) → SpellsRow row ts → objects_fit k ts ≡ true → RowUpTo k row
spelled_row-up_to k row (t.Word word ∷ ts) h e = follows_up_to k word row ts h (fits_behind k (t.Word word) ts e)
spelled_row-up_to k row _ h e = absurd h
