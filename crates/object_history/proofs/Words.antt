-- Facts on what is seen, which the lemmas on histories share.
use Rattle.object_history.proofs.Names.{TimeParts, lt, Seen, ◌≡◌, Bool, true, false, Option, Some, None}

-- what is seen passes the test
abbrev pub Passes : (TimeParts → Bool) → Option Seen → Type 0
Passes g None = Unit {0}
Passes g (Some r) = g r.start ≡ true

-- the end isn't above x
abbrev pub Ends : Option TimeParts → TimeParts → Type 0
Ends None x = Unit {0}
Ends (Some e) x = lt x e ≡ false

-- what is seen starts below x
abbrev pub Low : Option Seen → TimeParts → Type 0
Low None x = Unit {0}
Low (Some q) x = lt q.start x ≡ true

-- y isn't above what is seen
abbrev pub AtMost : Option Seen → TimeParts → Type 0
AtMost None y = ⊥
AtMost (Some q) y = lt q.start y ≡ false
