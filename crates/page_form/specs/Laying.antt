-- The pages that the effects of a call are laid out into.
use Prim.Native.Nat.{zero, suc}
use Rattle.std.specs.Prelude.{◌≡◌, ℕ, ◌+◌, ◌≤◌, List, [], ◌∷◌, ◌++◌, length, take, drop, map, false, Vec}
use Rattle.std.specs.declared.alloc.Global.{Global}
use Rattle.std.specs.List.{flat_map}
use Rattle.std.specs.Int.{w16, to_be_bytes}
use Rattle.page_gate.specs.States.{is_blank}
use Rattle.effect_form.specs.declared.effects.Effect.{Effect}
use Rattle.effect_form.specs.declared.effects.Place.{Place}
use Rattle.effect_form.specs.Effects.{effect_bytes, size_of}
use Rattle.page_form.specs.Entries.{Entry, Log, back_in}
use Rattle.page_form.specs.Filling.{Parcel, Shared, Alone, parcels, parcels_from, full_pages}
use Rattle.page_form.specs.Heads.{Heads, HeadsFit}

-- ---- one page

abbrev pub texts : Log → List ℕ
texts [] = []
texts (e ∷ es) = effect_bytes (e.effect, e.back) ++ texts es

-- a page's body with this piece byte and these bytes, without the 0 to its end
abbrev pub body_with : ℕ → List ℕ → List ℕ
body_with mark bytes = 2 ∷ (to_be_bytes w16 (length bytes) ++ (mark ∷ bytes))

-- the effect behind a log, at this place
abbrev pub entry_at : Log → Place → Effect → Entry
entry_at log place effect = record { effect = effect; place = place; back = back_in log effect }

-- the place on a page behind effects of so many bytes
abbrev pub place_after : ℕ → ℕ → Place
place_after page size = record { page = page; offset = 5 + size }

-- the entry of an effect on a page, behind effects of so many bytes
abbrev pub entry_on : Log → ℕ → ℕ → Effect → Entry
entry_on log page size effect = entry_at log (place_after page size) effect

-- the entries of effects on a page, behind effects of so many bytes
abbrev pub laid_on : Log → ℕ → ℕ → List Effect → Log
laid_on log page size [] = []
laid_on log page size (e ∷ es) = entry_on log page size e ∷ laid_on (log ++ entry_on log page size e ∷ []) page (size + size_of e) es

-- ---- the pages of a call

-- a page of a call: its body, and the entries that stand whole with it
pub record Laid : Type 0 where
  pub body : List ℕ
  pub adds : Log

abbrev pub body_of : Laid → List ℕ
body_of l = l.body

abbrev pub all_of : List Laid → Log
all_of pages = flat_map (λ (l : Laid). l.adds) pages

-- a page of whole effects
abbrev pub whole : Log → Laid
whole es = record { body = body_with 0 (texts es); adds = es }

-- the body of the page that was begun with these bytes, where there are any
abbrev pub closed_body : List ℕ → List (List ℕ)
closed_body [] = []
closed_body (b ∷ bytes) = body_with 0 (b ∷ bytes) ∷ []

-- the bodies of so many pages that are full of a text, the first with this piece byte, and of the one with its last piece
abbrev pub piece_bodies : ℕ → ℕ → List ℕ → List (List ℕ)
piece_bodies mark zero bytes = body_with 3 bytes ∷ []
piece_bodies mark (suc n) bytes = body_with mark (take 4091 bytes) ∷ piece_bodies 2 n (drop 4091 bytes)

-- pages with these bodies, the last of which has the entry whole
abbrev pub ending : Entry → List (List ℕ) → List Laid
ending e [] = []
ending e (body ∷ []) = record { body = body; adds = e ∷ [] } ∷ []
ending e (body ∷ after ∷ bodies) = record { body = body; adds = [] } ∷ ending e (after ∷ bodies)

-- the pages of a parcel, the first of which is this page
abbrev pub laid_in : Log → ℕ → Parcel → List Laid
laid_in log page (Shared es) = whole (laid_on log page 0 es) ∷ []
laid_in log page (Alone e) = ending (entry_on log page 0 e) (piece_bodies 1 (full_pages e) (effect_bytes (e, back_in log e)))

-- and of these parcels
abbrev pub laid_pages : Log → ℕ → List Parcel → List Laid
laid_pages log page [] = []
laid_pages log page (p ∷ ps) = laid_in log page p ++ laid_pages (log ++ all_of (laid_in log page p)) (page + length (laid_in log page p)) ps

-- and of those that effects fill
abbrev pub laid : Log → ℕ → List Effect → List Laid
laid log page effects = laid_pages log page (parcels effects)

-- ---- how far an append has laid out its effects

-- these bodies, and the pages of the parcels that are left, are those of the call
pub record LeadsTo (log : Log) (first : ℕ) (effects : List Effect) (bodies : List (List ℕ)) (heads : Heads) (page : ℕ) (left : List Parcel) : Type 0 where
  pub before : Log
  pub heads_fit : HeadsFit heads before
  pub goes : bodies ++ map body_of (laid_pages before page left) ≡ map body_of (laid log first effects)
  pub leads : before ++ all_of (laid_pages before page left) ≡ log ++ all_of (laid log first effects)

-- the same where a page was begun with these bytes, and these effects are left
pub record LaidOut (log : Log) (first : ℕ) (effects : List Effect) (bodies : List (List ℕ)) (bytes : List ℕ) (heads : Heads) (page : ℕ) (rest : List Effect) : Type 0 where
  pub before : Log
  pub begun : List Effect
  pub heads_fit : HeadsFit heads (before ++ laid_on before page 0 begun)
  pub bytes_are : bytes ≡ texts (laid_on before page 0 begun)
  pub goes : bodies ++ map body_of (laid_pages before page (parcels_from begun rest)) ≡ map body_of (laid log first effects)
  pub leads : before ++ all_of (laid_pages before page (parcels_from begun rest)) ≡ log ++ all_of (laid log first effects)

-- what may be put on a page
pub record IsBody (body : Vec ℕ Global) : Type 0 where
  pub some : 1 ≤ length body.items
  pub most : length body.items ≤ 4095
  pub marked : is_blank body.items ≡ false

abbrev pub bytes_of : List (Vec ℕ Global) → List (List ℕ)
bytes_of bodies = map (λ (body : Vec ℕ Global). body.items) bodies
