-- Where a reader of elements stands behind a text of pieces: its own words decide, and the rest leaves it where it is.
use Rattle.std.specs.Fmt.{decimal}
use Rattle.folder_look.proofs.Names.{TimeParts, ObjectId, stamp_text, object_text, time_text, ◌≡◌, ℕ, Bool, true, false, List, [], ◌∷◌, ◌++◌, refl, ◌∙◌, if◌then◌else◌}
use Rattle.std.proofs.lemmas.Bool.{false≢true}
use Rattle.pseudo_time.specs.StampParts.{StampParts}
use Rattle.value_form.specs.ValueText.{value_text}
use Rattle.page_text.specs.Escapes.{page_text}
use Rattle.page_text.specs.Tags.{Spot, InText, InTag, Astray, HasTagsOf, spot_behind}
use Rattle.page_text.proofs.TagLemmas.{through, text-stays, number-stays, number-quoted, spot-append}
use Rattle.folder_look.specs.Frame.{frame_tags}
use Rattle.folder_look.specs.Pieces.{Piece, Words, Number, Text, Stamp, Time, Object, Printed, text_of}

abbrev pub T : List ℕ → Type 0
T text = HasTagsOf frame_tags text

-- a text that leaves the reader at this spot
abbrev pub Stays : Spot → List ℕ → Type 0
Stays s text = spot_behind frame_tags s text ≡ s

-- numbers may stand in a text and in quotes, escaped texts in a text
abbrev pub takes_numbers : Spot → Bool
takes_numbers InText = true
takes_numbers (InTag true t) = true
takes_numbers (InTag false t) = false
takes_numbers Astray = false

abbrev pub takes_texts : Spot → Bool
takes_texts InText = true
takes_texts (InTag q t) = false
takes_texts Astray = false

-- each piece stands where it may
abbrev pub is_fine : Spot → List Piece → Bool
is_fine s [] = true
is_fine s (Words w ∷ ps) = is_fine (spot_behind frame_tags s w) ps
is_fine s (Number n ∷ ps) = if takes_numbers s then is_fine s ps else false
is_fine s (Text b ∷ ps) = if takes_texts s then is_fine s ps else false
is_fine s (Stamp p ∷ ps) = if takes_numbers s then is_fine s ps else false
is_fine s (Time t ∷ ps) = if takes_texts s then is_fine s ps else false
is_fine s (Object o ∷ ps) = if takes_numbers s then is_fine s ps else false
is_fine s (Printed v ∷ ps) = if takes_texts s then is_fine s ps else false

-- where the reader stands behind them
abbrev pub spot_of : Spot → List Piece → Spot
spot_of s [] = s
spot_of s (Words w ∷ ps) = spot_of (spot_behind frame_tags s w) ps
spot_of s (Number n ∷ ps) = spot_of s ps
spot_of s (Text b ∷ ps) = spot_of s ps
spot_of s (Stamp p ∷ ps) = spot_of s ps
spot_of s (Time t ∷ ps) = spot_of s ps
spot_of s (Object o ∷ ps) = spot_of s ps
spot_of s (Printed v ∷ ps) = spot_of s ps

on-at : (s : Spot) (xs ys : List ℕ) → Stays s xs → spot_behind frame_tags s (xs ++ ys) ≡ spot_behind frame_tags s ys
on-at s xs ys h = through frame_tags s xs ys h

number-at : (s : Spot) → takes_numbers s ≡ true → (n : ℕ) → Stays s (decimal n)
number-at InText h n = number-stays frame_tags n
number-at (InTag true t) h n = number-quoted frame_tags t n
number-at (InTag false t) h n = absurd (false≢true h)
number-at Astray h n = absurd (false≢true h)

-- a full stop or a slash between numbers
dot-at : (s : Spot) → takes_numbers s ≡ true → Stays s (46 ∷ [])
dot-at InText h = refl
dot-at (InTag true t) h = refl
dot-at (InTag false t) h = absurd (false≢true h)
dot-at Astray h = absurd (false≢true h)

stamp-at : (s : Spot) → takes_numbers s ≡ true → (p : StampParts) → Stays s (stamp_text p)
stamp-at s h p =
    on-at s (decimal p.clock) (46 ∷ (decimal p.broker ++ 46 ∷ decimal p.home)) (number-at s h p.clock) ∙ on-at s (46 ∷ []) (decimal p.broker ++ 46 ∷ decimal p.home) (dot-at s h)
    ∙ on-at s (decimal p.broker) (46 ∷ decimal p.home) (number-at s h p.broker) ∙ on-at s (46 ∷ []) (decimal p.home) (dot-at s h) ∙ number-at s h p.home

object-at : (s : Spot) → takes_numbers s ≡ true → (o : ObjectId) → Stays s (object_text o)
object-at s h o = on-at s (decimal o.repository) (46 ∷ decimal o.number) (number-at s h o.repository) ∙ on-at s (46 ∷ []) (decimal o.number) (dot-at s h) ∙ number-at s h o.number

text-at : (s : Spot) → takes_texts s ≡ true → (bytes : List ℕ) → Stays s (page_text bytes)
text-at InText h bytes = text-stays frame_tags bytes
text-at (InTag q t) h bytes = absurd (false≢true h)
text-at Astray h bytes = absurd (false≢true h)

time-at : (s : Spot) → takes_texts s ≡ true → (t : TimeParts) → Stays s (time_text t)
time-at InText h t = on-at InText (stamp_text t.stamp) _ (stamp-at InText refl t.stamp) ∙ number-stays frame_tags t.step
time-at (InTag q b) h t = absurd (false≢true h)
time-at Astray h t = absurd (false≢true h)

-- what a test in front says
front-true : (a b : Bool) → (if a then b else false) ≡ true → a ≡ true
front-true true b h = refl
front-true false b h = absurd (false≢true h)

rest-true : (a b : Bool) → (if a then b else false) ≡ true → b ≡ true
rest-true true b h = h
rest-true false b h = absurd (false≢true h)

pub pieces : (s : Spot) (ps : List Piece) → is_fine s ps ≡ true → spot_behind frame_tags s (text_of ps) ≡ spot_of s ps
pieces s [] h = refl
pieces s (Words w ∷ ps) h = spot-append frame_tags s w (text_of ps) ∙ pieces (spot_behind frame_tags s w) ps h
pieces s (Number n ∷ ps) h = on-at s (decimal n) (text_of ps) (number-at s (front-true (takes_numbers s) (is_fine s ps) h) n) ∙ pieces s ps (rest-true (takes_numbers s) (is_fine s ps) h)
pieces s (Text b ∷ ps) h = on-at s (page_text b) (text_of ps) (text-at s (front-true (takes_texts s) (is_fine s ps) h) b) ∙ pieces s ps (rest-true (takes_texts s) (is_fine s ps) h)
pieces s (Stamp p ∷ ps) h = on-at s (stamp_text p) (text_of ps) (stamp-at s (front-true (takes_numbers s) (is_fine s ps) h) p) ∙ pieces s ps (rest-true (takes_numbers s) (is_fine s ps) h)
pieces s (Time t ∷ ps) h = on-at s (time_text t) (text_of ps) (time-at s (front-true (takes_texts s) (is_fine s ps) h) t) ∙ pieces s ps (rest-true (takes_texts s) (is_fine s ps) h)
pieces s (Object o ∷ ps) h = on-at s (object_text o) (text_of ps) (object-at s (front-true (takes_numbers s) (is_fine s ps) h) o) ∙ pieces s ps (rest-true (takes_numbers s) (is_fine s ps) h)
pieces s (Printed v ∷ ps) h = on-at s (page_text (value_text v)) (text_of ps) (text-at s (front-true (takes_texts s) (is_fine s ps) h) (value_text v)) ∙ pieces s ps (rest-true (takes_texts s) (is_fine s ps) h)
