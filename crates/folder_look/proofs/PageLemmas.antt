-- The values, the histories, the files and the whole page have the frame's tags alone.
use Rattle.folder_look.proofs.Names.{flat_map, TimeParts, Value, Choice, VersionRow, ObjectRow, MediumLook, Tally, column, objects_left, ◌≡◌, ℕ, Bool, true, false, List, [], ◌∷◌, ◌++◌, codes, length, take, drop, refl, ap, append_assoc, sym, ◌∙◌, Option, Some, None, not, ◌==◌, ◌||◌, nat_lt, kind_word, axis_of, tally_of}
use Rattle.std.specs.Fmt.{decimal}
use Rattle.std.specs.Prelude.{◌%◌}
use Rattle.pseudo_time.specs.StampParts.{StampParts}
use Rattle.pseudo_time.specs.declared.nodes.NodeKind.{NodeKind}
use Rattle.pseudo_time.specs.declared.nodes.NodeKind.TheVariants.{Repository, Broker}
use Rattle.value_form.specs.ValueText.{value_text}
use Rattle.page_text.specs.Escapes.{page_text}
use Rattle.page_text.specs.Tags.{InText, spot_behind}
use Rattle.page_text.proofs.TagLemmas.{each-through, text-stays}
use Rattle.folder_look.specs.declared.looks.MediumState.{MediumState}
use Rattle.folder_look.specs.declared.looks.MediumState.TheVariants.{Whole, Damaged, Shut}
use Rattle.folder_look.specs.Drawing as draw
use Rattle.folder_look.specs.Frame.{frame_tags}
use Rattle.folder_look.specs.Lines as lines
use Rattle.folder_look.specs.MediaText as media
use Rattle.folder_look.specs.Objects.{objects_of, rows_of}
use Rattle.folder_look.specs.Page as page
use Rattle.folder_look.specs.Pieces.{Words, Number, Text, Time, Object, Printed, text_of}
use Rattle.folder_look.specs.Runs as runs
use Rattle.folder_look.specs.Shown as shown
use Rattle.folder_look.specs.Shown.{ShownParts}
use Rattle.folder_look.specs.Sights.{shown_of}
use Rattle.folder_look.specs.Values as values
use Rattle.folder_look.proofs.PieceLemmas.{T, pieces}
use Rattle.folder_look.proofs.FrameLemmas.{on, both, one-of, number, node-kind, stamp-ref, time-ref, log, time-line}

-- ---- values

cut : (n : ℕ) (text : List ℕ) → T (values.cut_text n text)
cut n text = one-of (nat_lt n (length text)) _ _ (on (page_text (take n text)) _ (text-stays frame_tags (take n text)) ∙ refl) (text-stays frame_tags text)

value-cut : (n : ℕ) (v : Value) → T (values.value_cut n v)
value-cut n v = cut n (value_text v)

time-or-none : (t : Option TimeParts) → T (values.time_or_none t)
time-or-none None = refl
time-or-none (Some t) = pieces InText (Time t ∷ []) refl

cells : (p : ShownParts) (v : VersionRow) → T (values.version_cells p v)
cells p v = on (values.value_cut 80 v.value) _ (value-cut 80 v.value) ∙ on (shown.time_ref p v.start) _ (time-ref p v.start) ∙ on (values.time_or_none v.end) _ (time-or-none v.end) ∙ refl

last : (p : ShownParts) (v : Option VersionRow) → T (values.last_cells p v)
last p None = refl
last p (Some v) = cells p v

undecided : (n : ℕ) → T (values.open_text n)
undecided n = one-of (n == 0) _ _ refl (pieces InText (Words (codes ", undecided ") ∷ Number n ∷ []) refl)

value-row : (p : ShownParts) (r : ObjectRow) → T (values.value_text_of p r)
value-row p r =
    on (text_of (Words (codes "<tr><th scope=\"row\"><a href=\"#o") ∷ Object r.object ∷ Words (codes "\">") ∷ Object r.object ∷ Words (codes "</a></th>") ∷ [])) _ (pieces InText (Words (codes "<tr><th scope=\"row\"><a href=\"#o") ∷ Object r.object ∷ Words (codes "\">") ∷ Object r.object ∷ Words (codes "</a></th>") ∷ []) refl)
    ∙ on (values.last_cells p r.last) _ (last p r.last) ∙ on (text_of (Words (codes "<td>") ∷ Number r.count ∷ [])) _ (pieces InText (Words (codes "<td>") ∷ Number r.count ∷ []) refl)
    ∙ on (values.open_text r.undecided) _ (undecided r.undecided) ∙ refl

value-table : (p : ShownParts) (rs : List ObjectRow) → T (values.value_table p rs)
value-table p rs = on (flat_map (values.value_text_of p) rs) _ (each-through frame_tags (values.value_text_of p) (value-row p) rs) ∙ refl

fold : (n : ℕ) → T (values.fold_head n)
fold n = pieces InText (Words (codes "<details class=\"more\"><summary>objects, ") ∷ Number n ∷ Words (codes " more</summary>\n") ∷ []) refl

more-values : (p : ShownParts) (rs : List ObjectRow) → T (values.more_values p rs)
more-values p rs = one-of (length rs == 0) _ _ refl (on (values.fold_head (length rs)) _ (fold (length rs)) ∙ on (values.value_table p rs) _ (value-table p rs) ∙ refl)

all-values : (p : ShownParts) (rs : List ObjectRow) → T (values.values_text p rs)
all-values p rs = both (values.value_table p (take 20 rs)) (values.more_values p (drop 20 rs)) (value-table p (take 20 rs)) (more-values p (drop 20 rs))

-- ---- histories

state : (s : Option Bool) → T (draw.state_word s)
state None = refl
state (Some true) = refl
state (Some false) = refl

bar-open : (s : Option Bool) (b : Bool) (n : Option ℕ) (c w : ℕ) → T (codes "<i class=\"" ++ (draw.state_word s ++ (draw.mark_class b n ++ draw.place_text c w)))
bar-open None false n c w = pieces InText (Words (codes "<i class=\"undecided unsettled") ∷ Words (codes "\" style=\"--a:") ∷ Number c ∷ Words (codes ";--w:") ∷ Number w ∷ Words (codes "\">") ∷ []) refl
bar-open None true None c w = pieces InText (Words (codes "<i class=\"undecided") ∷ Words (codes "\" style=\"--a:") ∷ Number c ∷ Words (codes ";--w:") ∷ Number w ∷ Words (codes "\">") ∷ []) refl
bar-open None true (Some n) c w = pieces InText (Words (codes "<i class=\"undecided older") ∷ Words (codes "\" style=\"--a:") ∷ Number c ∷ Words (codes ";--w:") ∷ Number w ∷ Words (codes "\">") ∷ []) refl
bar-open (Some true) false n c w = pieces InText (Words (codes "<i class=\"committed unsettled") ∷ Words (codes "\" style=\"--a:") ∷ Number c ∷ Words (codes ";--w:") ∷ Number w ∷ Words (codes "\">") ∷ []) refl
bar-open (Some true) true None c w = pieces InText (Words (codes "<i class=\"committed") ∷ Words (codes "\" style=\"--a:") ∷ Number c ∷ Words (codes ";--w:") ∷ Number w ∷ Words (codes "\">") ∷ []) refl
bar-open (Some true) true (Some n) c w = pieces InText (Words (codes "<i class=\"committed older") ∷ Words (codes "\" style=\"--a:") ∷ Number c ∷ Words (codes ";--w:") ∷ Number w ∷ Words (codes "\">") ∷ []) refl
bar-open (Some false) false n c w = pieces InText (Words (codes "<i class=\"aborted unsettled") ∷ Words (codes "\" style=\"--a:") ∷ Number c ∷ Words (codes ";--w:") ∷ Number w ∷ Words (codes "\">") ∷ []) refl
bar-open (Some false) true None c w = pieces InText (Words (codes "<i class=\"aborted") ∷ Words (codes "\" style=\"--a:") ∷ Number c ∷ Words (codes ";--w:") ∷ Number w ∷ Words (codes "\">") ∷ []) refl
bar-open (Some false) true (Some n) c w = pieces InText (Words (codes "<i class=\"aborted older") ∷ Words (codes "\" style=\"--a:") ∷ Number c ∷ Words (codes ";--w:") ∷ Number w ∷ Words (codes "\">") ∷ []) refl

assoc-bar : (a b c d e : List ℕ) → spot_behind frame_tags InText (a ++ (b ++ (c ++ (d ++ e)))) ≡ spot_behind frame_tags InText ((a ++ (b ++ (c ++ d))) ++ e)
assoc-bar a b c d e = ap (spot_behind frame_tags InText) (sym (append_assoc a (b ++ (c ++ d)) e ∙ ap (λ t. a ++ t) (append_assoc b (c ++ d) e ∙ ap (λ t. b ++ t) (append_assoc c d e))))

bar : (axis : List StampParts) (v : VersionRow) → T (draw.bar_text axis v)
bar axis v =
    let c = column axis v.start.stamp in
    let place = draw.place_text c (draw.bar_to axis c v.end) in
    let rest = values.value_cut 20 v.value ++ codes "</i>\n" in
    assoc-bar (codes "<i class=\"") (draw.state_word v.state) (draw.mark_class v.settled v.older) place rest
    ∙ on (codes "<i class=\"" ++ (draw.state_word v.state ++ (draw.mark_class v.settled v.older ++ place))) rest (bar-open v.state v.settled v.older c (draw.bar_to axis c v.end))
    ∙ on (values.value_cut 20 v.value) _ (value-cut 20 v.value) ∙ refl

origin-bar : (axis : List StampParts) (e : Option TimeParts) → T (draw.origin_bar axis e)
origin-bar axis None = refl
origin-bar axis (Some t) = pieces InText (Words (codes "<i class=\"origin\" style=\"--w:") ∷ Number (column axis t.stamp) ∷ Words (codes "\"></i>\n") ∷ []) refl

floor-line : (axis : List StampParts) (e : Option TimeParts) → T (draw.floor_line axis e)
floor-line axis None = refl
floor-line axis (Some t) = pieces InText (Words (codes "<i class=\"floor\" style=\"--a:") ∷ Number (column axis t.stamp) ∷ Words (codes "\"></i>\n") ∷ []) refl

bars : (axis : List StampParts) (r : ObjectRow) → T (draw.bars_text axis r)
bars axis r = on (draw.origin_bar axis r.origin) _ (origin-bar axis r.origin) ∙ on (draw.floor_line axis r.floor) _ (floor-line axis r.floor) ∙ each-through frame_tags (draw.bar_text axis) (bar axis) r.versions

older : (n : Option ℕ) → T (draw.older_word n)
older None = refl
older (Some n) = pieces InText (Words (codes ", only in volume ") ∷ Number n ∷ []) refl

settled : (b : Bool) → T (draw.settled_word b)
settled true = refl
settled false = refl

version-end : (v : VersionRow) → T (draw.version_end v)
version-end v = on (draw.state_word v.state) _ (state v.state) ∙ on (draw.older_word v.older) _ (older v.older) ∙ on (draw.settled_word v.settled) _ (settled v.settled) ∙ pieces InText (Words (codes "</td><td>") ∷ Printed v.value ∷ Words (codes "</td></tr>\n") ∷ []) refl

version : (p : ShownParts) (v : VersionRow) → T (draw.version_text p v)
version p v = on (shown.time_ref p v.start) _ (time-ref p v.start) ∙ on (values.time_or_none v.end) _ (time-or-none v.end) ∙ version-end v

origin : (e : Option TimeParts) → T (draw.origin_text e)
origin None = refl
origin (Some t) = pieces InText (Words (codes "<tr><td>origin</td><td>") ∷ Time t ∷ Words (codes "</td><td></td><td>what was there at first</td></tr>\n") ∷ []) refl

floor : (e : Option TimeParts) → T (draw.floor_text e)
floor None = refl
floor (Some t) = pieces InText (Words (codes "<p>floor ") ∷ Time t ∷ Words (codes "</p>\n") ∷ []) refl

hidden : (n : ℕ) → T (draw.hidden_text n)
hidden n = one-of (n == 0) _ _ refl (pieces InText (Words (codes "<p>versions, ") ∷ Number n ∷ Words (codes " more: choose with --object, --from and --to</p>\n") ∷ []) refl)

versions : (p : ShownParts) (r : ObjectRow) → T (draw.versions_text p r)
versions p r =
    on (draw.origin_text r.origin) _ (origin r.origin) ∙ on (flat_map (draw.version_text p) r.versions) _ (each-through frame_tags (draw.version_text p) (version p) r.versions)
    ∙ on (draw.floor_text r.floor) _ (floor r.floor) ∙ hidden r.hidden

row-head : (r : ObjectRow) → T (draw.row_head r)
row-head r = pieces InText (Words (codes "<details class=\"row\" id=\"o") ∷ Object r.object ∷ Words (codes "\"><summary><b>") ∷ Object r.object ∷ Words (codes "</b><span class=\"bars\">\n") ∷ []) refl

row : (p : ShownParts) (axis : List StampParts) (r : ObjectRow) → T (draw.row_text p axis r)
row p axis r = on (draw.row_head r) _ (row-head r) ∙ on (draw.bars_text axis r) _ (bars axis r) ∙ on (draw.versions_text p r) _ (versions p r) ∙ refl

mark : (p : ShownParts) (axis : List StampParts) (every : ℕ) (s : StampParts) → T (draw.mark_text p axis every s)
mark p axis every s = one-of (column axis s % every == 0) _ _ (on (text_of (Words (codes "<i style=\"--a:") ∷ Number (column axis s) ∷ Words (codes "\">") ∷ [])) _ (pieces InText (Words (codes "<i style=\"--a:") ∷ Number (column axis s) ∷ Words (codes "\">") ∷ []) refl) ∙ on (shown.stamp_ref p s) _ (stamp-ref p s) ∙ refl) refl

axis-row : (p : ShownParts) (axis : List StampParts) → T (draw.axis_text p axis)
axis-row p axis = on (flat_map (draw.mark_text p axis (draw.every_of axis)) axis) _ (each-through frame_tags (draw.mark_text p axis (draw.every_of axis)) (mark p axis (draw.every_of axis)) axis) ∙ refl

rows : (p : ShownParts) (axis : List StampParts) (rs : List ObjectRow) → T (draw.rows_text p axis rs)
rows p axis rs =
    on (text_of (Words (codes "<div class=\"histories\" style=\"--n:") ∷ Number (length axis) ∷ Words (codes "\">\n") ∷ [])) _ (pieces InText (Words (codes "<div class=\"histories\" style=\"--n:") ∷ Number (length axis) ∷ Words (codes "\">\n") ∷ []) refl) ∙ on (draw.axis_text p axis) _ (axis-row p axis)
    ∙ on (flat_map (draw.row_text p axis) rs) _ (each-through frame_tags (draw.row_text p axis) (row p axis) rs) ∙ refl

more-rows : (p : ShownParts) (axis : List StampParts) (rs : List ObjectRow) → T (draw.more_rows p axis rs)
more-rows p axis rs = one-of (length rs == 0) _ _ refl (on (values.fold_head (length rs)) _ (fold (length rs)) ∙ on (draw.rows_text p axis rs) _ (rows p axis rs) ∙ refl)

all-rows : (p : ShownParts) (axis : List StampParts) (rs : List ObjectRow) → T (draw.all_rows p axis rs)
all-rows p axis rs = both (draw.rows_text p axis (take 20 rs)) (draw.more_rows p axis (drop 20 rs)) (rows p axis (take 20 rs)) (more-rows p axis (drop 20 rs))

-- ---- files

name : (m : MediumLook) → T (media.name_text m)
name m = on (kind_word m.kind) _ (node-kind m.kind) ∙ pieces InText (Number m.number ∷ Words (codes ", volume ") ∷ Number m.volume ∷ []) refl

medium-state : (s : MediumState) → T (media.state_text s)
medium-state Whole = refl
medium-state (Damaged page) = pieces InText (Words (codes "<td class=\"damaged\">damaged at page ") ∷ Number page ∷ []) refl
medium-state Shut = refl

fault : (s : MediumState) → T (media.fault_text s)
fault Whole = refl
fault (Damaged page) = pieces InText (Words (codes " is damaged at page ") ∷ Number page ∷ Words (codes ": nothing of its log is shown") ∷ []) refl
fault Shut = refl

banner : (m : MediumLook) → T (media.banner_text m)
banner m = one-of (media.is_whole m.state) _ _ refl (on (media.name_text m) _ (name m) ∙ on (media.fault_text m.state) _ (fault m.state) ∙ refl)

volume-role : (v : ℕ) → T (media.volume_role v)
volume-role v =
    one-of (nat_lt v 1000) _ _ refl (one-of (v == 1001) _ _ refl (one-of (v == 1002) _ _ refl (one-of (v == 1003) _ _ refl (one-of (v == 1010) _ _ refl refl))))

role : (k : NodeKind) (v : ℕ) → T (media.role_text k v)
role Repository v = volume-role v
role Broker v = refl

room : (acts : ℕ) (m : MediumLook) → T (media.room_text acts m)
room acts m = one-of (acts == 0 || media.written m == 0 || not (m.volume == 0)) _ _ refl (pieces InText (Words (codes "some ") ∷ Number (media.room acts m) ∷ Words (codes " acts") ∷ []) refl)

spoiled-count : (n : ℕ) → T (media.spoiled_text n)
spoiled-count n = one-of (n == 0) _ _ refl (pieces InText (Words (codes ", spoiled ") ∷ Number n ∷ []) refl)

counts : (m : MediumLook) → T (media.counts_text m)
counts m = on (text_of (Words (codes "</td><td>") ∷ Number (length m.log) ∷ Words (codes "</td><td>") ∷ Number (media.written m) ∷ Words (codes " of ") ∷ Number m.pages ∷ [])) _ (pieces InText (Words (codes "</td><td>") ∷ Number (length m.log) ∷ Words (codes "</td><td>") ∷ Number (media.written m) ∷ Words (codes " of ") ∷ Number m.pages ∷ []) refl) ∙ spoiled-count (length m.spoiled)

spoiled : (n : ℕ) → T (media.spoiled_page n)
spoiled page = pieces InText (Words (codes "<i class=\"spoiled") ∷ Words (codes "\" style=\"--a:") ∷ Number page ∷ Words (codes "\"></i>") ∷ []) refl

damaged : (s : MediumState) → T (media.damaged_page s)
damaged Whole = refl
damaged (Damaged page) = pieces InText (Words (codes "<i class=\"damaged") ∷ Words (codes "\" style=\"--a:") ∷ Number page ∷ Words (codes "\"></i>") ∷ []) refl
damaged Shut = refl

strip : (m : MediumLook) → T (media.strip_text m)
strip m = on (text_of (Words (codes "<span class=\"bars strip\" style=\"--n:") ∷ Number m.pages ∷ Words (codes "\"><i class=\"gated\" style=\"--w:") ∷ Number (media.written m) ∷ Words (codes "\"></i>") ∷ [])) _ (pieces InText (Words (codes "<span class=\"bars strip\" style=\"--n:") ∷ Number m.pages ∷ Words (codes "\"><i class=\"gated\" style=\"--w:") ∷ Number (media.written m) ∷ Words (codes "\"></i>") ∷ []) refl) ∙ on (flat_map media.spoiled_page m.spoiled) _ (each-through frame_tags media.spoiled_page spoiled m.spoiled) ∙ on (media.damaged_page m.state) _ (damaged m.state) ∙ refl

medium-pages : (acts : ℕ) (m : MediumLook) → T (media.medium_pages acts m)
medium-pages acts m = on (media.counts_text m) _ (counts m) ∙ on (media.strip_text m) _ (strip m) ∙ on (media.room_text acts m) _ (room acts m) ∙ refl

medium : (acts : ℕ) (m : MediumLook) → T (media.medium_text acts m)
medium acts m = on (media.name_text m) _ (name m) ∙ on (media.role_text m.kind m.volume) _ (role m.kind m.volume) ∙ on (media.state_text m.state) _ (medium-state m.state) ∙ medium-pages acts m

files : (acts : ℕ) (ms : List MediumLook) → T (page.files_text acts ms)
files acts ms = on (flat_map (media.medium_text acts) ms) _ (each-through frame_tags (media.medium_text acts) (medium acts) ms) ∙ refl

-- ---- the page

head : (name : List ℕ) → T (page.head_text name)
head name = on (text_of (Words (codes "<!doctype html>\n<html lang=\"en\"><head><meta charset=\"utf-8\"><meta name=\"viewport\" content=\"width=device-width, initial-scale=1\"><title>") ∷ Text name ∷ Words (codes "</title>\n<style>\n") ∷ [])) _ (pieces InText (Words (codes "<!doctype html>\n<html lang=\"en\"><head><meta charset=\"utf-8\"><meta name=\"viewport\" content=\"width=device-width, initial-scale=1\"><title>") ∷ Text name ∷ Words (codes "</title>\n<style>\n") ∷ []) refl) ∙ pieces InText (Words (codes "</style></head><body>\n<h1>") ∷ Text name ∷ Words (codes "</h1>\n") ∷ []) refl

no-media : (ms : List MediumLook) → T (page.no_media_text ms)
no-media [] = refl
no-media (m ∷ ms) = refl

banners : (ms : List MediumLook) → T (page.banners_text ms)
banners ms = on (page.no_media_text ms) _ (no-media ms) ∙ each-through frame_tags media.banner_text banner ms

cell : (n : ℕ) (word : List ℕ) → T word → T (page.cell_text n word)
cell n word h = one-of (n == 0) _ _ refl (on (decimal n) _ (number n) ∙ on word _ h ∙ refl)

act-cells : (t : Tally) → T (page.act_cells t)
act-cells t =
    on (page.cell_text t.acts (codes "acts")) _ (cell t.acts (codes "acts") refl) ∙ on (page.cell_text t.tries (codes "attempts")) _ (cell t.tries (codes "attempts") refl)
    ∙ on (page.cell_text t.committed (codes "committed")) _ (cell t.committed (codes "committed") refl) ∙ cell t.others (codes "ended otherwise") refl

tally : (n : ℕ) (t : Tally) → T (page.tally_text n t)
tally n t = on (page.cell_text n (codes "objects")) _ (cell n (codes "objects") refl) ∙ on (page.act_cells t) _ (act-cells t) ∙ refl

left : (n : ℕ) → T (page.left_text n)
left n = one-of (n == 0) _ _ refl (pieces InText (Words (codes "<p class=\"banner\">objects, ") ∷ Number n ∷ Words (codes " more aren't shown: choose with --object or --repository</p>\n") ∷ []) refl)

acts-with : (k : NodeKind) (p : ShownParts) (m : MediumLook) → T (page.acts_with k p m)
acts-with Repository p m = refl
acts-with Broker p m = on (media.name_text m) _ (name m) ∙ on (runs.log_text p m.log) _ (log p m.log) ∙ refl

tries-left : (n all : ℕ) → T (page.tries_left n all)
tries-left n all = one-of (nat_lt n all) _ _ (pieces InText (Words (codes "<p class=\"key\">attempts shown, ") ∷ Number n ∷ Words (codes " of ") ∷ Number all ∷ Words (codes ": 300 of each broker at most; choose with --object, --repository, --from and --to</p>\n") ∷ []) refl) refl

attempts : (p : ShownParts) (ms : List MediumLook) → T (page.attempts_text p ms)
attempts p ms = on (page.tries_left (length p.tries) (tally_of ms).tries) _ (tries-left (length p.tries) (tally_of ms).tries) ∙ on (lines.lines_text p ms) _ (time-line p ms) ∙ each-through frame_tags (page.acts_text p) (λ m. acts-with m.kind p m) ms

histories : (p : ShownParts) (rs : List ObjectRow) → T (page.histories_text p rs)
histories p rs = all-rows p (axis_of rs) rs

first : (p : ShownParts) (ms : List MediumLook) (rs : List ObjectRow) (n : ℕ) → T (page.first_text p ms rs n)
first p ms rs n =
    on (page.banners_text ms) _ (banners ms) ∙ on (page.tally_text (length (objects_of ms)) (tally_of ms)) _ (tally (length (objects_of ms)) (tally_of ms))
    ∙ on (values.values_text p rs) _ (all-values p rs) ∙ left n

rest : (p : ShownParts) (ms : List MediumLook) (rs : List ObjectRow) → T (page.rest_text p ms rs)
rest p ms rs = on (page.attempts_text p ms) _ (attempts p ms) ∙ on (page.histories_text p rs) _ (histories p rs) ∙ on (page.files_text (tally_of ms).acts ms) _ (files (tally_of ms).acts ms) ∙ refl

whole : (name : List ℕ) (p : ShownParts) (ms : List MediumLook) (rs : List ObjectRow) (n : ℕ) → T (page.page_of name p ms rs n)
whole name p ms rs n = on (page.head_text name) _ (head name) ∙ on (page.first_text p ms rs n) _ (first p ms rs n) ∙ rest p ms rs

pub folder-page : (name : List ℕ) (c : Choice) (ms : List MediumLook) → T (page.folder_page name c ms)
folder-page name c ms = whole name (shown_of c ms (rows_of c ms)) ms (rows_of c ms) (objects_left c ms)
