-- The page of a folder.
use Rattle.std.specs.Prelude.{ℕ, List, [], ◌∷◌, ◌++◌, codes, length, nat_lt, ◌==◌, if◌then◌else◌}
use Rattle.std.specs.List.{flat_map}
use Rattle.pseudo_time.specs.declared.nodes.NodeKind.{NodeKind}
use Rattle.pseudo_time.specs.declared.nodes.NodeKind.TheVariants.{Repository, Broker}
use Rattle.folder_look.specs.declared.choices.Choice.{Choice}
use Rattle.folder_look.specs.declared.looks.MediumLook.{MediumLook}
use Rattle.folder_look.specs.declared.looks.ObjectRow.{ObjectRow}
use Rattle.folder_look.specs.declared.tallies.Tally.{Tally}
use Rattle.folder_look.specs.Axes.{axis_of}
use Rattle.folder_look.specs.Drawing.{all_rows}
use Rattle.folder_look.specs.Lines.{lines_text}
use Rattle.folder_look.specs.MediaText.{banner_text, media_table, name_text}
use Rattle.folder_look.specs.Objects.{objects_of, objects_left, rows_of}
use Rattle.folder_look.specs.Pieces.{text_of, Words, Number, Text}
use Rattle.folder_look.specs.Runs.{log_text}
use Rattle.folder_look.specs.Shown.{ShownParts}
use Rattle.folder_look.specs.Sights.{shown_of}
use Rattle.folder_look.specs.Style.{style}
use Rattle.folder_look.specs.Tallies.{tally_of}
use Rattle.folder_look.specs.Values.{values_text}

-- the folder's name is the title
abbrev pub head_text : List ℕ → List ℕ
head_text name =
    text_of (Words (codes "<!doctype html>\n<html lang=\"en\"><head><meta charset=\"utf-8\"><meta name=\"viewport\" content=\"width=device-width, initial-scale=1\"><title>") ∷ Text name ∷ Words (codes "</title>\n<style>\n") ∷ [])
    ++ (style ++ text_of (Words (codes "</style></head><body>\n<h1>") ∷ Text name ∷ Words (codes "</h1>\n") ∷ []))

-- ---- what is wrong

abbrev pub no_media_text : List MediumLook → List ℕ
no_media_text [] = codes "<p class=\"banner\">no file of a node is there</p>\n"
no_media_text (m ∷ ms) = []

abbrev pub banners_text : List MediumLook → List ℕ
banners_text media = no_media_text media ++ flat_map banner_text media

-- ---- counts

-- a number and what it counts, unless there is none
abbrev pub cell_text : ℕ → List ℕ → List ℕ
cell_text n word = if n == 0 then [] else text_of (Words (codes "<span><b>") ∷ Number n ∷ Words (codes "</b> ") ∷ Words word ∷ Words (codes "</span>\n") ∷ [])

abbrev pub act_cells : Tally → List ℕ
act_cells t =
    cell_text t.acts (codes "acts") ++ (cell_text t.tries (codes "attempts") ++ (cell_text t.committed (codes "committed") ++ cell_text t.others (codes "ended otherwise")))

abbrev pub tally_text : ℕ → Tally → List ℕ
tally_text objects t = codes "<div class=\"tally\">\n" ++ (cell_text objects (codes "objects") ++ (act_cells t ++ codes "</div>\n"))

-- ---- parts

abbrev pub left_text : ℕ → List ℕ
left_text n = if n == 0 then [] else text_of (Words (codes "<p class=\"banner\">objects, ") ∷ Number n ∷ Words (codes " more aren't shown: choose with --object or --repository</p>\n") ∷ [])

abbrev pub try_key : List ℕ
try_key = codes "<p class=\"key\">In the order of their stamps: <i class=\"committed\"></i> committed <i class=\"refused\"></i> refused <i class=\"failed\"></i> withdrawn, failed or expired <i class=\"open\"></i> open</p>\n"

-- what the forms of the picture mean
abbrev pub history_key : List ℕ
history_key =
    codes "<p class=\"key\"><i class=\"committed\"></i> committed <i class=\"undecided\"></i> undecided <i class=\"aborted\"></i> aborted <i class=\"committed unsettled\"></i> decided at its home, not settled here yet <i class=\"committed older\"></i> only in an older volume <i class=\"origin\"></i> reads of what was there at first <i class=\"floor\"></i> floor of a retirement</p>\n"
    ++ codes "<p class=\"key\">A bar goes from a version's start to how far it was read. Each stamp has a column, so equal widths aren't equal distances. Open an object for its versions.</p>\n"

abbrev pub broker_text : ShownParts → MediumLook → List ℕ
broker_text p m = codes "<section><h3>" ++ (name_text m ++ (codes "</h3>\n" ++ (log_text p m.log ++ codes "</section>\n")))

abbrev pub acts_with : NodeKind → ShownParts → MediumLook → List ℕ
acts_with Repository p m = []
acts_with Broker p m = broker_text p m

-- the acts of a broker
abbrev pub acts_text : ShownParts → MediumLook → List ℕ
acts_text p m = acts_with m.kind p m

-- how many attempts are shown, if there are more
abbrev pub tries_left : ℕ → ℕ → List ℕ
tries_left n all =
    if nat_lt n all then text_of (Words (codes "<p class=\"key\">attempts shown, ") ∷ Number n ∷ Words (codes " of ") ∷ Number all ∷ Words (codes ": 300 of each broker at most; choose with --object, --repository, --from and --to</p>\n") ∷ [])
    else []

abbrev pub attempts_text : ShownParts → List MediumLook → List ℕ
attempts_text p media = codes "<h2>Attempts</h2>\n" ++ (try_key ++ (tries_left (length p.tries) (tally_of media).tries ++ (lines_text p media ++ flat_map (acts_text p) media)))

abbrev pub histories_text : ShownParts → List ObjectRow → List ℕ
histories_text p rows = codes "<h2>Histories</h2>\n" ++ (history_key ++ all_rows p (axis_of rows) rows)

abbrev pub files_text : ℕ → List MediumLook → List ℕ
files_text acts media = codes "<h2>Files</h2>\n" ++ media_table acts media

-- ---- the whole

-- what is wrong, the counts and the current values
abbrev pub first_text : ShownParts → List MediumLook → List ObjectRow → ℕ → List ℕ
first_text p media rows left = banners_text media ++ (tally_text (length (objects_of media)) (tally_of media) ++ (values_text p rows ++ left_text left))

abbrev pub rest_text : ShownParts → List MediumLook → List ObjectRow → List ℕ
rest_text p media rows = attempts_text p media ++ (histories_text p rows ++ (files_text (tally_of media).acts media ++ codes "</body></html>\n"))

abbrev pub page_of : List ℕ → ShownParts → List MediumLook → List ObjectRow → ℕ → List ℕ
page_of name p media rows left = head_text name ++ (first_text p media rows left ++ rest_text p media rows)

-- the page, as a function of the folder's name, of what its media hold and of what is chosen
abbrev pub folder_page : List ℕ → Choice → List MediumLook → List ℕ
folder_page name c media = page_of name (shown_of c media (rows_of c media)) media (rows_of c media) (objects_left c media)
