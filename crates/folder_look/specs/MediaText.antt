-- The files of a folder: what each is for, whether it could be read, and its pages.
use Rattle.std.specs.Prelude.{ℕ, ◌+◌, ◌-◌, ◌*◌, ◌/◌, ◌==◌, ◌||◌, not, Bool, true, false, min, nat_lt, List, [], ◌∷◌, ◌++◌, codes, length, if◌then◌else◌}
use Rattle.std.specs.List.{flat_map}
use Rattle.pseudo_time.specs.declared.nodes.NodeKind.{NodeKind}
use Rattle.pseudo_time.specs.declared.nodes.NodeKind.TheVariants.{Repository, Broker}
use Rattle.report_writer.specs.Reports.{kind_word}
use Rattle.folder_look.specs.declared.looks.MediumLook.{MediumLook}
use Rattle.folder_look.specs.declared.looks.MediumState.{MediumState}
use Rattle.folder_look.specs.declared.looks.MediumState.TheVariants.{Whole, Damaged, Shut}
use Rattle.folder_look.specs.Pieces.{text_of, Words, Number}

-- `repository 1, volume 0`
abbrev pub name_text : MediumLook → List ℕ
name_text m = kind_word m.kind ++ text_of (Number m.number ∷ Words (codes ", volume ") ∷ Number m.volume ∷ [])

-- a damaged medium with its page
abbrev pub state_text : MediumState → List ℕ
state_text Whole = codes "<td class=\"whole\">whole"
state_text (Damaged page) = text_of (Words (codes "<td class=\"damaged\">damaged at page ") ∷ Number page ∷ [])
state_text Shut = codes "<td class=\"shut\">can't be read"

-- ---- what is wrong

abbrev pub fault_text : MediumState → List ℕ
fault_text Whole = []
fault_text (Damaged page) = text_of (Words (codes " is damaged at page ") ∷ Number page ∷ Words (codes ": nothing of its log is shown") ∷ [])
fault_text Shut = codes " can't be read: nothing of its log is shown"

abbrev pub is_whole : MediumState → Bool
is_whole Whole = true
is_whole (Damaged page) = false
is_whole Shut = false

abbrev pub wrong_text : MediumLook → List ℕ
wrong_text m = codes "<p class=\"banner\">" ++ (name_text m ++ (fault_text m.state ++ codes "</p>\n"))

-- a medium that can't be shown is named at the top
abbrev pub banner_text : MediumLook → List ℕ
banner_text m = if is_whole m.state then [] else wrong_text m

-- ---- roles

abbrev pub volume_role : ℕ → List ℕ
volume_role v =
    if nat_lt v 1000 then codes "log"
    else if v == 1001 then codes "totals by count"
    else if v == 1002 then codes "totals by sum"
    else if v == 1003 then codes "totals by last"
    else if v == 1010 then codes "votes"
    else codes "other"

abbrev pub role_text : NodeKind → ℕ → List ℕ
role_text Repository v = volume_role v
role_text Broker v = codes "log"

-- ---- room

-- how many pages are gated or spoiled
abbrev pub written : MediumLook → ℕ
written m = m.gated + length m.spoiled

-- how many more acts its blank pages take, where each takes as many pages as the folder's acts did so far; it counts a thousand million of these at most
abbrev pub room : ℕ → MediumLook → ℕ
room acts m = (m.pages - written m) * min acts 1000000000 / written m

-- nothing where no act shows how large one is, or the acts of volumes before it aren't in it
abbrev pub room_text : ℕ → MediumLook → List ℕ
room_text acts m = if acts == 0 || written m == 0 || not (m.volume == 0) then [] else text_of (Words (codes "some ") ∷ Number (room acts m) ∷ Words (codes " acts") ∷ [])

abbrev pub spoiled_text : ℕ → List ℕ
spoiled_text n = if n == 0 then [] else text_of (Words (codes ", spoiled ") ∷ Number n ∷ [])

-- how many pages of each kind there are
abbrev pub counts_text : MediumLook → List ℕ
counts_text m =
    text_of (Words (codes "</td><td>") ∷ Number (length m.log) ∷ Words (codes "</td><td>") ∷ Number (written m) ∷ Words (codes " of ") ∷ Number m.pages ∷ [])
    ++ spoiled_text (length m.spoiled)

-- ---- strips

-- a page in a strip
abbrev pub strip_page : List ℕ → ℕ → List ℕ
strip_page class page = codes "<i class=\"" ++ (class ++ text_of (Words (codes "\" style=\"--a:") ∷ Number page ∷ Words (codes "\"></i>") ∷ []))

abbrev pub spoiled_page : ℕ → List ℕ
spoiled_page page = strip_page (codes "spoiled") page

abbrev pub damaged_page : MediumState → List ℕ
damaged_page Whole = []
damaged_page (Damaged page) = strip_page (codes "damaged") page
damaged_page Shut = []

abbrev pub strip_head : MediumLook → List ℕ
strip_head m = text_of (Words (codes "<span class=\"bars strip\" style=\"--n:") ∷ Number m.pages ∷ Words (codes "\"><i class=\"gated\" style=\"--w:") ∷ Number (written m) ∷ Words (codes "\"></i>") ∷ [])

-- its pages in order: those that are written, with the spoiled ones among them, then the blank ones
abbrev pub strip_text : MediumLook → List ℕ
strip_text m = strip_head m ++ (flat_map spoiled_page m.spoiled ++ (damaged_page m.state ++ codes "</span>"))

abbrev pub medium_pages : ℕ → MediumLook → List ℕ
medium_pages acts m = counts_text m ++ (strip_text m ++ (codes "</td><td>" ++ (room_text acts m ++ codes "</td></tr>\n")))

-- a row for a medium
abbrev pub medium_text : ℕ → MediumLook → List ℕ
medium_text acts m =
    codes "<tr><th scope=\"row\">" ++ (name_text m ++ (codes "</th><td>" ++ (role_text m.kind m.volume ++ (codes "</td>" ++ (state_text m.state ++ medium_pages acts m)))))

abbrev pub media_table : ℕ → List MediumLook → List ℕ
media_table acts media =
    codes "<table><thead><tr><th scope=\"col\">file</th><th scope=\"col\">role</th><th scope=\"col\">state</th><th scope=\"col\">effects</th><th scope=\"col\">pages written</th><th scope=\"col\">room for</th></tr></thead><tbody>\n"
    ++ (flat_map (medium_text acts) media ++ codes "</tbody></table>\n")
