-- No version twice, and none left out.
use Rattle.std.specs.Prelude.{◌≡◌, ◌⊎◌, false, List, [], ◌∷◌, ◌==◌}
use Rattle.pseudo_time.specs.Lists.{Every}
use Rattle.pseudo_time.specs.TimeParts.{TimeParts}
use Rattle.object_history.specs.History.{Seen}
use Rattle.folder_look.specs.declared.looks.VersionRow.{VersionRow}

-- no two of them have one place among the Puts of their object
abbrev pub NoneTwice : List Seen → Type 0
NoneTwice [] = Unit {0}
NoneTwice (p ∷ ps) = Every (λ (q : Seen). ((p.place == q.place) ≡ false) × ((q.place == p.place) ≡ false)) ps × NoneTwice ps

-- one of the rows starts there
abbrev pub HasStart : List VersionRow → TimeParts → Type 0
HasStart [] x = ⊥
HasStart (r ∷ rs) x = (r.start ≡ x) ⊎ HasStart rs x
