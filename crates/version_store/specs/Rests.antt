-- How a medium stands between two calls, and while an append writes its pages.
use Rattle.std.specs.Prelude.{◌≡◌, ℕ, ◌+◌, ◌-◌, ◌≤◌, List, [], ◌∷◌, ◌++◌, length, take, drop, replicate, true, Some, Ok}
use Rattle.std.specs.List.{list_all}
use Rattle.medium_port.specs.Image.{Image, Only}
use Rattle.page_form.specs.States.{is_blank}
use Rattle.page_form.specs.PageState.TheVariants.{Gated}
use Rattle.page_form.specs.Entries.{Log}
use Rattle.version_store.specs.Filling.{KeepsPages}
use Rattle.page_form.specs.Laying.{Laid, all_of}
use Rattle.page_form.specs.Sheets.{Reading, next}
use Rattle.version_store.specs.Storage.{log_going, begun, scan, entries}

-- ---- the pages of an append

-- what the gated page holds behind its gate
abbrev pub padded : List ℕ → List ℕ
padded body = body ++ replicate (4095 - length body) 0

-- the reading goes on over each page, and has the page's entries more then
abbrev pub PagesFit : Reading → Log → ℕ → List Laid → Type 0
PagesFit reading log page [] = Unit {0}
PagesFit reading log page (l ∷ pages) =
    (log_going (next reading page (Gated (padded l.body))) ≡ Some (log ++ l.adds)) × PagesFit (next reading page (Gated (padded l.body))) (log ++ l.adds) (page + 1) pages

-- ---- media

-- the reading goes on behind the pages before the n-th, and has this log; the others are blank, and all is on the medium
pub record IsAtRest (log : Log) (n : ℕ) (reads : Image) (may_leave : Image → Type 0) : Type 0 where
  pub front : log_going (scan begun 0 (take n reads)) ≡ Some log
  pub blank : list_all is_blank (drop n reads) ≡ true
  pub durable : Only reads may_leave

-- an image stands for the log with the entries that stand whole in the first of these pages
pub record HasPages (log : Log) (pages : List Laid) (image : Image) : Type 0 where
  pub count : ℕ
  pub most : count ≤ length pages
  pub is : entries image ≡ Ok (log ++ all_of (take count pages))

-- what a crash while pages are written may leave: that, and pages that weren't blank as they were
pub record Grows (base : Image) (log : Log) (pages : List Laid) (image : Image) : Type 0 where
  pub has : HasPages log pages image
  pub keeps : KeepsPages base image
