-- How far an opening has read.
use Rattle.std.specs.Prelude.{◌≡◌, ℕ, ◌≤◌, List, take, drop, Bool, true, false, Option}
use Rattle.page_form.specs.declared.page_reads.Held.{Held}
use Rattle.std.specs.List.{list_all}
use Rattle.medium_port.specs.Image.{Image}
use Rattle.page_form.specs.States.{is_blank}
use Rattle.page_form.specs.Effect.{Effect}
use Rattle.page_form.specs.Heads.{Heads, IsFound}
use Rattle.page_form.specs.Kept.{HeldFit}
use Rattle.page_form.specs.Sheets.{Content, Reading, Going, Ended}
use Rattle.version_store.specs.Storage.{begun, scan}

-- the reading goes on, or it ended at a blank page
abbrev pub reading_of : Bool → Content → Reading
reading_of false c = Going c
reading_of true c = Ended c

-- what the pages before this one have: a content, which the pages before the n-th stand for, and blank pages from there on
pub record Reached (reads : Image) (page : ℕ) (heads : Heads) (effects : List Effect) (held : Option Held) (n : ℕ) (ended : Bool) : Type 0 where
  pub content : Content
  pub stands : IsFound heads effects content.log
  pub pieces : HeldFit held content.held
  pub front : scan begun 0 (take n reads) ≡ Going content
  pub reading : scan begun 0 (take page reads) ≡ reading_of ended content
  pub blank : list_all is_blank (drop n (take page reads)) ≡ true
  pub within : n ≤ page
