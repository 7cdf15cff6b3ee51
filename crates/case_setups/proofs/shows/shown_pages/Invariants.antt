use Rattle.std.proofs.Common.{◌≡◌, false}
use Rattle.medium_port.specs.MemoryMedia.{failed_in, pages_of}
use Rattle.case_setups.proofs.shows.shown_pages.Given as goal

abbrev pub invariant-loop-page : goal.invariant-loop-page
invariant-loop-page l = (failed_in l.medium ≡ false) × (pages_of l.medium ≡ l.pages)
