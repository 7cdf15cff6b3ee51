-- What a medium over a file is when it was just opened.
use Rattle.std.specs.Prelude.{◌≡◌, false}
use Rattle.medium_port.specs.declared.file_media.FileMedium.{FileMedium}

abbrev pub IsNewMedium : FileMedium → Type 0
IsNewMedium m = m.health ≡ record { failed = false; faults = 0 }
