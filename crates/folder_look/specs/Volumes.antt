-- Which media of a folder have the logs of repositories.
use Rattle.std.specs.Prelude.{Bool, true, false, nat_lt, ◌&&◌}
use Rattle.pseudo_time.specs.declared.nodes.NodeKind.{NodeKind}
use Rattle.pseudo_time.specs.declared.nodes.NodeKind.TheVariants.{Repository, Broker}
use Rattle.folder_look.specs.declared.looks.MediumLook.{MediumLook}

abbrev pub is_repository : NodeKind → Bool
is_repository Repository = true
is_repository Broker = false

-- the volumes of runs: those from 1000 on have totals and votes
abbrev pub is_log : MediumLook → Bool
is_log m = is_repository m.kind && nat_lt m.volume 1000
