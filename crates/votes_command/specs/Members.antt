-- The members' media by their names.
use Rattle.std.specs.Prelude.{List, [], ◌∷◌, Option}
use Rattle.pseudo_time.specs.Nodes.{repository}
use Rattle.medium_port.specs.declared.shelves.MediumName.{MediumName}
use Rattle.run_volumes.specs.Shelves.{volume_name}
use Rattle.vote_call.specs.declared.member_media.MemberMedia.{MemberMedia}

-- volume 1010 of repositories 1 to 3
abbrev pub member_names : List MediumName
member_names = volume_name (repository 1) 1010 ∷ volume_name (repository 2) 1010 ∷ volume_name (repository 3) 1010 ∷ []

-- the members' media, in their order
abbrev pub in_order : {M : Type 0} → MemberMedia M → List (Option M)
in_order media = media.first ∷ media.second ∷ media.third ∷ []
