use Rattle.folder_look.proofs.Names.{logs_of, given_up_by, ◌≡◌, ◌≤◌, ◌++◌, drop}
use Rattle.folder_look.proofs.VolumeLemmas.{going}
use Rattle.folder_look.proofs.rows.push_given_up.Given as goal

-- what the volumes that are left give up follows
abbrev pub invariant-loop-medium : goal.invariant-loop-medium
invariant-loop-medium l = record {
  few : l.volumes ≤ l.medium-index;
  adds : l.rows.items ++ going l.choice l.object l.last l.volumes l.before (logs_of l.object.repository (drop l.medium-index l.media)) ≡ l.fn.rows.items ++ given_up_by l.choice l.object l.last (logs_of l.object.repository l.media);
}
