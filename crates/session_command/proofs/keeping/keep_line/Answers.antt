use Rattle.std.proofs.Common.{append_assoc, subst, ◌++◌, ◌∷◌, []}
use Rattle.session_command.specs.Kept.{IsKept}
use Rattle.session_command.proofs.keeping.keep_line.Goals as goal

pub returns : goal.returns
returns c whole all is line_is =
    subst (IsKept c.keep_byte.new.text.items) (append_assoc whole all (10 ∷ [])) (c.in_ok-keep_byte.ensures (whole ++ all) (c.in_ok-keep_bytes.ensures whole all is line_is))
