-- The logs of nodes, which are taken from the last one on.
use Rattle.std.proofs.Common.{◌≡◌, List, [], ◌∷◌, ◌++◌, map, reverse, refl, sym, ◌∙◌, ap}
use Rattle.std.specs.Global.{Vec}
use Rattle.std.proofs.lemmas.List.{map-append, reverse-append}
use Rattle.effect_form.specs.declared.effects.Effect.{Effect}
use Rattle.log_replay.specs.Folders.{items_of}
use Rattle.replay_command.specs.declared.logs.NodeLog.{NodeLog}

abbrev pub effects_of : List NodeLog → List (List Effect)
effects_of = map (λ (n : NodeLog). n.effects)

pub turned-items : (logs : List (Vec Effect)) → items_of (reverse logs) ≡ reverse (items_of logs)
turned-items [] = refl
turned-items (l ∷ logs) =
    ap items_of (reverse-append (l ∷ []) logs) ∙ map-append (λ (x : Vec Effect). x.items) (reverse logs) (l ∷ []) ∙ ap (λ z. z ++ l.items ∷ []) (turned-items logs) ∙ sym (reverse-append (l.items ∷ []) (items_of logs))
