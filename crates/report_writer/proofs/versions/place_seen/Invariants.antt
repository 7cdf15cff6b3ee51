use Rattle.report_writer.proofs.Names.{◌≡◌, ℕ, ◌+◌, drop, option_map, is_visible, first_place}
use Rattle.report_writer.proofs.versions.place_seen.Given as goal

-- none of the versions so far passes
abbrev pub invariant-loop-place : goal.invariant-loop-place
invariant-loop-place l =
    first_place (is_visible l.settles l.at) l.versions ≡ option_map (λ (i : ℕ). l.place + i) (first_place (is_visible l.settles l.at) (drop l.place l.versions))
