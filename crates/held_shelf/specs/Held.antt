-- What a shelf over held media has under a name: the medium that is held there, else what the shelf below has.
use Rattle.std.specs.Prelude.{ℕ, ⊤, Option, Some, None}
use Rattle.medium_port.specs.Image.{Image}

-- it is out: it was handed out from here, or by the shelf below
abbrev pub IsOut : {M : Type 0} → Option (Option M) → Type 0 → Type 0
IsOut None below = below
IsOut (Some None) below = ⊤
IsOut (Some (Some m)) below = ⊥

-- what reads of it give
abbrev pub image_in : {M : Type 0} → (M → Image) → Image → Option (Option M) → Image
image_in reads below None = below
image_in reads below (Some None) = below
image_in reads below (Some (Some m)) = reads m

-- what a crash may leave of it
abbrev pub left_in : {M : Type 0} → (M → Image → Type 0) → (Image → Type 0) → Option (Option M) → Image → Type 0
left_in may_leave below None c = below c
left_in may_leave below (Some None) c = below c
left_in may_leave below (Some (Some m)) c = may_leave m c

-- how often it has failed
abbrev pub count_in : {M : Type 0} → (M → ℕ) → ℕ → Option (Option M) → ℕ
count_in faults below None = below
count_in faults below (Some None) = below
count_in faults below (Some (Some m)) = faults m
