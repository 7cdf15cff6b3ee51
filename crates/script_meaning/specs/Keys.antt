-- Keys of names: numbers in which most names of a script differ.
use Rattle.std.specs.Prelude.{ℕ, ◌+◌, ◌*◌, ◌%◌, ◌^◌, List, [], ◌∷◌}

-- the key of the bytes so far, with those that follow
abbrev pub key_on : ℕ → List ℕ → ℕ
key_on so_far [] = so_far
key_on so_far (byte ∷ bytes) = key_on ((so_far * 31 % 2 ^ 32 + byte) % 2 ^ 32) bytes

abbrev pub key : List ℕ → ℕ
key name = key_on 0 name
