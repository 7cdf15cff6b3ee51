-- Bytes that are written one piece after another.
use Rattle.run_command.proofs.Names.{Option, Appends, AppendsFront, ◌≡◌, ℕ, ◌+◌, ◌-◌, ◌≤◌, List, length, take, drop, sym, arith, length-drop, Keeps, take-append-drop}
use Rattle.std.proofs.Math.Seq.{take-add, take-length}
use Rattle.std.proofs.KnownBytes.{Appends-trans, Appends-kept}

pub take-drop_rest : (bytes : List ℕ) (n : ℕ) → take (length bytes - n) (drop n bytes) ≡ drop n bytes
take-drop_rest bytes n = rw (← length-drop n bytes) (take-length (drop n bytes))

-- one piece more
pub Appends-more : (a b c : Option (List ℕ)) (bytes : List ℕ) (at count : ℕ) → at ≤ length bytes → Appends a b (take at bytes) → Appends b c (take count (take (length bytes - at) (drop at bytes))) → Appends a c (take (at + count) bytes)
Appends-more a b c bytes at count within p q =
    rw take-add (Appends-trans a b c (take at bytes) (take count (drop at bytes)) p (rw (take-drop_rest bytes at) at q))

-- a fault after some pieces
pub AppendsFront-fault : (a b c : Option (List ℕ)) (bytes : List ℕ) (at : ℕ) → Appends a b (take at bytes) → Keeps b c → AppendsFront a c bytes
AppendsFront-fault a b c bytes at p q = (take at bytes, drop at bytes, sym (take-append-drop at bytes), Appends-kept a b c (take at bytes) p q)

pub within_more : (bytes : List ℕ) (at count : ℕ) → at ≤ length bytes → count ≤ length (take (length bytes - at) (drop at bytes)) → at + count ≤ length bytes
within_more bytes at count within h = let k : count ≤ length (drop at bytes) = rw (take-drop_rest bytes at) at h in omega (arith, length-drop at bytes)
