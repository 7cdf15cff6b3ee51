-- What crashes leave of a node's medium between its own entries.
use Rattle.std.specs.Prelude.{◌≡◌, ℕ, true, List, [], ◌∷◌, ◌++◌, map, slice_index_or}
use Rattle.node_inputs.specs.NodeId.{NodeId}
use Rattle.node_inputs.specs.Moment.{Stage, Goes}
use Rattle.node_inputs.specs.Lives.{IsKept}
use Rattle.node_inputs.specs.Entry.{Entry}
use Rattle.node_inputs.specs.Walks.{Base, names, own, walk}
use Rattle.node_inputs.specs.Sights.{Sight, base_at}

-- an entry of the node's own, behind entries of others
pub record IsNext (n : NodeId) (es : List Entry) : Type 0 where
  pub others : List Entry
  pub entry : Entry
  pub is : es ≡ others ++ entry ∷ []
  pub none : own n others ≡ []
  pub named : names n entry ≡ true

-- the entries up to the node's next own one, and its medium's stages then
pub record Mark : Type 0 where
  pub entries : List Entry
  pub stages : List Stage

abbrev pub entries_in : List Mark → List Entry
entries_in [] = []
entries_in (m ∷ ms) = m.entries ++ entries_in ms

-- Between two own entries, before the first and behind the last a crash at any moment leaves the log of the life that the node has there.
abbrev pub KeptAlong : Base → NodeId → List Entry → List Stage → List Mark → List Stage → Type 0
KeptAlong b n es from [] to = Goes from to (IsKept ((walk b es).life n))
KeptAlong b n es from (m ∷ ms) to = Goes from m.stages (IsKept ((walk b es).life n)) × IsNext n m.entries × KeptAlong b n (es ++ m.entries) m.stages ms to

-- So it was while a story went on from one list to a longer one, and the medium's stages from these to those.
pub record Passes (b : Base) (n : NodeId) (old new : List Entry) (from to : List Stage) : Type 0 where
  pub marks : List Mark
  pub rest : List Entry
  pub none : own n rest ≡ []
  pub story : new ≡ old ++ (entries_in marks ++ rest)
  pub kept : KeptAlong b n old from marks to

-- So it was while the node's pass went on from this sight to that, and its medium's stages from these to those.
pub record PassesOn (n : NodeId) (old new : Sight) (from to : List Stage) : Type 0 where
  pub base : new.base ≡ old.base
  pub names : new.owner ≡ old.owner
  pub passes : Passes (base_at old) n old.story new.story from to

-- ---- cuts: the medium's stages at each own entry, in order

abbrev pub cuts_of : List Mark → List (List Stage)
cuts_of marks = map (λ (m : Mark). m.stages) marks

-- before the first, at each, and behind the last
abbrev pub cut_at : List Stage → List (List Stage) → List Stage → ℕ → List Stage
cut_at from cuts to i = slice_index_or (from ∷ (cuts ++ to ∷ [])) i []
