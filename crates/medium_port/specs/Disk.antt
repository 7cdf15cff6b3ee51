-- What a list of writes, syncs and reopenings has made of a medium.
use Rattle.std.specs.Prelude.{◌≡◌, ◌⊎◌, ⊤, ℕ, ◌+◌, ◌≤◌, ◌<◌, ◌++◌, List, [], ◌∷◌, Option, Some, None, length, map, take, slice_index_or}
use Rattle.std.specs.declared.snapshot.Snapshot.{Snapshot}
use Rattle.std.proofs.Common.{refl, sym, subst}
use Rattle.medium_port.specs.Image.{Image, IsImage, byte_of, put_bytes}
use Rattle.medium_port.specs.Moment.{Stage, Leaves, LeftNow}
pub use Rattle.medium_port.specs.Moment.{Span, OutsideSpan, Outside}
use Rattle.medium_port.specs.declared.events.Event.{Event}
use Rattle.medium_port.specs.declared.events.Event.TheVariants.{Wrote, Synced, Reopened}
use Rattle.medium_port.specs.declared.stops.Stop.{Stop}
use Rattle.medium_port.specs.Stops.{torn_bytes}

-- the writes among the events
abbrev pub spans_of : List Event → List Span
spans_of [] = []
spans_of (Wrote page at bytes ∷ events) = record { page = page; at = at; bytes = bytes } ∷ spans_of events
spans_of (Synced ∷ events) = spans_of events
spans_of (Reopened stop ∷ events) = spans_of events

-- the events that these remember
abbrev pub happened : List (Snapshot Event) → List Event
happened events = map (λ s. s.value) events

-- the image after a stop has torn each of these writes, in their order
abbrev pub damaged : Stop → List Span → Image → Image
damaged stop [] image = image
damaged stop (span ∷ spans) image = damaged stop spans (put_bytes span.page span.at (torn_bytes stop span.bytes) image)

-- a medium's state
pub record Disk : Type 0 where
  -- what reads give
  pub reads : Image
  -- what the last sync left
  pub base : Image
  -- what was written since
  pub unsynced : List Span

abbrev pub disk_of : Image → Disk
disk_of image = record { reads = image; base = image; unsynced = [] }

abbrev pub after_stop : Option Stop → List Span → Image → Image
after_stop None spans image = image
after_stop (Some stop) spans image = damaged stop spans image

abbrev pub after : Disk → Event → Disk
after d (Wrote page at bytes) = record {
  reads = put_bytes page at bytes d.reads;
  base = d.base;
  unsynced = d.unsynced ++ record { page = page; at = at; bytes = bytes } ∷ [];
}
after d Synced = record { reads = d.reads; base = d.reads; unsynced = [] }
after d (Reopened stop) = record { reads = after_stop stop d.unsynced d.reads; base = d.base; unsynced = d.unsynced }

abbrev pub replay : Disk → List Event → Disk
replay d [] = d
replay d (e ∷ es) = replay (after d e) es

-- the state of a medium of n pages, as crashes see it
abbrev pub stage_of : ℕ → Disk → Stage
stage_of n d = record { count = n; synced = d.base; unsynced = d.unsynced }

-- what a crash may leave
abbrev pub MayLeave : ℕ → Disk → Image → Type 0
MayLeave n d c = Leaves (stage_of n d) c

-- the stages while these events happened, behind older ones, the newest first
abbrev pub stages_on : ℕ → List Stage → Disk → List Event → List Stage
stages_on n older d [] = stage_of n d ∷ older
stages_on n older d (e ∷ es) = stages_on n (stage_of n d ∷ older) (after d e) es

-- the last of them
pub last_stage : (n : ℕ) (older : List Stage) (d : Disk) (events : List Event) → (rest : List Stage) × (stages_on n older d events ≡ stage_of n (replay d events) ∷ rest)
last_stage n older d [] = (older, refl)
last_stage n older d (e ∷ es) = last_stage n (stage_of n d ∷ older) (after d e) es

pub counts_last : (n : ℕ) (first : Disk) (events : List Event) (c : Image) → MayLeave n (replay first events) c → LeftNow (stages_on n [] first events) c
counts_last n first events c left = let last = last_stage n [] first events in subst (λ (ss : List Stage). LeftNow ss c) (sym last.1) left

pub only_last : (n : ℕ) (first : Disk) (events : List Event) (c : Image) → LeftNow (stages_on n [] first events) c → MayLeave n (replay first events) c
only_last n first events c left = let last = last_stage n [] first events in subst (λ (ss : List Stage). LeftNow ss c) last.1 left

-- a write within n pages
pub record SpanFits (n : ℕ) (span : Span) : Type 0 where
  pub page : span.page < n
  pub range : span.at + length span.bytes ≤ 4096
  pub bytes : (k : ℕ) → slice_index_or span.bytes k 0 < 256

-- it is one of them
abbrev pub Among : List Span → Span → Type 0
Among [] x = ⊥
Among (span ∷ spans) x = (x ≡ span) ⊎ Among spans x

abbrev pub SpansFit : ℕ → List Span → Type 0
SpansFit n spans = (span : Span) → Among spans span → SpanFits n span

-- what reads give is one of the images
pub record IsSound (n : ℕ) (d : Disk) : Type 0 where
  pub reads : IsImage n d.reads
  pub base : IsImage n d.base
  pub spans : SpansFit n d.unsynced
  pub kept : (page at : ℕ) → Outside d.unsynced page at → byte_of d.reads page at ≡ byte_of d.base page at

pub reads_left : (n : ℕ) (d : Disk) (image : Image) → IsSound n d → image ≡ d.reads → MayLeave n d image
reads_left n d image sound is = subst (λ (i : Image). MayLeave n d i) (sym is) (record { shape = sound.reads; kept = sound.kept })
