pub mod HeightLemmas
