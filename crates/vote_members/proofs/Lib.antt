mod CloseLemmas
