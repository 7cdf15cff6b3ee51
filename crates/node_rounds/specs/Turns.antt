-- What turns make of those that have them. `does` is what a turn makes of one.

module _ {S : Type 0} (does : S → S → Type 0) where
  -- it had turns
  pub record HadSome (now : S) : Type 0 where
    pub first : S
    pub did : does first now

  -- what turns had made of it is made of it still
  pub record GoesFurther (old new : S) : Type 0 where
    pub also : (first : S) → does first old → does first new
