-- The words of the top call.
use Rattle.std.specs.Prelude.{◌≡◌, ◌≢◌, ◌⊎◌, ℕ, Bool, true, false, ◌≤◌, ◌-◌, ◌^◌, List, [], ◌∷◌, codes, get_or, length, map, Option, Some, None}
use Rattle.std.specs.Borrow.{Bor}
use Rattle.std.specs.Fmt.{decimal}
use Rattle.std.specs.Option.{unwrap_or}
use Rattle.value_form.specs.declared.objects.ObjectId.{ObjectId}
use Rattle.report_writer.specs.Parts.{object_text}
use Rattle.command_words.specs.declared.commands.Options.{Options}
use Rattle.command_words.specs.declared.rules.Rule.{Rule}
use Rattle.command_words.specs.declared.rules.Rule.TheVariants.{Count, Sum, Last}
use Rattle.command_words.specs.declared.commands.Command.{Command}
use Rattle.command_words.specs.declared.commands.Command.TheVariants.{Run, Load, History, Retire, Votes, Watch, AsOf, Audit, Snapshot, Settle, Replay}
use Rattle.command_words.specs.declared.options.Given.{Given}

-- ---- numbers

-- the word is this number, between these
pub record IsNumber (least most n : ℕ) (word : List ℕ) : Type 0 where
  pub low : least ≤ n
  pub high : n ≤ most
  pub is : word ≡ decimal n

-- no sign and no zero stands in front, `0` itself aside
abbrev pub IsPlain : List ℕ → Type 0
IsPlain word = (get_or word 0 0 ≢ 43) × (get_or word 0 0 ≡ 48 → length word ≡ 1)

-- ---- options

abbrev pub none_given : Given
none_given = record { workers = None; ticks = None; messages = None }

-- these with one option more, which they lack: its name and its number
abbrev pub IsWith : Given → (name word : List ℕ) → Given → Type 0
IsWith rest name word g =
    ((n : ℕ) × (name ≡ codes "--workers") × IsNumber 1 16 n word × (rest.workers ≡ None) × (g ≡ record rest { workers = Some n }))
    ⊎ (((n : ℕ) × (name ≡ codes "--ticks") × IsNumber 0 1000000 n word × (rest.ticks ≡ None) × (g ≡ record rest { ticks = Some n }))
    ⊎ ((n : ℕ) × (name ≡ codes "--messages") × IsNumber 1 1000000 n word × (rest.messages ≡ None) × (g ≡ record rest { messages = Some n })))

-- the words are these options, in any order, each at most once
abbrev pub AreGiven : Given → List (List ℕ) → Type 0
AreGiven g [] = g ≡ none_given
AreGiven g (name ∷ []) = ⊥
AreGiven g (name ∷ word ∷ more) = (rest : Given) × AreGiven rest more × IsWith rest name word g

-- what isn't given is this
abbrev pub options_of : Given → Options
options_of g = record { workers = unwrap_or g.workers 1; ticks = unwrap_or g.ticks 10000; messages = unwrap_or g.messages 200000 }

abbrev pub AreOptions : Options → List (List ℕ) → Type 0
AreOptions o words = (g : Given) × AreGiven g words × (o ≡ options_of g)

-- of votes, which have no workers
abbrev pub AreVoteOptions : Options → List (List ℕ) → Type 0
AreVoteOptions o words = (g : Given) × AreGiven g words × (g.workers ≡ None) × (o ≡ options_of g)

-- ---- commands

pub record IsLoad (seed count : ℕ) (o : Options) (words : List (List ℕ)) : Type 0 where
  pub seed_word : List ℕ
  pub count_word : List ℕ
  pub more : List (List ℕ)
  pub are : words ≡ codes "load" ∷ seed_word ∷ count_word ∷ more
  pub seed_is : IsNumber 0 (2 ^ 64 - 1) seed seed_word
  pub count_is : IsNumber 1 9999 count count_word
  pub options : AreOptions o more

-- the word is this object
pub record IsObjectWord (object : ObjectId) (word : List ℕ) : Type 0 where
  pub is : word ≡ object_text object
  pub low : 1 ≤ object.repository
  pub high : object.repository ≤ 16
  pub most : object.number ≤ 2 ^ 32 - 1

-- this word, and an object behind it
pub record IsOfObject (name : List ℕ) (object : ObjectId) (words : List (List ℕ)) : Type 0 where
  pub word : List ℕ
  pub are : words ≡ name ∷ word ∷ []
  pub object_is : IsObjectWord object word

abbrev pub IsHistory : ObjectId → List (List ℕ) → Type 0
IsHistory object words = IsOfObject (codes "history") object words

abbrev pub IsAudit : ObjectId → List (List ℕ) → Type 0
IsAudit object words = IsOfObject (codes "audit") object words

-- this word, and behind it a repository and a clock
pub record IsAtClock (name : List ℕ) (repository clock : ℕ) (words : List (List ℕ)) : Type 0 where
  pub repository_word : List ℕ
  pub clock_word : List ℕ
  pub are : words ≡ name ∷ repository_word ∷ clock_word ∷ []
  pub repository_is : IsNumber 1 16 repository repository_word
  pub clock_is : IsNumber 1 (2 ^ 40 - 1) clock clock_word

abbrev pub IsRetire : ℕ → ℕ → List (List ℕ) → Type 0
IsRetire repository clock words = IsAtClock (codes "retire") repository clock words

abbrev pub IsAsOf : ℕ → ℕ → List (List ℕ) → Type 0
IsAsOf repository clock words = IsAtClock (codes "asof") repository clock words

-- the word of a rule
abbrev pub rule_word : Rule → List ℕ
rule_word Count = codes "count"
rule_word Sum = codes "sum"
rule_word Last = codes "last"

pub record IsWatch (repository : ℕ) (rule : Rule) (words : List (List ℕ)) : Type 0 where
  pub repository_word : List ℕ
  pub are : words ≡ codes "watch" ∷ repository_word ∷ rule_word rule ∷ []
  pub repository_is : IsNumber 1 16 repository repository_word

-- this word, and behind it a clock, if one is asked for
abbrev pub IsSnapshot : Option ℕ → List (List ℕ) → Type 0
IsSnapshot None words = words ≡ codes "snapshot" ∷ []
IsSnapshot (Some clock) words = (word : List ℕ) × (words ≡ codes "snapshot" ∷ word ∷ []) × IsNumber 1 (2 ^ 40 - 1) clock word

-- this word, and how many repositories settle
pub record IsSettle (repositories : ℕ) (words : List (List ℕ)) : Type 0 where
  pub word : List ℕ
  pub are : words ≡ codes "settle" ∷ word ∷ []
  pub number_is : IsNumber 1 16 repositories word

-- this word, and behind it another one if the values are asked for
abbrev pub IsReplay : Bool → List (List ℕ) → Type 0
IsReplay false words = words ≡ codes "replay" ∷ []
IsReplay true words = words ≡ codes "replay" ∷ codes "--values" ∷ []

-- the words are this command
abbrev pub AreWords : Command → List (List ℕ) → Type 0
AreWords (Run o) words = (more : List (List ℕ)) × (words ≡ codes "run" ∷ more) × AreOptions o more
AreWords (Load seed count o) words = IsLoad seed count o words
AreWords (History object) words = IsHistory object words
AreWords (Retire repository clock) words = IsRetire repository clock words
AreWords (Votes o) words = (more : List (List ℕ)) × (words ≡ codes "votes" ∷ more) × AreVoteOptions o more
AreWords (Watch repository rule) words = IsWatch repository rule words
AreWords (AsOf repository clock) words = IsAsOf repository clock words
AreWords (Audit object) words = IsAudit object words
AreWords (Snapshot clock) words = IsSnapshot clock words
AreWords (Settle repositories) words = IsSettle repositories words
AreWords (Replay values) words = IsReplay values words

-- what the words of a call are
abbrev pub said : List (Bor (List ℕ)) → List (List ℕ)
said words = map (λ w. w.now) words

-- they are no command
abbrev pub AreNone : List (List ℕ) → Type 0
AreNone words = (c : Command) → AreWords c words → ⊥
