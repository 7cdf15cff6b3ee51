-- The plan that a seed makes: transfers between 64 accounts, and a sum of all accounts.
use Rattle.std.specs.Prelude.{ℕ, zero, suc, ◌+◌, ◌*◌, ◌/◌, ◌%◌, ◌^◌, ◌==◌, List, [], ◌∷◌, ◌++◌, codes, if◌then◌else◌}
use Rattle.value_form.specs.declared.acts.ActSpec.{ActSpec}
use Rattle.value_form.specs.declared.objects.ObjectId.{ObjectId}
use Rattle.value_form.specs.declared.expressions.Infix.TheVariants as o
use Rattle.value_form.specs.Mirror.{Term, Number, Name, Between, Given, Fixed, At, Step, Let, Read, Write, Print, If, Repeat, Block, End, Then}
use Rattle.value_form.specs.MirrorLaws.{made_all}
use Rattle.plan_form.specs.declared.plans.Plan.{Plan}

-- ---- draws

-- the state after this one
abbrev pub step : ℕ → ℕ
step x = (x * 6364136223846793005 + 1442695040888963407) % 2 ^ 64

-- what a state draws below n
abbrev pub drawn : ℕ → ℕ → ℕ
drawn state n = (state / 2 ^ 33) % n

-- ---- scripts

-- accounts are numbered from 0 to 63
abbrev pub account : ℕ → ObjectId
account a = record { repository = 1 + a / 8; number = 1 + a % 8 }

-- what the account holds, 1000 where it was never written
abbrev pub balance : List ℕ → Term
balance name = Given (Name name) (Number 1000)

-- the amount goes from the source to the target
abbrev pub moves : (source target : ObjectId) → ℕ → Block
moves source target amount =
    Then (Write 4 (Fixed source) (Between o.Subtract (balance (codes "a")) (Number amount)))
    (Then (Write 5 (Fixed target) (Between o.Add (balance (codes "b")) (Number amount))) End)

-- where the source holds as much, the amount goes to the target
abbrev pub transfer : (source target : ObjectId) → ℕ → Block
transfer source target amount =
    Then (Read 1 (codes "a") (Fixed source))
    (Then (Read 2 (codes "b") (Fixed target))
    (Then (If 3 (Between o.GreaterEqual (balance (codes "a")) (Number amount)) (moves source target amount) 6) End))

-- v is what account k of the repository holds
abbrev pub account_read : (repository line : ℕ) → Step
account_read repository line = Read line (codes "v") (At repository (Name (codes "k")))

-- s grows by it
abbrev pub account_sum : (line : ℕ) → Step
account_sum line = Let line (codes "s") (Between o.Add (Name (codes "s")) (balance (codes "v")))

-- s grows by what account k of each repository holds that is left; the next is this repository, and the next line this line
abbrev pub sums : (left repository line : ℕ) → Block → Block
sums zero repository line behind = behind
sums (suc left) repository line behind = Then (account_read repository line) (Then (account_sum (line + 1)) (sums left (repository + 1) (line + 2) behind))

abbrev pub last_step : Block
last_step = Then (Let 20 (codes "k") (Between o.Add (Name (codes "k")) (Number 1))) End

-- s grows by what account k of each repository holds, and k by one
abbrev pub round : Block
round = sums 8 1 4 last_step

-- the sum of all accounts is printed
abbrev pub audit : Block
audit =
    Then (Let 1 (codes "k") (Number 1))
    (Then (Let 2 (codes "s") (Number 0))
    (Then (Repeat 3 (Number 8) round 21)
    (Then (Print 22 (Name (codes "s"))) End)))

-- ---- acts

abbrev pub act_of : (index broker home : ℕ) → Block → ActSpec
act_of index broker home script =
    record { index = index; broker = broker; home = home; timeout = 100000; tries = 100; clock = 1; script = record { lines = made_all script } }

-- where the account to which money goes was drawn as the one that it comes from, it is the next
abbrev pub target_of : (source target : ℕ) → ℕ
target_of source target = if target == source then (target + 1) % 64 else target

-- the act i whose home, source, target and amount were drawn
abbrev pub transfer_act : (i home source target amount : ℕ) → ActSpec
transfer_act i home source target amount =
    act_of i (1 + i % 8) (1 + home) (transfer (account source) (account (target_of source target)) (amount + 1))

-- the act i, whose four draws are from the states after this one
abbrev pub drawn_act : (state i : ℕ) → ActSpec
drawn_act state i = transfer_act i (drawn (step state) 8) (drawn (step (step state)) 64) (drawn (step (step (step state))) 64) (drawn (step (step (step (step state)))) 20)

-- the state after the four draws of an act
abbrev pub after_act : ℕ → ℕ
after_act state = step (step (step (step state)))

-- the transfers from act i on
abbrev pub transfers : (count state i : ℕ) → List ActSpec
transfers zero state i = []
transfers (suc left) state i = drawn_act state i ∷ transfers left (after_act state) (i + 1)

-- the plan of this seed with so many transfers
abbrev pub made_plan : (seed count : ℕ) → Plan
made_plan seed count = record { run = 1; repositories = 8; brokers = 8; acts = transfers count seed 1 ++ act_of (count + 1) 1 1 audit ∷ [] }
