use Rattle.version_store.proofs.Names.{ObjectId, object_cmp, Place, Log, last_put, IsLastPut, Heads, AreBelow, ◌≡◌, ℕ, ◌<◌, Option, Some, None, sym, ◌∙◌, subst, IfSome, get}
use Rattle.version_store.proofs.StandLemmas.{last_put-stands}
use Rattle.version_store.proofs.stores.Store.last.Goals as goal

found_below : (limit pages : ℕ) (heads : Heads) (object : ObjectId) (found : Option Place) → limit ≡ pages → found ≡ get object_cmp heads object → AreBelow limit heads → IfSome found (λ (p : Place). p.page < pages)
found_below limit pages heads object None same is below = tt
found_below limit pages heads object (Some place) same is below = subst (λ (n : ℕ). place.page < n) same (below object place (sym is))

pub returns-clause-within : goal.returns-clause-within
returns-clause-within g c = found_below c.args.self.now.pages _ c.args.self.now.heads c.args.object c.copied.result c.args.self.now.count (c.copied.ensures ∙ c.get.ensures.value) c.args.self.now.below

put_found : (log : Log) (object : ObjectId) (found : Option Place) → found ≡ last_put log object → IfSome found (λ (p : Place). IsLastPut log object p)
put_found log object None is = tt
put_found log object (Some place) is = last_put-stands log object place (sym is)

pub returns-clause-put : goal.returns-clause-put
returns-clause-put g c told = put_found _ c.args.object c.copied.result (c.copied.ensures ∙ c.get.ensures.value ∙ c.args.self.now.heads_fit told c.args.object)
