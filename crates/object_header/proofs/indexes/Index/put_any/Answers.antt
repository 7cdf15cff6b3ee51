use Rattle.object_header.proofs.indexes.Index.put_any.Goals as goal

pub returns : goal.returns
returns c = record { ok = λ m v is. let k = c.in_ok-test_put.ensures.ok m is in c.in_ok-put.ensures.ok m v k.0 k.1 }
