use Rattle.std.proofs.Common.{[], ◌∷◌, ◌++◌, sym, ap, ◌∙◌, arith}
use Rattle.std.specs.Prelude.{slice_set}
use Rattle.script_meaning.specs.Names.{with_name}
use Rattle.script_meaning.proofs.NameLemmas.{within_at, set_at, new_at}
use Rattle.script_meaning.proofs.names.Names.set.Goals as goal

pub index_mut-requires : goal.index_mut-requires
index_mut-requires c =
    let within = within_at c.self.inside.entries.items c.as_slice.result.now c.args.name c.as_slice-2.result.now c.place_of.result c.in-Some.index c.place_of.ensures c.in-Some.is c.as_slice.ensures.value c.as_slice-2.ensures in
    omega arith

pub returns-in-Some-clause-ok : goal.returns-in-Some-clause-ok
returns-in-Some-clause-ok c =
    ap (λ e. slice_set c.self.inside.entries.items c.in-Some.index e) c.new.ensures
    ∙ set_at c.self.inside.entries.items c.as_slice.result.now c.args.name c.as_slice-2.result.now c.place_of.result c.in-Some.index c.args.value c.place_of.ensures c.in-Some.is c.as_slice.ensures.value c.as_slice-2.ensures
    ∙ ap (λ names. with_name names c.args.name c.args.value) c.self.view_is

pub returns-in_ok-push-in-None-clause-ok : goal.returns-in_ok-push-in-None-clause-ok
returns-in_ok-push-in-None-clause-ok c =
    c.in_ok-push-in-None.ensures.items
    ∙ ap (λ e. c.self.inside.entries.items ++ e ∷ []) c.new-in-None.ensures
    ∙ sym (new_at c.self.inside.entries.items c.as_slice.result.now c.args.name c.as_slice-2.result.now c.place_of.result c.args.value c.place_of.ensures c.in-None.is c.as_slice.ensures.value c.as_slice-2.ensures)
    ∙ ap (λ names. with_name names c.args.name c.args.value) c.self.view_is
