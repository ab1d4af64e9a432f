use Rattle.std.proofs.Common.{List, ◌∷◌, sym, subst}
use Rattle.akl_terms.specs.declared.name.Var.{Var}
use Rattle.akl_terms.specs.Template.{tree}
use Rattle.local_store.specs.Bound.{variable_in}
use Rattle.local_store.specs.Chained.{innermost, around}
use Rattle.local_store.specs.Parts.{with_part}
use Rattle.local_store.specs.Stored.{Stored}
use Rattle.body_goals.specs.Takes.{Takes}
use Rattle.body_goals.proofs.Taking.{binding_takes}
use Rattle.body_goals.proofs.telling.tell.Goals as goal

pub returns-clause-taken : goal.returns-clause-taken
returns-clause-taken c =
    let bound : List Var = c.in-Some.variable ∷ variable_in (tree c.args.chain.now.nodes c.in-Some.term) in
    let ss : List Stored = c.args.chain.now.stores in
    let old : Stored = with_part (innermost ss) c.args.told.now.part in
    record {
      bound = bound;
      takes = subst (λ (s : Stored). Takes c.args.chain.now.nodes (around ss) old c.args.equation s bound) (sym (c.in_ok-bind.ensures.part (innermost ss)))
          (binding_takes c.args.chain.now.nodes (around ss) old c.requires c.args.equation c.in-Some.variable c.in-Some.term c.in-Some.ensures);
      all_bound = rw c.templates.ensures.nodes at c.in_ok-bind.ensures.bound;
      solved = c.in_ok-bind.ensures.solved;
    }
