use Rattle.std.proofs.Common.{◌∙◌, ap, sym, length, refl, arith}
use Rattle.std.proofs.lemmas.List.{length-map}
use Rattle.term_syntax.specs.View.{tree}
use Rattle.clause_store.proofs.Defined.{clause_put}
use Rattle.clause_store.proofs.definitions.load_clause.Goals as goal

pub returns : goal.returns
returns c =
    clause_put c.args.clause.now _ (rw c.deref.ensures.value at c.in_ok-first.ensures.put) c.in_ok-collected.ensures (rw c.deref-2.ensures.value at c.in_ok-guard.ensures) (rw c.deref-3.ensures.value at c.in_ok-body.ensures)
    (omega (arith, c.len.ensures, c.args.clause.now.names.ok)) refl (c.in_ok-first.ensures.count ∙ ap length c.deref.ensures.value ∙ sym (length-map c.args.clause.now.arguments.items tree)) c.new.ensures c.new-2.ensures refl
