use Rattle.std.proofs.Common.{◌≡◌, ℕ, length, None, replicate, [], ap, subst, sym, ◌∙◌, arith}
use Rattle.std.proofs.lemmas.List.{length-replicate}
use Rattle.akl_syntax.specs.Answers.{clause_view}
use Rattle.akl_syntax.specs.Variables.{clause_variables}
use Rattle.variable_scopes.specs.Numbering.{AreBelow, state}
use Rattle.variable_scopes.proofs.Scopes.{start, named_below, clause_scoped}
use Rattle.variable_scopes.proofs.clauses.scope_clause.Goals as goal

pub number_clause-requires : goal.number_clause-requires
number_clause-requires c =
    let size : length c.in_ok-numbering.numbering.current.items ≡ c.len.result = ap length c.in_ok-numbering.ensures.current ∙ length-replicate c.len.result None in
    subst (λ (z : ℕ). AreBelow z (clause_variables (clause_view c.args.clause.now))) (sym size) (named_below c.len.result _ (λ n o. omega (arith, c.requires.named n o, c.len.ensures)))

pub returns : goal.returns
returns c =
    let current : c.in_ok-numbering.numbering.current.items ≡ replicate c.len.result None = c.in_ok-numbering.ensures.current in
    let found : c.in_ok-numbering.numbering.found.items ≡ [] = c.in_ok-numbering.ensures.found in
    let begins : state c.in_ok-numbering.numbering ≡ start c.len.result = cc in
    clause_scoped c.len.result (clause_view c.args.clause.now) (clause_view record {
      head = c.number_clause.new.clause.head;
      arguments = c.number_clause.new.clause.arguments;
      part = c.number_clause.new.clause.part;
      collected = c.number_clause.new.clause.collected;
      names = c.in_ok-clause.field-0;
      start = c.number_clause.new.clause.start;
    }) (state c.number_clause.new.numbering)
    (named_below c.len.result _ (λ n o. omega (arith, c.requires.named n o, c.len.ensures)))
    c.in_ok-number_clause.ensures.shape
    (rw begins at c.in_ok-number_clause.ensures.numbers)
    (rw (c.deref.ensures.value, c.deref-2.ensures.value, c.in_ok-number_clause.ensures.names) at c.in_ok-clause.ensures)
