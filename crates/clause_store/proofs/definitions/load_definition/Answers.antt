use Rattle.std.proofs.Common.{◌≡◌, ◌<◌, ◌∙◌, ap, sym, map, length, refl, arith, rules}
use Rattle.std.proofs.lemmas.List.{length-map}
use Rattle.term_syntax.specs.View.{tree}
use Rattle.akl_syntax.specs.Sizes.{clauses_size}
use Rattle.akl_syntax.specs.Answers.{clause_view}
use Rattle.akl_syntax.proofs.PartTurns.{part_is}
use Rattle.clause_keys.specs.Keys.{key_of, by_head, called}
use Rattle.clause_keys.proofs.Defined.{defined_is, few_arguments}
use Rattle.clause_store.proofs.Defined.{first_of, definition_put}
use Rattle.clause_store.proofs.definitions.load_definition.Goals as goal

pub overflow_cast-len : goal.overflow_cast-len
overflow_cast-len c =
    let split = first_of c.args.clauses.items c.swap_remove-first.result c.requires.some c.swap_remove-first.ensures.value in
    let few : c.len.result < 4294967296 = omega (
      arith,
      few_arguments (clause_view c.swap_remove-first.result),
      length-map c.swap_remove-first.result.arguments.items tree,
      c.len.ensures,
      c.swap_remove-first.result.arguments.ok,
      ap (λ z. clauses_size (map clause_view z)) split.1,
      c.requires.room.nodes,
    ) in
    search rules

pub returns : goal.returns
returns c =
    let split = first_of c.args.clauses.items c.swap_remove-first.result c.requires.some c.swap_remove-first.ensures.value in
    let op = c.swap_remove-first.result.part.op in
    let op_is = ap (λ p. p.op) (part_is c.swap_remove-first.result.part) in
    let count : c.len.result ≡ length (map tree c.swap_remove-first.result.arguments.items) = omega (arith, length-map c.swap_remove-first.result.arguments.items tree, c.len.ensures, c.swap_remove-first.result.arguments.ok) in
    definition_put _ (clause_view c.swap_remove-first.result) (map clause_view split.0) (ap (map clause_view) split.1) c.requires.unmixed (rw c.deref.ensures.value at c.in_ok-loaded.ensures) c.new.ensures
    (sym op_is) (c.key-key.ensures.key ∙ ap (key_of c.swap_remove-first.result.head) count)
    (sym (ap (called op c.key-key.result.1 c.key-key.result.0) count) ∙ c.key-key.ensures.called op
    ∙ sym (defined_is (clause_view c.swap_remove-first.result) c.swap_remove-first.result.head c.len.result refl count ∙ ap (λ z. by_head z c.swap_remove-first.result.head c.len.result) op_is))
