use Rattle.std.proofs.Common.{◌≡◌, ◌∙◌, ap, sym, map, length}
use Rattle.std.proofs.lemmas.List.{length-map}
use Rattle.term_syntax.specs.Tree.{trees}
use Rattle.term_syntax.specs.View.{tree}
use Rattle.clause_keys.specs.Conditions.{count}
use Rattle.clause_keys.specs.Reserved.{reserved_of}
use Rattle.clause_store.proofs.Coded.{count_trees, reserved_put, call_put, no_such_callee}
use Rattle.clause_store.proofs.codes.call_code.Goals as goal

pub returns-in-Some : goal.returns-in-Some
returns-in-Some c =
    let counted : length c.args.arguments.now ≡ count (trees (map tree c.args.arguments.now)) = sym (count_trees (map tree c.args.arguments.now) ∙ length-map c.args.arguments.now tree) in
    rw c.reserved_code.ensures (reserved_put c.args.symbol.now (trees (map tree c.args.arguments.now)) c.in-Some.meaning (ap (reserved_of c.args.symbol.now) (sym counted) ∙ sym c.in-Some.ensures) c.in_ok-first.ensures.put)

pub unreachable-requires : goal.unreachable-requires
unreachable-requires c =
    let counted : length c.args.arguments.now ≡ count (trees (map tree c.args.arguments.now)) = sym (count_trees (map tree c.args.arguments.now) ∙ length-map c.args.arguments.now tree) in
    no_such_callee _ c.requires.loadable (c.in_default.ensures ∙ ap (reserved_of c.args.symbol.now) counted) (rw (c.in_ok-first.ensures.count ∙ counted) at c.in_default-named.ensures.absent)

pub returns : goal.returns
returns c =
    let counted : length c.args.arguments.now ≡ count (trees (map tree c.args.arguments.now)) = sym (count_trees (map tree c.args.arguments.now) ∙ length-map c.args.arguments.now tree) in
    call_put c.args.symbol.now (trees (map tree c.args.arguments.now)) (c.in_ok-first.ensures.count ∙ counted) (sym (c.in_default.ensures ∙ ap (reserved_of c.args.symbol.now) counted)) c.in-Some-named.ensures.found c.in_ok-first.ensures.put
