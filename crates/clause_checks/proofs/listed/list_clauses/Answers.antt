use Rattle.std.proofs.Common.{◌≡◌, ◌+◌, ◌<◌, List, [], ◌∷◌, ◌++◌, length, map, take, sym, ap, ◌∙◌, arith}
use Rattle.std.proofs.lemmas.List.{take_more, take_all, map_push, length-map, length-take}
use Rattle.akl_syntax.specs.Clauses.{Clause}
use Rattle.akl_syntax.specs.Answers.{clause_view}
use Rattle.akl_syntax.specs.declared.source.SourceClause.{SourceClause}
use Rattle.clause_checks.proofs.SameCallee.{same_callees}
use Rattle.clause_checks.proofs.Tallying.{tally_bound}
use Rattle.clause_checks.proofs.Listings.{listing_start, listing_grows}
use Rattle.clause_checks.proofs.listed.list_clauses.Goals as goal

pub loop-clause-init : goal.loop-clause-init
loop-clause-init c = rw (c.new-listing.ensures.callees, c.new-listing.ensures.tallies, c.new-listing.ensures.clauses) listing_start

pub add-requires-clause-lengths : goal.add-requires-clause-lengths
add-requires-clause-lengths c = c.loop-clause.invariant.tallied.lengths

pub add-requires-clause-room : goal.add-requires-clause-room
add-requires-clause-room c =
    let cs : List Clause = map clause_view (take c.loop-clause.clause-index c.args.clauses.now) in
    let short : length cs < 1000000 = rw length-map (omega (arith, length-take c.loop-clause.clause-index c.args.clauses.now, c.loop-clause-test.true, c.loop-clause.auto.clause-index-end, c.requires.few)) in
    omega (arith, short, c.loop-clause.invariant.tallied.few)

pub add-requires-clause-few : goal.add-requires-clause-few
add-requires-clause-few c = λ d t e.
    let cs : List Clause = map clause_view (take c.loop-clause.clause-index c.args.clauses.now) in
    let short : length cs < 1000000 = rw length-map (omega (arith, length-take c.loop-clause.clause-index c.args.clauses.now, c.loop-clause-test.true, c.loop-clause.auto.clause-index-end, c.requires.few)) in
    omega (arith, short, tally_bound cs c.loop-clause.invariant.tallied d t e)

pub loop-clause-preserved : goal.loop-clause-preserved
loop-clause-preserved c =
    let i = c.loop-clause.clause-index in
    let xs : List SourceClause = c.args.clauses.now in
    let more : map clause_view (take (i + 1) xs) ≡ map clause_view (take i xs) ++ clause_view c.clause-item.result ∷ [] =
    ap (map clause_view) (take_more xs i c.clause-item.result (omega (arith, c.loop-clause-test.true, c.loop-clause.auto.clause-index-end)))
    ∙ map_push clause_view (take i xs) _ ∙ ap (λ x. map clause_view (take i xs) ++ clause_view x ∷ []) (sym c.clause-item.is) in
    rw more (listing_grows c.loop-clause.invariant c.in_ok-add.ensures)

pub returns-clause-same : goal.returns-clause-same
returns-clause-same c =
    let all = take_all c.loop-clause.clause-index c.args.clauses.now (omega (arith, c.loop-clause-test.false, c.loop-clause.auto.clause-index-end)) in
    c.loop-clause.invariant.same ∙ ap (map clause_view) all

pub returns-clause-listed : goal.returns-clause-listed
returns-clause-listed c = c.loop-clause.invariant.listed

pub returns-clause-callees : goal.returns-clause-callees
returns-clause-callees c =
    let xs : List SourceClause = c.args.clauses.now in
    let all : take c.loop-clause.clause-index xs ≡ xs = take_all c.loop-clause.clause-index xs (omega (arith, c.loop-clause-test.false, c.loop-clause.auto.clause-index-end)) in
    same_callees _ _ (rw all at c.loop-clause.invariant.tallied.index)
