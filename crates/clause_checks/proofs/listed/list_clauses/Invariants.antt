use Rattle.std.proofs.Common.{map, take}
use Rattle.akl_syntax.specs.Answers.{clause_view}
use Rattle.clause_checks.proofs.Listings.{IsListing}
use Rattle.clause_checks.proofs.listed.list_clauses.Given as given

abbrev pub invariant-loop-clause : given.invariant-loop-clause
invariant-loop-clause l = IsListing (map clause_view (take l.clause-index l.clauses)) l.listing.callees l.listing.tallies.items l.listing.clauses.items
