use Rattle.std.proofs.Common.{◌≡◌, [], List, map, refl, sym, ap, ◌∙◌}
use Rattle.std.proofs.lemmas.List.{length-map}
use Rattle.akl_syntax.specs.Clauses.{Clause}
use Rattle.akl_syntax.specs.Answers.{clause_view}
use Rattle.clause_checks.specs.declared.error.Limit.TheVariants.{Clauses}
use Rattle.clause_checks.specs.Rows.{above}
use Rattle.clause_checks.specs.Refusals.{too_many, refusal_of}
use Rattle.clause_checks.specs.Tallies.{AreListed, clause_of}
use Rattle.clause_checks.proofs.Refusing.{exits, size_at, goals_at}
use Rattle.clause_checks.proofs.Accepting.{accepted, clauses_loadable, checked_clauses, on_ok}
use Rattle.clause_checks.proofs.checks.check_clauses.Goals as goal

pub returns-in_err-none_above-clause-checked : goal.returns-in_err-none_above-clause-checked
unfolding refusal_of
returns-in_err-none_above-clause-checked c =
    let counted = ap (above 10000) (length-map c.args.clauses.now clause_view) ∙ sym c.above.ensures in
    exits (too_many Clauses c.above.result) (refusal_of (map clause_view c.args.clauses.now)) _ _ c.from_residual.ensures.1 c.in_err-none_above.ensures (λ e f. rw (ap (too_many Clauses) counted ∙ f) refl)

pub list_clauses-requires-clause-small : goal.list_clauses-requires-clause-small
list_clauses-requires-clause-small c = size_at 1000000 clause_view c.args.clauses.now c.requires.small

pub check_listed-requires-clause-goals : goal.check_listed-requires-clause-goals
check_listed-requires-clause-goals c = (let listed : AreListed [] c.as_slice.result.now = rw c.as_slice.ensures.value c.in_ok-listing.ensures.listed in goals_at listed)

pub check_listed-requires-clause-small : goal.check_listed-requires-clause-small
check_listed-requires-clause-small c =
    let same : map clause_of c.as_slice.result.now ≡ map clause_view c.args.clauses.now = ap (map clause_of) c.as_slice.ensures.value ∙ c.in_ok-listing.ensures.same in
    size_at 1000000 clause_of c.as_slice.result.now (rw same c.requires.small)

pub returns-clause-checked : goal.returns-clause-checked
returns-clause-checked c =
    let same : map clause_of c.as_slice.result.now ≡ map clause_view c.args.clauses.now = ap (map clause_of) c.as_slice.ensures.value ∙ c.in_ok-listing.ensures.same in
    let counted = c.above.ensures ∙ ap (above 10000) (sym (length-map c.args.clauses.now clause_view)) in
    checked_clauses _ _ _ _ same counted c.in_ok-none_above.ensures c.check_listed.ensures.checked

pub returns-clause-accepted : goal.returns-clause-accepted
returns-clause-accepted c =
    let cs : List Clause = map clause_view c.args.clauses.now in
    let same : map clause_of c.as_slice.result.now ≡ cs = ap (map clause_of) c.as_slice.ensures.value ∙ c.in_ok-listing.ensures.same in
    let counted = c.above.ensures ∙ ap (above 10000) (sym (length-map c.args.clauses.now clause_view)) in
    on_ok (refusal_of cs) _ (checked_clauses _ _ _ _ same counted c.in_ok-none_above.ensures c.check_listed.ensures.checked) (accepted cs)

pub returns-clause-loadable : goal.returns-clause-loadable
returns-clause-loadable c =
    let cs : List Clause = map clause_view c.args.clauses.now in
    let same : map clause_of c.as_slice.result.now ≡ cs = ap (map clause_of) c.as_slice.ensures.value ∙ c.in_ok-listing.ensures.same in
    let counted = c.above.ensures ∙ ap (above 10000) (sym (length-map c.args.clauses.now clause_view)) in
    on_ok (refusal_of cs) _ (checked_clauses _ _ _ _ same counted c.in_ok-none_above.ensures c.check_listed.ensures.checked) (λ e. clauses_loadable cs (accepted cs e))
