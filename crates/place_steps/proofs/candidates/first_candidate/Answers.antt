use Rattle.std.proofs.Common.{◌≡◌, sym, ap, ◌∙◌}
use Rattle.akl_terms.specs.declared.name.Place.{Place}
use Rattle.table_laws.specs.Rows.{Table}
use Rattle.box_tree.specs.Tables.{TableValue, table_of, goals_in}
use Rattle.box_tree.specs.Insides.{candidate_among, candidate_in}
use Rattle.box_tree.proofs.FirstCandidates.{first_candidate}
use Rattle.place_steps.proofs.candidates.first_candidate.Goals as goal

pub returns : goal.returns
returns c name e =
    let T : Table = table_of c.args.core.now.table in
    let both : Place.Box c.in-Box.name ≡ Place.Box name = sym c.in-Box.is ∙ e in
    let same : c.in-Box.name ≡ name = cc in
    first_candidate T name c.candidate_among.result
    (ap (candidate_in T) (sym same)
    ∙ ap (λ (t : TableValue). candidate_among T (goals_in ((table_of t).box_of c.in-Box.name))) (sym c.table.ensures.table)
    ∙ ap (candidate_among T) (sym c.in_ok-goals.ensures ∙ sym c.as_slice.ensures.value)
    ∙ ap (λ (t : TableValue). candidate_among (table_of t) c.as_slice.result.now) (sym c.table-2.ensures.table)
    ∙ sym c.candidate_among.ensures)
