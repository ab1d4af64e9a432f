use Rattle.std.proofs.Common.{rules, ◌≡◌, ◌≤◌, ℕ, List, length, map, Bool, sym, subst, ap, arith}
use Rattle.std.proofs.lemmas.List.{length-map}
use Rattle.cycle_marks.specs.declared.search.Mark.{Mark}
use Rattle.cycle_marks.specs.Rows.{AreRanked}
use Rattle.cycle_marks.specs.Components.{rank_of, is_cyclic}
use Rattle.cycle_marks.specs.Searching.{State, IsSearch}
use Rattle.cycle_marks.proofs.Steps.{at-start, ranked}
use Rattle.cycle_marks.proofs.found.find_components.Goals as goal

pub loop-node-init : goal.loop-node-init
loop-node-init c = record {
  search = subst (λ (s : State). IsSearch (map (λ v. v.items) c.args.rows.now) s) (sym c.in_ok-search.ensures) (at-start (map (λ v. v.items) c.args.rows.now) (length c.args.rows.now) (sym (length-map c.args.rows.now (λ v. v.items))));
  empty = ap (λ (s : State). s.nodes) c.in_ok-search.ensures;
  met = λ x l a. omega (arith, l);
}

pub returns : goal.returns
returns c =
    let rows : List (List ℕ) = map (λ v. v.items) c.args.rows.now in
    let s : State = c.loop-node.search in
    let all : length c.args.rows.now ≤ c.loop-node.node = search rules in
    let size : length rows ≡ length c.args.rows.now = length-map c.args.rows.now (λ v. v.items) in
    let found : AreRanked rows (rank_of (record { marks = s.marks; cyclic = s.cyclic })) (is_cyclic (record { marks = s.marks; cyclic = s.cyclic })) =
    ranked rows s c.loop-node.invariant.search c.loop-node.invariant.empty (λ x l. c.loop-node.invariant.met x (omega (arith, l, all, size))) in
    subst (λ (ms : List Mark). AreRanked rows (rank_of (record { marks = ms; cyclic = c.into_parts-marks.result.1.items })) (is_cyclic (record { marks = ms; cyclic = c.into_parts-marks.result.1.items }))) (sym c.into_parts-marks.ensures.marks)
    (subst (λ (bs : List Bool). AreRanked rows (rank_of (record { marks = s.marks; cyclic = bs })) (is_cyclic (record { marks = s.marks; cyclic = bs }))) (sym c.into_parts-marks.ensures.cyclic) found)
