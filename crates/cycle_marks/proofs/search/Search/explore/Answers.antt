use Rattle.std.proofs.Common.{◌≡◌, ◌<◌, ◌≤◌, ◌∷◌, ◌++◌, ℕ, List, [], length, map, get_or, Some, subst, ap, arith}
use Rattle.std.proofs.lemmas.List.{length-map}
use Rattle.std.proofs.lemmas.Option.{slice_get-get_or, slice_get_within}
use Rattle.cycle_marks.specs.declared.search.Mark.TheVariants.{New}
use Rattle.cycle_marks.specs.Searching.{State, IsLast, IsSearch, IsSearching, IsReached, AreOlder}
use Rattle.cycle_marks.proofs.Joining.{search-taken, taken-reached, taken-within}
use Rattle.cycle_marks.proofs.Closing.{none-open}
use Rattle.cycle_marks.proofs.Steps.{begun, opened-met}
use Rattle.cycle_marks.proofs.search.Search.explore.Goals as goal

pub loop-base-init : goal.loop-base-init
loop-base-init c =
    let rows : List (List ℕ) = map (λ v. v.items) c.args.rows.now in
    let row : List ℕ = get_or rows c.args.node [] in
    let there : c.args.node < length c.args.self.now.marks = slice_get_within c.args.self.now.marks c.args.node New c.requires.new in
    let sizes : length c.args.self.now.marks ≡ length rows = c.requires.search.sizes in
    let within : c.args.node < length rows = omega (arith, there, sizes) in
    let z : IsSearch rows c.open_node.new.self × AreOlder c.args.self.now c.open_node.new.self = begun rows row c.args.node c.args.self.now c.open_node.new.self (slice_get-get_or rows c.args.node [] within) c.requires.search c.requires.empty c.requires.new c.in_ok-open_node.ensures.opened in
    record { search = z.0; older = z.1; met = opened-met row c.args.node c.args.self.now c.open_node.new.self c.requires.new c.in_ok-open_node.ensures.opened }

pub follow-requires-clause-row : goal.follow-requires-clause-row
follow-requires-clause-row c =
    let rows : List (List ℕ) = map (λ v. v.items) c.args.rows.now in
    let l : IsLast c.loop-base.self.path c.in-Some.base = c.in-Some.ensures.some in
    let n : (c.loop-base.self ≡ record c.next_edge.new.self { edges = c.next_edge.new.self.edges ++ c.in-Some-next_edge.target ∷ [] }) × (c.in-Some.base.edge ≤ length c.next_edge.new.self.edges) = c.in-Some-next_edge.ensures.some in
    let w : c.in-Some-next_edge.target < length rows = taken-within rows c.loop-base.self l.0 c.in-Some.base l.1 c.next_edge.new.self.edges c.in-Some-next_edge.target (ap (λ (z : State). z.edges) n.0) n.1 c.loop-base.invariant.search c.requires.within in
    simp length-map at w

pub follow-requires-clause-search : goal.follow-requires-clause-search
follow-requires-clause-search c =
    let rows : List (List ℕ) = map (λ v. v.items) c.args.rows.now in
    let l : IsLast c.loop-base.self.path c.in-Some.base = c.in-Some.ensures.some in
    let n : (c.loop-base.self ≡ record c.next_edge.new.self { edges = c.next_edge.new.self.edges ++ c.in-Some-next_edge.target ∷ [] }) × (c.in-Some.base.edge ≤ length c.next_edge.new.self.edges) = c.in-Some-next_edge.ensures.some in
    let same : record c.loop-base.self { edges = c.next_edge.new.self.edges } ≡ c.next_edge.new.self = ap (λ (z : State). record z { edges = c.next_edge.new.self.edges }) n.0 in
    subst (λ (z : State). IsSearching rows (Some c.in-Some-next_edge.target) z) same
    (search-taken rows c.loop-base.self l.0 c.in-Some.base l.1 c.next_edge.new.self.edges c.in-Some-next_edge.target (ap (λ (z : State). z.edges) n.0) n.1 c.loop-base.invariant.search)

pub follow-requires-clause-reached : goal.follow-requires-clause-reached
follow-requires-clause-reached c =
    let rows : List (List ℕ) = map (λ v. v.items) c.args.rows.now in
    let l : IsLast c.loop-base.self.path c.in-Some.base = c.in-Some.ensures.some in
    let n : (c.loop-base.self ≡ record c.next_edge.new.self { edges = c.next_edge.new.self.edges ++ c.in-Some-next_edge.target ∷ [] }) × (c.in-Some.base.edge ≤ length c.next_edge.new.self.edges) = c.in-Some-next_edge.ensures.some in
    subst (λ (xs : List ℕ). IsReached rows xs c.in-Some-next_edge.target) (ap (λ (z : State). z.nodes) n.0)
    (taken-reached rows c.loop-base.self l.0 c.in-Some.base l.1 c.next_edge.new.self.edges c.in-Some-next_edge.target (ap (λ (z : State). z.edges) n.0) n.1 c.loop-base.invariant.search)

pub returns-clause-empty : goal.returns-clause-empty
returns-clause-empty c = none-open (map (λ v. v.items) c.args.rows.now) c.loop-base.self c.loop-base.invariant.search c.in_default.ensures.none
