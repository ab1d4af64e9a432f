use Rattle.std.proofs.Common.{◌≡◌, ◌+◌, List, length, map, sym, ap, ◌∙◌, arith}
use Rattle.akl_terms.specs.declared.name.Name.{Name}
use Rattle.box_tree.specs.declared.standing.Standing.{Standing}
use Rattle.box_tree.specs.declared.way.Way.{Way}
use Rattle.box_tree.specs.Tables.{table_of}
use Rattle.box_tree.specs.Paths.{known_in, latest_in, names_at, seen_as, body_of_only}
use Rattle.box_tree.proofs.Viewed.{has_path, view_of}
use Rattle.box_tree.proofs.table.Table.look.Goals as goal

pub way_to-requires-clause-path : goal.way_to-requires-clause-path
way_to-requires-clause-path c = has_path c.args.self.now c.args.journal.now.items c.requires c.args.place c.in_ok-standing.standing.home c.in_ok-standing.standing.sight c.in_ok-standing.ensures.standing.sight

pub known_of-requires-clause-outermost : goal.known_of-requires-clause-outermost
known_of-requires-clause-outermost c = λ m ms e. c.in_ok-path.ensures.outermost m ms (sym c.as_slice.ensures.value ∙ e)

pub invariant_of-result-2 : goal.invariant_of-result-2
invariant_of-result-2 c =
    let T = table_of c.args.self.now in
    let standing : Standing = c.in_ok-standing.standing in
    let way : Way = c.in_ok-path.field-0 in
    let path : List Name = way.path.items in
    let known : c.in_ok-known.known ≡ known_in T 0 path = c.in_ok-known.ensures.known ∙ ap (known_in T 0) c.as_slice.ensures.value in
    let latest : c.in_ok-known.latest ≡ latest_in T 0 path = c.in_ok-known.ensures.latest ∙ ap (latest_in T 0) c.as_slice.ensures.value in
    let whole : c.in-Some.whole ≡ length path + 1 = omega (arith, c.in-Some.ensures, c.len.ensures, ap length c.as_slice-2.ensures.value) in
    let names : standing.alternatives.now ≡ names_at T c.args.place = c.in_ok-standing.ensures.standing.alternatives in
    rw (c.of.ensures, c.of-2.ensures, c.in_ok-boxed.ensures) (view_of c.args.self.now c.args.journal.now.items c.requires c.args.place c.args.worker standing.home standing.sight path way.stores.items c.in_ok-known.known c.next_of.result
    c.in_ok-alternatives.alternatives.items c.in_ok-alternatives.body.items c.in_ok-standing.ensures.standing.sight c.in_ok-path.ensures.path c.in_ok-path.ensures.stores known c.next_of.ensures
    (c.in_ok-alternatives.ensures.alternatives ∙ (λ i. map (seen_as c.args.self.now (known i) (latest i) (whole i)) (names i))) (c.in_ok-alternatives.ensures.body ∙ ap (body_of_only T) names))

pub returns-clause-seen : goal.returns-clause-seen
returns-clause-seen c =
    let T = table_of c.args.self.now in
    let standing : Standing = c.in_ok-standing.standing in
    let way : Way = c.in_ok-path.field-0 in
    let path : List Name = way.path.items in
    let known : c.in_ok-known.known ≡ known_in T 0 path = c.in_ok-known.ensures.known ∙ ap (known_in T 0) c.as_slice.ensures.value in
    let latest : c.in_ok-known.latest ≡ latest_in T 0 path = c.in_ok-known.ensures.latest ∙ ap (latest_in T 0) c.as_slice.ensures.value in
    let whole : c.in-Some.whole ≡ length path + 1 = omega (arith, c.in-Some.ensures, c.len.ensures, ap length c.as_slice-2.ensures.value) in
    let names : standing.alternatives.now ≡ names_at T c.args.place = c.in_ok-standing.ensures.standing.alternatives in
    rw (c.of.ensures, c.of-2.ensures, c.in_ok-boxed.ensures) (view_of c.args.self.now c.args.journal.now.items c.requires c.args.place c.args.worker standing.home standing.sight path way.stores.items c.in_ok-known.known c.next_of.result
    c.in_ok-alternatives.alternatives.items c.in_ok-alternatives.body.items c.in_ok-standing.ensures.standing.sight c.in_ok-path.ensures.path c.in_ok-path.ensures.stores known c.next_of.ensures
    (c.in_ok-alternatives.ensures.alternatives ∙ (λ i. map (seen_as c.args.self.now (known i) (latest i) (whole i)) (names i))) (c.in_ok-alternatives.ensures.body ∙ ap (body_of_only T) names))

pub returns-clause-known : goal.returns-clause-known
returns-clause-known c = rw c.in_ok-boxed.ensures (c.in_ok-known.ensures.known ∙ ap (known_in (table_of c.args.self.now) 0) c.as_slice.ensures.value)

pub returns-clause-alternatives : goal.returns-clause-alternatives
returns-clause-alternatives c =
    let T = table_of c.args.self.now in
    let way : Way = c.in_ok-path.field-0 in
    let path : List Name = way.path.items in
    let known : c.in_ok-known.known ≡ known_in T 0 path = c.in_ok-known.ensures.known ∙ ap (known_in T 0) c.as_slice.ensures.value in
    let latest : c.in_ok-known.latest ≡ latest_in T 0 path = c.in_ok-known.ensures.latest ∙ ap (latest_in T 0) c.as_slice.ensures.value in
    let whole : c.in-Some.whole ≡ length path + 1 = omega (arith, c.in-Some.ensures, c.len.ensures, ap length c.as_slice-2.ensures.value) in
    rw c.in_ok-boxed.ensures (c.in_ok-alternatives.ensures.alternatives ∙ (λ i. map (seen_as c.args.self.now (known i) (latest i) (whole i)) (c.in_ok-standing.ensures.standing.alternatives i)))
