use Rattle.std.proofs.Common.{rules, ◌≡◌, ◌≤◌, ◌∷◌, ◌++◌, ℕ, List, [], length, map, subst, sym, ap, ◌∙◌, arith}
use Rattle.std.specs.Prelude.{slice_get}
use Rattle.std.proofs.lemmas.List.{length-map, map-append}
use Rattle.akl_terms.specs.Tree.{Tree}
use Rattle.rational_unify.specs.Known.{end_of}
use Rattle.term_graph.specs.Building.{BeginsSo}
use Rattle.term_graph.proofs.Places.{grows-on}
use Rattle.term_graph.proofs.Rows.{AreRows, rows-more, rows-all}
use Rattle.term_graph.proofs.Reaching.{reaches-row}
use Rattle.term_graph.proofs.Built.{built-along}
use Rattle.term_graph.proofs.builder.Builder.complete.Goals as goal

pub row-requires-clause-short : goal.row-requires-clause-short
row-requires-clause-short g c = c.loop-alloc.invariant.building.short c.len-in-loop-alloc-2.result c.seen.result c.seen.ensures

pub loop-alloc-preserved : goal.loop-alloc-preserved
loop-alloc-preserved g c =
    let t = c.args.templates.now in
    let go : Tree → Tree = end_of t.nodes (g.K.Lookup.bindings c.args.form.now) in
    let rows : List (List ℕ) = map (λ v. v.items) c.loop-alloc.rows.items in
    let items : map (λ v. v.items) c.push.new.self.items ≡ rows ++ c.in_ok-row.row.items ∷ [] = ap (map (λ v. v.items)) c.in_ok-push.ensures.items ∙ map-append (λ v. v.items) c.loop-alloc.rows.items (c.in_ok-row.row ∷ []) in
    let len : c.len-in-loop-alloc-2.result ≡ length c.loop-alloc.rows.items = search rules in
    let at : c.len-in-loop-alloc-2.result ≡ length rows = len ∙ sym (length-map c.loop-alloc.rows.items (λ v. v.items)) in
    let begins : BeginsSo c.loop-alloc.self.seens (length rows) c.seen.result = ap (slice_get c.loop-alloc.self.seens) (sym at) ∙ c.seen.ensures in
    record {
      building = c.in_ok-row.ensures.building;
      grows = grows-on c.loop-alloc.invariant.grows c.in_ok-row.ensures.grows;
      reached = reaches-row t go c.seen.result (length rows) c.args.self.now.seens c.loop-alloc.self.seens c.row.new.self.seens begins c.loop-alloc.invariant.reached c.in_ok-row.ensures.reaches;
      rows = subst (λ (rs : List (List ℕ)). AreRows t go c.row.new.self.seens rs) (sym items)
          (rows-more t go c.loop-alloc.self.seens c.row.new.self.seens rows c.seen.result c.in_ok-row.row.items c.loop-alloc.invariant.rows c.in_ok-row.ensures.grows begins c.in_ok-row.ensures.row);
    }

pub returns-clause-graph : goal.returns-clause-graph
returns-clause-graph g c =
    let go : Tree → Tree = end_of c.args.templates.now.nodes (g.K.Lookup.bindings c.args.form.now) in
    let rows : List (List ℕ) = map (λ v. v.items) c.loop-alloc.rows.items in
    let all : length c.loop-alloc.self.seens ≤ length c.loop-alloc.rows.items = search rules in
    let size : length rows ≡ length c.loop-alloc.rows.items = length-map c.loop-alloc.rows.items (λ v. v.items) in
    rows-all c.args.templates.now go c.loop-alloc.self rows c.loop-alloc.invariant.building c.loop-alloc.invariant.rows (omega (arith, all, size))

pub returns-clause-built : goal.returns-clause-built
returns-clause-built g c =
    let go : Tree → Tree = end_of c.args.templates.now.nodes (g.K.Lookup.bindings c.args.form.now) in
    let rows : List (List ℕ) = map (λ v. v.items) c.loop-alloc.rows.items in
    let all : length c.loop-alloc.self.seens ≤ length c.loop-alloc.rows.items = search rules in
    let size : length rows ≡ length c.loop-alloc.rows.items = length-map c.loop-alloc.rows.items (λ v. v.items) in
    built-along c.args.templates.now go c.loop-alloc.self.seens rows (rows-all c.args.templates.now go c.loop-alloc.self rows c.loop-alloc.invariant.building c.loop-alloc.invariant.rows (omega (arith, all, size)))
