use Rattle.std.proofs.Common.{rules, ◌≡◌, ◌<◌, ◌≤◌, ◌+◌, ℕ, List, length, map, slice_get, get_or, Some, true, false, Bool, subst, sym, ◌∙◌, ap, refl, arith, nat_lt}
use Rattle.std.proofs.lemmas.Bool.Decides.{nat_tests}
use Rattle.std.proofs.lemmas.Option.{slice_get_read, slice_get-map}
use Rattle.std.specs.Prelude.{option_map}
use Rattle.cycle_marks.specs.Searching.{State, At, ComesBack, several, by_itself, alone}
use Rattle.cycle_marks.proofs.search.Search.comes_back.Goals as goal

pub returns-then-len-base : goal.returns-then-len-base
returns-then-len-base c =
    let l : c.args.base.node + 1 < length c.args.self.now.nodes = search rules in
    let b : nat_lt (c.args.base.node + 1) c.len.result ≡ true = grind (arith, nat_tests) in
    subst (λ (b : Bool). ComesBack (map (λ v. v.items) c.args.rows.now) c.args.self.now.nodes c.args.base.node b) (sym b) (several l)

-- what a test of a row says of the last component
came-back : (rows : List (List ℕ)) (nodes row other : List ℕ) (place node : ℕ) (b : Bool) → (b ≡ true → (k : ℕ) × (slice_get other k ≡ Some node)) → (b ≡ false → (k : ℕ) → slice_get other k ≡ Some node → ⊥)
    → slice_get nodes place ≡ Some node → length nodes ≤ place + 1 → slice_get rows node ≡ Some row → other ≡ row → ComesBack rows nodes place b
came-back rows nodes row other place node true y n a l r e = let z : (k : ℕ) × (slice_get other k ≡ Some node) = y refl in by_itself a (record { row = row; place = z.0; of = r; to = ap (λ (xs : List ℕ). slice_get xs z.0) (sym e) ∙ z.1 })
came-back rows nodes row other place node false y n a l r e = alone a l (λ g. let same : row ≡ g.row = (let o : Some row ≡ Some g.row = sym r ∙ g.of in cc) in n refl g.place (ap (λ (xs : List ℕ). slice_get xs g.place) (e ∙ same) ∙ g.to))

pub returns-else-len-base : goal.returns-else-len-base
returns-else-len-base c =
    let is : c.self.inside.nodes.items ≡ c.args.self.now.nodes = ap (λ (z : State). z.nodes) c.self.view_is in
    let value : c.index-node.result.now ≡ get_or c.args.self.now.nodes c.args.base.node c.index-node.result.now = c.index-node.ensures ∙ ap (λ (xs : List ℕ). get_or xs c.args.base.node c.index-node.result.now) is in
    let at : At c.args.self.now.nodes c.args.base.node c.index-node.result.now = slice_get_read c.args.self.now.nodes (length c.args.self.now.nodes) c.args.base.node c.index-node.result.now refl c.requires.place value in
    let l : length c.args.self.now.nodes ≤ c.args.base.node + 1 = search rules in
    let within : c.index-node.result.now < length c.args.rows.now = rw value (c.requires.rows c.args.base.node c.index-node.result.now c.requires.place) in
    let row : slice_get (map (λ v. v.items) c.args.rows.now) c.index-node.result.now ≡ Some c.index-rows-node.result.items =
    slice_get-map (λ v. v.items) c.args.rows.now c.index-node.result.now ∙ ap (option_map (λ v. v.items)) (slice_get_read c.args.rows.now (length c.args.rows.now) c.index-node.result.now c.index-rows-node.result refl within c.index-rows-node.is) in
    let same : c.deref.result.now ≡ c.index-rows-node.result.items = search rules in
    came-back (map (λ v. v.items) c.args.rows.now) c.args.self.now.nodes c.index-rows-node.result.items c.deref.result.now c.args.base.node c.index-node.result.now c.leads_to.result (λ e. c.leads_to.ensures.yes e) (λ e. c.leads_to.ensures.no e) at l row same
