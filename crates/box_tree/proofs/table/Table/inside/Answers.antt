use Rattle.std.proofs.Common.{◌≡◌, ℕ, zero, suc, ◌+◌, ◌<◌, List, [], ◌∷◌, length, get_or, Some, refl, sym, ap, subst, ◌∙◌, arith}
use Rattle.std.specs.Prelude.{IsSome}
use Rattle.std.specs.Map.{lookup}
use Rattle.akl_terms.specs.declared.name.Name.{Name}
use Rattle.akl_terms.specs.Names.{same_name}
use Rattle.akl_model.proofs.Options.{map_some}
use Rattle.table_laws.specs.Rows.{BoxRow}
use Rattle.table_laws.proofs.Walks.{Walk, first_walk, next_walk, last_walk, few_gathered, nested}
use Rattle.box_tree.specs.declared.entries.BoxEntry.{BoxEntry}
use Rattle.box_tree.specs.Tables.{TableValue, table_of, box_row, all_rules}
use Rattle.box_tree.proofs.Maps.{is_some_if}
use Rattle.box_tree.proofs.table.Table.inside.Goals as goal

keyed : (t : TableValue) (m : Name) (r : BoxRow) → (table_of t).box_of m ≡ Some r → IsSome (lookup (same_name m) t.boxes)
keyed t m r e =
    let w : (b : BoxEntry) × (lookup (same_name m) t.boxes ≡ Some b) × (box_row t.program.templates.nodes b ≡ r) = map_some (box_row t.program.templates.nodes) (lookup (same_name m) t.boxes) r e in
    is_some_if (lookup (same_name m) t.boxes) w.0 w.1

pub loop-at-init : goal.loop-at-init
loop-at-init c = subst (λ (ns : List Name). Walk (table_of c.args.self.now) c.args.name ns 0) (sym c.of-names.ensures) (first_walk (table_of c.args.self.now) c.args.name)

pub loop-at-smaller : goal.loop-at-smaller
loop-at-smaller c =
    let few = few_gathered (table_of c.args.self.now) c.args.name c.args.self.now.boxes c.loop-at.names.items c.loop-at.at (nested all_rules c.requires.0 (table_of c.args.self.now) c.requires.1 c.args.name) (keyed c.args.self.now) c.loop-at.invariant in
    let t = c.loop-at-test.true in let same = ap length c.as_slice.ensures.value in
    omega (arith, few, t, same)

-- an element that is there is the same by any default
same_default : (ns : List Name) (i : ℕ) (d : Name) → i < length ns → get_or ns i d ≡ get_or ns i (get_or ns i d)
same_default [] i d l = absurd (omega arith)
same_default (n ∷ ns) zero d l = refl
same_default (n ∷ ns) (suc i) d l = same_default ns i d (omega arith)

pub loop-at-preserved : goal.loop-at-preserved
loop-at-preserved c =
    let t = c.loop-at-test.true in let same = ap length c.as_slice.ensures.value in
    let read : c.as_slice-in-loop-at.result.now ≡ c.loop-at.names.items = c.as_slice-in-loop-at.ensures.value in
    let long = ap length read in
    let there : c.loop-at.at < length c.as_slice-in-loop-at.result.now = omega (arith, t, same, long) in
    let here : Name = get_or c.as_slice-in-loop-at.result.now c.loop-at.at (record { worker = 0; number = 0 }) in
    subst (λ (ns : List Name). Walk (table_of c.args.self.now) c.args.name ns (c.loop-at.at + 1)) (sym c.in_ok-push_inside.ensures)
    (next_walk (table_of c.args.self.now) c.args.name (nested all_rules c.requires.0 (table_of c.args.self.now) c.requires.1 c.args.name) c.loop-at.names.items c.loop-at.at here
    (same_default c.as_slice-in-loop-at.result.now c.loop-at.at (record { worker = 0; number = 0 }) there ∙ ap (λ (ns : List Name). get_or ns c.loop-at.at here) read) (omega (arith, t, same)) c.loop-at.invariant)

pub returns : goal.returns
returns c = let t = c.loop-at-test.false in let same = ap length c.as_slice.ensures.value in last_walk (table_of c.args.self.now) c.args.name c.loop-at.names.items c.loop-at.at (omega (arith, t, same)) c.loop-at.invariant
