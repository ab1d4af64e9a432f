use Rattle.std.proofs.Common.{◌≡◌, ◌<◌, ℕ, Bool, true, false, List, Option, Some, None, sym, ap, ◌∙◌, arith}
use Rattle.std.specs.Prelude.{if◌then◌else◌, nat_le, option_map, option_and_then}
use Rattle.std.specs.Map.{lookup}
use Rattle.std.proofs.lemmas.Bool.Decides.{nat_tests}
use Rattle.akl_terms.specs.declared.name.Name.{Name}
use Rattle.akl_terms.specs.declared.name.Var.{Var}
use Rattle.akl_terms.specs.declared.term.Term.{Term}
use Rattle.akl_terms.specs.Names.{same_name}
use Rattle.table_laws.specs.Writes.{home_in}
use Rattle.box_tree.specs.declared.entries.BoxEntry.{BoxEntry}
use Rattle.box_tree.specs.Solved.{takes_new, solved_row, solved_with}
use Rattle.box_tree.specs.Tables.{TableValue, table_of, box_row}
use Rattle.box_tree.proofs.Maps.{found_at}
use Rattle.box_tree.proofs.table.Table.solved_with.Goals as goal

-- where a label changed the store since
changed_since : (t : TableValue) (g home : Name) (e : BoxEntry) (bindings : List (Var × Term)) (seen : ℕ) (b : Bool) → home_in ((table_of t).goal_of g) ≡ Some home → lookup (same_name home) t.boxes ≡ Some e → nat_le e.changed seen ≡ false
    → takes_new (box_row t.program.templates.nodes e) bindings ≡ b → (if b then Some t.steps else None) ≡ solved_with (table_of t) g bindings seen
changed_since t g home e bindings seen b i j k l = sym (
    ap (λ (h : Option Name). solved_row (option_and_then (table_of t).box_of h) bindings seen t.steps) i ∙ ap (λ (o : Option BoxEntry). solved_row (option_map (box_row t.program.templates.nodes) o) bindings seen t.steps) j
    ∙ ap (λ (x : Bool). if x then Some seen else (if takes_new (box_row t.program.templates.nodes e) bindings then Some t.steps else None)) k ∙ ap (λ (x : Bool). if x then Some t.steps else None) l
    )

later : (k n : ℕ) → n < k → nat_le k n ≡ false
later k n h = grind (arith, nat_tests)

pub returns-then-takes_new : goal.returns-then-takes_new
returns-then-takes_new c = ap (λ (v : TableValue). Some v.steps) c.self.view_is
    ∙ changed_since c.args.self.now c.args.goal c.in_ok-home.home c.in_ok-entry.entry.now c.args.part.now.bindings.items c.args.seen true (sym c.home_of.ensures ∙ c.in_ok-home.was)
    (found_at c.in_ok-home.home c.self.inside.boxes c.args.self.now.boxes c.in_ok-entry.entry.now (ap (λ (v : TableValue). v.boxes) c.self.view_is) c.in_ok-entry.ensures)
    (later c.in_ok-entry.entry.now.changed c.args.seen c.if-entry-seen.false)
    (ap (takes_new (box_row c.args.self.now.program.templates.nodes c.in_ok-entry.entry.now)) (sym c.as_slice.ensures.value) ∙ sym (c.takes_new.ensures c.args.self.now.program.templates.nodes) ∙ c.if-takes_new.true)

pub returns-else-takes_new : goal.returns-else-takes_new
returns-else-takes_new c = changed_since c.args.self.now c.args.goal c.in_ok-home.home c.in_ok-entry.entry.now c.args.part.now.bindings.items c.args.seen false (sym c.home_of.ensures ∙ c.in_ok-home.was)
    (found_at c.in_ok-home.home c.self.inside.boxes c.args.self.now.boxes c.in_ok-entry.entry.now (ap (λ (v : TableValue). v.boxes) c.self.view_is) c.in_ok-entry.ensures)
    (later c.in_ok-entry.entry.now.changed c.args.seen c.if-entry-seen.false)
    (ap (takes_new (box_row c.args.self.now.program.templates.nodes c.in_ok-entry.entry.now)) (sym c.as_slice.ensures.value) ∙ sym (c.takes_new.ensures c.args.self.now.program.templates.nodes) ∙ c.if-takes_new.false)
