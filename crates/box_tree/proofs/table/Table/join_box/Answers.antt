use Rattle.std.proofs.Common.{◌≡◌, List, Option, Some, sym, ap, ◌∙◌, subst}
use Rattle.std.specs.Prelude.{option_map}
use Rattle.std.specs.Option.{option_copied_mut}
use Rattle.std.specs.Map.{lookup}
use Rattle.akl_terms.specs.declared.name.Name.{Name}
use Rattle.akl_terms.specs.Names.{same_name}
use Rattle.name_map.specs.Entries.{IsPut}
use Rattle.table_laws.specs.Writes.{changed_box}
use Rattle.box_tree.specs.declared.entries.BoxEntry.{BoxEntry}
use Rattle.box_tree.specs.Tables.{TableValue, table_of, box_row, goals_in}
use Rattle.box_tree.specs.Edits.{SetsBoxes, AreNew, joins_row}
use Rattle.name_map.proofs.Lent.{on_some}
use Rattle.box_tree.proofs.Maps.{found_at, put_same}
use Rattle.box_tree.proofs.Written.{writes_box, joined_entry}
use Rattle.box_tree.proofs.table.Table.join_box.Goals as goal

pub join-requires : goal.join-requires
join-requires c =
    let is : lookup (same_name c.args.home) c.self.inside.boxes ≡ Some c.in-Some.entry.now = sym c.get_mut.ensures.value ∙ ap option_copied_mut c.in-Some.is in
    let here = found_at c.args.home c.self.inside.boxes c.args.self.now.boxes c.in-Some.entry.now (ap (λ (v : TableValue). v.boxes) c.self.view_is) (sym is) in
    subst (AreNew c.args.names.now) (ap (λ (o : Option BoxEntry). goals_in (option_map (box_row c.args.self.now.program.templates.nodes) o)) here) c.requires

pub returns-in_default-join-clause-unchanged : goal.returns-in_default-join-clause-unchanged
returns-in_default-join-clause-unchanged c =
    let t : TableValue = record { program = c.self.inside.program.value; query = c.self.inside.query.value; boxes = c.self.inside.boxes; goals = c.self.inside.goals; roots = c.self.inside.roots.items; roots_changed = c.self.inside.roots_changed; marks = c.self.inside.marks; next = c.self.inside.next.items; steps = c.self.inside.steps } in
    let old : BoxEntry = c.in-Some.entry.now in
    let is : lookup (same_name c.args.home) c.self.inside.boxes ≡ Some old = sym c.get_mut.ensures.value ∙ ap option_copied_mut c.in-Some.is in
    let puts : IsPut c.self.inside.boxes (c.get_mut.follows.lender c.join.new.self) c.args.home old =
    subst (IsPut c.self.inside.boxes (c.get_mut.follows.lender c.join.new.self) c.args.home) c.in_default-join.ensures.unchanged
    (on_some c.get_mut.result _ c.in-Some.is (c.get_mut.follows.holds c.join.new.self)) in
    ap (λ (es : List (Name × BoxEntry)). record t { boxes = es }) (put_same c.args.home c.self.inside.boxes (c.get_mut.follows.lender c.join.new.self) old is puts) ∙ c.self.view_is

pub returns-clause-joined : goal.returns-clause-joined
returns-clause-joined c =
    let t : TableValue = record { program = c.self.inside.program.value; query = c.self.inside.query.value; boxes = c.self.inside.boxes; goals = c.self.inside.goals; roots = c.self.inside.roots.items; roots_changed = c.self.inside.roots_changed; marks = c.self.inside.marks; next = c.self.inside.next.items; steps = c.self.inside.steps } in
    let old : BoxEntry = c.in-Some.entry.now in
    let is : lookup (same_name c.args.home) c.self.inside.boxes ≡ Some old = sym c.get_mut.ensures.value ∙ ap option_copied_mut c.in-Some.is in
    let new : BoxEntry = record c.join.new.self { goals = c.remove.new.self; goals_changed = c.args.number } in
    let change = joins_row c.args.goal c.args.names.now c.args.failing c.args.told c.args.number in
    subst (λ (v : TableValue). SetsBoxes v (record t { boxes = c.get_mut.follows.lender new }) (changed_box (Some c.args.home) change (table_of v).box_of)) c.self.view_is
    (writes_box t c.args.home (c.get_mut.follows.lender new) change old new is (on_some c.get_mut.result _ c.in-Some.is (c.get_mut.follows.holds new)).finds
    (joined_entry t.program.templates.nodes c.args.goal c.args.told c.args.number old c.join.new.self c.remove.new.self c.remove.ensures.keys c.args.names.now c.args.failing c.in-Ok.ensures.joined c.in-Ok.ensures.named))
