use Rattle.std.proofs.Common.{◌≡◌, List, Option, Some, sym, ap, ◌∙◌, subst}
use Rattle.std.specs.Option.{option_copied_mut}
use Rattle.std.specs.Map.{lookup}
use Rattle.akl_terms.specs.declared.name.Name.{Name}
use Rattle.akl_terms.specs.Names.{same_name}
use Rattle.name_map.specs.Entries.{IsPut}
use Rattle.table_laws.specs.Writes.{changed_box}
use Rattle.box_tree.specs.declared.entries.BoxEntry.{BoxEntry}
use Rattle.box_tree.specs.Tables.{TableValue, table_of}
use Rattle.box_tree.specs.Edits.{SetsBoxes, part_row}
use Rattle.name_map.proofs.Lent.{on_some}
use Rattle.box_tree.proofs.Maps.{put_same}
use Rattle.box_tree.proofs.Written.{writes_box, told_entry}
use Rattle.box_tree.proofs.table.Table.tell_box.Goals as goal

pub returns-in_default-tell-clause-unchanged : goal.returns-in_default-tell-clause-unchanged
returns-in_default-tell-clause-unchanged c =
    let t : TableValue = record { program = c.self.inside.program.value; query = c.self.inside.query.value; boxes = c.self.inside.boxes; goals = c.self.inside.goals; roots = c.self.inside.roots.items; roots_changed = c.self.inside.roots_changed; marks = c.self.inside.marks; next = c.self.inside.next.items; steps = c.self.inside.steps } in
    let old : BoxEntry = c.in-Some-get_mut.entry.now in
    let is : lookup (same_name c.in-Some.name) c.self.inside.boxes ≡ Some old = sym c.get_mut.ensures.value ∙ ap option_copied_mut c.in-Some-get_mut.is in
    let puts : IsPut c.self.inside.boxes (c.get_mut.follows.lender c.tell.new.self) c.in-Some.name old =
    subst (IsPut c.self.inside.boxes (c.get_mut.follows.lender c.tell.new.self) c.in-Some.name) c.in_default-tell.ensures.unchanged
    (on_some c.get_mut.result _ c.in-Some-get_mut.is (c.get_mut.follows.holds c.tell.new.self)) in
    ap (λ (es : List (Name × BoxEntry)). record t { boxes = es }) (put_same c.in-Some.name c.self.inside.boxes (c.get_mut.follows.lender c.tell.new.self) old is puts) ∙ c.self.view_is

pub returns-clause-told : goal.returns-clause-told
returns-clause-told c =
    let t : TableValue = record { program = c.self.inside.program.value; query = c.self.inside.query.value; boxes = c.self.inside.boxes; goals = c.self.inside.goals; roots = c.self.inside.roots.items; roots_changed = c.self.inside.roots_changed; marks = c.self.inside.marks; next = c.self.inside.next.items; steps = c.self.inside.steps } in
    let old : BoxEntry = c.in-Some-get_mut.entry.now in
    let is : lookup (same_name c.in-Some.name) c.self.inside.boxes ≡ Some old = sym c.get_mut.ensures.value ∙ ap option_copied_mut c.in-Some-get_mut.is in
    let new : BoxEntry = record c.tell.new.self { goals = c.remove.new.self; goals_changed = c.args.told.number } in
    let sets : SetsBoxes c.args.self.now (record t { boxes = c.get_mut.follows.lender new }) (changed_box (Some c.in-Some.name) (part_row c.args.goal c.args.told c.args.told.number) (table_of c.args.self.now).box_of) =
    subst (λ (v : TableValue). SetsBoxes v (record t { boxes = c.get_mut.follows.lender new }) (changed_box (Some c.in-Some.name) (part_row c.args.goal c.args.told c.args.told.number) (table_of v).box_of)) c.self.view_is
    (writes_box t c.in-Some.name (c.get_mut.follows.lender new) (part_row c.args.goal c.args.told c.args.told.number) old new is (on_some c.get_mut.result _ c.in-Some-get_mut.is (c.get_mut.follows.holds new)).finds
    (told_entry t.program.templates.nodes c.args.goal c.args.told c.args.told.number old c.tell.new.self c.remove.new.self c.remove.ensures.keys c.in-Ok.ensures.told)) in
    subst (λ (home : Option Name). SetsBoxes c.args.self.now (record t { boxes = c.get_mut.follows.lender new }) (changed_box home (part_row c.args.goal c.args.told c.args.told.number) (table_of c.args.self.now).box_of)) (sym c.in-Some.is) sets
