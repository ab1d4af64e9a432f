use Rattle.std.proofs.Common.{◌≡◌, ℕ, ◌<◌, is_ok, length, set, Option, refl, sym, ap, subst, ◌∙◌, Vec, Global, arith}
use Rattle.std.specs.Vec.{with_item}
use Rattle.std.specs.Arc.{arc_value}
use Rattle.std.specs.declared.sync.Arc.{Arc}
use Rattle.name_map.proofs.Lent.{on_ok_map, on_err_map, on_err_any}
use Rattle.frame_map.specs.declared.tree.Tree.{Tree}
use Rattle.frame_map.specs.Contents.{all_contents, FitsIn}
use Rattle.frame_map.proofs.Bounds.{HasChildren}
use Rattle.frame_map.proofs.Changes.{children_owned, slots_owned, on_err}
use Rattle.frame_map.proofs.Parts.{last_below}
use Rattle.frame_map.proofs.Inserts.{leaf_made, leaf_same, leaf_fits, more_has, copied_same, copied_fits, longer_same, longer_fits, child_had, changed_made, changed_same, changed_fits}
use Rattle.frame_map.proofs.Trees.{out_leaf}
use Rattle.frame_map.proofs.tree.Tree.+change.Goals as goal

pub change-requires : goal.change-requires
change-requires g t c κs within =
    let v = c.in_ok-children-in-Inner.children.now in
    let owned : all_contents v.items ≡ all_contents (arc_value c.in-Inner.children).items =
    children_owned _ v c.in_ok-children-in-Inner.ensures.value ∙ ap (λ (a : Arc (Vec (Tree g.row.V.Denot) Global) Global). all_contents (arc_value a).items) c.in-Inner.children-is in
    let more = c.make_children.new.children in
    let has : HasChildren _ c.args.width (all_contents more.items) =
    more_has c.args.self.now c.begin.new.self c.in-Inner.below _ c.in-Inner.children c.in-Inner.is c.in-Inner.below-is c.begin.ensures.same v.items owned more.items c.args.width c.args.number c.first_digit-index.result
    c.begin.ensures.fits c.first_digit-index.ensures c.requires.number (omega (arith, c.make_children.ensures.most, v.ok, more.ok)) (c.make_children.ensures.fit _) in
    let index = c.first_digit-index.result in
    let x = c.index_mut.result.now in
    let there : index < length more.items = omega (arith, c.in_ok-make_children-in-Inner.ensures.there, more.ok) in
    let less = has.less in
    let below = c.in-Inner.below-is in
    let measure = c.decreases in
    let room = c.requires.width in
    let fits : FitsIn _ x = child_had c.args.self.now c.begin.new.self c.in-Inner.below _ c.in-Inner.children c.in-Inner.is c.in-Inner.below-is c.begin.ensures.same v.items owned more.items (c.make_children.ensures.same _) index x x there c.index_mut.ensures.value c.args.width has in (
      subst (λ (n : ℕ). n < t) (sym below) (omega arith),
      (within.0, (within.1, (c.requires.clones, (fits, (last_below c.args.number _ c.last_digits.result c.last_digits.ensures, omega arith))))),
    )

pub returns-in_err-slots-in-Leaf-clause-unchanged : goal.returns-in_err-slots-in-Leaf-clause-unchanged
returns-in_err-slots-in-Leaf-clause-unchanged g t c =
    let b = c.make_mut.follows.lender-at-none in
    let owned : (arc_value b).items ≡ c.in-Leaf.slots.value.items =
    slots_owned g.V.Clone.is_clone _ (λ x y h. h) (λ x h. h) (λ y h. h) c.requires.clones _ (arc_value b) (on_err c.make_mut.result _ c.in_err-slots-in-Leaf.was c.make_mut.follows.holds-at-none)
    ∙ ap (λ (a : Arc (Vec (Option g.row.V.Denot) Global) Global). (arc_value a).items) c.in-Leaf.slots-is in
    rw (c.in-Leaf.is, out_leaf) (on_err_any c.from_residual-in_err-slots-in-Leaf.result (leaf_same c.args.self.now c.begin.new.self c.in-Leaf.slots c.in-Leaf.is c.begin.ensures.same (arc_value b).items owned b (arc_value b).items refl (λ n. refl)))

pub returns-in_err-slots-in-Leaf-clause-fits : goal.returns-in_err-slots-in-Leaf-clause-fits
returns-in_err-slots-in-Leaf-clause-fits g t c =
    let b = c.make_mut.follows.lender-at-none in
    let owned : (arc_value b).items ≡ c.in-Leaf.slots.value.items =
    slots_owned g.V.Clone.is_clone _ (λ x y h. h) (λ x h. h) (λ y h. h) c.requires.clones _ (arc_value b) (on_err c.make_mut.result _ c.in_err-slots-in-Leaf.was c.make_mut.follows.holds-at-none)
    ∙ ap (λ (a : Arc (Vec (Option g.row.V.Denot) Global) Global). (arc_value a).items) c.in-Leaf.slots-is in
    rw (c.in-Leaf.is, out_leaf) (leaf_fits c.args.self.now c.begin.new.self c.in-Leaf.slots c.in-Leaf.is c.begin.ensures.same (arc_value b).items owned b (arc_value b).items refl c.args.width c.args.number c.begin.ensures.fits c.requires.number (omega arith))

pub returns-in_err-children-in-Inner-clause-unchanged : goal.returns-in_err-children-in-Inner-clause-unchanged
returns-in_err-children-in-Inner-clause-unchanged g t c =
    let b = c.make_mut-in-Inner.follows.lender-at-none in
    let owned : all_contents (arc_value b).items ≡ all_contents (arc_value c.in-Inner.children).items =
    children_owned _ (arc_value b) (on_err c.make_mut-in-Inner.result _ c.in_err-children-in-Inner.was c.make_mut-in-Inner.follows.holds-at-none)
    ∙ ap (λ (a : Arc (Vec (Tree g.row.V.Denot) Global) Global). all_contents (arc_value a).items) c.in-Inner.children-is in
    on_err_any c.from_residual-in_err-children-in-Inner.result (copied_same c.args.self.now c.begin.new.self c.in-Inner.below _ c.in-Inner.children c.in-Inner.is c.in-Inner.below-is c.begin.ensures.same (arc_value b).items owned b refl)

pub returns-in_err-children-in-Inner-clause-fits : goal.returns-in_err-children-in-Inner-clause-fits
returns-in_err-children-in-Inner-clause-fits g t c =
    let b = c.make_mut-in-Inner.follows.lender-at-none in
    let owned : all_contents (arc_value b).items ≡ all_contents (arc_value c.in-Inner.children).items =
    children_owned _ (arc_value b) (on_err c.make_mut-in-Inner.result _ c.in_err-children-in-Inner.was c.make_mut-in-Inner.follows.holds-at-none)
    ∙ ap (λ (a : Arc (Vec (Tree g.row.V.Denot) Global) Global). all_contents (arc_value a).items) c.in-Inner.children-is in
    copied_fits c.args.self.now c.begin.new.self c.in-Inner.below _ c.in-Inner.children c.in-Inner.is c.in-Inner.below-is c.begin.ensures.same (arc_value b).items owned b refl c.args.width c.begin.ensures.fits

pub returns-in_err-make_children-in-Inner-clause-unchanged : goal.returns-in_err-make_children-in-Inner-clause-unchanged
returns-in_err-make_children-in-Inner-clause-unchanged g t c =
    let v = c.in_ok-children-in-Inner.children.now in
    let owned : all_contents v.items ≡ all_contents (arc_value c.in-Inner.children).items =
    children_owned _ v c.in_ok-children-in-Inner.ensures.value ∙ ap (λ (a : Arc (Vec (Tree g.row.V.Denot) Global) Global). all_contents (arc_value a).items) c.in-Inner.children-is in
    let b = c.make_mut-in-Inner.follows.lender c.make_children.new.children in
    let holds : (arc_value b).items ≡ c.make_children.new.children.items = ap (λ (u : Vec (Tree g.row.V.Denot) Global). u.items) (c.make_mut-in-Inner.follows.holds c.make_children.new.children (ap is_ok c.in_ok-children-in-Inner.was)) in
    on_err_any c.from_residual-in_err-make_children-in-Inner.result
    (longer_same c.args.self.now c.begin.new.self c.in-Inner.below _ c.in-Inner.children c.in-Inner.is c.in-Inner.below-is c.begin.ensures.same v.items owned c.make_children.new.children.items (c.make_children.ensures.same _) b holds)

pub returns-in_err-make_children-in-Inner-clause-fits : goal.returns-in_err-make_children-in-Inner-clause-fits
returns-in_err-make_children-in-Inner-clause-fits g t c =
    let v = c.in_ok-children-in-Inner.children.now in
    let owned : all_contents v.items ≡ all_contents (arc_value c.in-Inner.children).items =
    children_owned _ v c.in_ok-children-in-Inner.ensures.value ∙ ap (λ (a : Arc (Vec (Tree g.row.V.Denot) Global) Global). all_contents (arc_value a).items) c.in-Inner.children-is in
    let more = c.make_children.new.children in
    let has : HasChildren _ c.args.width (all_contents more.items) =
    more_has c.args.self.now c.begin.new.self c.in-Inner.below _ c.in-Inner.children c.in-Inner.is c.in-Inner.below-is c.begin.ensures.same v.items owned more.items c.args.width c.args.number c.first_digit-index.result
    c.begin.ensures.fits c.first_digit-index.ensures c.requires.number (omega (arith, c.make_children.ensures.most, v.ok, more.ok)) (c.make_children.ensures.fit _) in
    let b = c.make_mut-in-Inner.follows.lender more in
    let holds : (arc_value b).items ≡ more.items = ap (λ (u : Vec (Tree g.row.V.Denot) Global). u.items) (c.make_mut-in-Inner.follows.holds more (ap is_ok c.in_ok-children-in-Inner.was)) in
    longer_fits c.args.self.now c.begin.new.self c.in-Inner.below _ c.in-Inner.children c.in-Inner.is c.in-Inner.below-is c.begin.ensures.same v.items owned more.items (c.make_children.ensures.same _) b holds c.args.width has

pub returns-in_ok-slots-in-Leaf-clause-made : goal.returns-in_ok-slots-in-Leaf-clause-made
returns-in_ok-slots-in-Leaf-clause-made g t c =
    let v = c.in_ok-slots-in-Leaf.slots.now in
    let owned : v.items ≡ c.in-Leaf.slots.value.items =
    slots_owned g.V.Clone.is_clone _ (λ x y h. h) (λ x h. h) (λ y h. h) c.requires.clones _ v c.in_ok-slots-in-Leaf.ensures.value
    ∙ ap (λ (a : Arc (Vec (Option g.row.V.Denot) Global) Global). (arc_value a).items) c.in-Leaf.slots-is in
    let b = c.make_mut.follows.lender c.change_slot.new.slots in
    let holds : (arc_value b).items ≡ c.change_slot.new.slots.items = ap (λ (u : Vec (Option g.row.V.Denot) Global). u.items) (c.make_mut.follows.holds c.change_slot.new.slots (ap is_ok c.in_ok-slots-in-Leaf.was)) in
    rw (c.in-Leaf.is, out_leaf) (on_ok_map c.change_slot.result (leaf_made c.args.self.now c.begin.new.self c.in-Leaf.slots c.in-Leaf.is c.begin.ensures.same v.items owned b c.change_slot.new.slots.items holds c.args.number (g.C.Change.makes c.args.change)) c.change_slot.ensures.made)

pub returns-in_ok-slots-in-Leaf-clause-unchanged : goal.returns-in_ok-slots-in-Leaf-clause-unchanged
returns-in_ok-slots-in-Leaf-clause-unchanged g t c =
    let v = c.in_ok-slots-in-Leaf.slots.now in
    let owned : v.items ≡ c.in-Leaf.slots.value.items =
    slots_owned g.V.Clone.is_clone _ (λ x y h. h) (λ x h. h) (λ y h. h) c.requires.clones _ v c.in_ok-slots-in-Leaf.ensures.value
    ∙ ap (λ (a : Arc (Vec (Option g.row.V.Denot) Global) Global). (arc_value a).items) c.in-Leaf.slots-is in
    let b = c.make_mut.follows.lender c.change_slot.new.slots in
    let holds : (arc_value b).items ≡ c.change_slot.new.slots.items = ap (λ (u : Vec (Option g.row.V.Denot) Global). u.items) (c.make_mut.follows.holds c.change_slot.new.slots (ap is_ok c.in_ok-slots-in-Leaf.was)) in
    rw (c.in-Leaf.is, out_leaf) (on_err_map c.change_slot.result (leaf_same c.args.self.now c.begin.new.self c.in-Leaf.slots c.in-Leaf.is c.begin.ensures.same v.items owned b c.change_slot.new.slots.items holds) c.change_slot.ensures.unchanged)

pub returns-in_ok-slots-in-Leaf-clause-fits : goal.returns-in_ok-slots-in-Leaf-clause-fits
returns-in_ok-slots-in-Leaf-clause-fits g t c =
    let v = c.in_ok-slots-in-Leaf.slots.now in
    let owned : v.items ≡ c.in-Leaf.slots.value.items =
    slots_owned g.V.Clone.is_clone _ (λ x y h. h) (λ x h. h) (λ y h. h) c.requires.clones _ v c.in_ok-slots-in-Leaf.ensures.value
    ∙ ap (λ (a : Arc (Vec (Option g.row.V.Denot) Global) Global). (arc_value a).items) c.in-Leaf.slots-is in
    let b = c.make_mut.follows.lender c.change_slot.new.slots in
    let holds : (arc_value b).items ≡ c.change_slot.new.slots.items = ap (λ (u : Vec (Option g.row.V.Denot) Global). u.items) (c.make_mut.follows.holds c.change_slot.new.slots (ap is_ok c.in_ok-slots-in-Leaf.was)) in
    rw (c.in-Leaf.is, out_leaf) (leaf_fits c.args.self.now c.begin.new.self c.in-Leaf.slots c.in-Leaf.is c.begin.ensures.same v.items owned b c.change_slot.new.slots.items holds c.args.width c.args.number c.begin.ensures.fits c.requires.number (omega (arith, c.change_slot.ensures.most, v.ok, c.change_slot.new.slots.ok)))

pub returns-in_ok-make_children-in-Inner-clause-made : goal.returns-in_ok-make_children-in-Inner-clause-made
returns-in_ok-make_children-in-Inner-clause-made g t c =
    let v = c.in_ok-children-in-Inner.children.now in
    let owned : all_contents v.items ≡ all_contents (arc_value c.in-Inner.children).items =
    children_owned _ v c.in_ok-children-in-Inner.ensures.value ∙ ap (λ (a : Arc (Vec (Tree g.row.V.Denot) Global) Global). all_contents (arc_value a).items) c.in-Inner.children-is in
    let more = c.make_children.new.children in
    let index = c.first_digit-index.result in
    let x = c.index_mut.result.now in
    let there : index < length more.items = omega (arith, c.in_ok-make_children-in-Inner.ensures.there, more.ok) in
    let y = c.change.new.self in
    let b = c.make_mut-in-Inner.follows.lender (with_item more index y) in
    let holds : (arc_value b).items ≡ set more.items index y = ap (λ (u : Vec (Tree g.row.V.Denot) Global). u.items) (c.make_mut-in-Inner.follows.holds (with_item more index y) (ap is_ok c.in_ok-children-in-Inner.was)) in
    on_ok_map c.change.result (changed_made c.args.self.now c.begin.new.self c.in-Inner.below _ c.in-Inner.children c.in-Inner.is c.in-Inner.below-is c.begin.ensures.same v.items owned more.items (c.make_children.ensures.same _) index x y there c.index_mut.ensures.value b holds c.args.number c.last_digits.result (g.C.Change.makes c.args.change) c.first_digit-index.ensures c.last_digits.ensures) c.change.ensures.made

pub returns-in_ok-make_children-in-Inner-clause-unchanged : goal.returns-in_ok-make_children-in-Inner-clause-unchanged
returns-in_ok-make_children-in-Inner-clause-unchanged g t c =
    let v = c.in_ok-children-in-Inner.children.now in
    let owned : all_contents v.items ≡ all_contents (arc_value c.in-Inner.children).items =
    children_owned _ v c.in_ok-children-in-Inner.ensures.value ∙ ap (λ (a : Arc (Vec (Tree g.row.V.Denot) Global) Global). all_contents (arc_value a).items) c.in-Inner.children-is in
    let more = c.make_children.new.children in
    let index = c.first_digit-index.result in
    let x = c.index_mut.result.now in
    let there : index < length more.items = omega (arith, c.in_ok-make_children-in-Inner.ensures.there, more.ok) in
    let y = c.change.new.self in
    let b = c.make_mut-in-Inner.follows.lender (with_item more index y) in
    let holds : (arc_value b).items ≡ set more.items index y = ap (λ (u : Vec (Tree g.row.V.Denot) Global). u.items) (c.make_mut-in-Inner.follows.holds (with_item more index y) (ap is_ok c.in_ok-children-in-Inner.was)) in
    on_err_map c.change.result (changed_same c.args.self.now c.begin.new.self c.in-Inner.below _ c.in-Inner.children c.in-Inner.is c.in-Inner.below-is c.begin.ensures.same v.items owned more.items (c.make_children.ensures.same _) index x y there c.index_mut.ensures.value b holds) c.change.ensures.unchanged

pub returns-in_ok-make_children-in-Inner-clause-fits : goal.returns-in_ok-make_children-in-Inner-clause-fits
returns-in_ok-make_children-in-Inner-clause-fits g t c =
    let v = c.in_ok-children-in-Inner.children.now in
    let owned : all_contents v.items ≡ all_contents (arc_value c.in-Inner.children).items =
    children_owned _ v c.in_ok-children-in-Inner.ensures.value ∙ ap (λ (a : Arc (Vec (Tree g.row.V.Denot) Global) Global). all_contents (arc_value a).items) c.in-Inner.children-is in
    let more = c.make_children.new.children in
    let has : HasChildren _ c.args.width (all_contents more.items) =
    more_has c.args.self.now c.begin.new.self c.in-Inner.below _ c.in-Inner.children c.in-Inner.is c.in-Inner.below-is c.begin.ensures.same v.items owned more.items c.args.width c.args.number c.first_digit-index.result
    c.begin.ensures.fits c.first_digit-index.ensures c.requires.number (omega (arith, c.make_children.ensures.most, v.ok, more.ok)) (c.make_children.ensures.fit _) in
    let index = c.first_digit-index.result in
    let x = c.index_mut.result.now in
    let there : index < length more.items = omega (arith, c.in_ok-make_children-in-Inner.ensures.there, more.ok) in
    let y = c.change.new.self in
    let b = c.make_mut-in-Inner.follows.lender (with_item more index y) in
    let holds : (arc_value b).items ≡ set more.items index y = ap (λ (u : Vec (Tree g.row.V.Denot) Global). u.items) (c.make_mut-in-Inner.follows.holds (with_item more index y) (ap is_ok c.in_ok-children-in-Inner.was)) in
    changed_fits c.args.self.now c.begin.new.self c.in-Inner.below _ c.in-Inner.children c.in-Inner.is c.in-Inner.below-is c.begin.ensures.same v.items owned more.items (c.make_children.ensures.same _) index x y there c.index_mut.ensures.value b holds c.args.width has c.change.ensures.fits
