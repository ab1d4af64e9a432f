use Rattle.std.proofs.Common.{List, length, get_or, set, refl, ap, subst, ◌∙◌, arith}
use Rattle.std.specs.List.{refill}
use Rattle.akl_terms.specs.declared.name.Name.{Name}
use Rattle.name_map.proofs.Lent.{on_ok_map, on_err_map, on_err_any}
use Rattle.frame_map.specs.Contents.{IsChanged}
use Rattle.frame_map.specs.Roots.{all_roots, entries}
use Rattle.frame_map.proofs.Found.{entries_same}
use Rattle.frame_map.proofs.Whole.{refilled, read_there, has_place, is_root_there, new_are, new_changed, new_same}
use Rattle.frame_map.proofs.map.FrameMap.change.Goals as goal

pub returns-in_err-place-clause-unchanged : goal.returns-in_err-place-clause-unchanged
returns-in_err-place-clause-unchanged g c = on_err_any c.from_residual.result (entries_same c.self.inside.roots.items c.root_for.new.roots.items c.self.invariant c.root_for.ensures.roots c.root_for.ensures.same ∙ c.self.view_is)

pub offset_bounds-as_mut_slice-place : goal.offset_bounds-as_mut_slice-place
offset_bounds-as_mut_slice-place g c =
    let h = has_place c.root_for.new.roots.items c.in_ok-place.place c.args.name.worker c.in_ok-place.ensures.there in
    let count = ap length c.as_mut_slice.ensures.value in
    let room = c.as_mut_slice.type_inv in
    omega arith

pub bounds-as_mut_slice-place : goal.bounds-as_mut_slice-place
bounds-as_mut_slice-place g c =
    let h = has_place c.root_for.new.roots.items c.in_ok-place.place c.args.name.worker c.in_ok-place.ensures.there in
    let count = ap length c.as_mut_slice.ensures.value in
    omega arith

pub change-requires-clause-root : goal.change-requires-clause-root
change-requires-clause-root g c =
    let rs = c.root_for.new.roots.items in
    let slice = c.as_mut_slice.result.now in
    let h = has_place rs c.in_ok-place.place c.args.name.worker c.in_ok-place.ensures.there in
    is_root_there rs c.in_ok-place.place (get_or slice c.in_ok-place.place c.index-as_mut_slice-place.result) c.root_for.ensures.roots h (read_there slice rs c.in_ok-place.place c.index-as_mut_slice-place.result c.as_mut_slice.ensures.value h)

pub invariant_of-self-2 : goal.invariant_of-self-2
invariant_of-self-2 g c =
    let rs = c.root_for.new.roots.items in
    let slice = c.as_mut_slice.result.now in
    let i = c.in_ok-place.place in
    let h = has_place rs i c.args.name.worker c.in_ok-place.ensures.there in
    new_are c.self.inside.roots.items rs _ c.self.invariant c.root_for.ensures.roots c.root_for.ensures.same i c.args.name.worker c.in_ok-place.ensures.there (get_or slice i c.index-as_mut_slice-place.result) c.change.new.self
    (read_there slice rs i c.index-as_mut_slice-place.result c.as_mut_slice.ensures.value h) c.change.ensures.worker c.change.ensures.root (refilled slice rs i c.change.new.self c.as_mut_slice.ensures.value)

pub returns-clause-changed : goal.returns-clause-changed
returns-clause-changed g c =
    let rs = c.root_for.new.roots.items in
    let slice = c.as_mut_slice.result.now in
    let i = c.in_ok-place.place in
    let h = has_place rs i c.args.name.worker c.in_ok-place.ensures.there in
    on_ok_map c.change.result (λ made. subst (λ (es : List (Name × g.row.V.Denot)). IsChanged (g.C.Change.makes c.args.change) es (entries (all_roots (refill (length rs) rs (set slice i c.change.new.self)))) c.args.name) c.self.view_is
    (new_changed c.self.inside.roots.items rs _ c.self.invariant c.root_for.ensures.roots c.root_for.ensures.same i c.args.name.worker c.in_ok-place.ensures.there (get_or slice i c.index-as_mut_slice-place.result) c.change.new.self
    (read_there slice rs i c.index-as_mut_slice-place.result c.as_mut_slice.ensures.value h) c.change.ensures.worker c.change.ensures.root (refilled slice rs i c.change.new.self c.as_mut_slice.ensures.value) c.args.name (g.C.Change.makes c.args.change) refl made)) c.change.ensures.made

pub returns-clause-unchanged : goal.returns-clause-unchanged
returns-clause-unchanged g c =
    let rs = c.root_for.new.roots.items in
    let slice = c.as_mut_slice.result.now in
    let i = c.in_ok-place.place in
    let h = has_place rs i c.args.name.worker c.in_ok-place.ensures.there in
    on_err_map c.change.result (λ kept.
    new_same c.self.inside.roots.items rs _ c.self.invariant c.root_for.ensures.roots c.root_for.ensures.same i c.args.name.worker c.in_ok-place.ensures.there (get_or slice i c.index-as_mut_slice-place.result) c.change.new.self
    (read_there slice rs i c.index-as_mut_slice-place.result c.as_mut_slice.ensures.value h) c.change.ensures.worker c.change.ensures.root (refilled slice rs i c.change.new.self c.as_mut_slice.ensures.value) kept ∙ c.self.view_is) c.change.ensures.unchanged
