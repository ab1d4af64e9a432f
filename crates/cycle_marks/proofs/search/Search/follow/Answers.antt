use Rattle.std.proofs.Common.{◌≡◌, ◌<◌, ℕ, List, [], length, map, get_or, Some, refl, ap, ◌∙◌, arith}
use Rattle.std.proofs.lemmas.List.{length-map}
use Rattle.std.proofs.lemmas.Option.{slice_get-get_or, slice_get_read}
use Rattle.cycle_marks.specs.declared.search.Mark.TheVariants.{New, Done}
use Rattle.cycle_marks.specs.Searching.{State, At}
use Rattle.cycle_marks.proofs.Joining.{search-done}
use Rattle.cycle_marks.proofs.Steps.{opened-goes}
use Rattle.cycle_marks.proofs.search.Search.follow.Goals as goal

pub returns-in_ok-open_node-in-New : goal.returns-in_ok-open_node-in-New
returns-in_ok-open_node-in-New c =
    let rows : List (List ℕ) = map (λ v. v.items) c.args.rows.now in
    let within : c.args.target < length rows = simp length-map (c.requires.row) in
    let sizes : length c.args.self.now.marks ≡ length rows = c.requires.search.sizes in
    let value : c.index.result.now ≡ get_or c.args.self.now.marks c.args.target c.index.result.now = c.index.ensures ∙ ap (λ (z : State). get_or z.marks c.args.target c.index.result.now) c.self.view_is in
    let mark : At c.args.self.now.marks c.args.target New = slice_get_read c.args.self.now.marks (length c.args.self.now.marks) c.args.target c.index.result.now refl (omega (arith, within, sizes)) value ∙ ap Some c.in-New.is in
    opened-goes rows (get_or rows c.args.target []) c.args.target c.args.self.now c.open_node.new.self
    (slice_get-get_or rows c.args.target [] within) c.requires.search c.requires.reached mark c.in_ok-open_node-in-New.ensures.opened c.in_ok-open_node-in-New.ensures.fits

pub returns-in-Done : goal.returns-in-Done
returns-in-Done c =
    let rows : List (List ℕ) = map (λ v. v.items) c.args.rows.now in
    let within : c.args.target < length rows = simp length-map (c.requires.row) in
    let sizes : length c.args.self.now.marks ≡ length rows = c.requires.search.sizes in
    let value : c.index.result.now ≡ get_or c.args.self.now.marks c.args.target c.index.result.now = c.index.ensures ∙ ap (λ (z : State). get_or z.marks c.args.target c.index.result.now) c.self.view_is in
    let mark : At c.args.self.now.marks c.args.target (Done c.in-Done.field-0) = slice_get_read c.args.self.now.marks (length c.args.self.now.marks) c.args.target c.index.result.now refl (omega (arith, within, sizes)) value ∙ ap Some c.in-Done.is in
    record { search = search-done rows c.args.self.now c.args.target c.requires.search c.in-Done.field-0 mark; older = λ x a. a; left = omega arith }
