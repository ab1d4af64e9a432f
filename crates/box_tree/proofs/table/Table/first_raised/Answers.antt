use Rattle.std.proofs.Common.{◌≡◌, ◌+◌, ℕ, List, slice_index, ap, ◌∙◌}
use Rattle.std.proofs.lemmas.List.{get_or_read}
use Rattle.box_tree.specs.Tables.{TableValue}
use Rattle.box_tree.proofs.Numbers.{raised_by}
use Rattle.box_tree.proofs.table.Table.first_raised.Goals as goal

pub returns : goal.returns
returns c = λ w.
    let x : c.in-Some.number ≡ slice_index c.pad.new.next.items c.args.worker + c.args.drawn = c.in-Some.ensures.1 ∙ ap (λ (k : ℕ). k + c.args.drawn) (get_or_read c.pad.new.next.items _ _ c.in_ok-pad.ensures.room c.index.ensures 0) in
    raised_by w c.args.worker c.args.drawn c.in-Some.number c.args.self.now.next c.pad.new.next.items
    (λ v. c.in_ok-pad.ensures.same v ∙ ap (λ (xs : List ℕ). slice_index xs v) (c.in_ok-next.ensures.items ∙ c.as_slice.ensures.value ∙ ap (λ (t : TableValue). t.next) c.self.view_is))
    c.in_ok-pad.ensures.room x
