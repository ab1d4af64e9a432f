use Rattle.std.proofs.Common.{◌≡◌, ℕ, ◌+◌, ◌-◌, ◌*◌, ◌^◌, ◌<◌, List, [], ◌++◌, length, Option, sym, ap, subst, ◌∙◌, append-nil, arith}
use Rattle.std.proofs.lemmas.List.{get_or_read}
use Rattle.akl_terms.specs.declared.name.Name.{Name}
use Rattle.name_map.specs.Pages.{within, in_slot, listed}
use Rattle.name_map.proofs.Lent.{on_ok_map}
use Rattle.frame_map.specs.Contents.{Contents, of_children, contents, all_contents, IsTreeFrom}
use Rattle.frame_map.proofs.Bounds.{inner_contents, has_children, leaf_contents, leaf_most}
use Rattle.frame_map.proofs.Children.{contents_at, children_count, child_fits, child_from, child_width, child_number, child_shift}
use Rattle.frame_map.proofs.Heights.{child_lower}
use Rattle.frame_map.proofs.Leaves.{slots_listed}
use Rattle.frame_map.proofs.Listing.{listed_none, child_listed, children_listed}
use Rattle.frame_map.proofs.Trees.{contents_empty}
use Rattle.frame_map.proofs.tree.Tree.+push_entries.Goals as goal

pub overflow_shl-number : goal.overflow_shl-number
overflow_shl-number g t c =
    let v = c.deref-children.result.now in
    let within : c.loop-index.index < length v.items = omega (arith, c.loop-index-test.true, c.len-index-end.ensures, v.ok) in
    child_width c.args.self.now c.in-Inner.below c.in-Inner.children v c.in-Inner.is c.deref-children.ensures c.args.first c.loop-index.index c.requires.numbers within

pub overflow_add-number : goal.overflow_add-number
overflow_add-number g t c =
    let v = c.deref-children.result.now in
    let within : c.loop-index.index < length v.items = omega (arith, c.loop-index-test.true, c.len-index-end.ensures, v.ok) in
    let shift = child_shift c.args.self.now c.in-Inner.below c.in-Inner.children v c.in-Inner.is c.deref-children.ensures c.args.first c.loop-index.index c.requires.numbers within in
    let number = child_number c.args.self.now c.in-Inner.below c.in-Inner.children v c.in-Inner.is c.deref-children.ensures c.args.first c.loop-index.index c.requires.numbers within in
    omega arith

pub push_entries-requires : goal.push_entries-requires
push_entries-requires g t c κs lives =
    let v = c.deref-children.result.now in
    let within : c.loop-index.index < length v.items = omega (arith, c.loop-index-test.true, c.len-index-end.ensures, v.ok) in
    let shift = child_shift c.args.self.now c.in-Inner.below c.in-Inner.children v c.in-Inner.is c.deref-children.ensures c.args.first c.loop-index.index c.requires.numbers within in
    let child = get_or_read v.items c.loop-index.index c.index.result.now within c.index.ensures in
    let lower = child_lower c.args.self.now c.in-Inner.below c.in-Inner.children v c.in-Inner.is c.deref-children.ensures c.loop-index.index c.index.result.now within child in
    let measure = c.decreases in (
      omega arith,
      (
        lives,
        (
          c.requires.clones,
          subst (λ (n : ℕ). IsTreeFrom (c.args.first + n) c.index.result.now) (sym shift)
              (child_from c.args.self.now c.in-Inner.below c.in-Inner.children v c.in-Inner.is c.deref-children.ensures c.args.first c.loop-index.index c.requires.numbers within c.index.result.now child),
        ),
      ),
    )

pub loop-index-preserved : goal.loop-index-preserved
loop-index-preserved g t c =
    let v = c.deref-children.result.now in
    let i = c.loop-index.index in
    let below = c.in-Inner.below in
    let x = c.index.result.now in
    let within : i < length v.items = omega (arith, c.loop-index-test.true, c.len-index-end.ensures, v.ok) in
    let count = children_count v.items in
    let child = get_or_read v.items i x within c.index.ensures in
    let shift = child_shift c.args.self.now below c.in-Inner.children v c.in-Inner.is c.deref-children.ensures c.args.first i c.requires.numbers within in
    child_listed c.args.worker c.args.first below (all_contents v.items) i (contents x) c.loop-index.list.items c.push_entries.new.list.items (omega arith) (contents_at v.items i x within child)
    (c.in_ok-push_entries-in-Inner.ensures below (child_fits c.args.self.now below c.in-Inner.children v c.in-Inner.is c.deref-children.ensures c.requires.numbers.width i x c.requires.numbers.fits within child)
    ∙ ap (λ (n : ℕ). c.loop-index.list.items ++ listed c.args.worker (c.args.first + n) (2 ^ below) (λ m. (contents x).value (m - (c.args.first + n))) []) shift)
    c.args.list.now.items c.loop-index.invariant

pub returns-in-Empty : goal.returns-in-Empty
returns-in-Empty g t c = λ w fits.
    let none : contents c.args.self.now ≡ _ = ap contents c.in-Empty.is ∙ contents_empty in
    sym (ap (λ (l : List (Name × g.row.V.Denot)). c.args.list.now.items ++ l) (listed_none c.args.worker c.args.first (2 ^ w) (λ n. (contents c.args.self.now).value (n - c.args.first)) [] (λ i h. ap (λ (x : Contents g.row.V.Denot). x.value (i - c.args.first)) none))
    ∙ append-nil c.args.list.now.items)

pub returns-in-Leaf : goal.returns-in-Leaf
returns-in-Leaf g t c =
    let v = c.deref-slots.result.now in
    on_ok_map c.push_slots.result (λ done w fits.
    let items = c.deref.ensures.value in
    slots_listed c.args.worker c.args.first v.items c.args.list.now.items (2 ^ w) c.push_slots.new.list.items (leaf_most c.args.self.now c.in-Leaf.slots v c.in-Leaf.is c.deref-slots.ensures w fits)
    (done ∙ ap (λ (xs : List (Option g.row.V.Denot)). c.args.list.now.items ++ listed c.args.worker c.args.first (length xs) (λ n. within in_slot xs (n - c.args.first)) []) items)
    ∙ ap (λ (x : Contents g.row.V.Denot). c.args.list.now.items ++ listed c.args.worker c.args.first (2 ^ w) (λ n. x.value (n - c.args.first)) []) (sym (leaf_contents c.args.self.now c.in-Leaf.slots v c.in-Leaf.is c.deref-slots.ensures))) c.push_slots.ensures

pub returns-after-loop-index : goal.returns-after-loop-index
returns-after-loop-index g t c = λ w fits.
    let v = c.deref-children.result.now in
    let below = c.in-Inner.below in
    let count = children_count v.items in
    let all : c.loop-index.index ≡ length (all_contents v.items) = omega (arith, c.loop-index-test.false, c.loop-index.auto.index-end, c.len-index-end.ensures, v.ok) in
    children_listed c.args.worker c.args.first below (all_contents v.items) w c.args.list.now.items c.loop-index.list.items (has_children c.args.self.now below c.in-Inner.children v c.in-Inner.is c.deref-children.ensures w fits)
    (c.loop-index.invariant ∙ ap (λ (n : ℕ). c.args.list.now.items ++ listed c.args.worker c.args.first (n * 2 ^ below) (λ m. (of_children below (all_contents v.items)).value (m - c.args.first)) []) all)
    ∙ ap (λ (x : Contents g.row.V.Denot). c.args.list.now.items ++ listed c.args.worker c.args.first (2 ^ w) (λ m. x.value (m - c.args.first)) []) (sym (inner_contents c.args.self.now below c.in-Inner.children v c.in-Inner.is c.deref-children.ensures))
