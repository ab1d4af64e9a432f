use Rattle.std.proofs.Common.{ℕ, List, length, map, subst, sym}
use Rattle.std.specs.Global.{Vec}
use Rattle.std.proofs.lemmas.List.{length-map}
use Rattle.cycle_marks.specs.Rows.{AreWithin, AreRanked}
use Rattle.cycle_marks.specs.Components.{rank_of, is_cyclic}
use Rattle.tree_classes.specs.Classes.{AreBlockRows}
use Rattle.tree_classes.proofs.Classed.{classed, among-within}
use Rattle.tree_classes.proofs.classes.find_classes.Goals as goal

pub find_components-requires : goal.find_components-requires
find_components-requires c =
    let rows : List (List ℕ) = map (λ v. v.items) c.args.rows.now in
    let among : List (List ℕ) = map (λ v. v.items) c.in_ok-among.among.items in
    let block_rows : AreBlockRows rows c.in_ok-blocks.blocks.items among (length rows) =
    subst (λ (bs : List ℕ). AreBlockRows rows bs among (length rows)) c.deref.ensures.value (subst (λ (n : ℕ). AreBlockRows rows c.deref.result.now among n) (sym (length-map c.args.rows.now (λ v. v.items))) c.in_ok-among.ensures) in
    subst (λ (vs : List (Vec ℕ)). AreWithin (map (λ v. v.items) vs)) (sym c.deref-2.ensures.value) (among-within rows c.args.tops.items c.in_ok-blocks.blocks.items c.requires.within c.requires.even c.in_ok-blocks.ensures among block_rows)

pub returns : goal.returns
returns c =
    let rows : List (List ℕ) = map (λ v. v.items) c.args.rows.now in
    let among : List (List ℕ) = map (λ v. v.items) c.in_ok-among.among.items in
    let block_rows : AreBlockRows rows c.in_ok-blocks.blocks.items among (length rows) =
    subst (λ (bs : List ℕ). AreBlockRows rows bs among (length rows)) c.deref.ensures.value (subst (λ (n : ℕ). AreBlockRows rows c.deref.result.now among n) (sym (length-map c.args.rows.now (λ v. v.items))) c.in_ok-among.ensures) in
    let ranked : AreRanked among (rank_of c.in_ok-components.components) (is_cyclic c.in_ok-components.components) =
    subst (λ (vs : List (Vec ℕ)). AreRanked (map (λ v. v.items) vs) (rank_of c.in_ok-components.components) (is_cyclic c.in_ok-components.components)) c.deref-2.ensures.value c.in_ok-components.ensures in
    classed rows c.args.tops.items c.in_ok-blocks.blocks.items c.requires.within c.requires.even c.in_ok-blocks.ensures among block_rows c.in_ok-components.components ranked
