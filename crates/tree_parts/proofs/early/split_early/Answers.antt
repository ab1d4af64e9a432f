use Rattle.std.proofs.Common.{ℕ, List, length, subst, sym, ap, ◌∙◌}
use Rattle.std.proofs.lemmas.List.{length-map}
use Rattle.tree_parts.specs.Firsts.{AreFirsts}
use Rattle.tree_parts.specs.Lists.{AreEntries}
use Rattle.tree_parts.specs.Splits.{ArePairs}
use Rattle.tree_parts.proofs.Grouping.{items_of}
use Rattle.tree_parts.proofs.Sound.{start-sound, block-sound, pairs-partition}
use Rattle.tree_parts.proofs.early.split_early.Goals as goal

pub loop-init : goal.loop-init
loop-init c =
    rw c.in_ok-from_slice.ensures.items
    (start-sound (items_of c.args.rows.now) c.args.start.now (items_of c.in_ok-places_by.field-0.items) (c.requires.size ∙ sym (length-map c.args.rows.now (λ v. v.items))) c.in_ok-places_by.ensures.places)

pub loop-preserved : goal.loop-preserved
loop-preserved c =
    let rows : List (List ℕ) = items_of c.args.rows.now in
    let nodes : List ℕ = c.in_ok-entries.entries.nodes.items in
    let places : List ℕ = c.in_ok-entries.entries.places.items in
    let nexts : List ℕ = c.in_ok-entries.entries.nexts.items in
    let entries : AreEntries rows nodes places nexts (length rows) 0 = subst (λ (n : ℕ). AreEntries rows nodes places nexts n 0) (sym (length-map c.args.rows.now (λ v. v.items))) c.in_ok-entries.ensures in
    block-sound rows c.args.start.now nodes places nexts c.loop.naming.names.items c.split_by_block.new.naming.names.items (items_of c.loop.naming.members.items) (items_of c.split_by_block.new.naming.members.items) c.in-Some.name c.requires.within c.requires.even entries
    c.loop.invariant c.in_ok-split_by_block.ensures.split c.in_ok-split_by_block.ensures.listed

pub returns : goal.returns
returns c =
    let keys : List (List ℕ) = items_of c.in_ok-keys.keys.items in
    let names : List ℕ = c.loop.naming.names.items in
    let pairs : ArePairs c.args.start.now names keys (length c.args.start.now) = subst (λ (ns : List ℕ). ArePairs c.args.start.now ns keys (length c.args.start.now)) c.deref-3.ensures.value c.in_ok-keys.ensures in
    let firsts : AreFirsts keys c.in_ok-firsts.firsts.items = subst (λ (ks : List (List ℕ)). AreFirsts ks c.in_ok-firsts.firsts.items) (ap items_of c.deref-4.ensures.value) c.in_ok-firsts.ensures in
    pairs-partition (items_of c.args.rows.now) c.args.start.now names c.in_ok-firsts.firsts.items (items_of c.loop.naming.members.items) keys (c.requires.size ∙ sym (length-map c.args.rows.now (λ v. v.items))) c.loop.invariant pairs firsts
