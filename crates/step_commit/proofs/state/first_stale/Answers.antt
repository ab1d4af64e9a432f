use Rattle.std.proofs.Common.{take, drop, ◌≡◌, true, sym, subst, ◌∙◌, inl, inr, suc}
use Rattle.akl_model.specs.declared.item.Item.{Item}
use Rattle.box_tree.specs.Tables.{stamp_of}
use Rattle.step_commit.specs.Cores.{is_within}
use Rattle.step_commit.proofs.Stale.{read_next, split_at}
use Rattle.step_commit.proofs.state.first_stale.Goals as goal

-- src/state.rt:159:13
pub returns-then-not-is_within : goal.returns-then-not-is_within
returns-then-not-is_within c = record {
  earlier = take c.loop-item.item-index c.args.reads.now;
  later = drop (suc c.loop-item.item-index) c.args.reads.now;
  is_read = split_at c.args.reads.now c.loop-item.item-index Item.Roots c.loop-item-test.true;
  first = c.loop-item.invariant;
  is_stamp = c.stamp-stamp.ensures;
  unseen = sym c.is_within.ensures ∙ c.if-not-is_within.true;
}

-- src/state.rt:156:5
pub loop-item-preserved : goal.loop-item-preserved
loop-item-preserved c = λ i r. elim (read_next c.args.reads.now c.loop-item.item-index Item.Roots i c.loop-item-test.true r) [
  | inl before ↦ c.loop-item.invariant i before
  | inr here ↦ subst (λ (j : Item). is_within (stamp_of c.args.table.now j) c.args.seen ≡ true) (sym here)
      (subst (λ s. is_within s c.args.seen ≡ true) c.stamp-stamp.ensures (sym c.is_within.ensures ∙ c.if-not-is_within.false))
]
