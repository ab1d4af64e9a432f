use Rattle.std.proofs.Common.{◌≡◌, ◌+◌, ◌++◌, ◌∷◌, [], true, false, sym, ◌∙◌, arith, take, slice_index_or}
use Rattle.std.specs.Prelude.{IsTrue, ◌↔◌}
use Rattle.akl_terms.specs.declared.name.Var.{Var}
use Rattle.std.proofs.lemmas.List.{append_assoc}
use Rattle.rational_unify.proofs.Taking.{take-next}
use Rattle.class_members.specs.Listed.{EndsAmong}
use Rattle.class_members.proofs.Gathered.{listed_more, listed_same}
use Rattle.class_members.proofs.listing.members_among.Goals as goal
use Rattle.class_members.proofs.listing.members_among.Goals.{then-has_end_of+in_ok-push, else-has_end_of}

pub loop-candidate-preserved : goal.loop-candidate-preserved
loop-candidate-preserved g c =
    let y : Var = slice_index_or c.args.candidates.now c.loop-candidate.candidate-index (record { frame = record { worker = 0; number = 0 }; index = 0 }) in
    let r : IsTrue c.has_end_of.result ↔ EndsAmong c.args.templates.now.nodes (g.W.Lookup.bindings c.args.whole.now) c.in_ok-ends.ends y = c.has_end_of.ensures in
    rw (take-next c.args.candidates.now c.loop-candidate.candidate-index (c.loop-candidate.candidate-index + 1) (record { frame = record { worker = 0; number = 0 }; index = 0 }) c.loop-candidate-test.true (omega arith))
    (elim c.if-has_end_of.branch [
      | then-has_end_of+in_ok-push w ↦ rw (w.others-is, w.in_ok-push.ensures.items, ← append_assoc c.ends.inside.list.items c.loop-candidate.others.items (y ∷ []))
          (listed_more c.args.templates.now.nodes (g.W.Lookup.bindings c.args.whole.now) c.args.of.now (take c.loop-candidate.candidate-index c.args.candidates.now)
          (c.ends.inside.list.items ++ c.loop-candidate.others.items) c.loop-candidate.invariant y c.in_ok-ends.ends c.in_ok-ends.ensures (r.0 w.if-has_end_of.true))
      | else-has_end_of w ↦ rw w.others-is
          (listed_same c.args.templates.now.nodes (g.W.Lookup.bindings c.args.whole.now) c.args.of.now (take c.loop-candidate.candidate-index c.args.candidates.now)
          (c.ends.inside.list.items ++ c.loop-candidate.others.items) c.loop-candidate.invariant y c.in_ok-ends.ends c.in_ok-ends.ensures (λ e. (let z : false ≡ true = sym w.if-has_end_of.false ∙ r.1 e in cc)))
    ])
