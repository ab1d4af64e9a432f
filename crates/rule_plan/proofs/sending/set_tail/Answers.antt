use Rattle.std.proofs.Common.{◌≡◌, refl, ◌∙◌}
use Rattle.std.proofs.lemmas.Result.{IfOk-weaker}
use Rattle.akl_terms.specs.declared.term.Term.TheVariants.{Mol}
use Rattle.local_store.specs.declared.part.Part.{Part}
use Rattle.local_store.specs.Stored.{Stored, with_port}
use Rattle.local_store.specs.Parts.{with_part}
use Rattle.rule_plan.proofs.Added.{frame_added}
use Rattle.rule_plan.proofs.sending.set_tail.Goals as goal

pub returns : goal.returns
returns c =
    let framed : Part = record { frames = c.push.new.self; ports = c.args.part.now.ports; bindings = c.args.part.now.bindings } in
    IfOk-weaker c.add_port.result _ _
    (λ (x : Unit {0}) (h : (s : Stored) → with_part s c.add_port.new.part ≡ with_port (with_part s framed) c.args.port (Mol c.in_ok-node_after.field-0 c.args.frame)) (s : Stored).
    h s ∙ (λ i. with_port (frame_added s c.args.part.now framed c.args.frame c.in_ok-push.ensures.ok refl refl i) c.args.port (Mol (c.in_ok-node_after.ensures i) c.args.frame)))
    c.add_port.ensures
