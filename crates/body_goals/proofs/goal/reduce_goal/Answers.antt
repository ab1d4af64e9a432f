use Rattle.std.proofs.Common.{FitsSigned, rules, refl, subst}
use Rattle.std.specs.Int.{w128}
use Rattle.std.proofs.lemmas.Int.{to_z-of_z}
use Rattle.std.proofs.lemmas.Result.{IfOk-weaker}
use Rattle.akl_model.specs.declared.label.Rule.{Rule}
use Rattle.local_store.specs.Chained.{innermost, around, equations_of}
use Rattle.local_store.specs.Parts.{told_over}
use Rattle.arith_goals.specs.declared.goals.ArithValue.{ArithValue}
use Rattle.arith_goals.specs.Answers.{Answers}
use Rattle.body_goals.specs.Takes.{with_added}
use Rattle.body_goals.specs.Goals.{of_nodes, of_number, template_of}
use Rattle.body_goals.proofs.Reductions.{told_by, equation_tells, value_tells, comparison_holds}
use Rattle.body_goals.proofs.goal.reduce_goal.Goals as goal

pub returns-in-Equal-clause-reduces : goal.returns-in-Equal-clause-reduces
returns-in-Equal-clause-reduces c =
    let ss = c.args.chain.now.stores in
    IfOk-weaker c.tell_by.result _ _
    (told_by c.args.chain.now.symbols c.args.chain.now.nodes (around ss) c.args.goal Rule.Tell (of_nodes c.in-Equal.left c.in-Equal.right c.args.goal.frame)
    (told_over (innermost ss) c.args.told.now) (told_over (innermost ss) c.tell_by.new.told)
    (equation_tells c.args.chain.now.symbols c.args.chain.now.nodes (with_added ss c.args.told.now.part) c.args.goal c.in-Equal.left c.in-Equal.right c.in-Equal.is))
    c.tell_by.ensures.tells

pub returns-in-Is-clause-reduces : goal.returns-in-Is-clause-reduces
returns-in-Is-clause-reduces c =
    let v : FitsSigned w128 c.in-Is.value = search rules in
    let ss = c.args.chain.now.stores in
    IfOk-weaker c.tell_by-in-Is.result _ _
    (told_by c.args.chain.now.symbols c.args.chain.now.nodes (around ss) c.args.goal Rule.Eval (of_number c.in-Arith.left c.in-Is.value c.args.goal.frame)
    (told_over (innermost ss) c.args.told.now) (told_over (innermost ss) c.tell_by-in-Is.new.told)
    (value_tells c.args.chain.now.symbols c.args.chain.now.nodes (with_added ss c.args.told.now.part) c.args.goal c.in-Arith.test c.in-Arith.left c.in-Arith.right c.in-Is.value c.in-Arith.is
    (subst (λ (a : ArithValue). Answers (template_of c.args.chain.now) (equations_of c.args.chain.now.nodes (with_added ss c.args.told.now.part)) c.args.goal a) c.in-Is.is c.in_ok-value-in-Arith.ensures)))
    (rw (to_z-of_z w128 c.in-Is.value v) at c.tell_by-in-Is.ensures.tells)

pub returns-in-Holds-clause-reduces : goal.returns-in-Holds-clause-reduces
returns-in-Holds-clause-reduces c =
    let ss = c.args.chain.now.stores in (
      comparison_holds c.args.chain.now.symbols c.args.chain.now.nodes (with_added ss c.args.told.now.part) c.args.goal c.in-Arith.test c.in-Arith.left c.in-Arith.right c.in-Arith.is
          (subst (λ (a : ArithValue). Answers (template_of c.args.chain.now) (equations_of c.args.chain.now.nodes (with_added ss c.args.told.now.part)) c.args.goal a) c.in-Holds.is c.in_ok-value-in-Arith.ensures),
      refl,
    )
