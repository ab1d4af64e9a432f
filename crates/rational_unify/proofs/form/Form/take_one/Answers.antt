use Rattle.std.proofs.Common.{◌≢◌, sym, refl, ◌∙◌}
use Rattle.std.proofs.lemmas.Result.{IfOk-weaker}
use Rattle.akl_terms.specs.Tree.{variable}
use Rattle.akl_terms.specs.Template.{tree}
use Rattle.rational_unify.specs.Forms.{made_equation, made_binding}
use Rattle.rational_unify.proofs.Chains.{found-none}
use Rattle.rational_unify.proofs.OlderEnds.{term_end-older, one_more-older}
use Rattle.rational_unify.proofs.FormLaws.{other_variable, headed_other}
use Rattle.rational_unify.proofs.form.Form.take_one.Goals as goal
use Rattle.rational_unify.proofs.form.Form.take_one.Goals.{in_default-look-via-in-Free+else-eq, in_default-look-via-in_default-look}

pub returns-in-Some-clause-taken : goal.returns-in-Some-clause-taken
returns-in-Some-clause-taken g c = made_equation c.in-Some.other (sym c.in-Some.ensures) refl c.in_ok-push.ensures.ok

pub push-requires-in_default-look : goal.push-requires-in_default-look
push-requires-in_default-look g c = (found-none (g.K.Lookup.bindings c.args.self.now.known.now) c.args.self.now.added c.args.variable (sym c.get.ensures ∙ c.in_default.is)).1

pub returns-in_default-look-clause-taken : goal.returns-in_default-look-clause-taken
returns-in_default-look-clause-taken g c = IfOk-weaker c.push-in_default-look.result _ _
    (λ z h. made_binding c.chain_end-last.result (sym c.get.ensures ∙ c.in_default.is) c.chain_end-last.ensures other h refl) c.push-in_default-look.ensures.list
  where
    other : tree c.args.templates.now.nodes c.chain_end-last.result ≢ variable c.args.variable
    other = elim c.in_default-look.branch [
      | in_default-look-via-in-Free+else-eq w ↦ other_variable c.args.templates.now.nodes c.chain_end-last.result w.in-Free.end c.args.variable w.in-Free.ensures.seen w.if-eq.ensures
      | in_default-look-via-in_default-look w ↦ headed_other c.args.templates.now.nodes c.chain_end-last.result c.look.result c.args.variable c.look.ensures.seen w.in_default-look.not-Free
    ]

pub returns-in_default-look-clause-older : goal.returns-in_default-look-clause-older
returns-in_default-look-clause-older g c = IfOk-weaker c.push-in_default-look.result _ _
    (λ z h o k. one_more-older c.args.templates.now.nodes (g.K.Lookup.bindings c.args.self.now.known.now) c.args.self.now.added _ c.args.variable c.chain_end-last.result h
    (λ y e. term_end-older c.args.templates.now.nodes _ k c.args.variable y c.args.term o (sym c.chain_end-last.ensures ∙ e)) k) c.push-in_default-look.ensures.list
