use Rattle.std.proofs.Common.{◌++◌, refl, ap, ◌∙◌}
use Rattle.std.specs.Prelude.{Option, option_to_list}
use Rattle.akl_terms.specs.declared.term.Term.{Term}
use Rattle.reached_ends.specs.Walks.{State, state_of}
use Rattle.reached_ends.proofs.Going.{rests, goes_on, taken}
use Rattle.reached_ends.proofs.Coming.{from_before, from_on, from_taken}
use Rattle.reached_ends.proofs.walk.Walk.finish.Goals as goal

pub loop-term-init : goal.loop-term-init
loop-term-init c =
    let nodes = c.args.templates.now.nodes in
    let root = c.args.root.now.bindings in
    (rests nodes root (state_of c.args.self.now), from_before nodes root _ (state_of c.args.self.now) (state_of c.args.self.now) (λ x k. k))

pub loop-term-preserved : goal.loop-term-preserved
loop-term-preserved c =
    let nodes = c.args.templates.now.nodes in
    let root = c.args.root.now.bindings in
    let popped : State = record { reached = c.loop-term.self.reached.items; ends = c.loop-term.self.ends.items; waiting = c.pop.new.self.items } in
    let waits = c.pop.ensures.items ∙ ap (λ (o : Option Term). c.pop.new.self.items ++ option_to_list o) c.in-Some.is in (
      goes_on nodes root (state_of c.args.self.now) (state_of c.loop-term.self) (state_of c.take.new.self) c.loop-term.invariant.0
          (goes_on nodes root (state_of c.loop-term.self) _ (state_of c.take.new.self)
          (taken nodes root (state_of c.loop-term.self) popped c.in-Some.term refl refl waits)
          (c.in_ok-take.ensures.goes c.if-not-branch.false)),
      from_on nodes root (λ _. ⊥) (state_of c.args.self.now) (state_of c.loop-term.self) (state_of c.take.new.self) c.loop-term.invariant.1
          (from_taken nodes root (state_of c.loop-term.self) popped (state_of c.take.new.self) c.in-Some.term refl waits c.in_ok-take.ensures.from),
    )
