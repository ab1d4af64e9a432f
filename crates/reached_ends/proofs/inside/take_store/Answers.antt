use Rattle.std.proofs.Common.{◌≡◌, ℕ, suc, ◌+◌, List, take, refl, sym, ◌∙◌, subst, inl, inr, arith}
use Rattle.akl_terms.specs.declared.name.Var.{Var}
use Rattle.std.proofs.lemmas.Result.{IfOk-weaker}
use Rattle.akl_terms.specs.declared.term.Term.{Term}
use Rattle.reached_ends.specs.Leading.{StandsInBindings}
use Rattle.reached_ends.specs.Walks.{Waits, State, state_of, ComesFrom, Goes}
use Rattle.reached_ends.proofs.Going.{rests, waits_before, waits_last, goes_on, waits_more, both_ok, AreComing, coming_on, coming_more, coming_over, all_coming}
use Rattle.reached_ends.proofs.Coming.{from_before, from_on, from_more, from_push, bound_at}
use Rattle.reached_ends.proofs.inside.take_store.Goals as goal

pub loop-binding-init : goal.loop-binding-init
loop-binding-init c =
    let nodes = c.args.templates.now.nodes in
    let root = c.args.root.now.bindings in
    (rests nodes root (state_of c.args.walk.now), tt, from_before nodes root _ (state_of c.args.walk.now) (state_of c.args.walk.now) (λ x k. k))

pub loop-binding-preserved : goal.loop-binding-preserved
loop-binding-preserved c =
    let nodes = c.args.templates.now.nodes in
    let root = c.args.root.now.bindings in
    let bs = c.as_slice-binding-items.result.now in
    let i = c.loop-binding.binding-index in
    let b : State = state_of c.reach.new.self in
    let now : State = record { reached = c.reach.new.self.reached.items; ends = c.reach.new.self.ends.items; waiting = c.push.new.self.items } in
    let waits : Goes nodes root b now = waits_more nodes root b now refl refl (λ x k. subst (λ (ts : List Term). Waits nodes ts x) (sym c.in_ok-push.ensures.items) (waits_before nodes c.reach.new.self.waiting.items _ x k)) in
    let goes : Goes nodes root (state_of c.loop-binding.walk) now = goes_on nodes root (state_of c.loop-binding.walk) b now (c.in_ok-reach.ensures.goes nodes) waits in
    let next : suc i ≡ i + 1 = omega arith in (
      goes_on nodes root (state_of c.args.walk.now) (state_of c.loop-binding.walk) now c.loop-binding.invariant.0 goes,
      subst (λ (n : ℕ). AreComing nodes now (take n bs)) next
          (coming_more nodes now bs i _ c.loop-binding-test.true (coming_on nodes root (state_of c.loop-binding.walk) now goes (take i bs) c.loop-binding.invariant.1) (c.in_ok-reach.ensures.reached c.if-not-branch.false)
          (λ y s. inr (subst (λ (ts : List Term). Waits nodes ts y) (sym c.in_ok-push.ensures.items) (waits_last nodes c.reach.new.self.waiting.items _ y s)))),
      from_on nodes root (StandsInBindings nodes bs) (state_of c.args.walk.now) (state_of c.loop-binding.walk) now c.loop-binding.invariant.2
          (from_on nodes root (StandsInBindings nodes bs) (state_of c.loop-binding.walk) b now
          (from_more nodes root _ (StandsInBindings nodes bs) (state_of c.loop-binding.walk) b (λ x e. bound_at nodes bs i _ c.loop-binding-test.true x (inl e)) (c.in_ok-reach.ensures.from nodes))
          (from_more nodes root _ (StandsInBindings nodes bs) b now (λ x s. bound_at nodes bs i _ c.loop-binding-test.true x (inr s)) (from_push nodes root b now _ refl c.in_ok-push.ensures.items))),
    )

pub returns-clause-goes : goal.returns-clause-goes
returns-clause-goes c = IfOk-weaker c.finish.result _ _
    (λ fits h t. goes_on c.args.templates.now.nodes c.args.root.now.bindings (state_of c.args.walk.now) (state_of c.loop-binding.walk) (state_of c.finish.new.self) c.loop-binding.invariant.0 (h t)) c.finish.ensures.goes

pub returns-clause-bound : goal.returns-clause-bound
returns-clause-bound c =
    let nodes = c.args.templates.now.nodes in
    let root = c.args.root.now.bindings in
    let all = all_coming nodes (state_of c.loop-binding.walk) c.as_slice-binding-items.result.now c.args.store.now.bindings c.loop-binding.binding-index (c.as_slice-binding-items.ensures ∙ c.in_ok-bindings.ensures) c.loop-binding-test.false
    c.loop-binding.invariant.1 in
    both_ok c.finish.result _ _ _ c.finish.ensures.goes c.finish.ensures.all
    (λ fits g w t. coming_over nodes (state_of c.finish.new.self) (w t) c.args.store.now.bindings (coming_on nodes root (state_of c.loop-binding.walk) (state_of c.finish.new.self) (g t) c.args.store.now.bindings all))

pub returns-clause-from : goal.returns-clause-from
returns-clause-from c =
    let nodes = c.args.templates.now.nodes in
    let root = c.args.root.now.bindings in
    let own : Var → Type 0 = StandsInBindings nodes c.args.store.now.bindings in
    let now = subst (λ (bs : List (Var × Term)). ComesFrom nodes root (StandsInBindings nodes bs) (state_of c.args.walk.now) (state_of c.loop-binding.walk)) (c.as_slice-binding-items.ensures ∙ c.in_ok-bindings.ensures) c.loop-binding.invariant.2 in
    IfOk-weaker c.finish.result _ _ (λ fits f t. from_on nodes root own (state_of c.args.walk.now) (state_of c.loop-binding.walk) (state_of c.finish.new.self) now
    (from_more nodes root (λ _. ⊥) own (state_of c.loop-binding.walk) (state_of c.finish.new.self) (λ x h. absurd h) (f t))) c.finish.ensures.from
