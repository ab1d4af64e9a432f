use Rattle.std.proofs.Common.{◌≡◌, ◌∙◌, ap, sym, subst}
use Rattle.std.proofs.lemmas.Result.{IfOk-weaker}
use Rattle.akl_terms.specs.declared.program.Program.{Program}
use Rattle.akl_terms.specs.Equal.{IsConsistentBy}
use Rattle.local_store.specs.Chained.{ToldBy}
use Rattle.guard_plan.proofs.Sites.{some_stores}
use Rattle.why_report.specs.Sights.{AreAwaited}
use Rattle.why_report.proofs.GoalsFound.{quiet_seen, stores_consistent, atom_waits, choice_waits, box_waits}
use Rattle.why_report.proofs.watching.watched_at.Goals as goal
use Rattle.why_report.proofs.watching.watched_at.Goals.{in-Atom+in_ok-of-in-Atom, in-Choice+in_ok-of-in-Choice, in-Box}

pub awaited_by-requires-clause-consistent : goal.awaited_by-requires-clause-consistent
awaited_by-requires-clause-consistent c = subst (λ (q : Program). IsConsistentBy (ToldBy q.templates.nodes c.args.view.now.stores)) (sym (c.requires.program ∙ ap (λ t. t.program) (sym c.requires.view.table)))
    (stores_consistent c.args.view.now c.chain-chain.ensures.seen (quiet_seen c.args.core.now c.args.view.now c.requires.view.table c.requires.view.journal c.chain-chain.ensures.seen c.requires.quiet))

pub oldest_of-requires : goal.oldest_of-requires
oldest_of-requires c = rw c.chain-chain.ensures.stores (some_stores c.args.view.now c.chain-chain.ensures.seen)

pub returns : goal.returns
returns c =
    let p : c.args.program.now ≡ c.args.view.now.table.program = c.requires.program ∙ ap (λ t. t.program) (sym c.requires.view.table) in
    let nodes = c.chain-chain.ensures.nodes ∙ ap (λ (q : Program). q.templates.nodes) p in
    IfOk-weaker c.oldest_of.result _ _
    (λ list h. elim c.match-sight.branch [
      | in-Atom+in_ok-of-in-Atom w ↦ atom_waits c.args.core.now c.args.view.now c.chain-chain.ensures.seen c.args.goal c.requires.view c.requires.quiet c.match-sight.of.items list.items h w.in-Atom.atom (sym c.sight.ensures ∙ w.in-Atom.is)
          (rw w.of-is (subst (λ (q : Program). AreAwaited q c.args.view.now.stores w.in-Atom.atom w.in_ok-of-in-Atom.of.items) p w.in_ok-of-in-Atom.ensures))
      | in-Choice+in_ok-of-in-Choice w ↦ choice_waits c.args.core.now c.args.view.now c.chain-chain.ensures.seen c.args.goal c.requires.view c.requires.quiet c.match-sight.of.items list.items h _ (sym c.sight.ensures ∙ w.in-Choice.is)
          (rw w.of-is w.in_ok-of-in-Choice.ensures)
      | in-Box w ↦ box_waits c.args.core.now c.args.view.now c.chain-chain.ensures.seen c.args.goal c.requires.view c.requires.quiet list.items _ (sym c.sight.ensures ∙ w.in-Box.is)
    ])
    (rw (nodes, c.chain-chain.ensures.stores, c.as_slice.ensures.value) at c.oldest_of.ensures)
