use Rattle.std.proofs.Common.{List, length, refl, sym, ◌∙◌, ap}
use Rattle.std.proofs.lemmas.Option.{slice_get_read}
use Rattle.akl_terms.specs.declared.name.Place.{Place}
use Rattle.akl_terms.specs.declared.program.Code.{Code}
use Rattle.box_tree.specs.declared.view.Sight.{Sight}
use Rattle.local_store.specs.Stored.{Stored}
use Rattle.guard_plan.proofs.Sites.{shows_at}
use Rattle.call_plan.proofs.finding.call_at_once.Goals as goal

pub by_clauses-requires-clause-called : goal.by_clauses-requires-clause-called
by_clauses-requires-clause-called c =
    let is = rw (c.as_slice.ensures, c.requires.program) at (slice_get_read c.as_slice.result.now (length c.as_slice.result.now) c.args.definition c.in-Some.called.now refl c.in-Some.ensures.lookup.3.0 c.in-Some.ensures.lookup.1) in
    let names = rw c.as_slice-2.ensures at c.in-Some-names_of.ensures in
    record {
      seen = c.chain-chain.ensures.seen;
      is_place = c.requires.place;
      definition = c.args.definition;
      held = shows_at c.args.view.now c.chain-chain.ensures.seen (Place.Goal c.args.goal)
          (Sight.Atom (record { code = Code.Call c.args.definition c.args.arguments.first c.args.arguments.count; frame = c.args.arguments.frame })) c.requires.place c.requires.sight;
      is_definition = is;
      drawn_is = names.0;
      few_names = names.1;
      known = sym c.chain-chain.ensures.known ∙ sym c.known.ensures.known ∙ c.if-known-stores.false ∙ ap (λ (ss : List Stored). length ss) (c.stores.ensures ∙ c.chain-chain.ensures.stores);
    }
