use Rattle.std.proofs.Common.{◌∙◌, sym, ap, subst}
use Rattle.local_store.specs.Asking.{Decides}
use Rattle.root_answers.proofs.RootTexts.{IsRootView, clashes}
use Rattle.root_answers.proofs.RootModels.{is_model}
use Rattle.root_answers.proofs.model.root_model.Goals as goal

pub returns-in-Ok-Clash : goal.returns-in-Ok-Clash
returns-in-Ok-Clash c =
    let w : IsRootView c.args.core.now c.args.name c.in-Ok.view c.chain-chain.result = record {
      seen = c.chain-chain.ensures.seen;
      table = c.in-Ok.ensures.table;
      journal = c.in-Ok.ensures.journal;
      place = c.in-Ok.ensures.place;
      nodes = c.chain-chain.ensures.nodes ∙ ap (λ p. p.templates.nodes) c.requires;
      symbols = c.chain-chain.ensures.symbols ∙ ap (λ p. p.templates.symbols) c.requires;
      stores = c.chain-chain.ensures.stores;
    } in
    clashes c.args.core.now c.args.name c.in-Ok.view c.chain-chain.result w c.in-Ok-Clash.field-0-0 c.in-Ok-Clash.field-0-1
    (subst (Decides c.chain-chain.result.nodes c.chain-chain.result.stores) c.in-Ok-Clash.field-0-is c.in-Ok-Clash.ensures)

pub returns-in-Ok-find_model : goal.returns-in-Ok-find_model
returns-in-Ok-find_model c =
    let w : IsRootView c.args.core.now c.args.name c.in-Ok.view c.chain-chain.result = record {
      seen = c.chain-chain.ensures.seen;
      table = c.in-Ok.ensures.table;
      journal = c.in-Ok.ensures.journal;
      place = c.in-Ok.ensures.place;
      nodes = c.chain-chain.ensures.nodes ∙ ap (λ p. p.templates.nodes) c.requires;
      symbols = c.chain-chain.ensures.symbols ∙ ap (λ p. p.templates.symbols) c.requires;
      stores = c.chain-chain.ensures.stores;
    } in
    is_model c.args.core.now c.args.name c.in-Ok.view c.chain-chain.result w c.shown_of.result.now c.in-Ok-find_model.model (sym c.if-not-is_solved.ensures)
    (subst (Decides c.chain-chain.result.nodes c.chain-chain.result.stores) c.in-Ok-Consistent.field-0-is c.in-Ok-Consistent.ensures)
    c.shown_of.ensures c.in-Ok-find_model.ensures
