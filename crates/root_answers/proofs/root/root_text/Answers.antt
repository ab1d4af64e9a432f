use Rattle.std.proofs.Common.{◌∙◌, Some, sym, ap, subst, Err}
use Rattle.local_store.specs.Asking.{Decides}
use Rattle.root_answers.specs.Roots.{IsText}
use Rattle.root_answers.proofs.RootTexts.{IsRootView, clashes, is_text, long_text}
use Rattle.root_answers.proofs.root.root_text.Goals as goal

pub returns-in-Ok-Clash : goal.returns-in-Ok-Clash
returns-in-Ok-Clash c =
    let w : IsRootView c.args.core.now c.args.name c.in-Ok.view c.chain-chain.result = record {
      seen = c.chain-chain.ensures.seen;
      table = c.in-Ok.ensures.table;
      journal = c.in-Ok.ensures.journal;
      place = c.in-Ok.ensures.place;
      nodes = c.chain-chain.ensures.nodes ∙ ap (λ p. p.templates.nodes) c.requires;
      symbols = c.chain-chain.ensures.symbols ∙ ap (λ p. p.templates.symbols) c.requires;
      stores = c.chain-chain.ensures.stores;
    } in
    clashes c.args.core.now c.args.name c.in-Ok.view c.chain-chain.result w c.in-Ok-Clash.field-0-0 c.in-Ok-Clash.field-0-1
    (subst (Decides c.chain-chain.result.nodes c.chain-chain.result.stores) c.in-Ok-Clash.field-0-is c.in-Ok-Clash.ensures)

pub returns-in-Ok-chain_answer : goal.returns-in-Ok-chain_answer
returns-in-Ok-chain_answer c =
    let w : IsRootView c.args.core.now c.args.name c.in-Ok.view c.chain-chain.result = record {
      seen = c.chain-chain.ensures.seen;
      table = c.in-Ok.ensures.table;
      journal = c.in-Ok.ensures.journal;
      place = c.in-Ok.ensures.place;
      nodes = c.chain-chain.ensures.nodes ∙ ap (λ p. p.templates.nodes) c.requires;
      symbols = c.chain-chain.ensures.symbols ∙ ap (λ p. p.templates.symbols) c.requires;
      stores = c.chain-chain.ensures.stores;
    } in
    is_text c.args.core.now c.args.name c.in-Ok.view c.chain-chain.result w c.shown_of.result.now c.in-Ok-chain_answer.text.items (sym c.if-not-is_solved.ensures)
    (subst (Decides c.chain-chain.result.nodes c.chain-chain.result.stores) c.in-Ok-Consistent.field-0-is c.in-Ok-Consistent.ensures)
    c.shown_of.ensures c.in-Ok-chain_answer.ensures.text c.in-Ok-chain_answer.ensures.short

pub returns-in-Err-Long : goal.returns-in-Err-Long
returns-in-Err-Long c =
    let w : IsRootView c.args.core.now c.args.name c.in-Ok.view c.chain-chain.result = record {
      seen = c.chain-chain.ensures.seen;
      table = c.in-Ok.ensures.table;
      journal = c.in-Ok.ensures.journal;
      place = c.in-Ok.ensures.place;
      nodes = c.chain-chain.ensures.nodes ∙ ap (λ p. p.templates.nodes) c.requires;
      symbols = c.chain-chain.ensures.symbols ∙ ap (λ p. p.templates.symbols) c.requires;
      stores = c.chain-chain.ensures.stores;
    } in
    subst (λ line. IsText c.args.core.now c.args.name (Some line)) (sym c.in_ok-long_line-in-Err-Long.ensures)
    (long_text c.args.core.now c.args.name c.in-Ok.view c.chain-chain.result w c.shown_of.result.now (sym c.if-not-is_solved.ensures)
    (subst (Decides c.chain-chain.result.nodes c.chain-chain.result.stores) c.in-Ok-Consistent.field-0-is c.in-Ok-Consistent.ensures)
    c.shown_of.ensures (c.chain_answer.ensures.long (c.in-Err-Long.is ∙ ap Err c.in-Err-Long.field-0-is)))
