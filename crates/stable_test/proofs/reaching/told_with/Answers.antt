use Rattle.std.proofs.Common.{◌≡◌, [], ◌∷◌, ◌++◌, subst, ◌∙◌}
use Rattle.local_store.specs.Chained.{Chained}
use Rattle.entail_test.specs.Asked.{KeepsApartAt, DecidesRead, Reads}
use Rattle.stable_test.proofs.Tested.{told_touched, told_clash}
use Rattle.stable_test.proofs.reaching.told_with.Goals as goal

pub of_solved-chain-requires : goal.of_solved-chain-requires
of_solved-chain-requires c = rw (c.as_slice.ensures.value, c.in_ok-push.ensures.items, c.in_ok-stores.ensures, c.in_ok-new.ensures, c.stores.ensures) c.requires.known

pub returns-in-Touched : goal.returns-in-Touched
returns-in-Touched c =
    let stores : c.as_slice.result.now ≡ c.args.view.now.stores ++ c.args.further ∷ [] =
    c.as_slice.ensures.value ∙ c.in_ok-push.ensures.items ∙ (λ i. (c.in_ok-stores.ensures ∙ c.stores.ensures) i ++ c.in_ok-new.ensures i ∷ []) in
    let chain : c.of_solved-chain.result ≡ record { nodes = c.args.program.now.templates.nodes; symbols = c.args.program.now.templates.symbols; stores = c.args.view.now.stores ++ c.args.further ∷ []; known = c.args.known } =
    c.of_solved-chain.ensures ∙ (λ i. record { nodes = c.args.program.now.templates.nodes; symbols = c.args.program.now.templates.symbols; stores = stores i; known = c.args.known }) in
    let whole = subst (λ (k : Chained). DecidesRead k.nodes k.stores c.args.depth c.in_ok-on.field-0) chain c.in_ok-on.ensures.whole in
    let read = subst (λ (k : Chained). KeepsApartAt k.nodes k.stores c.args.depth → Reads k.nodes k.stores c.args.depth c.in_ok-on.field-0) chain c.in_ok-on.ensures.read in
    told_touched c.args.program.now.templates.nodes (c.args.view.now.stores ++ c.args.further ∷ []) c.args.depth c.in_ok-on.field-0 c.in-Touched.on c.in-Touched.is whole read

pub returns : goal.returns
returns c =
    let stores : c.as_slice.result.now ≡ c.args.view.now.stores ++ c.args.further ∷ [] =
    c.as_slice.ensures.value ∙ c.in_ok-push.ensures.items ∙ (λ i. (c.in_ok-stores.ensures ∙ c.stores.ensures) i ++ c.in_ok-new.ensures i ∷ []) in
    let chain : c.of_solved-chain.result ≡ record { nodes = c.args.program.now.templates.nodes; symbols = c.args.program.now.templates.symbols; stores = c.args.view.now.stores ++ c.args.further ∷ []; known = c.args.known } =
    c.of_solved-chain.ensures ∙ (λ i. record { nodes = c.args.program.now.templates.nodes; symbols = c.args.program.now.templates.symbols; stores = stores i; known = c.args.known }) in
    let whole = subst (λ (k : Chained). DecidesRead k.nodes k.stores c.args.depth c.in_ok-on.field-0) chain c.in_ok-on.ensures.whole in
    told_clash c.args.program.now.templates.nodes (c.args.view.now.stores ++ c.args.further ∷ []) c.args.depth c.in_ok-on.field-0 c.in-Clash.left c.in-Clash.right c.in-Clash.is whole
