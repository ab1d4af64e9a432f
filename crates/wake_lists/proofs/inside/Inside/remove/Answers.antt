use Rattle.std.proofs.Common.{List, ℕ, [], Some, None, sym, ap, ◌∙◌, ◌≡◌}
use Rattle.std.specs.Prelude.{◌&&◌, ◌==◌, not}
use Rattle.std.specs.Option.{option_copied_mut}
use Rattle.akl_terms.specs.Names.{same_name}
use Rattle.wake_lists.specs.TokenSets.{is_token_in}
use Rattle.wake_lists.specs.Standing.{InBoxes, stands}
use Rattle.wake_lists.proofs.InBoxes.{none_in, stands_is, parted, parted_none, changed_twice, on_some, empty_list}
use Rattle.wake_lists.proofs.inside.Inside.remove.Goals as goal

pub returns-in_default : goal.returns-in_default
returns-in_default c = λ t n.
    ap (λ (ss : InBoxes). stands ss t n) (c.get_mut.follows.holds-at-none ∙ c.self.view_is)
    ∙ parted_none c.args.self.now c.args.name c.args.token
    (ap (λ (ss : InBoxes). stands ss c.args.token c.args.name) (sym c.self.view_is)
    ∙ none_in c.self.inside.tokens c.args.name (sym c.get_mut.ensures.value ∙ ap option_copied_mut c.in_default.is) c.args.token) t n

pub returns-else-is_empty : goal.returns-else-is_empty
returns-else-is_empty c =
    let new : List ℕ = c.remove.new.self in
    let is = sym c.get_mut.ensures.value ∙ ap option_copied_mut c.in-Some.is in
    let put = on_some c.get_mut.result c.in-Some.tokens c.in-Some.is (c.get_mut.follows.holds new) in
    λ t n.
    parted c.args.name c.self.inside.tokens (c.get_mut.follows.lender new) (Some new) put.finds c.args.token
    (λ s. c.remove.ensures s ∙ ap (λ b. b && not (s == c.args.token)) (sym (stands_is c.self.inside.tokens c.args.name c.in-Some.tokens.now is s))) t n
    ∙ ap (λ (ss : InBoxes). stands ss t n && not (t == c.args.token && same_name n c.args.name)) c.self.view_is

pub returns-then-is_empty : goal.returns-then-is_empty
returns-then-is_empty c =
    let new : List ℕ = c.remove.new.self in
    let is = sym c.get_mut.ensures.value ∙ ap option_copied_mut c.in-Some.is in
    let put = on_some c.get_mut.result c.in-Some.tokens c.in-Some.is (c.get_mut.follows.holds new) in
    let empty : new ≡ [] = empty_list new (sym c.is_empty.ensures ∙ c.if-is_empty.true) in
    λ t n.
    parted c.args.name c.self.inside.tokens c.drop_box.new.tokens None
    (changed_twice c.args.name c.self.inside.tokens (c.get_mut.follows.lender new) c.drop_box.new.tokens (Some new) None put.finds c.drop_box.ensures.finds) c.args.token
    (λ s. ap (is_token_in s) (sym empty) ∙ c.remove.ensures s ∙ ap (λ b. b && not (s == c.args.token)) (sym (stands_is c.self.inside.tokens c.args.name c.in-Some.tokens.now is s))) t n
    ∙ ap (λ (ss : InBoxes). stands ss t n && not (t == c.args.token && same_name n c.args.name)) c.self.view_is
