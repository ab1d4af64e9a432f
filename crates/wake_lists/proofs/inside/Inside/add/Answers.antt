use Rattle.std.proofs.Common.{List, ℕ, Some, sym, ap, ◌∙◌}
use Rattle.std.specs.Prelude.{◌||◌, ◌&&◌, ◌==◌}
use Rattle.std.specs.Option.{option_copied_mut}
use Rattle.std.specs.Map.{lookup}
use Rattle.akl_terms.specs.Names.{same_name}
use Rattle.wake_lists.specs.TokenSets.{is_token_in}
use Rattle.wake_lists.specs.Standing.{InBoxes, stands}
use Rattle.wake_lists.proofs.WaitsKept.{on_err}
use Rattle.wake_lists.proofs.InBoxes.{none_in, stands_is, unmoved, joined, on_some}
use Rattle.wake_lists.proofs.inside.Inside.add.Goals as goal

pub returns-in_err-add-clause-unchanged : goal.returns-in_err-add-clause-unchanged
returns-in_err-add-clause-unchanged c =
    let new : List ℕ = c.add.new.self in
    let is = sym c.get_mut.ensures.value ∙ ap option_copied_mut c.in-Some.is in
    let put = on_some c.get_mut.result c.in-Some.tokens c.in-Some.is (c.get_mut.follows.holds new) in
    on_err c.from_residual.result (λ t n.
    unmoved c.args.name c.self.inside.tokens (c.get_mut.follows.lender new) (Some new) put.finds
    (λ s. ap (is_token_in s) c.in_err-add.ensures.unchanged ∙ sym (stands_is c.self.inside.tokens c.args.name c.in-Some.tokens.now is s)) t n
    ∙ ap (λ (ss : InBoxes). stands ss t n) c.self.view_is)

pub returns-in-Some-clause-added : goal.returns-in-Some-clause-added
returns-in-Some-clause-added c =
    let new : List ℕ = c.add.new.self in
    let is = sym c.get_mut.ensures.value ∙ ap option_copied_mut c.in-Some.is in
    let put = on_some c.get_mut.result c.in-Some.tokens c.in-Some.is (c.get_mut.follows.holds new) in
    λ t n.
    joined c.args.name c.self.inside.tokens (c.get_mut.follows.lender new) (Some new) put.finds c.args.token
    (λ s. c.in_ok-add.ensures.added s ∙ ap (λ b. b || (s == c.args.token)) (sym (stands_is c.self.inside.tokens c.args.name c.in-Some.tokens.now is s))) t n
    ∙ ap (λ (ss : InBoxes). stands ss t n || (t == c.args.token && same_name n c.args.name)) c.self.view_is

pub returns-clause-added : goal.returns-clause-added
returns-clause-added c =
    let new : List ℕ = c.add-2.new.self in
    let none = ap (lookup (same_name c.args.name)) c.get_mut.follows.holds-at-none ∙ sym c.get_mut.ensures.value ∙ ap option_copied_mut c.in_default.is in
    λ t n.
    joined c.args.name c.get_mut.follows.lender-at-none c.insert.new.self (Some new) c.in_ok-insert.ensures.put.finds c.args.token
    (λ s. c.in_ok-add-2.ensures.added s ∙ ap (λ (ts : List ℕ). is_token_in s ts || (s == c.args.token)) c.new-tokens.ensures
    ∙ ap (λ b. b || (s == c.args.token)) (sym (none_in c.get_mut.follows.lender-at-none c.args.name none s))) t n
    ∙ ap (λ (ss : InBoxes). stands ss t n || (t == c.args.token && same_name n c.args.name)) (c.get_mut.follows.holds-at-none ∙ c.self.view_is)
