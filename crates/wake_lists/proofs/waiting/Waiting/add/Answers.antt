use Rattle.std.proofs.Common.{Bool, true, false, List, Some, sym, ap, ◌∙◌}
use Rattle.std.specs.Prelude.{◌||◌, ◌&&◌, cond}
use Rattle.std.specs.List.{list_any}
use Rattle.std.specs.Option.{option_copied_mut}
use Rattle.std.specs.BTreeSet.{BTreeSet}
use Rattle.akl_terms.specs.declared.name.Var.{Var}
use Rattle.akl_terms.specs.declared.name.Place.{Place}
use Rattle.akl_terms.specs.Names.{same_var}
use Rattle.wake_lists.specs.Waits.{same_place, waits_on, waits_of}
use Rattle.wake_lists.proofs.Keys.{place_is}
use Rattle.wake_lists.proofs.WaitsKept.{on_err, is_some_if, has_is, waits_are, waits_none, unmoved, joined, or_is}
use Rattle.wake_lists.proofs.waiting.Waiting.add.Goals as goal

pub returns-in_err-insert-clause-unchanged : goal.returns-in_err-insert-clause-unchanged
returns-in_err-insert-clause-unchanged c =
    let old : BTreeSet Place = c.in-Some.places.now in
    let new : BTreeSet Place = c.insert.new.self in
    let is = sym c.get_mut.follows.claims.0 ∙ ap option_copied_mut c.in-Some.is in
    let puts = ((c.get_mut.follows.holds new).3 (is_some_if _ old is)).0 in
    on_err c.from_residual.result (λ p x.
    unmoved c.args.variable c.self.inside.places (c.get_mut.follows.lender new) (Some new) puts
    (λ q. ap (list_any (same_place q)) c.in_err-insert.ensures.err ∙ sym (has_is q old) ∙ sym (waits_are c.args.variable c.self.inside.places old is q)) p x
    ∙ ap (λ (ws : List (Var × List Place)). waits_on ws p x) c.self.view_is)

pub returns-in-Some-clause-added : goal.returns-in-Some-clause-added
returns-in-Some-clause-added c =
    let old : BTreeSet Place = c.in-Some.places.now in
    let new : BTreeSet Place = c.insert.new.self in
    let is = sym c.get_mut.follows.claims.0 ∙ ap option_copied_mut c.in-Some.is in
    let puts = ((c.get_mut.follows.holds new).3 (is_some_if _ old is)).0 in
    λ p x.
    joined c.args.variable c.self.inside.places (c.get_mut.follows.lender new) (Some new) puts c.args.place
    (λ q. sym (has_is q new) ∙ c.in_ok-insert.ensures.updates.0 q
    ∙ (λ i. cond (place_is c.args.place q i) true ((sym (waits_are c.args.variable c.self.inside.places old is q)) i))
    ∙ or_is (same_place c.args.place q) (waits_on (waits_of c.self.inside.places.entries) q c.args.variable)) p x
    ∙ ap (λ (ws : List (Var × List Place)). waits_on ws p x || (same_place p c.args.place && same_var x c.args.variable)) c.self.view_is

pub returns-clause-added : goal.returns-clause-added
returns-clause-added c =
    let new : BTreeSet Place = c.insert-2.new.self in
    let none = sym c.get_mut.follows.claims.0 ∙ ap option_copied_mut c.in_default.is in
    let puts = c.in_ok-insert-3.ensures.updates.0 in
    λ p x.
    joined c.args.variable c.get_mut.follows.lender-at-none c.insert-3.new.self (Some new) puts c.args.place
    (λ q. sym (has_is q new) ∙ c.in_ok-insert-2.ensures.updates.0 q
    ∙ (λ i. cond (place_is c.args.place q i) true (list_any (λ k. place_is q k i) (c.new-places.ensures.empty i)))
    ∙ or_is (same_place c.args.place q) false
    ∙ ap (λ (b : Bool). same_place c.args.place q || b) (sym (waits_none c.args.variable c.self.inside.places none q) ∙ ap (λ t. waits_on (waits_of t.entries) q c.args.variable) (sym c.get_mut.follows.holds-at-none))) p x
    ∙ ap (λ t. waits_on (waits_of t.entries) p x || (same_place p c.args.place && same_var x c.args.variable)) c.get_mut.follows.holds-at-none
    ∙ ap (λ (ws : List (Var × List Place)). waits_on ws p x || (same_place p c.args.place && same_var x c.args.variable)) c.self.view_is
