use Rattle.std.proofs.Common.{◌≡◌, false, List, [], Some, None, sym, ap, ◌∙◌}
use Rattle.std.specs.Prelude.{◌&&◌, not, cond}
use Rattle.std.specs.List.{list_any}
use Rattle.std.specs.Option.{option_copied_mut}
use Rattle.std.specs.BTreeMap.{is_at}
use Rattle.std.specs.BTreeSet.{BTreeSet}
use Rattle.std.specs.declared.cmp.Reverse.{Reverse}
use Rattle.akl_terms.specs.declared.name.Var.{Var}
use Rattle.akl_terms.specs.declared.name.Place.{Place}
use Rattle.akl_terms.specs.Names.{same_var}
use Rattle.wake_lists.specs.Waits.{same_place, waits_on, waits_of}
use Rattle.wake_lists.proofs.Keys.{place_is, key, variables_back}
use Rattle.wake_lists.proofs.WaitsKept.{is_some_if, has_is, waits_are, parted, parted_none, but_is, cond_twice, no_keys}
use Rattle.wake_lists.proofs.waiting.Waiting.remove.Goals as goal
use Rattle.wake_lists.proofs.waiting.Waiting.remove.Goals.{in-Some-1, in-None-1}

pub returns-in_default : goal.returns-in_default
returns-in_default c =
    let none = sym c.get_mut.follows.claims.0 ∙ ap option_copied_mut c.in_default.is in
    λ p x.
    ap (λ t. waits_on (waits_of t.entries) p x) c.get_mut.follows.holds-at-none
    ∙ parted_none c.args.variable c.self.inside.places none c.args.place p x
    ∙ ap (λ (ws : List (Var × List Place)). waits_on ws p x && not (same_place p c.args.place && same_var x c.args.variable)) c.self.view_is

pub returns-else-is_empty : goal.returns-else-is_empty
returns-else-is_empty c =
    let old : BTreeSet Place = c.in-Some.places.now in
    let new : BTreeSet Place = c.remove.new.self in
    let is = sym c.get_mut.follows.claims.0 ∙ ap option_copied_mut c.in-Some.is in
    let puts = ((c.get_mut.follows.holds new).3 (is_some_if _ old is)).0 in
    λ p x.
    parted c.args.variable c.self.inside.places (c.get_mut.follows.lender new) (Some new) puts c.args.place
    (λ q. sym (has_is q new) ∙ c.remove.ensures.updates.0 q
    ∙ (λ i. cond (place_is c.args.place q i) false ((sym (waits_are c.args.variable c.self.inside.places old is q)) i))
    ∙ but_is (same_place c.args.place q) (waits_on (waits_of c.self.inside.places.entries) q c.args.variable)) p x
    ∙ ap (λ (ws : List (Var × List Place)). waits_on ws p x && not (same_place p c.args.place && same_var x c.args.variable)) c.self.view_is

pub returns-then-is_empty : goal.returns-then-is_empty
returns-then-is_empty c =
    let old : BTreeSet Place = c.in-Some.places.now in
    let new : BTreeSet Place = c.remove.new.self in
    let is = sym c.get_mut.follows.claims.0 ∙ ap option_copied_mut c.in-Some.is in
    let puts = ((c.get_mut.follows.holds new).3 (is_some_if _ old is)).0 in
    let empty : new.keys ≡ [] = no_keys new (c.is_empty.ensures.0 c.if-is_empty.true) in
    let gone = λ (q : Reverse Var). c.remove-then-is_empty.ensures.updates.0 q ∙ ap (cond (is_at (variables_back (key c.args.variable)) q) None) (puts q) ∙ cond_twice (is_at (variables_back (key c.args.variable)) q) None (Some new) _ in
    let all = λ (p : Place) (x : Var).
    parted c.args.variable c.self.inside.places c.remove-then-is_empty.new.self None gone c.args.place
    (λ q. ap (list_any (same_place q)) (sym empty) ∙ sym (has_is q new) ∙ c.remove.ensures.updates.0 q
    ∙ (λ i. cond (place_is c.args.place q i) false ((sym (waits_are c.args.variable c.self.inside.places old is q)) i))
    ∙ but_is (same_place c.args.place q) (waits_on (waits_of c.self.inside.places.entries) q c.args.variable)) p x
    ∙ ap (λ (ws : List (Var × List Place)). waits_on ws p x && not (same_place p c.args.place && same_var x c.args.variable)) c.self.view_is in
    elim c.match-remove.branch [ in-Some-1 w ↦ rw w.self-is all | in-None-1 w ↦ rw w.self-is all ]
