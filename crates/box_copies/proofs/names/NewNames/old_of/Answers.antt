use Rattle.std.proofs.Common.{◌≡◌, ℕ, ◌+◌, ◌-◌, List, length, Some, inl, inr, sym, ap, ◌∙◌, subst, arith}
use Rattle.std.specs.Prelude.{slice_get}
use Rattle.akl_terms.specs.declared.name.Name.{Name}
use Rattle.rational_unify.proofs.Taking.{get-index}
use Rattle.box_copies.proofs.Renamers.{swapping_away, swapping_back}
use Rattle.box_copies.proofs.names.NewNames.old_of.Goals.{then-name-self-via-then-name-self, then-name-self-via-else-name-self+then-name-self-2}
use Rattle.box_copies.proofs.names.NewNames.old_of.Goals as goal

pub returns-then-name-self : goal.returns-then-name-self
returns-then-name-self c = λ away.
    sym (swapping_away c.args.self.now.old.items c.args.self.now.worker c.args.self.now.next c.args.name away (λ own. elim c.then-name-self.branch [
      | then-name-self-via-then-name-self w ↦ absurd (let other = w.if-name-self.true in omega arith)
      | then-name-self-via-else-name-self+then-name-self-2 w ↦ inl (let below = w.if-name-self-2.true in omega arith)
    ]))

pub returns-in-Some : goal.returns-in-Some
returns-in-Some c = λ away.
    let place : ℕ = c.args.name.number - c.args.self.now.next in
    let found : slice_get c.args.self.now.old.items place ≡ Some c.in-Some.old.now =
    subst (λ (l : List Name). slice_get l place ≡ Some c.in-Some.old.now) c.deref.ensures.value (get-index c.deref.result.now place c.in-Some.old.now c.in-Some.ensures.lookup.3.0 ∙ ap Some (sym c.in-Some.ensures.lookup.1)) in
    let worker : c.args.name.worker ≡ c.args.self.now.worker = (let test = c.if-name-self.false in omega arith) in
    let number : c.args.name.number ≡ c.args.self.now.next + place = (let test = c.if-name-self-2.false in omega arith) in
    sym (swapping_back c.args.self.now.old.items c.args.self.now.worker c.args.self.now.next place c.in-Some.old.now c.args.name away (λ i. record { worker = worker i; number = number i }) found)

pub returns-in-None : goal.returns-in-None
returns-in-None c = λ away.
    let items = ap (λ (l : List Name). length l) c.deref.ensures.value in
    let past = c.in-None.ensures.lookup.3 in
    sym (swapping_away c.args.self.now.old.items c.args.self.now.worker c.args.self.now.next c.args.name away (λ own. inr (let test = c.if-name-self-2.false in omega arith)))
