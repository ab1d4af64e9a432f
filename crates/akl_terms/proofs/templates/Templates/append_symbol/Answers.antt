use Rattle.std.proofs.Common.{ap, rules, refl}
use Rattle.akl_terms.proofs.Numbers.{IsNumbered-more, IsNumbered-distinct}
use Rattle.akl_terms.proofs.templates.Templates.append_symbol.Goals as goal
use Rattle.akl_terms.proofs.templates.Templates.append_symbol.Goals.{in-Ok, in-Err}

pub invariant_of-self-in-Ok : goal.invariant_of-self-in-Ok
invariant_of-self-in-Ok c =
    IsNumbered-more c.self.inside _ c.in_ok-key.key c.len-number.result c.self.invariant refl
    (rw (c.in_ok-push.ensures.items, c.in_ok-symbol.ensures, c.in_ok-key.ensures.ok) refl)
    (search rules)
    (rw (ap (λ t. t.symbols) c.self.view_is) c.requires.room)
    (λ k e. c.requires.absent.absent k (rw (← ap (λ t. t.symbols) c.self.view_is, ← c.in_ok-key.ensures.ok) e))
    c.in-Ok.ensures.updates

pub returns-clause-ok : goal.returns-clause-ok
returns-clause-ok c = elim c.match-insert.branch [
  | in-Ok w ↦ rw (w.self-is, w.result-is) (record {
    next = rw (← ap (λ t. t.symbols) c.self.view_is) (search rules);
    symbols = rw (← c.self.view_is, c.in_ok-push.ensures.items, c.in_ok-symbol.ensures) refl;
    distinct = IsNumbered-distinct (record { nodes = c.self.inside.nodes; symbols = c.push.new.self; numbers = c.insert.new.self })
        (IsNumbered-more c.self.inside _ c.in_ok-key.key c.len-number.result c.self.invariant refl
        (rw (c.in_ok-push.ensures.items, c.in_ok-symbol.ensures, c.in_ok-key.ensures.ok) refl)
        (search rules)
        (rw (ap (λ t. t.symbols) c.self.view_is) c.requires.room)
        (λ k e. c.requires.absent.absent k (rw (← ap (λ t. t.symbols) c.self.view_is, ← c.in_ok-key.ensures.ok) e))
        w.in-Ok.ensures.updates);
  })
  | in-Err w ↦ rw w.result-is tt
]
