use Rattle.std.proofs.Common.{◌≡◌, ◌∷◌, ◌++◌, [], refl}
use Rattle.akl_lexemes.specs.Brackets.{turn}
use Rattle.akl_lexemes.specs.Brackets.{next_entry}
use Rattle.akl_lexemes.proofs.BracketTable.{table_step}
use Rattle.akl_lexemes.proofs.brackets.Brackets.new.Goals as goal

pub loop-last-preserved : goal.loop-last-preserved
loop-last-preserved c =
    let e : c.push-in-Some.new.self.items ≡ c.loop-last.behind.items ++ next_entry (turn c.in-Some.last.now) c.loop-last.behind.items ∷ [] =
    rw (c.in_ok-push-2.ensures.items, c.next-found.ensures, c.turn_of.ensures, c.as_slice.ensures.value) refl in
    rw e (table_step c.in-Some.last.now c.loop-last.invariant c.in-Some.ensures.some)
