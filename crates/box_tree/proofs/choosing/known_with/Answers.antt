use Rattle.std.proofs.Common.{◌≡◌, ℕ, Bool, true, false, if◌then◌else◌, Option, Some, sym, ap, ◌∙◌}
use Rattle.box_tree.specs.Tables.{box_row}
use Rattle.box_tree.specs.Paths.{is_solved_over, known_with}
use Rattle.box_tree.proofs.choosing.known_with.Goals as goal

pub returns-then-branch : goal.returns-then-branch
returns-then-branch c = λ nodes.
    let solved : is_solved_over (Some (box_row nodes c.args.entry.now)) c.in-Some.number ≡ true = sym (c.in_ok-is_solved_over.ensures nodes) ∙ c.if-branch.true in
    sym (ap (λ (latest : Option ℕ). known_with (Some (box_row nodes c.args.entry.now)) c.args.known latest c.args.whole) c.in-Some.is ∙ ap (λ (b : Bool). if b then c.args.whole else c.args.known) solved)

pub returns : goal.returns
returns c = λ nodes.
    let solved : is_solved_over (Some (box_row nodes c.args.entry.now)) c.in-Some.number ≡ false = sym (c.in_ok-is_solved_over.ensures nodes) ∙ c.if-branch.false in
    sym (ap (λ (latest : Option ℕ). known_with (Some (box_row nodes c.args.entry.now)) c.args.known latest c.args.whole) c.in-Some.is ∙ ap (λ (b : Bool). if b then c.args.whole else c.args.known) solved)
