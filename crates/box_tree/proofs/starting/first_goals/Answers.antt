use Rattle.std.proofs.Common.{◌≡◌, ◌+◌, ◌∷◌, ◌++◌, [], length, take, get_or, sym, ap, ◌∙◌, ℕ, List, arith}
use Rattle.std.proofs.lemmas.List.{take_more, length-take-le, take_all}
use Rattle.akl_terms.specs.declared.name.Name.{Name}
use Rattle.akl_terms.specs.declared.program.Code.{Code}
use Rattle.akl_terms.specs.declared.program.Goal.{Goal}
use Rattle.box_tree.specs.Starts.{query_frame, goals_from}
use Rattle.box_tree.proofs.Begins.{goals_more}
use Rattle.box_tree.proofs.starting.first_goals.Goals as goal

pub loop-code-preserved : goal.loop-code-preserved
loop-code-preserved c =
    let before : List Code = take c.loop-code.code-index c.as_slice-code-items.result.now in
    let code : Code = get_or c.as_slice-code-items.result.now c.loop-code.code-index (Code.Equal 0 0) in
    let count : length before ≡ c.loop-code.code-index = length-take-le c.loop-code.code-index c.as_slice-code-items.result.now (omega (arith, c.loop-code-test.true)) in
    let number : c.loop-code.number ≡ 2 + length before = omega (arith, count, c.loop-code.invariant.1) in (
      c.in_ok-push.ensures.items ∙ ap (λ (gs : List (Name × Goal)). gs ++ (record { worker = 0; number = c.loop-code.number }, record { code = code; frame = query_frame }) ∷ []) c.loop-code.invariant.0
          ∙ ap (λ (n : ℕ). goals_from 2 before ++ (record { worker = 0; number = n }, record { code = code; frame = query_frame }) ∷ []) number
          ∙ sym (goals_more 2 before code) ∙ ap (goals_from 2) (sym (take_more c.as_slice-code-items.result.now c.loop-code.code-index (Code.Equal 0 0) c.loop-code-test.true)),
      omega (arith, c.in_ok-number.ensures, c.loop-code.invariant.1),
    )

pub returns : goal.returns
returns c = c.loop-code.invariant.0 ∙ ap (goals_from 2) (take_all c.loop-code.code-index c.as_slice-code-items.result.now c.loop-code-test.false ∙ c.as_slice-code-items.ensures)
