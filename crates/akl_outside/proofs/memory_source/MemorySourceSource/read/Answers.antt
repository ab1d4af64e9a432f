use Rattle.std.proofs.Common.{rules, arith, length-drop, sym, ◌∙◌, ap, List, ℕ, take, drop}
use Rattle.std.proofs.lemmas.List.{take_rest}
use Rattle.akl_outside.specs.Memory.{SourceState}
use Rattle.akl_outside.proofs.Pieces.{copied_front}
use Rattle.akl_outside.proofs.memory_source.MemorySourceSource.read.Goals as goal

pub returns-clause-bytes : goal.returns-clause-bytes
returns-clause-bytes c =
    let s = c.self.inside in
    let n = c.min-count.result in
    ap (λ (x : SourceState). x.left) (sym c.self.view_is)
    ∙ copied_front s.given n s.bytes.items c.copy_from_slice.new.self _ (omega (arith, length-drop {A = ℕ}))
    (c.copy_from_slice.ensures.after ∙ ap (take n) (take_rest c.deref-2.result.now s.given)
    ∙ ap (λ (x : List ℕ). take n (drop s.given x)) c.deref-2.ensures.value)

pub returns-clause-gives : goal.returns-clause-gives
returns-clause-gives c = (returns-clause-bytes c, search rules)
