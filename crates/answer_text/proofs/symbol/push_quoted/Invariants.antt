use Rattle.std.proofs.Common.{◌≡◌, ◌++◌, ◌∷◌, flat_map, take}
use Rattle.answer_text.specs.SymbolText.{escaped}
use Rattle.answer_text.proofs.symbol.push_quoted.Given as goal

abbrev pub invariant-loop-byte : goal.invariant-loop-byte
invariant-loop-byte l = l.out.items ≡ l.fn.out.items ++ 39 ∷ flat_map escaped (take l.byte-index l.bytes)
